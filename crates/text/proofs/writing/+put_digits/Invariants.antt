-- By recursion on n: the digits of its tenth come first, and its last digit after them.
use Rattle.text.proofs.writing.+put_digits.Given as goal

abbrev pub decreases-put_digits : goal.decreases-put_digits
decreases-put_digits l = l.n
