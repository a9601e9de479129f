-- Right-aligned texts: each field fits its width, and a line has its bytes.
use mathlib.Core.Path.{◌≡◌, sym, ap, ◌∙◌}
use mathlib.Core.List.{List, [], ◌∷◌, ◌++◌, append_assoc}
use Prim.Native.Nat.{ℕ, suc, ◌+◌, ◌-◌, ◌*◌, ◌/◌, ◌%◌, ◌≤◌, ◌<◌}
use native.Mathlib.Omega.{arith}
use native.Mathlib.Decide.{dec_lt}
use lib.IntN.{ℤ, pos, negsuc, ◌+ℤ◌}
use lib.Signed.{◌≤ℤ◌}
use lib.ListN.{length, get_or, take, drop, length-append, length-replicate, replicate-append-replicate}
use lib.Seq.{sets, sets-eq, take_at, drop_at}
use Rattle.integers.specs.Limits.{TASKS, START, DURATIONS}
use Rattle.integers.proofs.Ints.{ints, up, dn, sumℤ, up_neg, dn_neg}
use Rattle.integers.specs.Texts.{bytes_of}
use Rattle.records.specs.Refusals.{StartFits}
use Rattle.text.specs.DecimalText.{natural, decimal, Puts}
use Rattle.text.proofs.Decimals.{natural_fits, natural_small, natural_large}
use Rattle.text.proofs.PutBytes.{puts_append}
use Rattle.pages.specs.Lines.{LINE, spaces, pad_left, line_end, columns, line_of}

-- ---- how long
pub pad_length : (width : ℕ) (text : List ℕ) → length text ≤ width → length (pad_left width text) ≡ width
unfolding pad_left
pad_length width text h = omega (arith, length-append (spaces (width - length text)) text, length-replicate {A = ℕ} (width - length text) 32)

pub columns_length : (number start end : List ℕ) → length number ≤ 2 → length start ≤ 11 → length end ≤ 11 → length (columns number start end) ≡ LINE
unfolding columns bytes_of
columns_length number start end h i j = simp length-append (omega (arith, pad_length 2 number h, pad_length 11 start i, pad_length 11 end j))

-- ---- each field fits its width
pub task_fits : (task : ℕ) → task < TASKS → length (decimal (pos task)) ≤ 2
unfolding decimal
task_fits task h = natural_fits 1 task (omega arith)

pub decimal_fits : (z : ℤ) → negsuc 999999998 ≤ℤ z → z ≤ℤ pos 999999999 → length (decimal z) ≤ 10
unfolding decimal up dn
decimal_fits (pos n) low high = let m : n < 1000000000 = omega ints in omega (arith, natural_fits 8 n (omega arith))
decimal_fits (negsuc n) low high = let m : suc n < 1000000000 = omega ints in omega (arith, natural_fits 8 (suc n) (omega arith))

pub start_fits : (z : ℤ) → StartFits z → length (decimal z) ≤ 10
unfolding up dn
start_fits z h = decimal_fits z (omega (ints, h.low, up_neg (pos START), dn_neg (pos START))) (omega (ints, h.high))

pub end_fits : (z : ℤ) (d : ℕ) → StartFits z → d ≤ DURATIONS → length (decimal (z +ℤ pos d)) ≤ 10
unfolding up dn
end_fits z d h k =
    decimal_fits (z +ℤ pos d) (omega (ints, h.low, up_neg (pos START), dn_neg (pos START), sumℤ z (pos d))) (omega (ints, h.high, sumℤ z (pos d)))

pub line_length : (task : ℕ) (start : ℤ) (d : ℕ) → task < TASKS → StartFits start → d ≤ DURATIONS → length (line_of task start (start +ℤ pos d)) ≡ LINE
unfolding decimal
line_length task start d h i j = columns_length (natural task) (decimal start) (decimal (start +ℤ pos d)) (task_fits task h) (omega (arith, start_fits start i)) (omega (arith, end_fits start d i j))

-- ---- the first column tells the task
two_digits : (task : ℕ) → task < 100 → 10 ≤ task → natural task ≡ (48 + task / 10) ∷ (48 + task % 10) ∷ []
two_digits task h k = natural_large task k ∙ ap (λ (l : List ℕ). l ++ (48 + task % 10) ∷ []) (natural_small (task / 10) (omega arith))

read_back : (task : ℕ) → task < 100 → (get_or (pad_left 2 (natural task)) 0 0 - 48) * 10 + (get_or (pad_left 2 (natural task)) 1 0 - 48) ≡ task
unfolding pad_left
read_back task h = elim (dec_lt task 10) [
  | yes q ↦ rw (natural_small task q) (omega arith)
  | no q ↦ rw (two_digits task h (omega arith)) (omega arith)
]

columns_front : (number start end : List ℕ) → length number ≤ 2 → take 2 (columns number start end) ≡ pad_left 2 number
unfolding columns
columns_front number start end h = simp append_assoc (take_at (pad_left 2 number) _ 2 (pad_length 2 number h))

-- tasks with the same line are one
pub line_once : (j k : ℕ) (s t e f : ℤ) → j < TASKS → k < TASKS → line_of j s e ≡ line_of k t f → j ≡ k
unfolding decimal
line_once j k s t e f p q same =
    let r : pad_left 2 (natural j) ≡ pad_left 2 (natural k) = sym (columns_front (natural j) (decimal s) (decimal e) (task_fits j p)) ∙ ap (take 2) same
    ∙ columns_front (natural k) (decimal t) (decimal f) (task_fits k q) in
    sym (read_back j (omega arith)) ∙ ap (λ (l : List ℕ). (get_or l 0 0 - 48) * 10 + (get_or l 1 0 - 48)) r ∙ read_back k (omega arith)

-- ---- a text written after spaces, and the last bytes of both, as many as the width
middle : (xs ys zs : List ℕ) (m width : ℕ) → length xs ≡ m → length ys ≡ width → take width (drop m (xs ++ (ys ++ zs))) ≡ ys
middle xs ys zs m width p q = ap (take width) (drop_at xs (ys ++ zs) m p) ∙ take_at ys zs width q

pub after_spaces : (width : ℕ) (text : List ℕ) → length text ≤ width → width ≤ 12 → take width (drop (12 + length text - width) (sets (spaces 24) 12 text)) ≡ pad_left width text
unfolding pad_left
after_spaces width text h k =
    let m : ℕ = 12 + length text - width in
    let s : ℕ = width - length text in
    let rest : List ℕ = drop (12 + length text) (spaces 24) in
    let e : m + s ≡ 12 = omega arith in
    let front : spaces m ++ spaces s ≡ spaces 12 = replicate-append-replicate {A = ℕ} m s 32 ∙ ap (λ (j : ℕ). spaces j) e in
    let parted : sets (spaces 24) 12 text ≡ spaces m ++ (spaces s ++ text ++ rest) =
    sets-eq text (spaces 24) 12 (omega arith)
    ∙ ap (λ (l : List ℕ). l ++ text ++ rest) (sym front)
    ∙ ap (λ (l : List ℕ). l ++ rest) (append_assoc (spaces m) (spaces s) text)
    ∙ append_assoc (spaces m) (spaces s ++ text) rest in
    ap (λ (l : List ℕ). take width (drop m l)) parted
    ∙ middle (spaces m) (spaces s ++ text) rest m width (length-replicate {A = ℕ} m 32) (omega (arith, length-append (spaces s) text, length-replicate {A = ℕ} s 32))

-- the number x, written there, and the part of the text that ends with it
pub right_aligned : {before after l : List ℕ} {at end next : ℕ} (width : ℕ) (x : ℤ) {y : ℤ} → y ≡ x → Puts (spaces 24) l 12 (decimal y) end → length (decimal x) ≤ width → width ≤ 12
    → Puts before after at (take (end - (end - width)) (drop (end - width) l)) next → Puts before after at (pad_left width (decimal x)) next
right_aligned {end = end} width x same p h k q =
    let r = rw same at p in
    let wide : end - (end - width) ≡ width = omega (arith, r.end) in
    let from : end - width ≡ 12 + length (decimal x) - width = omega (arith, r.end) in
    rw (wide, from, r.text, after_spaces width (decimal x) h k) at q

-- ---- the fields of a line, one after the other
pub puts_line : {o₀ o₁ o₂ o₃ o₄ o₅ o₆ : List ℕ} {at a b c d e r : ℕ} (task : ℕ) (start end : ℤ) {x y z : ℤ} → x ≡ pos task → y ≡ start → z ≡ end
    → Puts o₀ o₁ at (pad_left 2 (decimal x)) a → Puts o₁ o₂ a (spaces 1) b → Puts o₂ o₃ b (pad_left 11 (decimal y)) c → Puts o₃ o₄ c (spaces 1) d → Puts o₄ o₅ d (pad_left 11 (decimal z)) e
    → Puts o₅ o₆ e line_end r
    → Puts o₀ o₆ at (line_of task start end) r
unfolding columns decimal
puts_line task start end i j k p q s t u v = puts_append (puts_append (puts_append (puts_append (puts_append (rw i at p) q) (rw j at s)) t) (rw k at u)) v

-- a task's line, its start read back from a machine word
pub puts_at : {before after : List ℕ} {at next : ℕ} (task d : ℕ) {x y : ℤ} → x ≡ y → Puts before after at (line_of task x (x +ℤ pos d)) next → Puts before after at (line_of task y (y +ℤ pos d)) next
puts_at task d e p = rw e at p
