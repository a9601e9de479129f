-- The call's refusal goes first, then the room. After that the conflict is the input's, and its numbers are within the limits.
use Prim.Native.Nat.{◌≤◌}
use native.Mathlib.Omega.{arith}
use borrow.Author.Rules.{rules}
use Rattle.integers.specs.Limits.{TASKS}
use Rattle.conflict_pages.proofs.PagedConflicts.{call_refused, few_tasks, room_refused, nothing_found, pageable, page_written}
use Rattle.conflict_pages.proofs.page.conflict_page.Goals.{In_default}
use Rattle.conflict_pages.proofs.page.conflict_page.Goals as goal

few : (c : In_default) → c.args.«record».count ≤ TASKS
few c = search (few_tasks, rules)

pub returns-in-Refused : goal.returns-in-Refused
returns-in-Refused c = search (call_refused, rules)

pub overflow_add-record : goal.overflow_add-record
overflow_add-record c = omega (arith, few c)

pub overflow_mul-record : goal.overflow_mul-record
overflow_mul-record c = omega (arith, few c)

pub returns-then-out-record : goal.returns-then-out-record
returns-then-out-record c = search (room_refused, rules)

pub returns-in-NothingFound : goal.returns-in-NothingFound
returns-in-NothingFound c = search (nothing_found, rules)

pub put_page-requires : goal.put_page-requires
put_page-requires c = search (pageable, rules)

pub returns : goal.returns
returns c = search (page_written, rules)
