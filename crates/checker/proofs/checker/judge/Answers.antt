-- The consequent's first word is its variable; each way out is one case of `judged`.
use Rattle.std.proofs.Common.{◌≡◌, ◌∙◌, pos, length, get_or, SFits, w32, rules, arith}
use Rattle.integers.proofs.Ints.{back}
use Rattle.checker.proofs.Verdicts.{tasks_of, two_sided, variable_right, alone, no_task, no_bound, bound_on}
use Rattle.checker.proofs.checker.judge.Goals.{In-Some, After-nat_of-propagating_task, then-propagating_task-n-via-then-propagating_task-n, then-propagating_task-n-via-else-propagating_task-n+then-not-bounds-propagating_task}
use Rattle.checker.proofs.checker.judge.Goals as goal

pub returns-in_default : goal.returns-in_default
returns-in_default c ds lower upper j =
    let none : length c.args.consequent.now ≡ 0 = omega (arith, c.in_default.ensures.item.3) in
    c.into.ensures ∙ alone j c.args.consequent.now none c.overloaded.result (c.overloaded.ensures (tasks_of ds lower upper) (two_sided ds lower upper) j.bounding)

-- the consequent has a first word
some_words : (c : In-Some) → length c.args.consequent.now ≡ 0 → ⊥
some_words c z = omega (arith, z, c.in-Some.ensures.item.3)

word : (c : In-Some) → c.in-Some.variable.now ≡ get_or c.args.consequent.now 0 (pos 0)
word c = c.in-Some.ensures.item.4 (omega arith) (pos 0)

pub nat_of-propagating_task-requires : goal.nat_of-propagating_task-requires
nat_of-propagating_task-requires c =
    let o = (goal.at.nat_of-propagating_task-requires c).In-Some in
    let fits : SFits w32 c.in-Some.variable.now = search rules in
    rw (back fits, word o) (variable_right c.requires.1 (some_words o))

-- which is its variable
variable : (c : After-nat_of-propagating_task) → SFits w32 c.in-Some.variable.now → pos c.nat_of-propagating_task.result ≡ get_or c.args.consequent.now 0 (pos 0)
variable c fits = c.nat_of-propagating_task.ensures ∙ back fits ∙ word (goal.at.After-nat_of-propagating_task c).In-Some

pub returns-then-propagating_task-n : goal.returns-then-propagating_task-n
returns-then-propagating_task-n c ds lower upper j =
    let o = (goal.at.returns-then-propagating_task-n c).In-Some in
    let fits : SFits w32 c.in-Some.variable.now = search rules in
    let i = c.nat_of-propagating_task.result in
    let z = variable (goal.at.returns-then-propagating_task-n c).After-nat_of-propagating_task fits in
    elim c.then-propagating_task-n.branch [
      | then-propagating_task-n-via-then-propagating_task-n w ↦ no_task j c.args.consequent.now c.requires.1 (some_words o) i z w.if-propagating_task-n.true
      | then-propagating_task-n-via-else-propagating_task-n+then-not-bounds-propagating_task w ↦
          no_bound j c.args.consequent.now c.requires.1 (some_words o) i z w.if-propagating_task-n.false w.if-not-bounds-propagating_task.true
    ]

pub returns : goal.returns
returns c ds lower upper j =
    let o = (goal.at.returns c).In-Some in
    let fits : SFits w32 c.in-Some.variable.now = search rules in
    c.into-2.ensures
    ∙ bound_on j c.args.consequent.now c.requires.1 (some_words o) c.nat_of-propagating_task.result (variable (goal.at.returns c).After-nat_of-propagating_task fits) c.if-propagating_task-n.false
    c.if-not-bounds-propagating_task.false c.implied.result (c.implied.ensures (tasks_of ds lower upper) (two_sided ds lower upper) j.bounding)
