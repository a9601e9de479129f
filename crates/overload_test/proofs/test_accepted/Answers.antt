-- The arrays are sorted and the tree is new, so `read_tasks` may start and its answer is that of the tasks' moments.
use Rattle.overload_test.specs.ReadArrays.{Readable}
use Rattle.overload_test.proofs.NextTask.{readable}
use Rattle.overload_test.proofs.test_accepted.Goals.{After-new-tree}
use Rattle.overload_test.proofs.test_accepted.Goals as goal

-- what each call before the tree left
abbrev ready : (c : After-new-tree) → Readable c.new-tree.result.number_of_internal_nodes c.new-tree.result.nodes c.sort_with_ranks.new.ranks c.sort_numbers.new.order c.task_moments-m.result
ready c = readable _ c.task_moments-m.ensures c.sort_with_ranks.ensures c.sort_numbers.ensures c.new-tree.ensures

pub returns : goal.returns
returns c = c.read_tasks.ensures (ready (goal.at.returns c).After-new-tree)

pub read_tasks-requires : goal.read_tasks-requires
read_tasks-requires c = ready (goal.at.read_tasks-requires c).After-new-tree
