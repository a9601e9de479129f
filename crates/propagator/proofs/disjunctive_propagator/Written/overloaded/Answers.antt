-- The tree answers the sum that the reason asks for, and the outcome says where the reason stands and how long it is.
use mathlib.Core.Path.{refl}
use Rattle.propagator.proofs.PostWords.{conflict_done}
use Rattle.propagator.proofs.disjunctive_propagator.Written.overloaded.Goals as goal

pub create_conflict_explanation-end-requires : goal.create_conflict_explanation-end-requires
create_conflict_explanation-end-requires c =
    let pre = c.requires in
    let theta = c.theta.ensures in
    rw (theta.tasks_are, theta.est_is, theta.durations_are, c.sum_of_processing_times-p_theta.ensures c.args.tasks.now.size.inner pre.0) pre.1

pub returns : goal.returns
returns c = λ h.
    let theta = c.theta.ensures in
    conflict_done c.create_conflict_explanation-end.ensures
    (rw (theta.tasks_are, theta.est_is, theta.durations_are, c.sum_of_processing_times-p_theta.ensures c.args.tasks.now.size.inner h) refl) refl c.finished.ensures
