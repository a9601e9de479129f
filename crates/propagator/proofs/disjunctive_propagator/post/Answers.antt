-- The tree answers the sum that the reason asks for, the explanation writes the reason, and the post's words say where it stands and how long it is.
use mathlib.Core.Path.{refl}
use Rattle.propagator.proofs.PostWords.{reason_few, post_fits, post_done}
use Rattle.propagator.proofs.disjunctive_propagator.post.Goals as goal

pub create_propagation_explanation-end-requires : goal.create_propagation_explanation-end-requires
create_propagation_explanation-end-requires c =
    let pre = c.requires in
    let theta = c.theta.ensures in
    rw (theta.tasks_are, theta.est_is, theta.durations_are, c.sum_of_processing_times-p_theta.ensures c.args.tasks.now.size.inner pre.0) pre.1

pub write_post-requires : goal.write_post-requires
write_post-requires c =
    let a = c.args in
    let pre = c.requires in
    post_fits c.create_propagation_explanation-end.ensures pre.1.known.task pre.2 pre.3
    (reason_few c.theta.result a.i a.new_bound a.lct c.sum_of_processing_times-p_theta.result)

pub returns : goal.returns
returns c = λ h.
    let a = c.args in
    let theta = c.theta.ensures in
    post_done c.create_propagation_explanation-end.ensures
    (rw (theta.tasks_are, theta.est_is, theta.durations_are, c.sum_of_processing_times-p_theta.ensures a.tasks.now.size.inner h) refl) refl refl refl refl
    c.write_post.ensures
