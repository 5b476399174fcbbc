use Rattle.std.proofs.Common.{◌≡◌, ◌∙◌, List, ap, sym, subst}
use Rattle.wp_lift.specs.declared.atoms.GroundAtom.{GroundAtom}
use Rattle.wp_lift.specs.Worlds.{among}
use Rattle.wp_task.specs.Task.{IsTask}
use Rattle.wp_ground.specs.Tasks.{numbers_of, task_with}
use Rattle.wp_ground.proofs.ActLemmas.{task-fits}
use Rattle.wp_ground.proofs.grounding.task_of.Goals as goal

pub new-requires : goal.new-requires
new-requires c =
    let atoms = c.args.atoms.now in
    let lifted = c.args.lifted.now in
    let goals = c.in_ok-goals.ensures ∙ ap (λ (wanted : List GroundAtom). numbers_of atoms (among wanted)) (c.as_slice.ensures ∙ c.goals.ensures.value) in
    let is : task_with lifted atoms c.args.steps.now ≡ record { atoms = c.len-count.result; init = c.in_ok-init.init; goals = c.in_ok-goals.goals; acts = c.in_ok-acts.acts } =
    sym (λ i. record { atoms = c.len-count.ensures.value i; init = c.in_ok-init.ensures i; goals = goals i; acts = c.in_ok-acts.ensures i }) in
    subst IsTask is (task-fits lifted atoms c.args.steps.now c.len-count.ensures.few c.requires.few)
