use Rattle.std.proofs.Common.{◌≡◌, [], List, ℕ, Bool, refl, sym, ap, ◌∙◌, subst}
use Rattle.std.specs.Prelude.{replicate, false}
use Rattle.wp_task.specs.declared.track.Mark.{Mark}
use Rattle.wp_task.specs.Task.{goal_counter}
use Rattle.wp_relax.specs.RelaxedPlan.{relaxed_atoms_of}
use Rattle.wp_count.specs.Laws.{IsMarked}
use Rattle.wp_count.proofs.MarkLemmas.{base_marked}
use Rattle.wp_count.proofs.counters.root_of.Goals as goal

pub returns-clause-value : goal.returns-clause-value
returns-clause-value c =
    let task = c.args.task.now in
    let state : c.in_ok-state.state ≡ task.init = c.in_ok-state.ensures ∙ c.init.ensures.value in
    let g : c.unmet_goals.result ≡ goal_counter task.goals task.init = c.unmet_goals.ensures ∙ ap (goal_counter task.goals) state in
    let got : c.in_ok-got.got ≡ replicate task.atoms false = c.in_ok-got.ensures ∙ ap (λ n. replicate n false) c.atoms.ensures.value in
    let track : c.in_ok-track.track ≡ relaxed_atoms_of task.acts task.goals task.init =
    c.in_ok-track.ensures.value ∙ ap (relaxed_atoms_of task.acts task.goals) state in
    λ j. (state j, record { g = g j; r = 0; track = 0; got = got j }, track j)

pub returns-clause-marked : goal.returns-clause-marked
returns-clause-marked c =
    let task = c.args.task.now in
    subst (λ (root : List Bool × Mark × List ℕ). IsMarked task root.0 [] root.1 root.2) (sym (returns-clause-value c))
    (base_marked task task.init [] 0 refl c.atoms.ensures.fits.init_size)
