use Rattle.std.proofs.Common.{◌<◌, ◌∙◌, List, ℕ, length, ap, sym, subst}
use Rattle.std.specs.Prelude.{All}
use Rattle.wp_lift.specs.declared.atoms.GroundAtom.{GroundAtom}
use Rattle.wp_lift.specs.Worlds.{among}
use Rattle.wp_task.specs.Set.{set_of}
use Rattle.wp_ground.specs.Tasks.{numbers_of}
use Rattle.wp_ground.proofs.ActLemmas.{numbers-fit, set-of-numbers}
use Rattle.wp_ground.proofs.grounding.opening_state.Goals as goal

pub of-requires : goal.of-requires
of-requires c =
    let atoms = c.args.atoms.now in
    let is = c.in_ok-numbers.ensures ∙ ap (λ (wanted : List GroundAtom). numbers_of atoms (among wanted)) (c.as_slice.ensures ∙ c.opening.ensures) in
    subst (λ (n : ℕ). All (λ (p : ℕ). p < n) c.in_ok-numbers.numbers) (sym c.len-count.ensures.value)
    (subst (All (λ (p : ℕ). p < length atoms)) (sym is) (numbers-fit atoms (among c.args.lifted.now.opening)).below)

pub returns : goal.returns
returns c =
    let atoms = c.args.atoms.now in
    let is = c.in_ok-numbers.ensures ∙ ap (λ (wanted : List GroundAtom). numbers_of atoms (among wanted)) (c.as_slice.ensures ∙ c.opening.ensures) in
    c.in_ok-state.ensures ∙ (λ i. set_of (is i) (c.len-count.ensures.value i)) ∙ set-of-numbers atoms (among c.args.lifted.now.opening)
