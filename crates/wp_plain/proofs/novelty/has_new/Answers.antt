use Rattle.std.proofs.Common.{ℕ, sym, ap, ◌∙◌}
use Rattle.std.specs.List.{list_any}
use Rattle.wp_task.specs.Novelty.{is_new, sets_of}
use Rattle.wp_plain.specs.Nodes.{generated_in}
use Rattle.wp_plain.proofs.TupleLemmas.{list_any-ones}
use Rattle.wp_plain.proofs.novelty.has_new.Goals as goal

pub returns-then-size-eq1 : goal.returns-then-size-eq1
returns-then-size-eq1 c =
    let t = is_new (generated_in c.args.nodes.now) c.args.x.now in
    c.has_new_atom.ensures
    ∙ (sym (list_any-ones t c.args.atoms.now) ∙ ap (λ (i : ℕ). list_any t (sets_of i c.args.atoms.now)) (sym c.if-size-eq1.true))
