use Rattle.std.proofs.Common.{◌||◌, Bool, sym, ap, ◌∙◌}
use Rattle.std.specs.List.{list_any}
use Rattle.std.specs.Bool.{beq}
use Rattle.std.specs.Cmp.Lexicographic.{pointwise}
use Rattle.wp_plain.proofs.ListLemmas.{list_any-seen}
use Rattle.wp_plain.proofs.repeats.is_repeat.Goals as goal

pub returns-then-is_kept_state : goal.returns-then-is_kept_state
returns-then-is_kept_state c =
    let among = list_any (λ x. pointwise beq c.args.state.now x.state) c.args.fresh.now in
    c.if-is_kept_state.true
    ∙ (ap (λ (b : Bool). b || among) (sym c.if-is_kept_state.true ∙ c.is_kept_state.ensures)
    ∙ sym (list_any-seen (pointwise beq c.args.state.now) c.args.nodes.now c.args.fresh.now))

pub returns-else-is_kept_state : goal.returns-else-is_kept_state
returns-else-is_kept_state c =
    let among = list_any (λ x. pointwise beq c.args.state.now x.state) c.args.fresh.now in
    c.is_child_state.ensures
    ∙ (ap (λ (b : Bool). b || among) (sym c.if-is_kept_state.false ∙ c.is_kept_state.ensures)
    ∙ sym (list_any-seen (pointwise beq c.args.state.now) c.args.nodes.now c.args.fresh.now))
