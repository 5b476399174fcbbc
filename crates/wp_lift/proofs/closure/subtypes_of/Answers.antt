use Rattle.std.proofs.Common.{◌≡◌, ℕ, List, Bool, map, fold, length, sym, ap, ◌∙◌, subst}
use Rattle.std.specs.List.{range_with_len}
use Rattle.wp_lift.specs.Typing.{flags_of, pairs_of}
use Rattle.wp_lift.specs.Rows.{IsClosure, IsOrder, IsSquare, marked}
use Rattle.wp_lift.proofs.RowLemmas.{start-square, closed-subtypes}
use Rattle.wp_lift.proofs.closure.subtypes_of.Goals as goal

pub close-requires-clause-square : goal.close-requires-clause-square
close-requires-clause-square c =
    let pairs = pairs_of c.args.types.now c.args.declared.now in
    subst (IsSquare c.in_ok-count.count) (sym (c.mark_all.ensures ∙ ap (λ (rows : List (List Bool)). fold marked rows pairs) c.in_ok-rows.ensures))
    (start-square c.in_ok-count.count pairs)

pub close-requires-clause-order : goal.close-requires-clause-order
close-requires-clause-order c = subst (IsOrder c.in_ok-count.count) (sym c.as_slice-3.ensures.value) c.in_ok-order.ensures

pub returns : goal.returns
returns c =
    let pairs = pairs_of c.args.types.now c.args.declared.now in
    let count : c.in_ok-count.count ≡ length c.args.types.now = c.in_ok-count.ensures ∙ ap length (c.as_slice.ensures ∙ c.names.ensures.value) in
    let start : c.mark_all.new.rows.items ≡ fold marked (map (flags_of (length c.args.types.now)) (range_with_len 0 (length c.args.types.now))) pairs =
    c.mark_all.ensures ∙ ap (λ (rows : List (List Bool)). fold marked rows pairs) c.in_ok-rows.ensures
    ∙ ap (λ (n : ℕ). fold marked (map (flags_of n) (range_with_len 0 n)) pairs) count in
    c.of_vec.ensures
    ∙ closed-subtypes c.args.types.now c.args.declared.now c.close.new.rows.items
    (subst (λ (rows : List (List Bool)). IsClosure (length c.args.types.now) rows c.close.new.rows.items) start
    (subst (λ (n : ℕ). IsClosure n c.mark_all.new.rows.items c.close.new.rows.items) count c.in_ok-close.ensures))
