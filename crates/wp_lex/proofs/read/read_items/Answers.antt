use Rattle.std.proofs.Common.{◌≡◌, ◌+◌, ◌++◌, refl, sym, subst, ap, ◌∙◌, arith, length}
use Rattle.std.specs.Prelude.{option_to_list}
use Rattle.std.proofs.lemmas.List.{take_rest}
use Rattle.std.proofs.lemmas.Result.{err_from_is_err_and}
use Rattle.wp_lex.specs.Words.{is_commented, class_at}
use Rattle.wp_lex.specs.Places.{place_behind}
use Rattle.wp_lex.specs.Faults.{Explains}
use Rattle.wp_lex.specs.Items.{item_at, items_before}
use Rattle.wp_lex.proofs.Steps.{
  commented_here,
  class_here,
  fault_here,
  item_here,
  explains_from,
  explains_end,
  place_at-more,
  place_at-IsCounted,
  items_before-more,
  fault_from-more,
  fault_from-behind,
}
use Rattle.wp_lex.proofs.read.read_items.Goals as goal

pub returns-in_err-item : goal.returns-in_err-item
returns-in_err-item c =
    let text = c.args.bytes.now in
    let commented : c.is_commented-commented.result ≡ is_commented text (c.loop-i.i + 1) =
    commented_here text c.loop-i.i _ _ _ (omega arith) refl c.loop-i.invariant.commented c.is_commented-commented.ensures in
    let class : c.class_in-class.result ≡ class_at text c.loop-i.i =
    class_here text c.loop-i.i _ _ _ refl commented c.class_in-class.ensures in
    let same = fault_here c.args.source text c.loop-i.i _ _ _ class c.loop-i.invariant.place (take_rest text c.loop-i.i) in
    let p = err_from_is_err_and c.from_residual.result c.from_residual.ensures.1 in
    rw (p.1, p.2) (
    subst (Explains c.in_err-item.field-0.0) c.loop-i.invariant.left
    (explains_from c.args.source text c.loop-i.i c.in_err-item.field-0.0 (omega arith)
    (subst (Explains c.in_err-item.field-0.0) same c.in_err-item.ensures)))

pub behind-place-requires : goal.behind-place-requires
behind-place-requires c = rw c.loop-i.invariant.place (place_at-IsCounted c.args.bytes.now c.loop-i.i (omega arith))

pub loop-i-preserved : goal.loop-i-preserved
loop-i-preserved c =
    let text = c.args.bytes.now in
    let commented : c.is_commented-commented.result ≡ is_commented text (c.loop-i.i + 1) =
    commented_here text c.loop-i.i _ _ _ (omega arith) refl c.loop-i.invariant.commented c.is_commented-commented.ensures in
    let class : c.class_in-class.result ≡ class_at text c.loop-i.i =
    class_here text c.loop-i.i _ _ _ refl commented c.class_in-class.ensures in
    let same = fault_here c.args.source text c.loop-i.i _ _ _ class c.loop-i.invariant.place (take_rest text c.loop-i.i) in
    let item : c.in_ok-item.item ≡ item_at c.args.source text c.loop-i.i =
    c.in_ok-item.ensures.1
    ∙ item_here c.args.source text c.loop-i.i _ _ _ class c.loop-i.invariant.place (take_rest text c.loop-i.i) in
    record {
      commented = commented;
      place = c.behind-place.ensures ∙ (λ j. place_behind (class j) (c.loop-i.invariant.place j))
          ∙ sym (place_at-more text c.loop-i.i);
      items = c.in_ok-push_some.ensures ∙ (λ j. c.loop-i.invariant.items j ++ option_to_list (item j))
          ∙ sym (items_before-more c.args.source text c.loop-i.i);
      left = sym (fault_from-more c.args.source text c.loop-i.i (omega arith) (sym same ∙ c.in_ok-item.ensures.0))
          ∙ c.loop-i.invariant.left;
    }

pub returns-in-Some : goal.returns-in-Some
returns-in-Some c =
    let fault = fault_from-behind c.args.source c.args.bytes.now c.loop-i.i _ (omega arith) c.loop-i.invariant.place in
    explains_end c.in-Some.fault _
    (sym c.loop-i.invariant.left ∙ sym fault ∙ sym c.fault_at_end.ensures ∙ c.in-Some.is)

pub returns-in-None : goal.returns-in-None
returns-in-None c =
    let fault = fault_from-behind c.args.source c.args.bytes.now c.loop-i.i _ (omega arith) c.loop-i.invariant.place in
    let whole : c.loop-i.i ≡ length c.args.bytes.now = omega arith in (
      sym c.loop-i.invariant.left ∙ sym fault ∙ sym c.fault_at_end.ensures ∙ c.in-None.is,
      c.of_vec.ensures ∙ c.loop-i.invariant.items ∙ ap (items_before c.args.source c.args.bytes.now) whole,
    )
