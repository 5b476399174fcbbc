use Rattle.std.proofs.Common.{◌≡◌, ◌+◌, ◌++◌, ◌∷◌, [], List, length, sym, ap, ◌∙◌, subst, append_assoc, append-nil, arith}
use Rattle.std.specs.List.{All}
use Rattle.std.proofs.lemmas.List.{length_push}
use Rattle.std.proofs.lemmas.List.Elements.{All-push}
use Rattle.std.proofs.lemmas.Grind.{flat_map-append}
use Rattle.wp_novel.specs.Births.{BirthView}
use Rattle.wp_novel.specs.declared.deal.Share.{Share}
use Rattle.wp_novel.specs.Dealing.{births_in, AreRoomy}
use Rattle.wp_novel.proofs.deal.shares_of.Goals as goal

pub loop-made-preserved : goal.loop-made-preserved
loop-made-preserved c =
    let shares = c.loop-made.shares.items in
    let share = c.in_ok-share.share in
    let rest = c.cut.new.births.items in
    let cut : c.loop-made.births.items ≡ share.births.items ++ rest = c.in_ok-share.ensures.births in
    let items = c.in_ok-push.ensures.items in
    record {
      births = ap (λ (l : List Share). births_in l ++ rest) items
          ∙ (ap (λ (l : List BirthView). l ++ rest) (flat_map-append (λ (s : Share). s.births.items) shares (share ∷ []))
          ∙ (ap (λ (l : List BirthView). (births_in shares ++ l) ++ rest) (append-nil share.births.items)
          ∙ (append_assoc (births_in shares) share.births.items rest
          ∙ (ap (λ (l : List BirthView). births_in shares ++ l) (sym cut) ∙ c.loop-made.invariant.births))));
      made = ap (λ (l : List Share). length l) items ∙ (length_push shares share ∙ ap (λ n. n + 1) c.loop-made.invariant.made);
      roomy = subst (λ (l : List Share). All AreRoomy l) (sym items) (All-push AreRoomy shares share c.loop-made.invariant.roomy c.in_ok-share.ensures.roomy);
      left = omega (arith, c.in_ok-share.ensures.rest);
      within = omega (arith, c.loop-made-test.true);
      none = λ all. c.in_ok-share.ensures.all (omega arith);
    }
