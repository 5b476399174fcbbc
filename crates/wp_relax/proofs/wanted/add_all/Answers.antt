use Rattle.std.proofs.Common.{◌≡◌, ◌&&◌, ◌||◌, not, Bool, true, false, None, ℕ, get_or, refl, sym, ap, ◌∙◌}
use Rattle.std.specs.List.{list_any, range_with_len}
use Rattle.wp_task.specs.Set.{has}
use Rattle.wp_relax.specs.RelaxedPlan.{adds}
use Rattle.wp_relax.proofs.FlagLemmas.{list_any-range_more}
use Rattle.wp_relax.proofs.wanted.add_all.Goals as goal

both_lacking : (x y n : Bool) → ((x && n) || (y && n)) ≡ ((x || y) && n)
both_lacking true true true = refl
both_lacking true true false = refl
both_lacking true false true = refl
both_lacking true false false = refl
both_lacking false y n = refl

pub loop-p-preserved : goal.loop-p-preserved
loop-p-preserved c =
    let acts = c.args.task.now.acts in
    let state = c.args.s.now in
    let wanted = c.args.wanted.now in
    let supporters = c.args.supporters.now in
    let p = c.loop-p.p in
    let test : ℕ → ℕ → Bool = λ q k. has wanted k && adds acts (get_or supporters k None) q in
    record {
      size = c.add_if.ensures.size ∙ c.loop-p.invariant.size;
      set = λ q. c.add_if.ensures.set q
          ∙ ((λ j. c.loop-p.invariant.set q j || ((has wanted p && adds acts (c.supporter_at.ensures j) q) && not (has state q)))
          ∙ (both_lacking (list_any (test q) (range_with_len 0 p)) (test q p) (not (has state q))
          ∙ ap (λ (b : Bool). b && not (has state q)) (sym (list_any-range_more (test q) p))));
    }
