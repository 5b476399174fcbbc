use Rattle.std.proofs.Common.{◌≡◌, ◌==◌, ◌&&◌, ◌||◌, take, get_or, sym, ap, ◌∙◌, arith}
use Rattle.std.proofs.lemmas.List.Folds.{list_any_more}
use Rattle.wp_task.specs.Set.{has, lists}
use Rattle.wp_task.proofs.SetLemmas.{common_next}
use Rattle.wp_task.proofs.state.State.insert_common.Goals as goal

pub loop-p-preserved : goal.loop-p-preserved
loop-p-preserved c =
    let items = c.as_slice-p-items.result.now in
    let i = c.loop-p.p-index in
    let p = get_or items i 0 in
    let was = c.args.self.now in
    let other = has c.args.other.now in
    record {
      size = c.insert_if-count.ensures.size ∙ c.loop-p.invariant.size;
      flags = λ q.
          let step : has c.insert_if-count.new.self q ≡ (has c.loop-p.self q || ((p == q) && other p)) =
          c.insert_if-count.ensures.set q ∙ ap (λ b. has c.loop-p.self q || ((p == q) && b)) c.has.ensures in
          common_next (has was q) (has c.loop-p.self q) (has c.insert_if-count.new.self q) other (lists (take i items) q) p q
          (c.loop-p.invariant.flags q) step
          ∙ ap (λ b. has was q || (b && other q)) (sym (list_any_more (λ r. r == q) items i 0 c.loop-p-test.true));
      count = omega (arith, c.insert_if-count.ensures.count, c.loop-p.invariant.count);
    }
