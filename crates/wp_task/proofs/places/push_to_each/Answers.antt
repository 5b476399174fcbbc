use Rattle.std.proofs.Common.{◌≡◌, ◌++◌, ◌∷◌, [], ◌<◌, ℕ, List, length, get_or, ap, ◌∙◌, arith}
use Rattle.std.proofs.lemmas.List.{get_or_read, length-set}
use Rattle.wp_task.proofs.AddersLemmas.{push_at}
use Rattle.wp_task.proofs.places.push_to_each.Goals as goal

pub loop-p-preserved : goal.loop-p-preserved
loop-p-preserved c =
    let numbers = c.args.numbers.now in
    let i = c.loop-p.p-index in
    let now = c.loop-p.places.items in
    let below : get_or numbers i 0 < length c.args.places.now.items = c.requires.below i 0 c.loop-p-test.true in
    let there : get_or numbers i 0 < length now = omega (arith, c.loop-p.invariant.len) in
    let read : c.index_mut.result.now ≡ get_or now (get_or numbers i 0) [] =
    get_or_read now (get_or numbers i 0) c.index_mut.result.now there c.index_mut.ensures.value [] in
    let pushed : c.push.new.self ≡ get_or now (get_or numbers i 0) [] ++ c.args.place ∷ [] =
    c.in_ok-push.ensures ∙ ap (λ (l : List ℕ). l ++ c.args.place ∷ []) read in
    record {
      len = length-set now (get_or numbers i 0) c.push.new.self ∙ c.loop-p.invariant.len;
      value = rw pushed
          (push_at c.args.places.now.items now numbers i c.args.place c.requires.rising c.loop-p-test.true there c.loop-p.invariant.value);
    }
