use Rattle.std.proofs.Common.{ℕ, suc, arith, ◌≡◌, ◌+◌, ◌++◌, ◌∷◌, drop, map, get_or, sym, ap, ◌∙◌}
use Rattle.std.proofs.Math.Seq.{drop-cons}
use Rattle.wp_plain.specs.Expansion.{unseen}
use Rattle.wp_plain.proofs.UnseenLemmas.{unseen-next}
use Rattle.wp_commit.specs.declared.unseen.Reached.{Reached}
use Rattle.wp_commit.specs.Expansions.{states_of, successors_by}
use Rattle.wp_commit.proofs.unseen.unseen.Goals as goal

pub loop-act-preserved : goal.loop-act-preserved
loop-act-preserved c =
    let acts = c.args.task.now.acts in
    let state = c.args.state.now in
    let numbers = c.as_slice-act-items.result.now in
    let i = c.loop-act.act-index in
    let act = get_or numbers i 0 in
    let kept = states_of c.args.nodes.now.kept in
    let before = c.loop-act.reached.keys in
    let rest = successors_by acts state (drop (i + 1) numbers) in
    let x : Reached ℕ = record { state = c.in_ok-next.next; rest = act } in
    unseen-next (λ y. y.state) kept before c.insert_unseen.new.reached.keys x rest c.in_ok-insert_unseen.ensures
    ∙ ((λ j. before ++ unseen (λ y. y.state) (kept ++ map (λ y. y.state) before) ((let y : Reached ℕ = record { state = c.in_ok-next.ensures j; rest = act } in y) ∷ rest))
    ∙ (ap (λ l. before ++ unseen (λ y. y.state) (kept ++ map (λ y. y.state) before) (successors_by acts state l)) (sym (drop-cons numbers i 0 c.loop-act-test.true ∙ ap (λ k. act ∷ drop k numbers) (let e : suc i ≡ i + 1 = omega arith in e)))
    ∙ c.loop-act.invariant))
