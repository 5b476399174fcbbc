use Rattle.std.proofs.Common.{◌≡◌, ◌==◌, ◌||◌, ◌<◌, ◌++◌, ◌∷◌, [], ℕ, max, Bool, false, List, length, get_or, set, sym, ap, ◌∙◌, subst, arith}
use Rattle.std.proofs.lemmas.List.{get_or_read}
use Rattle.wp_task.specs.Set.{has}
use Rattle.wp_mutex.specs.PossiblePairs.{joins}
use Rattle.wp_mutex.specs.WorkList.{Work, Grows}
use Rattle.wp_mutex.proofs.Growing.{join_grows}
use Rattle.wp_mutex.proofs.work.WorkList.join.Goals as goal

pub returns-clause-grows : goal.returns-clause-grows
returns-clause-grows c =
    let xs = c.self.inside.rows.items in
    let ws = c.self.inside.waiting.items in
    let p = c.args.p in
    let q = c.args.q in
    let row = c.insert.new.self in
    let left : p < length xs = subst (λ (w : Work). p < length w.pairs) (sym c.self.view_is) c.requires.left in
    let right : q < length xs = subst (λ (w : Work). q < length w.pairs) (sym c.self.view_is) c.requires.right in
    let at : c.max.result ≡ max p q = c.max.ensures in
    let high : c.max.result < length xs = omega (arith, at, left, right) in
    let read : c.index_mut.result.now ≡ get_or xs (max p q) [] =
    get_or_read xs c.max.result c.index_mut.result.now high c.index_mut.ensures.value [] ∙ ap (λ (i : ℕ). get_or xs i []) at in
    let absent : joins xs p q ≡ false =
    sym (c.if-joins.ensures ∙ ap (λ (l : List (List Bool)). joins l p q) c.as_slice.ensures.value) in
    let old : Work = record { pairs = xs; waiting = ws } in
    let joined : Grows old (record { pairs = set xs (max p q) row; waiting = ws ++ (p, q) ∷ [] }) =
    join_grows xs p q row c.self.invariant.0 left right (c.insert.ensures.size ∙ ap length read)
    (λ k. c.insert.ensures.set k ∙ (λ j. has (read j) k || (c.min.ensures j == k))) ws absent in
    subst (λ (w : Work). Grows w (record { pairs = set xs c.max.result row; waiting = c.push.new.self.items })) c.self.view_is
    (subst (λ (i : ℕ). Grows old (record { pairs = set xs i row; waiting = c.push.new.self.items })) (sym at)
    (subst (λ (l : List (ℕ × ℕ)). Grows old (record { pairs = set xs (max p q) row; waiting = l })) (sym c.in_ok-push.ensures.items) joined))
