use Rattle.std.proofs.Common.{◌≡◌, ◌==◌, ◌++◌, ◌<◌, ℕ, List, length, sym, ap, ◌∙◌, subst}
use Rattle.std.specs.List.{All}
use Rattle.std.proofs.lemmas.List.Sorted.{IsNonDecreasingBy-from_sort, sum_by-IsPermutation}
use Rattle.wp_task.specs.Task.{applicable_in}
use Rattle.wp_succ.specs.Tree.{times, among, reached_by_count, reached_in, AreApplicable}
use Rattle.wp_succ.proofs.CountLemmas.{once, Rises, Rises-from}
use Rattle.wp_succ.proofs.NeedLemmas.{applicable-is, applicable-below, served-is}
use Rattle.wp_succ.proofs.tree.TreeSuccessors.list.Goals as goal

pub returns-clause-value : goal.returns-clause-value
returns-clause-value c =
    let s = c.args.s.now in
    let needs = c.args.self.now in
    let tree = c.self.inside in
    let sorted = c.sort_unstable.new.self.items in
    let found = c.in_ok-found.found.items in
    let is : found ≡ reached_in s tree =
    c.in_ok-found.ensures ∙ (λ j. c.as_slice-always.ensures.value j ++ among (reached_by_count s (c.as_slice-nodes.ensures.value j)) (length (c.as_slice-nodes.ensures.value j))) in
    let rises : Rises sorted = Rises-from sorted (λ i j order within. IsNonDecreasingBy-from_sort (λ (k : ℕ). k) sorted c.sort_unstable.ensures.sorted i j 0 order within) in
    let are : AreApplicable needs s sorted = λ a.
    sum_by-IsPermutation (λ k. once (k == a)) found sorted c.sort_unstable.ensures.permutation
    ∙ (ap (λ l. times l a) is ∙ subst (λ (l : List (List ℕ)). AreApplicable l s (reached_in s tree)) c.self.view_is (c.self.invariant.whole s) a) in
    c.of_vec.ensures ∙ applicable-is needs c.args.task.now.acts s sorted (served-is needs c.args.task.now.acts c.requires.serves) rises are

pub returns-clause-numbers : goal.returns-clause-numbers
returns-clause-numbers c =
    let acts = c.args.task.now.acts in
    let is : c.of_vec.result ≡ applicable_in acts c.args.s.now = returns-clause-value c in
    subst (λ (l : List ℕ). All (λ (a : ℕ). a < length acts) l) (sym is) (applicable-below acts c.args.s.now)
