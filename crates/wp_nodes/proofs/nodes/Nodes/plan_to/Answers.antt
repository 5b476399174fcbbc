use Rattle.std.proofs.Common.{◌≡◌, ℕ, List, [], ◌∷◌, ◌++◌, reverse, sym, ap, ◌∙◌, append_assoc}
use Rattle.std.proofs.lemmas.List.{reverse-append}
use Rattle.wp_nodes.specs.Links.{FollowLinks, plan_in}
use Rattle.wp_nodes.proofs.PlanLemmas.{plans_follow_links}
use Rattle.wp_nodes.proofs.nodes.Nodes.plan_to.Goals as goal

-- one action more, before those so far
one_more : (front acts : List ℕ) (act : ℕ) → front ++ reverse (acts ++ act ∷ []) ≡ (front ++ act ∷ []) ++ reverse acts
one_more front acts act = ap (λ (l : List ℕ). front ++ l) (reverse-append acts (act ∷ [])) ∙ sym (append_assoc front (act ∷ []) (reverse acts))

pub loop-back-preserved : goal.loop-back-preserved
loop-back-preserved c = record {
  kept = c.in-Some.ensures.parent.1;
  so_far = λ plans follows.
      ap (λ (l : List ℕ). plans c.in-Some.back.parent ++ reverse l) c.in_ok-push.ensures.items
      ∙ one_more (plans c.in-Some.back.parent) c.loop-back.acts.items c.in-Some.back.act
      ∙ ap (λ (l : List ℕ). l ++ reverse c.loop-back.acts.items) (sym (c.in-Some.ensures.link plans follows))
      ∙ c.loop-back.invariant.so_far plans follows;
}

links : (c : goal.After-of_vec) (plans : ℕ → List ℕ) → FollowLinks c.args.self.now.kept plans → c.of_vec.result ≡ plans c.args.number
links c plans follows =
    c.of_vec.ensures ∙ c.reverse.ensures.items
    ∙ ap (λ (l : List ℕ). l ++ reverse c.loop-back.acts.items) (sym (c.in_default.ensures.link plans follows))
    ∙ c.loop-back.invariant.so_far plans follows

pub returns-clause-plan : goal.returns-clause-plan
returns-clause-plan c = links c (plan_in c.args.self.now.kept) (plans_follow_links c.args.self.now c.back_of.ensures.linked)

pub returns-clause-links : goal.returns-clause-links
returns-clause-links c = links c
