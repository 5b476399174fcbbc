use Rattle.std.proofs.Common.{◌≡◌, ◌++◌, ◌∷◌, [], ◌≤◌, List, length, refl, ap, subst}
use Rattle.std.specs.List.{All}
use Rattle.wp_succ.specs.declared.growing.Step.{Step}
use Rattle.wp_succ.proofs.ReachedLemmas.{closed, All-front}
use Rattle.wp_succ.proofs.growing.Growing.close.Goals as goal

pub returns-clause-same : goal.returns-clause-same
returns-clause-same c = λ s.
    let it = c.args.self.now in
    let was : it.way.items ≡ c.pop.new.self.items ++ c.in-Some.step ∷ [] = c.in-Some.ensures.items in
    let early : All (λ (x : Step). x.before ≤ length it.nodes.items) (c.pop.new.self.items ++ c.in-Some.step ∷ []) =
    subst (λ (l : List Step). All (λ (x : Step). x.before ≤ length it.nodes.items) l) was c.requires.way in
    closed s it.nodes.items c.push.new.self.items c.pop.new.self.items it.way.items c.in-Some.step
    (record { atom = c.in-Some.step.atom; before = c.in-Some.step.before; acts = c.replace-acts.result })
    it.acts.items c.replace-acts.new.dest.items
    (All-front (length it.nodes.items) c.pop.new.self.items c.in-Some.step early) was c.in_ok-push.ensures.items
    refl (ap (λ v. v.items) c.replace-acts.ensures.value) refl (ap (λ v. v.items) c.replace-acts.ensures.after)
