use Rattle.std.proofs.Common.{◌≡◌, ◌+◌, length, sym, ap, ◌∙◌, subst, rules}
use Rattle.std.specs.List.{All}
use Rattle.std.specs.Vec.Iter.{into_iter_items}
use Rattle.std.proofs.lemmas.List.Elements.{All-push}
use Rattle.wp_plain.specs.Explored.{numbered}
use Rattle.wp_commit.specs.Newborns.{rest_of}
use Rattle.wp_commit.specs.Entering.{IsFresh}
use Rattle.wp_commit.proofs.BirthLemmas.{births-next}
use Rattle.wp_commit.proofs.EvaluationLemmas.{map-next}
use Rattle.wp_commit.proofs.births.births_of.Goals as goal

pub loop-child-preserved : goal.loop-child-preserved
loop-child-preserved c =
    let s = c.args.searched.now in
    let parent = c.args.parent.now in
    let held = c.loop-child.invariant in
    let done = c.loop-child.births.items in
    let now = c.push.new.self.items in
    let before = into_iter_items c.loop-child.child-iterator in
    let left = into_iter_items c.next.new.self in
    let steps = c.in-Some.ensures.steps.0 in
    let child = c.in-Some.child in
    let b = c.in_ok-birth.birth in
    let count : c.len.result ≡ length done = search rules in
    record {
      births = births-next s.numbered done now b before left child c.in_ok-push.ensures.items steps
          (c.in_ok-birth.ensures.birth ∙ ap (λ n. numbered (s.numbered + n) child) count)
          ∙ held.births;
      fresh = subst (All (IsFresh s parent)) (sym c.in_ok-push.ensures.items) (All-push (IsFresh s parent) done b held.fresh c.in_ok-birth.ensures.fresh);
      rests = map-next rest_of c.loop-child.rests.items c.push-in-loop-child.new.self.items child c.in_ok-birth.rest before left steps
          c.in_ok-push-2.ensures.items c.in_ok-birth.ensures.rest
          ∙ held.rests;
    }
