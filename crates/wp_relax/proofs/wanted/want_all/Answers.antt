use Rattle.std.proofs.Common.{◌≡◌, ◌<◌, ◌&&◌, ◌||◌, not, ℕ, false, Option, Some, length, replicate, sym, ap, ◌∙◌, subst, arith}
use Rattle.std.specs.List.{All}
use Rattle.std.proofs.lemmas.List.{length-replicate, nil_from_length}
use Rattle.std.proofs.lemmas.List.Elements.{All-pop}
use Rattle.wp_task.specs.Set.{has, lists}
use Rattle.wp_relax.specs.RelaxedPlan.{needs}
use Rattle.wp_relax.proofs.Looking.{looked-first, looked-next, looked-all}
use Rattle.wp_relax.proofs.wanted.want_all.Goals as goal

pub loop-p-init : goal.loop-p-init
loop-p-init c =
    let state = c.args.s.now in
    let goals = c.args.task.now.goals in
    let n = length c.args.wanted.now.items in
    let none : c.unset_all.new.flags.items ≡ replicate n false = c.unset_all.ensures in
    let size : length c.unset_all.new.flags.items ≡ length state =
    ap length none ∙ (length-replicate n false ∙ (c.requires.flags ∙ sym c.requires.state)) in
    let listed : c.as_slice.result.now ≡ goals = c.as_slice.ensures ∙ c.goals.ensures.value in
    record {
      looked = looked-first c.args.task.now.acts goals state c.args.supporters.now c.want.new.wanted.items c.want.new.todo.items n
          (c.want.ensures.size ∙ size)
          (subst (λ (m : ℕ). All (λ p. p < m) c.want.new.todo.items) size c.in_ok-want.ensures.below)
          (λ q. c.in_ok-want.ensures.set q ∙ (λ j. has (none j) q || (lists (listed j) q && not (has state q))))
          (λ q. c.in_ok-want.ensures.todo q ∙ (λ j. lists (c.clear.ensures.items j) q || (has c.want.new.wanted.items q && not (has (none j) q))));
      size = c.want.ensures.size ∙ (ap length none ∙ length-replicate n false);
    }

pub supporter_at-requires : goal.supporter_at-requires
supporter_at-requires c =
    let below : c.in-Some.p < length c.args.s.now =
    (All-pop (λ p. p < length c.args.s.now) c.loop-p.todo.items c.pop.new.self.items (Some c.in-Some.p) c.in-Some.ensures.items c.loop-p.invariant.looked.below).1 in
    omega (arith, c.requires.state, c.requires.size)

pub loop-p-preserved : goal.loop-p-preserved
loop-p-preserved c = record {
  looked = looked-next c.args.task.now.acts c.args.task.now.goals c.args.s.now c.args.supporters.now
      c.loop-p.wanted.items c.want_needs.new.wanted.items c.loop-p.todo.items c.pop.new.self.items c.want_needs.new.todo.items c.in-Some.p
      c.loop-p.invariant.looked c.in-Some.ensures.items c.want_needs.ensures.size c.in_ok-want_needs.ensures.below
      (λ q. c.in_ok-want_needs.ensures.set q
      ∙ ap (λ (o : Option ℕ). has c.loop-p.wanted.items q || (needs c.args.task.now.acts o q && not (has c.args.s.now q))) c.supporter_at.ensures)
      c.in_ok-want_needs.ensures.todo;
  size = c.want_needs.ensures.size ∙ c.loop-p.invariant.size;
}

pub returns-clause-value : goal.returns-clause-value
returns-clause-value c =
    looked-all c.args.task.now.acts c.args.task.now.goals c.args.s.now c.args.supporters.now c.loop-p.wanted.items c.loop-p.todo.items
    c.loop-p.invariant.looked
    (nil_from_length c.loop-p.todo.items (omega (arith, c.in_default.ensures.cases.0, c.loop-p.todo.ok.0)))
