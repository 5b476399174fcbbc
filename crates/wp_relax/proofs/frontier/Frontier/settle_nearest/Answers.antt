use Rattle.std.proofs.Common.{subst, List, ℕ, Bool, arith}
use Rattle.wp_relax.specs.Frontier.{IsNearest}
use Rattle.wp_relax.proofs.FrontierLemmas.{popped-within, fewer, dropped, nearest, settles}
use Rattle.wp_relax.proofs.frontier.Frontier.settle_nearest.Goals as goal

pub invariant_of-self : goal.invariant_of-self
invariant_of-self c = (
  c.loop-first.invariant.room,
  settles c.loop-first.self-inside.costs.items c.loop-first.self-inside.settled.items c.loop-first.self-inside.waiting c.pop.new.self
      c.in-Some.first.0 c.in-Some.first.1 c.loop-first.invariant.frontier c.in-Some.ensures.taken c.in-Some.ensures.least,
)

pub returns-then-not-index-clause-nearest : goal.returns-then-not-index-clause-nearest
returns-then-not-index-clause-nearest c =
    subst (λ (f : List ℕ × List Bool). IsNearest f.0 f.1 c.in-Some.first.1)
    (λ i. (c.loop-first.invariant.costs i, c.loop-first.invariant.settled i))
    (nearest c.loop-first.self-inside.costs.items c.loop-first.self-inside.settled.items c.loop-first.self-inside.waiting c.pop.new.self
    c.in-Some.first.0 c.in-Some.first.1 c.loop-first.invariant.frontier c.in-Some.ensures.taken c.in-Some.ensures.least
    c.index.result.now c.index.ensures c.if-not-index.true)

pub loop-first-preserved : goal.loop-first-preserved
loop-first-preserved c = record {
  frontier = dropped c.loop-first.self-inside.costs.items c.loop-first.self-inside.settled.items c.loop-first.self-inside.waiting c.pop.new.self
      c.in-Some.first.0 c.in-Some.first.1 c.loop-first.invariant.frontier c.in-Some.ensures.taken c.in-Some.ensures.least
      c.index.result.now c.index.ensures c.if-not-index.false;
  room = c.loop-first.invariant.room;
  costs = c.loop-first.invariant.costs;
  supporters = c.loop-first.invariant.supporters;
  settled = c.loop-first.invariant.settled;
}

pub index-requires : goal.index-requires
index-requires c =
    let within = popped-within c.loop-first.self-inside.costs.items c.loop-first.self-inside.settled.items c.loop-first.self-inside.waiting
    c.pop.new.self c.in-Some.first.0 c.in-Some.first.1 c.loop-first.invariant.frontier c.in-Some.ensures.taken c.in-Some.ensures.least in
    omega (arith, within, c.loop-first.self-inside.settled.ok)

pub index_mut-requires : goal.index_mut-requires
index_mut-requires c =
    let within = popped-within c.loop-first.self-inside.costs.items c.loop-first.self-inside.settled.items c.loop-first.self-inside.waiting
    c.pop.new.self c.in-Some.first.0 c.in-Some.first.1 c.loop-first.invariant.frontier c.in-Some.ensures.taken c.in-Some.ensures.least in
    omega (arith, within, c.loop-first.self-inside.settled.ok)

pub loop-first-smaller : goal.loop-first-smaller
loop-first-smaller c =
    fewer c.loop-first.self-inside.costs.items c.loop-first.self-inside.settled.items c.loop-first.self-inside.waiting c.pop.new.self
    c.in-Some.first.0 c.in-Some.first.1 c.loop-first.invariant.frontier c.in-Some.ensures.taken c.in-Some.ensures.least
