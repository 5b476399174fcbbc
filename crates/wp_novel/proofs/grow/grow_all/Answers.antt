use Rattle.std.proofs.Common.{◌≡◌, ◌+◌, ◌<◌, ℕ, List, [], suc, get_or, sym, subst, arith}
use Rattle.std.specs.Prelude.{IsSome}
use Rattle.std.specs.List.{All}
use Rattle.std.specs.Vec.Iter.{into_iter_items, into_iter_len}
use Rattle.std.proofs.lemmas.List.{nil_from_length}
use Rattle.std.proofs.lemmas.List.Elements.{All-head, All-tail}
use Rattle.std.proofs.lemmas.Map.Made.{IsSome-lookup_same_keys}
use Rattle.wp_novel.specs.declared.grow.Growth.{Growth}
use Rattle.wp_novel.specs.NoveltyTables.{home_of, is_pair}
use Rattle.wp_novel.proofs.GrowthLemmas.{Partly, partly_more, partly_ends}
use Rattle.wp_novel.proofs.grow.grow_all.Goals as goal

pub loop-growth-preserved : goal.loop-growth-preserved
loop-growth-preserved c =
    let now = c.loop-growth.homes.entries in
    let new = c.grow.new.homes.entries in
    let rest = into_iter_items c.next.new.self in
    let there = subst (λ (l : List Growth). All (λ (g : Growth). IsSome (home_of now g.pair)) l) c.in-Some.ensures.steps.0 c.loop-growth.invariant.there in
    record {
      there = λ k d within. (IsSome-lookup_same_keys (is_pair (get_or rest k d).pair) new now c.grow.ensures.pairs).1
          (All-tail (λ (g : Growth). IsSome (home_of now g.pair)) c.in-Some.growth rest there k d within);
      partly = λ atoms births over are. partly_more atoms births c.args.homes.now.entries now new c.in-Some.growth rest c.grow.ensures
          (subst (λ (l : List Growth). Partly atoms births c.args.homes.now.entries now l) c.in-Some.ensures.steps.0 (c.loop-growth.invariant.partly atoms births over are));
    }

pub returns : goal.returns
returns c = λ atoms births over are.
    let none : into_iter_len c.loop-growth.growth-iterator ≡ 0 = c.in-None.ensures.steps.0 in
    let done : into_iter_items c.loop-growth.growth-iterator ≡ [] = nil_from_length (into_iter_items c.loop-growth.growth-iterator) (omega arith) in
    partly_ends atoms births c.args.homes.now.entries c.loop-growth.homes.entries
    (subst (λ (l : List Growth). Partly atoms births c.args.homes.now.entries c.loop-growth.homes.entries l) done (c.loop-growth.invariant.partly atoms births over are))
