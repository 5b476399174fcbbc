use Rattle.std.proofs.Common.{◌≡◌, ℕ, Some, is_some, sym, ap, ◌∙◌, subst}
use Rattle.std.specs.Prelude.{IsSome}
use Rattle.std.proofs.lemmas.Bool.{both_ways}
use Rattle.std.proofs.lemmas.Map.Steps.{set_value_same}
use Rattle.wp_novel.specs.declared.birth.Pair.{Pair}
use Rattle.wp_novel.specs.NoveltyTables.{HomeView, IsFilled, counters_of, is_among, pairs_of, is_pair, home_of}
use Rattle.wp_novel.specs.Jobs.{AreHeld}
use Rattle.wp_novel.proofs.PairLemmas.{open_home, pair_of_counters, some_same}
use Rattle.wp_novel.proofs.grow.growth_of.Goals as goal

pub returns-then-holds-clause-same : goal.returns-then-holds-clause-same
returns-then-holds-clause-same c =
    (c.get_mut.follows.holds c.in-Some.home.now).0 ∙ set_value_same (is_pair c.pair-pair.result) c.args.homes.now.entries c.in-Some.home.now (sym c.in-Some.ensures.value)

pub returns-then-holds-clause-none : goal.returns-then-holds-clause-none
returns-then-holds-clause-none c = λ pair home e same.
    let homes = c.args.homes.now.entries in
    let is : pair ≡ c.pair-pair.result = pair_of_counters pair c.pair-pair.result (same ∙ sym c.pair-pair.ensures) in
    let home_is : home ≡ c.in-Some.home.now = some_same home c.in-Some.home.now (sym e ∙ (ap (home_of homes) is ∙ sym c.in-Some.ensures.value)) in
    subst (λ (h : HomeView). AreHeld h.ranking c.args.birth.now.node.state) (sym home_is) (sym c.holds.ensures ∙ c.if-holds.true)

pub growth-requires-clause-whole : goal.growth-requires-clause-whole
growth-requires-clause-whole c = c.requires.whole c.pair-pair.result c.in-Some.home.now (sym c.in-Some.ensures.value)

pub growth-requires-clause-filled : goal.growth-requires-clause-filled
growth-requires-clause-filled c =
    subst (λ (n : ℕ). IsFilled c.in-Some.home.now.ranking.width n c.in-Some.home.now) (sym c.size.ensures)
    (c.requires.over.filled c.pair-pair.result c.in-Some.home.now (sym c.in-Some.ensures.value))

pub returns-in_err-growth-in-Some-clause-same : goal.returns-in_err-growth-in-Some-clause-same
returns-in_err-growth-in-Some-clause-same c =
    (c.get_mut.follows.holds c.growth.new.self).0
    ∙ set_value_same (is_pair c.pair-pair.result) c.args.homes.now.entries c.growth.new.self (sym c.in-Some.ensures.value ∙ sym (ap (λ (h : HomeView). Some h) c.growth.ensures.same))

pub unreachable-requires : goal.unreachable-requires
unreachable-requires c =
    let homes = c.args.homes.now.entries in
    let there : IsSome (home_of homes c.pair-pair.result) = open_home homes c.pair-pair.result (ap (is_among (pairs_of homes)) c.pair-pair.ensures ∙ c.requires.open) in
    both_ways (is_some (home_of homes c.pair-pair.result)) (sym (ap is_some c.in-None.ensures.value)) there

pub returns-clause-same : goal.returns-clause-same
returns-clause-same c =
    (c.get_mut.follows.holds c.growth.new.self).0
    ∙ set_value_same (is_pair c.pair-pair.result) c.args.homes.now.entries c.growth.new.self (sym c.in-Some.ensures.value ∙ sym (ap (λ (h : HomeView). Some h) c.growth.ensures.same))
