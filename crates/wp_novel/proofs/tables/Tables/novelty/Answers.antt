use Rattle.std.proofs.Common.{◌≡◌, length, Some, is_some, sym, ap, ◌∙◌, subst}
use Rattle.std.specs.Prelude.{IsSome}
use Rattle.std.proofs.lemmas.Bool.{both_ways}
use Rattle.std.proofs.lemmas.Map.Steps.{set_value_same}
use Rattle.wp_task.specs.Novelty.{novelty_of}
use Rattle.wp_novel.specs.MarkedTuples.{AreCounted}
use Rattle.wp_novel.specs.NoveltyTables.{HomeView, NoveltyTables, TablesOver, placed, AreFilled, IsAtHome, IsOpen, is_among, pairs_of, is_pair, home_of}
use Rattle.wp_novel.specs.StandsFor.{StandsFor, AreMarkedBelow}
use Rattle.wp_novel.proofs.NewTuples.{novelty_is}
use Rattle.wp_novel.proofs.PairLemmas.{Homes, open_home}
use Rattle.wp_novel.proofs.TableLemmas.{with_homes}
use Rattle.wp_novel.proofs.tables.Tables.novelty.Goals as goal

pub unreachable-requires : goal.unreachable-requires
unreachable-requires g c =
    let homes = c.self.inside.homes.entries in
    let there : IsSome (home_of homes c.pair.result) = open_home homes c.pair.result
    (ap (is_among (pairs_of homes)) c.pair.ensures
    ∙ subst (λ (t : TablesOver g.row.P.Denot). IsOpen (placed g.P.Places.places t) c.args.birth.now.node.counters) (sym c.self.view_is) c.requires.pair) in
    both_ways (is_some (home_of homes c.pair.result)) (sym (ap is_some c.in-None.ensures.value)) there

pub least_size-requires-clause-whole : goal.least_size-requires-clause-whole
least_size-requires-clause-whole g c =
    (subst (λ (t : TablesOver g.row.P.Denot). IsAtHome (placed g.P.Places.places t)) (sym c.self.view_is) c.requires.home).whole
    c.pair.result c.in-Some.home.now (sym c.in-Some.ensures.value)

pub least_size-requires-clause-words : goal.least_size-requires-clause-words
least_size-requires-clause-words g c = (c.self.invariant.0.homes c.pair.result c.in-Some.home.now (sym c.in-Some.ensures.value)).words

pub invariant_of-self : goal.invariant_of-self
invariant_of-self g c =
    let x = c.self.inside in
    let of : Homes → NoveltyTables = with_homes (g.P.Places.places x.index) x.limit x.last x.out.items in
    -- what was only looked at is written back as it was
    let same : (c.get_mut.follows.lender c.least_size.new.self).entries ≡ x.homes.entries =
    (c.get_mut.follows.holds c.least_size.new.self).0
    ∙ set_value_same (is_pair c.pair.result) x.homes.entries c.least_size.new.self
    (sym c.in-Some.ensures.value ∙ sym (ap (λ (h : HomeView). Some h) c.least_size.ensures.same)) in
    (subst (λ (homes : Homes). AreFilled (of homes)) (sym same) c.self.invariant.0, c.self.invariant.1, c.self.invariant.2)

pub returns-clause-same : goal.returns-clause-same
returns-clause-same g c =
    let x = c.self.inside in
    let same : (c.get_mut.follows.lender c.least_size.new.self).entries ≡ x.homes.entries =
    (c.get_mut.follows.holds c.least_size.new.self).0
    ∙ set_value_same (is_pair c.pair.result) x.homes.entries c.least_size.new.self
    (sym c.in-Some.ensures.value ∙ sym (ap (λ (h : HomeView). Some h) c.least_size.ensures.same)) in
    ap (λ (homes : Homes). let t : TablesOver g.row.P.Denot = record { index = x.index; limit = x.limit; homes = homes; last = x.last; out = x.out.items } in t) same
    ∙ c.self.view_is

pub returns-clause-value : goal.returns-clause-value
returns-clause-value g c = λ births stands among.
    let x = c.args.birth.now in
    let home = c.in-Some.home.now in
    let inside = c.self.inside in
    let places = g.P.Places.places in
    let t : NoveltyTables = with_homes (places inside.index) inside.limit inside.last inside.out.items inside.homes.entries in
    let found : home_of t.homes c.pair.result ≡ Some home = sym c.in-Some.ensures.value in
    let size : length x.node.state ≡ t.index.atoms =
    subst (λ (u : TablesOver g.row.P.Denot). length x.node.state ≡ (placed places u).index.atoms) (sym c.self.view_is) c.requires.size in
    let counted : AreCounted t.index x.node.state = subst (λ (u : TablesOver g.row.P.Denot). AreCounted (placed places u).index x.node.state) (sym c.self.view_is) c.requires.counted in
    let marked : AreMarkedBelow t x.node.number x = subst (λ (u : TablesOver g.row.P.Denot). AreMarkedBelow (placed places u) x.node.number x) (sym c.self.view_is) c.requires.marked in
    let width : t.index.width ≡ home.ranking.width = sym (c.self.invariant.0.homes c.pair.result home found).width_is in
    let least = c.least_size.ensures.size t.index c.self.invariant.0.apart width size counted (λ tuple place all old. marked c.pair.result home found c.pair.ensures tuple place all old) in
    subst (λ (u : TablesOver g.row.P.Denot). c.least_size.result ≡ novelty_of (placed places u).index.width births x.node) c.self.view_is
    (novelty_is t c.pair.result births x.node home c.least_size.result c.self.invariant.0
    (subst (λ (u : TablesOver g.row.P.Denot). StandsFor (placed places u) births) (sym c.self.view_is) stands)
    c.pair.ensures found size counted c.least_size.ensures.word least)
