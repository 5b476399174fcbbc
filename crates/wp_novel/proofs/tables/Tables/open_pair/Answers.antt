use Rattle.std.proofs.Common.{◌≡◌, ℕ, ◌+◌, ◌*◌, ◌≤◌, length, sym, ap, ◌∙◌, subst, arith}
use Rattle.wp_novel.specs.NoveltyTables.{NoveltyTables, TablesOver, placed, AreFilled, IsFilled, IsAtHome, counters_of, is_open}
use Rattle.wp_novel.specs.StandsFor.{StandsFor}
use Rattle.wp_novel.proofs.PairLemmas.{Homes, closed_home}
use Rattle.wp_novel.proofs.TableLemmas.{with_homes, filled_more, home_more, stands_more}
use Rattle.wp_novel.proofs.tables.Tables.open_pair.Goals as goal

pub add-requires : goal.add-requires
add-requires g c = closed_home c.self.inside.homes.entries c.args.pair
    (ap (λ (t : TablesOver g.row.P.Denot). is_open (placed g.P.Places.places t) (counters_of c.args.pair)) c.self.view_is ∙ c.requires)

pub invariant_of-self-2 : goal.invariant_of-self-2
invariant_of-self-2 g c =
    let x = c.self.inside in
    let of : Homes → NoveltyTables = with_homes (g.P.Places.places x.index) x.limit x.last x.out.items in
    let tuples : c.len-tuples.result ≡ (g.P.Places.places x.index).len = c.len-tuples.ensures.value in
    let size : c.len.result ≡ length x.homes.entries = c.len.ensures.len in
    let product : c.len.result * c.len-tuples.result ≡ length x.homes.entries * (g.P.Places.places x.index).len = (λ j. size j * tuples j) in
    let filled : IsFilled (g.P.Places.places x.index).width (g.P.Places.places x.index).atoms c.new-home.result =
    subst (λ (w : ℕ). IsFilled w (g.P.Places.places x.index).atoms c.new-home.result) c.width.ensures.value (c.new-home.ensures.filled (g.P.Places.places x.index).atoms) in
    let fits : length x.homes.entries * (g.P.Places.places x.index).len + (g.P.Places.places x.index).len ≤ x.limit = omega (arith, c.if-need-self.false) in (
      subst (λ (homes : Homes). AreFilled (of homes)) (sym c.in_ok-add.ensures.added)
          (filled_more (of x.homes.entries) c.args.pair c.new-home.result c.self.invariant.0 filled fits),
      c.self.invariant.1,
      c.self.invariant.2,
    )

pub returns-clause-home : goal.returns-clause-home
returns-clause-home g c = λ at.
    let x = c.self.inside in
    let of : Homes → NoveltyTables = with_homes (g.P.Places.places x.index) x.limit x.last x.out.items in
    subst (λ (homes : Homes). IsAtHome (of homes)) (sym c.in_ok-add.ensures.added)
    (home_more (of x.homes.entries) c.args.pair c.new-home.result c.new-home.ensures.whole
    (subst (λ (t : TablesOver g.row.P.Denot). IsAtHome (placed g.P.Places.places t)) (sym c.self.view_is) at))

pub returns-clause-stands : goal.returns-clause-stands
returns-clause-stands g c = λ births stands.
    let x = c.self.inside in
    let of : Homes → NoveltyTables = with_homes (g.P.Places.places x.index) x.limit x.last x.out.items in
    subst (λ (homes : Homes). StandsFor (of homes) births) (sym c.in_ok-add.ensures.added)
    (stands_more (of x.homes.entries) c.args.pair c.new-home.result births c.new-home.ensures.unmarked
    (ap (λ (t : TablesOver g.row.P.Denot). is_open (placed g.P.Places.places t) (counters_of c.args.pair)) c.self.view_is ∙ c.requires)
    (subst (λ (t : TablesOver g.row.P.Denot). StandsFor (placed g.P.Places.places t) births) (sym c.self.view_is) stands))
