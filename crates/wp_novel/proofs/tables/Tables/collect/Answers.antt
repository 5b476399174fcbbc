use Rattle.std.proofs.Common.{◌≡◌, ℕ, true, [], ◌++◌, List, length, sym, ap, ◌∙◌, subst, arith}
use Rattle.std.specs.List.{All}
use Rattle.wp_novel.specs.Births.{BirthView, nodes_of}
use Rattle.wp_novel.specs.NoveltyTables.{NoveltyTables, TablesOver, placed, AreFilled, IsAtHome}
use Rattle.wp_novel.specs.StandsFor.{last_after, StandsFor}
use Rattle.wp_novel.specs.Jobs.{JobView, AreOut, HomesBecome, Takes, births_of, passes_of}
use Rattle.wp_novel.specs.Dealing.{CanMark}
use Rattle.wp_novel.proofs.TableLemmas.{with_homes}
use Rattle.wp_novel.proofs.WorkLemmas.{can_collect, home_collected, filled_collected, stands_collected}
use Rattle.wp_novel.proofs.tables.Tables.collect.Given.{Over}
use Rattle.wp_novel.proofs.tables.Tables.collect.Goals as goal
use Rattle.wp_novel.proofs.tables.Tables.collect.Goals.{After-into_vec, After-of_vec}

pub join_all-births-requires-clause-passes : goal.join_all-births-requires-clause-passes
join_all-births-requires-clause-passes g c =
    let x = c.self.inside in
    let t : NoveltyTables = with_homes (g.P.Places.places x.index) x.limit x.last x.out.items x.homes.entries in
    let out : AreOut t true c.args.jobs = subst (λ (t : TablesOver g.row.P.Denot). AreOut (placed g.P.Places.places t) true c.args.jobs) (sym c.self.view_is) c.requires in
    subst (λ (jobs : List JobView). All (CanMark x.homes.entries) (passes_of jobs)) (sym c.into_vec.ensures) (can_collect t c.args.jobs out)

become : (g : Over) (c : After-of_vec g) → HomesBecome (Takes (passes_of c.args.jobs)) c.self.inside.homes.entries c.join_all-births.new.homes.entries
become g c = subst (λ (jobs : List JobView). HomesBecome (Takes (passes_of jobs)) c.self.inside.homes.entries c.join_all-births.new.homes.entries)
    c.into_vec.ensures c.join_all-births.ensures.homes

abbrev before : (g : Over) → After-of_vec g → NoveltyTables
before g c = with_homes (g.P.Places.places c.self.inside.index) c.self.inside.limit c.self.inside.last c.self.inside.out.items c.self.inside.homes.entries

abbrev after : (g : Over) → After-of_vec g → NoveltyTables
after g c = with_homes (g.P.Places.places c.self.inside.index) c.self.inside.limit c.last_after-self-inside.result c.clear.new.self.items c.join_all-births.new.homes.entries

-- the last number, and what is out
is_after : (g : Over) (c : After-of_vec g) →
    record (before g c) { homes = c.join_all-births.new.homes.entries; last = last_after (nodes_of (births_of c.args.jobs)) c.self.inside.last; out = [] } ≡ after g c
is_after g c =
    let last : c.last_after-self-inside.result ≡ last_after (nodes_of (births_of c.args.jobs)) c.self.inside.last = c.last_after-self-inside.ensures
    ∙ ap (λ (bs : List BirthView). last_after (nodes_of bs) c.self.inside.last)
    (c.deref.ensures.value ∙ (c.join_all-births.ensures.births ∙ ap (λ (jobs : List JobView). births_of jobs) c.into_vec.ensures)) in
    λ j. with_homes (g.P.Places.places c.self.inside.index) c.self.inside.limit (sym last j) (sym c.clear.ensures.items j) c.join_all-births.new.homes.entries

out_of : (g : Over) (c : After-of_vec g) → AreOut (before g c) true c.args.jobs
out_of g c = subst (λ (t : TablesOver g.row.P.Denot). AreOut (placed g.P.Places.places t) true c.args.jobs) (sym c.self.view_is) c.requires

pub invariant_of-self : goal.invariant_of-self
invariant_of-self g c = (
  subst AreFilled (is_after g c) (filled_collected (before g c) c.join_all-births.new.homes.entries c.args.jobs c.self.invariant.0 (out_of g c) (become g c)),
  ap (λ v. v.items) c.replace-room.ensures.after ∙ c.new.ensures.items,
  omega (arith, ap (λ (l : List ℕ). length l) c.clear.ensures.items),
)

pub returns-clause-home : goal.returns-clause-home
returns-clause-home g c = subst IsAtHome (is_after g c)
    (home_collected (before g c) c.join_all-births.new.homes.entries c.args.jobs c.self.invariant.0 (out_of g c) (become g c))

pub returns-clause-stands : goal.returns-clause-stands
returns-clause-stands g c = λ births stands.
    subst (λ (t : NoveltyTables). StandsFor t (births ++ nodes_of (births_of c.args.jobs))) (is_after g c)
    (stands_collected (before g c) c.join_all-births.new.homes.entries c.args.jobs c.self.invariant.0 (out_of g c) (become g c) births
    (subst (λ (t : TablesOver g.row.P.Denot). StandsFor (placed g.P.Places.places t) births) (sym c.self.view_is) stands))
