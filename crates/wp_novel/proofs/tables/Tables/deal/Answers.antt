use Rattle.std.proofs.Common.{◌≡◌, ◌<◌, ℕ, false, List, length, map, is_some, refl, sym, ap, ◌∙◌, subst, arith}
use Rattle.std.specs.Prelude.{IfSome, IsSome}
use Rattle.std.specs.List.{All}
use Rattle.std.proofs.lemmas.List.{length-map}
use Rattle.std.proofs.lemmas.List.Elements.{All-weaker}
use Rattle.wp_novel.specs.Births.{BirthView, numbers_of}
use Rattle.wp_novel.specs.NoveltyTables.{NoveltyTables, TablesOver, placed, AreFilled, IsAtHome, home_of}
use Rattle.wp_novel.specs.StandsFor.{StandsFor}
use Rattle.wp_novel.specs.declared.deal.Share.{Share}
use Rattle.wp_novel.specs.declared.grow.Growth.{Growth}
use Rattle.wp_novel.specs.Jobs.{JobView, IsReady, AreOut, AreDealt}
use Rattle.wp_novel.specs.Dealing.{births_in, AreGiven, AreOver, AreGrowths, IsGrowth, AreGrown}
use Rattle.wp_novel.proofs.JobLemmas.{births_in_share, as_many}
use Rattle.wp_novel.proofs.PairLemmas.{Homes}
use Rattle.wp_novel.proofs.TableLemmas.{with_homes}
use Rattle.wp_novel.proofs.WorkLemmas.{all_over, grown_by, can_lend_all, births_are, dealt_out, filled_dealt, stands_dealt, jobs_some}
use Rattle.wp_novel.proofs.tables.Tables.deal.Given.{Over}
use Rattle.wp_novel.proofs.tables.Tables.deal.Goals as goal
use Rattle.wp_novel.proofs.tables.Tables.deal.Goals.{After-of_vec}

abbrev before : (g : Over) → After-of_vec g → NoveltyTables
before g c = with_homes (g.P.Places.places c.self.inside.index) c.self.inside.limit c.self.inside.last c.self.inside.out.items c.self.inside.homes.entries

abbrev after : (g : Over) → After-of_vec g → NoveltyTables
after g c = with_homes (g.P.Places.places c.self.inside.index) c.self.inside.limit c.self.inside.last c.in_ok-out.out.items c.fill_all.new.homes.entries

abbrev grown : (g : Over) → After-of_vec g → Homes
grown g c = c.grow_all.new.homes.entries

abbrev shares : (g : Over) → After-of_vec g → List Share
shares g c = c.in_ok-shares.shares.items

given : (g : Over) (c : After-of_vec g) → AreGiven (grown g c) c.fill_all.new.homes.entries (map births_in_share (shares g c)) c.of_vec.result
given g c = subst (λ (jobs : List JobView). AreGiven (grown g c) c.fill_all.new.homes.entries (map births_in_share (shares g c)) jobs)
    (sym c.of_vec.ensures) c.fill_all.ensures.given

cut : (g : Over) (c : After-of_vec g) → births_in (shares g c) ≡ c.args.births
cut g c = c.in_ok-shares.ensures.births ∙ c.into_vec-births.ensures

numbers : (g : Over) (c : After-of_vec g) → c.in_ok-out.out.items ≡ numbers_of c.args.births
numbers g c = c.in_ok-out.ensures ∙ ap (λ (l : List BirthView). numbers_of l) (c.deref.ensures.value ∙ c.into_vec-births.ensures)

is_after : (g : Over) (c : After-of_vec g) → record (before g c) { homes = c.fill_all.new.homes.entries; out = numbers_of c.args.births } ≡ after g c
is_after g c =
    ap (λ (out : List ℕ). with_homes (g.P.Places.places c.self.inside.index) c.self.inside.limit c.self.inside.last out c.fill_all.new.homes.entries) (sym (numbers g c))

at_home : (g : Over) (c : After-of_vec g) → IsAtHome (before g c)
at_home g c = subst (λ (t : TablesOver g.row.P.Denot). IsAtHome (placed g.P.Places.places t)) (sym c.self.view_is) c.requires.home

ready : (g : Over) (c : After-of_vec g) → All (IsReady (before g c)) c.args.births
ready g c = subst (λ (t : TablesOver g.row.P.Denot). All (IsReady (placed g.P.Places.places t)) c.args.births) (sym c.self.view_is) c.requires.ready

-- the homes were not changed while growths were made
same : (g : Over) (c : After-of_vec g) → c.growths_for.new.homes.entries ≡ c.self.inside.homes.entries
same g c = c.growths_for.ensures.same

births_same : (g : Over) (c : After-of_vec g) → c.deref-2.result.now ≡ c.args.births
births_same g c = c.deref-2.ensures.value ∙ c.into_vec-births.ensures

over : (g : Over) (c : After-of_vec g) → AreOver (g.P.Places.places c.self.inside.index).atoms c.self.inside.homes.entries c.args.births
over g c = all_over (before g c) c.args.births c.self.invariant.0 (ready g c)

are_grown : (g : Over) (c : After-of_vec g) → AreGrown (g.P.Places.places c.self.inside.index).atoms c.args.births c.self.inside.homes.entries (grown g c)
are_grown g c =
    grown_by (g.P.Places.places c.self.inside.index).atoms c.args.births c.deref-2.result.now c.self.inside.homes.entries c.growths_for.new.homes.entries (grown g c) c.in_ok-growths.growths.items
    (same g c) (births_same g c) (over g c) c.in_ok-growths.ensures.growths c.grow_all.ensures

pub growths_for-requires-clause-over : goal.growths_for-requires-clause-over
growths_for-requires-clause-over g c =
    let x = c.self.inside in
    let t : NoveltyTables = with_homes (g.P.Places.places x.index) x.limit x.last x.out.items x.homes.entries in
    let ready : All (IsReady t) c.args.births = subst (λ (t : TablesOver g.row.P.Denot). All (IsReady (placed g.P.Places.places t)) c.args.births) (sym c.self.view_is) c.requires.ready in
    let births : c.deref-2.result.now ≡ c.args.births = c.deref-2.ensures.value ∙ c.into_vec-births.ensures in
    let goal : (atoms : ℕ) × AreOver atoms x.homes.entries c.deref-2.result.now =
    (t.index.atoms, subst (AreOver t.index.atoms x.homes.entries) (sym births) (all_over t c.args.births c.self.invariant.0 ready)) in goal

pub grow_all-requires : goal.grow_all-requires
grow_all-requires g c =
    let x = c.self.inside in
    let t : NoveltyTables = with_homes (g.P.Places.places x.index) x.limit x.last x.out.items x.homes.entries in
    let atoms : ℕ = t.index.atoms in
    let given = c.deref-2.result.now in
    let growths = c.in_ok-growths.growths.items in
    let ready : All (IsReady t) c.args.births = subst (λ (t : TablesOver g.row.P.Denot). All (IsReady (placed g.P.Places.places t)) c.args.births) (sym c.self.view_is) c.requires.ready in
    let births : given ≡ c.args.births = c.deref-2.ensures.value ∙ c.into_vec-births.ensures in
    let are : AreGrowths atoms given x.homes.entries given growths =
    c.in_ok-growths.ensures.growths atoms (subst (AreOver atoms x.homes.entries) (sym births) (all_over t c.args.births c.self.invariant.0 ready)) in
    subst (λ (homes : Homes). All (λ (h : Growth). IsSome (home_of homes h.pair)) growths) (sym c.growths_for.ensures.same)
    (All-weaker (IsGrowth atoms given x.homes.entries) (λ (h : Growth). IsSome (home_of x.homes.entries h.pair)) (λ h is. ap is_some is.home_is) growths are.each)

pub fill_all-requires-clause-lend : goal.fill_all-requires-clause-lend
fill_all-requires-clause-lend g c =
    let x = c.self.inside in
    let t : NoveltyTables = with_homes (g.P.Places.places x.index) x.limit x.last x.out.items x.homes.entries in
    let shares = c.in_ok-shares.shares.items in
    let ready : All (IsReady t) c.args.births = subst (λ (t : TablesOver g.row.P.Denot). All (IsReady (placed g.P.Places.places t)) c.args.births) (sym c.self.view_is) c.requires.ready in
    let home : IsAtHome t = subst (λ (t : TablesOver g.row.P.Denot). IsAtHome (placed g.P.Places.places t)) (sym c.self.view_is) c.requires.home in
    let births : c.deref-2.result.now ≡ c.args.births = c.deref-2.ensures.value ∙ c.into_vec-births.ensures in
    let are : AreGrown t.index.atoms c.args.births x.homes.entries c.grow_all.new.homes.entries =
    grown_by t.index.atoms c.args.births c.deref-2.result.now x.homes.entries c.growths_for.new.homes.entries c.grow_all.new.homes.entries c.in_ok-growths.growths.items
    c.growths_for.ensures.same births (all_over t c.args.births c.self.invariant.0 ready) c.in_ok-growths.ensures.growths c.grow_all.ensures in
    can_lend_all t c.grow_all.new.homes.entries c.args.births shares home are.grows ready (c.in_ok-shares.ensures.births ∙ c.into_vec-births.ensures)
    (omega (arith, c.in_ok-shares.ensures.count, c.min-count.ensures, c.requires.workers.1))

pub invariant_of-self : goal.invariant_of-self
invariant_of-self g c =
    let x = c.self.inside in (
      subst (λ (homes : Homes). AreFilled (with_homes (g.P.Places.places x.index) x.limit x.last x.out.items homes)) (sym c.growths_for.ensures.same) c.self.invariant.0,
      c.self.invariant.1,
      c.self.invariant.2,
    )

pub invariant_of-self-2 : goal.invariant_of-self-2
invariant_of-self-2 g c = (
  subst AreFilled (is_after g c) (filled_dealt (before g c) (grown g c) c.fill_all.new.homes.entries c.args.births (shares g c) c.of_vec.result c.self.invariant.0 (at_home g c) (are_grown g c)
      (given g c) (cut g c) (ready g c) c.requires.rising
      (subst (λ (t : TablesOver g.row.P.Denot). IfSome t.last (λ last. All (λ b. last < b.node.number) c.args.births)) (sym c.self.view_is) c.requires.later)),
  c.in_ok-back.ensures.items,
  omega (
    arith,
    ap (λ (l : List ℕ). length l) (numbers g c),
    length-map c.args.births (λ (b : BirthView). b.node.number),
    c.in_ok-back.ensures.capacity,
    c.len-2.ensures,
    c.into_vec-births.result.ok.0,
    ap (λ (l : List BirthView). length l) c.into_vec-births.ensures,
  ),
)

pub returns-clause-count : goal.returns-clause-count
returns-clause-count g c =
    omega (
      arith,
      as_many (grown g c) c.fill_all.new.homes.entries (shares g c) c.of_vec.result (given g c),
      c.in_ok-shares.ensures.count,
      c.min-count.ensures,
      c.len.ensures,
      c.into_vec-births.result.ok.0,
      ap (λ (l : List BirthView). length l) c.into_vec-births.ensures,
    )

pub returns-clause-some : goal.returns-clause-some
returns-clause-some g c = jobs_some (shares g c) c.of_vec.result c.in_ok-shares.ensures.roomy (given g c).births

pub returns-clause-births : goal.returns-clause-births
returns-clause-births g c =
    births_are (before g c) (grown g c) c.fill_all.new.homes.entries c.args.births (shares g c) c.of_vec.result c.self.invariant.0 (at_home g c) (are_grown g c) (given g c) (cut g c) (ready g c)

pub returns-clause-out : goal.returns-clause-out
returns-clause-out g c = subst (λ (t : NoveltyTables). AreOut t false c.of_vec.result) (is_after g c)
    (dealt_out (before g c) (grown g c) c.fill_all.new.homes.entries c.args.births (shares g c) c.of_vec.result c.self.invariant.0 (at_home g c) (are_grown g c) (given g c) (cut g c) (ready g c))

pub returns-clause-stands : goal.returns-clause-stands
returns-clause-stands g c = λ births stands.
    subst (λ (t : NoveltyTables). StandsFor t births) (is_after g c)
    (stands_dealt (before g c) (grown g c) c.fill_all.new.homes.entries c.args.births (shares g c) c.of_vec.result c.self.invariant.0 (at_home g c) (are_grown g c) (given g c) (cut g c)
    (ready g c) births (subst (λ (t : TablesOver g.row.P.Denot). StandsFor (placed g.P.Places.places t) births) (sym c.self.view_is) stands))

pub returns-clause-dealt : goal.returns-clause-dealt
returns-clause-dealt g c = subst (λ (t : TablesOver g.row.P.Denot). AreDealt c.of_vec.result (placed g.P.Places.places t) (after g c)) c.self.view_is (record {
  index = refl;
  limit = refl;
  last = refl;
  grown = grown g c;
  grows = (are_grown g c).grows;
  homes = (given g c).homes;
})
