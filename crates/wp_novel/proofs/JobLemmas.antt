-- Jobs that are dealt, one after another, and joined again.
use Rattle.std.proofs.Common.{◌≡◌, ◌+◌, ◌<◌, ◌≤◌, cond, Bool, true, false, List, [], ◌∷◌, ◌++◌, length, map, sym, ap, ◌∙◌, subst, append_assoc, append-nil, length-append, arith}
use Rattle.std.specs.Prelude.{Result, IsOk, is_ok}
use Rattle.std.specs.List.{All}
use Rattle.std.proofs.lemmas.Grind.{flat_map-append}
use Rattle.std.proofs.lemmas.List.{get_or_append_left, get_or-append-add, map_push, length-map}
use Rattle.std.proofs.lemmas.List.Elements.{All-push, All-weaker}
use Rattle.wp_novel.specs.Births.{BirthView}
use Rattle.wp_novel.specs.declared.birth.Pair.{Pair}
use Rattle.wp_novel.specs.declared.job.JobPass.{JobPass}
use Rattle.wp_novel.specs.declared.deal.Share.{Share}
use Rattle.wp_novel.specs.NoveltyTables.{HomeView, is_among, pairs_of}
use Rattle.wp_novel.specs.Jobs.{JobView, HomesBecome, Lends, Takes, births_of, passes_of, parts_at}
use Rattle.wp_novel.specs.Dealing.{births_in, CanLend, CanMark, AreGiven, ArePassesFor}
use Rattle.wp_novel.proofs.PairLemmas.{Homes}
use Rattle.wp_novel.proofs.HomeLemmas.{Was, was, become_then, same_pairs}
use Rattle.wp_novel.proofs.PassLemmas.{parts_few, lends_more, takes_more}
use Rattle.wp_novel.proofs.TakingLemmas.{passes_before}

-- ---- parts of lists
pub All-left : {X : Type 0} (P : X → Type 0) (xs ys : List X) → All P (xs ++ ys) → All P xs
All-left P xs ys all = λ k d within. subst P (get_or_append_left xs ys d k within) (all k d (omega (arith, length-append xs ys)))

pub All-right : {X : Type 0} (P : X → Type 0) (xs ys : List X) → All P (xs ++ ys) → All P ys
All-right P xs ys all = λ k d within. subst P (get_or-append-add xs ys k d) (all (length xs + k) d (omega (arith, length-append xs ys)))

pub if_ok : {A E : Type 0} {X : Type 0} (r : Result A E) (before after : X) → IsOk r → cond (is_ok r) after before ≡ after
if_ok r before after ok = ap (λ (b : Bool). cond b after before) ok

-- what comes next goes to what is done
pub moved : {X : Type 0} (done rest all items : List X) (x : X) → done ++ items ≡ all → items ≡ x ∷ rest → (done ++ x ∷ []) ++ rest ≡ all
moved done rest all items x is next = append_assoc done (x ∷ []) rest ∙ (ap (λ l. done ++ l) (sym next) ∙ is)

pub passes_of-push : (jobs : List JobView) (j : JobView) → passes_of (jobs ++ j ∷ []) ≡ passes_of jobs ++ j.passes
passes_of-push jobs j = flat_map-append (λ (x : JobView). x.passes) jobs (j ∷ []) ∙ ap (λ l. passes_of jobs ++ l) (append-nil j.passes)

pub births_of-push : (jobs : List JobView) (j : JobView) → births_of (jobs ++ j ∷ []) ≡ births_of jobs ++ j.births
births_of-push jobs j = flat_map-append (λ (x : JobView). x.births) jobs (j ∷ []) ∙ ap (λ l. births_of jobs ++ l) (append-nil j.births)

-- ---- dealt
abbrev pub births_in_share : Share → List BirthView
births_in_share share = share.births.items

-- there are as many jobs as shares
pub as_many : (old new : Homes) (done : List Share) (jobs : List JobView) → AreGiven old new (map births_in_share done) jobs → length jobs ≡ length done
as_many old new done jobs given =
    sym (length-map jobs (λ (j : JobView). j.births)) ∙ (ap (λ (l : List (List BirthView)). length l) given.births ∙ length-map done births_in_share)

-- a share more can be given
pub can_lend : (old now : Homes) (done rest all items : List Share) (share : Share) (jobs : List JobView) → done ++ items ≡ all → items ≡ share ∷ rest →
    AreGiven old now (map births_in_share done) jobs → CanLend (length all) old (births_in all) → CanLend 1 now share.births.items
can_lend old now done rest all items share jobs is next given can = record {
  opens = All-weaker (λ (b : BirthView). is_among (pairs_of old) b.node.counters ≡ true) (λ (b : BirthView). is_among (pairs_of now) b.node.counters ≡ true)
      (λ b h. ap (λ ps. is_among ps b.node.counters) (same_pairs (Lends (passes_of jobs)) old now given.homes) ∙ h) share.births.items mine;
  parts = λ pair home e.
      let before : Was (Lends (passes_of jobs)) old pair home = was (Lends (passes_of jobs)) old now given.homes pair home e in
      let many : length all < before.0.parts = can.parts pair before.0 before.1 in
      let few : parts_at pair (passes_of jobs) ≤ length jobs = parts_few pair jobs ones in
      let count : length done + length items ≡ length all = sym (length-append done items) ∙ ap (λ (l : List Share). length l) is in
      let more : length items ≡ length (share ∷ rest) = ap (λ (l : List Share). length l) next in
      omega (arith, before.2.parts, as_many old now done jobs given);
}
  where
    ones : All (λ (j : JobView). (p : Pair) → parts_at p j.passes ≤ 1) jobs
    ones = All-weaker (λ (j : JobView). ArePassesFor old j.births j.passes) (λ (j : JobView). (p : Pair) → parts_at p j.passes ≤ 1) (λ j h. h.one) jobs given.passes

    whole : births_in done ++ (share.births.items ++ births_in rest) ≡ births_in all
    whole = ap (λ (l : List Share). births_in done ++ births_in l) (sym next) ∙ (sym (flat_map-append births_in_share done items) ∙ ap births_in is)

    mine : All (λ (b : BirthView). is_among (pairs_of old) b.node.counters ≡ true) share.births.items
    mine = All-left (λ (b : BirthView). is_among (pairs_of old) b.node.counters ≡ true) share.births.items (births_in rest)
        (All-right (λ (b : BirthView). is_among (pairs_of old) b.node.counters ≡ true) (births_in done) (share.births.items ++ births_in rest)
        (subst (All (λ (b : BirthView). is_among (pairs_of old) b.node.counters ≡ true)) (sym whole) can.opens))

-- and is given
pub one_given : (old now later : Homes) (done : List Share) (share : Share) (jobs : List JobView) (j : JobView) → AreGiven old now (map births_in_share done) jobs →
    j.births ≡ share.births.items → j.worked ≡ false → ArePassesFor now j.births j.passes → HomesBecome (Lends j.passes) now later →
    AreGiven old later (map births_in_share (done ++ share ∷ [])) (jobs ++ j ∷ [])
one_given old now later done share jobs j given births unworked passes homes = record {
  births = map_push (λ (x : JobView). x.births) jobs j ∙ ((λ i. given.births i ++ births i ∷ []) ∙ sym (map_push births_in_share done share));
  unworked = All-push (λ (x : JobView). x.worked ≡ false) jobs j given.unworked unworked;
  passes = All-push (λ (x : JobView). ArePassesFor old x.births x.passes) jobs j given.passes
      (passes_before (passes_of jobs) old now j.births j.passes given.homes passes);
  homes = subst (λ (l : List JobPass). HomesBecome (Lends l) old later) (sym (passes_of-push jobs j))
      (become_then (Lends (passes_of jobs)) (Lends j.passes) (Lends (passes_of jobs ++ j.passes)) old now later (lends_more (passes_of jobs) j.passes) given.homes homes);
}

-- ---- joined
pub can_mark : (done : List JobPass) (old now : Homes) → HomesBecome (Takes done) old now → (p : JobPass) → CanMark old p → CanMark now p
can_mark done old now become p can =
    let next = become.homes p.pair can.home can.home_is in
    record {
      home = next.0;
      home_is = next.1;
      table = can.table ∙ sym (ap (λ (h : HomeView). h.table) next.2);
      words = can.words;
      part = can.part;
    }

pub joined : (done more : List JobPass) (old now new : Homes) → HomesBecome (Takes done) old now → HomesBecome (Takes more) now new → HomesBecome (Takes (done ++ more)) old new
joined done more old now new first second = become_then (Takes done) (Takes more) (Takes (done ++ more)) old now new (takes_more done more) first second
