-- What becomes of the homes of open pairs.
use Rattle.std.proofs.Common.{◌≡◌, cond, true, false, Some, is_some, map, refl, sym, ap, ◌∙◌, subst, ⊎_elim}
use Rattle.std.specs.Prelude.{IsSome}
use Rattle.std.specs.Map.{keys_of}
use Rattle.std.proofs.lemmas.Bool.{cases_Bool, cond-true, cond-false}
use Rattle.std.proofs.lemmas.Map.Made.{IsSome-lookup_same_keys}
use Rattle.wp_novel.specs.declared.birth.Pair.{Pair}
use Rattle.wp_novel.specs.NoveltyTables.{HomeView, counters_of, pairs_of, is_pair, home_of, EachHome}
use Rattle.wp_novel.specs.Jobs.{HomesBecome}
use Rattle.wp_novel.proofs.PairLemmas.{Homes, same_pair, some_of, some_same}

abbrev pub Change : Type 1
Change = Pair → HomeView → HomeView → Type 0

pub stay : (R : Change) (homes : Homes) → ((pair : Pair) (home : HomeView) → R pair home home) → HomesBecome R homes homes
stay R homes same = record {
  pairs = refl;
  homes = λ pair home e.
      let goal : (after : HomeView) × (home_of homes pair ≡ Some after) × R pair home after = (home, e, same pair home) in goal;
}

pub become_then : (R S T : Change) (old now new : Homes) → ((pair : Pair) (a b c : HomeView) → R pair a b → S pair b c → T pair a c) →
    HomesBecome R old now → HomesBecome S now new → HomesBecome T old new
become_then R S T old now new join first second = record {
  pairs = second.pairs ∙ first.pairs;
  homes = λ pair home e.
      let b : (after : HomeView) × (home_of now pair ≡ Some after) × R pair home after = first.homes pair home e in
      let c : (after : HomeView) × (home_of new pair ≡ Some after) × S pair b.0 after = second.homes pair b.0 b.1 in
      let goal : (after : HomeView) × (home_of new pair ≡ Some after) × T pair home after = (c.0, c.1, join pair home b.0 c.0 b.2 c.2) in goal;
}

pub become_weaker : (R S : Change) (old new : Homes) → ((pair : Pair) (a b : HomeView) → R pair a b → S pair a b) → HomesBecome R old new → HomesBecome S old new
become_weaker R S old new step become = record {
  pairs = become.pairs;
  homes = λ pair home e.
      let b : (after : HomeView) × (home_of new pair ≡ Some after) × R pair home after = become.homes pair home e in
      let goal : (after : HomeView) × (home_of new pair ≡ Some after) × S pair home after = (b.0, b.1, step pair home b.0 b.2) in goal;
}

-- the home that a pair has after, and what it was before
abbrev pub Was : Change → Homes → Pair → HomeView → Type 0
Was R old pair after = (home : HomeView) × (home_of old pair ≡ Some home) × R pair home after

pub was : (R : Change) (old new : Homes) → HomesBecome R old new → (pair : Pair) (after : HomeView) → home_of new pair ≡ Some after → Was R old pair after
was R old new become pair after e =
    let there : IsSome (home_of old pair) = (IsSome-lookup_same_keys (is_pair pair) new old become.pairs).0 (ap is_some e) in
    let found = some_of (home_of old pair) there in
    let next : (a : HomeView) × (home_of new pair ≡ Some a) × R pair found.0 a = become.homes pair found.0 found.1 in
    let same : next.0 ≡ after = some_same next.0 after (sym next.1 ∙ e) in
    let goal : Was R old pair after = (found.0, found.1, subst (R pair found.0) same next.2) in goal

pub same_pairs : (R : Change) (old new : Homes) → HomesBecome R old new → pairs_of new ≡ pairs_of old
same_pairs R old new become = ap (λ keys. map counters_of keys) become.pairs

pub each_after : (R : Change) (P Q : Pair → HomeView → Type 0) (old new : Homes) → HomesBecome R old new →
    ((pair : Pair) (a b : HomeView) → R pair a b → P pair a → Q pair b) → EachHome P old → EachHome Q new
each_after R P Q old new become step each = λ pair after e.
    let before : Was R old pair after = was R old new become pair after e in
    step pair before.0 after before.2 (each pair before.0 before.1)

-- the home of one pair was written
pub written_home : (R : Change) (old new : Homes) (pair : Pair) (before after : HomeView) → keys_of new ≡ keys_of old → home_of old pair ≡ Some before →
    ((q : Pair) → home_of new q ≡ cond (is_pair pair q) (Some after) (home_of old q)) →
    R pair before after → ((q : Pair) (home : HomeView) → is_pair pair q ≡ false → R q home home) → HomesBecome R old new
written_home R old new pair before after keys found updates here other = record {
  pairs = keys;
  homes = λ q home e. ⊎_elim
      (λ (mine : is_pair pair q ≡ true).
      let same : pair ≡ q = same_pair pair q mine in
      let is : before ≡ home = some_same before home (sym found ∙ (ap (home_of old) same ∙ e)) in
      let at : home_of new q ≡ Some after = updates q ∙ cond-true (is_pair pair q) (Some after) (home_of old q) mine in
      let rel : R q home after = subst (λ (p : Pair). R p home after) same (subst (λ (h : HomeView). R pair h after) is here) in
      let goal : (a : HomeView) × (home_of new q ≡ Some a) × R q home a = (after, at, rel) in goal)
      (λ (apart : is_pair pair q ≡ false).
      let at : home_of new q ≡ Some home = updates q ∙ (cond-false (is_pair pair q) (Some after) (home_of old q) apart ∙ e) in
      let goal : (a : HomeView) × (home_of new q ≡ Some a) × R q home a = (home, at, other q home apart) in goal)
      (cases_Bool (is_pair pair q));
}
