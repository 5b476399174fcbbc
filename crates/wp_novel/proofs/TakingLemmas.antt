-- Passes that are taken from homes for the births of a job.
use Rattle.std.proofs.Common.{◌≡◌, ◌||◌, ℕ, ◌+◌, ◌-◌, ◌<◌, ◌≤◌, cond, Bool, true, false, List, [], ◌∷◌, ◌++◌, length, Some, refl, sym, ap, ◌∙◌, subst, ⊎_elim, append-nil, length-append, arith}
use Rattle.std.specs.List.{All, list_any}
use Rattle.std.specs.Map.{keys_of}
use Rattle.std.specs.Prelude.{IsSome}
use Rattle.std.proofs.lemmas.Bool.{cases_Bool, cases_lt}
use Rattle.std.proofs.lemmas.List.{length_push, nil_from_length}
use Rattle.std.proofs.lemmas.List.Elements.{All-nil, All-cons, All-head, All-push, All-append, All-weaker}
use Rattle.std.proofs.lemmas.List.Folds.{list_any-append}
use Rattle.wp_novel.specs.Births.{BirthView}
use Rattle.wp_arrive.specs.Seen.{PassView, seen}
use Rattle.wp_novel.specs.declared.birth.Pair.{Pair}
use Rattle.wp_novel.specs.declared.job.JobPass.{JobPass}
use Rattle.wp_novel.specs.NoveltyTables.{HomeView, at_home, counters_of, is_same, is_among, pairs_of, is_pair, home_of, EachHome}
use Rattle.wp_novel.specs.Jobs.{HomesBecome, Lends, parts_at, has_pass, HasWords}
use Rattle.wp_novel.specs.Dealing.{IsGivenOf, ArePassesFor, TakesPass}
use Rattle.wp_novel.proofs.PairLemmas.{Homes, same_pair, is_pair_itself, is_same_itself, is_pair-swapped, open_home}
use Rattle.wp_novel.proofs.HomeLemmas.{Was, stay, was, written_home, same_pairs}
use Rattle.wp_novel.proofs.PassLemmas.{parts_at-append, no_parts, lends_none, parts_at-one}

-- ---- one pass more, or none
-- there is a pass of the pair already
pub takes_again : (pair : Pair) (passes : List JobPass) (homes : Homes) → has_pass passes (counters_of pair) ≡ true → TakesPass pair passes passes homes homes
takes_again pair passes homes there = record {
  more = [];
  is = sym (append-nil passes);
  homes = stay (Lends []) homes lends_none;
  given = All-nil (λ (p : JobPass). (p.pair ≡ pair) × IsGivenOf homes p);
  few = omega arith;
  none_before = λ some. absurd (omega arith);
  covers = λ words. there;
}

-- the pair has no words
pub takes_nothing : (pair : Pair) (passes : List JobPass) (old new : Homes) (before after : HomeView) → keys_of new ≡ keys_of old → home_of old pair ≡ Some before →
    ((q : Pair) → home_of new q ≡ cond (is_pair pair q) (Some after) (home_of old q)) → after ≡ before → before.table.words ≡ 0 →
    TakesPass pair passes passes old new
takes_nothing pair passes old new before after keys found updates same none = record {
  more = [];
  is = sym (append-nil passes);
  homes = written_home (Lends []) old new pair before after keys found updates
      (subst (λ (h : HomeView). Lends [] pair before h) (sym same) (lends_none pair before)) (λ q home apart. lends_none q home);
  given = All-nil (λ (p : JobPass). (p.pair ≡ pair) × IsGivenOf old p);
  few = omega arith;
  none_before = λ some. absurd (omega arith);
  covers = λ words. let some : 0 < before.table.words = words pair before refl found in absurd (omega (arith, none, some));
}

-- a part of the home goes to a new pass
pub takes_one : (pair : Pair) (passes result : List JobPass) (old new : Homes) (before after : HomeView) (pass : PassView) → keys_of new ≡ keys_of old →
    home_of old pair ≡ Some before → ((q : Pair) → home_of new q ≡ cond (is_pair pair q) (Some after) (home_of old q)) →
    pass ≡ seen before.table [] 1 → after ≡ at_home before.ranking before.table before.marks (before.parts - 1) → 1 ≤ before.table.words →
    has_pass passes (counters_of pair) ≡ false → 1 < before.parts → result ≡ passes ++ record { pair = pair; pass = pass } ∷ [] →
    TakesPass pair passes result old new
takes_one pair passes result old new before after pass keys found updates given left words none many is = record {
  more = p ∷ [];
  is = is;
  homes = written_home (Lends (p ∷ [])) old new pair before after keys found updates here (λ q home apart. elsewhere q home apart);
  given = All-cons (λ (x : JobPass). (x.pair ≡ pair) × IsGivenOf old x) p [] (refl, of_home) (All-nil (λ (x : JobPass). (x.pair ≡ pair) × IsGivenOf old x));
  few = omega arith;
  none_before = λ some. none;
  covers = λ some. ap (λ (l : List JobPass). has_pass l (counters_of pair)) is
      ∙ (list_any-append (λ (x : JobPass). is_same (counters_of x.pair) (counters_of pair)) passes (p ∷ [])
      ∙ (ap (λ (b : Bool). has_pass passes (counters_of pair) || (b || false)) (is_same_itself (counters_of pair)) ∙ or_true (has_pass passes (counters_of pair))));
}
  where
    p : JobPass
    p = record { pair = pair; pass = pass }

    or_true : (b : Bool) → (b || (true || false)) ≡ true
    or_true true = refl
    or_true false = refl

    of_home : IsGivenOf old p
    of_home = record { home = before; home_is = found; words = omega (arith, words); given = given }

    here : Lends (p ∷ []) pair before after
    here = record {
      ranking = ap (λ (h : HomeView). h.ranking) left;
      table = ap (λ (h : HomeView). h.table) left;
      marks = ap (λ (h : HomeView). h.marks) left;
      parts =
          let one : parts_at pair (p ∷ []) ≡ pass.parts = parts_at-one p pair true (is_pair_itself pair) in
          let is_one : pass.parts ≡ 1 = ap (λ (h : PassView). h.parts) given in
          let less : after.parts ≡ before.parts - 1 = ap (λ (h : HomeView). h.parts) left in
          omega arith;
    }

    elsewhere : (q : Pair) (home : HomeView) → is_pair pair q ≡ false → Lends (p ∷ []) q home home
    elsewhere q home apart = record {
      ranking = refl;
      table = refl;
      marks = refl;
      parts = let none : parts_at q (p ∷ []) ≡ 0 = parts_at-one p q false (is_pair-swapped q pair ∙ apart) in omega arith;
    }

-- ---- the passes for the births of a job
or_right : (b c : Bool) → c ≡ true → (b || c) ≡ true
or_right true c h = refl
or_right false c h = h

-- a home that has words now had them before
had_words : (passes : List JobPass) (homes now : Homes) → HomesBecome (Lends passes) homes now → (counters : ℕ × ℕ) → HasWords homes counters → HasWords now counters
had_words passes homes now become counters words q home same at =
    let before : Was (Lends passes) homes q home = was (Lends passes) homes now become q home at in
    let some : 0 < before.0.table.words = words q before.0 same before.1 in
    omega (arith, some, ap (λ t. t.words) before.2.table)

-- and what is given of homes now is given of those before
given_before : (passes : List JobPass) (homes now : Homes) → HomesBecome (Lends passes) homes now → (p : JobPass) → IsGivenOf now p → IsGivenOf homes p
given_before passes homes now become p given =
    let before : Was (Lends passes) homes p.pair given.home = was (Lends passes) homes now become p.pair given.home given.home_is in
    record {
      home = before.0;
      home_is = before.1;
      words = omega (arith, given.words, ap (λ t. t.words) before.2.table);
      given = given.given ∙ ap (λ t. seen t [] 1) before.2.table;
    }

pub passes_before : (passes : List JobPass) (homes now : Homes) (births : List BirthView) (given : List JobPass) → HomesBecome (Lends passes) homes now →
    ArePassesFor now births given → ArePassesFor homes births given
passes_before passes homes now births given become are = record {
  given = All-weaker (IsGivenOf now) (IsGivenOf homes) (λ p h. given_before passes homes now become p h) given are.given;
  covers = All-weaker (λ (b : BirthView). HasWords now b.node.counters → has_pass given b.node.counters ≡ true) (λ (b : BirthView). HasWords homes b.node.counters → has_pass given b.node.counters ≡ true)
      (λ b h words. h (had_words passes homes now become b.node.counters words)) births are.covers;
  one = are.one;
  only = are.only;
  few = are.few;
}

abbrev IsNew : Pair → Homes → JobPass → Type 0
IsNew pair homes p = (p.pair ≡ pair) × IsGivenOf homes p

more_parts : (q pair : Pair) (homes : Homes) (more : List JobPass) → All (IsNew pair homes) more → length more ≤ 1 →
    (parts_at q more ≤ 1) × (is_pair q pair ≡ false → parts_at q more ≡ 0)
more_parts q pair homes [] new few = (omega arith, λ apart. refl)
more_parts q pair homes (p ∷ []) new few =
    let is : IsNew pair homes p = All-head (IsNew pair homes) p [] new in
    let one : p.pass.parts ≡ 1 = ap (λ (h : PassView). h.parts) is.1.given in
    let same : is_pair q p.pair ≡ is_pair q pair = ap (is_pair q) is.0 in
    let few : parts_at q (p ∷ []) ≤ 1 = ⊎_elim
    (λ (mine : is_pair q p.pair ≡ true). let e : parts_at q (p ∷ []) ≡ p.pass.parts = parts_at-one p q true mine in omega arith)
    (λ (apart : is_pair q p.pair ≡ false). let e : parts_at q (p ∷ []) ≡ 0 = parts_at-one p q false apart in omega arith)
    (cases_Bool (is_pair q p.pair)) in
    (few, λ apart. parts_at-one p q false (same ∙ apart))
more_parts q pair homes (p ∷ r ∷ more) new few = absurd (omega arith)

pub given_more : (homes now later : Homes) (done : List BirthView) (b : BirthView) (pair : Pair) (passes after : List JobPass) → ArePassesFor homes done passes →
    HomesBecome (Lends passes) homes now → counters_of pair ≡ b.node.counters → TakesPass pair passes after now later → ArePassesFor homes (done ++ b ∷ []) after
given_more homes now later done b pair passes after are become same takes = record {
  given = subst (All (IsGivenOf homes)) (sym takes.is) (All-append (IsGivenOf homes) passes takes.more are.given
      (All-weaker (IsNew pair now) (IsGivenOf homes) (λ p h. given_before passes homes now become p h.1) takes.more takes.given));
  covers = All-push (λ (x : BirthView). HasWords homes x.node.counters → has_pass after x.node.counters ≡ true) done b
      (All-weaker (λ (x : BirthView). HasWords homes x.node.counters → has_pass passes x.node.counters ≡ true)
      (λ (x : BirthView). HasWords homes x.node.counters → has_pass after x.node.counters ≡ true) (λ x h words. still x.node.counters (h words)) done are.covers)
      (λ words. ap (has_pass after) (sym same) ∙ takes.covers (had_words passes homes now become (counters_of pair) (subst (HasWords homes) (sym same) words)));
  one = one;
  only = subst (All Has) (sym takes.is) (All-append Has passes takes.more
      (All-weaker Had Has (λ p h. list_any-append (is_of p) done (b ∷ []) ∙ ap (λ x. x || list_any (is_of p) (b ∷ [])) h) passes are.only)
      (All-weaker (IsNew pair now) Has (λ p h. list_any-append (is_of p) done (b ∷ []) ∙ or_right (list_any (is_of p) done) (list_any (is_of p) (b ∷ [])) (last p h.0)) takes.more takes.given));
  few = omega (arith, ap (λ (l : List JobPass). length l) takes.is, length-append passes takes.more, length_push done b, are.few, takes.few);
}
  where
    is_of : JobPass → BirthView → Bool
    is_of p x = is_same x.node.counters (counters_of p.pair)

    Had : JobPass → Type 0
    Had p = list_any (is_of p) done ≡ true

    Has : JobPass → Type 0
    Has p = list_any (is_of p) (done ++ b ∷ []) ≡ true

    last : (p : JobPass) → p.pair ≡ pair → list_any (is_of p) (b ∷ []) ≡ true
    last p is = ap (λ x. x || false) (ap (is_same b.node.counters) (ap counters_of is ∙ same) ∙ is_same_itself b.node.counters)

    still : (x : ℕ × ℕ) → has_pass passes x ≡ true → has_pass after x ≡ true
    still x h = ap (λ l. has_pass l x) takes.is ∙ (list_any-append (λ (p : JobPass). is_same (counters_of p.pair) x) passes takes.more ∙ ap (λ y. y || has_pass takes.more x) h)

    one : (q : Pair) → parts_at q after ≤ 1
    one q =
        let sum : parts_at q after ≡ parts_at q passes + parts_at q takes.more = ap (λ l. parts_at q l) takes.is ∙ parts_at-append q passes takes.more in
        let more = more_parts q pair now takes.more takes.given takes.few in
        let was_one : parts_at q passes ≤ 1 = are.one q in
        ⊎_elim
        (λ (some : 0 < length takes.more). ⊎_elim
        (λ (mine : is_pair q pair ≡ true).
        let zero : parts_at q passes ≡ 0 = ap (λ k. parts_at k passes) (same_pair q pair mine) ∙ no_parts pair passes (takes.none_before some) in
        omega (arith, more.0))
        (λ (apart : is_pair q pair ≡ false). let zero : parts_at q takes.more ≡ 0 = more.1 apart in omega arith)
        (cases_Bool (is_pair q pair)))
        (λ (none : length takes.more ≤ 0).
        let nothing : takes.more ≡ [] = nil_from_length takes.more (omega arith) in
        let zero : parts_at q takes.more ≡ 0 = ap (λ l. parts_at q l) nothing in
        omega arith)
        (cases_lt 0 (length takes.more))

-- ---- what a birth's pair can give
pub lend_open : (passes : List JobPass) (homes now : Homes) (b : BirthView) (pair : Pair) → HomesBecome (Lends passes) homes now →
    is_among (pairs_of homes) b.node.counters ≡ true → counters_of pair ≡ b.node.counters → IsSome (home_of now pair)
lend_open passes homes now b pair become there same =
    open_home now pair (ap (λ ps. is_among ps (counters_of pair)) (same_pairs (Lends passes) homes now become) ∙ (ap (is_among (pairs_of homes)) same ∙ there))

pub lend_parts : (passes : List JobPass) (homes now : Homes) (pair : Pair) → HomesBecome (Lends passes) homes now → EachHome (λ q home. 1 < home.parts) homes →
    has_pass passes (counters_of pair) ≡ false → EachHome (λ q home. counters_of q ≡ counters_of pair → 1 < home.parts) now
lend_parts passes homes now pair become many none = λ q home e same.
    let before : Was (Lends passes) homes q home = was (Lends passes) homes now become q home e in
    let zero : parts_at q passes ≡ 0 = no_parts q passes (ap (has_pass passes) same ∙ none) in
    let more : 1 < before.0.parts = many q before.0 before.1 in
    omega (arith, before.2.parts)
