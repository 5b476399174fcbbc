-- Each of the four steps keeps the rule, from any state that meets it.
use Rattle.std.proofs.Common.{◌≡◌, ℕ, zero, suc, ◌<◌, ◌≤◌, ◌^◌, Bool, true, false, List, [], ◌∷◌, ◌++◌, length, get_or, set, sym, refl, append-nil, ap, ◌∙◌, subst, arith, length-set, get_or-set_other, get_or-set_same}
use Prim.Native.Nat.{min}
use Rattle.std.specs.Prelude.{nat_le}
use Rattle.std.specs.Bool.{MatchBool}
use Rattle.std.proofs.lemmas.Bool.Decides.{nat_tests}
use mathlib.Core.Logic.{dite}
use mathlib.Core.Option.{none, some, some-injective, some-ne-none}
use native.Mathlib.Decide.{ℕ_discrete}
use lib.ListN.{get_elem?, replicate}
use Rattle.std.proofs.lemmas.List.{get_or-replicate, length-replicate}
use lib.Seq.{set-get_or}
use Rattle.atomic_table.specs.Table.{State, Me, Act, Valid, step, keeps, carried_after, stepped, opening, Allows, Splits, Joins}
use Rattle.atomic_table.proofs.Lists.{set_again, set_else}
use Rattle.wp_arrive.specs.declared.view.Arrival.{Arrival}
use Rattle.wp_arrive.specs.declared.view.View.{View}
use Rattle.wp_arrive.specs.FirstArrival.{mark, first}
use Rattle.wp_arrive.specs.Rule.{view, whole, spent, one_less, one_part, joined, marks_of, parts_of, IdleIsEmpty, Keeps, AreFirsts, Gains, Repeats, Reads, latest}
use Rattle.wp_arrive.proofs.Firsts.{none_yet, first_le, first_append, gained_here, gained_any, gained_else, first_set, first_gone, first_below, first_snoc, parts_set, parts_snoc, all_mine, idle_set, idle_snoc}

idle_open : (l : List Arrival) → IdleIsEmpty (whole l ∷ [])
idle_open l zero v e z = absurd (let all : 2 ^ 32 ≡ v.parts = ap (λ (y : View). y.parts) (some-injective (whole l) v e) in omega arith)
idle_open l (suc k) v e z = absurd (some-ne-none v (sym e))

-- a table begins with the first arrivals of some marks, and one view that has them and all parts
pub begins : (l : List Arrival) (count : ℕ) (ws : List ℕ) → AreFirsts l count ws → Keeps count (opening {S = ℕ} ws [] (whole l))
begins l count ws are = record {
  words = are.size;
  least = λ t h. are.least t h ∙ ap (λ k. first k t) (sym (append-nil l));
  parts = omega arith;
  idle = idle_open l;
}

-- words that say "none yet" are those of no marks
pub opens : (count : ℕ) (ws : List ℕ) → ws ≡ replicate count none_yet → AreFirsts [] count ws
opens count ws e = record {
  size = ap length e ∙ length-replicate count none_yet;
  least = λ t h. ap (λ (l : List ℕ). get_or l t 0) e ∙ get_or-replicate count t none_yet 0 h;
}

pub marks : (count slots id : ℕ) (me : Me ℕ View) (t n : ℕ) → t < count → n < none_yet → 0 < me.0.parts → Allows (Keeps count) slots id me t (λ x. min x n) (Gains (step slots t n 0 none) me)
marks count slots id me t n near small part s o wide at _ =
    let w : View = view me.0.parts (me.0.marks ++ mark t n ∷ []) in let x : ℕ = get_or s.words t 0 in (
      w,
      keeps,
      tt,
      record {
        words = length-set s.words t (min x n) ∙ o.words;
        least = λ u h. dite (ℕ_discrete u t)
            (λ e. subst (λ (k : ℕ). get_or (set s.words t (min x n)) k 0 ≡ first (marks_of (set s.views id w)) k) (sym e)
            (get_or-set_same s.words t (min x n) 0 (omega (arith, o.words)) ∙ omega (arith, o.least t near, first_set s.views id me.0 w n t at (gained_here me.0.marks t n small))))
            (λ ne. omega (arith, get_or-set_other s.words t u (min x n) 0 ne, o.least u h, first_set s.views id me.0 w none_yet u at (gained_else me.0.marks t u n ne), first_le (marks_of s.views) u));
        parts = omega (arith, parts_set s.views id me.0 w at, o.parts);
        idle = idle_set s.views id w o.idle (λ z. absurd (omega arith));
      },
      refl,
    )

-- a mark that the word need not know of, since the word is not above its number
repeats_low : (count slots id : ℕ) (me : Me ℕ View) (t n : ℕ) → t < count → n < 2 ^ 64 → 0 < me.0.parts → (s : State ℕ View) → Keeps count s →
    get_elem? s.views id ≡ some me.0 → get_or s.words t 0 ≤ n → Keeps count (stepped s t (get_or s.words t 0) id me.1 (view me.0.parts (me.0.marks ++ mark t n ∷ [])) keeps)
repeats_low count slots id me t n near small part s o at low =
    let w : View = view me.0.parts (me.0.marks ++ mark t n ∷ []) in
    record {
      words = length-set s.words t (get_or s.words t 0) ∙ o.words;
      least = λ u h. dite (ℕ_discrete u t)
          (λ e. subst (λ (k : ℕ). get_or (set s.words t (get_or s.words t 0)) k 0 ≡ first (marks_of (set s.views id w)) k) (sym e)
          (get_or-set_same s.words t (get_or s.words t 0) 0 (omega (arith, o.words))
          ∙ omega (arith, low, o.least t near, first_set s.views id me.0 w n t at (gained_any me.0.marks t n (omega arith)))))
          (λ ne. omega (arith, get_or-set_other s.words t u (get_or s.words t 0) 0 ne, o.least u h, first_set s.views id me.0 w none_yet u at (gained_else me.0.marks t u n ne), first_le (marks_of s.views) u));
      parts = omega (arith, parts_set s.views id me.0 w at, o.parts);
      idle = idle_set s.views id w o.idle (λ z. absurd (omega arith));
    }

-- a load leaves what was there
load_same : (count slots id : ℕ) (me : Me ℕ View) (t : ℕ) (s : State ℕ View) → Keeps count s → get_elem? s.views id ≡ some me.0 →
    Keeps count (stepped s t (get_or s.words t 0) id me.1 me.0 keeps)
load_same count slots id me t s o at =
    let same = set_again s.views id me.0 at in
    record {
      words = length-set s.words t (get_or s.words t 0) ∙ o.words;
      least = λ u h. ap (λ (ws : List ℕ). get_or ws u 0) (set-get_or s.words t 0) ∙ o.least u h ∙ ap (λ (vs : List View). first (marks_of vs) u) (sym same);
      parts = ap parts_of same ∙ o.parts;
      idle = idle_set s.views id me.0 o.idle (λ z. o.idle id me.0 at z);
    }

pub repeats : (count slots id : ℕ) (me : Me ℕ View) (t : ℕ) → t < count → latest me.0.marks < 2 ^ 64 → 0 < me.0.parts →
    Allows (Keeps count) slots id me t (λ x. x) (Repeats (step slots t 0 0 none) me)
repeats count slots id me t near small part s o wide at _ = by (nat_le (get_or s.words t 0) (latest me.0.marks)) refl where
  n : ℕ
  n = latest me.0.marks

  x : ℕ
  x = get_or s.words t 0

  w : View
  w = view me.0.parts (me.0.marks ++ mark t n ∷ [])

  gained : Me ℕ View
  gained = (w, me.1)

  low : nat_le x n ≡ true → x ≤ n
  low is = grind (arith, nat_tests)

  by : (b : Bool) → nat_le x n ≡ b → (v : View) × (a : Act ℕ) × Valid s.homes me.1 a × Keeps count (stepped s t x id me.1 v a)
      × Repeats (step slots t 0 0 none) me x (v, carried_after me.1 a)
  by true is = (w, keeps, tt, repeats_low count slots id me t n near small part s o at (low is), subst (λ (b : Bool). MatchBool b (gained ≡ gained) (gained ≡ me)) (sym is) refl)
  by false is = (me.0, keeps, tt, load_same count slots id me t s o at, subst (λ (b : Bool). MatchBool b (me ≡ gained) (me ≡ me)) (sym is) refl)

pub looks : (count slots id : ℕ) (me : Me ℕ View) (t : ℕ) → t < count → Allows (Keeps count) slots id me t (λ x. x) (Reads (step slots t 0 0 none) me)
looks count slots id me t near s o wide at _ =
    let same = set_again s.views id me.0 at in (
      me.0,
      keeps,
      tt,
      record {
        words = length-set s.words t (get_or s.words t 0) ∙ o.words;
        least = λ u h. ap (λ (ws : List ℕ). get_or ws u 0) (set-get_or s.words t 0) ∙ o.least u h ∙ ap (λ (vs : List View). first (marks_of vs) u) (sym same);
        parts = ap parts_of same ∙ o.parts;
        idle = idle_set s.views id me.0 o.idle (λ z. o.idle id me.0 at z);
      },
      (refl, λ all. o.least t near ∙ all_mine s.views id me.0 t at o.idle (o.parts ∙ sym all)),
    )

pub splits : (count id : ℕ) (v : View) → 2 ≤ v.parts → Splits (Keeps count) id v (one_less v) one_part
splits count id v two s o at =
    let left : View = one_less v in let vs : List View = set s.views id left in
    record {
      words = o.words;
      least = λ u h. omega (arith, o.least u h, first_snoc vs one_part u refl, first_set s.views id v left none_yet u at (omega (arith, first_le v.marks u)), first_le (marks_of s.views) u);
      parts = omega (arith, parts_snoc vs one_part, parts_set s.views id v left at, o.parts);
      idle = idle_snoc vs one_part (idle_set s.views id left o.idle (λ z. absurd (omega arith))) refl;
    }

put : (vs : List View) (j : ℕ) (v w : View) → get_elem? vs j ≡ some v → get_elem? (set vs j w) j ≡ some w
put [] j v w e = absurd (some-ne-none v (sym e))
put (u ∷ vs) zero v w e = refl
put (u ∷ vs) (suc j) v w e = put vs j v w e

none_from_both : (v w : View) → v.marks ≡ [] → w.marks ≡ [] → v.marks ++ w.marks ≡ []
none_from_both v w a b = ap (λ l. l ++ w.marks) a ∙ b

pub joins : (count id other : ℕ) (v w : View) → Joins (Keeps count) id v other w (joined v w) spent
joins count id other v w s o at ne there =
    let both : View = joined v w in let vs : List View = set s.views id both in let last : List View = set vs other spent in
    let before : get_elem? s.views other ≡ some w = sym (set_else s.views id other both ne) ∙ there in
    let after : get_elem? last id ≡ some both = set_else vs other id spent (λ e. ne (sym e)) ∙ put s.views id v both at in
    record {
      words = o.words;
      least = λ u h. omega (arith, o.least u h, first_set s.views id v both (first w.marks u) u at (first_append v.marks w.marks u), first_below s.views other w u before, first_gone vs other w spent u there refl, first_below last id both u after, first_append v.marks w.marks u);
      parts = omega (arith, parts_set s.views id v both at, parts_set vs other w spent there, o.parts);
      idle = idle_set vs other spent (idle_set s.views id both o.idle (λ z. none_from_both v w (o.idle id v at (omega arith)) (o.idle other w before (omega arith)))) (λ _. refl);
    }
