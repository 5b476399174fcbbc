-- The parts and the marks of the passes of a pair, and what homes lend and take.
use Rattle.std.proofs.Common.{◌≡◌, ◌||◌, ℕ, ◌+◌, ◌≤◌, cond, Bool, true, false, List, [], ◌∷◌, ◌++◌, length, refl, sym, ap, ◌∙◌, append_assoc, append-nil, arith}
use Rattle.std.specs.List.{All}
use Rattle.std.proofs.lemmas.Grind.{flat_map-append}
use Rattle.std.proofs.lemmas.List.Elements.{All-head, All-tail}
use Rattle.wp_tuples.specs.Placing.{Placing}
use Rattle.wp_arrive.specs.declared.view.Arrival.{Arrival}
use Rattle.wp_arrive.specs.Rule.{latest}
use Rattle.wp_novel.specs.declared.birth.Pair.{Pair}
use Rattle.wp_novel.specs.declared.job.JobPass.{JobPass}
use Rattle.wp_novel.specs.Births.{BirthView}
use Rattle.wp_novel.specs.NoveltyTables.{HomeView, at_home, counters_of, is_pair}
use Rattle.wp_novel.specs.Marks.{birth_marks, marks_for}
use Rattle.wp_novel.specs.Jobs.{JobView, passes_of, parts_at, passed_at, has_pass, Lends, Takes}
use Rattle.wp_novel.proofs.PairLemmas.{is_pair-swapped}

pub parts_at-append : (pair : Pair) (xs ys : List JobPass) → parts_at pair (xs ++ ys) ≡ parts_at pair xs + parts_at pair ys
parts_at-append pair [] ys = omega arith
parts_at-append pair (x ∷ xs) ys = by (is_pair pair x.pair) (parts_at-append pair xs ys) where
  by : (b : Bool) → parts_at pair (xs ++ ys) ≡ parts_at pair xs + parts_at pair ys →
      cond b (x.pass.parts + parts_at pair (xs ++ ys)) (parts_at pair (xs ++ ys)) ≡ cond b (x.pass.parts + parts_at pair xs) (parts_at pair xs) + parts_at pair ys
  by true rest = omega (arith, rest)
  by false rest = rest

pub passed_at-append : (pair : Pair) (xs ys : List JobPass) → passed_at pair (xs ++ ys) ≡ passed_at pair xs ++ passed_at pair ys
passed_at-append pair [] ys = refl
passed_at-append pair (x ∷ xs) ys = by (is_pair pair x.pair) (passed_at-append pair xs ys) where
  by : (b : Bool) → passed_at pair (xs ++ ys) ≡ passed_at pair xs ++ passed_at pair ys →
      cond b (x.pass.marks ++ passed_at pair (xs ++ ys)) (passed_at pair (xs ++ ys)) ≡ cond b (x.pass.marks ++ passed_at pair xs) (passed_at pair xs) ++ passed_at pair ys
  by true rest = ap (λ l. x.pass.marks ++ l) rest ∙ sym (append_assoc x.pass.marks (passed_at pair xs) (passed_at pair ys))
  by false rest = rest

-- a pair without a pass has no parts there
pub no_parts : (pair : Pair) (passes : List JobPass) → has_pass passes (counters_of pair) ≡ false → parts_at pair passes ≡ 0
no_parts pair [] none = refl
no_parts pair (x ∷ passes) none = by (is_pair pair x.pair) (is_pair x.pair pair) (is_pair-swapped pair x.pair) none (no_parts pair passes) where
  by : (b c : Bool) → b ≡ c → (c || has_pass passes (counters_of pair)) ≡ false → (has_pass passes (counters_of pair) ≡ false → parts_at pair passes ≡ 0) →
      cond b (x.pass.parts + parts_at pair passes) (parts_at pair passes) ≡ 0
  by true true same is rest = absurd (cc)
  by true false same is rest = absurd (cc)
  by false true same is rest = absurd (cc)
  by false false same is rest = rest is

-- each job has at most a part of a pair
pub parts_few : (pair : Pair) (jobs : List JobView) → All (λ j. (p : Pair) → parts_at p j.passes ≤ 1) jobs → parts_at pair (passes_of jobs) ≤ length jobs
parts_few pair [] ones = omega arith
parts_few pair (j ∷ jobs) ones =
    let one : parts_at pair j.passes ≤ 1 = All-head (λ (j : JobView). (p : Pair) → parts_at p j.passes ≤ 1) j jobs ones pair in
    let rest : parts_at pair (passes_of jobs) ≤ length jobs = parts_few pair jobs (All-tail (λ (j : JobView). (p : Pair) → parts_at p j.passes ≤ 1) j jobs ones) in
    let both : parts_at pair (j.passes ++ passes_of jobs) ≡ parts_at pair j.passes + parts_at pair (passes_of jobs) = parts_at-append pair j.passes (passes_of jobs) in
    omega arith

-- ---- lent and taken
pub lends_none : (pair : Pair) (home : HomeView) → Lends [] pair home home
lends_none pair home = record { ranking = refl; table = refl; marks = refl; parts = omega arith }

pub lends_more : (xs ys : List JobPass) (pair : Pair) (a b c : HomeView) → Lends xs pair a b → Lends ys pair b c → Lends (xs ++ ys) pair a c
lends_more xs ys pair a b c first second = record {
  ranking = second.ranking ∙ first.ranking;
  table = second.table ∙ first.table;
  marks = second.marks ∙ first.marks;
  parts = omega (arith, parts_at-append pair xs ys, first.parts, second.parts);
}

pub takes_none : (pair : Pair) (home : HomeView) → Takes [] pair home home
takes_none pair home =
    let parts : home.parts ≡ home.parts + 0 = omega arith in
    λ j. at_home home.ranking home.table (sym (append-nil home.marks) j) (parts j)

pub takes_more : (xs ys : List JobPass) (pair : Pair) (a b c : HomeView) → Takes xs pair a b → Takes ys pair b c → Takes (xs ++ ys) pair a c
takes_more xs ys pair a b c first second =
    let marks : (a.marks ++ passed_at pair xs) ++ passed_at pair ys ≡ a.marks ++ passed_at pair (xs ++ ys) =
    append_assoc a.marks (passed_at pair xs) (passed_at pair ys) ∙ ap (λ l. a.marks ++ l) (sym (passed_at-append pair xs ys)) in
    let parts : (a.parts + parts_at pair xs) + parts_at pair ys ≡ a.parts + parts_at pair (xs ++ ys) = omega (arith, parts_at-append pair xs ys) in
    second ∙ (ap (λ (h : HomeView). at_home h.ranking h.table (h.marks ++ passed_at pair ys) (h.parts + parts_at pair ys)) first
    ∙ (λ j. at_home a.ranking a.table (marks j) (parts j)))

-- ---- one pass
-- at its own pair, and at another one
pub parts_at-one : (p : JobPass) → (pair : Pair) (b : Bool) → is_pair pair p.pair ≡ b → parts_at pair (p ∷ []) ≡ cond b (p.pass.parts) 0
parts_at-one p pair true is = ap (λ (b : Bool). cond b (p.pass.parts + 0) 0) is ∙ (let e : p.pass.parts + 0 ≡ p.pass.parts = omega arith in e)
parts_at-one p pair false is = ap (λ (b : Bool). cond b (p.pass.parts + 0) 0) is

pub passed_at-one : (p : JobPass) → (pair : Pair) (b : Bool) → is_pair pair p.pair ≡ b → passed_at pair (p ∷ []) ≡ cond b (p.pass.marks) []
passed_at-one p pair true is = ap (λ (b : Bool). cond b (p.pass.marks ++ []) []) is ∙ append-nil p.pass.marks
passed_at-one p pair false is = ap (λ (b : Bool). cond b (p.pass.marks ++ []) []) is

-- ---- marks
pub latest-push : (marks : List Arrival) (m : Arrival) → latest (marks ++ m ∷ []) ≡ m.number
latest-push [] m = refl
latest-push (x ∷ []) m = refl
latest-push (x ∷ y ∷ marks) m = latest-push (y ∷ marks) m

pub marks_for-push : (places : Placing) (counters : ℕ × ℕ) (births : List BirthView) (b : BirthView) →
    marks_for places counters (births ++ b ∷ []) ≡ marks_for places counters births ++ birth_marks places counters b
marks_for-push places counters births b =
    flat_map-append (birth_marks places counters) births (b ∷ []) ∙ ap (λ l. marks_for places counters births ++ l) (append-nil (birth_marks places counters b))
