-- A value beside all faults, in the order in which they are met. Reading goes on behind a fault, so a definition says nothing of
-- stopping; where there is a fault the value means nothing. A call answers the value, or tells the first fault.
use Rattle.std.specs.Prelude.{◌≡◌, Bool, true, false, List, [], ◌∷◌, ◌++◌, Option, Some, None, Result, Ok, Err}

pub record Checked (F A : Type 0) : Type 0 where
  pub faults : List F
  pub value : A

-- no fault
abbrev pub fine : {F A : Type 0} → A → Checked F A
fine x = record { faults = []; value = x }

-- a fault and nothing else
abbrev pub faulty : {F : Type 0} → F → Checked F (Unit {0})
faulty fault = record { faults = fault ∷ []; value = tt }

abbrev pub faulty_if : {F : Type 0} → Bool → F → Checked F (Unit {0})
faulty_if true fault = faulty fault
faulty_if false fault = fine tt

-- one after another, with the first one's value
infixl 10 ◌>>=◌
abbrev pub ◌>>=◌ : {F A B : Type 0} → Checked F A → (A → Checked F B) → Checked F B
r >>= f = let next = f r.value in record { faults = r.faults ++ next.faults; value = next.value }

infixl 10 ◌>>◌
abbrev pub ◌>>◌ : {F B : Type 0} → Checked F (Unit {0}) → Checked F B → Checked F B
r >> next = record { faults = r.faults ++ next.faults; value = next.value }

-- what a step makes of each item, in their order
abbrev pub each : {F A B : Type 0} → (A → Checked F B) → List A → Checked F (List B)
each one [] = fine []
each one (x ∷ xs) = one x >>= λ y. each one xs >>= λ ys. fine (y ∷ ys)

-- a step that goes on from what the items before have made
abbrev pub each_after : {F A S : Type 0} → (S → A → Checked F S) → S → List A → Checked F S
each_after one state [] = fine state
each_after one state (x ∷ xs) = one state x >>= λ next. each_after one next xs

-- the same with items in front of its list
abbrev pub behind : {F A : Type 0} → List A → Checked F (List A) → Checked F (List A)
behind front r = record { faults = r.faults; value = front ++ r.value }

abbrev pub first : {F : Type 0} → List F → Option F
first [] = None
first (fault ∷ faults) = Some fault

-- What an error tells is the first fault. One that tells none is want of memory, and says nothing.
abbrev pub Tells : {F : Type 0} → Option F → List F → Type 0
Tells None faults = Unit {0}
Tells (Some fault) faults = first faults ≡ Some fault

-- A call returns the value where there is no fault, or an error that tells the first.
abbrev pub Returns : {F A E : Type 0} → (E → Option F) → Result A E → Checked F A → Type 0
Returns told (Ok x) read = read ≡ fine x
Returns told (Err e) read = Tells (told e) read.faults

-- A call changes a state to the value where there is no fault, or returns an error that tells the first.
abbrev pub Becomes : {F A E U : Type 0} → (E → Option F) → Result U E → A → Checked F A → Type 0
Becomes told (Ok u) new read = read ≡ fine new
Becomes told (Err e) new read = Tells (told e) read.faults
