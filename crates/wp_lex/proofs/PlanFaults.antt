-- A plan file has no fault of a text that has to be one list.
use Rattle.std.proofs.Common.{ℕ, Bool, true, false, cond, List, Option, None, Some, length, drop, inl, inr, subst}
use Rattle.std.specs.Prelude.{MatchOption}
use Rattle.wp_lex.specs.declared.error.LexError.{LexError}
use Rattle.wp_lex.specs.declared.error.LexError.TheVariants.{Unopened, Unclosed, TooDeep, Memory}
use Rattle.wp_lex.specs.declared.place.Source.TheVariants.{Plan}
use Rattle.wp_lex.specs.declared.place.Class.{Class}
use Rattle.wp_lex.specs.declared.place.Class.TheVariants.{Letter, Opens, Closes, Blank, Bad}
use Rattle.wp_lex.specs.declared.place.Place.{Place}
use Rattle.wp_lex.specs.Words.{class_at}
use Rattle.wp_lex.specs.Places.{place_at}
use Rattle.wp_lex.specs.Faults.{fault_by, fault_at_end, plan_fault_of, HasNoFault, IsFirstFault, Explains, IsPlanFault}
use Rattle.wp_lex.proofs.First.{faults_are_first}

-- the fault is one that a plan file may have, if it is there
abbrev IsOfPlan : Option LexError → Type 0
IsOfPlan None = Unit {0}
IsOfPlan (Some error) = IsPlanFault error

one_of : (test : Bool) (yes' no' : Option LexError) → IsOfPlan yes' → IsOfPlan no' → IsOfPlan (cond test yes' no')
one_of true yes' no' y n = y
one_of false yes' no' y n = n

fault_by-IsOfPlan : (class : Class) (place : Place) (rest : List ℕ) → IsOfPlan (fault_by Plan class place rest)
fault_by-IsOfPlan Letter place rest = one_of place.continues None _ tt (one_of _ (Some (Unopened place.at)) None tt tt)
fault_by-IsOfPlan Opens place rest = one_of _ (Some (TooDeep place.at)) None tt tt
fault_by-IsOfPlan Closes place rest = one_of _ (Some (Unopened place.at)) None tt tt
fault_by-IsOfPlan Blank place rest = tt
fault_by-IsOfPlan Bad place rest = tt

fault_at_end-IsOfPlan : (place : Place) → IsOfPlan (fault_at_end Plan place)
fault_at_end-IsOfPlan place = one_of _ (Some Unclosed) None tt tt

first-IsOfPlan : (text : List ℕ) (error : LexError) → IsFirstFault Plan text error → IsPlanFault error
first-IsOfPlan text error (inl (i, h, is, none)) =
    subst IsOfPlan is (fault_by-IsOfPlan (class_at text i) (place_at text i) (drop i text))
first-IsOfPlan text error (inr (none, is)) = subst IsOfPlan is (fault_at_end-IsOfPlan (place_at text (length text)))

of_plan : (text : List ℕ) (found : Option LexError) → MatchOption found (HasNoFault Plan text) (IsFirstFault Plan text)
    → IsOfPlan found
of_plan text None h = tt
of_plan text (Some error) h = first-IsOfPlan text error h

explained : (error : LexError) (fault : Option LexError) → IsOfPlan fault → Explains error fault → IsPlanFault error
explained Memory fault h e = tt
explained error fault h e = subst IsOfPlan e h

pub IsPlanFault-from_Explains : (error : LexError) (text : List ℕ) → Explains error (plan_fault_of text) → IsPlanFault error
IsPlanFault-from_Explains error text e =
    explained error (plan_fault_of text) (of_plan text (plan_fault_of text) (faults_are_first Plan text)) e
