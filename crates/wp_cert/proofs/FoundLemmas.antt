-- What an audit finds: foreign numbers, the states as a set, and the first fault.
use Rattle.std.proofs.Common.{◌≡◌, ◌&&◌, ◌||◌, not, ℕ, ◌+◌, ◌<◌, ◌≤◌, Bool, true, false, cond, nat_lt, List, [], ◌∷◌, ◌++◌, length, map, get_or, take, drop, Option, Some, None, refl, sym, ap, ◌∙◌, arith}
use Rattle.std.specs.Bool.{beq}
use Rattle.std.specs.Cmp.{bool_eq_equiv}
use Rattle.std.specs.Cmp.Lexicographic.{pointwise}
use Rattle.std.specs.List.{All, list_any}
use Rattle.std.proofs.lemmas.Bool.{ltb-true}
use Rattle.std.proofs.lemmas.Cmp.{lists_equiv}
use Rattle.std.proofs.lemmas.List.{drop_more, take_more, map_push}
use Rattle.std.proofs.lemmas.List.Elements.{All-cons}
use Rattle.std.proofs.lemmas.List.Folds.{list_any-append}
use Rattle.std.proofs.lemmas.List.FromFn.{length-map-range_with_len}
use Rattle.wp_task.specs.Set.{lists, set_of}
use Rattle.wp_task.specs.Task.{PlanningTask}
use Rattle.wp_cert.specs.declared.answer.Audit.{Audit}
use Rattle.wp_cert.specs.declared.answer.Audit.TheVariants.{NoStart}
use Rattle.wp_cert.specs.Audits.{audit_of, audit_states, or_audit, is_among, is_foreign, foreign_from, fault_at, first_of, faults_from, states_of}

-- ---- foreign numbers
native_atoms : (atoms : ℕ) (listed : List ℕ) → is_foreign atoms listed ≡ false → All (λ p. p < atoms) listed
native_atoms atoms [] none = λ k d within. absurd (omega arith)
native_atoms atoms (p ∷ rest) none = by (nat_lt p atoms) refl none (native_atoms atoms rest) where
  by : (t : Bool) → nat_lt p atoms ≡ t → (not t || is_foreign atoms rest) ≡ false → (is_foreign atoms rest ≡ false → All (λ p. p < atoms) rest) →
      All (λ p. p < atoms) (p ∷ rest)
  by true below none later = All-cons (λ p. p < atoms) p rest (ltb-true p atoms below) (later none)
  by false above none later = absurd (cc)

pub none_foreign : (atoms k : ℕ) (cert : List (List ℕ)) → foreign_from atoms k cert ≡ None → All (All (λ p. p < atoms)) cert
none_foreign atoms k [] none = λ i d within. absurd (omega arith)
none_foreign atoms k (listed ∷ rest) none = by (is_foreign atoms listed) refl none (none_foreign atoms (k + 1) rest) where
  by : (t : Bool) → is_foreign atoms listed ≡ t → cond t (Some k) (foreign_from atoms (k + 1) rest) ≡ None →
      (foreign_from atoms (k + 1) rest ≡ None → All (All (λ p. p < atoms)) rest) → All (All (λ p. p < atoms)) (listed ∷ rest)
  by true is none later = absurd (cc)
  by false is none later = All-cons (All (λ p. p < atoms)) listed rest (native_atoms atoms listed is) (later none)

pub native_audit : (task : PlanningTask) (cert : List (List ℕ)) → foreign_from task.atoms 0 cert ≡ None →
    audit_of task cert ≡ audit_states task (states_of task.atoms cert)
native_audit task cert none = ap (λ o. or_audit o (audit_states task (states_of task.atoms cert))) none

pub length_set_of : (atoms : List ℕ) (n : ℕ) → length (set_of atoms n) ≡ n
length_set_of atoms n = length-map-range_with_len (lists atoms) 0 n

-- ---- whether the opening state is there
pub no_start : (task : PlanningTask) (keys states : List (List Bool)) → is_among keys ≡ is_among states → is_among keys task.init ≡ false →
    audit_states task states ≡ NoStart
no_start task keys states same none =
    ap (λ (known : List Bool → Bool). cond (known task.init) (faults_from task known 0 states) NoStart) (sym same)
    ∙ ap (λ t. cond t (faults_from task (is_among keys) 0 states) NoStart) none

pub with_start : (task : PlanningTask) (keys states : List (List Bool)) → is_among keys ≡ is_among states → is_among keys task.init ≡ true →
    audit_states task states ≡ faults_from task (is_among keys) 0 states
with_start task keys states same there =
    ap (λ (known : List Bool → Bool). cond (known task.init) (faults_from task known 0 states) NoStart) (sym same)
    ∙ ap (λ t. cond t (faults_from task (is_among keys) 0 states) NoStart) there

-- ---- one state more
or_last : (t b : Bool) → cond t true b ≡ (b || (t || false))
or_last true true = refl
or_last true false = refl
or_last false true = refl
or_last false false = refl

pub among_more : (old new front : List (List Bool)) (x : List Bool) →
    ((s : List Bool) → is_among new s ≡ cond (pointwise beq x s) true (is_among old s)) →
    ((s : List Bool) → is_among old s ≡ is_among front s) → (s : List Bool) → is_among new s ≡ is_among (front ++ x ∷ []) s
among_more old new front x added before s =
    added s
    ∙ ap (λ t. cond t true (is_among old s)) ((lists_equiv bool_eq_equiv).symm x s)
    ∙ or_last (pointwise beq s x) (is_among old s)
    ∙ ap (λ b. b || (pointwise beq s x || false)) (before s)
    ∙ sym (list_any-append (pointwise beq s) front (x ∷ []))

pub states_more : (atoms : ℕ) (cert : List (List ℕ)) (i : ℕ) → i < length cert →
    states_of atoms (take (i + 1) cert) ≡ states_of atoms (take i cert) ++ set_of (get_or cert i []) atoms ∷ []
states_more atoms cert i within =
    ap (states_of atoms) (take_more cert i [] within)
    ∙ map_push (λ (listed : List ℕ). set_of listed atoms) (take i cert) (get_or cert i [])

-- ---- one state on
pub faults_next : (task : PlanningTask) (known : List Bool → Bool) (cert : List (List ℕ)) (i : ℕ) → i < length cert →
    faults_from task known i (states_of task.atoms (drop i cert))
    ≡ first_of (fault_at task known i (set_of (get_or cert i []) task.atoms)) (faults_from task known (i + 1) (states_of task.atoms (drop (i + 1) cert)))
faults_next task known cert i within = ap (λ l. faults_from task known i (states_of task.atoms l)) (drop_more cert i [] within)
