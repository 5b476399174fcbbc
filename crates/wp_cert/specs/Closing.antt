-- The reachable states of a task, breadth first: the opening state, and behind it, for each state in its turn, those that its
-- applicable actions lead to, in action order; a state stands where it came first.
use Rattle.std.specs.Prelude.{ℕ, zero, suc, ◌+◌, nat_lt, Bool, List, [], ◌∷◌, ◌++◌, length, map, fold, slice_index_or, Option, Some, None, Result, Ok, Err, if◌then◌else◌, ◌≡◌}
use Rattle.wp_task.specs.declared.acts.Act.{Act}
use Rattle.wp_task.specs.Set.{atoms_in}
use Rattle.wp_task.specs.Task.{PlanningTask, act_at, applicable_in, result_of}
use Rattle.wp_cert.specs.declared.errors.CloseError.{CloseError}
use Rattle.wp_cert.specs.declared.errors.CloseError.TheVariants.{Limit, Memory}
use Rattle.wp_cert.specs.Audits.{is_among}

-- the states with one more, where it is not there
abbrev pub with_state : List (List Bool) → List Bool → List (List Bool)
with_state states s = if is_among states s then states else states ++ s ∷ []

abbrev pub results_of : List Act → List Bool → List (List Bool)
results_of acts s = map (λ (a : ℕ). result_of (act_at acts a) s) (applicable_in acts s)

-- the states with those that the k-th leads to
abbrev pub widened : List Act → List (List Bool) → ℕ → List (List Bool)
widened acts states k = fold with_state states (results_of acts (slice_index_or states k []))

-- the states when all have had their turn, from the k-th on; none where there are more than the limit
abbrev pub closing : List Act → ℕ → ℕ → ℕ → List (List Bool) → Option (List (List Bool))
closing acts limit zero k states = None
closing acts limit (suc steps) k states =
    if nat_lt limit (length states) then None
    else (if nat_lt k (length states) then closing acts limit steps (k + 1) (widened acts states k) else Some states)

abbrev pub closed_states : PlanningTask → ℕ → Option (List (List Bool))
closed_states task limit = closing task.acts limit (limit + 2) 0 (task.init ∷ [])

abbrev pub listed : Option (List (List Bool)) → Option (List (List ℕ))
listed None = None
listed (Some states) = Some (map atoms_in states)

-- the certificate of these states
abbrev pub closed_cert : PlanningTask → ℕ → Option (List (List ℕ))
closed_cert task limit = listed (closed_states task limit)

-- what is returned is that certificate, or that there is none, unless memory runs out
abbrev pub FailsAt : CloseError → Option (List (List ℕ)) → Type 0
FailsAt Memory closed = Unit {0}
FailsAt Limit closed = closed ≡ None

abbrev pub GivesClosed : Result (List (List ℕ)) CloseError → Option (List (List ℕ)) → Type 0
GivesClosed (Ok cert) closed = closed ≡ Some cert
GivesClosed (Err error) closed = FailsAt error closed
