-- What BFWS(f5) prints where it is left with no node that waits, with the reachable states behind it, is a certificate.
use Rattle.std.proofs.Common.{◌≡◌, ◌++◌, ℕ, ◌+◌, ◌<◌, ◌≤◌, Bool, true, List, length, map, get_or, Some, Ok, ap, arith}
use Rattle.std.specs.Prelude.{All}
use Rattle.std.specs.List.{flat_map, range_with_len}
use Rattle.std.specs.List.Sorted.{IsStrictlyIncreasing}
use Rattle.std.proofs.lemmas.List.{get_or_default, length-map}
use Rattle.std.proofs.lemmas.List.Elements.{All-filter, All-map}
use Rattle.std.proofs.lemmas.List.FromFn.{get_or-range_with_len, length-range_with_len}
use Rattle.std.proofs.lemmas.List.Kept.{IsStrictlyIncreasing-filter}
use Rattle.wp_task.specs.Set.{has, atoms_in, AreAtoms}
use Rattle.wp_task.specs.Task.{PlanningTask, IsTask}
use Rattle.wp_task.proofs.Members.{In, In-at, Contains-from_In}
use Rattle.wp_plain.specs.Laws.{EndingsOfAllAnswer}
use Rattle.wp_plain.specs.Pairs.{all_tuples}
use Rattle.wp_plain.specs.Run.{ending_of}
use Rattle.wp_cert.specs.Certificate.{AreStates}
use Rattle.wp_cert.specs.Closing.{listed}
use Rattle.wp_cert.specs.Format.{CommentedIsRead}
use Rattle.wp_cert.specs.Laws.{AreReachable, ClosedStatesAreReachable, EmptiedKeepsFew, EmptiedOutputIsCertified, KeptStatesAreCertified}
use Rattle.wp_cert.proofs.LawLemmas.{reachable_sized}

range_rises : (n : ℕ) → IsStrictlyIncreasing (range_with_len 0 n)
range_rises n = λ k within.
    let short : k + 1 < n = omega (arith, length-range_with_len 0 n) in
    let here : get_or (range_with_len 0 n) k 0 ≡ 0 + k = get_or-range_with_len 0 n k 0 (omega arith) in
    let next : get_or (range_with_len 0 n) (k + 1) 0 ≡ 0 + (k + 1) = get_or-range_with_len 0 n (k + 1) 0 short in
    omega arith

are_atoms : (s : List Bool) → length s ≤ 65536 → AreAtoms 65536 (atoms_in s)
are_atoms s few = record {
  below = All-filter (has s) (λ (p : ℕ). p < 65536) (range_with_len 0 (length s)) (λ k d within.
      let there : k < length s = omega (arith, within, length-range_with_len 0 (length s)) in
      let here : get_or (range_with_len 0 (length s)) k d ≡ 0 + k = get_or-range_with_len 0 (length s) k d there in
      omega (arith, here, there, few));
  rising = IsStrictlyIncreasing-filter (has s) (range_with_len 0 (length s)) (range_rises (length s));
}

all_atoms : (task : PlanningTask) (states : List (List Bool)) → IsTask task → AreReachable task states → All (AreAtoms 65536) (map atoms_in states)
all_atoms task states fits are = All-map (AreAtoms 65536) atoms_in states (λ k d within.
    let s = get_or states k d in
    let sized : length s ≡ task.atoms = reachable_sized task fits s ((are.each s).0 (Contains-from_In s states (In-at s states k within (get_or_default states k s d within)))) in
    let few : task.atoms ≤ 65536 = fits.few_atoms in
    are_atoms s (omega (arith, sized, few)))

pub output_certified : EndingsOfAllAnswer → EmptiedKeepsFew → KeptStatesAreCertified → CommentedIsRead → ClosedStatesAreReachable → EmptiedOutputIsCertified
output_certified answers few kept read reachable task settings comments fits range f5 emptied lines all =
    let ending = ending_of task settings (all_tuples task settings) in
    let states = (answers task settings fits).states f5 in
    let found = kept task ending states.0 fits states.1 emptied in
    let are = reachable task ending.counts.kept found.0 found.1 in
    let cert = map atoms_in found.0 in
    let size : length cert ≡ length found.0 = length-map found.0 atoms_in in
    let within : length found.0 ≤ ending.counts.kept = are.1 in
    let spent : ending.counts.kept ≤ settings.budget = few task settings (all_tuples task settings) emptied in
    let most : settings.budget ≤ 100000000 = range.budget.1 in
    let states_are : AreStates cert = record { few = omega (arith, size, within, spent, most); each = all_atoms task found.0 fits are.0 } in
    (cert, ap listed found.1, states_are, read comments cert lines all states_are, found.3)
