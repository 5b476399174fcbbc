use Rattle.std.proofs.Common.{◌≡◌, ◌≤◌, ◌+◌, ℕ, List, length, option_copied, Option, Some, None}
use Rattle.wp_cert.specs.Format.{atoms_from, pieces_in}
use Rattle.wp_cert.proofs.LineLemmas.{put_all, AreBelow}
use Rattle.wp_cert.proofs.reading.read_atoms.Given as goal

abbrev size : Option (List ℕ) → ℕ
size None = 0
size (Some bytes) = length bytes + 1

abbrev pub invariant-loop-rest : goal.invariant-loop-rest
invariant-loop-rest l = record {
  so_far : put_all l.atoms.items (atoms_from l.low (pieces_in 32 (option_copied l.rest))) ≡ atoms_from 0 (pieces_in 32 (option_copied l.words));
  rising : AreBelow l.low l.atoms.items;
  small : l.low ≤ 65536;
}

abbrev pub decreases-loop-rest : goal.decreases-loop-rest
decreases-loop-rest l = size (option_copied l.rest)
