use Rattle.std.proofs.Common.{◌≡◌, ◌+◌, ◌≤◌, List, ℕ, map, w64, arith}
use Rattle.std.specs.Int.{bit_not}
use Rattle.std.specs.Int.Bits.{bit_and}
use Rattle.std.specs.Int.RustNames.{count_ones}
use Rattle.std.specs.Simd.Lanes.{zip2, sum_l, fold_l}
use Rattle.std.proofs.lemmas.List.{map-id}
use Rattle.std.proofs.lemmas.Simd.{sum_fits, fold-sum}
use Rattle.wp_task.proofs.MissingLemmas.{four_few}
use Rattle.wp_task.proofs.lanes.missing_in_four.Goals as goal

abbrev counts : List ℕ → List ℕ → List ℕ
counts words wanted = map (λ (n : ℕ). n) (map count_ones (zip2 bit_and wanted (map (bit_not w64) words)))

few : (words wanted : List ℕ) → sum_l (map count_ones (zip2 bit_and wanted (map (bit_not w64) words))) ≤ 256 → sum_l (counts words wanted) ≤ 256
few words wanted bound = rw map-id bound

pub overflow_add-result : goal.overflow_add-result
overflow_add-result c =
    let bound = few c.args.words c.args.wanted (four_few c.args.words c.args.wanted c.fits-words.0 c.fits-wanted.0) in
    sum_fits w64 0 (counts c.args.words c.args.wanted) (omega (arith, bound))

pub returns-clause-few : goal.returns-clause-few
returns-clause-few c =
    let bound = few c.args.words c.args.wanted (four_few c.args.words c.args.wanted c.fits-words.0 c.fits-wanted.0) in
    let sum : fold_l (λ s x. s + x) 0 (counts c.args.words c.args.wanted) ≡ 0 + sum_l (counts c.args.words c.args.wanted) =
    fold-sum 0 (counts c.args.words c.args.wanted) in
    omega (arith, sum, bound)
