use Rattle.std.proofs.Common.{◌≡◌, not, ◌^◌, ◌%◌, ℕ, Bool, length, nat_eq, sym, ap, ◌∙◌, w64, arith}
use Rattle.std.specs.Simd.Lanes.{zip2, mask_l}
use Rattle.std.proofs.lemmas.Simd.{tops_compared, mask_l-mod, length-zip2}
use Rattle.wp_task.proofs.LaneLemmas.{no_lane_differs}
use Rattle.wp_task.proofs.lanes.equal_four.Goals as goal

pub returns : goal.returns
returns c =
    let words = c.args.words in
    let others = c.args.others in
    let same : length words ≡ length others = c.fits-words.0 ∙ sym c.fits-others.0 in
    let t : ℕ → ℕ → Bool = λ a b. not (nat_eq a b) in
    ap (λ ms. nat_eq (mask_l ms % 2 ^ 64) 0) (tops_compared w64 t words others)
    ∙ (ap (λ n. nat_eq n 0) (mask_l-mod (zip2 t words others) 64 (omega (arith, length-zip2 t words others same, c.fits-words.0)))
    ∙ no_lane_differs words others same)
