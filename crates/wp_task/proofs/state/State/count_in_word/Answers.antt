use Rattle.std.proofs.Common.{◌≡◌, ◌+◌, ◌*◌, ◌/◌, ◌%◌, ◌<◌, ℕ, sym, ap, ◌∙◌, subst, arith}
use Rattle.std.specs.List.{count_by, range_with_len}
use Rattle.std.proofs.lemmas.List.FromFn.{length-range_with_len}
use Rattle.std.proofs.lemmas.List.Sums.{count_by-le-length}
use Rattle.wp_task.specs.Set.{has}
use Rattle.wp_task.specs.Packing.{bit_in, flags_in}
use Rattle.wp_task.proofs.PackingLemmas.{has-flags_in}
use Rattle.wp_task.proofs.WordLemmas.{sums_agree}
use Rattle.wp_task.proofs.state.State.count_in_word.Goals as goal

pub returns-clause-value : goal.returns-clause-value
returns-clause-value c =
    let words = c.self.inside.words.items in
    let size = c.self.inside.size in
    let p = c.args.p in
    c.count_in_word.ensures
    ∙ ((λ j. count_by (λ i. bit_in (c.as_slice.ensures.value j) (64 * (p / 64) + i)) (range_with_len 0 (p % 64)))
    ∙ ((λ j. count_by (λ i. sym (has-flags_in words size c.self.invariant (64 * (p / 64) + i)) j) (range_with_len 0 (p % 64)))
    ∙ (λ j. count_by (λ i. has (c.self.view_is j) (64 * (p / 64) + i)) (range_with_len 0 (p % 64)))))

pub returns-clause-few : goal.returns-clause-few
returns-clause-few c =
    let p = c.args.p in
    omega (
      arith,
      c.count_in_word.ensures,
      count_by-le-length (λ i. bit_in c.as_slice.result.now (64 * (p / 64) + i)) (range_with_len 0 (p % 64)),
      length-range_with_len 0 (p % 64),
    )
