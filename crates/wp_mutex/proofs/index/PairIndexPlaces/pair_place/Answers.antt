use Rattle.std.proofs.Common.{◌≡◌, ◌+◌, ◌*◌, ◌/◌, ◌%◌, ◌<◌, [], ℕ, Bool, List, length, get_or, sym, ap, ◌∙◌, subst, arith}
use Rattle.std.specs.List.{count_by, range_with_len}
use Rattle.std.proofs.lemmas.List.{get_or_read}
use Rattle.wp_task.specs.Set.{has}
use Rattle.wp_tuples.specs.Placing.{IsCounted}
use Rattle.wp_mutex.specs.PairPlaces.{pairs_before, place_of_pair, possible_placed}
use Rattle.wp_mutex.proofs.PlaceLemmas.{place_counted, pair_within, word_within}
use Rattle.wp_mutex.proofs.index.PairIndexPlaces.pair_place.Goals as goal

pub returns-clause-place : goal.returns-clause-place
returns-clause-place c =
    let pairs = c.self.inside.rows.items in
    let starts = c.self.inside.starts.items in
    let stride = c.self.inside.stride in
    let p = c.args.p in
    let q = c.args.q in
    let counted : IsCounted (possible_placed pairs) p q =
    subst (λ (xs : List (List Bool)). IsCounted (possible_placed xs) p q) (sym c.self.view_is) c.requires.counted in
    let inside : q * stride + p / 64 < length starts =
    word_within (length pairs) stride p q (length starts) c.self.invariant.words c.self.invariant.places.room counted.0 counted.1 in
    let word : p / 64 < stride = omega (arith, counted.0, counted.1, c.self.invariant.words) in
    let start : c.index-start.result.now ≡ place_of_pair pairs (64 * (p / 64)) q =
    get_or_read starts (q * stride + p / 64) c.index-start.result.now inside c.index-start.ensures 0
    ∙ c.self.invariant.places.each q (p / 64) counted.1 word in
    let row : c.index-row.result.now ≡ get_or pairs q [] =
    get_or_read pairs q c.index-row.result.now counted.1 c.index-row.ensures [] in
    let bits : c.count_in_word.result ≡ count_by (λ i. has (get_or pairs q []) (64 * (p / 64) + i)) (range_with_len 0 (p % 64)) =
    c.count_in_word.ensures.value ∙ (λ j. count_by (λ i. has (row j) (64 * (p / 64) + i)) (range_with_len 0 (p % 64))) in
    let sum : c.index-start.result.now + c.count_in_word.result ≡ place_of_pair pairs p q =
    place_counted (get_or pairs q []) p c.index-start.result.now c.count_in_word.result (length pairs + pairs_before pairs q) start bits in
    (λ j. c.from.ensures j + c.from-2.ensures j) ∙ (sum ∙ ap (λ (xs : List (List Bool)). place_of_pair xs p q) c.self.view_is)

pub returns-clause-within : goal.returns-clause-within
returns-clause-within c =
    let pairs = c.args.self.now in
    subst (λ (k : ℕ). k < length pairs + pairs_before pairs (length pairs)) (sym (returns-clause-place c))
    (pair_within pairs c.args.p c.args.q (length pairs) c.requires.counted.0 c.requires.counted.2 c.requires.counted.1)
