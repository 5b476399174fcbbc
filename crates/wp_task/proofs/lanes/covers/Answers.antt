use Rattle.std.proofs.Common.{◌≡◌, ◌+◌, ◌*◌, ◌^◌, ◌<◌, ◌&&◌, [], List, ℕ, not, length, get_or, sym, ap, ◌∙◌, w64, arith}
use Rattle.std.specs.Int.{bit_not}
use Rattle.std.specs.Int.Bits.{bit_and}
use Rattle.std.specs.List.{count_by, range_with_len, sum_by}
use Rattle.std.proofs.lemmas.Bool.{eqb-true, eqb-false, eq-eqb, ne_eqb}
use Rattle.wp_task.specs.Packing.{bit_in, missing_in}
use Rattle.wp_task.proofs.MissingLemmas.{more_missing, four_more_missing, missing_grows, missing_none}
use Rattle.wp_task.proofs.lanes.covers.Goals as goal

-- how many bits are missing in four words
abbrev lacking : List (List ℕ) → List (List ℕ) → ℕ → ℕ
lacking fours wanted_fours i =
    sum_by (λ k. missing_in (get_or (get_or fours i []) k 0) (get_or (get_or wanted_fours i []) k 0)) (range_with_len 0 4)

pub loop-i-preserved : goal.loop-i-preserved
loop-i-preserved c =
    let fit : (k : ℕ) → get_or c.args.words.now k 0 < 2 ^ 64 = λ k. (c.type_inv.words k).fits in
    let fours = c.as_chunks.result.0.now in
    let wanted_fours = c.as_chunks-2.result.0.now in
    let none = eqb-true (lacking fours wanted_fours c.loop-i.i) 0 (sym c.covers_four.ensures ∙ c.if-not-covers_four.false) in
    let more = four_more_missing c.args.words.now c.args.wanted.now fit fours wanted_fours c.loop-i.i
    c.as_chunks.ensures.front c.as_chunks-2.ensures.front c.requires (omega (arith, c.as_chunks.ensures.front_len, c.loop-i-test.true)) in
    omega (arith, more, none, c.loop-i.invariant)

pub loop-k-preserved : goal.loop-k-preserved
loop-k-preserved c =
    let words = c.args.words.now in
    let wanted = c.args.wanted.now in
    let k = c.loop-k.k in
    let fit : (i : ℕ) → get_or words i 0 < 2 ^ 64 = λ i. (c.type_inv.words i).fits in
    let none : missing_in (get_or words k 0) (get_or wanted k 0) ≡ 0 =
    eqb-true (missing_in (get_or words k 0) (get_or wanted k 0)) 0
    (sym (missing_none (get_or words k 0) (get_or wanted k 0)) ∙ eq-eqb (bit_and (get_or wanted k 0) (bit_not w64 (get_or words k 0))) 0 c.if-wanted-k-ne0.false) in
    let more = more_missing words wanted fit k in
    omega (arith, more, none, c.loop-k.invariant)

pub returns-then-not-covers_four : goal.returns-then-not-covers_four
returns-then-not-covers_four c =
    let words = c.args.words.now in
    let wanted = c.args.wanted.now in
    let i = c.loop-i.i in
    let fit : (k : ℕ) → get_or words k 0 < 2 ^ 64 = λ k. (c.type_inv.words k).fits in
    let fours = c.as_chunks.result.0.now in
    let wanted_fours = c.as_chunks-2.result.0.now in
    let some = eqb-false (lacking fours wanted_fours i) 0 (sym c.covers_four.ensures ∙ c.if-not-covers_four.true) in
    let more = four_more_missing words wanted fit fours wanted_fours i
    c.as_chunks.ensures.front c.as_chunks-2.ensures.front c.requires (omega (arith, c.as_chunks.ensures.front_len, c.loop-i-test.true)) in
    let grows = missing_grows words wanted fit (64 * (4 * (i + 1))) (64 * length words) (omega (arith, c.as_chunks.ensures.front_len, c.loop-i-test.true)) in
    sym (ne_eqb (count_by (λ p. bit_in wanted p && not (bit_in words p)) (range_with_len 0 (64 * length words))) 0
    (λ nothing. some (omega (arith, more, grows, c.loop-i.invariant, nothing))))

pub returns-then-wanted-k-ne0 : goal.returns-then-wanted-k-ne0
returns-then-wanted-k-ne0 c =
    let words = c.args.words.now in
    let wanted = c.args.wanted.now in
    let k = c.loop-k.k in
    let fit : (i : ℕ) → get_or words i 0 < 2 ^ 64 = λ i. (c.type_inv.words i).fits in
    let some : missing_in (get_or words k 0) (get_or wanted k 0) ≡ 0 → ⊥ =
    eqb-false (missing_in (get_or words k 0) (get_or wanted k 0)) 0
    (sym (missing_none (get_or words k 0) (get_or wanted k 0)) ∙ ne_eqb (bit_and (get_or wanted k 0) (bit_not w64 (get_or words k 0))) 0 c.if-wanted-k-ne0.true) in
    let more = more_missing words wanted fit k in
    let grows = missing_grows words wanted fit (64 * (k + 1)) (64 * length words) (omega (arith, c.loop-k-test.true)) in
    sym (ne_eqb (count_by (λ p. bit_in wanted p && not (bit_in words p)) (range_with_len 0 (64 * length words))) 0
    (λ nothing. some (omega (arith, more, grows, c.loop-k.invariant, nothing))))

pub returns : goal.returns
returns c =
    let words = c.args.words.now in
    let wanted = c.args.wanted.now in
    let end : length words ≡ c.loop-k.k = omega (arith, c.loop-k-test.false, c.loop-k.auto.k-end, c.as_chunks.ensures.front_len) in
    sym (eq-eqb (count_by (λ p. bit_in wanted p && not (bit_in words p)) (range_with_len 0 (64 * length words))) 0
    (ap (λ n. count_by (λ p. bit_in wanted p && not (bit_in words p)) (range_with_len 0 (64 * n))) end ∙ c.loop-k.invariant))
