use Rattle.std.proofs.Common.{◌≡◌, ◌++◌, ◌∷◌, [], ◌<◌, ℕ, cond, length, get_or, sym, ap, ◌∙◌, subst, arith}
use Rattle.std.specs.List.{filter, range_with_len}
use Rattle.std.proofs.lemmas.List.FromFn.{fill_by_all}
use Rattle.wp_task.specs.Set.{lists, AreAtoms}
use Rattle.wp_task.specs.Flat.{places_of}
use Rattle.wp_task.proofs.AddersLemmas.{filter-range_more}
use Rattle.wp_task.proofs.places.places_by_number.Goals as goal

pub push_to_each-requires : goal.push_to_each-requires
push_to_each-requires c =
    let flat = c.args.flat.now in
    let within : c.loop-place.place < length flat = omega (arith, c.loop-place-test.true) in
    let is : c.at.result.now ≡ get_or flat c.loop-place.place [] = c.at.ensures in
    rw c.loop-place.invariant.len (subst (AreAtoms c.args.count) (sym is) (c.requires.fits c.loop-place.place [] within))

pub loop-place-preserved : goal.loop-place-preserved
loop-place-preserved c =
    let flat = c.args.flat.now in
    let place = c.loop-place.place in
    record {
      len = c.in_ok-push_to_each.ensures.len ∙ c.loop-place.invariant.len;
      value = λ p below.
          c.in_ok-push_to_each.ensures.value p
          ∙ ((λ j. c.loop-place.invariant.value p below j ++ cond (lists (c.at.ensures j) p) (place ∷ []) [])
          ∙ sym (filter-range_more (λ a. lists (get_or flat a []) p) place));
    }

pub returns : goal.returns
returns c =
    let flat = c.args.flat.now in
    let all : c.loop-place.place ≡ length flat = omega arith in
    fill_by_all (places_of flat) c.loop-place.places.items c.args.count [] c.loop-place.invariant.len
    (λ p below. c.loop-place.invariant.value p below
    ∙ ap (λ (n : ℕ). filter (λ a. lists (get_or flat a []) p) (range_with_len 0 n)) all)
