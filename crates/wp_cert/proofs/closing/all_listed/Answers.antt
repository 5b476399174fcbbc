use Rattle.std.proofs.Common.{◌≡◌, ◌∙◌, ◌++◌, ◌∷◌, [], ℕ, List, ap, sym, get_or, map, take}
use Rattle.std.proofs.lemmas.List.{map_push, take_more}
use Rattle.wp_task.specs.Set.{atoms_in}
use Rattle.wp_cert.proofs.closing.all_listed.Goals as goal

pub loop-place-preserved : goal.loop-place-preserved
loop-place-preserved c =
    let sets = c.args.sets.now in
    let k = c.loop-place.place in
    record {
      so_far =
          c.in_ok-push_state.ensures.value
          ∙ ap (λ (l : List (List ℕ)). l ++ c.in_ok-listed.listed ∷ []) c.loop-place.invariant.so_far
          ∙ ap (λ (x : List ℕ). map atoms_in (take k sets) ++ x ∷ []) c.in_ok-listed.ensures.value
          ∙ sym (map_push atoms_in (take k sets) (get_or sets k []))
          ∙ ap (map atoms_in) (sym (take_more sets k [] c.loop-place-test.true));
      fits = c.in_ok-push_state.ensures.fits;
    }
