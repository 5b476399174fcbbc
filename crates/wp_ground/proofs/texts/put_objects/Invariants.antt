use Rattle.std.proofs.Common.{◌≡◌, ◌∷◌, ◌++◌, drop, map, List, ℕ}
use Rattle.std.specs.List.{flat_map}
use Rattle.wp_ground.specs.Texts.{object_text}
use Rattle.wp_ground.proofs.texts.put_objects.Given as goal

abbrev pub invariant-loop-object : goal.invariant-loop-object
invariant-loop-object l =
    l.out.items ++ flat_map (λ (arg : List ℕ). 32 ∷ arg) (map (object_text l.lifted) (drop l.object-index l.objects))
    ≡ l.fn.out.items ++ flat_map (λ (arg : List ℕ). 32 ∷ arg) (map (object_text l.lifted) l.objects)
