-- An object fits a parameter by the declared pairs of types.
use Rattle.std.proofs.Common.{◌≡◌, ◌↔◌, ℕ, ◌<◌, Bool, true, false, List, [], length, get_or, refl, sym, ◌∙◌, ap, subst}
use Rattle.std.specs.List.{All, Contains, list_any}
use Rattle.std.proofs.lemmas.List.Elements.{All-nil}
use Rattle.wp_syntax.specs.declared.error.Part.TheVariants as parts
use Rattle.wp_syntax.specs.declared.records.Typed.{Typed}
use Rattle.wp_syntax.specs.declared.records.Domain.{Domain}
use Rattle.wp_syntax.specs.declared.records.Problem.{Problem}
use Rattle.wp_lift.specs.Problem.{Lifting, wanted_at}
use Rattle.wp_lift.specs.Walk.{Walk}
use Rattle.wp_lift.specs.Typing.{IsSubtype, HasSubtype, types_of, pairs_of, subtypes_of}
use Rattle.wp_lift.specs.Lifting.{lifting_of}
use Rattle.wp_lift.specs.Formed.{AreKinds}
use Rattle.wp_lift.specs.Laws.{ObjectsFitBySubtypes}
use Rattle.wp_lift.proofs.KindLemmas.{at-place}
use Rattle.wp_lift.proofs.FormedLemmas.{made-formed}
use Rattle.wp_lift.proofs.SubtypeLemmas.{any_at, any_found, rows-subtypes, subtypes_length}

member : {A : Type 0} (P : A → Type 0) (xs : List A) (x : A) → All P xs → Contains xs x → P x
member P xs x all found = subst P found.2 (all found.0 x found.1)

-- kinds in range, whose rows are the computed ones
fits_by : (types : List (List ℕ)) (declared : List Typed) (subtypes : List (List Bool)) (kinds wanted : List ℕ) → subtypes ≡ subtypes_of types declared
    → All (λ (kind : ℕ). kind < length subtypes) kinds → All (λ (kind : ℕ). kind < length subtypes) wanted
    → (list_any (λ kind. list_any (λ above. get_or (get_or subtypes kind []) above false) wanted) kinds ≡ true)
    ↔ HasSubtype (pairs_of types declared) kinds wanted
fits_by types declared subtypes kinds wanted same kinds_there wanted_there =
    let count : length subtypes ≡ length types = ap length same ∙ subtypes_length types declared in
    let row : (kind above : ℕ) → Contains kinds kind → Contains wanted above
    → (get_or (get_or subtypes kind []) above false ≡ true) ↔ IsSubtype (pairs_of types declared) kind above =
    λ kind above has wants.
    let low : kind < length types = subst (λ n. kind < n) count (member (λ (kind : ℕ). kind < length subtypes) kinds kind kinds_there has) in
    let high : above < length types = subst (λ n. above < n) count (member (λ (kind : ℕ). kind < length subtypes) wanted above wanted_there wants) in
    subst (λ rows. (get_or (get_or rows kind []) above false ≡ true) ↔ IsSubtype (pairs_of types declared) kind above) (sym same)
    (rows-subtypes types declared kind above low high) in (
      λ yes.
          let outer = any_found (λ kind. list_any (λ above. get_or (get_or subtypes kind []) above false) wanted) kinds yes in
          let inner = any_found (λ above. get_or (get_or subtypes outer.0 []) above false) wanted outer.2 in
          record {
            kind = outer.0;
            above = inner.0;
            has = outer.1;
            wants = inner.1;
            below = (row outer.0 inner.0 outer.1 inner.1).0 inner.2;
          },
      λ has.
          let inner = any_at (λ above. get_or (get_or subtypes has.kind []) above false) wanted has.wants.0 has.above has.wants.1 has.wants.2
          ((row has.kind has.above has.has has.wants).1 has.below) in
          any_at (λ kind. list_any (λ above. get_or (get_or subtypes kind []) above false) wanted) kinds has.has.0 has.kind has.has.1 has.has.2 inner,
    )

subtypes_are : (domain : Domain) (problem : Problem) → (lifting_of domain problem).value.subtypes ≡ subtypes_of (types_of parts.Domain domain.types).value domain.types
unfolding lifting_of
subtypes_are domain problem = refl

pub fit-subtypes : ObjectsFitBySubtypes
fit-subtypes domain problem lifted e schema place object =
    let formed = made-formed domain problem lifted e in
    let none : All (λ (kind : ℕ). kind < length lifted.subtypes) [] = All-nil (λ (kind : ℕ). kind < length lifted.subtypes) in
    fits_by (types_of parts.Domain domain.types).value domain.types lifted.subtypes (get_or lifted.kinds object []) (wanted_at lifted schema place)
    (sym (ap (λ (walk : Walk Lifting). walk.value.subtypes) e) ∙ subtypes_are domain problem)
    (at-place (AreKinds lifted) lifted.kinds [] formed.objects_kinds none object)
    (at-place (AreKinds lifted) (get_or lifted.wanted schema []) []
    (at-place (All (AreKinds lifted)) lifted.wanted [] formed.schemas_kinds (All-nil (AreKinds lifted)) schema) none place)
