-- No name of a depot means nothing: its objects are few enough and known, and its atoms fit their predicates.
use Rattle.std.proofs.Common.{◌≡◌, ℕ, zero, suc, ◌+◌, ◌≤◌, ◌<◌, Bool, true, false, cond, not, ◌&&◌, ◌||◌, ltb, leb, List, [], ◌∷◌, ◌++◌, length, map, Option, Some, None, is_none, refl, sym, ap, ◌∙◌, arith, subst, inl, inr, length-append, zero-add, ◌==◌}
use Rattle.std.specs.Prelude.{codes, if◌then◌else◌}
use Rattle.std.specs.List.{AllByRecursion, list_any, position_or_len}
use Rattle.std.proofs.lemmas.Bool.{cases_eq}
use Rattle.std.proofs.lemmas.Bool.Decides.{nat_tests}
use Rattle.std.proofs.lemmas.List.{length-map}
use Rattle.std.proofs.lemmas.List.Folds.{list_any-append}
use Rattle.wp_syntax.specs.declared.error.Part.TheVariants as parts
use Rattle.wp_syntax.specs.declared.error.PddlKind.TheVariants.{TooMany}
use Rattle.wp_syntax.specs.declared.records.Name.{Name}
use Rattle.wp_syntax.specs.declared.records.AtomText.{AtomText}
use Rattle.wp_syntax.specs.declared.records.InitItem.{InitItem}
use Rattle.wp_syntax.specs.Typing.{with_kinds as typed_with}
use Rattle.wp_lift.specs.declared.atoms.GroundAtom.{GroundAtom}
use Rattle.wp_lift.specs.declared.schemas.Pred.{Pred}
use Rattle.wp_lift.specs.declared.schemas.Slot.{Slot}
use Rattle.wp_lift.specs.declared.schemas.Slot.TheVariants.{Object}
use Rattle.wp_lift.specs.declared.objects.Known.{Known}
use Rattle.wp_lift.specs.Worlds.{grounded, is_same_args}
use Rattle.wp_lift.specs.Names.{number_of}
use Rattle.wp_lift.specs.Walk.{Walk, fine, wrong_if, each, each_after, ◌>>=◌, ◌>>◌}
use Rattle.wp_lift.specs.Lifting.{Naming, atom_of, ground_atom_of, is_variable, object_by, object_of, param_by, slot_of, stated_after, with_kinds, with_object}
use Rattle.wp_gen.proofs.ProblemForms.{place_name, parcel_name}
use Rattle.wp_gen.proofs.ReadProblems.{AreItems, IsDepotAtom, KnowsNames, lies, names_from, object_names, road, truck}

-- ---- what is known
abbrev pub is_known : List (List ℕ) → List ℕ → Bool
is_known names name = list_any (is_same_args name) names

same_self : (name : List ℕ) → is_same_args name name ≡ true
same_self [] = refl
same_self (byte ∷ name) = ap (λ (b : Bool). b && is_same_args name name) (same_byte byte) ∙ same_self name where
  same_byte : (byte : ℕ) → (byte == byte) ≡ true
  same_byte byte = grind (arith, nat_tests)

or_true : (b : Bool) → (b || true) ≡ true
or_true true = refl
or_true false = refl

or_left : (a b : Bool) → a ≡ true → (a || b) ≡ true
or_left true b e = refl
or_left false b e = cc

known_more : (names : List (List ℕ)) (name new : List ℕ) → is_known names name ≡ true → is_known (names ++ new ∷ []) name ≡ true
known_more names name new e =
    list_any-append (is_same_args name) names (new ∷ [])
    ∙ or_left (is_known names name) (is_known (new ∷ []) name) e

known_new : (names : List (List ℕ)) (name : List ℕ) → is_known (names ++ name ∷ []) name ≡ true
known_new names name =
    list_any-append (is_same_args name) names (name ∷ [])
    ∙ (λ j. is_known names name || (same_self name j || false))
    ∙ or_true (is_known names name)

found_place : (name : List ℕ) (names : List (List ℕ)) → is_known names name ≡ true
    → position_or_len (is_same_args name) names < length names
found_place name [] e = cc
found_place name (first ∷ names) e =
    elim (is_same_args name first) as (λ b. (b || is_known names name) ≡ true
    → cond (not b) (1 + position_or_len (is_same_args name) names) 0 < length (first ∷ names)) [
      | true ↦ λ e. omega arith
      | false ↦ λ e. let before = found_place name names e in omega (arith, before)
    ] e

found : (names : List (List ℕ)) (name : List ℕ) → is_known names name ≡ true → (n : ℕ) × (number_of name names ≡ Some n)
found names name e =
    let place = position_or_len (is_same_args name) names in
    let before = found_place name names e in
    let test : ltb place (length names) ≡ true = grind (arith, nat_tests) in
    (place, (λ j. cond (test j) (Some place) None))

unfound_place : (name : List ℕ) (names : List (List ℕ)) → is_known names name ≡ false
    → position_or_len (is_same_args name) names ≡ length names
unfound_place name [] e = refl
unfound_place name (first ∷ names) e =
    elim (is_same_args name first) as (λ b. (b || is_known names name) ≡ false
    → cond (not b) (1 + position_or_len (is_same_args name) names) 0 ≡ length (first ∷ names)) [
      | true ↦ λ e. cc
      | false ↦ λ e. let all = unfound_place name names e in omega (arith, all)
    ] e

unfound : (names : List (List ℕ)) (name : List ℕ) → is_known names name ≡ false → number_of name names ≡ None
unfound names name e =
    let place = position_or_len (is_same_args name) names in
    let all = unfound_place name names e in
    let test : ltb place (length names) ≡ false = grind (arith, nat_tests) in
    λ j. cond (test j) (Some place) None

-- ---- objects
abbrev pub object_types : List (List ℕ)
object_types = codes "object" ∷ []

-- the names grow by one at most, keep what they know and know the new one
record Grows (before after : List (List ℕ)) (name : List ℕ) : Type 0 where
  long : length after ≤ length before + 1
  keeps : (other : List ℕ) → is_known before other ≡ true → is_known after other ≡ true
  knows : is_known after name ≡ true

abbrev Grown : Known → List ℕ → List ℕ → Option ℕ → Type 0
Grown known name kinds number = Grows known.names (with_kinds number known name kinds).names name

grown : (known : Known) (name kinds : List ℕ) → Grows known.names (with_object known name kinds).names name
grown known name kinds =
    elim (is_known known.names name) as (λ b. is_known known.names name ≡ b → Grown known name kinds (number_of name known.names)) [
      | true ↦ λ is.
          let number = found known.names name is in
          subst (Grown known name kinds) (sym number.1) (record { long = omega arith; keeps = λ other has. has; knows = is })
      | false ↦ λ is.
          subst (Grown known name kinds) (sym (unfound known.names name is)) (record {
            long = omega (arith, length-append known.names (name ∷ []));
            keeps = λ other has. known_more known.names other name has;
            knows = known_new known.names name;
          })
    ] refl

and_false : (a b : Bool) → b ≡ false → (a && b) ≡ false
and_false true b e = e
and_false false b e = refl

object_fine : (known : Known) (name : Name) → length known.names < 65536
    → object_of parts.Problem object_types known (record { name = name; kinds = [] }) ≡ fine (with_object known name.text (0 ∷ []))
unfolding object_of
object_fine known name few =
    let within : leb 65536 (length known.names) ≡ false = grind (arith, nat_tests) in
    let none = and_false (is_none (number_of name.text known.names)) (leb 65536 (length known.names)) within in
    λ j. wrong_if (none j) parts.Problem (TooMany 65536) name.at >> fine (with_object known name.text (0 ∷ []))

-- the objects are taken, and all their names are known
pub record AreTaken (names : List Name) (before : Known) : Type 0 where
  pub after : Known
  pub lifts : each_after (object_of parts.Problem object_types) before (typed_with [] names) ≡ fine after
  pub keeps : (other : List ℕ) → is_known before.names other ≡ true → is_known after.names other ≡ true
  pub knows : AllByRecursion (λ (text : List ℕ). is_known after.names text ≡ true) (map (λ (name : Name). name.text) names)

taken : (names : List Name) (before : Known) → length before.names + length names ≤ 65536 → AreTaken names before
taken [] before few = record { after = before; lifts = refl; keeps = λ other has. has; knows = tt }
taken (name ∷ names) before few =
    let next = with_object before name.text (0 ∷ []) in
    let grows = grown before name.text (0 ∷ []) in
    let later = taken names next (omega (arith, grows.long)) in record {
      after = later.after;
      lifts =
          ap (λ (walk : Walk Known). walk >>= λ known. each_after (object_of parts.Problem object_types) known (typed_with [] names))
          (object_fine before name (omega arith))
          ∙ later.lifts;
      keeps = λ other has. later.keeps other (grows.keeps other has);
      knows = (later.keeps name.text grows.knows, later.knows);
    }

names_length : (name : ℕ → List ℕ) (i n : ℕ) (rest : List (List ℕ)) → length (names_from name i n rest) ≡ n + length rest
names_length name i zero rest = sym (zero-add (length rest))
names_length name i (suc n) rest =
    let more : suc (n + length rest) ≡ suc n + length rest = omega arith in
    ap suc (names_length name (i + 1) n rest) ∙ more

object_count : (size : ℕ) → length (object_names size) ≡ size + size
object_count size = omega (arith, names_length place_name 0 size (names_from parcel_name 0 size []), names_length parcel_name 0 size [])

abbrev pub no_objects : Known
no_objects = record { names = []; kinds = [] }

pub objects_taken : (names : List Name) (size : ℕ) → size ≤ 64 → map (λ (name : Name). name.text) names ≡ object_names size
    → AreTaken names no_objects
objects_taken names size few texts =
    taken names no_objects
    (omega (arith, ap length texts, length-map names (λ (name : Name). name.text), object_count size))

each_holds : (P : List ℕ → Type 0) (name : ℕ → List ℕ) (i n : ℕ) (rest : List (List ℕ)) → AllByRecursion P (names_from name i n rest)
    → ((k : ℕ) → i ≤ k → k < i + n → P (name k)) × AllByRecursion P rest
each_holds P name i zero rest all = (λ k from to. absurd (omega arith), all)
each_holds P name i (suc n) rest (first, all) =
    let later = each_holds P name (i + 1) n rest all in (
      λ k from to. elim (cases_eq k i) [
        | inl same ↦ subst (λ (k : ℕ). P (name k)) (sym same) first
        | inr other ↦ later.0 k (omega arith) (omega arith)
      ],
      later.1,
    )

-- a term that is a known name
abbrev pub IsTerm : List (List ℕ) → List ℕ → Type 0
IsTerm names text = (is_variable text ≡ false) × (is_known names text ≡ true)

pub names_known : (known : List (List ℕ)) (size : ℕ)
    → AllByRecursion (λ (text : List ℕ). is_known known text ≡ true) (object_names size) → KnowsNames (IsTerm known) size
names_known known size all =
    let places = each_holds (λ (text : List ℕ). is_known known text ≡ true) place_name 0 size (names_from parcel_name 0 size []) all in
    let parcels = each_holds (λ (text : List ℕ). is_known known text ≡ true) parcel_name 0 size [] places.1 in record {
      places = λ k lt. (refl, places.0 k (omega arith) (omega arith));
      parcels = λ k lt. (refl, parcels.0 k (omega arith) (omega arith));
    }

-- ---- atoms
abbrev pub depot_preds : List Pred
depot_preds =
    record { name = codes "road"; arity = 2 } ∷ record { name = codes "truck"; arity = 1 }
    ∷ record { name = codes "at"; arity = 2 } ∷ record { name = codes "held"; arity = 1 } ∷ []

abbrev pub naming : List (List ℕ) → Naming
naming names = record { part = parts.Problem; preds = depot_preds; objects = names; params = [] }

slot_fine : (names : List (List ℕ)) (term : Name) → IsTerm names term.text → (slot : Slot) × (slot_of (naming names) term ≡ fine slot)
unfolding slot_of
slot_fine names term (plain, is) =
    let number = found names term.text is in (
      Object number.0,
      (λ j. elim (plain j) as (λ _. Walk Slot) [
        | true ↦ param_by parts.Problem term.at (number_of term.text [])
        | false ↦ object_by parts.Problem term.at (number_of term.text names)
      ])
          ∙ ap (object_by parts.Problem term.at) number.1,
    )

abbrev of_pred : ℕ → Walk (List Slot) → Walk GroundAtom
of_pred pred walk = (walk >>= λ slots. fine (record { pred = pred; slots = slots })) >>= λ atom. fine (grounded [] atom)

abbrev one_slot : Walk Slot → Walk (List Slot)
one_slot first = first >>= λ y. fine (y ∷ [])

abbrev two_slots : Walk Slot → Walk Slot → Walk (List Slot)
two_slots first second = first >>= λ y. (second >>= λ z. fine (z ∷ [])) >>= λ ys. fine (y ∷ ys)

abbrev IsFine : {A : Type 0} → Walk A → Type 0
IsFine {A} walk = (value : A) × (walk ≡ fine value)

atom_fine : (names : List (List ℕ)) (atom : AtomText) → IsDepotAtom (IsTerm names) atom → IsFine (ground_atom_of (naming names) atom)
unfolding ground_atom_of atom_of
atom_fine names _ (truck i j a is) =
    let first = slot_fine names (record { text = a; at = j }) is in
    (_, ap (λ (walk : Walk Slot). of_pred 1 (one_slot walk)) first.1)
atom_fine names _ (road i j k a b is known) =
    let first = slot_fine names (record { text = a; at = j }) is in
    let second = slot_fine names (record { text = b; at = k }) known in
    (_, (λ l. of_pred 0 (two_slots (first.1 l) (second.1 l))))
atom_fine names _ (lies i j k a b is known) =
    let first = slot_fine names (record { text = a; at = j }) is in
    let second = slot_fine names (record { text = b; at = k }) known in
    (_, (λ l. of_pred 2 (two_slots (first.1 l) (second.1 l))))

pub stated_fine : (names : List (List ℕ)) (items : List InitItem) (atoms : List GroundAtom) → AreItems (IsTerm names) items
    → IsFine (each_after (stated_after (naming names)) atoms items)
unfolding stated_after
stated_fine names [] atoms all = (atoms, refl)
stated_fine names (item ∷ items) atoms (is, all) =
    let first = atom_fine names item.atom is in
    let next : List GroundAtom = if item.stated then atoms ++ first.0 ∷ [] else atoms in
    let later = stated_fine names items next all in (
      later.0,
      ap (λ (walk : Walk GroundAtom). (walk >>= λ atom. fine (if item.stated then atoms ++ atom ∷ [] else atoms))
          >>= λ next. each_after (stated_after (naming names)) next items) first.1
          ∙ later.1,
    )

pub goals_fine : (names : List (List ℕ)) (atoms : List AtomText) → AllByRecursion (IsDepotAtom (IsTerm names)) atoms
    → IsFine (each (ground_atom_of (naming names)) atoms)
goals_fine names [] all = ([], refl)
goals_fine names (atom ∷ atoms) (is, all) =
    let first = atom_fine names atom is in
    let later = goals_fine names atoms all in
    (first.0 ∷ later.0, (λ j. first.1 j >>= λ y. later.1 j >>= λ ys. fine (y ∷ ys)))
