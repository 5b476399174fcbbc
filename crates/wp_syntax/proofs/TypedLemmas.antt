-- Typed lists: they are read without a fault exactly where the grammar has them.
use Rattle.std.proofs.Common.{◌≡◌, ℕ, ◌+◌, ◌||◌, Bool, true, false, leb, not, List, [], ◌∷◌, ◌++◌, length, map, refl, sym, ap, subst, ◌∙◌, arith, length-append, append_assoc}
use Rattle.std.specs.Prelude.{codes}
use Rattle.std.specs.List.{list_any}
use Rattle.std.specs.Str.{bytes_eq}
use Rattle.std.proofs.lemmas.Bool.{leb-false}
use Rattle.std.proofs.lemmas.List.{length-map, map-append}
use Rattle.std.proofs.lemmas.List.Folds.{list_any-append}
use Rattle.wp_lex.specs.Trees.{Tree, Trees, Leaf, Branch, End, Then}
use Rattle.wp_syntax.specs.declared.error.ReadKind.TheVariants.{Shape, Duplicate, TooMany}
use Rattle.wp_syntax.specs.declared.records.Name.{Name}
use Rattle.wp_syntax.specs.declared.records.Typed.{Typed}
use Rattle.wp_syntax.specs.declared.typing.Role.{Role}
use Rattle.wp_syntax.specs.declared.typing.Role.TheVariants as roles
use Rattle.wp_syntax.specs.Word.{is_dash, is_name, is_variable}
use Rattle.wp_syntax.specs.Named.{most_params}
use Rattle.wp_syntax.specs.Reading.{Read, fine, wrong_if, ◌>>=◌, ◌>>◌}
use Rattle.wp_syntax.specs.Grammar.{name_at}
use Rattle.wp_syntax.specs.Typing.{is_empty, with_kinds, is_typed, is_named, word_of, kind_of, kinds_of, either_of, typed_of, grouped_of}
use Rattle.wp_syntax.specs.Phrases.{IsWordThat, IsKind, of_name, of_either, in_front, AreWords, IsTyped, of_rest, of_group, is_word_of, AreAllowed, words_in, IsTypedList}
use Rattle.wp_syntax.proofs.FaultLemmas.{append_none, none_before, none_behind, not_faulty}
use Rattle.wp_syntax.proofs.Heads.{same_word, passed}
use Rattle.wp_syntax.proofs.ConjunctionLemmas.{Alone, each_holds, each_reads}
use Rattle.wp_syntax.proofs.DeclaredLemmas.{has_swapped, none_declared, declared_push, declared_new, declared_within}

abbrev texts_of : List Name → List (List ℕ)
texts_of names = map (λ (name : Name). name.text) names

-- all names so far: those that have their kinds, and those that wait for it
abbrev so_far : List Typed → List Name → List (List ℕ)
so_far done group = words_in done ++ texts_of group

-- ---- lists of names
words_with : (kinds group : List Name) → words_in (with_kinds kinds group) ≡ texts_of group
words_with kinds [] = refl
words_with kinds (name ∷ names) = ap (λ texts. name.text ∷ texts) (words_with kinds names)

done_with : (done : List Typed) (kinds group : List Name) → words_in (done ++ with_kinds kinds group) ≡ so_far done group
done_with done kinds group =
    map-append (λ (one : Typed). one.name.text) done (with_kinds kinds group) ∙ ap (λ texts. words_in done ++ texts) (words_with kinds group)

texts_push : (group : List Name) (name : Name) (rest : List (List ℕ)) → texts_of (group ++ name ∷ []) ++ rest ≡ texts_of group ++ name.text ∷ rest
texts_push [] name rest = refl
texts_push (first ∷ group) name rest = ap (λ texts. first.text ∷ texts) (texts_push group name rest)

front_push : (names : List Name) (name : Name) (rest : Trees) → in_front (names ++ name ∷ []) rest ≡ in_front names (Then (Leaf name.text name.at) rest)
front_push [] name rest = refl
front_push (first ∷ names) name rest = ap (λ trees. Then (Leaf first.text first.at) trees) (front_push names name rest)

words_push : (test : List ℕ → Bool) (names : List Name) (name : Name) → AreWords test names → test name.text ≡ true
    → AreWords test (names ++ name ∷ [])
words_push test [] name are is = (is, tt)
words_push test (first ∷ names) name are is = (are.0, words_push test names name are.1 is)

-- ---- a word
none_of_both : (a b : Bool) → (a || b) ≡ false → (a ≡ false) × (b ≡ false)
none_of_both true b e = cc
none_of_both false b e = (refl, e)

any_so_far : (text : List ℕ) (done : List Typed) (group : List Name)
    → list_any (bytes_eq text) (so_far done group) ≡ (is_typed text done || is_named text group)
any_so_far text done group =
    list_any-append (bytes_eq text) (words_in done) (texts_of group)
    ∙ λ j. has_swapped (λ (typed : Typed). typed.name) text done j || has_swapped (λ (name : Name). name) text group j

count_so_far : (done : List Typed) (group : List Name) → length (so_far done group) ≡ length done + length group
count_so_far done group =
    length-append (words_in done) (texts_of group)
    ∙ λ j. length-map done (λ (one : Typed). one.name.text) j + length-map group (λ (name : Name). name.text) j

record Takes (role : Role) (names : List (List ℕ)) (text : List ℕ) : Type 0 where
  word : is_word_of role text ≡ true
  allowed : AreAllowed role (names ++ text ∷ [])

word_holds : (role : Role) (done : List Typed) (group : List Name) (text : List ℕ) (at : ℕ) → (word_of role done group text at).faults ≡ []
    → AreAllowed role (so_far done group) → Takes role (so_far done group) text
word_holds roles.Names done group text at none allowed = record { word = passed (is_name text) Shape at none; allowed = tt }
word_holds roles.Predicate done group text at none allowed =
    let limit = not_faulty (leb most_params (length done + length group)) (record { kind = TooMany most_params; at = at })
    (none_behind (wrong_if (not (is_variable text)) Shape at).faults _ none) in
    let less = leb-false most_params (length done + length group) limit in
    record {
      word = passed (is_variable text) Shape at (none_before (wrong_if (not (is_variable text)) Shape at).faults _ none);
      allowed = omega (arith, length-append (so_far done group) (text ∷ []), count_so_far done group);
    }
word_holds roles.Action done group text at none allowed =
    let seen = is_typed text done || is_named text group in
    let behind = none_behind (wrong_if (not (is_variable text)) Shape at).faults _ none in
    let new = not_faulty seen (record { kind = Duplicate; at = at }) (none_before (wrong_if seen Duplicate at).faults _ behind) in
    let limit = not_faulty (leb most_params (length done + length group)) (record { kind = TooMany most_params; at = at })
    (none_behind (wrong_if seen Duplicate at).faults _ behind) in
    record {
      word = passed (is_variable text) Shape at (none_before (wrong_if (not (is_variable text)) Shape at).faults _ none);
      allowed = declared_push most_params (so_far done group) text allowed (any_so_far text done group ∙ new)
          (ap (leb most_params) (count_so_far done group) ∙ limit);
    }

word_reads : (role : Role) (done : List Typed) (group : List Name) (text : List ℕ) (at : ℕ) (rest : List (List ℕ)) → is_word_of role text ≡ true
    → AreAllowed role (so_far done group ++ text ∷ rest) → word_of role done group text at ≡ fine tt
word_reads roles.Names done group text at rest is allowed = λ j. wrong_if (not (is j)) Shape at
word_reads roles.Predicate done group text at rest is allowed =
    let within = ap (leb most_params) (sym (count_so_far done group)) ∙ declared_within most_params (so_far done group) text rest allowed in
    λ j. wrong_if (not (is j)) Shape at >> wrong_if (within j) (TooMany most_params) at
word_reads roles.Action done group text at rest is allowed =
    let within = ap (leb most_params) (sym (count_so_far done group)) ∙ declared_within most_params (so_far done group) text rest allowed.few in
    let new = sym (any_so_far text done group) ∙ declared_new most_params (so_far done group) text rest allowed in
    λ j. wrong_if (not (is j)) Shape at >> (wrong_if (new j) Duplicate at >> wrong_if (within j) (TooMany most_params) at)

-- ---- kinds
kind_holds : (tree : Tree) → (kind_of tree).faults ≡ [] → Alone (IsWordThat is_name) tree (kind_of tree).value
kind_holds (Leaf text at) none = record {
  item = name_at text at;
  only = refl;
  is = (passed (is_name text) Shape at (none_before (wrong_if (not (is_name text)) Shape at).faults [] none), refl);
}
kind_holds (Branch at trees) none = cc

kind_reads : (tree : Tree) (name : Name) → IsWordThat is_name tree name → kind_of tree ≡ fine (name ∷ [])
kind_reads (Leaf text at) name (good, same) = λ j. wrong_if (not (good j)) Shape at >> fine (sym same j ∷ [])
kind_reads (Branch at trees) name is = absurd is

either_holds : (at : ℕ) (trees : Trees) → (either_of at trees).faults ≡ [] → IsKind (Branch at trees) (either_of at trees).value
either_holds at End none = cc
either_holds at (Then (Branch i trees) rest) none = cc
either_holds at (Then (Leaf word i) End) none = cc
either_holds at (Then (Leaf word i) (Then kind kinds)) none =
    let word_is = passed (bytes_eq word (codes "either")) Shape at
    (none_before (wrong_if (not (bytes_eq word (codes "either"))) Shape at).faults _ none) in
    let names = (kinds_of (Then kind kinds)).value in
    subst (λ (w : List ℕ). IsKind (Branch at (Then (Leaf w i) (Then kind kinds))) names) (sym (same_word word (codes "either") word_is))
    (of_either at i kind kinds names (each_holds kind_of (IsWordThat is_name) kind_holds (Then kind kinds)
    (none_behind (wrong_if (not (bytes_eq word (codes "either"))) Shape at).faults _ none)))

-- ---- lists
record Lists (role : Role) (done : List Typed) (trees : Trees) (typed : List Typed) : Type 0 where
  more : List Typed
  all : typed ≡ done ++ more
  list : IsTyped (is_word_of role) trees more
  allowed : AreAllowed role (words_in (done ++ more))

-- what is read behind a group and its kind
behind_group : (role : Role) (done : List Typed) (first : Name) (names : List Name) (dash : ℕ) (kind : Tree) (kinds : List Name) (rest : Trees)
    (typed : List Typed) → AreWords (is_word_of role) (first ∷ names) → IsKind kind kinds
    → Lists role (done ++ with_kinds kinds (first ∷ names)) rest typed
    → Lists role done (in_front (first ∷ names) (Then (Leaf (codes "-") dash) (Then kind rest))) typed
behind_group role done first names dash kind kinds rest typed are is it =
    let group = with_kinds kinds (first ∷ names) in
    record {
      more = group ++ it.more;
      all = it.all ∙ append_assoc done group it.more;
      list = of_group first names dash kind kinds rest it.more are is it.list;
      allowed = subst (λ (list : List Typed). AreAllowed role (words_in list)) (append_assoc done group it.more) it.allowed;
    }

given : (role : Role) (done : List Typed) (kinds group : List Name) → AreAllowed role (so_far done group)
    → AreAllowed role (so_far (done ++ with_kinds kinds group) [])
given role done kinds group allowed =
    subst (AreAllowed role) (sym (append_none (words_in (done ++ with_kinds kinds group)) ∙ done_with done kinds group)) allowed

mutual
  typed_holds : (role : Role) (done : List Typed) (group : List Name) (trees : Trees) → AreWords (is_word_of role) group
      → AreAllowed role (so_far done group) → (typed_of role done group trees).faults ≡ []
      → Lists role done (in_front group trees) (typed_of role done group trees).value
  typed_holds role done group End are allowed none = record {
    more = with_kinds [] group;
    all = refl;
    list = of_rest group are;
    allowed = subst (AreAllowed role) (sym (done_with done [] group)) allowed;
  }
  typed_holds role done group (Then (Branch at trees) rest) are allowed none = cc
  typed_holds role done group (Then (Leaf text at) rest) are allowed none =
      elim (is_dash text) as (λ k. is_dash text ≡ k → let r : Read (List Typed) = elim k [
        | true ↦ wrong_if (is_empty group) Shape at >> grouped_of role done group at rest
        | false ↦ word_of role done group text at >> typed_of role done (group ++ name_at text at ∷ []) rest
      ] in r.faults ≡ [] → Lists role done (in_front group (Then (Leaf text at) rest)) r.value) [
        | true ↦ λ e none.
            let empty = wrong_if (is_empty group) Shape at in
            subst (λ (w : List ℕ). Lists role done (in_front group (Then (Leaf w at) rest)) (grouped_of role done group at rest).value)
            (sym (same_word text (codes "-") e))
            (grouped_holds role done group at rest are allowed
            (not_faulty (is_empty group) (record { kind = Shape; at = at }) (none_before empty.faults _ none))
            (none_behind empty.faults _ none))
        | false ↦ λ e none.
            let name = name_at text at in
            let word = word_of role done group text at in
            let takes = word_holds role done group text at (none_before word.faults _ none) allowed in
            subst (λ (trees : Trees). Lists role done trees (typed_of role done (group ++ name ∷ []) rest).value) (front_push group name rest)
            (typed_holds role done (group ++ name ∷ []) rest (words_push (is_word_of role) group name are takes.word)
            (subst (AreAllowed role)
            (append_assoc (words_in done) (texts_of group) (text ∷ [])
            ∙ ap (λ texts. words_in done ++ texts) (sym (texts_push group name []) ∙ append_none (texts_of (group ++ name ∷ []))))
            takes.allowed)
            (none_behind word.faults _ none))
      ] refl none

  grouped_holds : (role : Role) (done : List Typed) (group : List Name) (dash : ℕ) (trees : Trees) → AreWords (is_word_of role) group
      → AreAllowed role (so_far done group) → is_empty group ≡ false → (grouped_of role done group dash trees).faults ≡ []
      → Lists role done (in_front group (Then (Leaf (codes "-") dash) trees)) (grouped_of role done group dash trees).value
  grouped_holds role done [] dash trees are allowed some none = cc
  grouped_holds role done (first ∷ names) dash End are allowed some none = cc
  grouped_holds role done (first ∷ names) dash (Then (Leaf text at) rest) are allowed some none =
      let kind = name_at text at in
      let test = wrong_if (not (is_name text)) Shape dash in
      behind_group role done first names dash (Leaf text at) (kind ∷ []) rest _ are
      (of_name (Leaf text at) kind (passed (is_name text) Shape dash (none_before test.faults _ none), refl))
      (typed_holds role (done ++ with_kinds (kind ∷ []) (first ∷ names)) [] rest tt (given role done (kind ∷ []) (first ∷ names) allowed)
      (none_behind test.faults _ none))
  grouped_holds role done (first ∷ names) dash (Then (Branch at trees) rest) are allowed some none =
      let either = either_of at trees in
      behind_group role done first names dash (Branch at trees) either.value rest _ are
      (either_holds at trees (none_before either.faults _ none))
      (typed_holds role (done ++ with_kinds either.value (first ∷ names)) [] rest tt (given role done either.value (first ∷ names) allowed)
      (none_behind either.faults _ none))

dash_is_none : (role : Role) → is_word_of role (codes "-") ≡ true → ⊥
dash_is_none roles.Names e = cc
dash_is_none roles.Predicate e = cc
dash_is_none roles.Action e = cc

no_dash : (role : Role) (text : List ℕ) → is_word_of role text ≡ true → is_dash text ≡ false
no_dash role text is = elim (is_dash text) as (λ k. is_dash text ≡ k → k ≡ false) [
  | true ↦ λ e. let dash : is_word_of role (codes "-") ≡ true = subst (λ (w : List ℕ). is_word_of role w ≡ true) (same_word text (codes "-") e) is in
      absurd (dash_is_none role dash)
  | false ↦ λ e. refl
] refl

words_read : (role : Role) (done : List Typed) (group names : List Name) (trees : Trees) (rest : List (List ℕ)) → AreWords (is_word_of role) names
    → AreAllowed role (words_in done ++ (texts_of group ++ (texts_of names ++ rest)))
    → typed_of role done group (in_front names trees) ≡ typed_of role done (group ++ names) trees
words_read role done group [] trees rest are allowed = ap (λ (group : List Name). typed_of role done group trees) (sym (append_none group))
words_read role done group (name ∷ names) trees rest are allowed =
    let more = group ++ name ∷ [] in
    let after : Trees = in_front names trees in
    ap (λ k. let r : Read (List Typed) = elim k [
      | true ↦ wrong_if (is_empty group) Shape name.at >> grouped_of role done group name.at after
      | false ↦ word_of role done group name.text name.at >> typed_of role done more after
    ] in r) (no_dash role name.text are.0)
    ∙ ap (λ (w : Read (Unit {0})). w >> typed_of role done more after)
    (word_reads role done group name.text name.at (texts_of names ++ rest) are.0
    (subst (AreAllowed role) (sym (append_assoc (words_in done) (texts_of group) (name.text ∷ (texts_of names ++ rest)))) allowed))
    ∙ words_read role done more names trees rest are.1
    (subst (AreAllowed role) (ap (λ texts. words_in done ++ texts) (sym (texts_push group name (texts_of names ++ rest)))) allowed)
    ∙ ap (λ (group : List Name). typed_of role done group trees) (append_assoc group (name ∷ []) names)

grouped_reads : (role : Role) (done : List Typed) (group : List Name) (dash : ℕ) (rest : Trees) (kind : Tree) (kinds : List Name) → IsKind kind kinds
    → grouped_of role done group dash (Then kind rest) ≡ typed_of role (done ++ with_kinds kinds group) [] rest
grouped_reads role done group dash rest _ _ (of_name (Leaf text at) name (good, same)) =
    λ j. wrong_if (not (good j)) Shape dash >> typed_of role (done ++ with_kinds (sym same j ∷ []) group) [] rest
grouped_reads role done group dash rest _ _ (of_name (Branch at trees) name is) = absurd is
grouped_reads role done group dash rest _ _ (of_either at i first more names are) =
    λ j. each_reads kind_of (IsWordThat is_name) kind_reads (Then first more) names are j >>= λ kinds. typed_of role (done ++ with_kinds kinds group) [] rest

-- the words of a group and those behind it
all_words : (done : List Typed) (kinds group : List Name) (typed : List Typed)
    → words_in (done ++ (with_kinds kinds group ++ typed)) ≡ words_in done ++ (texts_of group ++ words_in typed)
all_words done kinds group typed =
    map-append (λ (one : Typed). one.name.text) done (with_kinds kinds group ++ typed)
    ∙ ap (λ texts. words_in done ++ texts) (map-append (λ (one : Typed). one.name.text) (with_kinds kinds group) typed
    ∙ ap (λ texts. texts ++ words_in typed) (words_with kinds group))

typed_reads : (role : Role) (done : List Typed) {trees : Trees} {typed : List Typed} → IsTyped (is_word_of role) trees typed
    → AreAllowed role (words_in (done ++ typed)) → typed_of role done [] trees ≡ fine (done ++ typed)
typed_reads role done (of_rest names are) allowed =
    words_read role done [] names End [] are
    (subst (AreAllowed role) (done_with done [] names ∙ ap (λ texts. words_in done ++ texts) (sym (append_none (texts_of names)))) allowed)
typed_reads role done (of_group first names dash kind kinds rest typed are is list) allowed =
    let group = first ∷ names in
    words_read role done [] group (Then (Leaf (codes "-") dash) (Then kind rest)) (words_in typed) are
    (subst (AreAllowed role) (all_words done kinds group typed) allowed)
    ∙ grouped_reads role done group dash rest kind kinds is
    ∙ typed_reads role (done ++ with_kinds kinds group) list
    (subst (λ (list : List Typed). AreAllowed role (words_in list)) (sym (append_assoc done (with_kinds kinds group) typed)) allowed)
    ∙ ap fine (append_assoc done (with_kinds kinds group) typed)

none_allowed : (role : Role) → AreAllowed role []
none_allowed roles.Names = tt
none_allowed roles.Predicate = omega arith
none_allowed roles.Action = none_declared most_params

pub list_holds : (role : Role) (trees : Trees) → (typed_of role [] [] trees).faults ≡ [] → IsTypedList role trees (typed_of role [] [] trees).value
list_holds role trees none =
    let it = typed_holds role [] [] trees tt (none_allowed role) none in
    subst (IsTypedList role trees) (sym it.all) (record { list = it.list; allowed = it.allowed })

pub list_reads : (role : Role) (trees : Trees) (typed : List Typed) → IsTypedList role trees typed → typed_of role [] [] trees ≡ fine typed
list_reads role trees typed is = typed_reads role [] is.list is.allowed
