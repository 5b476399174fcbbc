-- The kinds of names that stand one after another.
use Rattle.std.proofs.Common.{◌≡◌, ◌∙◌, ◌≤◌, ◌<◌, ◌+◌, ℕ, List, [], ◌∷◌, map, drop, length, fold, get_or, option_map, Option, Some, None, refl, sym, ap, ap₂, Bor, add-one, drop-cons, drop_of_length-le}
use Rattle.wp_watch.specs.declared.watch.WatchKind.{WatchKind}
use Rattle.wp_words.specs.Kinds.{kind_of, kinds_in, kinds_of, more_kinds, parts_of, with_kind}

-- these kinds and those of the names, each once; none where a name names no kind
abbrev pub kinds_after : List WatchKind → List (List ℕ) → Option (List WatchKind)
kinds_after kinds names = option_map (fold with_kind kinds) (kinds_of names)

-- the names from a place on
abbrev pub names_from : ℕ → List (Bor (List ℕ)) → List (List ℕ)
names_from place names = map (λ (name : Bor (List ℕ)). name.now) (drop place names)

one_more : (kinds : List WatchKind) (kind : WatchKind) (others : Option (List WatchKind)) →
    option_map (fold with_kind kinds) (more_kinds (Some kind) others) ≡ option_map (fold with_kind (with_kind kinds kind)) others
one_more kinds kind None = refl
one_more kinds kind (Some others) = refl

none_more : (kinds : List WatchKind) (others : Option (List WatchKind)) → option_map (fold with_kind kinds) (more_kinds None others) ≡ None
none_more kinds None = refl
none_more kinds (Some others) = refl

names_from-next : (place : ℕ) (names : List (Bor (List ℕ))) (d : Bor (List ℕ)) → place < length names →
    names_from place names ≡ (get_or names place d).now ∷ names_from (place + 1) names
names_from-next place names d below =
    rw (add-one place) (ap (map (λ (name : Bor (List ℕ)). name.now)) (drop-cons names place d below))

-- the first name and the others
kinds_after-next : (kinds : List WatchKind) (place : ℕ) (names : List (Bor (List ℕ))) (d : Bor (List ℕ)) → place < length names →
    kinds_after kinds (names_from place names)
    ≡ option_map (fold with_kind kinds) (more_kinds (kind_of (get_or names place d).now) (kinds_of (names_from (place + 1) names)))
kinds_after-next kinds place names d below = ap (kinds_after kinds) (names_from-next place names d below)

-- before the first name
pub kinds_in-begins : (kinds : List WatchKind) (names : List (List ℕ)) (text : List ℕ) → kinds ≡ [] → names ≡ parts_of text →
    kinds_after kinds names ≡ kinds_in text
kinds_in-begins kinds names text none all = ap₂ kinds_after none all

-- a name of a kind
pub kinds_in-goes_on : (kinds more : List WatchKind) (kind : WatchKind) (place : ℕ) (names : List (Bor (List ℕ))) (d : Bor (List ℕ))
    (text : List ℕ) → place < length names → kinds_after kinds (names_from place names) ≡ kinds_in text
    → Some kind ≡ kind_of (get_or names place d).now → more ≡ with_kind kinds kind
    → kinds_after more (names_from (place + 1) names) ≡ kinds_in text
kinds_in-goes_on kinds more kind place names d text below so_far named with_it =
    let others = kinds_of (names_from (place + 1) names) in
    ap (λ (ks : List WatchKind). option_map (fold with_kind ks) others) with_it
    ∙ sym (one_more kinds kind others)
    ∙ ap (λ (read : Option WatchKind). option_map (fold with_kind kinds) (more_kinds read others)) named
    ∙ sym (kinds_after-next kinds place names d below)
    ∙ so_far

-- a name of no kind
pub kinds_in-stops : (kinds : List WatchKind) (place : ℕ) (names : List (Bor (List ℕ))) (d : Bor (List ℕ)) (text : List ℕ) →
    place < length names → kinds_after kinds (names_from place names) ≡ kinds_in text → None ≡ kind_of (get_or names place d).now
    → kinds_in text ≡ None
kinds_in-stops kinds place names d text below so_far unnamed =
    let others = kinds_of (names_from (place + 1) names) in
    sym so_far
    ∙ kinds_after-next kinds place names d below
    ∙ ap (λ (read : Option WatchKind). option_map (fold with_kind kinds) (more_kinds read others)) (sym unnamed)
    ∙ none_more kinds others

-- behind the last name
pub kinds_in-ends : (kinds : List WatchKind) (place : ℕ) (names : List (Bor (List ℕ))) (text : List ℕ) → length names ≤ place →
    kinds_after kinds (names_from place names) ≡ kinds_in text → kinds_in text ≡ Some kinds
kinds_in-ends kinds place names text past so_far =
    sym so_far ∙ ap (λ (left : List (Bor (List ℕ))). kinds_after kinds (map (λ (name : Bor (List ℕ)). name.now) left)) (drop_of_length-le names past)
