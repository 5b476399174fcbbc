-- The words of typed lists, group by group, and the kinds of a word.
use Rattle.std.proofs.Common.{◌≡◌, ℕ, eqb, Bool, true, false, cond, List, [], ◌∷◌, ◌++◌, length, map, refl, sym, ◌∙◌, ap, subst}
use Rattle.wp_syntax.specs.declared.error.PddlError.{PddlError}
use Rattle.wp_syntax.specs.declared.records.Name.{Name}
use Rattle.wp_syntax.specs.declared.records.Typed.{Typed}
use Rattle.wp_syntax.proofs.FaultLemmas.{append_none, tells_append, after_append}
use Rattle.wp_lift.specs.Walk.{Walk, told_by, Fails, fine, each, each_after, ◌>>=◌}
use Rattle.wp_lift.specs.Typing.{words_of, group_of, is_same_place, first_place, next_place, known_kind, known_kinds, kind_of, kinds_of, type_number}
use Rattle.wp_syntax.specs.declared.error.Part.{Part}

pub words-group : (typed : Typed) (rest : List Typed) → words_of (typed ∷ rest) ≡ group_of typed rest ++ words_of rest
words-group typed rest =
    elim (is_same_place (first_place typed.kinds) (next_place rest)) as (λ (b : Bool). typed.name ∷ (cond b (words_of rest) (typed.kinds ++ words_of rest)) ≡ (typed.name ∷ (cond b [] typed.kinds)) ++ words_of rest) [
      | true ↦ refl
      | false ↦ refl
    ]

pub words-more : {S : Type 0} (f : S → Name → Walk S) (state next : S) (typed : Typed) (rest list : List Typed) (whole : Walk S)
    → list ≡ typed ∷ rest → each_after f state (group_of typed rest) ≡ fine next → each_after f state (words_of list) ≡ whole → each_after f next (words_of rest) ≡ whole
words-more f state next typed rest list whole r e h =
    sym (ap (λ (w : Walk _). w >>= λ s. each_after f s (words_of rest)) e)
    ∙ sym (after_append f state (group_of typed rest) (words_of rest))
    ∙ ap (each_after f state) (sym (words-group typed rest))
    ∙ ap (λ list. each_after f state (words_of list)) (sym r) ∙ h

pub words-fails : {S : Type 0} (f : S → Name → Walk S) (state : S) (typed : Typed) (rest list : List Typed) (error : PddlError) (whole : Walk S)
    → list ≡ typed ∷ rest → Fails error (each_after f state (group_of typed rest)).faults → each_after f state (words_of list) ≡ whole → Fails error whole.faults
words-fails f state typed rest list error whole r e h =
    let group = each_after f state (group_of typed rest) in
    subst (λ (w : Walk _). Fails error w.faults)
    (sym (after_append f state (group_of typed rest) (words_of rest))
    ∙ ap (each_after f state) (sym (words-group typed rest))
    ∙ ap (λ list. each_after f state (words_of list)) (sym r) ∙ h)
    (tells_append (told_by error) group.faults (each_after f group.value (words_of rest)).faults e)

each-kinds : (part : Part) (types : List (List ℕ)) (kinds : List Name)
    → each (kind_of part types) kinds ≡ record { faults = (known_kinds part types kinds).faults; value = map (λ (name : Name). type_number types name.text) kinds }
each-kinds part types [] = refl
each-kinds part types (kind ∷ kinds) =
    let here = (known_kind part types kind).faults in
    ap (λ (w : Walk (List ℕ)). kind_of part types kind >>= λ number. w >>= λ numbers. fine (number ∷ numbers)) (each-kinds part types kinds)
    ∙ λ i. record {
      faults = append_none here i ++ append_none (known_kinds part types kinds).faults i;
      value = type_number types kind.text ∷ map (λ (name : Name). type_number types name.text) kinds;
    }

pub kinds-each : (part : Part) (types : List (List ℕ)) (kinds : List Name) → eqb (length kinds) 0 ≡ false
    → each (kind_of part types) kinds ≡ kinds_of part types kinds
kinds-each part types [] e = cc
kinds-each part types (kind ∷ kinds) e =
    each-kinds part types (kind ∷ kinds)
    ∙ λ i. record {
      faults = sym (append_none (known_kinds part types (kind ∷ kinds)).faults) i;
      value = map (λ (name : Name). type_number types name.text) (kind ∷ kinds);
    }
