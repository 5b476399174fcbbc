-- What a read of a file in memory is to a caller who knows the shelf's map.
use Rattle.std.proofs.Common.{◌≡◌, ℕ, Bool, true, false, List, ap, sym, ◌∙◌, refl, Some, None, Ok, Err, IfOk, IfErr, ◌⊎◌, inl, inr, ◌↔◌}
use Rattle.std.specs.Prelude.{Option, Result}
use Rattle.std.specs.Global.{Vec}
use Rattle.std.specs.FinMap.{get}
use Rattle.std.proofs.lemmas.Option.{same_Some, none-some}
use Rattle.wp_edge.specs.Fetch.{Contents, IsMissing, IsFetched, IsCause}
use Rattle.wp_edge.specs.Fakes.{IsRead}
use Rattle.wp_edge.specs.declared.shelf.FetchError.{FetchError}
use Rattle.wp_edge.specs.declared.shelf.FetchError.TheVariants.{Failed, TooLong, Memory}

told : (map files : Contents) (name : List ℕ) (o : Option (List ℕ)) → get map name ≡ o → Some map ≡ Some files → get files name ≡ o
told map files name o e same = ap (λ (f : Contents). get f name) (sym (same_Some map files same)) ∙ e

pub read-ok : (map : Contents) (name : List ℕ) (limit : ℕ) (o : Option (List ℕ)) (result : Result (Vec ℕ) FetchError) → get map name ≡ o → IsRead o limit result → IfOk result (λ bytes. IsFetched (Some map) name limit bytes.items)
read-ok map name limit None (Ok bytes) e r = cc
read-ok map name limit None (Err error) e r = tt
read-ok map name limit (Some bytes) (Err error) e r = tt
read-ok map name limit (Some bytes) (Ok v) e r = record {
  within = rw r.0 r.1;
  told = λ files same. told map files name (Some bytes) e same ∙ ap Some (sym r.0);
}

pub read-err : (map : Contents) (name : List ℕ) (limit before now : ℕ) (o : Option (List ℕ)) (result : Result (Vec ℕ) FetchError) → get map name ≡ o → IsRead o limit result → IfErr result (IsCause (Some map) name limit before now)
read-err map name limit before now o (Ok v) e r = tt
read-err map name limit before now o (Err Memory) e r = tt
read-err map name limit before now None (Err Failed) e r = inr (map, refl, e)
read-err map name limit before now (Some bytes) (Err Failed) e r = absurd r
read-err map name limit before now None (Err (TooLong got)) e r = cc
read-err map name limit before now (Some bytes) (Err (TooLong got)) e r = record {
  next = r.0;
  told = λ files same. (bytes, told map files name (Some bytes) e same, r.1);
}

pub read-failed : (map : Contents) (name : List ℕ) (limit : ℕ) (o : Option (List ℕ)) (result : Result (Vec ℕ) FetchError) → get map name ≡ o → IsRead o limit result → (result ≡ Err Failed) ↔ IsMissing (Some map) name
read-failed map name limit None result e r = (λ _. (map, refl, e), λ _. r)
read-failed map name limit (Some bytes) (Ok v) e r = (λ f. cc, λ missing. absurd (none-some bytes (sym missing.2 ∙ told map missing.0 name (Some bytes) e missing.1)))
read-failed map name limit (Some bytes) (Err Failed) e r = absurd r
read-failed map name limit (Some bytes) (Err (TooLong got)) e r = (λ f. cc, λ missing. absurd (none-some bytes (sym missing.2 ∙ told map missing.0 name (Some bytes) e missing.1)))
read-failed map name limit (Some bytes) (Err Memory) e r = (λ f. cc, λ missing. absurd (none-some bytes (sym missing.2 ∙ told map missing.0 name (Some bytes) e missing.1)))

-- a call that is not listed fails where its name is not there
pub with_calls : {Fails Missing : Type 0} (listed : Bool) → listed ≡ false → (Fails ↔ Missing) → Fails ↔ (listed ≡ true ⊎ Missing)
with_calls listed e exact = (λ f. inr (exact.0 f), elim [ inl h ↦ cc | inr m ↦ exact.1 m ])
