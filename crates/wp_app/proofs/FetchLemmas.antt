-- A fetch that failed is a fault of the shelf, or the step of the part misses its file.
use Rattle.std.proofs.Common.{◌≡◌, ℕ, List, ap, sym, subst, ◌∙◌, Err, inl, inr, None}
use Rattle.std.specs.Prelude.{Option}
use Rattle.std.specs.FinMap.{get}
use Rattle.wp_edge.specs.Fetch.{Contents, IsFault, IsCause}
use Rattle.wp_edge.specs.declared.shelf.FetchError.{FetchError}
use Rattle.wp_edge.specs.declared.shelf.FetchError.TheVariants.{Failed}
use Rattle.wp_syntax.specs.declared.error.Part.{Part}
use Rattle.wp_app.specs.Steps.{missing}
use Rattle.wp_app.specs.Output.{part_of, within}
use Rattle.wp_app.specs.Stops.{Follows}
use Rattle.wp_app.specs.declared.stop.Stop.TheVariants.{ReadFault}

part_of-missing : (part : Part) (name path : List ℕ) (files : Contents) → path ≡ name → get files path ≡ None → part_of part name files ≡ missing
unfolding part_of
part_of-missing part name path files same none = ap (within part) (ap (get files) (sym same) ∙ none)

fault_of : (contents : Option Contents) (path : List ℕ) (limit before now : ℕ) (error : FetchError) → error ≡ Failed → IsCause contents path limit before now error → IsFault contents path before now
fault_of contents path limit before now error failed cause = subst (λ (e : FetchError). IsCause contents path limit before now e) failed cause

pub follows_unread : (contents : Option Contents) (part : Part) (name path : List ℕ) (limit before now : ℕ) (error : FetchError) → path ≡ name → error ≡ Failed → IsCause contents path limit before now error → Follows {A = List ℕ} contents (part_of part name) before now (Err (ReadFault part))
follows_unread contents part name path limit before now error same failed cause = record {
  defined = tt;
  gives = λ files told. tt;
  fault = λ unread. elim (fault_of contents path limit before now error failed cause) [
    | inl rose ↦ inl rose
    | inr at ↦ inr (at.0, at.1, part_of-missing part name path at.0 same at.2)
  ];
}
