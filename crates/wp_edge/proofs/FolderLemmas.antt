-- Walking along a list of files: the first of the name, one file at a time.
use Rattle.std.proofs.Common.{◌≡◌, ℕ, ◌+◌, ◌<◌, ◌≤◌, List, ◌∷◌, length, get_or, drop, suc, Bool, true, false, cond, ap, sym, ◌∙◌, Some, None, add-one, drop-cons}
use Rattle.std.specs.Prelude.{map}
use Rattle.std.specs.Bool.{nat_eq}
use lib.Pointwise.{pointwise}
use Rattle.std.specs.Cmp.Lexicographic.{texts_ties}
use Rattle.std.specs.FinMap.{get, get-from_entries}
use Rattle.std.proofs.lemmas.Cmp.{nat_list_cmp_total}
use Rattle.std.proofs.lemmas.List.{drop_all}
use Rattle.wp_edge.specs.Folder.{found, contents_of, named}
use Rattle.wp_edge.specs.declared.files.File.{File}

-- the map gives what the walk finds
pub get-contents_of : (files : List File) (name : List ℕ) → get (contents_of files) name ≡ found files name
unfolding found contents_of
get-contents_of files name = get-from_entries nat_list_cmp_total (map named files) name

found-cons : (file : File) (rest : List File) (name : List ℕ) (b : Bool) → pointwise nat_eq name file.name ≡ b → found (file ∷ rest) name ≡ cond b (Some file.bytes) (found rest name)
unfolding found
found-cons file rest name b same = ap (λ b. cond b (Some file.bytes) (found rest name)) (sym (texts_ties name file.name) ∙ same)

drop-first : (files : List File) (i : ℕ) (file : File) → i < length files → file ≡ get_or files i file → drop i files ≡ file ∷ drop (i + 1) files
drop-first files i file h e = drop-cons files i file h ∙ ap (λ f. f ∷ drop (suc i) files) (sym e) ∙ ap (λ j. file ∷ drop j files) (sym (add-one i))

pub found-here : (files : List File) (i : ℕ) (file : File) (name : List ℕ) → i < length files → file ≡ get_or files i file → pointwise nat_eq name file.name ≡ true → found (drop i files) name ≡ Some file.bytes
found-here files i file name h e same = ap (λ fs. found fs name) (drop-first files i file h e) ∙ found-cons file (drop (i + 1) files) name true same

pub found-later : (files : List File) (i : ℕ) (file : File) (name : List ℕ) → i < length files → file ≡ get_or files i file → pointwise nat_eq name file.name ≡ false → found (drop i files) name ≡ found (drop (i + 1) files) name
found-later files i file name h e other = ap (λ fs. found fs name) (drop-first files i file h e) ∙ found-cons file (drop (i + 1) files) name false other

pub found-nowhere : (files : List File) (i : ℕ) (name : List ℕ) → length files ≤ i → found (drop i files) name ≡ None
unfolding found
found-nowhere files i name h = ap (λ fs. found fs name) (drop_all i files h)

pub ruleset found_steps = (found-here, found-later, found-nowhere)

pub get-contents_of-at : (held files : List File) (name bytes : List ℕ) → files ≡ held → bytes ≡ name → get (contents_of held) name ≡ found files bytes
get-contents_of-at held files name bytes p q = get-contents_of held name ∙ ap (λ fs. found fs name) (sym p) ∙ ap (λ b. found files b) (sym q)
