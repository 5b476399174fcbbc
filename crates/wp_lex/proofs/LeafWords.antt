-- The words of the items of a text are words as they are read, and so are those of its trees.
use Rattle.std.proofs.Common.{◌≡◌, ℕ, Bool, true, false, cond, List, [], ◌∷◌, None, Some, length, refl, ap, subst}
use Rattle.std.specs.List.{cons_option}
use Rattle.wp_lex.specs.declared.item.Item.{Item}
use Rattle.wp_lex.specs.declared.item.Item.TheVariants.{Word, Open, Close}
use Rattle.wp_lex.specs.declared.place.Source.{Source}
use Rattle.wp_lex.specs.declared.place.Class.{Class}
use Rattle.wp_lex.specs.declared.place.Class.TheVariants.{Letter, Opens, Closes, Blank, Bad}
use Rattle.wp_lex.specs.declared.place.Place.{Place}
use Rattle.wp_lex.specs.Words.{class_of, is_letter, word_of, IsWord}
use Rattle.wp_lex.specs.Places.{place_at, place_behind}
use Rattle.wp_lex.specs.Faults.{is_skipped}
use Rattle.wp_lex.specs.Items.{item_by, items_before}
use Rattle.wp_lex.specs.Trees.{Trees, Levels, trees_of, levels_of, with_item}
use Rattle.wp_lex.specs.Leaves.{AreOfWords}
use Rattle.wp_lex.proofs.Pass.{Pass, pass, class_by, goes_on, texts_are_passed}
use Rattle.wp_lex.proofs.WordBytes.{word_of-IsWord}

abbrev ItemsAreWords : List Item → Type 0
ItemsAreWords [] = Unit {0}
ItemsAreWords (Word text at ∷ items) = IsWord text × ItemsAreWords items
ItemsAreWords (Open at ∷ items) = ItemsAreWords items
ItemsAreWords (Close ∷ items) = ItemsAreWords items

abbrev LevelsAreOfWords : List Trees → Type 0
LevelsAreOfWords [] = Unit {0}
LevelsAreOfWords (trees ∷ levels) = AreOfWords trees × LevelsAreOfWords levels

opened : (here : Trees) (behind : List Trees) (at : ℕ) → AreOfWords here → LevelsAreOfWords behind
    → (let levels : Levels = with_item (Open at) (record { here = here; behind = behind }) in
    AreOfWords levels.here × LevelsAreOfWords levels.behind)
opened here [] at h b = ((h, tt), tt)
opened here (next ∷ behind) at h (n, b) = ((h, n), b)

levels_are_of_words : (items : List Item) → ItemsAreWords items
    → AreOfWords (levels_of items).here × LevelsAreOfWords (levels_of items).behind
levels_are_of_words [] words = (tt, tt)
levels_are_of_words (Word text at ∷ items) (word, words) =
    let (here, behind) = levels_are_of_words items words in ((word, here), behind)
levels_are_of_words (Open at ∷ items) words =
    let (here, behind) = levels_are_of_words items words in
    opened (levels_of items).here (levels_of items).behind at here behind
levels_are_of_words (Close ∷ items) words = (tt, levels_are_of_words items words)

-- what begins at a place stands there
word_first : (continues skipped : Bool) (text : List ℕ) (at : ℕ) (items : List Item) → IsWord text → ItemsAreWords items
    → ItemsAreWords (cons_option (cond continues None (cond skipped None (Some (Word text at)))) items)
word_first true skipped text at items word words = words
word_first false true text at items word words = words
word_first false false text at items word words = (word, words)

item_first : (source : Source) (class : Class) (place : Place) (byte : ℕ) (rest : List ℕ) (items : List Item)
    → (is_letter class ≡ true → is_letter (class_of byte) ≡ true) → ItemsAreWords items
    → ItemsAreWords (cons_option (item_by source class place (byte ∷ rest)) items)
item_first source Letter place byte rest items letter words =
    word_first place.continues (is_skipped source place (word_of (byte ∷ rest))) (word_of (byte ∷ rest)) place.at items
    (word_of-IsWord byte rest (letter refl)) words
item_first source Opens place byte rest items letter words = words
item_first source Closes place byte rest items letter words = words
item_first source Blank place byte rest items letter words = words
item_first source Bad place byte rest items letter words = words

uncommented : (commented : Bool) (byte : ℕ) → is_letter (class_by commented byte) ≡ true → is_letter (class_of byte) ≡ true
uncommented true byte h = cc
uncommented false byte h = h

items_are_words : (source : Source) (commented : Bool) (place : Place) (text : List ℕ)
    → ItemsAreWords (pass source commented place text).items
items_are_words source commented place [] = tt
items_are_words source commented place (byte ∷ rest) =
    let commented' = goes_on commented byte in
    let class = class_by commented' byte in
    item_first source class place byte rest (pass source commented' (place_behind class place) rest).items
    (uncommented commented' byte) (items_are_words source commented' (place_behind class place) rest)

pub leaves_are_words : (source : Source) (text : List ℕ) → AreOfWords (trees_of (items_before source text (length text)))
leaves_are_words source text =
    let items : (pass source false (place_at [] 0) text).items ≡ items_before source text (length text) =
    ap (λ (p : Pass). p.items) (texts_are_passed source text) in
    (levels_are_of_words (items_before source text (length text))
    (subst ItemsAreWords items (items_are_words source false (place_at [] 0) text))).0
