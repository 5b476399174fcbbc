-- The items of a text: its brackets and words from the left, each with the place where it begins. The labels and durations
-- between the lists of a plan file are left out.
use Rattle.std.specs.Prelude.{ℕ, if◌then◌else◌, Option, None, Some, List, length, drop, filter_map}
use Rattle.std.specs.List.{range_with_len}
use Rattle.wp_lex.specs.declared.place.Source.{Source}
use Rattle.wp_lex.specs.declared.place.Source.TheVariants.{Pddl, Plan}
use Rattle.wp_lex.specs.declared.place.Class.{Class}
use Rattle.wp_lex.specs.declared.place.Class.TheVariants.{Letter, Opens, Closes, Blank, Bad}
use Rattle.wp_lex.specs.declared.place.Place.{Place}
use Rattle.wp_lex.specs.declared.item.Item.{Item}
use Rattle.wp_lex.specs.declared.item.Item.TheVariants.{Word, Open, Close}
use Rattle.wp_lex.specs.Words.{class_at, word_of}
use Rattle.wp_lex.specs.Places.{place_at}
use Rattle.wp_lex.specs.Faults.{is_skipped}

abbrev pub word_item : Source → Place → List ℕ → Option Item
word_item source place word = if is_skipped source place word then None else Some (Word word place.at)

-- by what stands at a place, with the text from there
abbrev pub item_by : Source → Class → Place → List ℕ → Option Item
item_by source Letter place rest = if place.continues then None else word_item source place (word_of rest)
item_by source Opens place rest = Some (Open place.at)
item_by source Closes place rest = Some Close
item_by source Blank place rest = None
item_by source Bad place rest = None

abbrev pub item_at : Source → List ℕ → ℕ → Option Item
item_at source text i = item_by source (class_at text i) (place_at text i) (drop i text)

-- the items before a place
abbrev pub items_before : Source → List ℕ → ℕ → List Item
items_before source text i = filter_map (item_at source text) (range_with_len 0 i)

-- the items of a PDDL text, and of a plan file
abbrev pub items_of : List ℕ → List Item
items_of text = items_before Pddl text (length text)

abbrev pub plan_items_of : List ℕ → List Item
plan_items_of text = items_before Plan text (length text)
