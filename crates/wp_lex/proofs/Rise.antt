-- The places of items rise, and so do those of their trees.
use Rattle.std.proofs.Common.{◌≡◌, ℕ, zero, suc, ◌+◌, ◌≤◌, ◌<◌, List, [], ◌∷◌, None, Some, cond, length, drop, sym, subst, arith, add-one, zero-add, true, false, Bool}
use Rattle.std.specs.Prelude.{filter_map}
use Rattle.std.specs.List.{range_with_len, cons_option}
use Rattle.wp_lex.specs.declared.item.Item.{Item}
use Rattle.wp_lex.specs.declared.item.Item.TheVariants.{Word, Open, Close}
use Rattle.wp_lex.specs.declared.place.Source.{Source}
use Rattle.wp_lex.specs.declared.place.Source.TheVariants.{Pddl, Plan}
use Rattle.wp_lex.specs.declared.place.Class.{Class}
use Rattle.wp_lex.specs.declared.place.Class.TheVariants.{Letter, Opens, Closes, Blank, Bad}
use Rattle.wp_lex.specs.declared.place.Place.{Place}
use Rattle.wp_lex.specs.Words.{class_at, word_of}
use Rattle.wp_lex.specs.Places.{place_at}
use Rattle.wp_lex.specs.Faults.{is_skipped}
use Rattle.wp_lex.specs.Items.{item_by, item_at, items_of, plan_items_of}
use Rattle.wp_lex.specs.Trees.{Tree, Leaf, Branch, Trees, End, Then, Levels, trees_of, levels_of, with_item}
use Rattle.wp_lex.specs.Rising.{Rises, TreeRises}

abbrev ItemsRise : List Item → ℕ → ℕ → Type 0
ItemsRise [] low high = low ≤ high
ItemsRise (Word text at ∷ items) low high = (low ≤ at) × ItemsRise items (suc at) high
ItemsRise (Open at ∷ items) low high = (low ≤ at) × ItemsRise items (suc at) high
ItemsRise (Close ∷ items) low high = ItemsRise items low high

ItemsRise-lower : (items : List Item) (low lower high : ℕ) → lower ≤ low → ItemsRise items low high → ItemsRise items lower high
ItemsRise-lower [] low lower high h rise = omega arith
ItemsRise-lower (Word text at ∷ items) low lower high h (above, rise) = (omega arith, rise)
ItemsRise-lower (Open at ∷ items) low lower high h (above, rise) = (omega arith, rise)
ItemsRise-lower (Close ∷ items) low lower high h rise = ItemsRise-lower items low lower high h rise

-- one level after another
abbrev LevelsRise : List Trees → ℕ → ℕ → Type 0
LevelsRise [] low high = low ≤ high
LevelsRise (trees ∷ levels) low high = (middle : ℕ) × Rises trees low middle × LevelsRise levels middle high

opened_rises : (here : Trees) (behind : List Trees) (low at high : ℕ) → low ≤ at → LevelsRise (here ∷ behind) (suc at) high
    → (let levels : Levels = with_item (Open at) (record { here = here; behind = behind }) in
    LevelsRise (levels.here ∷ levels.behind) low high)
opened_rises here [] low at high above (middle, rise, last) =
    (high, (middle, (above, rise), last), omega arith)
opened_rises here (next ∷ behind) low at high above (middle, rise, (after, more, last)) =
    (after, (middle, (above, rise), more), last)

levels_rise : (items : List Item) (low high : ℕ) → ItemsRise items low high
    → LevelsRise ((levels_of items).here ∷ (levels_of items).behind) low high
levels_rise [] low high rise = (high, rise, omega arith)
levels_rise (Word text at ∷ items) low high (above, rise) =
    let (middle, more, last) = levels_rise items (suc at) high rise in
    (middle, (suc at, (above, omega arith), more), last)
levels_rise (Open at ∷ items) low high (above, rise) =
    opened_rises (levels_of items).here (levels_of items).behind low at high above (levels_rise items (suc at) high rise)
levels_rise (Close ∷ items) low high rise = (low, omega arith, levels_rise items low high rise)

mutual
  pub TreeRises-lt : (tree : Tree) (low high : ℕ) → TreeRises tree low high → low < high
  TreeRises-lt (Leaf text at) low high (above, below) = omega arith
  TreeRises-lt (Branch at trees) low high (above, rise) = omega (arith, Rises-le trees (suc at) high rise)

  pub Rises-le : (trees : Trees) (low high : ℕ) → Rises trees low high → low ≤ high
  Rises-le End low high rise = rise
  Rises-le (Then tree rest) low high (middle, first, rise) =
      omega (arith, TreeRises-lt tree low middle first, Rises-le rest middle high rise)

mutual
  TreeRises-higher : (tree : Tree) (low high higher : ℕ) → high ≤ higher → TreeRises tree low high → TreeRises tree low higher
  TreeRises-higher (Leaf text at) low high higher h (above, below) = (above, omega arith)
  TreeRises-higher (Branch at trees) low high higher h (above, rise) = (above, Rises-higher trees (suc at) high higher h rise)

  pub Rises-higher : (trees : Trees) (low high higher : ℕ) → high ≤ higher → Rises trees low high → Rises trees low higher
  Rises-higher End low high higher h rise = omega arith
  Rises-higher (Then tree rest) low high higher h (middle, first, rise) =
      (middle, first, Rises-higher rest middle high higher h rise)

LevelsRise-le : (levels : List Trees) (low high : ℕ) → LevelsRise levels low high → low ≤ high
LevelsRise-le [] low high rise = rise
LevelsRise-le (trees ∷ levels) low high (middle, first, rise) =
    omega (arith, Rises-le trees low middle first, LevelsRise-le levels middle high rise)

trees_rise : (items : List Item) (low high : ℕ) → ItemsRise items low high → Rises (trees_of items) low high
trees_rise items low high rise =
    let (middle, first, rest) = levels_rise items low high rise in
    Rises-higher (trees_of items) low middle high (LevelsRise-le (levels_of items).behind middle high rest) first

-- what begins at a place stands there
word_rises : (continues skipped : Bool) (text : List ℕ) (at high : ℕ) (items : List Item) → ItemsRise items (at + 1) high
    → ItemsRise (cons_option (cond continues None (cond skipped None (Some (Word text at)))) items) at high
word_rises true skipped text at high items rise = ItemsRise-lower items (at + 1) at high (omega arith) rise
word_rises false true text at high items rise = ItemsRise-lower items (at + 1) at high (omega arith) rise
word_rises false false text at high items rise =
    (omega arith, let P : ℕ → Type 0 = λ n. ItemsRise items n high in subst P (add-one at) rise)

item_rises : (source : Source) (class : Class) (place : Place) (rest : List ℕ) (high : ℕ) (items : List Item)
    → ItemsRise items (place.at + 1) high → ItemsRise (cons_option (item_by source class place rest) items) place.at high
item_rises source Letter place rest high items rise =
    word_rises place.continues (is_skipped source place (word_of rest)) (word_of rest) place.at high items rise
item_rises source Opens place rest high items rise =
    (omega arith, let P : ℕ → Type 0 = λ n. ItemsRise items n high in subst P (add-one place.at) rise)
item_rises source Closes place rest high items rise = ItemsRise-lower items (place.at + 1) place.at high (omega arith) rise
item_rises source Blank place rest high items rise = ItemsRise-lower items (place.at + 1) place.at high (omega arith) rise
item_rises source Bad place rest high items rise = ItemsRise-lower items (place.at + 1) place.at high (omega arith) rise

items_rise : (n : ℕ) (source : Source) (text : List ℕ) (i : ℕ) → length text ≡ i + n
    → ItemsRise (filter_map (item_at source text) (range_with_len i n)) i (length text)
items_rise zero source text i e = omega arith
items_rise (suc n) source text i e =
    item_rises source (class_at text i) (place_at text i) (drop i text) (length text)
    (filter_map (item_at source text) (range_with_len (i + 1) n)) (items_rise n source text (i + 1) (omega arith))

pub texts_rise : (text : List ℕ) → Rises (trees_of (items_of text)) 0 (length text)
texts_rise text = trees_rise (items_of text) 0 (length text) (items_rise (length text) Pddl text 0 (sym (zero-add (length text))))

pub plans_rise : (text : List ℕ) → Rises (trees_of (plan_items_of text)) 0 (length text)
plans_rise text = trees_rise (plan_items_of text) 0 (length text) (items_rise (length text) Plan text 0 (sym (zero-add (length text))))
