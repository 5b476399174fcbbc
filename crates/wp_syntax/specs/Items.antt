-- The items of effects and of :init: each is one list, in the order of the text, of which the lists of the record are the parts.
use Rattle.std.specs.Prelude.{Bool, List, [], ◌∷◌}
use Rattle.std.specs.List.{flat_map}
use Rattle.wp_syntax.specs.declared.records.AtomText.{AtomText}
use Rattle.wp_syntax.specs.declared.records.Effect.{Effect}
use Rattle.wp_syntax.specs.declared.records.InitItem.{InitItem}
use Rattle.wp_syntax.specs.declared.items.EffectItem.{EffectItem}
use Rattle.wp_syntax.specs.declared.items.EffectItem.TheVariants.{Change}
use Rattle.wp_syntax.specs.declared.items.InitFact.{InitFact}
use Rattle.wp_syntax.specs.declared.items.InitFact.TheVariants.{Literal}

abbrev pub change : Bool → AtomText → EffectItem
change add atom = Change (record { add = add; atom = atom })

-- the add and delete effects
abbrev pub change_of : EffectItem → List Effect
change_of (Change effect) = effect ∷ []

abbrev pub changes_in : List EffectItem → List Effect
changes_in items = flat_map change_of items

abbrev pub literal : Bool → AtomText → InitFact
literal stated atom = Literal (record { stated = stated; atom = atom })

-- the atoms that are stated, or stated to be false
abbrev pub literal_of : InitFact → List InitItem
literal_of (Literal item) = item ∷ []

abbrev pub literals_in : List InitFact → List InitItem
literals_in facts = flat_map literal_of facts
