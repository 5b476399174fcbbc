-- The actions of a domain.
--
--   ( :action NAME part* )
--   part = :parameters ( typed-vars ) | :precondition cond | :effect effect
--
-- Each part stands once at most, in any order. Each action is declared once, and there are no more than 4,096.
use Rattle.std.specs.Prelude.{ℕ, Bool, List, [], Some, None, is_some, unwrap_or, not, nat_le, length}
use Rattle.wp_lex.specs.Trees.{Tree, Trees, Leaf, Branch, End, Then}
use Rattle.wp_syntax.specs.declared.error.ReadKind.TheVariants.{Shape, Unsupported, Duplicate, TooMany}
use Rattle.wp_syntax.specs.declared.records.Name.{Name}
use Rattle.wp_syntax.specs.declared.records.ActionText.{ActionText}
use Rattle.wp_syntax.specs.declared.action.Parts.{Parts}
use Rattle.wp_syntax.specs.declared.typing.Role.TheVariants as roles
use Rattle.wp_syntax.specs.declared.word.PartHead.TheVariants as part_heads
use Rattle.wp_syntax.specs.Word.{is_name}
use Rattle.wp_syntax.specs.Heads.{part_head_of}
use Rattle.wp_syntax.specs.Reading.{Read, fine, wrong, wrong_if, ◌>>=◌, ◌>>◌}
use Rattle.wp_syntax.specs.Named.{has_named, most_declared}
use Rattle.wp_syntax.specs.Grammar.{name_at, cond_of}
use Rattle.wp_syntax.specs.Items.{changes_in}
use Rattle.wp_syntax.specs.Effects.{effect_of}
use Rattle.wp_syntax.specs.Typing.{typed_of}

abbrev pub no_parts : Parts
no_parts = record { params = None; pre = None; effects = None }

-- a part by its word, its place, and the list behind it
abbrev pub part_of : Parts → List ℕ → ℕ → ℕ → Trees → Read Parts
part_of so_far word at i trees = elim (part_head_of word) [
  | part_heads.Parameters ↦ wrong_if (is_some so_far.params) Duplicate at
      >> (typed_of roles.Action [] [] trees >>= λ params. fine (record so_far { params = Some params }))
  | part_heads.Precondition ↦ wrong_if (is_some so_far.pre) Duplicate at
      >> (cond_of (Branch i trees) >>= λ conds. fine (record so_far { pre = Some conds }))
  | part_heads.Effect ↦ wrong_if (is_some so_far.effects) Duplicate at
      >> (effect_of (Branch i trees) >>= λ effects. fine (record so_far { effects = Some effects }))
  | part_heads.Vars ↦ wrong (Unsupported word) at >> fine so_far
  | part_heads.Other ↦ wrong Shape at >> fine so_far
]

-- a part that no list follows
abbrev pub bare_part_of : List ℕ → ℕ → Read (Unit {0})
bare_part_of word at = elim (part_head_of word) [
  | part_heads.Vars ↦ wrong (Unsupported word) at
  | _ ↦ wrong Shape at
]

-- a part by its word and what follows
abbrev pub valued_of : Parts → List ℕ → ℕ → Tree → Read Parts
valued_of so_far word at (Leaf text i) = bare_part_of word at >> fine so_far
valued_of so_far word at (Branch i trees) = part_of so_far word at i trees

abbrev pub parts_of : Parts → Trees → Read Parts
parts_of so_far End = fine so_far
parts_of so_far (Then (Branch at trees) rest) = wrong Shape at >> fine so_far
parts_of so_far (Then (Leaf word at) End) = bare_part_of word at >> fine so_far
parts_of so_far (Then (Leaf word at) (Then value rest)) = valued_of so_far word at value >>= λ new. parts_of new rest

abbrev pub action_from : Name → Parts → ActionText
action_from name parts = record {
  name = name;
  params = unwrap_or parts.params [];
  pre = unwrap_or parts.pre [];
  effects = changes_in (unwrap_or parts.effects []);
}

abbrev pub is_defined : List ℕ → List ActionText → Bool
is_defined text actions = has_named (λ (action : ActionText). action.name) text actions

-- a name that may be given after those before it
abbrev pub defined_of : List ActionText → List ℕ → ℕ → Read (Unit {0})
defined_of before text at =
    wrong_if (not (is_name text)) Shape at
    >> (wrong_if (is_defined text before) Duplicate at
    >> wrong_if (nat_le most_declared (length before)) (TooMany most_declared) at)

abbrev pub no_action : ℕ → ActionText
no_action at = action_from (name_at [] at) no_parts

-- what stands behind :action, in the list at a place
abbrev pub action_of : List ActionText → ℕ → Trees → Read ActionText
action_of before at End = wrong Shape at >> fine (no_action at)
action_of before at (Then (Branch i trees) rest) = wrong Shape i >> fine (no_action at)
action_of before at (Then (Leaf text i) rest) =
    defined_of before text i >> (parts_of no_parts rest >>= λ parts. fine (action_from (name_at text i) parts))
