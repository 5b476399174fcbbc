-- Effects, and the facts of :init.
--
--   effect = ( ) | ( and effect* ) | atom | ( not atom )
--   init   = atom | ( not atom )
--
-- Ours: the head of a list after `not` decides whether it is an atom, and (at NUMBER (..)) in :init is PDDL's timed literal.
use Rattle.std.specs.Prelude.{ℕ, Bool, true, false, List, [], ◌∷◌, ◌&&◌, Some, None, codes}
use Rattle.std.specs.Str.{bytes_eq}
use Rattle.wp_lex.specs.Trees.{Tree, Trees, Leaf, Branch, End, Then}
use Rattle.wp_syntax.specs.declared.error.ReadKind.TheVariants.{Shape, Unsupported}
use Rattle.wp_syntax.specs.declared.records.AtomText.{AtomText}
use Rattle.wp_syntax.specs.declared.items.EffectItem.{EffectItem}
use Rattle.wp_syntax.specs.declared.items.InitFact.{InitFact}
use Rattle.wp_syntax.specs.declared.word.Head.TheVariants as heads
use Rattle.wp_syntax.specs.Word.{starts_with_digit}
use Rattle.wp_syntax.specs.Heads.{head_of}
use Rattle.wp_syntax.specs.Items.{change, literal}
use Rattle.wp_syntax.specs.Reading.{Read, fine, wrong, ◌>>=◌, ◌>>◌}
use Rattle.wp_syntax.specs.Grammar.{conjunction_of, name_at, atom_of, lone_of}

-- what stands where a text has no atom
abbrev pub no_atom : List ℕ → ℕ → AtomText
no_atom word at = record { pred = name_at word at; args = [] }

-- the one atom behind a not
abbrev pub negated_of : List ℕ → ℕ → Trees → Read AtomText
negated_of word at trees = elim (lone_of trees) [
  | Some lone ↦ elim (head_of lone.word) [
    | heads.Name ↦ atom_of lone.word lone.at lone.rest
    | _ ↦ wrong (Unsupported word) at >> fine (no_atom word at)
  ]
  | None ↦ wrong (Unsupported word) at >> fine (no_atom word at)
]

-- an effect that is no conjunction, with the place of its list, its first word and that word's place
abbrev pub plain_effect_of : ℕ → List ℕ → ℕ → Trees → Read (List EffectItem)
plain_effect_of at head i rest = elim (head_of head) [
  | heads.Not ↦ negated_of head i rest >>= λ atom. fine (change false atom ∷ [])
  | heads.Name ↦ atom_of head i rest >>= λ atom. fine (change true atom ∷ [])
  | heads.Other ↦ wrong Shape at >> fine []
  | _ ↦ wrong (Unsupported head) i >> fine []
]

abbrev pub effect_of : Tree → Read (List EffectItem)
effect_of tree = conjunction_of plain_effect_of tree

-- ( at NUMBER ( .. ) )
abbrev pub is_timed : List ℕ → Trees → Bool
is_timed head (Then (Leaf text i) (Then (Branch j trees) End)) = bytes_eq head (codes "at") && starts_with_digit text
is_timed head trees = false

abbrev pub stated_of : List ℕ → ℕ → Trees → Read InitFact
stated_of head at rest = elim (is_timed head rest) [
  | true ↦ wrong (Unsupported head) at >> fine (literal true (no_atom head at))
  | false ↦ atom_of head at rest >>= λ atom. fine (literal true atom)
]

-- an item of :init by its first word, with the place of its list and that word's place
abbrev pub headed_fact_of : ℕ → List ℕ → ℕ → Trees → Read InitFact
headed_fact_of at head i rest = elim (head_of head) [
  | heads.Not ↦ negated_of head i rest >>= λ atom. fine (literal false atom)
  | heads.Name ↦ stated_of head i rest
  | heads.Other ↦ wrong Shape at >> fine (literal true (no_atom head i))
  | _ ↦ wrong (Unsupported head) i >> fine (literal true (no_atom head i))
]

abbrev pub fact_of : Tree → Read (List InitFact)
fact_of (Leaf text at) = wrong Shape at >> fine []
fact_of (Branch at End) = wrong Shape at >> fine []
fact_of (Branch at (Then (Branch i trees) rest)) = wrong Shape at >> fine []
fact_of (Branch at (Then (Leaf head i) rest)) = headed_fact_of at head i rest >>= λ fact. fine (fact ∷ [])
