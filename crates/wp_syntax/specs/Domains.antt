-- Domains.
--
--   domain  = ( define ( domain NAME ) section* )
--   section = ( :requirements WORD* ) | ( :types typed-names ) | ( :constants typed-names )
--           | ( :predicates ( NAME typed-vars )* ) | ( :action NAME part* )
--
-- Sections come in any order, all but :action once at most.
use Rattle.std.specs.Prelude.{ℕ, true, false, List, [], ◌∷◌, ◌++◌, Some, None, is_some, unwrap_or, codes}
use Rattle.wp_lex.specs.Trees.{Tree, Trees, Leaf, Branch, End, Then}
use Rattle.wp_syntax.specs.declared.error.ReadKind.TheVariants.{Shape, Unsupported, Duplicate}
use Rattle.wp_syntax.specs.declared.records.Name.{Name}
use Rattle.wp_syntax.specs.declared.records.Domain.{Domain}
use Rattle.wp_syntax.specs.declared.domain.Sections.{Sections}
use Rattle.wp_syntax.specs.declared.typing.Role.TheVariants as roles
use Rattle.wp_syntax.specs.declared.word.SectionHead.TheVariants as section_heads
use Rattle.wp_syntax.specs.Heads.{section_head_of}
use Rattle.wp_syntax.specs.Reading.{Read, fine, wrong, wrong_if, ◌>>=◌, ◌>>◌}
use Rattle.wp_syntax.specs.Typing.{typed_of}
use Rattle.wp_syntax.specs.Predicates.{preds_of}
use Rattle.wp_syntax.specs.Actions.{action_of}
use Rattle.wp_syntax.specs.Outline.{outline_of, title_of, flags_of}

abbrev pub no_sections : Sections
no_sections = record { requirements = false; types = None; constants = None; preds = None; actions = [] }

-- a section by its word, with the place of its list and that of its word
abbrev pub headed_section_of : Sections → ℕ → List ℕ → ℕ → Trees → Read Sections
headed_section_of so_far at head i rest = elim (section_head_of head) [
  | section_heads.Requirements ↦ wrong_if so_far.requirements Duplicate at
      >> (flags_of rest >> fine (record so_far { requirements = true }))
  | section_heads.Types ↦ wrong_if (is_some so_far.types) Duplicate at
      >> (typed_of roles.Names [] [] rest >>= λ types. fine (record so_far { types = Some types }))
  | section_heads.Constants ↦ wrong_if (is_some so_far.constants) Duplicate at
      >> (typed_of roles.Names [] [] rest >>= λ constants. fine (record so_far { constants = Some constants }))
  | section_heads.Predicates ↦ wrong_if (is_some so_far.preds) Duplicate at
      >> (preds_of [] rest >>= λ preds. fine (record so_far { preds = Some preds }))
  | section_heads.Action ↦
      action_of so_far.actions at rest >>= λ action. fine (record so_far { actions = so_far.actions ++ action ∷ [] })
  | section_heads.Unsupported ↦ wrong (Unsupported head) i >> fine so_far
  | section_heads.Other ↦ wrong Shape at >> fine so_far
]

abbrev pub section_of : Sections → Tree → Read Sections
section_of so_far (Leaf text at) = wrong Shape at >> fine so_far
section_of so_far (Branch at End) = wrong Shape at >> fine so_far
section_of so_far (Branch at (Then (Branch i trees) rest)) = wrong Shape at >> fine so_far
section_of so_far (Branch at (Then (Leaf head i) rest)) = headed_section_of so_far at head i rest

abbrev pub sections_of : Sections → Trees → Read Sections
sections_of so_far End = fine so_far
sections_of so_far (Then tree rest) = section_of so_far tree >>= λ new. sections_of new rest

-- a domain's name and its sections
abbrev pub sectioned_of : Trees → Read (Name × Sections)
sectioned_of trees = outline_of trees >>= λ outline. title_of (codes "domain") outline.title >>= λ name.
    sections_of no_sections outline.rest >>= λ sections. fine (name, sections)

abbrev pub domain_from : Name → Sections → Domain
domain_from name sections = record {
  name = name;
  types = unwrap_or sections.types [];
  constants = unwrap_or sections.constants [];
  preds = unwrap_or sections.preds [];
  actions = sections.actions;
}

abbrev pub domain_of : Trees → Read Domain
domain_of trees = sectioned_of trees >>= λ read. fine (domain_from read.0 read.1)
