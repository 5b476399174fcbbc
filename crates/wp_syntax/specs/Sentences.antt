-- Domains and problems as a relation of trees and records. Sections, parts and items stand in any order: a list of each is read, and
-- what may stand once is in the record as it stands there, or empty where it is not there.
use Rattle.std.specs.Prelude.{◌≡◌, ℕ, true, false, List, [], ◌∷◌, map, codes}
use Rattle.wp_lex.specs.Trees.{Tree, Trees, Leaf, Branch, End, Then}
use Rattle.wp_syntax.specs.declared.records.Name.{Name}
use Rattle.wp_syntax.specs.declared.records.Typed.{Typed}
use Rattle.wp_syntax.specs.declared.records.AtomText.{AtomText}
use Rattle.wp_syntax.specs.declared.records.Cond.{Cond}
use Rattle.wp_syntax.specs.declared.items.EffectItem.{EffectItem}
use Rattle.wp_syntax.specs.declared.items.InitFact.{InitFact}
use Rattle.wp_syntax.specs.declared.records.PredText.{PredText}
use Rattle.wp_syntax.specs.declared.records.ActionText.{ActionText}
use Rattle.wp_syntax.specs.declared.records.Domain.{Domain}
use Rattle.wp_syntax.specs.declared.records.Problem.{Problem}
use Rattle.wp_syntax.specs.declared.typing.Role.TheVariants as roles
use Rattle.wp_syntax.specs.Word.{is_name, is_keyword, is_reserved}
use Rattle.wp_syntax.specs.Named.{most_declared}
use Rattle.wp_syntax.specs.Grammar.{name_at}
use Rattle.wp_syntax.specs.Items.{changes_in, literals_in}
use Rattle.wp_syntax.specs.Phrases.{Each, IsWordThat, IsCondition, IsGoal, IsEffect, IsFact, AreDeclared, IsTypedList}

-- what stands once at most: it is there, or empty where none is
abbrev pub IsOnce : {A : Type 0} → List (List A) → List A → Type 0
IsOnce [] xs = xs ≡ []
IsOnce (one ∷ []) xs = xs ≡ one
IsOnce (one ∷ another ∷ more) xs = ⊥

-- ( NAME typed-vars )
abbrev pub IsDeclaration : Tree → PredText → Type 0
IsDeclaration (Branch at (Then (Leaf text i) rest)) pred =
    (is_name text ≡ true) × (is_reserved text ≡ false) × (pred.name ≡ name_at text i) × IsTypedList roles.Predicate rest pred.params
IsDeclaration tree pred = ⊥

pub record ArePredicates (trees : Trees) (preds : List PredText) : Type 0 where
  pub each : Each IsDeclaration trees preds
  pub declared : AreDeclared most_declared (map (λ (pred : PredText). pred.name.text) preds)

-- the parts of an action
pub data ActionPart : Type 0 where
  Parameters : (params : List Typed) → ActionPart
  Precondition : (conds : List Cond) → ActionPart
  Effects : (items : List EffectItem) → ActionPart

pub data IsPart : List ℕ → Tree → ActionPart → Type 0 where
  of_parameters : (at : ℕ) (trees : Trees) (params : List Typed) → IsTypedList roles.Action trees params
      → IsPart (codes ":parameters") (Branch at trees) (Parameters params)
  of_precondition : (tree : Tree) (conds : List Cond) → IsCondition tree conds → IsPart (codes ":precondition") tree (Precondition conds)
  of_effect : (tree : Tree) (items : List EffectItem) → IsEffect tree items → IsPart (codes ":effect") tree (Effects items)

-- a word and what follows it, again and again
abbrev pub AreParts : Trees → List ActionPart → Type 0
AreParts End [] = Unit {0}
AreParts (Then (Leaf word at) (Then value rest)) (part ∷ parts) = IsPart word value part × AreParts rest parts
AreParts trees parts = ⊥

abbrev pub params_in : List ActionPart → List (List Typed)
params_in [] = []
params_in (Parameters params ∷ parts) = params ∷ params_in parts
params_in (Precondition conds ∷ parts) = params_in parts
params_in (Effects items ∷ parts) = params_in parts

abbrev pub conds_in : List ActionPart → List (List Cond)
conds_in [] = []
conds_in (Parameters params ∷ parts) = conds_in parts
conds_in (Precondition conds ∷ parts) = conds ∷ conds_in parts
conds_in (Effects items ∷ parts) = conds_in parts

abbrev pub effects_in : List ActionPart → List (List EffectItem)
effects_in [] = []
effects_in (Parameters params ∷ parts) = effects_in parts
effects_in (Precondition conds ∷ parts) = effects_in parts
effects_in (Effects items ∷ parts) = items ∷ effects_in parts

pub record HasParts (trees : Trees) (action : ActionText) : Type 0 where
  pub parts : List ActionPart
  pub each : AreParts trees parts
  pub params : IsOnce (params_in parts) action.params
  pub pre : IsOnce (conds_in parts) action.pre
  pub items : List EffectItem
  pub effects : IsOnce (effects_in parts) items
  pub changes : action.effects ≡ changes_in items

-- NAME part*
abbrev pub IsAction : Trees → ActionText → Type 0
IsAction (Then (Leaf text i) rest) action = (is_name text ≡ true) × (action.name ≡ name_at text i) × HasParts rest action
IsAction trees action = ⊥

-- the sections of a domain
pub data Section : Type 0 where
  Requirements : Section
  Types : (types : List Typed) → Section
  Constants : (constants : List Typed) → Section
  Predicates : (preds : List PredText) → Section
  Action : (action : ActionText) → Section

-- WORD*, each of which begins with a colon
abbrev pub AreFlags : Trees → Type 0
AreFlags End = Unit {0}
AreFlags (Then (Leaf text at) rest) = (is_keyword text ≡ true) × AreFlags rest
AreFlags (Then (Branch at trees) rest) = ⊥

-- what a section has behind its word
pub data HasSection : List ℕ → Trees → Section → Type 0 where
  of_requirements : (trees : Trees) → AreFlags trees → HasSection (codes ":requirements") trees Requirements
  of_types : (trees : Trees) (typed : List Typed) → IsTypedList roles.Names trees typed → HasSection (codes ":types") trees (Types typed)
  of_constants : (trees : Trees) (typed : List Typed) → IsTypedList roles.Names trees typed
      → HasSection (codes ":constants") trees (Constants typed)
  of_predicates : (trees : Trees) (preds : List PredText) → ArePredicates trees preds → HasSection (codes ":predicates") trees (Predicates preds)
  of_action : (trees : Trees) (action : ActionText) → IsAction trees action → HasSection (codes ":action") trees (Action action)

abbrev pub IsSection : Tree → Section → Type 0
IsSection (Branch at (Then (Leaf word i) rest)) section = HasSection word rest section
IsSection tree section = ⊥

abbrev pub requirements_in : List Section → List (List Name)
requirements_in [] = []
requirements_in (Requirements ∷ sections) = [] ∷ requirements_in sections
requirements_in (Types types ∷ sections) = requirements_in sections
requirements_in (Constants constants ∷ sections) = requirements_in sections
requirements_in (Predicates preds ∷ sections) = requirements_in sections
requirements_in (Action action ∷ sections) = requirements_in sections

abbrev pub types_in : List Section → List (List Typed)
types_in [] = []
types_in (Requirements ∷ sections) = types_in sections
types_in (Types types ∷ sections) = types ∷ types_in sections
types_in (Constants constants ∷ sections) = types_in sections
types_in (Predicates preds ∷ sections) = types_in sections
types_in (Action action ∷ sections) = types_in sections

abbrev pub constants_in : List Section → List (List Typed)
constants_in [] = []
constants_in (Requirements ∷ sections) = constants_in sections
constants_in (Types types ∷ sections) = constants_in sections
constants_in (Constants constants ∷ sections) = constants ∷ constants_in sections
constants_in (Predicates preds ∷ sections) = constants_in sections
constants_in (Action action ∷ sections) = constants_in sections

abbrev pub preds_in : List Section → List (List PredText)
preds_in [] = []
preds_in (Requirements ∷ sections) = preds_in sections
preds_in (Types types ∷ sections) = preds_in sections
preds_in (Constants constants ∷ sections) = preds_in sections
preds_in (Predicates preds ∷ sections) = preds ∷ preds_in sections
preds_in (Action action ∷ sections) = preds_in sections

abbrev pub actions_in : List Section → List ActionText
actions_in [] = []
actions_in (Requirements ∷ sections) = actions_in sections
actions_in (Types types ∷ sections) = actions_in sections
actions_in (Constants constants ∷ sections) = actions_in sections
actions_in (Predicates preds ∷ sections) = actions_in sections
actions_in (Action action ∷ sections) = action ∷ actions_in sections

-- ( define ( WORD NAME ) .. )
pub data HasOutline (word : List ℕ) : Trees → Name → Trees → Type 0 where
  defines : (at i j k : ℕ) (title : Tree) (name : Name) (rest : Trees) → IsWordThat is_name title name → HasOutline word
      (Then (Branch at (Then (Leaf (codes "define") i) (Then (Branch j (Then (Leaf word k) (Then title End))) rest))) End) name rest

pub record IsDomain (trees : Trees) (domain : Domain) : Type 0 where
  pub rest : Trees
  pub sections : List Section
  pub outline : HasOutline (codes "domain") trees domain.name rest
  pub each : Each IsSection rest sections
  pub requirements : IsOnce (requirements_in sections) []
  pub types : IsOnce (types_in sections) domain.types
  pub constants : IsOnce (constants_in sections) domain.constants
  pub preds : IsOnce (preds_in sections) domain.preds
  pub actions : actions_in sections ≡ domain.actions
  pub declared : AreDeclared most_declared (map (λ (action : ActionText). action.name.text) domain.actions)

-- the items of a problem
pub data Entry : Type 0 where
  OfDomain : Entry
  Flags : Entry
  Objects : (objects : List Typed) → Entry
  Init : (init : List InitFact) → Entry
  Goal : (goal : List AtomText) → Entry

-- what an item has behind its word
pub data HasEntry : List ℕ → Trees → Entry → Type 0 where
  of_domain : (tree : Tree) (name : Name) → IsWordThat is_name tree name → HasEntry (codes ":domain") (Then tree End) OfDomain
  of_flags : (trees : Trees) → AreFlags trees → HasEntry (codes ":requirements") trees Flags
  of_objects : (trees : Trees) (typed : List Typed) → IsTypedList roles.Names trees typed → HasEntry (codes ":objects") trees (Objects typed)
  of_init : (trees : Trees) (facts : List InitFact) → Each IsFact trees facts → HasEntry (codes ":init") trees (Init facts)
  of_goal : (tree : Tree) (atoms : List AtomText) → IsGoal tree atoms → HasEntry (codes ":goal") (Then tree End) (Goal atoms)

abbrev pub IsEntry : Tree → Entry → Type 0
IsEntry (Branch at (Then (Leaf word i) rest)) entry = HasEntry word rest entry
IsEntry tree entry = ⊥

abbrev pub domains_in : List Entry → List (List Name)
domains_in [] = []
domains_in (OfDomain ∷ entries) = [] ∷ domains_in entries
domains_in (Flags ∷ entries) = domains_in entries
domains_in (Objects objects ∷ entries) = domains_in entries
domains_in (Init init ∷ entries) = domains_in entries
domains_in (Goal goal ∷ entries) = domains_in entries

abbrev pub flags_in : List Entry → List (List Name)
flags_in [] = []
flags_in (OfDomain ∷ entries) = flags_in entries
flags_in (Flags ∷ entries) = [] ∷ flags_in entries
flags_in (Objects objects ∷ entries) = flags_in entries
flags_in (Init init ∷ entries) = flags_in entries
flags_in (Goal goal ∷ entries) = flags_in entries

abbrev pub objects_in : List Entry → List (List Typed)
objects_in [] = []
objects_in (OfDomain ∷ entries) = objects_in entries
objects_in (Flags ∷ entries) = objects_in entries
objects_in (Objects objects ∷ entries) = objects ∷ objects_in entries
objects_in (Init init ∷ entries) = objects_in entries
objects_in (Goal goal ∷ entries) = objects_in entries

abbrev pub inits_in : List Entry → List (List InitFact)
inits_in [] = []
inits_in (OfDomain ∷ entries) = inits_in entries
inits_in (Flags ∷ entries) = inits_in entries
inits_in (Objects objects ∷ entries) = inits_in entries
inits_in (Init init ∷ entries) = init ∷ inits_in entries
inits_in (Goal goal ∷ entries) = inits_in entries

abbrev pub goals_in : List Entry → List (List AtomText)
goals_in [] = []
goals_in (OfDomain ∷ entries) = goals_in entries
goals_in (Flags ∷ entries) = goals_in entries
goals_in (Objects objects ∷ entries) = goals_in entries
goals_in (Init init ∷ entries) = goals_in entries
goals_in (Goal goal ∷ entries) = goal ∷ goals_in entries

pub record IsProblem (trees : Trees) (problem : Problem) : Type 0 where
  pub rest : Trees
  pub entries : List Entry
  pub outline : HasOutline (codes "problem") trees problem.name rest
  pub each : Each IsEntry rest entries
  pub domain : IsOnce (domains_in entries) []
  pub requirements : IsOnce (flags_in entries) []
  pub objects : IsOnce (objects_in entries) problem.objects
  pub facts : List InitFact
  pub init : inits_in entries ≡ facts ∷ []
  pub literals : problem.init ≡ literals_in facts
  pub goal : goals_in entries ≡ problem.goal ∷ []
