-- What the store does to the tables that are lent to it, by two calls that it was handed: it finds the pairs of children that are to be
-- opened, and enters an expansion.
use Rattle.std.specs.Prelude.{◌≡◌, ◌+◌, ◌^◌, ◌<◌, ℕ, false, List, length, Result, IfOk}
use Rattle.std.specs.Global.{Vec}
use Rattle.std.specs.Fn.{Shared}
use Rattle.std.specs.declared.alloc.AllocError.{AllocError}
use denote.Ref.{Bor, MutBor}
use Rattle.wp_count.specs.declared.brood.Child.{Child}
use Rattle.wp_novel.specs.declared.birth.Pair.{Pair}
use Rattle.wp_novel.specs.NoveltyTables.{NoveltyTables, open_pairs}
use Rattle.wp_nodes.specs.KeptNodes.{Keeping}
use Rattle.wp_plain.specs.Pairs.{exceeds}
use Rattle.wp_plain.specs.Steps.{Asked}
use Rattle.wp_ahead.specs.Jobs.{Job}
use Rattle.wp_ahead.specs.KeptBroods.{KeptBroods, Fit}
use Rattle.wp_commit.specs.declared.births.Numbered.{Numbered}
use Rattle.wp_commit.specs.declared.evaluation.Expansion.{Expansion}
use Rattle.wp_commit.specs.declared.searched.Searched.{Searched}
use Rattle.wp_commit.specs.Expansions.{ArePairsToOpen, IsExpansionOf, IsEnteredOf}
use Rattle.wp_commit.specs.Phases.{AreMade}
use Rattle.wp_commit.specs.Searched.{IsTakenAtSome}

-- ---- to enter an expansion
-- the expansion of the node that was taken can be entered: its pairs are within the limit of words
pub record CanEnter (run : Asked) (s : Searched) (tables : NoveltyTables) (broods : KeptBroods) (number : ℕ) (x : Expansion) : Type 0 where
  pub taken : IsTakenAtSome run.task run.settings s tables number
  pub evaluated : IsExpansionOf run.task s tables number x
  pub numbers : s.numbered + length x.children.items < 2 ^ 63
  pub few : exceeds run.settings.words (length (open_pairs tables) + length x.pairs.items) tables.index.len ≡ false
  pub fit : Fit run.task s.nodes broods

-- it was entered, and jobs that make broods were worked beside it
pub record HasEntered (run : Asked) (s : Searched) (tables : NoveltyTables) (number : ℕ) (x : Expansion) (later : NoveltyTables) (left : KeptBroods)
    (parts : Numbered × List Job) : Type 0 where
  pub entered : IsEnteredOf run.task run.settings s tables number x later parts.0
  pub aheads : AreMade run.task s.nodes parts.1
  pub fit : Fit run.task s.nodes left

-- ---- calls
abbrev pub FindCalls : Type 0 → Type 0 → Type 1
FindCalls T F = Shared F (Bor T × (Bor (List Child) × Unit {0})) (Result (Vec Pair) AllocError)

abbrev pub EnterCalls : Type 0 → Type 0 → Type 1
EnterCalls T E = Shared E (Bor Asked × (Bor Searched × (MutBor T × (MutBor KeptBroods × (ℕ × (Expansion × Unit {0}))))))
    (Result (Numbered × List Job) AllocError × (MutBor T × (MutBor KeptBroods × Unit {0})))

-- they may be called, and do what they are for, to what means these tables
pub record WorksOn {T F E : Type 0} (finds : FindCalls T F) (enters : EnterCalls T E) (shown : T → NoveltyTables) (find : F) (enter : E) : Type 0 where
  pub find_takes : (tables : Bor T) (children : Bor (List Child)) → finds.pre find (tables, (children, tt))
  pub find_gives : (tables : Bor T) (children : Bor (List Child)) (pairs : Result (Vec Pair) AllocError) →
      finds.post find (tables, (children, tt)) pairs →
      IfOk pairs (λ pairs. ArePairsToOpen (shown tables.now) children.now pairs.items)
  pub enter_takes : (run : Bor Asked) (s : Bor Searched) (tables : MutBor T) (broods : MutBor KeptBroods) (number : ℕ) (x : Expansion) →
      CanEnter run.now s.now (shown tables.now) broods.now number x →
      enters.pre enter (run, (s, (tables, (broods, (number, (x, tt))))))
  pub enter_gives : (run : Bor Asked) (s : Bor Searched) (tables : MutBor T) (broods : MutBor KeptBroods) (number : ℕ) (x : Expansion)
      (parts : Result (Numbered × List Job) AllocError) (later : MutBor T) (left : MutBor KeptBroods) →
      enters.post enter (run, (s, (tables, (broods, (number, (x, tt)))))) (parts, (later, (left, tt))) →
      IfOk parts (HasEntered run.now s.now (shown tables.now) number x (shown later.now) left.now)

-- ---- what the store stands for besides its nodes
-- it was made for what is asked, so many tuples have places and so many pairs are open, its calls work, and the broods that were made ahead
-- are those of their nodes
pub record IsRunOf (Works : Type 0) (run asked : Asked) (pairs : ℕ) (tables : NoveltyTables) (nodes : Keeping) (broods : KeptBroods) : Type 0 where
  pub same : run ≡ asked
  pub all : run.tuples ≡ tables.index.len
  pub pairs_are : pairs ≡ length (open_pairs tables)
  pub works : Works
  pub fit : Fit run.task nodes broods
