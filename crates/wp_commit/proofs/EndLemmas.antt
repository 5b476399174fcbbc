-- How a run begins and ends, and what is counted at a moment.
use Rattle.std.proofs.Common.{◌≡◌, ℕ, Bool, true, false, [], length, refl, sym, ap, ◌∙◌, subst}
use Rattle.std.specs.Bool.{MatchBool}
use Rattle.wp_task.specs.Task.{PlanningTask}
use Rattle.wp_tuples.specs.TuplePlaces.{Indexed, tuples_of}
use Rattle.wp_tuples.specs.Placing.{all_placed}
use Rattle.wp_novel.specs.NoveltyTables.{NoveltyTables, open_pairs}
use Rattle.wp_plain.specs.declared.settings.Settings.{Settings}
use Rattle.wp_plain.specs.Nodes.{generated_in}
use Rattle.wp_plain.specs.Pairs.{all_tuples, pairs_in, exceeds}
use Rattle.wp_plain.specs.Run.{Moment, run}
use Rattle.wp_commit.specs.declared.searched.Searched.{Searched}
use Rattle.wp_commit.specs.Searched.{IsIndexFor, AreTables, HoldsAt, LeavesTables}

-- the test of the root's own pair
pub exceeds-is : (words tuples count : ℕ) (tested is : Bool) → tuples ≡ count → tested ≡ exceeds words 1 tuples → tested ≡ is → exceeds words 1 count ≡ is
exceeds-is words tuples count tested is same test answer = ap (exceeds words 1) (sym same) ∙ (sym test ∙ answer)

module _ (task : PlanningTask) (settings : Settings) (tuples : ℕ) where
  pub leaves-none : (tables : NoveltyTables) → exceeds settings.words 1 tuples ≡ true → open_pairs tables ≡ [] → LeavesTables task settings tuples tables
  leaves-none tables many empty =
      subst (λ (b : Bool). MatchBool b (open_pairs tables ≡ []) (AreTables task settings tables (run task settings tuples).1.nodes)) (sym many) empty

  pub leaves-all : (tables : NoveltyTables) → exceeds settings.words 1 tuples ≡ false →
      AreTables task settings tables (run task settings tuples).1.nodes → LeavesTables task settings tuples tables
  leaves-all tables few are =
      subst (λ (b : Bool). MatchBool b (open_pairs tables ≡ []) (AreTables task settings tables (run task settings tuples).1.nodes)) (sym few) are

-- as many pairs are open as some node has
pub pairs-count : (task : PlanningTask) (settings : Settings) (s : Searched) (tables : NoveltyTables) (m : Moment) → HoldsAt task settings s tables m →
    length (open_pairs tables) ≡ length (pairs_in (generated_in m.nodes))
pairs-count task settings s tables m holds = ap length holds.words.pairs

-- the index of all tuples of the task's atoms is an index for it
pub all-index : (task : PlanningTask) (settings : Settings) (index : Indexed) → index ≡ record { atoms = task.atoms; width = settings.width } →
    IsIndexFor task settings (all_placed index)
all-index task settings index same = record {
  atoms = ap (λ i. i.atoms) same;
  width = ap (λ i. i.width) same;
  counted = λ state reachable two p q less here there. refl;
}

-- and has as many places as there are tuples
pub all-len : (task : PlanningTask) (settings : Settings) (index : Indexed) → index ≡ record { atoms = task.atoms; width = settings.width } →
    (all_placed index).len ≡ all_tuples task settings
all-len task settings index same = ap (λ i. length (tuples_of i)) same
