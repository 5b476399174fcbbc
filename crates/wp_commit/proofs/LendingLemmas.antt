-- What the store knows of its calls and of its run.
use Rattle.std.proofs.Common.{◌≡◌, ℕ, ◌+◌, List, ◌++◌, length, map, sym, ap, ◌∙◌, subst, length-append}
use Rattle.std.proofs.lemmas.List.{length-map}
use Rattle.std.specs.Prelude.{Result, Ok, IfOk}
use Rattle.wp_novel.specs.declared.birth.Pair.{Pair}
use Rattle.wp_novel.specs.NoveltyTables.{NoveltyTables, counters_of, open_pairs}
use Rattle.wp_nodes.specs.KeptNodes.{Keeping}
use Rattle.wp_ahead.specs.KeptBroods.{KeptBroods, Fit}
use Rattle.wp_plain.specs.Steps.{Asked}
use Rattle.wp_commit.specs.Lending.{IsRunOf}

-- what a call gives where it is not refused
pub ok_of : {A E : Type 0} (P : A → Type 0) (given : Result A E) (x : A) → given ≡ Ok x → IfOk given P → P x
ok_of P given x was is = subst (λ r. IfOk r P) was is

-- a run is known by what it was made for, and by broods that are those of their nodes
pub run_of : (Works : Type 0) (run later asked : Asked) (pairs : ℕ) (tables : NoveltyTables) (nodes : Keeping) (broods left : KeptBroods) → run ≡ later →
    Fit run.task nodes left → IsRunOf Works run asked pairs tables nodes broods → IsRunOf Works later asked pairs tables nodes left
run_of Works run later asked pairs tables nodes broods left same fit is =
    subst (λ (b : Asked). IsRunOf Works b asked pairs tables nodes left) same
    (record { same = is.same; all = is.all; pairs_are = is.pairs_are; works = is.works; fit = fit })

-- so many pairs are open once these were opened too
pub pairs-count-later : (tables : NoveltyTables) (pairs : List Pair) (later : List (ℕ × ℕ)) → later ≡ open_pairs tables ++ map counters_of pairs →
    length later ≡ length (open_pairs tables) + length pairs
pairs-count-later tables pairs later opened =
    ap length opened
    ∙ (length-append (open_pairs tables) (map counters_of pairs) ∙ ap (λ n. length (open_pairs tables) + n) (length-map pairs counters_of))
