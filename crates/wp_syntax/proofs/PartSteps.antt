-- The parts of an action, a word and what follows it at a time.
use Rattle.std.proofs.Common.{◌≡◌, ℕ, List, ap}
use Rattle.wp_lex.specs.Trees.{Tree, Trees, Leaf, Then}
use Rattle.wp_syntax.specs.declared.action.Parts.{Parts}
use Rattle.wp_syntax.specs.Reading.{Read, fine, ◌>>=◌}
use Rattle.wp_syntax.specs.Actions.{valued_of, parts_of}

pub parts_step : (so_far new : Parts) (tree value : Tree) (trees rest : Trees) (word : List ℕ) (at : ℕ)
    → tree ≡ Leaf word at → trees ≡ Then value rest → valued_of so_far word at value ≡ fine new
    → parts_of so_far (Then tree trees) ≡ parts_of new rest
parts_step so_far new tree value trees rest word at is_word is_more is_read =
    rw (is_word, is_more) (ap (λ (r : Read Parts). r >>= λ n. parts_of n rest) is_read)
