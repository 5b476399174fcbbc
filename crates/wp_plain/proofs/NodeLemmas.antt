-- The nodes that numbered children become: numbered one after another or all at once they are the same.
use Rattle.std.proofs.Common.{◌≡◌, ◌==◌, ◌&&◌, not, ℕ, ◌+◌, ◌≤◌, List, [], ◌∷◌, ◌++◌, length, map, get_or, set, cond, refl, sym, ap, ◌∙◌, append_assoc, length-append, arith}
use Rattle.std.specs.List.{filter, fold, list_all, list_any, position_or_len, range_with_len}
use Rattle.std.proofs.lemmas.List.{append-nil, map-append}
use Rattle.std.proofs.lemmas.List.Elements.{filter-append}
use Rattle.std.proofs.Math.Seq.{map-set_same}
use Rattle.std.proofs.lemmas.List.Sums.{fold-append}
use Rattle.std.proofs.lemmas.Bool.{le-ltb}
use Rattle.wp_task.specs.Set.{has, atoms_in}
use Rattle.wp_task.specs.Novelty.{Generated, is_earlier, novelty_of, sets_of}
use Rattle.wp_count.specs.declared.brood.Child.{Child}
use Rattle.wp_plain.specs.declared.settings.Settings.{Settings}
use Rattle.wp_plain.specs.Nodes.{Node, generated_in}
use Rattle.wp_plain.specs.Pairs.{with_pair, pairs_in}
use Rattle.wp_plain.specs.Expansion.{with_novelty, node_of}
use Rattle.wp_plain.specs.Explored.{child_pair, numbered, all_numbered, next_node, with_child, with_children, Lists}

-- ---- nodes of greater numbers play no part
not_earlier : (x : Generated) (n : ℕ) (cs : List Child) → x.number ≤ n → filter (is_earlier x) (all_numbered n cs) ≡ []
not_earlier x n [] late = refl
not_earlier x n (c ∷ cs) late =
    ap (λ b. cond (b && ((c.g == x.counters.0) && (c.r == x.counters.1))) (numbered n c ∷ filter (is_earlier x) (all_numbered (n + 1) cs)) (filter (is_earlier x) (all_numbered (n + 1) cs)))
    (le-ltb n x.number late)
    ∙ not_earlier x (n + 1) cs (omega arith)

-- only earlier nodes play a part
pub novelty-earlier : (width : ℕ) (xs ys : List Generated) (x : Generated) → filter (is_earlier x) xs ≡ filter (is_earlier x) ys →
    novelty_of width xs x ≡ novelty_of width ys x
novelty-earlier width xs ys x same =
    ap (λ zs. 1 + position_or_len (λ i. list_any (λ tuple. list_all (λ y. not (list_all (has y.state) tuple)) zs) (sets_of i (atoms_in x.state))) (range_with_len 1 width)) same

novelty-later : (width : ℕ) (xs : List Generated) (x : Generated) (n : ℕ) (cs : List Child) → x.number ≤ n →
    novelty_of width (xs ++ all_numbered n cs) x ≡ novelty_of width xs x
novelty-later width xs x n cs late =
    novelty-earlier width (xs ++ all_numbered n cs) xs x
    (filter-append (is_earlier x) xs (all_numbered n cs)
    ∙ (ap (λ ys. filter (is_earlier x) xs ++ ys) (not_earlier x n cs late) ∙ append-nil (filter (is_earlier x) xs)))

module _ (settings : Settings) (parent track : ℕ) where
  pub nodes-children : (lists : Lists) (cs : List Child) → (with_children settings parent track lists cs).nodes ≡
      lists.nodes ++ map (node_of settings (generated_in lists.nodes ++ all_numbered (length lists.nodes) cs)) (all_numbered (length lists.nodes) cs)
  nodes-children lists [] = sym (append-nil lists.nodes)
  nodes-children lists (c ∷ cs) =
      let nodes = lists.nodes in
      let n = length nodes in
      let g = numbered n c in
      let node = next_node settings nodes c in
      let rest = map (node_of settings (generated_in nodes ++ g ∷ all_numbered (n + 1) cs)) (all_numbered (n + 1) cs) in
      let len : length (nodes ++ node ∷ []) ≡ n + 1 = length-append nodes (node ∷ []) in
      let all : generated_in (nodes ++ node ∷ []) ++ all_numbered (length (nodes ++ node ∷ [])) cs ≡ generated_in nodes ++ g ∷ all_numbered (n + 1) cs =
      (λ j. map-append (λ x. x.generated) nodes (node ∷ []) j ++ all_numbered (len j) cs) ∙ append_assoc (generated_in nodes) (g ∷ []) (all_numbered (n + 1) cs) in
      nodes-children (with_child settings parent track lists c) cs
      ∙ ((λ j. (nodes ++ node ∷ []) ++ map (node_of settings (all j)) (all_numbered (len j) cs))
      ∙ (append_assoc nodes (node ∷ []) rest
      ∙ ap (λ w. nodes ++ with_novelty settings g w ∷ rest) (sym (novelty-later settings.width (generated_in nodes) g n (c ∷ cs) (omega arith)))))

-- ---- counters
counters-numbered : (n : ℕ) (cs : List Child) → map (λ x. x.counters) (all_numbered n cs) ≡ map child_pair cs
counters-numbered n [] = refl
counters-numbered n (c ∷ cs) = ap (λ l. (c.g, c.r) ∷ l) (counters-numbered (n + 1) cs)

pub pairs_in-numbered : (xs : List Generated) (n : ℕ) (cs : List Child) → fold with_pair (pairs_in xs) (map child_pair cs) ≡ pairs_in (xs ++ all_numbered n cs)
pairs_in-numbered xs n cs =
    sym (ap (fold with_pair []) (map-append (λ x. x.counters) xs (all_numbered n cs))
    ∙ (fold-append with_pair [] (map (λ x. x.counters) xs) (map (λ x. x.counters) (all_numbered n cs))
    ∙ ap (fold with_pair (pairs_in xs)) (counters-numbered n cs)))

-- a node that leaves changes nothing of what was generated
pub generated_in-set : (nodes : List Node) (i : ℕ) (d x : Node) → x.generated ≡ (get_or nodes i d).generated → generated_in (set nodes i x) ≡ generated_in nodes
generated_in-set nodes i d x same = map-set_same (λ n. n.generated) nodes i x d same
