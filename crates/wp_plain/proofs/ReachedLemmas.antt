-- What is kept of the nodes, as the lists grow.
use Rattle.std.proofs.Common.{◌≡◌, ℕ, ◌<◌, ◌≤◌, Bool, List, [], ◌∷◌, ◌++◌, Option, Some, None, length, map, get_or, refl, sym, ap, ◌∙◌, subst, ⊎_elim, append_assoc, length-append, arith}
use Rattle.std.specs.Prelude.{IfSome}
use Rattle.std.specs.List.{All}
use Rattle.std.specs.Option.{option_to_list}
use Rattle.std.proofs.lemmas.List.{append-nil, get_or_append_left}
use Rattle.std.proofs.lemmas.List.Elements.{All-head, All-tail}
use Rattle.std.proofs.lemmas.Bool.{cases_lt}
use Rattle.std.proofs.Math.Seq.{get_or-append_seam}
use Rattle.wp_task.specs.Task.{PlanningTask}
use Rattle.wp_task.specs.Novelty.{Generated}
use Rattle.wp_count.specs.declared.brood.Child.{Child}
use Rattle.wp_count.specs.Laws.{IsMarked, IsEvaluated, mark_of}
use Rattle.wp_plain.specs.declared.settings.Settings.{Settings}
use Rattle.wp_plain.specs.declared.explored.Link.{Link}
use Rattle.wp_plain.specs.declared.explored.Way.{Way}
use Rattle.wp_plain.specs.Nodes.{Path, no_path, path_at, extended}
use Rattle.wp_plain.specs.Explored.{no_node, no_way, node_at, way_at, track_at, path_over, states_before, bare, next_node, track_number, way_of, with_child, with_children, Lists, IsReached, AreReached}
use Rattle.wp_plain.proofs.ListLemmas.{track_at-more, track-kept}

-- ---- what stands in the lists stays
pub path_at-more : (paths more : List Path) (k : ℕ) → k < length paths → path_at (paths ++ more) k ≡ path_at paths k
path_at-more paths more k within = get_or_append_left paths more no_path k within

path_over-more : (paths more : List Path) (state : List Bool) (back : Option Link) (k : ℕ) → IfSome back (λ link. link.parent < k) →
    k ≤ length paths → path_over (paths ++ more) state back ≡ path_over paths state back
path_over-more paths more state None k below within = refl
path_over-more paths more state (Some link) k below within =
    ap (λ p. extended p (record { act = link.act; state = state })) (path_at-more paths more link.parent (omega arith))

states_before-more : (paths more : List Path) (back : Option Link) (k : ℕ) → IfSome back (λ link. link.parent < k) →
    k ≤ length paths → states_before (paths ++ more) back ≡ states_before paths back
states_before-more paths more None k below within = refl
states_before-more paths more (Some link) k below within = ap (λ p. p.states) (path_at-more paths more link.parent (omega arith))

reached-more : (task : PlanningTask) (paths more : List Path) (tracks fresh : List (List ℕ)) (k : ℕ) (x : Generated) (way : Way) →
    IsReached task paths tracks k x way → k < length paths → IsReached task (paths ++ more) (tracks ++ fresh) k x way
reached-more task paths more tracks fresh k x way h within = record {
  numbered = h.numbered;
  parent = h.parent;
  path = path_at-more paths more k within ∙ (h.path ∙ sym (path_over-more paths more x.state way.back k h.parent (omega arith)));
  has_track = omega (arith, h.has_track, length-append tracks fresh);
  counters = h.counters;
  marked =
      subst (λ before. IsMarked task x.state before way.mark (track_at (tracks ++ fresh) way.mark.track)) (sym (states_before-more paths more way.back k h.parent (omega arith)))
      (subst (λ track. IsMarked task x.state (states_before paths way.back) way.mark track) (sym (track_at-more tracks fresh way.mark.track h.has_track)) h.marked);
}

-- ---- one more child
-- what holds at each place of two lists and of one more item
each-pushed : {X Y : Type 0} (P : ℕ → X → Y → Type 0) (xs : List X) (ys : List Y) (x d : X) (y e : Y) → length ys ≡ length xs →
    ((k : ℕ) → k < length xs → P k (get_or xs k d) (get_or ys k e)) → P (length xs) x y →
    (k : ℕ) → k < length (xs ++ x ∷ []) → P k (get_or (xs ++ x ∷ []) k d) (get_or (ys ++ y ∷ []) k e)
each-pushed P xs ys x d y e len each last k below = ⊎_elim
    (λ (before : k < length xs).
    subst (λ v. P k v (get_or (ys ++ y ∷ []) k e)) (sym (get_or_append_left xs (x ∷ []) d k before))
    (subst (λ w. P k (get_or xs k d) w) (sym (get_or_append_left ys (y ∷ []) e k (omega (arith, len)))) (each k before)))
    (λ (after : length xs ≤ k).
    let here : k ≡ length xs = omega (arith, length-append xs (x ∷ [])) in
    let there : k ≡ length ys = here ∙ sym len in
    let at_x : get_or (xs ++ x ∷ []) k d ≡ x = ap (λ i. get_or (xs ++ x ∷ []) i d) here ∙ get_or-append_seam xs x [] d in
    let at_y : get_or (ys ++ y ∷ []) k e ≡ y = ap (λ i. get_or (ys ++ y ∷ []) i e) there ∙ get_or-append_seam ys y [] e in
    subst (λ v. P k v (get_or (ys ++ y ∷ []) k e)) (sym at_x) (subst (λ w. P k x w) (sym at_y) (subst (λ i. P i x y) (sym here) last)))
    (cases_lt k (length xs))

module _ (task : PlanningTask) (settings : Settings) (parent track : ℕ) (p : Path) (t : List ℕ) where
  -- the way to a child, over the path of its parent
  reached-new : (paths : List Path) (tracks : List (List ℕ)) (n : ℕ) (c : Child) → length paths ≡ n → parent < n → track < length tracks →
      path_at paths parent ≡ p → track_at tracks track ≡ t → IsEvaluated task p.states t c →
      IsReached task (paths ++ extended p (bare c) ∷ []) (tracks ++ option_to_list c.fresh) n (record { number = n; counters = (c.g, c.r); state = c.state }) (way_of (length tracks) parent track c)
  reached-new paths tracks n c len within has_track path_is track_is evaluated =
      let kept = track-kept tracks track t c.fresh has_track track_is in
      let number = track_number (length tracks) track c.fresh in
      let above : path_at (paths ++ extended p (bare c) ∷ []) parent ≡ p = path_at-more paths (extended p (bare c) ∷ []) parent (omega arith) ∙ path_is in
      record {
        numbered = refl;
        parent = within;
        path = subst (λ (k : ℕ). path_at (paths ++ extended p (bare c) ∷ []) k ≡ extended p (bare c)) len
            (get_or-append_seam paths (extended p (bare c)) [] no_path)
            ∙ ap (λ q. extended q (bare c)) (sym above);
        has_track = kept.0;
        counters = refl;
        marked =
            subst (λ before. IsMarked task c.state before (mark_of c number) (track_at (tracks ++ option_to_list c.fresh) number)) (ap (λ q. q.states) (sym above))
            (subst (λ l. IsMarked task c.state p.states (mark_of c number) l) (sym kept.1) (evaluated.marked number));
      }

  reached-child : (paths : List Path) (lists : Lists) (c : Child) → AreReached task paths lists → parent < length lists.nodes → track < length lists.tracks →
      path_at paths parent ≡ p → track_at lists.tracks track ≡ t → IsEvaluated task p.states t c →
      AreReached task (paths ++ extended p (bare c) ∷ []) (with_child settings parent track lists c)
  reached-child paths lists c reached within has_track path_is track_is evaluated =
      let n = length lists.nodes in
      let node = next_node settings lists.nodes c in
      let way = way_of (length lists.tracks) parent track c in
      record {
        path_each = omega (arith, reached.path_each, length-append paths (extended p (bare c) ∷ []), length-append lists.nodes (node ∷ []));
        way_each = omega (arith, reached.way_each, length-append lists.ways (way ∷ []), length-append lists.nodes (node ∷ []));
        each = each-pushed (λ k x y. IsReached task (paths ++ extended p (bare c) ∷ []) (lists.tracks ++ option_to_list c.fresh) k x.generated y)
            lists.nodes lists.ways node no_node way no_way reached.way_each
            (λ k before. reached-more task paths (extended p (bare c) ∷ []) lists.tracks (option_to_list c.fresh) k (node_at lists.nodes k).generated (way_at lists.ways k)
            (reached.each k before) (omega (arith, reached.path_each)))
            (reached-new paths lists.tracks n c reached.path_each within has_track path_is track_is evaluated);
      }

  -- ---- all children
  pub reached-children : (paths : List Path) (lists : Lists) (cs : List Child) → AreReached task paths lists → parent < length lists.nodes → track < length lists.tracks →
      path_at paths parent ≡ p → track_at lists.tracks track ≡ t → All (IsEvaluated task p.states t) cs →
      AreReached task (paths ++ map (extended p) (map bare cs)) (with_children settings parent track lists cs)
  reached-children paths lists [] reached within has_track path_is track_is evaluated =
      subst (λ ps. AreReached task ps lists) (sym (append-nil paths)) reached
  reached-children paths lists (c ∷ cs) reached within has_track path_is track_is evaluated =
      let node = next_node settings lists.nodes c in
      let first = extended p (bare c) ∷ [] in
      let now = with_child settings parent track lists c in
      subst (λ ps. AreReached task ps (with_children settings parent track now cs)) (append_assoc paths first (map (extended p) (map bare cs)))
      (reached-children (paths ++ first) now cs
      (reached-child paths lists c reached within has_track path_is track_is (All-head (IsEvaluated task p.states t) c cs evaluated))
      (omega (arith, length-append lists.nodes (node ∷ [])))
      (omega (arith, length-append lists.tracks (option_to_list c.fresh)))
      (path_at-more paths first parent (omega (arith, reached.path_each)) ∙ path_is)
      (track_at-more lists.tracks (option_to_list c.fresh) track has_track ∙ track_is)
      (All-tail (IsEvaluated task p.states t) c cs evaluated))
