-- The newborns of an expansion: they are nodes of the definition, and those that are not pruned are kept and wait.
use Rattle.std.proofs.Common.{◌≡◌, ◌⊎◌, ℕ, suc, ◌+◌, ◌<◌, Bool, true, false, cond, List, [], ◌∷◌, ◌++◌, length, map, get_or, refl, sym, ap, ◌∙◌, inl, inr, append_assoc, length-append, arith}
use Rattle.std.specs.List.{filter}
use Rattle.std.specs.Option.{option_to_list}
use Rattle.std.proofs.lemmas.List.{append-nil, map-append, get_or_append_left}
use Rattle.wp_task.specs.Novelty.{Generated, novelty_of}
use Rattle.wp_task.proofs.Members.{In, In-append_cases}
use Rattle.wp_count.specs.declared.brood.Child.{Child}
use Rattle.wp_count.specs.Laws.{track_after}
use Rattle.wp_queue.specs.declared.queue.Waiting.{Waiting}
use Rattle.wp_queue.specs.OpenList.{waiting}
use Rattle.wp_nodes.specs.declared.kept.Kept.{Kept}
use Rattle.wp_nodes.specs.KeptNodes.{Keeping}
use Rattle.wp_plain.specs.declared.settings.Settings.{Settings}
use Rattle.wp_plain.specs.Nodes.{Node, Path, no_path, extended}
use Rattle.wp_plain.specs.Expansion.{keeps, node_of}
use Rattle.wp_plain.specs.Explored.{bare, numbered, all_numbered, track_at, track_number}
use Rattle.wp_plain.proofs.ListLemmas.{track-kept}
use Rattle.wp_ahead.specs.Laws.{GoesOn}
use Rattle.wp_commit.specs.declared.newborn.Newborn.{Newborn}
use Rattle.wp_commit.specs.Newborns.{newborns_of, kept_as, with_newborns, waiting_of}
use Rattle.wp_commit.specs.Searched.{shown_kept, shown}

abbrev pub shown_newborn : Newborn → Generated × ℕ
shown_newborn x = (numbered x.number x.child, x.w)

-- whether it is not pruned
abbrev pub stays : Settings → Newborn → Bool
stays settings x = keeps settings.search settings.width x.w

abbrev pub waiting_node : Node → Waiting
waiting_node node = waiting node.w node.generated.counters.0 node.generated.number

-- ---- what is kept
-- the kept nodes with a newborn that stays
abbrev with_kept : ℕ → ℕ → Keeping → Newborn → Keeping
with_kept parent track nodes x = record {
  kept = nodes.kept ++ kept_as parent (track_number (length nodes.tracks) track x.child.fresh) x ∷ [];
  tracks = nodes.tracks ++ option_to_list x.child.fresh;
}

-- with one that stays or does not
abbrev with_one : ℕ → ℕ → Keeping → Newborn → Bool → Keeping
with_one parent track nodes x b = elim b as (λ _. Keeping) [ true ↦ with_kept parent track nodes x | false ↦ nodes ]

module _ (settings : Settings) (parent track : ℕ) where
  pub shown-kept : (nodes : Keeping) (xs : List Newborn) →
      map shown_kept (with_newborns settings parent track nodes xs).kept ≡ map shown_kept nodes.kept ++ map shown_newborn (filter (stays settings) xs)
  shown-kept nodes [] = sym (append-nil (map shown_kept nodes.kept))
  shown-kept nodes (x ∷ xs) = by (stays settings x) (λ n. shown-kept n xs) where
    by : (b : Bool) →
        ((n : Keeping) → map shown_kept (with_newborns settings parent track n xs).kept ≡ map shown_kept n.kept ++ map shown_newborn (filter (stays settings) xs)) →
        map shown_kept (with_newborns settings parent track (with_one parent track nodes x b) xs).kept
        ≡ map shown_kept nodes.kept ++ map shown_newborn (cond b (x ∷ filter (stays settings) xs) (filter (stays settings) xs))
    by true rest =
        let k = kept_as parent (track_number (length nodes.tracks) track x.child.fresh) x in
        let more = map shown_newborn (filter (stays settings) xs) in
        rest (with_kept parent track nodes x)
        ∙ (ap (λ l. l ++ more) (map-append shown_kept nodes.kept (k ∷ []))
        ∙ append_assoc (map shown_kept nodes.kept) (shown_newborn x ∷ []) more)
    by false rest = rest nodes

  -- tracks that are there stay
  pub tracks-stay : (nodes : Keeping) (xs : List Newborn) (i : ℕ) → i < length nodes.tracks →
      track_at (with_newborns settings parent track nodes xs).tracks i ≡ track_at nodes.tracks i
  tracks-stay nodes [] i within = refl
  tracks-stay nodes (x ∷ xs) i within = by (stays settings x) (λ n below. tracks-stay n xs i below) where
    by : (b : Bool) → ((n : Keeping) → i < length n.tracks → track_at (with_newborns settings parent track n xs).tracks i ≡ track_at n.tracks i) →
        track_at (with_newborns settings parent track (with_one parent track nodes x b) xs).tracks i ≡ track_at nodes.tracks i
    by true rest =
        rest (with_kept parent track nodes x) (omega (arith, length-append nodes.tracks (option_to_list x.child.fresh)))
        ∙ get_or_append_left nodes.tracks (option_to_list x.child.fresh) [] i within
    by false rest = rest nodes within

  -- nodes and tracks are added after those that are there
  pub nodes-go-on : (nodes : Keeping) (xs : List Newborn) → GoesOn nodes (with_newborns settings parent track nodes xs)
  nodes-go-on nodes [] = record { more = []; kept = sym (append-nil nodes.kept); more_tracks = []; tracks = sym (append-nil nodes.tracks) }
  nodes-go-on nodes (x ∷ xs) = by (stays settings x) (λ n. nodes-go-on n xs) where
    by : (b : Bool) → ((n : Keeping) → GoesOn n (with_newborns settings parent track n xs)) →
        GoesOn nodes (with_newborns settings parent track (with_one parent track nodes x b) xs)
    by true rest =
        let k = kept_as parent (track_number (length nodes.tracks) track x.child.fresh) x in
        let own = option_to_list x.child.fresh in
        let on = rest (with_kept parent track nodes x) in
        record {
          more = k ∷ on.more;
          kept = on.kept ∙ append_assoc nodes.kept (k ∷ []) on.more;
          more_tracks = own ++ on.more_tracks;
          tracks = on.tracks ∙ append_assoc nodes.tracks own on.more_tracks;
        }
    by false rest = rest nodes

  -- a node that is kept of a newborn, on the track that it has
  pub record IsKeptNewborn (tracks later : List (List ℕ)) (xs : List Newborn) (k : Kept) : Type 0 where
    pub from : Newborn
    pub there : In from xs
    pub number : ℕ
    pub is : k ≡ kept_as parent number from
    pub on : track_at later number ≡ track_after (track_at tracks track) from.child.fresh

  kept-step : (tracks more later : List (List ℕ)) (x : Newborn) (xs : List Newborn) (k : Kept) → track_at more track ≡ track_at tracks track →
      IsKeptNewborn more later xs k → IsKeptNewborn tracks later (x ∷ xs) k
  kept-step tracks more later x xs k same born = record {
    from = born.from;
    there = inr born.there;
    number = born.number;
    is = born.is;
    on = born.on ∙ ap (λ t. track_after t born.from.child.fresh) same;
  }

  -- each kept node is an old one or such a one
  pub kept-cases : (nodes : Keeping) (xs : List Newborn) → track < length nodes.tracks →
      (k : Kept) → In k (with_newborns settings parent track nodes xs).kept →
      In k nodes.kept ⊎ IsKeptNewborn nodes.tracks (with_newborns settings parent track nodes xs).tracks xs k
  kept-cases nodes [] within k there = inl there
  kept-cases nodes (x ∷ xs) within k there = by (stays settings x) (λ n below. kept-cases n xs below k) there where
    by : (b : Bool) →
        ((n : Keeping) → track < length n.tracks → In k (with_newborns settings parent track n xs).kept →
        In k n.kept ⊎ IsKeptNewborn n.tracks (with_newborns settings parent track n xs).tracks xs k) →
        In k (with_newborns settings parent track (with_one parent track nodes x b) xs).kept →
        In k nodes.kept ⊎ IsKeptNewborn nodes.tracks (with_newborns settings parent track (with_one parent track nodes x b) xs).tracks (x ∷ xs) k
    by true rest among = at (rest now longer among) where
      number : ℕ
      number = track_number (length nodes.tracks) track x.child.fresh

      now : Keeping
      now = with_kept parent track nodes x

      longer : track < length now.tracks
      longer = omega (arith, length-append nodes.tracks (option_to_list x.child.fresh))

      same : track_at now.tracks track ≡ track_at nodes.tracks track
      same = get_or_append_left nodes.tracks (option_to_list x.child.fresh) [] track within

      later : List (List ℕ)
      later = (with_newborns settings parent track now xs).tracks

      here : k ≡ kept_as parent number x → IsKeptNewborn nodes.tracks later (x ∷ xs) k
      here is = record {
        from = x;
        there = inl refl;
        number = number;
        is = is;
        on = tracks-stay now xs number (track-kept nodes.tracks track (track_at nodes.tracks track) x.child.fresh within refl).0
            ∙ (track-kept nodes.tracks track (track_at nodes.tracks track) x.child.fresh within refl).1;
      }

      before : In k nodes.kept ⊎ In k (kept_as parent number x ∷ []) → In k nodes.kept ⊎ IsKeptNewborn nodes.tracks later (x ∷ xs) k
      before (inl old) = inl old
      before (inr (inl is)) = inr (here is)
      before (inr (inr none)) = absurd none

      at : In k now.kept ⊎ IsKeptNewborn now.tracks later xs k → In k nodes.kept ⊎ IsKeptNewborn nodes.tracks later (x ∷ xs) k
      at (inl old) = before (In-append_cases nodes.kept (kept_as parent number x ∷ []) k old)
      at (inr born) = inr (kept-step nodes.tracks now.tracks later x xs k same born)
    by false rest among = at (rest nodes within among) where
      later : List (List ℕ)
      later = (with_newborns settings parent track nodes xs).tracks

      at : In k nodes.kept ⊎ IsKeptNewborn nodes.tracks later xs k → In k nodes.kept ⊎ IsKeptNewborn nodes.tracks later (x ∷ xs) k
      at (inl old) = inl old
      at (inr born) = inr (kept-step nodes.tracks nodes.tracks later x xs k refl born)

-- ---- nodes of the definition
module _ (settings : Settings) (all : List Generated) where
  pub shown-nodes : (n : ℕ) (cs : List Child) →
      map shown (filter (λ x. x.kept) (map (node_of settings all) (all_numbered n cs)))
      ≡ map shown_newborn (filter (stays settings) (newborns_of settings.width all n cs))
  shown-nodes n [] = refl
  shown-nodes n (c ∷ cs) =
      by (keeps settings.search settings.width (novelty_of settings.width all (numbered n c))) (shown-nodes (n + 1) cs) where
        nodes : List Node
        nodes = filter (λ x. x.kept) (map (node_of settings all) (all_numbered (n + 1) cs))

        newborns : List Newborn
        newborns = filter (stays settings) (newborns_of settings.width all (n + 1) cs)

        by : (b : Bool) → map shown nodes ≡ map shown_newborn newborns →
            map shown (cond b (node_of settings all (numbered n c) ∷ nodes) nodes)
            ≡ map shown_newborn (cond b (record { number = n; w = novelty_of settings.width all (numbered n c); child = c } ∷ newborns) newborns)
        by true rest = ap (λ l. (numbered n c, novelty_of settings.width all (numbered n c)) ∷ l) rest
        by false rest = rest

  pub waiting-nodes : (n : ℕ) (cs : List Child) →
      map waiting_node (filter (λ x. x.waits) (map (node_of settings all) (all_numbered n cs)))
      ≡ waiting_of settings (newborns_of settings.width all n cs)
  waiting-nodes n [] = refl
  waiting-nodes n (c ∷ cs) =
      by (keeps settings.search settings.width (novelty_of settings.width all (numbered n c))) (waiting-nodes (n + 1) cs) where
        nodes : List Node
        nodes = filter (λ x. x.waits) (map (node_of settings all) (all_numbered (n + 1) cs))

        newborns : List Newborn
        newborns = filter (λ x. keeps settings.search settings.width x.w) (newborns_of settings.width all (n + 1) cs)

        by : (b : Bool) → map waiting_node nodes ≡ map (λ x. waiting x.w x.child.g x.number) newborns →
            map waiting_node (cond b (node_of settings all (numbered n c) ∷ nodes) nodes)
            ≡ map (λ x. waiting x.w x.child.g x.number) (cond b (record { number = n; w = novelty_of settings.width all (numbered n c); child = c } ∷ newborns) newborns)
        by true rest = ap (λ l. waiting (novelty_of settings.width all (numbered n c)) c.g n ∷ l) rest
        by false rest = rest

-- a child waits where it is kept
pub waits-kept : (settings : Settings) (all gs : List Generated) (node : Node) → In node (map (node_of settings all) gs) → node.waits ≡ true → node.kept ≡ true
waits-kept settings all [] node there waits = absurd there
waits-kept settings all (g ∷ gs) node (inl same) waits = ap (λ n. n.kept) same ∙ (ap (λ n. n.waits) (sym same) ∙ waits)
waits-kept settings all (g ∷ gs) node (inr later) waits = waits-kept settings all gs node later waits

-- ---- numbers and places
pub length-newborns : (width : ℕ) (all : List Generated) (n : ℕ) (cs : List Child) → length (newborns_of width all n cs) ≡ length cs
length-newborns width all n [] = refl
length-newborns width all n (c ∷ cs) = ap suc (length-newborns width all (n + 1) cs)

-- a newborn is the child at a place, with a path
pub record IsNewbornAt (p : Path) (n : ℕ) (cs : List Child) (x : Newborn) : Type 0 where
  pub place : ℕ
  pub within : place < length cs
  pub number_is : x.number ≡ n + place
  pub there : In x.child cs
  pub path : get_or (map (extended p) (map bare cs)) place no_path ≡ extended p (bare x.child)

pub newborn-at : (p : Path) (width : ℕ) (all : List Generated) (n : ℕ) (cs : List Child) (x : Newborn) → In x (newborns_of width all n cs) →
    IsNewbornAt p n cs x
newborn-at p width all n [] x there = absurd there
newborn-at p width all n (c ∷ cs) x (inl same) =
    let none : n ≡ n + 0 = omega arith in
    record {
      place = 0;
      within = omega arith;
      number_is = ap (λ y. y.number) same ∙ none;
      there = inl (ap (λ y. y.child) same);
      path = ap (λ y. extended p (bare y.child)) (sym same);
    }
newborn-at p width all n (c ∷ cs) x (inr later) =
    let rest = newborn-at p width all (n + 1) cs x later in
    let below : rest.place < length cs = rest.within in
    let next : n + 1 + rest.place ≡ n + suc rest.place = omega arith in
    record {
      place = suc rest.place;
      within = omega arith;
      number_is = rest.number_is ∙ next;
      there = inr rest.there;
      path = rest.path;
    }
