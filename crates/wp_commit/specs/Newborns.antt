-- The children that an expansion numbers, and what the search keeps of them.
use Rattle.std.specs.Prelude.{◌≡◌, ◌≢◌, ◌⊎◌, ◌↔◌, ◌+◌, ◌<◌, ℕ, true, false, List, [], ◌∷◌, ◌++◌, length, map, filter, fold, All, Contains, Some}
use Rattle.std.specs.List.{AllPairs}
use Rattle.std.specs.Option.{option_to_list}
use Rattle.wp_task.specs.Novelty.{Generated, novelty_of}
use Rattle.wp_count.specs.declared.brood.Child.{Child}
use Rattle.wp_count.specs.Laws.{mark_of}
use Rattle.wp_watch.specs.declared.event.Born.{Born}
use Rattle.wp_watch.specs.declared.event.Event.{Event}
use Rattle.wp_novel.specs.NoveltyTables.{NoveltyTables, IsOpen}
use Rattle.wp_queue.specs.declared.queue.Waiting.{Waiting}
use Rattle.wp_queue.specs.OpenList.{waiting, InOrder}
use Rattle.wp_nodes.specs.declared.kept.Kept.{Kept}
use Rattle.wp_nodes.specs.KeptNodes.{Keeping}
use Rattle.wp_plain.specs.declared.settings.Settings.{Settings}
use Rattle.wp_plain.specs.Expansion.{keeps}
use Rattle.wp_plain.specs.Explored.{numbered, track_number}
use Rattle.wp_plain.specs.Pairs.{has_pair}
use Rattle.wp_commit.specs.declared.births.Rest.{Rest}
use Rattle.wp_commit.specs.declared.newborn.Newborn.{Newborn}
use Rattle.wp_commit.specs.declared.searched.Searched.{Searched}
use Rattle.wp_commit.specs.Latest.{AreNoted}

-- what a child has besides what it is generated as, and the child of both
abbrev pub rest_of : Child → Rest
rest_of c = record { act = c.act; got = c.got; track = c.fresh }

abbrev pub child_with : Generated → Rest → Child
child_with x rest = record { act = rest.act; state = x.state; g = x.counters.0; r = x.counters.1; got = rest.got; fresh = rest.track }

-- the children with the next numbers, and their novelty among all nodes
abbrev pub newborns_of : ℕ → List Generated → ℕ → List Child → List Newborn
newborns_of width all number [] = []
newborns_of width all number (c ∷ cs) =
    record { number = number; w = novelty_of width all (numbered number c); child = c } ∷ newborns_of width all (number + 1) cs

-- ---- what is kept
-- a newborn as it is kept: `track` is the number of its track, and `parent` that of its parent
abbrev pub kept_as : ℕ → ℕ → Newborn → Kept
kept_as parent track x = record {
  number = x.number;
  w = x.w;
  back = Some (record { parent = parent; act = x.child.act });
  state = x.child.state;
  mark = mark_of x.child track;
}

-- the kept nodes, with one newborn more where it is not pruned; `track` is the number of its parent's track
abbrev pub with_newborn : Settings → ℕ → ℕ → Keeping → Newborn → Keeping
with_newborn settings parent track nodes x = elim (keeps settings.search settings.width x.w) [
  | true ↦ record {
    kept = nodes.kept ++ kept_as parent (track_number (length nodes.tracks) track x.child.fresh) x ∷ [];
    tracks = nodes.tracks ++ option_to_list x.child.fresh;
  }
  | false ↦ nodes
]

abbrev pub with_newborns : Settings → ℕ → ℕ → Keeping → List Newborn → Keeping
with_newborns settings parent track nodes newborns = fold (with_newborn settings parent track) nodes newborns

-- the newborns that are not pruned, as they wait
abbrev pub waiting_of : Settings → List Newborn → List Waiting
waiting_of settings newborns = map (λ x. waiting x.w x.child.g x.number) (filter (λ x. keeps settings.search settings.width x.w) newborns)

-- the newborns can be kept: their numbers rise and are greater than those of the kept nodes, and their states are new
pub record AreNew (kept : List Kept) (newborns : List Newborn) : Type 0 where
  pub rising : AllPairs (λ x y. x.number < y.number) newborns
  pub later : All (λ x. All (λ k. k.number < x.number) kept) newborns
  pub apart : AllPairs (λ x y. x.child.state ≢ y.child.state) newborns
  pub unseen : All (λ x. All (λ k. k.state ≢ x.child.state) kept) newborns

-- the queue, with some nodes more; it is in order where it was
pub record AreQueued (old more new : List Waiting) : Type 0 where
  pub order : InOrder old → InOrder new
  pub has : (x : Waiting) → Contains new x ↔ (Contains old x ⊎ Contains more x)

-- ---- pairs
-- each of the pairs is neither open nor among those before it
abbrev pub AreUnopened : List (ℕ × ℕ) → List (ℕ × ℕ) → Type 0
AreUnopened opened [] = Unit {0}
AreUnopened opened (x ∷ pairs) = (has_pair opened x ≡ false) × AreUnopened (opened ++ x ∷ []) pairs

-- the child has a pair that is open
abbrev pub HasOpenPair : NoveltyTables → Child → Type 0
HasOpenPair tables c = IsOpen tables (c.g, c.r)

-- ---- events
-- what is told of a newborn, and of the expansion of a kept node
abbrev pub born_as : Settings → Newborn → Born
born_as settings x = record {
  number = x.number;
  act = x.child.act;
  w = x.w;
  g = x.child.g;
  r = x.child.r;
  kept = keeps settings.search settings.width x.w;
}

abbrev pub event_as : Settings → Kept → ℕ → List Newborn → Event
event_as settings k repeats newborns = record {
  number = k.number;
  w = k.w;
  g = k.mark.g;
  r = k.mark.r;
  repeats = repeats;
  born = map (born_as settings) newborns;
}

-- ---- an expansion
-- the newborns were kept but for the pruned ones, and all was counted
pub record IsCommitted (settings : Settings) (parent track : ℕ) (newborns : List Newborn) (repeats : ℕ) (s later : Searched) : Type 0 where
  pub nodes : later.nodes ≡ with_newborns settings parent track s.nodes newborns
  pub queue : AreQueued s.queue (waiting_of settings newborns) later.queue
  pub latest : AreNoted newborns s.latest.entries later.latest.entries
  pub numbered : later.numbered ≡ s.numbered + length newborns
  pub kept : later.kept + length s.nodes.kept ≡ s.kept + length later.nodes.kept
  pub expanded : later.expanded ≡ s.expanded + 1
  pub repeats_are : later.repeats ≡ s.repeats + repeats
