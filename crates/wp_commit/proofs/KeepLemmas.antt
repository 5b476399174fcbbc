-- Newborns are kept one after another.
use Rattle.std.proofs.Common.{◌≡◌, ◌≢◌, ◌⊎◌, ◌↔◌, ℕ, zero, suc, ◌+◌, ◌<◌, ◌≤◌, Bool, true, false, cond, List, [], ◌∷◌, ◌++◌, length, get_or, map, filter, refl, sym, ap, subst, inl, inr, ⊎_elim, arith, length-append}
use Rattle.std.specs.List.{All, AllPairs, Contains}
use Rattle.std.specs.Option.{option_to_list}
use Rattle.std.proofs.lemmas.List.{length_push}
use Rattle.std.proofs.lemmas.List.Elements.{All-head, All-tail, All-push, Contains-append_left, Contains-append_right, Contains-append_cases}
use Rattle.wp_queue.specs.declared.queue.Waiting.{Waiting}
use Rattle.wp_queue.specs.OpenList.{waiting, IsWith}
use Rattle.wp_nodes.specs.declared.kept.Kept.{Kept}
use Rattle.wp_nodes.specs.KeptNodes.{Keeping, IsKept}
use Rattle.wp_nodes.proofs.NumberLemmas.{kept_more}
use Rattle.wp_plain.specs.declared.settings.Settings.{Settings}
use Rattle.wp_plain.specs.Expansion.{keeps}
use Rattle.wp_plain.specs.Explored.{track_number}
use Rattle.wp_commit.specs.declared.newborn.Newborn.{Newborn}
use Rattle.wp_commit.specs.Newborns.{kept_as, with_newborn, waiting_of, AreNew, AreQueued}

-- ---- pairs of items
pairs_head : {X : Type 0} (R : X → X → Type 0) (x : X) (xs : List X) → AllPairs R (x ∷ xs) → All (R x) xs
pairs_head R x xs all = λ i d within. all zero (suc i) d (omega arith) (omega arith)

pairs_tail : {X : Type 0} (R : X → X → Type 0) (x : X) (xs : List X) → AllPairs R (x ∷ xs) → AllPairs R xs
pairs_tail R x xs all = λ i j d before within. all (suc i) (suc j) d (omega arith) (omega arith)

-- ---- nodes
abbrev IsLater : List Kept → Newborn → Type 0
IsLater kept x = All (λ k. k.number < x.number) kept

abbrev IsUnseen : List Kept → Newborn → Type 0
IsUnseen kept x = All (λ k. k.state ≢ x.child.state) kept

pub first_later : (kept : List Kept) (x : Newborn) (rest : List Newborn) → AreNew kept (x ∷ rest) → All (λ k. k.number < x.number) kept
first_later kept x rest new = All-head (IsLater kept) x rest new.later

pub first_unseen : (kept : List Kept) (x : Newborn) (rest : List Newborn) → AreNew kept (x ∷ rest) → All (λ k. k.state ≢ x.child.state) kept
first_unseen kept x rest new = All-head (IsUnseen kept) x rest new.unseen

-- the rest is new where the first one was pruned, and where it was kept
rest_new : (kept : List Kept) (x : Newborn) (rest : List Newborn) → AreNew kept (x ∷ rest) → AreNew kept rest
rest_new kept x rest new = record {
  rising = pairs_tail (λ (x y : Newborn). x.number < y.number) x rest new.rising;
  later = All-tail (IsLater kept) x rest new.later;
  apart = pairs_tail (λ (x y : Newborn). x.child.state ≢ y.child.state) x rest new.apart;
  unseen = All-tail (IsUnseen kept) x rest new.unseen;
}

rest_new_after : (kept : List Kept) (k : Kept) (x : Newborn) (rest : List Newborn) → k.number ≡ x.number → k.state ≡ x.child.state →
    AreNew kept (x ∷ rest) → AreNew (kept ++ k ∷ []) rest
rest_new_after kept k x rest number state new =
    let others = rest_new kept x rest new in
    let rising = pairs_head (λ (x y : Newborn). x.number < y.number) x rest new.rising in
    let apart = pairs_head (λ (x y : Newborn). x.child.state ≢ y.child.state) x rest new.apart in record {
      rising = others.rising;
      later = λ i d within. All-push (λ (n : Kept). n.number < (get_or rest i d).number) kept k (others.later i d within)
          (subst (λ n. n < (get_or rest i d).number) (sym number) (rising i d within));
      apart = others.apart;
      unseen = λ i d within. All-push (λ (n : Kept). n.state ≢ (get_or rest i d).child.state) kept k (others.unseen i d within)
          (subst (λ s. s ≢ (get_or rest i d).child.state) (sym state) (apart i d within));
    }

-- what becomes of the nodes with one newborn more, and of the rest
pub record IsNext (nodes next : Keeping) (parent track : ℕ) (rest : List Newborn) : Type 0 where
  pub new : AreNew next.kept rest
  pub parent_kept : IsKept next.kept parent
  pub track_kept : track < length next.tracks
  pub few : length next.kept ≤ length nodes.kept + 1

pub is_next : (settings : Settings) (parent track : ℕ) (nodes next : Keeping) (x : Newborn) (rest : List Newborn) →
    next ≡ with_newborn settings parent track nodes x → AreNew nodes.kept (x ∷ rest) → IsKept nodes.kept parent → track < length nodes.tracks →
    IsNext nodes next parent track rest
is_next settings parent track nodes next x rest is new kept there = subst (λ n. IsNext nodes n parent track rest) (sym is) (by (keeps settings.search settings.width x.w))
  where
    k : Kept
    k = kept_as parent (track_number (length nodes.tracks) track x.child.fresh) x

    by : (b : Bool) → IsNext nodes (elim b as (λ _. Keeping) [
      | true ↦ record { kept = nodes.kept ++ k ∷ []; tracks = nodes.tracks ++ option_to_list x.child.fresh }
      | false ↦ nodes
    ]) parent track rest
    by true = record {
      new = rest_new_after nodes.kept k x rest refl refl new;
      parent_kept = kept_more nodes.kept (k ∷ []) parent kept;
      track_kept = omega (arith, length-append nodes.tracks (option_to_list x.child.fresh));
      few = omega (arith, length_push nodes.kept k);
    }
    by false = record { new = rest_new nodes.kept x rest new; parent_kept = kept; track_kept = there; few = omega arith }

-- ---- the queue
pub Contains-one : {X : Type 0} (x y : X) → Contains (x ∷ []) y ↔ (y ≡ x)
Contains-one {X = X} x y = (λ h. only h, λ same. (zero, omega arith, sym same))
  where
    only : Contains (x ∷ []) y → y ≡ x
    only (zero, within, is) = sym is
    only (suc k, within, is) = absurd (omega arith)

pub queued_none : (queue : List Waiting) → AreQueued queue [] queue
queued_none queue = record {
  order = λ before. before;
  has = λ y. (λ there. inl there, λ h. ⊎_elim (λ there. there) (λ none. absurd (nothing y none)) h);
}
  where
    nothing : (y : Waiting) → Contains [] y → ⊥
    nothing y (k, within, is) = omega arith

pub queued_one : (settings : Settings) (x : Newborn) (old new : List Waiting) → keeps settings.search settings.width x.w ≡ true →
    IsWith old (waiting x.w x.child.g x.number) new → AreQueued old (waiting_of settings (x ∷ [])) new
queued_one settings x old new kept put = record {
  order = λ before. put.order;
  has = λ y.
      let one = Contains-one (waiting x.w x.child.g x.number) y in
      let here = ap (λ (b : Bool). map (λ (x : Newborn). waiting x.w x.child.g x.number) (cond b (x ∷ []) [])) kept in
      subst (λ more. Contains new y ↔ (Contains old y ⊎ Contains more y)) (sym here)
      (λ h. ⊎_elim inl (λ same. inr (one.1 same)) ((put.has y).0 h), λ h. (put.has y).1 (⊎_elim inl (λ among. inr (one.0 among)) h));
}

waiting_of-cons : (settings : Settings) (x : Newborn) (rest : List Newborn) → waiting_of settings (x ∷ rest) ≡ waiting_of settings (x ∷ []) ++ waiting_of settings rest
waiting_of-cons settings x rest = by (keeps settings.search settings.width x.w)
  where
    by : (b : Bool) →
        map (λ (x : Newborn). waiting x.w x.child.g x.number) (cond b (x ∷ filter (λ x. keeps settings.search settings.width x.w) rest) (filter (λ x. keeps settings.search settings.width x.w) rest))
        ≡ map (λ (x : Newborn). waiting x.w x.child.g x.number) (cond b (x ∷ []) []) ++ waiting_of settings rest
    by true = refl
    by false = refl

pub queued_next : (settings : Settings) (x : Newborn) (rest : List Newborn) (old now new : List Waiting) →
    AreQueued old (waiting_of settings (x ∷ [])) now → AreQueued now (waiting_of settings rest) new → AreQueued old (waiting_of settings (x ∷ rest)) new
queued_next settings x rest old now new one others =
    let first = waiting_of settings (x ∷ []) in
    let more = waiting_of settings rest in
    subst (λ all. AreQueued old all new) (sym (waiting_of-cons settings x rest)) (record {
      order = λ before. others.order (one.order before);
      has = λ y. (
        λ h. ⊎_elim
            (λ there. ⊎_elim inl (λ among. inr (Contains-append_left first more y among)) ((one.has y).0 there))
            (λ among. inr (Contains-append_right first more y among)) ((others.has y).0 h),
        λ h. (others.has y).1 (⊎_elim
            (λ there. inl ((one.has y).1 (inl there)))
            (λ among. ⊎_elim (λ one_of. inl ((one.has y).1 (inr one_of))) inr (Contains-append_cases first more y among)) h),
      );
    })
