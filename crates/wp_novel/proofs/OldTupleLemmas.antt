-- Tuples without a new atom were marked by an earlier birth.
use Rattle.std.proofs.Common.{◌≡◌, ◌||◌, ℕ, ◌≤◌, Bool, true, false, List, [], ◌∷◌, refl, sym, ap, ◌∙◌, arith}
use Rattle.std.specs.List.{list_all, list_any}
use Rattle.std.proofs.lemmas.Bool.{and_parts, and_from, both_ways}
use Rattle.wp_task.specs.Set.{has}
use Rattle.wp_novel.specs.Births.{is_new}
use Rattle.wp_novel.specs.NoveltyTables.{counters_of, is_same, first_at}
use Rattle.wp_novel.specs.StandsFor.{has_tuple, first_number, SharedTuplesAreMarked, NoTupleIsOld}
use Rattle.wp_novel.proofs.FirstLemmas.{first_number_is_first}
use Rattle.wp_novel.proofs.PairLemmas.{is_same_itself}

-- what has all atoms of a tuple that are not new has the tuple
all_shared : (state other : List Bool) (new : ℕ → Bool) → ((p : ℕ) → has state p ≡ true → new p ≡ false → has other p ≡ true) → (tuple : List ℕ) →
    list_all (has state) tuple ≡ true → list_any new tuple ≡ false → list_all (has other) tuple ≡ true
all_shared state other new share [] all none = refl
all_shared state other new share (p ∷ tuple) all none =
    let parts = and_parts (has state p) (list_all (has state) tuple) all in
    let olds = or_none (new p) (list_any new tuple) none in
    and_from (has other p) (list_all (has other) tuple) (share p parts.0 olds.0) (all_shared state other new share tuple parts.1 olds.1)
  where
    or_none : (a b : Bool) → (a || b) ≡ false → (a ≡ false) × (b ≡ false)
    or_none true b h = absurd (cc)
    or_none false b h = (refl, h)

pub shared_tuples_marked : SharedTuplesAreMarked
shared_tuples_marked t births x b bound stands among counters share less pair home found same tuple place all old =
    let mine : counters_of pair ≡ x.counters = same ∙ sym counters in
    let has_it : has_tuple (counters_of pair) tuple x ≡ true =
    and_from (is_same x.counters (counters_of pair)) (list_all (has x.state) tuple)
    (ap (λ (c : ℕ × ℕ). is_same x.counters c) mine ∙ is_same_itself x.counters) (all_shared b.node.state x.state (is_new b.fresh) share tuple all old) in
    let least : first_number births (counters_of pair) tuple ≤ x.number = (first_number_is_first births (counters_of pair) tuple).least x among has_it in
    let word : first_at home tuple ≡ first_number births (counters_of pair) tuple = stands.firsts pair home found tuple place in
    omega arith

pub no_tuple_old : NoTupleIsOld
no_tuple_old t b bound all_new pair home found same [] place all old = absurd place
no_tuple_old t b bound all_new pair home found same (p ∷ tuple) place all old =
    let new : is_new b.fresh p ≡ true = ap (λ f. is_new f p) all_new in
    absurd (both_ways (list_any (is_new b.fresh) (p ∷ tuple)) old (ap (λ x. x || list_any (is_new b.fresh) tuple) new))
