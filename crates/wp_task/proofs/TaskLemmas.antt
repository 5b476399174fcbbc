-- What the parts of a task say of one another.
use Rattle.std.proofs.Common.{◌≡◌, ◌<◌, ◌≤◌, ◌^◌, ℕ, List, [], length, map, get_or, ap, sym, ◌∙◌, arith}
use Rattle.std.specs.List.{All, filter, range_with_len}
use Rattle.std.proofs.Math.ListN.{get_or-map as get_or-map_all}
use Rattle.std.proofs.lemmas.List.{length-map}
use Rattle.std.proofs.lemmas.List.Elements.{All-filter, All-from_get_or}
use Rattle.std.proofs.lemmas.List.FromFn.{length-map-range_with_len, get_or-map-range_with_len, length-range_with_len, get_or-range_with_len}
use Rattle.wp_task.specs.declared.acts.Act.{Act}
use Rattle.wp_task.specs.Set.{lists}
use Rattle.wp_task.specs.Flat.{places_of}
use Rattle.wp_task.specs.Task.{act_at, adders_of, needers_of, IsAct}
use Rattle.wp_task.proofs.SetLemmas.{few_atoms}

pub length-adders : (acts : List Act) (atoms : ℕ) (kept : List (List ℕ)) → kept ≡ map (adders_of acts) (range_with_len 0 atoms) →
    length kept ≡ atoms
length-adders acts atoms kept same = ap length same ∙ length-map-range_with_len (adders_of acts) 0 atoms

pub adders_at : (acts : List Act) (atoms : ℕ) (kept : List (List ℕ)) → kept ≡ map (adders_of acts) (range_with_len 0 atoms) →
    (p : ℕ) (d : List ℕ) → p < atoms → get_or kept p d ≡ adders_of acts p
adders_at acts atoms kept same p d within =
    ap (λ k. get_or k p d) same ∙ get_or-map-range_with_len (adders_of acts) 0 atoms p p d within (omega arith)

-- the numbers of a range are below its end
pub range_below : (n : ℕ) → All (λ k. k < n) (range_with_len 0 n)
range_below n = All-from_get_or (λ k. k < n) (range_with_len 0 n) 0
    (λ i within. let short : i < n = omega (arith, length-range_with_len 0 n) in
    omega (arith, get_or-range_with_len 0 n i 0 short))

pub adders_below : (acts : List Act) (p : ℕ) → All (λ a. a < length acts) (adders_of acts p)
adders_below acts p = All-filter (λ a. lists (act_at acts a).add p) (λ a. a < length acts) (range_with_len 0 (length acts)) (range_below (length acts))

-- the same of the actions that need an atom
pub length-needers : (acts : List Act) (atoms : ℕ) (kept : List (List ℕ)) → kept ≡ map (needers_of acts) (range_with_len 0 atoms) →
    length kept ≡ atoms
length-needers acts atoms kept same = ap length same ∙ length-map-range_with_len (needers_of acts) 0 atoms

pub needers_at : (acts : List Act) (atoms : ℕ) (kept : List (List ℕ)) → kept ≡ map (needers_of acts) (range_with_len 0 atoms) →
    (p : ℕ) → p < atoms → get_or kept p [] ≡ needers_of acts p
needers_at acts atoms kept same p within =
    ap (λ k. get_or k p []) same ∙ get_or-map-range_with_len (needers_of acts) 0 atoms p p [] within (omega arith)

pub needers_below : (acts : List Act) (p : ℕ) → All (λ a. a < length acts) (needers_of acts p)
needers_below acts p = All-filter (λ a. lists (act_at acts a).pre p) (λ a. a < length acts) (range_with_len 0 (length acts)) (range_below (length acts))

-- the places of the lists that a part of the actions makes
pub places_of-part : (part : Act → List ℕ) (acts : List Act) (p : ℕ) → part (act_at [] 0) ≡ [] →
    places_of (map part acts) p ≡ filter (λ a. lists (part (act_at acts a)) p) (range_with_len 0 (length acts))
places_of-part part acts p none =
    let nothing = act_at [] 0 in
    let same : (a : ℕ) → get_or (map part acts) a [] ≡ part (act_at acts a) =
    λ a. ap (get_or (map part acts) a) (sym none) ∙ get_or-map_all part acts a nothing in
    (λ j. filter (λ a. lists (same a j) p) (range_with_len 0 (length-map acts part j)))

pub places-part : (part : Act → List ℕ) (acts : List Act) (n : ℕ) → part (act_at [] 0) ≡ [] →
    map (places_of (map part acts)) (range_with_len 0 n) ≡ map (λ p. filter (λ a. lists (part (act_at acts a)) p) (range_with_len 0 (length acts))) (range_with_len 0 n)
places-part part acts n none = λ j. map (λ p. places_of-part part acts p none j) (range_with_len 0 n)

-- each part of the actions has atoms
pub few_needs : (atoms : ℕ) (acts : List Act) → atoms ≤ 65536 → All (IsAct atoms) acts → All (λ act. length act.pre < 2 ^ 32) acts
few_needs atoms acts few fit = λ k d within. omega (arith, few_atoms atoms (get_or acts k d).pre (fit k d within).needs)
