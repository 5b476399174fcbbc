-- What is reached from the nodes of a tree, as nodes are added and a way is opened and closed.
use Rattle.std.proofs.Common.{◌≡◌, ◌==◌, ◌&&◌, ℕ, zero, suc, ◌+◌, ◌-◌, ◌<◌, ◌≤◌, Bool, true, false, cond, List, [], ◌∷◌, ◌++◌, length, map, take, get_or, refl, sym, ap, ◌∙◌, subst, ⊎_elim, append_assoc, length-append, arith}
use Rattle.std.specs.List.{All, fold, list_all, sum_by}
use Rattle.std.proofs.lemmas.Bool.{cases_Bool}
use Rattle.std.proofs.lemmas.List.{append-nil}
use Rattle.std.proofs.lemmas.List.Elements.{All-tail}
use Rattle.std.proofs.lemmas.List.Sums.{fold_push, sum_by-append}
use Rattle.wp_task.specs.Set.{has}
use Rattle.wp_succ.specs.declared.tree.Node.{Node}
use Rattle.wp_succ.specs.declared.growing.Step.{Step}
use Rattle.wp_succ.specs.Tree.{times, among, reached_with, reached_by_count, AreLinked}
use Rattle.wp_succ.specs.Growing.{atoms_on, reached_along}
use Rattle.wp_succ.proofs.CountLemmas.{once, times-append}

abbrev more : List Bool → List (List ℕ) → List Node → List (List ℕ)
more s lists nodes = fold (λ lists node. lists ++ reached_with s lists node ∷ []) lists nodes

length-more : (s : List Bool) (lists : List (List ℕ)) (nodes : List Node) → length (more s lists nodes) ≡ length lists + length nodes
length-more s lists [] = omega arith
length-more s lists (node ∷ nodes) =
    let one = length-append lists (reached_with s lists node ∷ []) in
    let rest = length-more s (lists ++ reached_with s lists node ∷ []) nodes in
    omega (arith, one, rest)

pub length-reached : (s : List Bool) (nodes : List Node) → length (reached_by_count s nodes) ≡ length nodes + 1
length-reached s nodes = let all = length-more s ([] ∷ []) nodes in omega (arith, all)

-- a list at a place, after more lists were put behind
pub at_kept : {X : Type 0} (xs ys : List X) (k : ℕ) (d : X) → k < length xs → get_or (xs ++ ys) k d ≡ get_or xs k d
at_kept [] ys k d within = absurd (omega arith)
at_kept (x ∷ xs) ys zero d within = refl
at_kept (x ∷ xs) ys (suc k) d within = at_kept xs ys k d (omega arith)

pub at_end : {X : Type 0} (xs : List X) (x d : X) (k : ℕ) → k ≡ length xs → get_or (xs ++ x ∷ []) k d ≡ x
at_end [] x d zero is = refl
at_end [] x d (suc k) is = absurd (omega arith)
at_end (y ∷ xs) x d zero is = absurd (omega arith)
at_end (y ∷ xs) x d (suc k) is = at_end xs x d k (omega arith)

more-kept : (s : List Bool) (lists : List (List ℕ)) (nodes : List Node) (k : ℕ) → k < length lists →
    get_or (more s lists nodes) k [] ≡ get_or lists k []
more-kept s lists [] k within = refl
more-kept s lists (node ∷ nodes) k within =
    more-kept s (lists ++ reached_with s lists node ∷ []) nodes k (omega (arith, length-append lists (reached_with s lists node ∷ [])))
    ∙ at_kept lists (reached_with s lists node ∷ []) k [] within

-- what is reached with a node, of what is reached with all before it and of what is reached with those before the ones below it
abbrev pub either : Bool → Node → List ℕ → List ℕ → List ℕ
either holds node earlier beside = cond holds (node.acts.items ++ earlier) beside

abbrev LinkedFrom : ℕ → List Node → Type 0
LinkedFrom n nodes = (k : ℕ) (d : Node) → k < length nodes → (get_or nodes k d).before ≤ n + k

more-at : (s : List Bool) (lists : List (List ℕ)) (n : ℕ) (nodes : List Node) (k : ℕ) (d : Node) (here earlier : ℕ) →
    length lists ≡ suc n → LinkedFrom n nodes → k < length nodes → here ≡ suc n + k → earlier ≡ n + k →
    get_or (more s lists nodes) here []
    ≡ either (has s (get_or nodes k d).atom) (get_or nodes k d) (get_or (more s lists nodes) earlier []) (get_or (more s lists nodes) (get_or nodes k d).before [])
more-at s lists n [] k d here earlier size linked within is was = absurd (omega arith)
more-at s lists n (node ∷ nodes) zero d here earlier size linked within is was =
    let new = reached_with s lists node in
    let next = lists ++ new ∷ [] in
    let link : node.before ≤ n + 0 = linked zero d within in
    let longer : length next ≡ length lists + 1 = length-append lists (new ∷ []) in
    let kept : (k : ℕ) → k < length lists → get_or (more s next nodes) k [] ≡ get_or lists k [] =
    λ k low. more-kept s next nodes k (omega (arith, longer)) ∙ at_kept lists (new ∷ []) k [] low in
    let last : length lists - 1 ≡ earlier = omega (arith, size, was) in
    more-kept s next nodes here (omega (arith, longer, size, is))
    ∙ (at_end lists new [] here (omega (arith, size, is))
    ∙ (λ j. either (has s node.atom) node
    ((ap (λ k. get_or lists k []) last ∙ sym (kept earlier (omega (arith, size, was)))) j)
    (sym (kept node.before (omega (arith, size, link))) j)))
more-at s lists n (node ∷ nodes) (suc k) d here earlier size linked within is was =
    let new = reached_with s lists node in
    let next = lists ++ new ∷ [] in
    let longer : length next ≡ length lists + 1 = length-append lists (new ∷ []) in
    more-at s next (suc n) nodes k d here earlier (omega (arith, longer, size))
    (λ i e short. let link : (get_or nodes i e).before ≤ n + suc i = linked (suc i) e (omega arith) in omega (arith, link))
    (omega arith) (omega (arith, is)) (omega (arith, was))

-- what is reached with so many nodes and one more
pub reached_by_count-at : (s : List Bool) (nodes : List Node) (k : ℕ) (d : Node) → AreLinked nodes → k < length nodes →
    get_or (reached_by_count s nodes) (suc k) []
    ≡ either (has s (get_or nodes k d).atom) (get_or nodes k d) (get_or (reached_by_count s nodes) k []) (get_or (reached_by_count s nodes) (get_or nodes k d).before [])
reached_by_count-at s nodes k d linked within =
    more-at s ([] ∷ []) 0 nodes k d (suc k) k refl
    (λ i e short. let link : (get_or nodes i e).before ≤ i = linked i e short in omega (arith, link))
    within (omega arith) (omega arith)

-- nothing is reached among no nodes
pub reached_by_count-none : (s : List Bool) (nodes : List Node) → get_or (reached_by_count s nodes) 0 [] ≡ []
reached_by_count-none s nodes = more-kept s ([] ∷ []) nodes 0 (omega arith)

-- one node more
pub reached_by_count-push : (s : List Bool) (nodes : List Node) (node : Node) →
    reached_by_count s (nodes ++ node ∷ []) ≡ reached_by_count s nodes ++ reached_with s (reached_by_count s nodes) node ∷ []
reached_by_count-push s nodes node = fold_push (λ lists node. lists ++ reached_with s lists node ∷ []) ([] ∷ []) nodes node

-- ---- the walk
either_step : (holds : Bool) (found : List ℕ) (node : Node) (lists : List (List ℕ)) (k : ℕ) →
    (found ++ cond holds node.acts.items []) ++ get_or lists (cond holds k node.before) []
    ≡ found ++ either holds node (get_or lists k []) (get_or lists node.before [])
either_step true found node lists k = append_assoc found node.acts.items (get_or lists k [])
either_step false found node lists k = ap (λ l. l ++ get_or lists node.before []) (append-nil found)

-- a node is looked at, and what was found and what is left are all
pub looked_at : (s : List Bool) (nodes : List Node) (k : ℕ) (node : Node) (left next : ℕ) (found next_found all : List ℕ) →
    AreLinked nodes → k < length nodes → node ≡ get_or nodes k node → left ≡ suc k →
    next_found ≡ found ++ cond (has s node.atom) node.acts.items [] →
    next ≡ cond (has s node.atom) k node.before →
    found ++ among (reached_by_count s nodes) left ≡ all →
    next_found ++ among (reached_by_count s nodes) next ≡ all
looked_at s nodes k node left next found next_found all linked within is size finds goes so_far =
    let lists = reached_by_count s nodes in
    let at : get_or lists (suc k) [] ≡ either (has s node.atom) node (get_or lists k []) (get_or lists node.before []) =
    reached_by_count-at s nodes k node linked within ∙ ap (λ (x : Node). either (has s x.atom) x (get_or lists k []) (get_or lists x.before [])) (sym is) in
    (λ j. finds j ++ get_or lists (goes j) [])
    ∙ (either_step (has s node.atom) found node lists k
    ∙ (ap (λ l. found ++ l) (sym at)
    ∙ (ap (λ k. found ++ get_or lists k []) (sym size) ∙ so_far)))

-- no more nodes are left than lie before the one that was looked at
pub left_before : (holds : Bool) (k before next : ℕ) → next ≡ cond holds k before → before ≤ k → next ≤ k
left_before true k before next is low = omega (arith, is)
left_before false k before next is low = omega (arith, is, low)

-- ---- the open way
pub reached_along-kept : (s : List Bool) (lists rest : List (List ℕ)) (way : List Step) (end : List ℕ) →
    All (λ step. step.before < length lists) way → reached_along s (lists ++ rest) way end ≡ reached_along s lists way end
reached_along-kept s lists rest [] end early = refl
reached_along-kept s lists rest (step ∷ way) end early =
    let later = reached_along-kept s lists rest way end (All-tail (λ (x : Step). x.before < length lists) step way early) in
    let here = at_kept lists rest step.before [] (early 0 step (omega arith)) in
    (λ j. step.acts.items ++ cond (has s step.atom) (later j) (here j))

-- the way goes one step on
pub reached_along-push : (s : List Bool) (lists : List (List ℕ)) (way : List Step) (step : Step) (end : List ℕ) →
    reached_along s lists (way ++ step ∷ []) end
    ≡ reached_along s lists way (step.acts.items ++ cond (has s step.atom) end (among lists step.before))
reached_along-push s lists [] step end = refl
reached_along-push s lists (first ∷ way) step end =
    ap (λ later. first.acts.items ++ cond (has s first.atom) later (among lists first.before)) (reached_along-push s lists way step end)

-- more is reached at the end of the way, where all its atoms are true
pub reached_along-sum : (s : List Bool) (f : ℕ → ℕ) (lists : List (List ℕ)) (way : List Step) (end next : List ℕ) (worth : ℕ) →
    sum_by f next ≡ sum_by f end + worth →
    sum_by f (reached_along s lists way next) ≡ sum_by f (reached_along s lists way end) + cond (list_all (has s) (atoms_on way)) worth 0
reached_along-sum s f lists [] end next worth is = is
reached_along-sum s f lists (step ∷ way) end next worth is =
    let later = reached_along-sum s f lists way end next worth is in
    let beside = among lists step.before in
    ⊎_elim
    (λ (holds : has s step.atom ≡ true).
    ap (λ b. sum_by f (step.acts.items ++ cond b (reached_along s lists way next) beside)) holds
    ∙ (let e = sum_by-append f step.acts.items (reached_along s lists way next) in
    let o = sum_by-append f step.acts.items (reached_along s lists way end) in
    let all : sum_by f (step.acts.items ++ reached_along s lists way next) ≡
    sum_by f (step.acts.items ++ reached_along s lists way end) + cond (list_all (has s) (atoms_on way)) worth 0
    = omega (arith, e, o, later) in all)
    ∙ sym (ap (λ b. sum_by f (step.acts.items ++ cond b (reached_along s lists way end) beside) + cond (b && list_all (has s) (atoms_on way)) worth 0) holds))
    (λ (fails : has s step.atom ≡ false).
    ap (λ b. sum_by f (step.acts.items ++ cond b (reached_along s lists way next) beside)) fails
    ∙ ((let e : sum_by f (step.acts.items ++ beside) ≡ sum_by f (step.acts.items ++ beside) + 0 = omega arith in e)
    ∙ sym (ap (λ b. sum_by f (step.acts.items ++ cond b (reached_along s lists way end) beside) + cond (b && list_all (has s) (atoms_on way)) worth 0) fails)))
    (cases_Bool (has s step.atom))

-- ---- steps of the open way
same_either : (b : Bool) (l : List ℕ) → cond b l l ≡ l
same_either true l = refl
same_either false l = refl

-- the way goes on, and nothing is at its end
pub opened : (s : List Bool) (lists : List (List ℕ)) (way next : List Step) (step : Step) (acts next_acts : List ℕ) (count : ℕ) →
    next ≡ way ++ step ∷ [] → step.acts.items ≡ acts → step.before ≡ count → next_acts ≡ [] →
    reached_along s lists next (next_acts ++ among lists count) ≡ reached_along s lists way (acts ++ among lists count)
opened s lists way next step acts next_acts count goes had led none =
    (λ j. reached_along s lists (goes j) (none j ++ among lists count))
    ∙ (reached_along-push s lists way step (among lists count)
    ∙ ((λ j. reached_along s lists way (had j ++ cond (has s step.atom) (among lists count) (among lists (led j))))
    ∙ ap (λ l. reached_along s lists way (acts ++ l)) (same_either (has s step.atom) (among lists count))))

-- the end of the way becomes a node
pub closed : (s : List Bool) (nodes next_nodes : List Node) (way before : List Step) (step : Step) (node : Node) (acts next_acts : List ℕ) →
    All (λ (x : Step). x.before ≤ length nodes) way → before ≡ way ++ step ∷ [] → next_nodes ≡ nodes ++ node ∷ [] →
    node.atom ≡ step.atom → node.acts.items ≡ acts → node.before ≡ step.before → next_acts ≡ step.acts.items →
    reached_along s (reached_by_count s next_nodes) way (next_acts ++ among (reached_by_count s next_nodes) (length next_nodes))
    ≡ reached_along s (reached_by_count s nodes) before (acts ++ among (reached_by_count s nodes) (length nodes))
closed s nodes next_nodes way before step node acts next_acts early was grows atom had led takes =
    let lists = reached_by_count s nodes in
    let here = reached_with s lists node in
    let size = length-reached s nodes in
    let longer : reached_by_count s next_nodes ≡ lists ++ here ∷ [] = ap (reached_by_count s) grows ∙ reached_by_count-push s nodes node in
    let more : length next_nodes ≡ length lists = ap length grows ∙ (length-append nodes (node ∷ []) ∙ sym size) in
    let last : length lists - 1 ≡ length nodes = omega (arith, size) in
    let early_lists : All (λ (x : Step). x.before < length lists) way =
    λ k d within. let low : (get_or way k d).before ≤ length nodes = early k d within in omega (arith, low, size) in
    (λ j. reached_along s (longer j) way (takes j ++ among (longer j) (more j)))
    ∙ (ap (λ l. reached_along s (lists ++ here ∷ []) way (step.acts.items ++ l)) (at_end lists here [] (length lists) refl)
    ∙ (reached_along-kept s lists (here ∷ []) way (step.acts.items ++ here) early_lists
    ∙ ((λ j. reached_along s lists way (step.acts.items ++ cond (has s (atom j)) (had j ++ among lists (last j)) (among lists (led j))))
    ∙ (sym (reached_along-push s lists way step (acts ++ among lists (length nodes)))
    ∙ ap (λ l. reached_along s lists l (acts ++ among lists (length nodes))) (sym was)))))

-- one action more at the end of the way
pub put : (s : List Bool) (lists : List (List ℕ)) (way : List Step) (acts next : List ℕ) (count : ℕ) (act a : ℕ) → next ≡ acts ++ act ∷ [] →
    times (reached_along s lists way (next ++ among lists count)) a
    ≡ times (reached_along s lists way (acts ++ among lists count)) a + cond (list_all (has s) (atoms_on way)) (times (act ∷ []) a) 0
put s lists way acts next count act a is =
    reached_along-sum s (λ b. once (b == a)) lists way (acts ++ among lists count) (next ++ among lists count) (times (act ∷ []) a)
    (let all : times (next ++ among lists count) a ≡ times next a + times (among lists count) a = times-append next (among lists count) a in
    let more : times next a ≡ times acts a + times (act ∷ []) a = ap (λ l. times l a) is ∙ times-append acts (act ∷ []) a in
    let old : times (acts ++ among lists count) a ≡ times acts a + times (among lists count) a = times-append acts (among lists count) a in
    omega (arith, all, more, old))

pub All-front : (n : ℕ) (way : List Step) (step : Step) → All (λ (x : Step). x.before ≤ n) (way ++ step ∷ []) → All (λ (x : Step). x.before ≤ n) way
All-front n way step all k d within =
    subst (λ (x : Step). x.before ≤ n) (at_kept way (step ∷ []) k d within) (all k d (omega (arith, length-append way (step ∷ []))))

pub no_way : (way : List Step) → atoms_on way ≡ [] → way ≡ []
no_way [] none = refl
no_way (step ∷ way) none = absurd (cc)
