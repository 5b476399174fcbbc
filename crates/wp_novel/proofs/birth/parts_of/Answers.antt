use Rattle.std.proofs.Common.{◌≡◌, ◌+◌, ◌++◌, ◌∷◌, [], not, cond, Bool, true, false, List, ℕ, refl, sym, ap, ◌∙◌, arith}
use Rattle.std.specs.List.{filter, range_with_len}
use Rattle.std.proofs.lemmas.List.Elements.{filter-append}
use Rattle.wp_task.specs.Set.{has}
use Rattle.wp_novel.specs.Births.{is_new}
use Rattle.wp_novel.proofs.AtomLemmas.{listed_all, listed_more}
use Rattle.wp_novel.proofs.birth.parts_of.Goals as goal

-- the atoms of either kind, with one atom more
more : (t : ℕ → Bool) (xs after : List ℕ) (p : ℕ) → after ≡ xs ++ p ∷ [] → filter t after ≡ filter t xs ++ cond (t p) (p ∷ []) []
more t xs after p is = ap (filter t) is ∙ filter-append t xs (p ∷ [])

turned : (b : Bool) (p : ℕ) → cond b [] (p ∷ []) ≡ cond (not b) (p ∷ []) []
turned true p = refl
turned false p = refl

pub loop-p-preserved : goal.loop-p-preserved
loop-p-preserved c =
    let found = c.in-Some.ensures.found in
    let p = c.in-Some.p in
    let new : ℕ → Bool = is_new c.args.fresh.now in
    let before : List ℕ = filter (has c.args.state.now) (range_with_len 0 c.loop-p.from) in
    let listed = listed_more (has c.args.state.now) c.loop-p.from p found.1.late found.1.in_set found.1.none_before in
    record {
      within = omega (arith, found.0);
      new_listed = c.in_ok-put.ensures.new
          ∙ ((λ j. c.loop-p.invariant.new_listed j ++ cond (c.is_new.ensures j) (p ∷ []) [])
          ∙ sym (more new before (filter (has c.args.state.now) (range_with_len 0 (p + 1))) p listed));
      old_listed = c.in_ok-put.ensures.old
          ∙ ((λ j. c.loop-p.invariant.old_listed j ++ cond (c.is_new.ensures j) [] (p ∷ []))
          ∙ (ap (λ (l : List ℕ). filter (λ q. not (new q)) before ++ l) (turned (new p) p)
          ∙ sym (more (λ q. not (new q)) before (filter (has c.args.state.now) (range_with_len 0 (p + 1))) p listed)));
    }

pub returns-clause-new : goal.returns-clause-new
returns-clause-new c =
    c.loop-p.invariant.new_listed
    ∙ ap (filter (is_new c.args.fresh.now))
    (sym (listed_all (has c.args.state.now) c.loop-p.from c.size-size.result c.loop-p.invariant.within c.in_default.ensures.none)
    ∙ ap (λ n. filter (has c.args.state.now) (range_with_len 0 n)) c.size-size.ensures)

pub returns-clause-old : goal.returns-clause-old
returns-clause-old c =
    c.loop-p.invariant.old_listed
    ∙ ap (filter (λ p. not (is_new c.args.fresh.now p)))
    (sym (listed_all (has c.args.state.now) c.loop-p.from c.size-size.result c.loop-p.invariant.within c.in_default.ensures.none)
    ∙ ap (λ n. filter (has c.args.state.now) (range_with_len 0 n)) c.size-size.ensures)
