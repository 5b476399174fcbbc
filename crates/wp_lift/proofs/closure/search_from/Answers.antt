use Rattle.std.proofs.Common.{◌≡◌, ◌<◌, false, List, [], Bool, length, get_or, replicate, sym, ap, ◌∙◌, subst, arith}
use Rattle.std.proofs.lemmas.List.{get_or_default}
use Rattle.wp_lift.specs.Typing.{is_flagged}
use Rattle.wp_lift.specs.Rows.{either, seen_with}
use Rattle.wp_lift.proofs.SubtypeLemmas.{in_range}
use Rattle.wp_lift.proofs.SearchLemmas.{IsSearch, search-start, search-step, search-end, unseen, unseen_less}
use Rattle.wp_lift.proofs.closure.search_from.Goals as goal

pub loop-b-init : goal.loop-b-init
loop-b-init c =
    let rows = c.args.rows.now in
    let a = c.args.a in
    let found_is : c.in_ok-found.found ≡ get_or rows a [] =
    c.in_ok-found.ensures ∙ c.index-rows-a.is ∙ get_or_default rows a c.index-rows-a.result [] c.requires.below in
    let seen_is : c.in_ok-seen.seen ≡ replicate (length rows) false =
    c.in_ok-seen.ensures ∙ ap (λ n. replicate n false) (c.len.ensures ∙ ap length found_is ∙ c.requires.square.width a c.requires.below) in
    subst (λ (found : List Bool). IsSearch rows a found c.in_ok-seen.seen) (sym found_is)
    (subst (λ (seen : List Bool). IsSearch rows a (get_or rows a []) seen) (sym seen_is) (search-start rows a c.requires.square c.requires.below))

pub loop-b-smaller : goal.loop-b-smaller
loop-b-smaller c =
    let rows = c.args.rows.now in
    let b = c.in-Some.b in
    let row = get_or rows b [] in
    let is_closed = is_flagged c.args.closed.now b in
    let below : b < length rows =
    (let lt = in_range c.loop-b.found b c.in-Some.ensures.some.0 in omega (arith, c.loop-b.invariant.found_width)) in
    let row_is : c.index-rows-b.result ≡ row = c.index-rows-b.is ∙ get_or_default rows b c.index-rows-b.result [] below in
    let seen_is : c.see.new.seen ≡ seen_with is_closed c.loop-b.seen b row =
    c.see.ensures.seen ∙ λ j. seen_with (c.at.ensures j) c.loop-b.seen b (row_is j) in
    subst (λ (seen : List Bool). unseen seen < unseen c.loop-b.seen) (sym seen_is)
    (unseen_less is_closed c.loop-b.seen b row (c.loop-b.invariant.seen_width ∙ sym (c.requires.square.width b below))
    (omega (arith, c.loop-b.invariant.seen_width)) c.in-Some.ensures.some.1)

pub loop-b-preserved : goal.loop-b-preserved
loop-b-preserved c =
    let rows = c.args.rows.now in
    let b = c.in-Some.b in
    let row = get_or rows b [] in
    let below : b < length rows =
    (let lt = in_range c.loop-b.found b c.in-Some.ensures.some.0 in omega (arith, c.loop-b.invariant.found_width)) in
    let row_is : c.index-rows-b.result ≡ row = c.index-rows-b.is ∙ get_or_default rows b c.index-rows-b.result [] below in
    let found_is : c.see.new.found ≡ either c.loop-b.found row = c.see.ensures.found ∙ ap (either c.loop-b.found) row_is in
    let seen_is : c.see.new.seen ≡ seen_with (is_flagged c.args.closed.now b) c.loop-b.seen b row =
    c.see.ensures.seen ∙ λ j. seen_with (c.at.ensures j) c.loop-b.seen b (row_is j) in
    subst (λ (found : List Bool). IsSearch rows c.args.a found c.see.new.seen) (sym found_is)
    (subst (λ (seen : List Bool). IsSearch rows c.args.a (either c.loop-b.found row) seen) (sym seen_is)
    (search-step rows c.args.closed.now c.args.a b c.loop-b.found c.loop-b.seen c.requires.square c.requires.closed below
    c.in-Some.ensures.some.0 c.loop-b.invariant))

pub returns-clause-reached : goal.returns-clause-reached
returns-clause-reached c =
    search-end c.args.rows.now c.args.a c.loop-b.found c.loop-b.seen c.loop-b.invariant c.in_default.ensures.none
