use Rattle.std.proofs.Common.{◌≡◌, false, List, refl, sym, ap, ◌∙◌}
use Rattle.wp_novel.specs.declared.job.JobPass.{JobPass}
use Rattle.wp_novel.specs.NoveltyTables.{counters_of}
use Rattle.wp_novel.specs.Jobs.{has_pass}
use Rattle.wp_novel.proofs.TakingLemmas.{takes_nothing, takes_one}
use Rattle.wp_novel.proofs.deal.take_pass.Goals as goal

pub returns-in_default-clause-takes : goal.returns-in_default-clause-takes
returns-in_default-clause-takes c =
    let old = c.args.homes.now.entries in
    let new = (c.get_mut.follows.lender c.lend.new.self).entries in
    let through = c.get_mut.follows.holds c.lend.new.self in
    let found = sym c.in-Some.ensures.value in
    takes_nothing c.args.pair c.args.passes.now.items old new c.in-Some.home.now c.lend.new.self through.1 found
    (through.3 c.requires.open).0 c.in_default.ensures.none.0 c.in_default.ensures.none.1

pub returns-in-Some-lend-clause-takes : goal.returns-in-Some-lend-clause-takes
returns-in-Some-lend-clause-takes c =
    let old = c.args.homes.now.entries in
    let new = (c.get_mut.follows.lender c.lend.new.self).entries in
    let through = c.get_mut.follows.holds c.lend.new.self in
    let found = sym c.in-Some.ensures.value in
    let lent = c.in-Some-lend.ensures.lent in
    let none : has_pass c.args.passes.now.items (counters_of c.args.pair) ≡ false =
    ap (λ (l : List JobPass). has_pass l (counters_of c.args.pair)) (sym c.deref.ensures.value) ∙ (sym c.has_pass.ensures ∙ c.if-has_pass.false) in
    takes_one c.args.pair c.args.passes.now.items c.push_reserved.new.self.items old new c.in-Some.home.now c.lend.new.self c.in-Some-lend.pass
    through.1 found (through.3 c.requires.open).0 lent.0 lent.1 lent.2 none
    (c.requires.parts none c.args.pair c.in-Some.home.now found refl) c.push_reserved.ensures.items
