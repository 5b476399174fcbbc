use Rattle.std.proofs.Common.{rules, Some, None, refl}
use Rattle.wp_novel.specs.declared.birth.Pair.{Pair}
use Rattle.wp_commit.specs.declared.latest.Latest.{Latest}
use Rattle.wp_commit.proofs.LatestLemmas.{noted_one}
use Rattle.wp_commit.proofs.KeepLemmas.{queued_one}
use Rattle.wp_commit.proofs.keep.keep.Goals as goal

pub returns-clause-queue : goal.returns-clause-queue
returns-clause-queue c = queued_one c.args.settings.now c.args.newborn c.args.searched.now.queue c.put.new.self (search rules) c.in_ok-put.ensures.put

pub returns-then-not-keeps-clause-latest : goal.returns-then-not-keeps-clause-latest
returns-then-not-keeps-clause-latest c =
    let x = c.args.newborn in
    let pair : Pair = record { g = x.child.g; r = x.child.r } in
    let birth : Latest = record { number = x.number; pruned = Some x.child.state } in
    noted_one x pair birth c.args.searched.now.latest.entries c.note.new.latest.entries
    (record { counters = refl; named = refl; pruned = refl }) c.in_ok-note.ensures

pub returns-clause-latest : goal.returns-clause-latest
returns-clause-latest c =
    let x = c.args.newborn in
    let pair : Pair = record { g = x.child.g; r = x.child.r } in
    let birth : Latest = record { number = x.number; pruned = None } in
    noted_one x pair birth c.args.searched.now.latest.entries c.note-2.new.latest.entries
    (record { counters = refl; named = refl; pruned = tt }) c.in_ok-note-2.ensures
