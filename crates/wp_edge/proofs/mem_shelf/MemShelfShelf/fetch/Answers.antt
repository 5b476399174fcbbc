use Rattle.std.proofs.Common.{ap, sym, ◌∙◌}
use Rattle.wp_edge.specs.Faults.{one_more}
use Rattle.wp_edge.specs.Fakes.{fails_next, is_listed}
use Rattle.wp_edge.proofs.FolderLemmas.{get-contents_of-at}
use Rattle.wp_edge.proofs.ReadLemmas.{read-ok, read-err, read-failed, with_calls}
use Rattle.wp_edge.proofs.mem_shelf.MemShelfShelf.fetch.Goals as goal

pub returns-clause-ok : goal.returns-clause-ok
returns-clause-ok c =
    read-ok _ _ _ _ _ (get-contents_of-at _ _ _ _ (c.as_slice-2.ensures ∙ ap (λ s. s.files) c.self.view_is) c.as_bytes.ensures.value) c.read_file.ensures

pub returns-clause-err : goal.returns-clause-err
returns-clause-err c =
    read-err _ _ _ _ _ _ _ (get-contents_of-at _ _ _ _ (c.as_slice-2.ensures ∙ ap (λ s. s.files) c.self.view_is) c.as_bytes.ensures.value) c.read_file.ensures

pub returns-clause-fails : goal.returns-clause-fails
returns-clause-fails c =
    with_calls (fails_next c.args.self.now)
    (ap fails_next (sym c.self.view_is) ∙ ap (λ f. is_listed f (one_more c.self.inside.calls)) (sym c.as_slice.ensures) ∙ sym c.if-count_call.ensures.fails)
    (read-failed _ _ _ _ _ (get-contents_of-at _ _ _ _ (c.as_slice-2.ensures ∙ ap (λ s. s.files) c.self.view_is) c.as_bytes.ensures.value) c.read_file.ensures)
