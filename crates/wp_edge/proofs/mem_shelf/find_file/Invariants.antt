use Rattle.std.proofs.Common.{◌≡◌, drop}
use Rattle.wp_edge.specs.Folder.{found}
use Rattle.wp_edge.proofs.mem_shelf.find_file.Given as goal

abbrev pub invariant-loop-file : goal.invariant-loop-file
invariant-loop-file l = found (drop l.file-index l.files) l.name ≡ found l.files l.name
