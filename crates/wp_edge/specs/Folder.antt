-- Files in memory as a finite map. Of files of one name the first counts.
use Rattle.std.specs.Prelude.{ℕ, List, map, Option}
use Rattle.std.specs.FinMap.{from_entries, find}
use Rattle.std.specs.Cmp.Lexicographic.{slice_cmp}
use Rattle.std.specs.Ordering.{nat_cmp}
use Rattle.wp_edge.specs.Fetch.{Contents}
use Rattle.wp_edge.specs.declared.files.File.{File}

-- the name of a file with its bytes
abbrev pub named : File → List ℕ × List ℕ
named file = (file.name, file.bytes)

unfoldable pub contents_of : List File → Contents
contents_of files = from_entries (map named files)

-- the bytes of the first file of the name
unfoldable pub found : List File → List ℕ → Option (List ℕ)
found files name = find (slice_cmp nat_cmp) name (map named files)
