-- What is at home of an open pair: its ranks with the pass of its words, or with all parts of nothing where it has none.
use Rattle.std.specs.Prelude.{◌^◌, [], Option, None, Some}
use Rattle.wp_arrive.specs.Seen.{PassView, seen}
use Rattle.wp_tuples.specs.Ranking.{Ranking}
use Rattle.wp_novel.specs.NoveltyTables.{HomeView, at_home, no_words}

abbrev pub pass_at : Option PassView → PassView
pass_at None = seen no_words [] (2 ^ 32)
pass_at (Some pass) = pass

abbrev pub home_with : Ranking → Option PassView → HomeView
home_with ranking shared = at_home ranking (pass_at shared).table (pass_at shared).marks (pass_at shared).parts
