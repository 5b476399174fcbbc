-- What domains and problems share: ( define ( WORD NAME ) .. ), and flags.
use Rattle.std.specs.Prelude.{ℕ, List, [], not, codes}
use Rattle.std.specs.Str.{bytes_eq}
use Rattle.wp_lex.specs.Trees.{Tree, Trees, Leaf, Branch, End, Then}
use Rattle.wp_syntax.specs.declared.error.ReadKind.TheVariants.{Shape}
use Rattle.wp_syntax.specs.declared.records.Name.{Name}
use Rattle.wp_syntax.specs.Word.{is_keyword, is_name}
use Rattle.wp_syntax.specs.Reading.{Read, fine, wrong, wrong_if, ◌>>=◌, ◌>>◌}
use Rattle.wp_syntax.specs.Grammar.{name_at, place_of}

-- the place of a text's list, its title, and what follows
pub record Frame : Type 0 where
  pub at : ℕ
  pub title : Tree
  pub rest : Trees

abbrev pub no_frame : ℕ → Frame
no_frame at = record { at = at; title = Leaf [] at; rest = End }

-- define and a title, in the list at a place
abbrev pub inside_of : ℕ → Trees → Read Frame
inside_of at (Then (Leaf word i) (Then title rest)) =
    wrong_if (not (bytes_eq word (codes "define"))) Shape at >> fine (record { at = at; title = title; rest = rest })
inside_of at trees = wrong Shape at >> fine (no_frame at)

-- The trees of a text are one list; a row of any other kind has a fault at its head.
abbrev pub outline_of : Trees → Read Frame
outline_of (Then (Branch at trees) End) = inside_of at trees
outline_of (Then (Branch at trees) rest) = wrong Shape at >> fine (no_frame at)
outline_of (Then (Leaf text at) rest) = wrong Shape at >> fine (no_frame at)
outline_of End = wrong Shape 0 >> fine (no_frame 0)

-- nothing stands there
abbrev pub end_of : Trees → Read (Unit {0})
end_of End = fine tt
end_of (Then tree rest) = wrong Shape (place_of tree)

abbrev pub name_of : Tree → Read Name
name_of (Leaf text at) = wrong_if (not (is_name text)) Shape at >> fine (name_at text at)
name_of (Branch at trees) = wrong Shape at >> fine (name_at [] at)

-- one name and nothing else, in the list at a place
abbrev pub only_name_of : ℕ → Trees → Read Name
only_name_of at End = wrong Shape at >> fine (name_at [] at)
only_name_of at (Then tree rest) = name_of tree >>= λ name. end_of rest >> fine name

-- ( WORD NAME )
abbrev pub title_of : List ℕ → Tree → Read Name
title_of word (Leaf text at) = wrong Shape at >> fine (name_at [] at)
title_of word (Branch at End) = wrong Shape at >> fine (name_at [] at)
title_of word (Branch at (Then (Branch i trees) rest)) = wrong Shape at >> fine (name_at [] at)
title_of word (Branch at (Then (Leaf head i) rest)) =
    wrong_if (not (bytes_eq head word)) Shape at >> only_name_of at rest

-- WORD*, each of which begins with a colon
abbrev pub flag_of : Tree → Read (Unit {0})
flag_of (Leaf text at) = wrong_if (not (is_keyword text)) Shape at
flag_of (Branch at trees) = wrong Shape at

abbrev pub flags_of : Trees → Read (Unit {0})
flags_of End = fine tt
flags_of (Then tree rest) = flag_of tree >> flags_of rest
