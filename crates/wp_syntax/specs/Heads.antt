-- Which keyword a word is, where the grammar asks.
use Rattle.std.specs.Prelude.{ℕ, Bool, List, ◌||◌, if◌then◌else◌, codes}
use Rattle.std.specs.Str.{bytes_eq}
use Rattle.wp_syntax.specs.declared.word.Head.{Head}
use Rattle.wp_syntax.specs.declared.word.Head.TheVariants as heads
use Rattle.wp_syntax.specs.declared.word.PartHead.{PartHead}
use Rattle.wp_syntax.specs.declared.word.PartHead.TheVariants as part_heads
use Rattle.wp_syntax.specs.declared.word.SectionHead.{SectionHead}
use Rattle.wp_syntax.specs.declared.word.SectionHead.TheVariants as section_heads
use Rattle.wp_syntax.specs.declared.word.ItemHead.{ItemHead}
use Rattle.wp_syntax.specs.declared.word.ItemHead.TheVariants as item_heads
use Rattle.wp_syntax.specs.Word.{is_name, is_reserved}

-- the first word of a condition, a goal, an effect or a fact of :init
abbrev pub head_of : List ℕ → Head
head_of text =
    if bytes_eq text (codes "and") then heads.And else
    (if bytes_eq text (codes "not") then heads.Not else
    (if bytes_eq text (codes "=") then heads.Equal else
    (if is_reserved text then heads.Reserved else
    (if is_name text then heads.Name else heads.Other))))

abbrev pub part_head_of : List ℕ → PartHead
part_head_of text =
    if bytes_eq text (codes ":parameters") then part_heads.Parameters else
    (if bytes_eq text (codes ":precondition") then part_heads.Precondition else
    (if bytes_eq text (codes ":effect") then part_heads.Effect else
    (if bytes_eq text (codes ":vars") then part_heads.Vars else part_heads.Other)))

-- sections that PDDL has and this grammar has not
abbrev pub is_other_section : List ℕ → Bool
is_other_section text = bytes_eq text (codes ":functions") || bytes_eq text (codes ":durative-action")
    || bytes_eq text (codes ":derived") || bytes_eq text (codes ":constraints")

abbrev pub section_head_of : List ℕ → SectionHead
section_head_of text =
    if bytes_eq text (codes ":requirements") then section_heads.Requirements else
    (if bytes_eq text (codes ":types") then section_heads.Types else
    (if bytes_eq text (codes ":constants") then section_heads.Constants else
    (if bytes_eq text (codes ":predicates") then section_heads.Predicates else
    (if bytes_eq text (codes ":action") then section_heads.Action else
    (if is_other_section text then section_heads.Unsupported else section_heads.Other)))))

-- items of a problem that PDDL has and this grammar has not
abbrev pub is_other_item : List ℕ → Bool
is_other_item text = bytes_eq text (codes ":metric") || bytes_eq text (codes ":constraints")
    || bytes_eq text (codes ":length")

abbrev pub item_head_of : List ℕ → ItemHead
item_head_of text =
    if bytes_eq text (codes ":domain") then item_heads.Domain else
    (if bytes_eq text (codes ":requirements") then item_heads.Requirements else
    (if bytes_eq text (codes ":objects") then item_heads.Objects else
    (if bytes_eq text (codes ":init") then item_heads.Init else
    (if bytes_eq text (codes ":goal") then item_heads.Goal else
    (if is_other_item text then item_heads.Unsupported else item_heads.Other)))))
