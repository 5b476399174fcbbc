-- What callers see of a pass: its table, the marks that it made or took over, and its parts of the right to know all marks.
use Rattle.std.specs.Prelude.{ℕ, List}
pub use Rattle.atomic_table.specs.Seated.{TableId, table_id_coded}
use Rattle.wp_arrive.specs.declared.view.Arrival.{Arrival}

pub record PassView : Type 0 where
  pub table : TableId
  pub marks : List Arrival
  pub parts : ℕ

abbrev pub seen : TableId → List Arrival → ℕ → PassView
seen table marks parts = record { table = table; marks = marks; parts = parts }
