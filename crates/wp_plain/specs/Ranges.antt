-- The ranges of the settings.
use Rattle.std.specs.Prelude.{◌≤◌}
use Rattle.wp_plain.specs.declared.settings.Settings.{Settings}

pub record AreInRange (settings : Settings) : Type 0 where
  pub width : (1 ≤ settings.width) × (settings.width ≤ 2)
  pub budget : (1 ≤ settings.budget) × (settings.budget ≤ 100000000)
  pub words : (1 ≤ settings.words) × (settings.words ≤ 536870912)
  pub workers : (1 ≤ settings.workers) × (settings.workers ≤ 64)
  pub ahead : settings.ahead ≤ 1024
