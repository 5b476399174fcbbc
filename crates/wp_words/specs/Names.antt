-- What is known of a command beside its definition: the names of its files are text, and its settings and its size are in their ranges.
use Rattle.std.specs.Prelude.{ℕ, ◌≤◌, IsUtf8}
use Rattle.wp_plain.specs.Ranges.{AreInRange}
use Rattle.wp_words.specs.declared.commands.Command.{Command}
use Rattle.wp_words.specs.declared.commands.Command.TheVariants.{Plan, Check, Ground, Gen, Audit}

abbrev pub HasNames : Command → Type 0
HasNames (Plan domain problem settings watch plain closed) = IsUtf8 domain × IsUtf8 problem
HasNames (Check domain problem plan) = IsUtf8 domain × IsUtf8 problem × IsUtf8 plan
HasNames (Ground domain problem) = IsUtf8 domain × IsUtf8 problem
HasNames (Gen number size settings watch plain) = Unit {0}
HasNames (Audit domain problem certificate) = IsUtf8 domain × IsUtf8 problem × IsUtf8 certificate

abbrev pub IsSize : ℕ → Type 0
IsSize size = (1 ≤ size) × (size ≤ 64)

abbrev pub IsInRange : Command → Type 0
IsInRange (Plan domain problem settings watch plain closed) = AreInRange settings
IsInRange (Check domain problem plan) = Unit {0}
IsInRange (Ground domain problem) = Unit {0}
IsInRange (Gen number size settings watch plain) = IsSize size × AreInRange settings
IsInRange (Audit domain problem certificate) = Unit {0}
