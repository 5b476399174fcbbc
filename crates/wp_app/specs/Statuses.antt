-- The statuses: the exit code of each, and those that the definition of the output gives.
use Rattle.std.specs.Prelude.{ℕ, Bool, true, false}
use Rattle.wp_app.specs.declared.reply.Status.{Status}
use Rattle.wp_app.specs.declared.reply.Status.TheVariants.{Done, InvalidPlan, Usage, Refused, Limit, InvalidCert, NoPlan, QueueEmpty, Budget, Words, OutOfReach, ReadFault, WriteFault, Memory}

abbrev pub code_of : Status → ℕ
code_of Done = 0
code_of InvalidPlan = 1
code_of Usage = 2
code_of Refused = 3
code_of Limit = 4
code_of InvalidCert = 5
code_of NoPlan = 10
code_of QueueEmpty = 11
code_of Budget = 12
code_of Words = 13
code_of OutOfReach = 14
code_of ReadFault = 20
code_of WriteFault = 21
code_of Memory = 30

-- neither a fault of the outside nor want of memory: the definition of the output has it
abbrev pub is_defined : Status → Bool
is_defined ReadFault = false
is_defined WriteFault = false
is_defined Memory = false
is_defined other = true

-- what a command may answer of its files: the definition has it, and it is not that there is no command
abbrev pub is_of_files : Status → Bool
is_of_files Usage = false
is_of_files status = is_defined status
