-- How a command ends: the status of each report, and the exit status of the process.
use Rattle.std.specs.Prelude.{ℕ}
use Rattle.kc_cli.specs.declared.report.Report.{Report}
use Rattle.kc_cli.specs.declared.report.Report.TheVariants as report
use Rattle.kc_cli.specs.declared.status.Status.{Status}
use Rattle.kc_cli.specs.declared.status.Status.TheVariants.{Ended, Threw, Words, Refused, Limit, ReadFault, WriteFault, ClassRefused, StepLimit, Memory}

-- the exit status of the process
abbrev pub code_of : Status → ℕ
code_of Ended = 0
code_of Threw = 1
code_of Words = 2
code_of Refused = 3
code_of Limit = 4
code_of ReadFault = 5
code_of WriteFault = 6
code_of ClassRefused = 7
code_of StepLimit = 8
code_of Memory = 70

-- the status of a command that is reported so
abbrev pub status_of : Report → Status
status_of report.Ended = Ended
status_of (report.Threw _ _) = Threw
status_of report.Words = Words
status_of (report.Refused _ _ _ _) = Refused
status_of (report.Missing _) = ReadFault
status_of (report.ReadFailed _) = ReadFault
status_of report.InputFailed = ReadFault
status_of report.WriteFailed = WriteFault
status_of (report.StepLimit _) = StepLimit
status_of report.Memory = Memory
