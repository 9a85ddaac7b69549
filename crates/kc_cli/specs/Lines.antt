-- The line that says how a command ended.
use Rattle.std.specs.Prelude.{ℕ, List, [], ◌∷◌, ◌++◌, codes, decimal, map, nat_eq, if◌then◌else◌, Option, Some, None}
use Rattle.kc_text.specs.Unicode.{utf8_of}
use Rattle.kc_cli.specs.declared.report.Code.{Code}
use Rattle.kc_cli.specs.declared.report.Code.TheVariants.{NotBuilt}
use Rattle.kc_cli.specs.declared.report.Report.{Report}
use Rattle.kc_cli.specs.declared.report.Report.TheVariants.{Ended, Threw, Words, Refused, Missing, ReadFailed, InputFailed, WriteFailed, StepLimit, Memory}

-- the name that is printed for the code
abbrev pub code_name_of : Code → List ℕ
code_name_of NotBuilt = codes "NotBuilt"

-- `.` in place of `/`
abbrev pub dot_for_slash : ℕ → ℕ
dot_for_slash unit = if nat_eq unit 47 then 46 else unit

-- a binary name with `.` for each `/`
abbrev pub dotted : List ℕ → List ℕ
dotted name = map dot_for_slash name

-- what is printed of an exception's message, if it has one
abbrev pub message_part_of : Option (List ℕ) → List ℕ
message_part_of None = []
message_part_of (Some message) = codes ": " ++ utf8_of message

-- the text with a line feed behind it
abbrev pub as_line : List ℕ → List ℕ
as_line text = text ++ 10 ∷ []

-- what goes to the error stream: one line, or nothing where the command did all that it does
abbrev pub line_of : Report → List ℕ
line_of Ended = []
line_of (Threw class message) = as_line (codes "exception: " ++ utf8_of (dotted class) ++ message_part_of message)
line_of Words = as_line (codes "kc: words not understood")
line_of (Refused file line column code) =
    as_line (file ++ codes ":" ++ decimal line ++ codes ":" ++ decimal column ++ codes ": " ++ code_name_of code)
line_of (Missing name) = as_line (codes "missing: " ++ name)
line_of (ReadFailed name) = as_line (codes "read failed: " ++ name)
line_of InputFailed = as_line (codes "read failed: input")
line_of WriteFailed = as_line (codes "write failed")
line_of (StepLimit steps) = as_line (codes "steps: " ++ decimal steps)
line_of Memory = as_line (codes "out of memory")

-- the report names nothing, so that its line is always the same
abbrev pub IsFixed : Report → Type 0
IsFixed Ended = Unit {0}
IsFixed (Threw _ _) = ⊥
IsFixed Words = Unit {0}
IsFixed (Refused _ _ _ _) = ⊥
IsFixed (Missing _) = ⊥
IsFixed (ReadFailed _) = ⊥
IsFixed InputFailed = Unit {0}
IsFixed WriteFailed = Unit {0}
IsFixed (StepLimit _) = ⊥
IsFixed Memory = Unit {0}
