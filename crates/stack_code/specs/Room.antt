-- How long compiled code is at most.
use Rattle.std.specs.Prelude.{◌≤◌}
use Rattle.kc_core.specs.declared.tree.Function.{Function}
use Rattle.kc_core.specs.Room.{function_room, function_weight}
use Rattle.stack_code.specs.Code.{bytes, body_code}

-- a function's code takes no more bytes than its room, and so no more than it weighs
abbrev pub CodeIsWithinRoom : Type 0
CodeIsWithinRoom = (f : Function) → (bytes (body_code f.body) ≤ function_room f) × (bytes (body_code f.body) ≤ function_weight f)
