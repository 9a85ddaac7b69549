-- Calls that fail by what they find, or for want of memory.
use Rattle.std.specs.Prelude.{Result, Ok, Err, ⊤}
use Rattle.kc_text.specs.declared.errors.Fail.{Fail}
use Rattle.kc_text.specs.declared.errors.Fail.TheVariants.{Found, Memory}

-- a fact of the cause that the call found, where it failed by one
abbrev pub IfFound : {T F : Type 0} → Result T (Fail F) → (F → Type 0) → Type 0
IfFound (Ok value) P = ⊤
IfFound (Err (Found cause)) P = P cause
IfFound (Err Memory) P = ⊤

-- a fact of the cause, where it is one that the call found
abbrev pub IfCause : {F : Type 0} → Fail F → (F → Type 0) → Type 0
IfCause (Found cause) P = P cause
IfCause Memory P = ⊤
