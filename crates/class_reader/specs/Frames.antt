-- What frames are told against, as the reader keeps it.
use Rattle.std.specs.Prelude.{ℕ, zero, suc, ◌+◌, ◌-◌, List, Option, Some, None, Bool, ◌&&◌, ◌||◌, nat_lt}
use Rattle.class_file.specs.declared.class.VType.{VType}
use Rattle.class_file.specs.ClassBytes.{Before}

-- the place of the frame before, from the first place that a frame can have
abbrev pub place_before : ℕ → Option ℕ
place_before zero = None
place_before (suc n) = Some n

abbrev pub before : ℕ → List VType → Before
before first locals = record { at = place_before first; locals = locals }

abbrev pub started : List VType → Before
started locals = record { at = None; locals = locals }

-- no form, or one that takes away more locals than there are or adds more than a frame can have
abbrev pub is_bad_form : ℕ → ℕ → Bool
is_bad_form tag locals =
    nat_lt tag 247 || (nat_lt 247 tag && nat_lt tag 251 && nat_lt locals (251 - tag))
    || (nat_lt 251 tag && nat_lt tag 255 && nat_lt 65535 (locals + (tag - 251)))
