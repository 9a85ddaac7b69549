-- What numbers fit the bytes that they are written in.
use Rattle.std.specs.Prelude.{◌≡◌, ℕ, ◌<◌, ◌^◌, List, length, ⊤, Option}
use Rattle.std.specs.List.{AllByRecursion}
use Rattle.class_file.specs.declared.class.VType.{VType}
use Rattle.class_file.specs.declared.class.VType.TheVariants as type
use Rattle.class_file.specs.declared.class.Frame.{Frame}
use Rattle.class_file.specs.declared.class.Handler.{Handler}
use Rattle.class_file.specs.ClassBytes.{place_behind, Before}

abbrev pub IsSmall : VType → Type 0
IsSmall (type.Uninitialized at) = at < 2 ^ 16
IsSmall _ = ⊤

abbrev pub AreSmall : List VType → Type 0
AreSmall types = (length types < 2 ^ 16) × AllByRecursion IsSmall types

abbrev pub FrameFits : Frame → Type 0
FrameFits f = AreSmall f.locals × AreSmall f.stack

-- a place that is so far behind another that two bytes can tell it
abbrev pub IsBehind : Option ℕ → ℕ → Type 0
IsBehind before at = (delta : ℕ) × (delta < 2 ^ 16) × (at ≡ place_behind before delta)

abbrev pub before_of : Option ℕ → List VType → Before
before_of at locals = record { at = at; locals = locals }

abbrev pub HandlerFits : Handler → Type 0
HandlerFits h = (h.start < 2 ^ 16) × (h.end < 2 ^ 16) × (h.at < 2 ^ 16)
