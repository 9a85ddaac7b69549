-- What the verifier answers.
use Rattle.std.specs.Prelude.{◌≡◌, ℕ, All, true, ◌<◌, ◌^◌, length}
use Rattle.class_file.specs.declared.class.Set.{Set}
use Rattle.class_file.specs.declared.instr.Instr.{Instr}
use Rattle.class_file.specs.Rows.{row_of}
use Rattle.class_file.specs.Lots.{in_first_lot}
use Rattle.class_file.specs.Verification.{PlaceFault}
use Rattle.verifier.specs.declared.scan.Place.{Place}

abbrev pub InLot : Instr → Type 0
InLot i = (pc : ℕ) → in_first_lot (row_of pc i) ≡ true

-- each instruction of the set is of the first lot
abbrev pub IsOfFirstLot : Set → Type 0
IsOfFirstLot set = All (λ c. All (λ m. All InLot m.code) c.methods) set.classes

-- no method has so many instructions that its bytes could not be counted
abbrev pub IsCounted : Set → Type 0
IsCounted set = All (λ c. All (λ m. length m.code < 2 ^ 28) c.methods) set.classes

abbrev pub place_seen : Place → PlaceFault
place_seen p = record { at = p.at; code = p.code }
