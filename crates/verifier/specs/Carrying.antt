-- The frame that the scan carries along.
use Rattle.std.specs.Prelude.{◌≡◌, ℕ, ◌≤◌, List, [], ◌∷◌, ◌++◌, length, Bool, false, ◌==◌, Option, Some, None, if◌then◌else◌, slice_index_or}
use Rattle.std.specs.List.{list_any}
use Rattle.class_file.specs.declared.class.VType.{VType}
use Rattle.class_file.specs.declared.class.VType.TheVariants.{Top}
use Rattle.class_file.specs.declared.row.Row.{Row}
use Rattle.class_file.specs.declared.row.Row.TheVariants as row
use Rattle.class_file.specs.Typing.{Types}
use Rattle.class_file.specs.Verification.{padded}
use Rattle.verifier_types.specs.Frames.{shown}
use Rattle.verifier.specs.declared.carried.Carried.{Carried}

abbrev pub has_place : List ℕ → ℕ → Bool
has_place stored at = list_any (λ p. p == at) stored

-- from a place on only those that have been stored into can hold something
pub record IsUnset (front : ℕ) (stored : List ℕ) (locals : List VType) : Type 0 where
  pub holds : (at : ℕ) → front ≤ at → has_place stored at ≡ false → slice_index_or locals at Top ≡ Top

-- it is known which local variables can hold something
abbrev pub IsTracked : Carried → Type 0
IsTracked c = IsUnset c.front c.stored.items c.known.locals

-- what flows to the place
abbrev pub flow_of : Carried → Option Types
flow_of c = if c.flows then Some (shown c.known) else None

-- the local variable that a row stores into
abbrev pub stored_by : Row → Option ℕ
stored_by (row.Store k i) = Some i
stored_by _ = None

abbrev pub and_place : List ℕ → Option ℕ → List ℕ
and_place stored None = stored
and_place stored (Some at) = stored ++ at ∷ []

-- the local variables have some types first, up to a place, and nothing else; with those that are left they are the whole
pub record Laying (max at : ℕ) (locals rest whole : List VType) : Type 0 where
  pub laid : List VType
  pub at_is : at ≡ length laid
  pub is : locals ≡ padded max laid
  pub whole_is : laid ++ rest ≡ whole
