-- Descriptors as the code reads them.
use Rattle.std.specs.Prelude.{Bool, true, false, ◌==◌, ◌||◌, if◌then◌else◌, ◌≡◌, ℕ, suc, ◌<◌, ◌≤◌, List, [], ◌∷◌, ◌++◌, length, map, take, drop, Option, Some, None}
use Rattle.std.specs.Option.{option_map}
use Rattle.class_file.specs.declared.class.VType.{VType}
use Rattle.class_file.specs.Descriptors.{Typed, Reference, array_type, array_of, spelled_class, up_to_semicolon, Parameters, FieldType, result_of}
use Rattle.class_file.specs.Members.{type_of_field, Call, call_of}
use Rattle.verifier_types.specs.Seen.{type_of}
use Rattle.verifier_types.specs.declared.types.VerificationType.{VerificationType}
use Rattle.verifier_types.specs.declared.descriptors.Call.{Call as KeptCall}
use Rattle.verifier_types.specs.declared.descriptors.TypeRead.{TypeRead}

pub record Reads : Type 0 where
  pub type : VType
  pub rest : List ℕ

abbrev pub read_of : Typed → Reads
read_of t = record { type = type_of_field t.type; rest = t.rest }

abbrev pub read_seen : TypeRead → Reads
read_seen r = record { type = type_of r.kind; rest = r.rest.now }

abbrev pub call_seen : KeptCall → Call
call_seen c = record { params = map type_of c.params.items; result = option_map type_of c.result }

-- the place of the first `;`
pub record NameEnds (at : ℕ) (units : List ℕ) : Type 0 where
  pub within : at < length units
  pub is : up_to_semicolon units ≡ Some (record { units = take at units; rest = drop (suc at) units })
  pub semicolon : take (suc at) units ≡ take at units ++ 59 ∷ []

abbrev pub SemicolonAt : Option ℕ → List ℕ → Type 0
SemicolonAt None units = up_to_semicolon units ≡ None
SemicolonAt (Some at) units = NameEnds at units

pub record Takes (found : Option Typed) (first n : ℕ) (units : List ℕ) : Type 0 where
  pub is : found ≡ Some (record { type = Reference (first ∷ take n units); rest = drop n units })
  pub within : n ≤ length units

-- behind `L`: so many units, the `;` among them
abbrev pub SpelledReads : Option ℕ → List ℕ → Type 0
SpelledReads None units = spelled_class (up_to_semicolon units) ≡ None
SpelledReads (Some n) units = Takes (spelled_class (up_to_semicolon units)) 76 n units

-- behind `[`: so many units
abbrev pub ArrayReads : Option ℕ → List ℕ → Type 0
ArrayReads None units = array_type units ≡ None
ArrayReads (Some n) units = Takes (array_of (array_type units)) 91 n units

-- parameters, as types, with more in front
pub record ParametersRead : Type 0 where
  pub types : List VType
  pub rest : List ℕ

abbrev pub prefixed : List VType → Option Parameters → Option ParametersRead
prefixed front None = None
prefixed front (Some p) = Some (record { types = front ++ map type_of_field p.types; rest = p.rest })

abbrev pub parsed : List VType → Option (List ℕ) → Option ParametersRead
parsed types None = None
parsed types (Some rest) = Some (record { types = types; rest = rest })

-- what stands behind the parameters, given them
abbrev pub with_params : List FieldType → Option (Option VType) → Option Call
with_params ps None = None
with_params ps (Some r) = Some (record { params = map type_of_field ps; result = r })

abbrev pub Results : Option (Option VerificationType) → List ℕ → Type 0
Results found units = (ps : List FieldType) → option_map call_of (result_of ps units) ≡ with_params ps (option_map (option_map type_of) found)

-- whether a part of a class's name has begun behind one more unit, or that the name is none
abbrev pub name_step : Bool → ℕ → Option Bool
name_step begun u = if u == 47 then (if begun then Some false else None) else (if (u == 46 || u == 91) then None else Some true)
