-- The descriptors of fields and methods (Java Virtual Machine Specification SE 8, 4.3), in so far as the profile takes them.
use Rattle.std.specs.Prelude.{ℕ, zero, suc, ◌+◌, List, [], ◌∷◌, ◌++◌, length, Option, Some, None, ◌==◌, if◌then◌else◌, Bool, true, false, not, ◌&&◌, ◌||◌}
use Rattle.class_file.specs.declared.value.Kind.{Kind}
use Rattle.class_file.specs.declared.value.Kind.TheVariants as kinds

-- What a field, a parameter or a result is. A reference is named as a Class entry names it: by a class's binary name, or by
-- the descriptor of an array.
pub data FieldType : Type 0 where
  IntType : FieldType
  CharType : FieldType
  BooleanType : FieldType
  LongType : FieldType
  Reference : (name : List ℕ) → FieldType

-- the name of an array, which is its descriptor
abbrev pub is_array_name : List ℕ → Bool
is_array_name [] = false
is_array_name (u ∷ us) = u == 91

-- what the machine keeps of it
abbrev pub kind_of : FieldType → Kind
kind_of IntType = kinds.Int
kind_of CharType = kinds.Int
kind_of BooleanType = kinds.Int
kind_of LongType = kinds.Long
kind_of (Reference name) = kinds.Ref

pub record Signature : Type 0 where
  pub params : List FieldType
  -- none for `V`
  pub result : Option FieldType

-- a name that was read, and what is left behind it
pub record Name : Type 0 where
  pub units : List ℕ
  pub rest : List ℕ

abbrev pub with_first : ℕ → Option Name → Option Name
with_first u None = None
with_first u (Some n) = Some (record { units = u ∷ n.units; rest = n.rest })

-- the units before the first `;`, and those behind it
abbrev pub up_to_semicolon : List ℕ → Option Name
up_to_semicolon [] = None
up_to_semicolon (u ∷ us) = if u == 59 then Some (record { units = []; rest = us }) else with_first u (up_to_semicolon us)

-- a type that was read, and what is left behind it
pub record Typed : Type 0 where
  pub type : FieldType
  pub rest : List ℕ

abbrev pub typed : FieldType → List ℕ → Option Typed
typed t rest = Some (record { type = t; rest = rest })

-- a class's binary name: parts that aren't empty, with `/` between them, and no `.` or `[` in them; it tells whether a part has
-- begun (4.2.1 and 4.2.2)
abbrev pub is_class_name : Bool → List ℕ → Bool
is_class_name begun [] = begun
is_class_name begun (u ∷ us) = if u == 47 then begun && is_class_name false us else not (u == 46 || u == 91) && is_class_name true us

-- behind `L`: a class's name
abbrev pub class_type : Option Name → Option Typed
class_type None = None
class_type (Some n) = if is_class_name false n.units then typed (Reference n.units) n.rest else None

-- behind `[`: another `[`, or a class; the array's own name is its descriptor
abbrev pub array_of : Option Typed → Option Typed
array_of (Some t) = elim t.type [ Reference name ↦ typed (Reference (91 ∷ name)) t.rest | _ ↦ None ]
array_of None = None

abbrev pub spelled_class : Option Name → Option Typed
spelled_class None = None
spelled_class (Some n) = if is_class_name false n.units then typed (Reference (76 ∷ n.units ++ 59 ∷ [])) n.rest else None

abbrev pub array_type : List ℕ → Option Typed
array_type [] = None
array_type (u ∷ us) = if u == 91 then array_of (array_type us) else (if u == 76 then spelled_class (up_to_semicolon us) else None)

-- the type that begins a text: `I`, `C`, `Z`, `J`, `L` with a class's name and `;`, or `[` before the type of its elements,
-- which are references
abbrev pub first_type : List ℕ → Option Typed
first_type [] = None
first_type (u ∷ us) =
    if u == 73 then typed IntType us
    else (if u == 67 then typed CharType us
    else (if u == 90 then typed BooleanType us
    else (if u == 74 then typed LongType us
    else (if u == 76 then class_type (up_to_semicolon us)
    else (if u == 91 then array_of (array_type us) else None)))))

abbrev pub alone : Option Typed → Option FieldType
alone None = None
alone (Some t) = elim t.rest [ [] ↦ Some t.type | u ∷ us ↦ None ]

-- a field's descriptor
abbrev pub field_type : List ℕ → Option FieldType
field_type units = alone (first_type units)

pub record Parameters : Type 0 where
  pub types : List FieldType
  pub rest : List ℕ

abbrev pub put_first : FieldType → Option Parameters → Option Parameters
put_first t None = None
put_first t (Some p) = Some (record { types = t ∷ p.types; rest = p.rest })

abbrev pub with_parameter : Option Typed → (List ℕ → Option Parameters) → Option Parameters
with_parameter None more = None
with_parameter (Some t) more = put_first t.type (more t.rest)

-- the parameters up to `)`, of which there are at most so many
abbrev pub parameters : ℕ → List ℕ → Option Parameters
parameters n [] = None
parameters zero (u ∷ us) = if u == 41 then Some (record { types = []; rest = us }) else None
parameters (suc n) (u ∷ us) =
    if u == 41 then Some (record { types = []; rest = us }) else with_parameter (first_type (u ∷ us)) (parameters n)

abbrev pub with_result : List FieldType → Option FieldType → Option Signature
with_result params None = None
with_result params (Some t) = Some (record { params = params; result = Some t })

abbrev pub result_of : List FieldType → List ℕ → Option Signature
result_of params [] = None
result_of params (u ∷ us) =
    if u == 86 then elim us [ [] ↦ Some (record { params = params; result = None }) | v ∷ vs ↦ None ]
    else with_result params (field_type (u ∷ us))

abbrev pub behind_parameters : Option Parameters → Option Signature
behind_parameters None = None
behind_parameters (Some p) = result_of p.types p.rest

-- a method's descriptor: `(`, the parameters, `)`, and the result or `V`
abbrev pub signature : List ℕ → Option Signature
signature [] = None
signature (u ∷ us) = if u == 40 then behind_parameters (parameters (length us) us) else None

-- how many places of the local variables parameters take
abbrev pub places_of : List FieldType → ℕ
places_of [] = 0
places_of (LongType ∷ ts) = 2 + places_of ts
places_of (t ∷ ts) = 1 + places_of ts
