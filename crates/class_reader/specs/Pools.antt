-- Pools as the reader keeps them, against what the definition reads.
use Rattle.std.specs.Prelude.{Bool, if◌then◌else◌, ◌≡◌, ℕ, List, ◌++◌, map, Option, Some, None, Result, Ok, Err, ⊤}
use denote.Ref.{Bor}
use Rattle.std.specs.Int.{w16}
use Rattle.class_file.specs.declared.format_fault.FormatFault.{FormatFault}
use Rattle.class_file.specs.declared.format_fault.FormatCode.{FormatCode}
use Rattle.class_file.specs.declared.format_fault.FormatCode.TheVariants.{BadIndex, BadDescriptor}
use Rattle.class_file.specs.declared.pool.Entry.{Entry}
use Rattle.kc_text.specs.declared.errors.Fail.{Fail}
use Rattle.kc_text.specs.declared.errors.Fail.TheVariants as fail
use Rattle.kc_text.specs.declared.errors.Memory.{Memory}
use Rattle.class_file.specs.Pools.{Slots}
use Rattle.class_file.specs.Inputs.{Input, read, number_at}
use Rattle.class_file.specs.PoolFaults.{Wanted, AText, ATypeName, ADescriptor, AClass, AFieldsType, AMethodsType, Use, Found, Nothing, Unread, There, Piece, PoolRead, pool_read, one_index, two_indexes, of_text, of_type}
use Rattle.class_reader.specs.declared.input.Input as kept_input
use Rattle.class_reader.specs.declared.uses.Wanted as kept_wanted
use Rattle.class_reader.specs.declared.uses.Wanted.TheVariants as wanted
use Rattle.class_reader.specs.declared.uses.Use as kept_use
use Rattle.class_reader.specs.declared.uses.Found as kept_found
use Rattle.class_reader.specs.declared.uses.Found.TheVariants as found
use Rattle.class_reader.specs.Reads.{input_of}

abbrev pub wanted_of : kept_wanted.Wanted → Wanted
wanted_of wanted.Text = AText
wanted_of wanted.TypeName = ATypeName
wanted_of wanted.Descriptor = ADescriptor
wanted_of wanted.Class = AClass
wanted_of wanted.FieldsType = AFieldsType
wanted_of wanted.MethodsType = AMethodsType

abbrev pub noted : kept_use.Use → Use
noted u = record { at = u.at; index = u.index; wanted = wanted_of u.wanted }

abbrev pub uses_of : List kept_use.Use → List Use
uses_of uses = map noted uses

abbrev pub found_of : kept_found.Found → Found
found_of found.Nothing = Nothing
found_of found.Unread = Unread
found_of (found.There e) = There e.now

abbrev pub no_fault : List ℕ → Option FormatCode
no_fault text = None

-- what was read of an entry, and the indexes that were noted with it, are the piece's, unless memory ran out
abbrev pub IsPieceBy : {X : Type 0} → (X → Entry) → Result (X × kept_input.Input) (Fail FormatFault) → List kept_use.Use → List kept_use.Use → Piece → Type 0
IsPieceBy make (Ok x) old new p = (p.end ≡ read (make x.0) (input_of x.1)) × (uses_of new ≡ uses_of old ++ p.uses)
IsPieceBy make (Err (fail.Found f)) old new p = (p.end ≡ Err f) × (uses_of new ≡ uses_of old ++ p.uses)
IsPieceBy make (Err fail.Memory) old new p = ⊤

abbrev pub IsPiece : Result (Entry × kept_input.Input) (Fail FormatFault) → List kept_use.Use → List kept_use.Use → Piece → Type 0
IsPiece result old new p = IsPieceBy (λ e. e) result old new p

abbrev pub IsIndex : Result (ℕ × kept_input.Input) (Fail FormatFault) → List kept_use.Use → List kept_use.Use → kept_wanted.Wanted → Input → Type 0
IsIndex result old new w i = (make : ℕ → Entry) → IsPieceBy make result old new (one_index (wanted_of w) make i (number_at w16 i))

abbrev pub AreIndexes : Result ((ℕ × ℕ) × kept_input.Input) (Fail FormatFault) → List kept_use.Use → List kept_use.Use → kept_wanted.Wanted → kept_wanted.Wanted → Input → Type 0
AreIndexes result old new w other i =
    (make : ℕ → ℕ → Entry) → IsPieceBy (λ x. make x.0 x.1) result old new (two_indexes (wanted_of w) (wanted_of other) make i (number_at w16 i))

-- the pool and the indexes that were noted are those that the definition reads, and so is where reading ended
abbrev pub IsPool : Result (Result kept_input.Input FormatFault) Memory → Slots → List kept_use.Use → PoolRead → Type 0
IsPool (Ok (Ok i)) slots uses p = p ≡ pool_read slots (uses_of uses) (Ok (input_of i))
IsPool (Ok (Err f)) slots uses p = p ≡ pool_read slots (uses_of uses) (Err f)
IsPool (Err e) slots uses p = ⊤

-- a text that was found, or one that is not read yet, or that another thing was found
abbrev pub JudgedText : Result (Option (Bor (List ℕ))) FormatCode → Found → Type 0
JudgedText (Ok (Some t)) f = (judge : List ℕ → Option FormatCode) → of_text f judge ≡ judge t.now
JudgedText (Ok None) f = (judge : List ℕ → Option FormatCode) → of_text f judge ≡ None
JudgedText (Err code) f = (code ≡ BadIndex) × ((judge : List ℕ → Option FormatCode) → of_text f judge ≡ Some BadIndex)

-- the same of a member's descriptor
abbrev pub JudgedType : Slots → ℕ → Result (Option (Bor (List ℕ))) FormatCode → Found → Type 0
JudgedType slots count (Ok (Some t)) f = (other : List ℕ → Bool) → of_type slots count other f ≡ (if other t.now then Some BadDescriptor else None)
JudgedType slots count (Ok None) f = (other : List ℕ → Bool) → of_type slots count other f ≡ None
JudgedType slots count (Err code) f = (code ≡ BadIndex) × ((other : List ℕ → Bool) → of_type slots count other f ≡ Some BadIndex)
