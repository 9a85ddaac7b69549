-- The first fault of a constant pool (Java Virtual Machine Specification SE 8, 4.4). An index may name a later entry, so that the
-- indexes are judged once the entries are read.
use Rattle.std.specs.Prelude.{ℕ, zero, suc, ◌-◌, List, [], ◌∷◌, ◌++◌, length, Option, Some, None, Bool, not, ◌||◌, ◌==◌, nat_lt, if◌then◌else◌, Result, Ok, Err}
use Rattle.std.specs.Int.{w8, w16, w32, w64}
use Rattle.class_file.specs.declared.pool.Entry.{Entry}
use Rattle.class_file.specs.declared.pool.Entry.TheVariants as entry
use Rattle.class_file.specs.declared.format_fault.FormatFault.{FormatFault}
use Rattle.class_file.specs.declared.format_fault.FormatCode.{FormatCode}
use Rattle.class_file.specs.declared.format_fault.FormatCode.TheVariants.{BadPool, BadName, BadIndex, BadDescriptor, OutOfProfile}
use Rattle.class_file.specs.Indexing.{added}
use Rattle.class_file.specs.Pools.{Slots, entry_at, text_in}
use Rattle.class_file.specs.Inputs.{◌>>=◌, Input, Reading, read, fault, refused, bytes_at, number_at, signed_at, text_of_modified}
use Rattle.class_file.specs.DescriptorFaults.{is_any_field_descriptor, is_any_method_descriptor, descriptor_fault, type_name_fault}

-- ---- the pool (4.4)

-- what an index of an entry is wanted to name
pub data Wanted : Type 0 where
  AText : Wanted
  ATypeName : Wanted
  ADescriptor : Wanted
  AClass : Wanted
  AFieldsType : Wanted
  AMethodsType : Wanted

-- an index that stands in the pool, at its offset
pub record Use : Type 0 where
  pub at : ℕ
  pub index : ℕ
  pub wanted : Wanted

-- what stands at an index of a pool of which the first entries are read
pub data Found : Type 0 where
  Nothing : Found
  Unread : Found
  There : (e : Entry) → Found

abbrev pub found_entry : Option Entry → Found
found_entry None = Nothing
found_entry (Some e) = There e

abbrev pub found_at : Slots → ℕ → ℕ → Found
found_at slots count index =
    if index == 0 || not (nat_lt index count) then Nothing else (if nat_lt index (length slots) then found_entry (entry_at slots index) else Unread)

-- a text where it is known
abbrev pub known_text : Found → Option (List ℕ)
known_text (There e) = text_in (Some e)
known_text _ = None

abbrev pub with_text : Option (List ℕ) → (List ℕ → Option FormatCode) → Option FormatCode
with_text None judge = None
with_text (Some t) judge = judge t

abbrev pub of_text : Found → (List ℕ → Option FormatCode) → Option FormatCode
of_text (There (entry.Utf8 t)) judge = judge t
of_text Unread judge = None
of_text _ judge = Some BadIndex

abbrev pub of_class : Found → Option FormatCode
of_class (There (entry.Class name)) = None
of_class Unread = None
of_class _ = Some BadIndex

-- a member's descriptor that is one of the other kind of members
abbrev pub of_type : Slots → ℕ → (List ℕ → Bool) → Found → Option FormatCode
of_type slots count is_other (There (entry.NameAndType name descriptor)) =
    with_text (known_text (found_at slots count descriptor)) (λ t. if is_other t then Some BadDescriptor else None)
of_type slots count is_other Unread = None
of_type slots count is_other _ = Some BadIndex

abbrev pub judged : Slots → ℕ → Wanted → Found → Option FormatCode
judged slots count AText found = of_text found (λ t. None)
judged slots count ATypeName found = of_text found type_name_fault
judged slots count ADescriptor found = of_text found descriptor_fault
judged slots count AClass found = of_class found
judged slots count AFieldsType found = of_type slots count is_any_method_descriptor found
judged slots count AMethodsType found = of_type slots count is_any_field_descriptor found

-- the first of the indexes that does not name what it is wanted to
unfoldable pub uses_fault : {A : Type 0} → Slots → ℕ → List Use → Result A FormatFault → Result A FormatFault
uses_fault slots count [] go = go
uses_fault slots count (u ∷ us) go = refused u.at (judged slots count u.wanted (found_at slots count u.index)) (uses_fault slots count us go)

-- an entry, as far as it could be read: the indexes in it, and itself or what is wrong
pub record Piece : Type 0 where
  pub uses : List Use
  pub end : Reading Entry

abbrev pub piece : List Use → Reading Entry → Piece
piece uses end = record { uses = uses; end = end }

abbrev pub use_of : Input → ℕ → Wanted → Use
use_of i index wanted = record { at = i.at; index = index; wanted = wanted }

abbrev pub one_index : Wanted → (ℕ → Entry) → Input → Reading ℕ → Piece
one_index wanted make i (Err f) = piece [] (Err f)
one_index wanted make i (Ok n) = piece (use_of i n.value wanted ∷ []) (read (make n.value) n.rest)

abbrev pub second_index : Use → Wanted → (ℕ → Entry) → Input → Reading ℕ → Piece
second_index first wanted make i (Err f) = piece (first ∷ []) (Err f)
second_index first wanted make i (Ok n) = piece (first ∷ use_of i n.value wanted ∷ []) (read (make n.value) n.rest)

abbrev pub two_indexes : Wanted → Wanted → (ℕ → ℕ → Entry) → Input → Reading ℕ → Piece
two_indexes wanted other make i (Err f) = piece [] (Err f)
two_indexes wanted other make i (Ok n) = second_index (use_of i n.value wanted) other (make n.value) n.rest (number_at w16 n.rest)

abbrev pub text_entry : ℕ → Input → Option (List ℕ) → Reading Entry
text_entry at rest None = fault BadName at
text_entry at rest (Some t) = read (entry.Utf8 t) rest

abbrev pub utf8_at : Input → Reading Entry
utf8_at i = do
  n ← number_at w16 i
  b ← bytes_at n.value n.rest
  text_entry n.rest.at b.rest (text_of_modified b.value)

abbrev pub integer_at : Input → Reading Entry
integer_at i = do
  n ← signed_at w32 i
  read (entry.Integer n.value) n.rest

abbrev pub long_at : Input → Reading Entry
long_at i = do
  n ← signed_at w64 i
  read (entry.Long n.value) n.rest

-- behind a tag, where so many indexes are left
unfoldable pub tagged_at : ℕ → ℕ → ℕ → Input → Piece
tagged_at left at tag i =
    if tag == 1 then piece [] (utf8_at i)
    else (if tag == 3 then piece [] (integer_at i)
    else (if tag == 5 then (if nat_lt left 2 then piece [] (fault BadPool at) else piece [] (long_at i))
    else (if tag == 7 then one_index ATypeName entry.Class i (number_at w16 i)
    else (if tag == 8 then one_index AText entry.Str i (number_at w16 i)
    else (if tag == 9 then two_indexes AClass AFieldsType entry.FieldRef i (number_at w16 i)
    else (if tag == 10 then two_indexes AClass AMethodsType entry.MethodRef i (number_at w16 i)
    else (if tag == 11 then two_indexes AClass AMethodsType entry.InterfaceMethodRef i (number_at w16 i)
    else (if tag == 12 then two_indexes AText ADescriptor entry.NameAndType i (number_at w16 i)
    else piece [] (fault OutOfProfile at)))))))))

abbrev pub piece_behind : ℕ → ℕ → Reading ℕ → Piece
piece_behind left at (Err f) = piece [] (Err f)
piece_behind left at (Ok tag) = tagged_at left at tag.value tag.rest

abbrev pub piece_at : ℕ → Input → Piece
piece_at left i = piece_behind left i.at (number_at w8 i)

-- a pool as far as it could be read
pub record PoolRead : Type 0 where
  pub slots : Slots
  pub uses : List Use
  pub end : Result Input FormatFault

abbrev pub pool_read : Slots → List Use → Result Input FormatFault → PoolRead
pool_read slots uses end = record { slots = slots; uses = uses; end = end }

-- The entries up to the count. There are at most so many.
abbrev pub more_entries : (Slots → List Use → Input → PoolRead) → Slots → List Use → Reading Entry → PoolRead
more_entries more slots uses (Err f) = pool_read slots uses (Err f)
more_entries more slots uses (Ok e) = more (slots ++ added e.value) uses e.rest

unfoldable pub entries_at : ℕ → ℕ → Slots → List Use → Input → PoolRead
entries_at zero count slots uses i = pool_read slots uses (Ok i)
entries_at (suc most) count slots uses i =
    if nat_lt (length slots) count
    then (let p = piece_at (count - length slots) i in more_entries (entries_at most count) slots (uses ++ p.uses) p.end)
    else pool_read slots uses (Ok i)

abbrev pub judged_pool : ℕ → PoolRead → Reading Slots
judged_pool count p = uses_fault p.slots count p.uses (p.end >>= λ rest. read p.slots rest)

unfoldable pub pool_at : Input → Reading Slots
pool_at i = do
  count ← number_at w16 i
  if count.value == 0 then fault BadPool i.at else judged_pool count.value (entries_at count.value count.value (None ∷ []) [] count.rest)
