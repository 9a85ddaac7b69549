-- What the methods do that the run-time system provides.
use Rattle.std.specs.Prelude.{ℕ, zero, suc, ◌+◌, ◌-◌, ◌*◌, ◌%◌, ◌/◌, ◌^◌, List, [], ◌∷◌, ◌++◌, length, map, take, drop, Option, Some, None, Bool, true, false, not, ◌&&◌, ◌==◌, nat_lt, nat_le, if◌then◌else◌, slice_get, codes, ℤ, pos, negsuc, int_lt}
use Rattle.std.specs.Ordering.{int_eq}
use Rattle.std.specs.Int.{w32, w64, int_wrapping_add, int_wrapping_mul, int_bit_xor, cast_signed, cast_unsigned}
use Rattle.std.specs.Fmt.{signed_decimal}
use Rattle.kc_text.specs.Unicode.{utf8_of, encode_utf16}
use Rattle.class_file.specs.declared.value.Value.{Value}
use Rattle.class_file.specs.declared.value.Value.TheVariants.{Int, Long, Null, Ref}
use Rattle.class_file.specs.declared.value.BuiltIn.{BuiltIn}
use Rattle.class_file.specs.declared.value.BuiltIn.TheVariants as built_in
use Rattle.class_file.specs.declared.value.NativeId.{NativeId}
use Rattle.class_file.specs.declared.value.NativeId.TheVariants as native_is
use Rattle.class_file.specs.declared.class.Set.{Set}
use Rattle.class_file.specs.Pools.{is_text}
use Rattle.class_file.specs.Classes.{ClassView, class_at, integer_class, long_class, character_class, boolean_class}

-- An object of the heap: a text; an object of a class, with its fields, those of the topmost superclass first; or an array of
-- elements that are of a class or, with dimensions, arrays of it.
pub data Object : Type 0 where
  TextObject : (units : List ℕ) → Object
  Instance : (class : ℕ) (fields : List Value) → Object
  ArrayObject : (class dimensions : ℕ) (items : List Value) → Object

-- what a native does with its arguments
pub data NativeEffect : Type 0 where
  -- answers so
  Gives : (values : List Value) → NativeEffect
  -- answers a new object
  Makes : (object : Object) → NativeEffect
  -- sets an object's first field, and answers nothing
  SetsFirst : (object : ℕ) (value : Value) → NativeEffect
  Writes : (bytes : List ℕ) → NativeEffect
  ReadsLine : NativeEffect
  NativeThrows : (exception : BuiltIn) → NativeEffect
  -- an argument is missing or of another kind
  NativeFails : NativeEffect

-- ---- reading arguments

abbrev pub text_in : Option Object → Option (List ℕ)
text_in (Some (TextObject units)) = Some units
text_in (Some (Instance class fields)) = None
text_in (Some (ArrayObject class dimensions items)) = None
text_in None = None

-- the text that a reference names
abbrev pub text_of : List Object → ℕ → Option (List ℕ)
text_of heap r = text_in (slice_get heap r)

abbrev pub given_text : Option (List ℕ) → (List ℕ → NativeEffect) → NativeEffect
given_text (Some units) go = go units
given_text None go = NativeFails

-- a text is wanted; null throws
abbrev pub on_text : List Object → Value → (List ℕ → NativeEffect) → NativeEffect
on_text heap (Ref r) go = given_text (text_of heap r) go
on_text heap Null go = NativeThrows built_in.NullPointerException
on_text heap _ go = NativeFails

-- what a reference is where a text is wanted
pub data TextArgument : Type 0 where
  IsText : (units : List ℕ) → TextArgument
  IsNull : TextArgument
  NoText : TextArgument

abbrev pub as_text : Option (List ℕ) → TextArgument
as_text (Some units) = IsText units
as_text None = NoText

abbrev pub text_argument : List Object → Value → TextArgument
text_argument heap (Ref r) = as_text (text_of heap r)
text_argument heap Null = IsNull
text_argument heap _ = NoText

abbrev pub both_texts : TextArgument → TextArgument → (List ℕ → List ℕ → NativeEffect) → NativeEffect
both_texts (IsText a) (IsText b) go = go a b
both_texts NoText b go = NativeFails
both_texts a NoText go = NativeFails
both_texts a b go = NativeThrows built_in.NullPointerException

-- two texts are wanted; null for one of them throws
abbrev pub on_texts : List Object → Value → Value → (List ℕ → List ℕ → NativeEffect) → NativeEffect
on_texts heap v w go = both_texts (text_argument heap v) (text_argument heap w) go

-- one argument, two, three
abbrev pub on_one : List Value → (Value → NativeEffect) → NativeEffect
on_one (v ∷ []) go = go v
on_one _ go = NativeFails

abbrev pub on_two : List Value → (Value → Value → NativeEffect) → NativeEffect
on_two (v ∷ w ∷ []) go = go v w
on_two _ go = NativeFails

abbrev pub on_three : List Value → (Value → Value → Value → NativeEffect) → NativeEffect
on_three (v ∷ w ∷ x ∷ []) go = go v w x
on_three _ go = NativeFails

abbrev pub on_int : Value → (ℤ → NativeEffect) → NativeEffect
on_int (Int n) go = go n
on_int _ go = NativeFails

abbrev pub on_long : Value → (ℤ → NativeEffect) → NativeEffect
on_long (Long n) go = go n
on_long _ go = NativeFails

-- the first field of an object of a class, whichever it is
abbrev pub instance_in : Option Object → (ℕ → List Value → NativeEffect) → NativeEffect
instance_in (Some (Instance class fields)) go = go class fields
instance_in (Some (TextObject units)) go = NativeFails
instance_in (Some (ArrayObject class dimensions items)) go = NativeFails
instance_in None go = NativeFails

abbrev pub on_instance : List Object → Value → (ℕ → List Value → NativeEffect) → NativeEffect
on_instance heap (Ref r) go = instance_in (slice_get heap r) go
on_instance heap Null go = NativeThrows built_in.NullPointerException
on_instance heap _ go = NativeFails

abbrev pub first_of : List Value → (Value → NativeEffect) → NativeEffect
first_of (v ∷ vs) go = go v
first_of [] go = NativeFails

-- the value in a box
abbrev pub on_box : List Object → Value → (Value → NativeEffect) → NativeEffect
on_box heap v go = on_instance heap v (λ class fields. first_of fields go)

-- ---- answers

abbrev pub truth : Bool → NativeEffect
truth b = Gives (Int (pos (if b then 1 else 0)) ∷ [])

abbrev pub number : ℤ → NativeEffect
number n = Gives (Int n ∷ [])

abbrev pub new_text : List ℕ → NativeEffect
new_text units = Makes (TextObject units)

-- the low 16 bits of a Char
abbrev pub unit_of : ℤ → ℕ
unit_of n = cast_unsigned w32 n % 2 ^ 16

abbrev pub is_true : ℤ → Bool
is_true n = not (int_eq n (pos 0))

abbrev pub bit_of : Bool → ℤ
bit_of b = pos (if b then 1 else 0)

abbrev pub truth_text : Bool → List ℕ
truth_text true = codes "true"
truth_text false = codes "false"

-- a length as an Int, which wraps
abbrev pub as_int : ℕ → ℤ
as_int n = cast_signed w32 (n % 2 ^ 32)

abbrev pub three_way : ℤ → ℤ → ℤ
three_way x y = if int_lt x y then negsuc 0 else (if int_lt y x then pos 1 else pos 0)

-- by the first unit that differs, or by length: -1, 0 or 1
abbrev pub compare_units : List ℕ → List ℕ → ℤ
compare_units [] [] = pos 0
compare_units [] (v ∷ vs) = negsuc 0
compare_units (u ∷ us) [] = pos 1
compare_units (u ∷ us) (v ∷ vs) = if nat_lt u v then negsuc 0 else (if nat_lt v u then pos 1 else compare_units us vs)

-- 31 times what came before, and the unit, wrapping
abbrev pub hash_units : ℤ → List ℕ → ℤ
hash_units h [] = h
hash_units h (u ∷ us) = hash_units (int_wrapping_add w32 (int_wrapping_mul w32 (pos 31) h) (pos u)) us

abbrev pub long_hash : ℤ → ℤ
long_hash x = cast_signed w32 (cast_unsigned w64 (int_bit_xor w64 x (cast_signed w64 (cast_unsigned w64 x / 2 ^ 32))) % 2 ^ 32)

abbrev pub boolean_hash : Bool → ℤ
boolean_hash true = pos 1231
boolean_hash false = pos 1237

abbrev pub dotted : ℕ → ℕ
dotted u = if u == 47 then 46 else u

-- a binary name with dots for `/`
abbrev pub with_dots : List ℕ → List ℕ
with_dots name = map dotted name

abbrev pub name_in : Option ClassView → List ℕ
name_in (Some c) = c.name
name_in None = []

-- a class's binary name
abbrev pub name_of : Set → ℕ → List ℕ
name_of set class = name_in (class_at set class)

abbrev pub plain_text : Set → Option Object → NativeEffect
plain_text set (Some (Instance class fields)) = new_text (with_dots (name_of set class) ++ codes "@0")
plain_text set (Some (ArrayObject class dimensions items)) = new_text (codes "kotlin.Array@0")
plain_text set (Some (TextObject units)) = new_text (codes "java.lang.String@0")
plain_text set None = NativeFails

abbrev pub on_object : List Object → Value → (Option Object → NativeEffect) → NativeEffect
on_object heap (Ref r) go = go (slice_get heap r)
on_object heap Null go = NativeThrows built_in.NullPointerException
on_object heap _ go = NativeFails

-- are the two references one?
abbrev pub same_reference : Value → Value → NativeEffect
same_reference (Ref r) (Ref q) = truth (r == q)
same_reference (Ref r) Null = truth false
same_reference Null v = NativeThrows built_in.NullPointerException
same_reference _ _ = NativeFails

-- what another object is to a text
abbrev pub text_equals : List ℕ → List Object → Value → NativeEffect
text_equals units heap (Ref r) = elim (text_of heap r) [ Some other ↦ truth (is_text units other) | None ↦ truth false ]
text_equals units heap Null = truth false
text_equals units heap _ = NativeFails

-- a text is compared with another; an object of another class throws
abbrev pub text_compares : List ℕ → List Object → Value → NativeEffect
text_compares units heap (Ref r) = elim (text_of heap r) [ Some other ↦ number (compare_units units other) | None ↦ NativeThrows built_in.ClassCastException ]
text_compares units heap Null = NativeThrows built_in.NullPointerException
text_compares units heap _ = NativeFails

-- the value of a box of this class, if the object is one
abbrev pub boxed_in : ℕ → Option Object → Option Value
boxed_in class (Some (Instance other (v ∷ vs))) = if class == other then Some v else None
boxed_in class _ = None

abbrev pub same_number : Value → Value → Bool
same_number (Int x) (Int y) = int_eq x y
same_number (Long x) (Long y) = int_eq x y
same_number _ _ = false

abbrev pub compared : Value → Value → NativeEffect
compared (Int x) (Int y) = number (three_way x y)
compared (Long x) (Long y) = number (three_way x y)
compared _ _ = NativeFails

abbrev pub box_equals : ℕ → List Object → Value → Value → NativeEffect
box_equals class heap v (Ref r) = elim (boxed_in class (slice_get heap r)) [ Some w ↦ truth (same_number v w) | None ↦ truth false ]
box_equals class heap v Null = truth false
box_equals class heap v _ = NativeFails

abbrev pub box_compares : ℕ → List Object → Value → Value → NativeEffect
box_compares class heap v (Ref r) = elim (boxed_in class (slice_get heap r)) [ Some w ↦ compared v w | None ↦ NativeThrows built_in.ClassCastException ]
box_compares class heap v Null = NativeThrows built_in.NullPointerException
box_compares class heap v _ = NativeFails

-- a message's text, if it is not null
abbrev pub with_message : List Object → List ℕ → Value → NativeEffect
with_message heap name (Ref r) = given_text (text_of heap r) (λ message. new_text (name ++ codes ": " ++ message))
with_message heap name Null = new_text name
with_message heap name _ = NativeFails

abbrev pub set_first : List Object → Value → Value → NativeEffect
set_first heap (Ref r) v = instance_in (slice_get heap r) (λ class fields. first_of fields (λ old. SetsFirst r v))
set_first heap Null v = NativeThrows built_in.NullPointerException
set_first heap _ v = NativeFails

abbrev pub is_reference : Value → Bool
is_reference Null = true
is_reference (Ref r) = true
is_reference _ = false

-- the unit at an index, or a throw
abbrev pub unit_at_index : List ℕ → ℤ → NativeEffect
unit_at_index units (pos i) = elim (slice_get units i) [ Some u ↦ number (pos u) | None ↦ NativeThrows built_in.IndexOutOfBoundsException ]
unit_at_index units (negsuc i) = NativeThrows built_in.IndexOutOfBoundsException

abbrev pub part_of : List ℕ → ℤ → ℤ → NativeEffect
part_of units (pos from) (pos to) =
    if nat_le from to && nat_le to (length units) then new_text (take (to - from) (drop from units)) else NativeThrows built_in.IndexOutOfBoundsException
part_of units _ _ = NativeThrows built_in.IndexOutOfBoundsException

-- what a native does with its arguments, the object that it is called on first
unfoldable pub native_effect : Set → NativeId → List Object → List Value → NativeEffect
native_effect set native_is.ObjectInit heap args = on_one args (λ v. on_object heap v (λ o. Gives []))
native_effect set native_is.ObjectEquals heap args = on_two args same_reference
native_effect set native_is.ObjectHashCode heap args = on_one args (λ v. on_object heap v (λ o. number (pos 0)))
native_effect set native_is.ObjectToString heap args = on_one args (λ v. on_object heap v (plain_text set))
native_effect set native_is.StringEquals heap args = on_two args (λ v w. on_text heap v (λ units. text_equals units heap w))
native_effect set native_is.StringHashCode heap args = on_one args (λ v. on_text heap v (λ units. number (hash_units (pos 0) units)))
native_effect set native_is.StringToString heap args = on_one args (λ v. on_text heap v (λ units. Gives (v ∷ [])))
native_effect set native_is.StringCompareTo heap args = on_two args (λ v w. on_text heap v (λ units. text_compares units heap w))
native_effect set native_is.IntegerValueOf heap args = on_one args (λ v. on_int v (λ n. Makes (Instance integer_class (Int n ∷ []))))
native_effect set native_is.IntegerIntValue heap args = on_one args (λ v. on_box heap v (λ b. on_int b number))
native_effect set native_is.IntegerEquals heap args = on_two args (λ v w. on_box heap v (λ b. box_equals integer_class heap b w))
native_effect set native_is.IntegerHashCode heap args = on_one args (λ v. on_box heap v (λ b. on_int b number))
native_effect set native_is.IntegerToString heap args = on_one args (λ v. on_box heap v (λ b. on_int b (λ n. new_text (signed_decimal n))))
native_effect set native_is.IntegerCompareTo heap args = on_two args (λ v w. on_box heap v (λ b. box_compares integer_class heap b w))
native_effect set native_is.LongValueOf heap args = on_one args (λ v. on_long v (λ n. Makes (Instance long_class (Long n ∷ []))))
native_effect set native_is.LongLongValue heap args = on_one args (λ v. on_box heap v (λ b. on_long b (λ n. Gives (Long n ∷ []))))
native_effect set native_is.LongEquals heap args = on_two args (λ v w. on_box heap v (λ b. box_equals long_class heap b w))
native_effect set native_is.LongHashCode heap args = on_one args (λ v. on_box heap v (λ b. on_long b (λ n. number (long_hash n))))
native_effect set native_is.LongToString heap args = on_one args (λ v. on_box heap v (λ b. on_long b (λ n. new_text (signed_decimal n))))
native_effect set native_is.LongCompareTo heap args = on_two args (λ v w. on_box heap v (λ b. box_compares long_class heap b w))
native_effect set native_is.CharacterValueOf heap args = on_one args (λ v. on_int v (λ n. Makes (Instance character_class (Int (pos (unit_of n)) ∷ []))))
native_effect set native_is.CharacterCharValue heap args = on_one args (λ v. on_box heap v (λ b. on_int b number))
native_effect set native_is.CharacterEquals heap args = on_two args (λ v w. on_box heap v (λ b. box_equals character_class heap b w))
native_effect set native_is.CharacterHashCode heap args = on_one args (λ v. on_box heap v (λ b. on_int b number))
native_effect set native_is.CharacterToString heap args = on_one args (λ v. on_box heap v (λ b. on_int b (λ n. new_text (unit_of n ∷ []))))
native_effect set native_is.CharacterCompareTo heap args = on_two args (λ v w. on_box heap v (λ b. box_compares character_class heap b w))
native_effect set native_is.BooleanValueOf heap args = on_one args (λ v. on_int v (λ n. Makes (Instance boolean_class (Int (bit_of (is_true n)) ∷ []))))
native_effect set native_is.BooleanBooleanValue heap args = on_one args (λ v. on_box heap v (λ b. on_int b number))
native_effect set native_is.BooleanEquals heap args = on_two args (λ v w. on_box heap v (λ b. box_equals boolean_class heap b w))
native_effect set native_is.BooleanHashCode heap args = on_one args (λ v. on_box heap v (λ b. on_int b (λ n. number (boolean_hash (is_true n)))))
native_effect set native_is.BooleanToString heap args = on_one args (λ v. on_box heap v (λ b. on_int b (λ n. new_text (truth_text (is_true n)))))
native_effect set native_is.BooleanCompareTo heap args = on_two args (λ v w. on_box heap v (λ b. box_compares boolean_class heap b w))
native_effect set native_is.ThrowableInit heap args = on_one args (λ v. set_first heap v Null)
native_effect set native_is.ThrowableInitMessage heap args = on_two args (λ v w. if is_reference w then set_first heap v w else NativeFails)
native_effect set native_is.ThrowableGetMessage heap args = on_one args (λ v. on_box heap v (λ b. Gives (b ∷ [])))
native_effect set native_is.ThrowableToString heap args = on_one args (λ v. on_instance heap v (λ class fields. first_of fields (λ b. with_message heap (with_dots (name_of set class)) b)))
native_effect set native_is.ConsoleWrite heap args = on_one args (λ v. on_text heap v (λ units. Writes (utf8_of units)))
native_effect set native_is.ConsoleReadLine heap [] = ReadsLine
native_effect set native_is.ConsoleReadLine heap (v ∷ vs) = NativeFails
native_effect set native_is.TextsLength heap args = on_one args (λ v. on_text heap v (λ units. number (as_int (length units))))
native_effect set native_is.TextsCharAt heap args = on_two args (λ v w. on_int w (λ i. on_text heap v (λ units. unit_at_index units i)))
native_effect set native_is.TextsConcat heap args = on_two args (λ v w. on_texts heap v w (λ first second. new_text (first ++ second)))
native_effect set native_is.TextsSubstring heap args = on_three args (λ v w x. on_int w (λ from. on_int x (λ to. on_text heap v (λ units. part_of units from to))))
native_effect set native_is.TextsCompare heap args = on_two args (λ v w. on_texts heap v w (λ first second. number (compare_units first second)))
native_effect set native_is.TextsOfInt heap args = on_one args (λ v. on_int v (λ n. new_text (signed_decimal n)))
native_effect set native_is.TextsOfLong heap args = on_one args (λ v. on_long v (λ n. new_text (signed_decimal n)))
native_effect set native_is.TextsOfChar heap args = on_one args (λ v. on_int v (λ n. new_text (unit_of n ∷ [])))
native_effect set native_is.TextsOfBoolean heap args = on_one args (λ v. on_int v (λ n. new_text (truth_text (is_true n))))
native_effect set native_is.UnitToString heap args = on_one args (λ v. on_object heap v (λ o. new_text (codes "kotlin.Unit")))

-- ---- reading a line

-- the bytes before the first line feed, all where there is none
abbrev pub before_line_feed : List ℕ → List ℕ
before_line_feed [] = []
before_line_feed (b ∷ bs) = if b == 10 then [] else b ∷ before_line_feed bs

abbrev pub without_last_return : List ℕ → List ℕ
without_last_return [] = []
without_last_return (b ∷ []) = if b == 13 then [] else b ∷ []
without_last_return (b ∷ c ∷ bs) = b ∷ without_last_return (c ∷ bs)

-- the most bytes of one line
abbrev pub line_limit : ℕ
line_limit = 1048576

-- the bytes of the first line, without what ends it, and what is left behind it
pub record Line : Type 0 where
  pub bytes : List ℕ
  pub rest : List ℕ

abbrev pub cut_line : List ℕ → List ℕ → Line
cut_line input front =
    if nat_lt (length (before_line_feed front)) (length front)
    then record { bytes = without_last_return (before_line_feed front); rest = drop (length (before_line_feed front) + 1) input }
    else record { bytes = front; rest = drop (length front) input }

-- A line ends behind a line feed, at the end of the input, or behind the most bytes of a line. The line feed and one carriage
-- return before it don't belong to it. Where nothing is left there is no line.
unfoldable pub first_line : List ℕ → Option Line
first_line [] = None
first_line (b ∷ bs) = Some (cut_line (b ∷ bs) (take line_limit (b ∷ bs)))

-- a character, and how many bytes its UTF-8 takes
pub record Character : Type 0 where
  pub code : ℕ
  pub length : ℕ

abbrev pub continues : ℕ → Bool
continues b = nat_le 128 b && nat_lt b 192

abbrev pub character_if : Bool → ℕ → ℕ → Option Character
character_if true code length = Some (record { code = code; length = length })
character_if false code length = None

abbrev pub is_surrogate : ℕ → Bool
is_surrogate code = nat_le 55296 code && nat_lt code 57344

abbrev pub two_bytes : ℕ → ℕ → Option Character
two_bytes b c = character_if (nat_le 194 b && nat_lt b 224 && continues c) ((b - 192) * 64 + (c - 128)) 2

abbrev pub three_bytes : ℕ → ℕ → ℕ → Option Character
three_bytes b c d =
    let code = (b - 224) * 4096 + (c - 128) * 64 + (d - 128) in
    character_if (nat_le 224 b && nat_lt b 240 && continues c && continues d && nat_le 2048 code && not (is_surrogate code)) code 3

abbrev pub four_bytes : ℕ → ℕ → ℕ → ℕ → Option Character
four_bytes b c d e =
    let code = (b - 240) * 262144 + (c - 128) * 4096 + (d - 128) * 64 + (e - 128) in
    character_if (nat_le 240 b && nat_lt b 245 && continues c && continues d && continues e && nat_le 65536 code && nat_le code 1114111) code 4

abbrev pub or_longer : Option Character → Option Character → Option Character
or_longer (Some c) o = Some c
or_longer None o = o

-- the character whose UTF-8 begins these bytes
abbrev pub first_character : List ℕ → Option Character
first_character [] = None
first_character (b ∷ []) = character_if (nat_lt b 128) b 1
first_character (b ∷ c ∷ []) = or_longer (character_if (nat_lt b 128) b 1) (two_bytes b c)
first_character (b ∷ c ∷ d ∷ []) = or_longer (character_if (nat_lt b 128) b 1) (or_longer (two_bytes b c) (three_bytes b c d))
first_character (b ∷ c ∷ d ∷ e ∷ bs) =
    or_longer (character_if (nat_lt b 128) b 1) (or_longer (two_bytes b c) (or_longer (three_bytes b c d) (four_bytes b c d e)))

abbrev pub units_then : Option Character → List ℕ → (List ℕ → List ℕ) → List ℕ
units_then (Some c) bytes more = encode_utf16 c.code ++ more (drop c.length bytes)
units_then None bytes more = 65533 ∷ more (drop 1 bytes)

abbrev pub decode_up_to : ℕ → List ℕ → List ℕ
decode_up_to n [] = []
decode_up_to zero (b ∷ bs) = []
decode_up_to (suc n) (b ∷ bs) = units_then (first_character (b ∷ bs)) (b ∷ bs) (decode_up_to n)

-- the text of some bytes: where no character's UTF-8 begins, a byte gives U+FFFD
unfoldable pub text_of_bytes : List ℕ → List ℕ
text_of_bytes bytes = decode_up_to (length bytes) bytes
