-- The built-in classes, and how classes, fields and methods are found by name
-- (Java Virtual Machine Specification SE 8, 4.1, 4.5, 4.6, 5.4.3 and 5.4.6).
use Rattle.std.specs.Prelude.{ℕ, zero, suc, ◌+◌, ◌-◌, List, [], ◌∷◌, ◌++◌, length, map, Option, Some, None, Bool, true, false, not, ◌&&◌, ◌||◌, ◌==◌, nat_lt, if◌then◌else◌, slice_get, position, bit_and, codes, pos}
use Rattle.std.specs.List.{list_any, list_all, filter, find}
use Rattle.std.specs.Option.{option_map}
use Rattle.class_file.specs.declared.value.Value.{Value}
use Rattle.class_file.specs.declared.value.Value.TheVariants.{Nothing, Int, Long, Null, Ref}
use Rattle.class_file.specs.declared.value.BuiltIn.{BuiltIn}
use Rattle.class_file.specs.declared.value.BuiltIn.TheVariants as built_in
use Rattle.class_file.specs.declared.value.NativeId.{NativeId}
use Rattle.class_file.specs.declared.value.NativeId.TheVariants as native_is
use Rattle.class_file.specs.declared.class.ClassFile.{ClassFile}
use Rattle.class_file.specs.declared.class.Field.{Field}
use Rattle.class_file.specs.declared.class.Method.{Method}
use Rattle.class_file.specs.declared.class.Set.{Set}
use Rattle.class_file.specs.Pools.{is_text}
use Rattle.class_file.specs.Descriptors.{FieldType, IntType, CharType, BooleanType, LongType, Reference, field_type}

-- ---- classes, whether built in or of a set

-- how a method runs: by its code, in a class of the set, both by their places there; by the run-time system; or not at all
pub data Body : Type 0 where
  Coded : (class method : ℕ) → Body
  Native : (id : NativeId) → Body
  NoBody : Body

pub record MethodView : Type 0 where
  pub name : List ℕ
  pub descriptor : List ℕ
  pub is_static : Bool
  pub body : Body

-- a field, and what it holds at first
pub record FieldView : Type 0 where
  pub name : List ℕ
  pub descriptor : List ℕ
  pub is_static : Bool
  pub initial : Value

-- A class or interface. `hidden` are the fields of an object that no name reaches: a box's value, a Throwable's message.
pub record ClassView : Type 0 where
  pub name : List ℕ
  pub super : Option (List ℕ)
  pub interfaces : List (List ℕ)
  pub is_interface : Bool
  pub is_abstract : Bool
  pub hidden : List Value
  pub fields : List FieldView
  pub methods : List MethodView

-- ---- the built-in classes

abbrev pub object_name : List ℕ
object_name = codes "java/lang/Object"

abbrev pub native : List ℕ → List ℕ → NativeId → MethodView
native name descriptor id = record { name = name; descriptor = descriptor; is_static = false; body = Native id }

abbrev pub native_static : List ℕ → List ℕ → NativeId → MethodView
native_static name descriptor id = record { name = name; descriptor = descriptor; is_static = true; body = Native id }

abbrev pub abstract_method : List ℕ → List ℕ → MethodView
abstract_method name descriptor = record { name = name; descriptor = descriptor; is_static = false; body = NoBody }

-- a class that is no interface and has no fields
abbrev pub plain_class : List ℕ → Option (List ℕ) → List (List ℕ) → List Value → List MethodView → ClassView
plain_class name super interfaces hidden methods =
    record { name = name; super = super; interfaces = interfaces; is_interface = false; is_abstract = false; hidden = hidden; fields = []; methods = methods }

abbrev pub interface : List ℕ → List MethodView → ClassView
interface name methods =
    record { name = name; super = Some object_name; interfaces = []; is_interface = true; is_abstract = true; hidden = []; fields = []; methods = methods }

-- the methods of Object that a class has of its own
abbrev pub own_basics : NativeId → NativeId → NativeId → List MethodView
own_basics equals hash text =
    native (codes "equals") (codes "(Ljava/lang/Object;)Z") equals
    ∷ native (codes "hashCode") (codes "()I") hash
    ∷ native (codes "toString") (codes "()Ljava/lang/String;") text ∷ []

abbrev pub comparing : NativeId → MethodView
comparing id = native (codes "compareTo") (codes "(Ljava/lang/Object;)I") id

-- a box of a value
abbrev pub box : List ℕ → Value → MethodView → MethodView → List MethodView → NativeId → ClassView
box name initial makes reads basics compares =
    plain_class name (Some object_name) (codes "java/lang/Comparable" ∷ []) (initial ∷ []) (makes ∷ reads ∷ comparing compares ∷ basics)

abbrev pub exception_inits : List MethodView
exception_inits =
    native (codes "<init>") (codes "()V") native_is.ThrowableInit
    ∷ native (codes "<init>") (codes "(Ljava/lang/String;)V") native_is.ThrowableInitMessage ∷ []

abbrev pub exception : List ℕ → List ℕ → ClassView
exception name super = plain_class name (Some super) [] [] exception_inits

abbrev pub invoke_descriptor : ℕ → List ℕ
invoke_descriptor zero = codes ")Ljava/lang/Object;"
invoke_descriptor (suc n) = codes "Ljava/lang/Object;" ++ invoke_descriptor n

-- the interface of functions with so many parameters, of which there are 0 to 8
abbrev pub function_class : ℕ → ClassView
function_class n = interface (codes "kotlin/Function" ++ (48 + n) ∷ []) (abstract_method (codes "invoke") (40 ∷ invoke_descriptor n) ∷ [])

abbrev pub no_fields : List FieldView
no_fields = []

abbrev pub texts_natives : List MethodView
texts_natives =
    native_static (codes "length") (codes "(Ljava/lang/String;)I") native_is.TextsLength
    ∷ native_static (codes "charAt") (codes "(Ljava/lang/String;I)C") native_is.TextsCharAt
    ∷ native_static (codes "concat") (codes "(Ljava/lang/String;Ljava/lang/String;)Ljava/lang/String;") native_is.TextsConcat
    ∷ native_static (codes "substring") (codes "(Ljava/lang/String;II)Ljava/lang/String;") native_is.TextsSubstring
    ∷ native_static (codes "compare") (codes "(Ljava/lang/String;Ljava/lang/String;)I") native_is.TextsCompare
    ∷ native_static (codes "ofInt") (codes "(I)Ljava/lang/String;") native_is.TextsOfInt
    ∷ native_static (codes "ofLong") (codes "(J)Ljava/lang/String;") native_is.TextsOfLong
    ∷ native_static (codes "ofChar") (codes "(C)Ljava/lang/String;") native_is.TextsOfChar
    ∷ native_static (codes "ofBoolean") (codes "(Z)Ljava/lang/String;") native_is.TextsOfBoolean ∷ []

-- Unit's one object is the first object of every run
abbrev pub unit_class : ClassView
unit_class = record {
  name = codes "kotlin/Unit";
  super = Some object_name;
  interfaces = [];
  is_interface = false;
  is_abstract = false;
  hidden = [];
  fields = record { name = codes "INSTANCE"; descriptor = codes "Lkotlin/Unit;"; is_static = true; initial = Ref 0 } ∷ [];
  methods = native (codes "toString") (codes "()Ljava/lang/String;") native_is.UnitToString ∷ [];
}

-- in the order of their numbers
unfoldable pub built_ins : List ClassView
built_ins =
    plain_class object_name None [] [] (native (codes "<init>") (codes "()V") native_is.ObjectInit ∷ own_basics native_is.ObjectEquals native_is.ObjectHashCode native_is.ObjectToString)
    ∷ plain_class (codes "java/lang/String") (Some object_name) (codes "java/lang/Comparable" ∷ []) [] (comparing native_is.StringCompareTo ∷ own_basics native_is.StringEquals native_is.StringHashCode native_is.StringToString)
    ∷ box (codes "java/lang/Integer") (Int (pos 0)) (native_static (codes "valueOf") (codes "(I)Ljava/lang/Integer;") native_is.IntegerValueOf) (native (codes "intValue") (codes "()I") native_is.IntegerIntValue) (own_basics native_is.IntegerEquals native_is.IntegerHashCode native_is.IntegerToString) native_is.IntegerCompareTo
    ∷ box (codes "java/lang/Long") (Long (pos 0)) (native_static (codes "valueOf") (codes "(J)Ljava/lang/Long;") native_is.LongValueOf) (native (codes "longValue") (codes "()J") native_is.LongLongValue) (own_basics native_is.LongEquals native_is.LongHashCode native_is.LongToString) native_is.LongCompareTo
    ∷ box (codes "java/lang/Character") (Int (pos 0)) (native_static (codes "valueOf") (codes "(C)Ljava/lang/Character;") native_is.CharacterValueOf) (native (codes "charValue") (codes "()C") native_is.CharacterCharValue) (own_basics native_is.CharacterEquals native_is.CharacterHashCode native_is.CharacterToString) native_is.CharacterCompareTo
    ∷ box (codes "java/lang/Boolean") (Int (pos 0)) (native_static (codes "valueOf") (codes "(Z)Ljava/lang/Boolean;") native_is.BooleanValueOf) (native (codes "booleanValue") (codes "()Z") native_is.BooleanBooleanValue) (own_basics native_is.BooleanEquals native_is.BooleanHashCode native_is.BooleanToString) native_is.BooleanCompareTo
    ∷ interface (codes "java/lang/Comparable") (abstract_method (codes "compareTo") (codes "(Ljava/lang/Object;)I") ∷ [])
    ∷ plain_class (codes "java/lang/Throwable") (Some object_name) [] (Null ∷ []) (native (codes "getMessage") (codes "()Ljava/lang/String;") native_is.ThrowableGetMessage ∷ native (codes "toString") (codes "()Ljava/lang/String;") native_is.ThrowableToString ∷ exception_inits)
    ∷ exception (codes "java/lang/Exception") (codes "java/lang/Throwable")
    ∷ exception (codes "java/lang/Error") (codes "java/lang/Throwable")
    ∷ exception (codes "java/lang/RuntimeException") (codes "java/lang/Exception")
    ∷ exception (codes "java/lang/IllegalArgumentException") (codes "java/lang/RuntimeException")
    ∷ exception (codes "java/lang/NumberFormatException") (codes "java/lang/IllegalArgumentException")
    ∷ exception (codes "java/lang/IllegalStateException") (codes "java/lang/RuntimeException")
    ∷ exception (codes "java/lang/UnsupportedOperationException") (codes "java/lang/RuntimeException")
    ∷ exception (codes "java/lang/ArithmeticException") (codes "java/lang/RuntimeException")
    ∷ exception (codes "java/lang/NullPointerException") (codes "java/lang/RuntimeException")
    ∷ exception (codes "java/lang/ClassCastException") (codes "java/lang/RuntimeException")
    ∷ exception (codes "java/lang/IndexOutOfBoundsException") (codes "java/lang/RuntimeException")
    ∷ exception (codes "java/lang/ArrayIndexOutOfBoundsException") (codes "java/lang/IndexOutOfBoundsException")
    ∷ exception (codes "java/lang/ArrayStoreException") (codes "java/lang/RuntimeException")
    ∷ exception (codes "java/lang/NegativeArraySizeException") (codes "java/lang/RuntimeException")
    ∷ exception (codes "java/lang/IncompatibleClassChangeError") (codes "java/lang/Error")
    ∷ exception (codes "java/lang/AbstractMethodError") (codes "java/lang/IncompatibleClassChangeError")
    ∷ exception (codes "java/util/NoSuchElementException") (codes "java/lang/RuntimeException")
    ∷ plain_class (codes "kprof/rt/Console") (Some object_name) [] [] (native_static (codes "write") (codes "(Ljava/lang/String;)V") native_is.ConsoleWrite ∷ native_static (codes "readLine") (codes "()Ljava/lang/String;") native_is.ConsoleReadLine ∷ [])
    ∷ plain_class (codes "kprof/rt/Texts") (Some object_name) [] [] texts_natives
    ∷ unit_class
    ∷ map function_class (0 ∷ 1 ∷ 2 ∷ 3 ∷ 4 ∷ 5 ∷ 6 ∷ 7 ∷ 8 ∷ [])

-- how many there are; the classes of a set are numbered behind them
abbrev pub built_in_count : ℕ
built_in_count = 37

-- the numbers of some
abbrev pub object_class : ℕ
object_class = 0

abbrev pub string_class : ℕ
string_class = 1

abbrev pub integer_class : ℕ
integer_class = 2

abbrev pub long_class : ℕ
long_class = 3

abbrev pub character_class : ℕ
character_class = 4

abbrev pub boolean_class : ℕ
boolean_class = 5

abbrev pub throwable_class : ℕ
throwable_class = 7

abbrev pub console_class : ℕ
console_class = 25

abbrev pub texts_class : ℕ
texts_class = 26

abbrev pub unit_number : ℕ
unit_number = 27

abbrev pub exception_number : BuiltIn → ℕ
exception_number built_in.Throwable = 7
exception_number built_in.Exception = 8
exception_number built_in.Error = 9
exception_number built_in.RuntimeException = 10
exception_number built_in.IllegalArgumentException = 11
exception_number built_in.NumberFormatException = 12
exception_number built_in.IllegalStateException = 13
exception_number built_in.UnsupportedOperationException = 14
exception_number built_in.ArithmeticException = 15
exception_number built_in.NullPointerException = 16
exception_number built_in.ClassCastException = 17
exception_number built_in.IndexOutOfBoundsException = 18
exception_number built_in.ArrayIndexOutOfBoundsException = 19
exception_number built_in.ArrayStoreException = 20
exception_number built_in.NegativeArraySizeException = 21
exception_number built_in.IncompatibleClassChangeError = 22
exception_number built_in.AbstractMethodError = 23
exception_number built_in.NoSuchElementException = 24

-- ---- the classes of a set as the built-in ones

abbrev pub has_flag : ℕ → ℕ → Bool
has_flag bit flags = not (bit_and flags bit == 0)

abbrev pub is_static_flag : ℕ → Bool
is_static_flag flags = has_flag 8 flags

abbrev pub is_interface_flag : ℕ → Bool
is_interface_flag flags = has_flag 512 flags

abbrev pub is_abstract_flag : ℕ → Bool
is_abstract_flag flags = has_flag 1024 flags

-- what a field or an array's element of this type holds at first
abbrev pub initial_value : Option FieldType → Value
initial_value (Some LongType) = Long (pos 0)
initial_value (Some (Reference name)) = Null
initial_value (Some IntType) = Int (pos 0)
initial_value (Some CharType) = Int (pos 0)
initial_value (Some BooleanType) = Int (pos 0)
initial_value None = Nothing

abbrev pub field_view : Field → FieldView
field_view f = record { name = f.name; descriptor = f.descriptor; is_static = is_static_flag f.flags; initial = initial_value (field_type f.descriptor) }

abbrev pub method_view : ℕ → ℕ → Method → MethodView
method_view class place m = record {
  name = m.name;
  descriptor = m.descriptor;
  is_static = is_static_flag m.flags;
  body = if is_abstract_flag m.flags then NoBody else Coded class place;
}

abbrev pub method_views : ℕ → ℕ → List Method → List MethodView
method_views class place [] = []
method_views class place (m ∷ ms) = method_view class place m ∷ method_views class (place + 1) ms

-- the class at a place of the set
abbrev pub class_view : ℕ → ClassFile → ClassView
class_view place c = record {
  name = c.this_name;
  super = Some c.super_name;
  interfaces = c.interfaces;
  is_interface = is_interface_flag c.flags;
  is_abstract = is_abstract_flag c.flags;
  hidden = [];
  fields = map field_view c.fields;
  methods = method_views place 0 c.methods;
}

abbrev pub viewed : ℕ → Option ClassFile → Option ClassView
viewed place (Some c) = Some (class_view place c)
viewed place None = None

-- the class of a number
abbrev pub class_at : Set → ℕ → Option ClassView
class_at set n =
    if nat_lt n built_in_count then slice_get built_ins n else viewed (n - built_in_count) (slice_get set.classes (n - built_in_count))

abbrev pub number_of_place : ℕ → ℕ
number_of_place place = built_in_count + place

-- the place of the set's class of this name
abbrev pub class_named : List ℕ → List ClassFile → Option ℕ
class_named name classes = position (λ c. is_text c.this_name name) classes

abbrev pub or_else : Option ℕ → Option ℕ → Option ℕ
or_else (Some n) o = Some n
or_else None o = o

-- the number of the class of this name, a built-in one before one of the set
abbrev pub class_number : Set → List ℕ → Option ℕ
class_number set name =
    or_else (position (λ c. is_text c.name name) built_ins) (option_map number_of_place (class_named name set.classes))

-- how many classes there are
abbrev pub class_count : Set → ℕ
class_count set = built_in_count + length set.classes

-- ---- supertypes

abbrev pub number_in : Set → Option (List ℕ) → Option ℕ
number_in set None = None
number_in set (Some name) = class_number set name

abbrev pub superclass_in : Set → Option ClassView → Option ℕ
superclass_in set None = None
superclass_in set (Some c) = number_in set c.super

abbrev pub superclass : Set → ℕ → Option ℕ
superclass set n = superclass_in set (class_at set n)

abbrev pub numbers : Set → List (List ℕ) → List ℕ
numbers set [] = []
numbers set (name ∷ names) = elim (class_number set name) [ Some n ↦ n ∷ numbers set names | None ↦ numbers set names ]

abbrev pub interfaces_in : Set → Option ClassView → List ℕ
interfaces_in set None = []
interfaces_in set (Some c) = numbers set c.interfaces

abbrev pub interfaces_of : Set → ℕ → List ℕ
interfaces_of set n = interfaces_in set (class_at set n)

abbrev pub or_none : {A : Type 0} → Option ℕ → (ℕ → List A) → List A
or_none None go = []
or_none (Some n) go = go n

-- a class and its superclasses, itself first, at most so many
abbrev pub chain_up_to : ℕ → Set → ℕ → List ℕ
chain_up_to zero set n = []
chain_up_to (suc k) set n = n ∷ or_none (superclass set n) (chain_up_to k set)

-- a class and its superclasses, itself first
abbrev pub chain : Set → ℕ → List ℕ
chain set n = n ∷ or_none (superclass set n) (chain_up_to (class_count set) set)

abbrev pub concat_map : (ℕ → List ℕ) → List ℕ → List ℕ
concat_map f [] = []
concat_map f (n ∷ ns) = f n ++ concat_map f ns

-- a class, its interfaces' supertypes and its superclass's ones, up to so many steps away
abbrev pub supertypes_up_to : ℕ → Set → ℕ → List ℕ
supertypes_up_to zero set n = n ∷ []
supertypes_up_to (suc k) set n =
    n ∷ concat_map (supertypes_up_to k set) (interfaces_of set n) ++ or_none (superclass set n) (supertypes_up_to k set)

-- all classes and interfaces above a class, itself among them; one that is reached in several ways stands there so often
abbrev pub supertypes : Set → ℕ → List ℕ
supertypes set n =
    n ∷ concat_map (supertypes_up_to (class_count set) set) (interfaces_of set n)
    ++ or_none (superclass set n) (supertypes_up_to (class_count set) set)

abbrev pub is_in : ℕ → List ℕ → Bool
is_in n ns = list_any (λ m. m == n) ns

-- a is b or a class or interface below it
abbrev pub is_below : Set → ℕ → ℕ → Bool
is_below set a b = is_in b (supertypes set a)

-- ---- members

abbrev pub is_method : Bool → List ℕ → List ℕ → MethodView → Bool
is_method static name descriptor m =
    (if static then m.is_static else not m.is_static) && (is_text m.name name && is_text m.descriptor descriptor)

abbrev pub methods_in : Option ClassView → List MethodView
methods_in (Some c) = c.methods
methods_in None = []

-- a class's own method, static or not as it is asked for
abbrev pub own_method : Set → Bool → List ℕ → List ℕ → ℕ → Option MethodView
own_method set static name descriptor n = find (is_method static name descriptor) (methods_in (class_at set n))

-- a method and the class that declares it, by its number
pub record FoundMethod : Type 0 where
  pub class : ℕ
  pub method : MethodView

abbrev pub found_in : ℕ → Option MethodView → Option FoundMethod → Option FoundMethod
found_in n (Some m) more = Some (record { class = n; method = m })
found_in n None more = more

-- the first of these classes that has the method
abbrev pub first_method : Set → Bool → List ℕ → List ℕ → List ℕ → Option FoundMethod
first_method set static name descriptor [] = None
first_method set static name descriptor (n ∷ ns) =
    found_in n (own_method set static name descriptor n) (first_method set static name descriptor ns)

-- The method that a reference names: in the class and its superclasses, then in all its interfaces. A constructor is looked for
-- in the class alone.
abbrev pub named_method : Set → Bool → List ℕ → List ℕ → ℕ → Option FoundMethod
named_method set static name descriptor n =
    first_method set static name descriptor (if is_text name (codes "<init>") then n ∷ [] else chain set n ++ supertypes set n)

-- the names of constructors and initialisers
abbrev pub is_special_name : List ℕ → Bool
is_special_name [] = false
is_special_name (u ∷ us) = u == 60

-- the class in which a method of this name is looked for: an array has the methods of Object, but no constructor
abbrev pub owner_number : Set → List ℕ → List ℕ → Option ℕ
owner_number set [] name = class_number set []
owner_number set (u ∷ us) name = if u == 91 then (if is_special_name name then None else Some object_class) else class_number set (u ∷ us)

abbrev pub is_field : Bool → List ℕ → List ℕ → FieldView → Bool
is_field static name descriptor f =
    (if static then f.is_static else not f.is_static) && (is_text f.name name && is_text f.descriptor descriptor)

abbrev pub fields_in : Option ClassView → List FieldView
fields_in (Some c) = c.fields
fields_in None = []

abbrev pub hidden_in : Option ClassView → List Value
hidden_in (Some c) = c.hidden
hidden_in None = []

abbrev pub static_fields : Set → ℕ → List FieldView
static_fields set n = filter (λ f. f.is_static) (fields_in (class_at set n))

abbrev pub object_fields : Set → ℕ → List FieldView
object_fields set n = filter (λ f. not f.is_static) (fields_in (class_at set n))

-- a field by the class that declares it and its place among that class's static fields, or among its objects' fields
pub record FoundField : Type 0 where
  pub class : ℕ
  pub place : ℕ
  pub descriptor : List ℕ

abbrev pub own_fields : Set → Bool → ℕ → List FieldView
own_fields set true n = static_fields set n
own_fields set false n = object_fields set n

abbrev pub field_at : ℕ → List ℕ → Option ℕ → Option FoundField → Option FoundField
field_at n descriptor (Some place) more = Some (record { class = n; place = place; descriptor = descriptor })
field_at n descriptor None more = more

abbrev pub first_field : Set → Bool → List ℕ → List ℕ → List ℕ → Option FoundField
first_field set static name descriptor [] = None
first_field set static name descriptor (n ∷ ns) =
    field_at n descriptor (position (is_field static name descriptor) (own_fields set static n)) (first_field set static name descriptor ns)

-- the field that a reference names: in the class, then in all its supertypes
abbrev pub named_field : Set → Bool → List ℕ → List ℕ → ℕ → Option FoundField
named_field set static name descriptor n = first_field set static name descriptor (supertypes set n)

-- what the fields of a class's objects hold at first that the class itself declares
abbrev pub own_layout : Set → ℕ → List Value
own_layout set n = hidden_in (class_at set n) ++ map (λ f. f.initial) (object_fields set n)

abbrev pub layouts : Set → List ℕ → List Value
layouts set [] = []
layouts set (n ∷ ns) = layouts set ns ++ own_layout set n

-- what the fields of a new object hold: those that the topmost superclass declares come first
abbrev pub layout : Set → ℕ → List Value
layout set n = layouts set (chain set n)

-- where the objects of a class and of its subclasses have the field at this place of the class's own
abbrev pub field_place : Set → ℕ → ℕ → ℕ
field_place set class place = length (layout set class) - length (object_fields set class) + place

-- ---- selection (5.4.6 and 5.4.3.3)

pub data Selected : Type 0 where
  Selects : (found : FoundMethod) → Selected
  Abstract : Selected
  Conflict : Selected

abbrev pub has_body : MethodView → Bool
has_body m = elim m.body [ Coded class method ↦ true | Native id ↦ true | NoBody ↦ false ]

abbrev pub one_with_body : FoundMethod → Selected
one_with_body f = if has_body f.method then Selects f else Abstract

-- the interfaces among these that have the method
abbrev pub declaring : Set → List ℕ → List ℕ → List ℕ → List ℕ
declaring set name descriptor ns =
    filter (λ n. elim (own_method set false name descriptor n) [ Some m ↦ true | None ↦ false ]) ns

-- no other one of these stands below it
abbrev pub is_lowest : Set → List ℕ → ℕ → Bool
is_lowest set ns n = list_all (λ m. m == n || not (is_below set m n)) ns

-- each number once
abbrev pub once : List ℕ → List ℕ
once [] = []
once (n ∷ ns) = if is_in n ns then once ns else n ∷ once ns

abbrev pub the_one : List FoundMethod → Selected
the_one [] = Abstract
the_one (f ∷ []) = Selects f
the_one (f ∷ g ∷ fs) = Conflict

abbrev pub with_body : Set → List ℕ → List ℕ → List ℕ → List FoundMethod
with_body set name descriptor [] = []
with_body set name descriptor (n ∷ ns) = elim (own_method set false name descriptor n) [
  | Some m ↦ if has_body m then record { class = n; method = m } ∷ with_body set name descriptor ns else with_body set name descriptor ns
  | None ↦ with_body set name descriptor ns
]

abbrev pub among_interfaces : Set → List ℕ → List ℕ → List ℕ → Selected
among_interfaces set name descriptor ns = the_one (with_body set name descriptor (filter (is_lowest set ns) ns))

abbrev pub chosen : Set → List ℕ → List ℕ → ℕ → Option FoundMethod → Selected
chosen set name descriptor n (Some f) = one_with_body f
chosen set name descriptor n None = among_interfaces set name descriptor (once (declaring set name descriptor (supertypes set n)))

-- The method that runs for an object of a class: the first one of the class and its superclasses; where there is none, the one
-- method with a body of those interfaces that no interface below them replaces. Static methods don't count.
abbrev pub select : Set → ℕ → List ℕ → List ℕ → Selected
select set n name descriptor = chosen set name descriptor n (first_method set false name descriptor (chain set n))

-- ---- arrays

-- what an array's elements are: of a class or, with dimensions, arrays of it
pub record Element : Type 0 where
  pub class : ℕ
  pub dimensions : ℕ

abbrev pub without_last : List ℕ → List ℕ
without_last [] = []
without_last (u ∷ []) = []
without_last (u ∷ v ∷ vs) = u ∷ without_last (v ∷ vs)

abbrev pub element_of_class : Option ℕ → ℕ → Option Element
element_of_class None dimensions = None
element_of_class (Some n) dimensions = Some (record { class = n; dimensions = dimensions })

-- behind so many `[`: more of them, or `L` with a class's name and `;`
abbrev pub array_name : Set → ℕ → List ℕ → Option Element
array_name set dimensions [] = None
array_name set dimensions (u ∷ us) =
    if u == 91 then array_name set (dimensions + 1) us else element_of_class (class_number set (without_last us)) dimensions

abbrev pub described_array : Set → List ℕ → Option FieldType → Option Element
described_array set us None = None
described_array set us (Some t) = array_name set 1 us

-- what a Class entry's name stands for: an array, whose name is its descriptor, as its element with one dimension more
abbrev pub named_type : Set → List ℕ → Option Element
named_type set [] = element_of_class (class_number set []) 0
named_type set (u ∷ us) = if u == 91 then described_array set us (field_type (u ∷ us)) else element_of_class (class_number set (u ∷ us)) 0

-- ---- new objects

abbrev pub is_concrete : Option ClassView → Bool
is_concrete (Some c) = not c.is_abstract && not c.is_interface
is_concrete None = false

-- Can an object of the class be made? No constructor of String is there, and none of a class below it returns.
abbrev pub can_be_made : Set → ℕ → Bool
can_be_made set n = not (is_below set n string_class) && is_concrete (class_at set n)
