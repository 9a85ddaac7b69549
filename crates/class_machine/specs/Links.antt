-- The links of a set are what its places and names stand for.
use Rattle.std.specs.Prelude.{◌≡◌, ℕ, ℤ, ◌+◌, ◌==◌, List, [], ◌∷◌, ◌++◌, length, replicate, map, position, Bool, false, if◌then◌else◌, Option, Some, None, slice_get, codes}
use Rattle.std.specs.List.{find}
use Rattle.std.specs.Option.{option_map}
use Rattle.class_file.specs.declared.pool.Entry.{Entry}
use Rattle.class_file.specs.declared.class.Set.{Set}
use Rattle.class_file.specs.declared.class.ClassFile.{ClassFile}
use Rattle.class_file.specs.declared.class.Handler.{Handler}
use Rattle.class_file.specs.declared.class.Method.{Method}
use Rattle.class_file.specs.declared.instr.Instr.{Instr}
use Rattle.class_file.specs.declared.value.NativeId.{NativeId}
use Rattle.class_file.specs.declared.value.NativeId.TheVariants as native_is
use Rattle.class_file.specs.Rows.{length_of, row_of}
use Rattle.class_file.specs.Pools.{Slots, Constant, Number, Literal, Member, Named, named_in, constant_in, long_in, entry_at, is_member, is_text}
use Rattle.class_file.specs.Pools as pools
use Rattle.class_file.specs.Classes.{class_named}
use Rattle.class_file.specs.Members.{described}
use Rattle.class_file.specs.Lots.{NamesNative, native_member, static_named}
use Rattle.class_file.specs.Machine.{constant, long_constant, class_pool, fetch, method_at, methods_of, handlers_of}
use Rattle.class_machine.specs.declared.linking.TheConstants.{EXCEPTIONS}
use Rattle.class_machine.specs.declared.links.Caught.{Caught}
use Rattle.class_machine.specs.declared.links.Caught.TheVariants as caught
use Rattle.class_machine.specs.declared.links.Link.{Link}
use Rattle.class_machine.specs.declared.links.Link.TheVariants as link
use Rattle.class_machine.specs.declared.links.LinkedHandler.{LinkedHandler}
use Rattle.class_machine.specs.declared.links.Op.{Op}
use Rattle.class_machine.specs.declared.links.LinkedMethod.{LinkedMethod}
use Rattle.class_machine.specs.declared.links.LinkedClass.{LinkedClass}
use Rattle.class_machine.specs.declared.links.Links.{Links}
use Rattle.class_machine.specs.declared.links.Target.{Target}
use Rattle.class_machine.specs.Lot.{CallsOwn}

abbrev pub op_of : ℕ → Instr → Op
op_of at i = record { row = row_of at i; next = at + length_of i }

-- the entries of a code from a place on, one for each byte
abbrev pub ops_of : ℕ → List Instr → List Op
ops_of at [] = []
ops_of at (i ∷ is) = replicate (length_of i) (op_of at i) ++ ops_of (at + length_of i) is

abbrev pub native_of : Link → Option NativeId
native_of (link.Native id) = Some id
native_of _ = None

abbrev pub constant_of : Link → Option Constant
constant_of (link.Number n) = Some (Number n)
constant_of (link.Literal t) = Some (Literal t)
constant_of _ = None

abbrev pub wide_of : Link → Option ℤ
wide_of (link.Wide n) = Some n
wide_of _ = None

-- is the reference to this native?
abbrev pub names : NativeId → Member → Bool
names id m = elim (native_member id) [ Some member ↦ is_member m member | None ↦ false ]

abbrev pub first_named : List NativeId → Member → Option NativeId
first_named ids m = find (λ id. names id m) ids

abbrev pub natives : List NativeId
natives = native_is.TextsOfInt ∷ native_is.TextsOfLong ∷ native_is.TextsOfChar ∷ native_is.TextsOfBoolean ∷ native_is.TextsConcat ∷ native_is.ConsoleWrite ∷ []

-- the native of a member that code names
abbrev pub native_named : Member → Option NativeId
native_named m = first_named natives m

abbrev pub native_in : Option Named → Option NativeId
native_in None = None
native_in (Some n) = if n.is_interface then None else native_named n.member

abbrev pub target_of : Link → Option Target
target_of (link.Method t) = Some t
target_of _ = None

-- ---- methods of the set

abbrev pub locals_of : Option Method → ℕ
locals_of (Some m) = m.max_locals
locals_of None = 0

-- how many values a method of this descriptor takes
abbrev pub count_of : List ℕ → ℕ
count_of descriptor = length (described descriptor).params

abbrev pub target_at : ℕ → List Method → ℕ → Option ℕ → Option Target
target_at class methods params None = None
target_at class methods params (Some place) = Some (record { class = class; method = place; params = params; max_locals = locals_of (slice_get methods place) })

-- the first static method of this name without parameters and result
abbrev pub plain_target : ℕ → List ℕ → List Method → Option Target
plain_target class name methods = target_at class methods 0 (static_named name (codes "()V") methods)

abbrev pub own_in_class : List ClassFile → Member → Option ℕ → Option Target
own_in_class classes m None = None
own_in_class classes m (Some class) =
    let methods = methods_of (slice_get classes class) in target_at class methods (count_of m.descriptor) (static_named m.name m.descriptor methods)

-- the static method of this name and descriptor that the class of the set has itself which is named
abbrev pub own_named : List ClassFile → Member → Option Target
own_named classes m = own_in_class classes m (class_named m.owner classes)

abbrev pub own_in : List ClassFile → Option Named → Option Target
own_in classes None = None
own_in classes (Some n) = if n.is_interface then None else own_named classes n.member

abbrev pub main_in : List ClassFile → Option ℕ → Option Target
main_in classes None = None
main_in classes (Some class) = plain_target class (codes "main") (methods_of (slice_get classes class))

abbrev pub main_target : Set → Option Target
main_target set = main_in set.classes (class_named set.main set.classes)

-- ---- exception tables

-- the number of the class of exceptions of this name; that of Throwable is 7
abbrev pub exception_named : List ℕ → Option ℕ
exception_named name = option_map (λ k. 7 + k) (position (λ (known : record { now : List ℕ }). is_text name known.now) EXCEPTIONS)

abbrev pub caught_number : Option ℕ → Caught
caught_number (Some n) = caught.Class n
caught_number None = caught.Nothing

abbrev pub caught_named : Option (List ℕ) → Caught
caught_named (Some name) = caught_number (exception_named name)
caught_named None = caught.Nothing

abbrev pub caught_in : Bool → Option (List ℕ) → Caught
caught_in all name = if all then caught.All else caught_named name

abbrev pub linked_handler : Slots → Handler → LinkedHandler
linked_handler pool h = record { start = h.start; end = h.end; at = h.at; caught = caught_in (h.catch_type == 0) (pools.name_in pool (entry_at pool h.catch_type)) }

-- ---- what links keep

-- what an entry stands for where code names it
pub record Meaning : Type 0 where
  pub native : Option NativeId
  pub own : Option Target
  pub constant : Option Constant
  pub wide : Option ℤ

abbrev pub meaning_of : Link → Meaning
meaning_of l = record { native = native_of l; own = target_of l; constant = constant_of l; wide = wide_of l }

-- a name of the run-time system comes before one of the set
abbrev pub unless_native : Option NativeId → Option Target → Option Target
unless_native (Some id) own = None
unless_native None own = own

abbrev pub meaning_in : List ClassFile → Slots → Option Entry → Meaning
meaning_in classes pool slot =
    record { native = native_in (named_in pool slot); own = unless_native (native_in (named_in pool slot)) (own_in classes (named_in pool slot)); constant = constant_in pool slot; wide = long_in slot }

-- the link is to the method that is named, or to none
pub record LinksMethod (l : Link) (classes : List ClassFile) (n : Option Named) : Type 0 where
  pub native_is : native_of l ≡ native_in n
  pub own_is : target_of l ≡ unless_native (native_in n) (own_in classes n)
  pub constant_is : constant_of l ≡ None
  pub wide_is : wide_of l ≡ None

-- what a linked method keeps of its method
pub record MethodParts : Type 0 where
  pub ops : List Op
  pub handlers : List LinkedHandler

abbrev pub method_parts : LinkedMethod → MethodParts
method_parts m = record { ops = m.ops.items; handlers = m.handlers.items }

abbrev pub method_parts_of : Slots → Method → MethodParts
method_parts_of pool m = record { ops = ops_of 0 m.code; handlers = map (linked_handler pool) m.handlers }

-- what a linked class keeps of its class
pub record Parts : Type 0 where
  pub methods : List MethodParts
  pub meanings : List Meaning
  pub initialiser : Option Target

abbrev pub parts : LinkedClass → Parts
parts l = record { methods = map method_parts l.methods.items; meanings = map meaning_of l.constants.items; initialiser = l.initialiser }

abbrev pub parts_of : List ClassFile → ℕ → ClassFile → Parts
parts_of classes place c = record {
  methods = map (method_parts_of c.pool) c.methods;
  meanings = map (meaning_in classes c.pool) c.pool;
  initialiser = plain_target place (codes "<clinit>") c.methods;
}

-- the parts of classes from a place on
abbrev pub all_parts : List ClassFile → ℕ → List ClassFile → List Parts
all_parts classes place [] = []
all_parts classes place (c ∷ cs) = parts_of classes place c ∷ all_parts classes (place + 1) cs

abbrev pub methods_in : Option LinkedClass → List LinkedMethod
methods_in (Some l) = l.methods.items
methods_in None = []

abbrev pub ops_in : Option LinkedMethod → List Op
ops_in (Some m) = m.ops.items
ops_in None = []

abbrev pub handlers_in : Option LinkedMethod → List LinkedHandler
handlers_in (Some m) = m.handlers.items
handlers_in None = []

abbrev pub initialiser_in : Option LinkedClass → Option Target
initialiser_in (Some l) = l.initialiser
initialiser_in None = None

abbrev pub constants_in : Option LinkedClass → List Link
constants_in (Some l) = l.constants.items
constants_in None = []

-- what stands at a place of a linked method
abbrev pub op_at : Links → ℕ → ℕ → ℕ → Option Op
op_at links class method at = slice_get (ops_in (slice_get (methods_in (slice_get links.classes.items class)) method)) at

abbrev pub handlers_at : Links → ℕ → ℕ → List LinkedHandler
handlers_at links class method = handlers_in (slice_get (methods_in (slice_get links.classes.items class)) method)

abbrev pub initialiser_at : Links → ℕ → Option Target
initialiser_at links class = initialiser_in (slice_get links.classes.items class)

abbrev pub link_at : Links → ℕ → ℕ → Option Link
link_at links class i = slice_get (constants_in (slice_get links.classes.items class)) i

abbrev pub native_at : Links → ℕ → ℕ → Option NativeId
native_at links class i = elim (link_at links class i) [ Some l ↦ native_of l | None ↦ None ]

abbrev pub wide_at : Links → ℕ → ℕ → Option ℤ
wide_at links class i = elim (link_at links class i) [ Some l ↦ wide_of l | None ↦ None ]

abbrev pub constant_at : Links → ℕ → ℕ → Option Constant
constant_at links class i = elim (link_at links class i) [ Some l ↦ constant_of l | None ↦ None ]

abbrev pub own_at : Links → ℕ → ℕ → Option Target
own_at links class i = elim (link_at links class i) [ Some l ↦ target_of l | None ↦ None ]

-- what is entered at a call of a method of the set
abbrev pub target_called : {set : Set} {from i : ℕ} → CallsOwn set from i → Target
target_called c = record { class = c.class; method = c.place; params = length c.to.signature.params; max_locals = c.method.max_locals }

pub record IsLinked (set : Set) (links : Links) : Type 0 where
  pub ops : (class method at : ℕ) (i : Instr) → fetch set class method at ≡ Some i → op_at links class method at ≡ Some (op_of at i)
  pub natives : (class i : ℕ) (id : NativeId) → NamesNative (named_in (class_pool set class) (entry_at (class_pool set class) i)) id → native_at links class i ≡ Some id
  pub owns : (class i : ℕ) (c : CallsOwn set class i) → own_at links class i ≡ Some (target_called c)
  pub wides : (class i : ℕ) (n : ℤ) → long_constant set class i ≡ Some n → wide_at links class i ≡ Some n
  pub constants : (class i : ℕ) (c : Constant) → constant set class i ≡ Some c → constant_at links class i ≡ Some c
  pub handlers : (class method : ℕ) → handlers_at links class method ≡ map (linked_handler (class_pool set class)) (handlers_of (method_at set class method))
  pub initialisers : (class : ℕ) (c : ClassFile) → slice_get set.classes class ≡ Some c → initialiser_at links class ≡ plain_target class (codes "<clinit>") c.methods
  pub main : links.main ≡ main_target set

pub record HasOp (links : Links) (class method at : ℕ) : Type 0 where
  pub op : Op
  pub is : op_at links class method at ≡ Some op

pub record HasLink (links : Links) (class i : ℕ) : Type 0 where
  pub target : Link
  pub is : link_at links class i ≡ Some target

pub record HasNative (links : Links) (class i : ℕ) : Type 0 where
  pub id : NativeId
  pub is : native_at links class i ≡ Some id

pub record HasConstant (links : Links) (class i : ℕ) : Type 0 where
  pub value : Constant
  pub is : constant_at links class i ≡ Some value

pub record HasWide (links : Links) (class i : ℕ) : Type 0 where
  pub number : ℤ
  pub is : wide_at links class i ≡ Some number
