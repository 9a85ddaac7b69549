-- The sets that the machine is built for.
use Rattle.std.specs.Prelude.{◌≡◌, ◌≢◌, ℕ, List, [], ◌∷◌, Some, Bool, true, false, All, codes, slice_get}
use Rattle.class_file.specs.declared.value.BuiltIn.{BuiltIn}
use Rattle.class_file.specs.declared.value.BuiltIn.TheVariants as built_in
use Rattle.class_file.specs.declared.value.NativeId.{NativeId}
use Rattle.class_file.specs.declared.row.Row.{Row}
use Rattle.class_file.specs.declared.row.Row.TheVariants as row
use Rattle.class_file.specs.declared.instr.Instr.{Instr}
use Rattle.class_file.specs.declared.class.Handler.{Handler}
use Rattle.class_file.specs.declared.class.Method.{Method}
use Rattle.class_file.specs.declared.class.Set.{Set}
use Rattle.class_file.specs.Rows.{row_of}
use Rattle.class_file.specs.Pools.{Slots, Member, named_in, name_in, entry_at}
use Rattle.class_file.specs.Descriptors.{signature}
use Rattle.class_file.specs.Classes.{Coded, NoBody, MethodView, class_named, number_of_place, object_class, chain}
use Rattle.class_file.specs.Machine.{Static, Callee, callee, fetch, method_at, methods_of, class_pool, clinit, main_method}
use Rattle.class_file.specs.Lots.{in_first_lot, static_named, NamesNative, IsFirstLot}

-- the class of an exception that the machine makes, by its binary name
abbrev pub class_name : BuiltIn → List ℕ
class_name built_in.Throwable = codes "java/lang/Throwable"
class_name built_in.Exception = codes "java/lang/Exception"
class_name built_in.Error = codes "java/lang/Error"
class_name built_in.RuntimeException = codes "java/lang/RuntimeException"
class_name built_in.IllegalArgumentException = codes "java/lang/IllegalArgumentException"
class_name built_in.NumberFormatException = codes "java/lang/NumberFormatException"
class_name built_in.IllegalStateException = codes "java/lang/IllegalStateException"
class_name built_in.UnsupportedOperationException = codes "java/lang/UnsupportedOperationException"
class_name built_in.ArithmeticException = codes "java/lang/ArithmeticException"
class_name built_in.NullPointerException = codes "java/lang/NullPointerException"
class_name built_in.ClassCastException = codes "java/lang/ClassCastException"
class_name built_in.IndexOutOfBoundsException = codes "java/lang/IndexOutOfBoundsException"
class_name built_in.ArrayIndexOutOfBoundsException = codes "java/lang/ArrayIndexOutOfBoundsException"
class_name built_in.ArrayStoreException = codes "java/lang/ArrayStoreException"
class_name built_in.NegativeArraySizeException = codes "java/lang/NegativeArraySizeException"
class_name built_in.IncompatibleClassChangeError = codes "java/lang/IncompatibleClassChangeError"
class_name built_in.AbstractMethodError = codes "java/lang/AbstractMethodError"
class_name built_in.NoSuchElementException = codes "java/util/NoSuchElementException"

-- the rows that are built: those of the first lot, and a few more that work on the frame alone
abbrev pub is_built : Row → Bool
is_built row.Nop = true
is_built row.DupX1 = true
is_built row.Dup2 = true
is_built (row.Increment i n) = true
is_built r = in_first_lot r

-- The class at a place of the set is right below Object, and its initialiser, if it has one, has code.
pub record CanStart (set : Set) (class : ℕ) : Type 0 where
  pub above : chain set (number_of_place class) ≡ number_of_place class ∷ object_class ∷ []
  pub coded : (v : MethodView) → clinit set (number_of_place class) ≡ Some v → v.body ≢ NoBody

-- main is a method with code of the main class
pub record MainIsBuilt (set : Set) : Type 0 where
  pub class : ℕ
  pub place : ℕ
  pub method : Method
  pub view : MethodView
  pub class_is : class_named set.main set.classes ≡ Some class
  pub place_is : static_named (codes "main") (codes "()V") (methods_of (slice_get set.classes class)) ≡ Some place
  pub method_is : method_at set class place ≡ Some method
  pub found : main_method set ≡ Some (record { class = number_of_place class; method = view })
  pub body : view.body ≡ Coded class place
  pub starts : CanStart set class

-- An index of a class's pool names a static method of a class of the set, which the class that is named has itself, and which has
-- code.
pub record CallsOwn (set : Set) (from i : ℕ) : Type 0 where
  pub member : Member
  pub named_is : named_in (class_pool set from) (entry_at (class_pool set from) i) ≡ Some (record { is_interface = false; member = member })
  pub class : ℕ
  pub place : ℕ
  pub method : Method
  pub to : Callee
  pub class_is : class_named member.owner set.classes ≡ Some class
  pub place_is : static_named member.name member.descriptor (methods_of (slice_get set.classes class)) ≡ Some place
  pub method_is : method_at set class place ≡ Some method
  pub callee_is : callee set Static (Some (record { is_interface = false; member = member })) ≡ Some to
  pub found_in : to.found.class ≡ number_of_place class
  pub body : to.found.method.body ≡ Coded class place
  pub signed : signature member.descriptor ≡ Some to.signature
  pub starts : CanStart set class

-- a static method of the run-time system that is built
pub record IsNativeCall (set : Set) (class i : ℕ) : Type 0 where
  pub id : NativeId
  pub names : NamesNative (named_in (class_pool set class) (entry_at (class_pool set class) i)) id

-- what a call of a static method is of
pub data IsCall (set : Set) (class i : ℕ) : Type 0 where
  OfNative : IsNativeCall set class i → IsCall set class i
  OfSet : CallsOwn set class i → IsCall set class i

-- a row of an exception table catches all, or a class of exceptions that the run-time system provides
pub data CatchesKnown (pool : Slots) (h : Handler) : Type 0 where
  CatchesAll : h.catch_type ≡ 0 → CatchesKnown pool h
  CatchesOne : (exception : BuiltIn) → h.catch_type ≢ 0 → name_in pool (entry_at pool h.catch_type) ≡ Some (class_name exception) → CatchesKnown pool h

-- The machine is built for the set: its main, all its instructions, all that they call, and all that handlers catch.
pub record IsBuilt (set : Set) : Type 0 where
  pub main : MainIsBuilt set
  pub rows : (class method at : ℕ) (i : Instr) → fetch set class method at ≡ Some i → is_built (row_of at i) ≡ true
  pub calls : (class method at k : ℕ) (i : Instr) → fetch set class method at ≡ Some i → row_of at i ≡ row.InvokeStatic k → IsCall set class k
  pub handlers : (class method : ℕ) (m : Method) → method_at set class method ≡ Some m → All (CatchesKnown (class_pool set class)) m.handlers

-- the machine is built for each set of the first lot
abbrev pub FirstLotIsBuilt : Type 0
FirstLotIsBuilt = (set : Set) → IsFirstLot set → IsBuilt set
