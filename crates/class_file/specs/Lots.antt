-- The instructions and sets that the verifier and the machine are built for so far.
use Rattle.std.proofs.Common.{◌⊎◌, inl, inr, subst, refl}
use Rattle.std.specs.Prelude.{◌≡◌, ℕ, List, [], ◌∷◌, Option, Some, None, Bool, true, false, ◌&&◌, position, slice_get, codes}
use Rattle.class_file.specs.declared.row.Row.{Row}
use Rattle.class_file.specs.declared.row.Row.TheVariants as row
use Rattle.class_file.specs.declared.instr.Instr.{Instr}
use Rattle.class_file.specs.declared.value.NativeId.{NativeId}
use Rattle.class_file.specs.declared.value.NativeId.TheVariants as native_is
use Rattle.class_file.specs.declared.class.Method.{Method}
use Rattle.class_file.specs.declared.class.Set.{Set}
use Rattle.class_file.specs.Rows.{row_of}
use Rattle.class_file.specs.Pools.{Member, Named, named_in, entry_at, is_text}
use Rattle.class_file.specs.Descriptors.{FieldType, IntType, CharType, BooleanType, LongType, Reference}
use Rattle.class_file.specs.Classes.{Coded, Native, MethodView, built_ins, is_static_flag, class_named, number_of_place, object_class, console_class, texts_class, chain}
use Rattle.class_file.specs.Machine.{Static, Callee, callee, fetch, method_at, methods_of, class_pool, clinit, main_method}

-- constants, loads, stores, `pop`, `pop2`, `dup`, arithmetic, conversions, comparisons, jumps, returns and `invokestatic`
abbrev pub in_first_lot : Row → Bool
in_first_lot (row.GetStatic i) = false
in_first_lot (row.PutStatic i) = false
in_first_lot (row.GetField i) = false
in_first_lot (row.PutField i) = false
in_first_lot (row.InvokeVirtual i) = false
in_first_lot (row.InvokeSpecial i) = false
in_first_lot (row.InvokeInterface i) = false
in_first_lot (row.New i) = false
in_first_lot (row.NewArray i) = false
in_first_lot (row.CheckCast i) = false
in_first_lot (row.InstanceOf i) = false
in_first_lot row.ArrayLength = false
in_first_lot row.ArrayLoad = false
in_first_lot row.ArrayStore = false
in_first_lot row.Throw = false
in_first_lot row.Nop = false
in_first_lot row.DupX1 = false
in_first_lot row.Dup2 = false
in_first_lot (row.Increment i n) = false
in_first_lot _ = true

-- ---- the natives that are built

abbrev pub text_name : List ℕ
text_name = codes "java/lang/String"

-- how code names a native that is built
abbrev pub native_member : NativeId → Option Member
native_member native_is.TextsOfInt = Some (record { owner = codes "kprof/rt/Texts"; name = codes "ofInt"; descriptor = codes "(I)Ljava/lang/String;" })
native_member native_is.TextsOfLong = Some (record { owner = codes "kprof/rt/Texts"; name = codes "ofLong"; descriptor = codes "(J)Ljava/lang/String;" })
native_member native_is.TextsOfChar = Some (record { owner = codes "kprof/rt/Texts"; name = codes "ofChar"; descriptor = codes "(C)Ljava/lang/String;" })
native_member native_is.TextsOfBoolean = Some (record { owner = codes "kprof/rt/Texts"; name = codes "ofBoolean"; descriptor = codes "(Z)Ljava/lang/String;" })
native_member native_is.TextsConcat = Some (record { owner = codes "kprof/rt/Texts"; name = codes "concat"; descriptor = codes "(Ljava/lang/String;Ljava/lang/String;)Ljava/lang/String;" })
native_member native_is.ConsoleWrite = Some (record { owner = codes "kprof/rt/Console"; name = codes "write"; descriptor = codes "(Ljava/lang/String;)V" })
native_member _ = None

-- the reference names this native
pub record NamesNative (named : Option Named) (id : NativeId) : Type 0 where
  pub member : Member
  pub is : native_member id ≡ Some member
  pub named_is : named ≡ Some (record { is_interface = false; member = member })

-- what such a native takes
abbrev pub native_params : NativeId → List FieldType
native_params native_is.TextsOfInt = IntType ∷ []
native_params native_is.TextsOfLong = LongType ∷ []
native_params native_is.TextsOfChar = CharType ∷ []
native_params native_is.TextsOfBoolean = BooleanType ∷ []
native_params native_is.TextsConcat = Reference text_name ∷ Reference text_name ∷ []
native_params native_is.ConsoleWrite = Reference text_name ∷ []
native_params _ = []

-- it is called so: by its class, which is built in, and as a native of these parameters
pub record CallsNative (c : Option Callee) (id : NativeId) : Type 0 where
  pub callee : Callee
  pub is : c ≡ Some callee
  pub native : callee.found.method.body ≡ Native id
  pub params : callee.signature.params ≡ native_params id
  pub built_in : (callee.found.class ≡ console_class) ⊎ (callee.found.class ≡ texts_class)

some_member : (a b : Member) → (let o : Option Member = Some a in o) ≡ Some b → a ≡ b
some_member a b e = cc

abbrev called_so : Set → NativeId → Member → Type 0
called_so set id m = CallsNative (callee set Static (Some (record { is_interface = false; member = m }))) id

pub native_called : (set : Set) (id : NativeId) (m : Member) → native_member id ≡ Some m → CallsNative (callee set Static (Some (record { is_interface = false; member = m }))) id
unfolding built_ins
native_called set native_is.TextsOfInt m e = subst (called_so set native_is.TextsOfInt) (some_member _ m e) (record { callee = _; is = refl; native = refl; params = refl; built_in = inr refl })
native_called set native_is.TextsOfLong m e = subst (called_so set native_is.TextsOfLong) (some_member _ m e) (record { callee = _; is = refl; native = refl; params = refl; built_in = inr refl })
native_called set native_is.TextsOfChar m e = subst (called_so set native_is.TextsOfChar) (some_member _ m e) (record { callee = _; is = refl; native = refl; params = refl; built_in = inr refl })
native_called set native_is.TextsOfBoolean m e = subst (called_so set native_is.TextsOfBoolean) (some_member _ m e) (record { callee = _; is = refl; native = refl; params = refl; built_in = inr refl })
native_called set native_is.TextsConcat m e = subst (called_so set native_is.TextsConcat) (some_member _ m e) (record { callee = _; is = refl; native = refl; params = refl; built_in = inr refl })
native_called set native_is.ConsoleWrite m e = subst (called_so set native_is.ConsoleWrite) (some_member _ m e) (record { callee = _; is = refl; native = refl; params = refl; built_in = inl refl })
native_called set _ m e = absurd cc

-- ---- sets

-- the place of the first static method of this name and descriptor
abbrev pub static_named : List ℕ → List ℕ → List Method → Option ℕ
static_named name descriptor methods =
    position (λ m. is_static_flag m.flags && (is_text m.name name && is_text m.descriptor descriptor)) methods

-- main is a method with code of the main class, which is right below Object and has no initialiser
pub record MainIsPlain (set : Set) : Type 0 where
  pub class : ℕ
  pub place : ℕ
  pub method : Method
  pub view : MethodView
  pub class_is : class_named set.main set.classes ≡ Some class
  pub place_is : static_named (codes "main") (codes "()V") (methods_of (slice_get set.classes class)) ≡ Some place
  pub method_is : method_at set class place ≡ Some method
  pub found : main_method set ≡ Some (record { class = number_of_place class; method = view })
  pub body : view.body ≡ Coded class place
  pub above : chain set (number_of_place class) ≡ number_of_place class ∷ object_class ∷ []
  pub quiet : clinit set (number_of_place class) ≡ None

-- main is plain, all instructions are of the first lot, all that they call are built natives, and no method has handlers
pub record IsFirstLot (set : Set) : Type 0 where
  pub main : MainIsPlain set
  pub rows : (class method at : ℕ) (i : Instr) → fetch set class method at ≡ Some i → in_first_lot (row_of at i) ≡ true
  pub calls : (class method at k : ℕ) (i : Instr) → fetch set class method at ≡ Some i → row_of at i ≡ row.InvokeStatic k → (id : NativeId) × NamesNative (named_in (class_pool set class) (entry_at (class_pool set class) k)) id
  pub unhandled : (class method : ℕ) (m : Method) → method_at set class method ≡ Some m → m.handlers ≡ []
