-- The law that the machine is never stuck on code that verifies.
use Rattle.std.specs.Prelude.{All, ◌≡◌, ◌≢◌, ◌<◌, ◌≤◌, ℕ, List, [], Some, None, Bool, length, position, true, false, codes, slice_get}
use Rattle.class_file.specs.declared.row.Row.{Row}
use Rattle.class_file.specs.declared.row.Row.TheVariants as row
use Rattle.class_file.specs.declared.instr.Instr.{Instr}
use Rattle.class_file.specs.declared.class.ClassFile.{ClassFile}
use Rattle.class_file.specs.declared.class.Method.{Method}
use Rattle.class_file.specs.declared.class.Set.{Set}
use Rattle.class_file.specs.declared.class.VType.{VType}
use Rattle.class_file.specs.Rows.{row_of}
use Rattle.class_file.specs.Pools.{is_text}
use Rattle.class_file.specs.Classes.{Coded, FoundMethod, built_ins, class_named, class_number, number_of_place, is_abstract_flag, superclass, class_count, object_name, is_interface_flag}
use Rattle.class_file.specs.Descriptors.{is_array_name}
use Rattle.class_file.specs.Members.{assignable}
use Rattle.class_file.specs.Machine.{Over, Stuck, machine, fetch, main_method}
use Rattle.class_file.specs.Verification.{Verifies, starts}
use Rattle.class_file.specs.Lots.{in_first_lot, static_named, MainIsPlain, IsFirstLot}

-- the main class, or one above it, has a static main()V with code
pub record HasMain (set : Set) : Type 0 where
  pub found : FoundMethod
  pub is : main_method set ≡ Some found
  pub class : ℕ
  pub place : ℕ
  pub coded : found.method.body ≡ Coded class place

-- Each class stands higher than its superclass, and no higher than there are classes: no class is above itself.
pub record Heights (set : Set) : Type 0 where
  pub height : ℕ → ℕ
  pub higher : (n above : ℕ) → superclass set n ≡ Some above → height above < height n
  pub bounded : (n : ℕ) → height n < class_count set

-- What loading has looked at. A method that is not abstract has an instruction at its start, and an initialiser is not abstract.
-- No class has the name of an array, an interface is right below Object, and no class is above itself.
pub record IsLoaded (set : Set) : Type 0 where
  pub main : HasMain set
  pub coded : (class place : ℕ) (c : ClassFile) (m : Method) → slice_get set.classes class ≡ Some c → slice_get c.methods place ≡ Some m → is_abstract_flag m.flags ≡ false → starts m 0 ≡ true
  pub initialisers : (class place : ℕ) (c : ClassFile) (m : Method) → slice_get set.classes class ≡ Some c → slice_get c.methods place ≡ Some m → is_text m.name (codes "<clinit>") ≡ true → is_abstract_flag m.flags ≡ false
  pub names : (class : ℕ) (c : ClassFile) → slice_get set.classes class ≡ Some c → is_array_name c.this_name ≡ false
  pub interfaces : (class : ℕ) (c : ClassFile) → slice_get set.classes class ≡ Some c → is_interface_flag c.flags ≡ true → is_text c.super_name object_name ≡ true
  pub heights : Heights set

-- the rows that the law is of: those of the first lot, a few more that work on the frame alone, and those of static fields
abbrev pub is_covered : Row → Bool
is_covered row.Nop = true
is_covered row.DupX1 = true
is_covered row.Dup2 = true
is_covered (row.Increment i n) = true
is_covered (row.GetStatic i) = true
is_covered (row.PutStatic i) = true
is_covered r = in_first_lot r

-- each instruction of the set does what one of these rows does
abbrev pub IsCovered : Set → Type 0
IsCovered set = (class method at : ℕ) (i : Instr) → fetch set class method at ≡ Some i → is_covered (row_of at i) ≡ true

-- a set that verifies never gets the machine stuck, on any input, after any number of steps
abbrev pub VerifiedIsNeverStuck : Type 0
VerifiedIsNeverStuck = (set : Set) → IsLoaded set → IsCovered set → Verifies set → (input : List ℕ) (n : ℕ) (out : List ℕ) → machine set input n ≢ Over Stuck out

-- each class of the set is right below Object
abbrev pub IsFlat : Set → Type 0
IsFlat set = (class : ℕ) (c : ClassFile) → slice_get set.classes class ≡ Some c → is_text c.super_name object_name ≡ true

-- in such a set no class is above itself
abbrev pub FlatSetsHaveHeights : Type 0
FlatSetsHaveHeights = (set : Set) → IsFlat set → Heights set

-- each instruction of the set is of the first lot
abbrev pub IsOfFirstLot : Set → Type 0
IsOfFirstLot set = All (λ c. All (λ m. All (λ i. (pc : ℕ) → in_first_lot (row_of pc i) ≡ true) m.code) c.methods) set.classes

-- the law is of such a set
abbrev pub FirstLotIsCovered : Type 0
FirstLotIsCovered = (set : Set) → IsOfFirstLot set → IsCovered set

-- in a set of the first lot each instruction is of it, wherever it stood
abbrev pub FirstLotIsOfInstructions : Type 0
FirstLotIsOfInstructions = (set : Set) → IsFirstLot set → IsOfFirstLot set

-- the method has instructions
abbrev pub HasCode : Method → Type 0
HasCode m = (is_abstract_flag m.flags ≡ false) × (m.code ≢ [])

-- The class is right below Object, has no name of an array, and each of its methods has instructions.
pub record IsPlain (c : ClassFile) : Type 0 where
  pub super : c.super_name ≡ object_name
  pub name : is_array_name c.this_name ≡ false
  pub methods : All HasCode c.methods

-- a set of such classes is loaded where its main is plain
abbrev pub PlainSetsAreLoaded : Type 0
PlainSetsAreLoaded = (set : Set) → MainIsPlain set → All IsPlain set.classes → IsLoaded set

-- Ranks of the classes of a set, by their places: a class ranks above its superclass, if that is of the set, and no rank is above
-- the number of classes.
pub record IsRanked (set : Set) (rank : ℕ → ℕ) : Type 0 where
  pub few : (class : ℕ) → rank class ≤ length set.classes
  pub higher : (class above : ℕ) (c : ClassFile) → slice_get set.classes class ≡ Some c → class_number set c.super_name ≡ Some (number_of_place above) → rank above < rank class

-- no built-in class has this name
abbrev pub IsOwnName : List ℕ → Type 0
IsOwnName name = position (λ c. is_text c.name name) built_ins ≡ None

-- main is a method with code that the main class has itself
pub record HasOwnMain (set : Set) : Type 0 where
  pub class : ℕ
  pub file : ClassFile
  pub place : ℕ
  pub method : Method
  pub own : IsOwnName set.main
  pub class_is : class_named set.main set.classes ≡ Some class
  pub file_is : slice_get set.classes class ≡ Some file
  pub place_is : static_named (codes "main") (codes "()V") file.methods ≡ Some place
  pub method_is : slice_get file.methods place ≡ Some method
  pub coded : is_abstract_flag method.flags ≡ false

-- what loading looks at in one class
pub record IsWhole (c : ClassFile) : Type 0 where
  pub coded : All (λ m. is_abstract_flag m.flags ≡ false → m.code ≢ []) c.methods
  pub initialisers : All (λ m. is_text m.name (codes "<clinit>") ≡ true → is_abstract_flag m.flags ≡ false) c.methods
  pub name : is_array_name c.this_name ≡ false
  pub interface : is_interface_flag c.flags ≡ true → is_text c.super_name object_name ≡ true

-- a set of such classes with ranks and a main of its own is loaded
abbrev pub WholeSetsAreLoaded : Type 0
WholeSetsAreLoaded = (set : Set) (rank : ℕ → ℕ) → HasOwnMain set → All IsWhole set.classes → IsRanked set rank → IsLoaded set

-- what the law asks of a set
pub record Meets (set : Set) : Type 0 where
  pub loaded : IsLoaded set
  pub covered : IsCovered set
  pub verifies : Verifies set

-- some set meets it
abbrev pub LawIsOfSomeSet : Type 0
LawIsOfSomeSet = (set : Set) × Meets set

-- what is assignable to a type is assignable to all that this type is assignable to
abbrev pub AssignabilityIsTransitive : Type 0
AssignabilityIsTransitive = (set : Set) → IsLoaded set → (t u v : VType) → assignable set t u ≡ true → assignable set u v ≡ true → assignable set t v ≡ true
