-- What emitting code does to the code and to the pool.
use Rattle.std.specs.Prelude.{◌≡◌, ℕ, suc, ◌+◌, ◌*◌, ◌<◌, ◌≤◌, ℤ, pos, negsuc, Bool, true, false, List, [], ◌∷◌, ◌++◌, length, Option, Some, None, ⊤}
use Rattle.class_file.specs.declared.instr.Instr.{Instr}
use Rattle.class_file.specs.declared.row.Row.{Row}
use Rattle.class_file.specs.Rows.{length_of, row_of}
use Rattle.class_file.specs.declared.pool.Entry.TheVariants.{NameAndType}
use Rattle.class_file.specs.Pools.{Slots, Extends, entry_at, text_in}
use Rattle.stack_code.specs.Code.{Operation, Load, Store, Jump, JumpIf, JumpCompare, bytes, bytes_of, StandsFor, Spells, Emitted, Several, code_of, kept, kept_bytes, stores, texts, further_texts, discards, to_text, Call}
use Rattle.kc_core.specs.declared.tree.TypeTree.{TypeTree}
use Rattle.kc_core.specs.declared.tree.Core.{Core}
use Rattle.stack_code.specs.declared.constants.Helper.TheVariants as helper
use Rattle.stack_code.specs.declared.operations.CodeBuffer.{CodeBuffer}
use Rattle.stack_code.specs.declared.measures.Measure.{Measure}
use Rattle.stack_code.specs.declared.measures.Extent.{Extent}

-- an operation's jump has a distance of at most 32,767 either way, and its local variable a number of 16 bits
abbrev pub IsNear : ℤ → Type 0
IsNear (pos n) = n < 32768
IsNear (negsuc n) = suc n < 32768

abbrev pub HasInstruction : Operation → Type 0
HasInstruction (Load k x) = x < 65536
HasInstruction (Store k x) = x < 65536
HasInstruction (Jump d) = IsNear d
HasInstruction (JumpIf t n) = n < 32768
HasInstruction (JumpCompare t n) = n < 32768
HasInstruction _ = ⊤

abbrev pub HaveInstructions : List Operation → Type 0
HaveInstructions [] = ⊤
HaveInstructions (o ∷ os) = HasInstruction o × HaveInstructions os

-- The pool has room for all entries that the operations name: none of them adds more than twice as many entries as it has bytes.
abbrev pub HasRoom : Slots → List Operation → Type 0
HasRoom pool ops = length pool + 2 * bytes ops ≤ 65535

-- The code goes on, over a pool that keeps its entries. Where it fits at the end it fitted before, the new instructions stand for the
-- operations, and the pool has grown by at most two entries for each of their bytes; and it fits where it did before, each operation has
-- an instruction, and the pool has room.
pub record Emits (old new : CodeBuffer) (before after : Slots) (ops : List Operation) : Type 0 where
  pub added : List Instr
  pub whole : new.instrs.items ≡ old.instrs.items ++ added
  pub kept : Extends before after
  pub fitted : new.fits ≡ true → old.fits ≡ true
  pub spells : new.fits ≡ true → (at : ℕ) → Spells after at added ops
  pub grown : new.fits ≡ true → length after ≤ length before + 2 * bytes ops
  pub fits : old.fits ≡ true → HaveInstructions ops → HasRoom before ops → new.fits ≡ true

-- wherever it stands, the instruction stands for the operation, in the operation's length
pub record IsFor (pool : Slots) (i : Instr) (op : Operation) : Type 0 where
  pub stands : (at : ℕ) → StandsFor pool at i op
  pub long : length_of i ≡ bytes_of op

-- at this index stands a name with a descriptor
pub record NamesTypes (pool : Slots) (i : ℕ) (name descriptor : List ℕ) : Type 0 where
  pub first : ℕ
  pub second : ℕ
  pub is : entry_at pool i ≡ Some (NameAndType first second)
  pub name_is : text_in (entry_at pool first) ≡ Some name
  pub descriptor_is : text_in (entry_at pool second) ≡ Some descriptor

-- wherever it stands, the instruction has this row and this length
pub record IsRow (i : Instr) (r : Row) (bytes : ℕ) : Type 0 where
  pub does : (at : ℕ) → row_of at i ≡ r
  pub long : length_of i ≡ bytes

-- A front of the operations in `total` was emitted, and `rest` is what is left of them.
pub record Partly (old new : CodeBuffer) (before after : Slots) (rest total : List Operation) : Type 0 where
  pub front : List Operation
  pub emitted : Emits old new before after front
  pub whole : front ++ rest ≡ total

-- the code of a declaration, which may have a value, and whether it goes on
abbrev pub declared_ops : ℕ → Option Core → List Operation
declared_ops x None = []
declared_ops x (Some v) = (code_of v).code ++ kept (code_of v).goes_on (stores v.ty x)

abbrev pub declared_goes : Option Core → Bool
declared_goes None = true
declared_goes (Some v) = (code_of v).goes_on

-- the parts of a text from this place on
abbrev pub texts_from : Bool → List Emitted → Several
texts_from true es = texts es
texts_from false es = further_texts es

-- what comes behind a part that stands in a row of others
abbrev pub after_part : Bool → TypeTree → List Operation
after_part true ty = []
after_part false ty = discards ty

-- what comes behind a part of a text
abbrev pub after_text : Bool → TypeTree → List Operation
after_text true ty = to_text ty
after_text false ty = to_text ty ++ Call helper.TextsConcat ∷ []

-- the lengths of both forms of a node's code, and whether it goes on
pub record IsMeasure (m : Measure) (x : Emitted) : Type 0 where
  pub value : m.value ≡ x.size
  pub when_true : m.when_true ≡ x.test_size true
  pub when_false : m.when_false ≡ x.test_size false
  pub goes_on : m.goes_on ≡ x.goes_on

-- those of code that leaves its value
pub record IsPlain (m : Measure) (size : ℕ) (goes : Bool) : Type 0 where
  pub value : m.value ≡ size
  pub when_true : m.when_true ≡ size + kept_bytes goes 3
  pub when_false : m.when_false ≡ size + kept_bytes goes 3
  pub goes_on : m.goes_on ≡ goes

-- those of code that tests
pub record IsTesting (m : Measure) (when_true when_false : ℕ) (goes : Bool) : Type 0 where
  pub value : m.value ≡ when_false + kept_bytes goes 5
  pub when_true_is : m.when_true ≡ when_true
  pub when_false_is : m.when_false ≡ when_false
  pub goes_on : m.goes_on ≡ goes

-- the length of code, and whether it goes on
pub record IsExtent (e : Extent) (size : ℕ) (goes : Bool) : Type 0 where
  pub length_is : e.length ≡ size
  pub goes_on : e.goes_on ≡ goes
