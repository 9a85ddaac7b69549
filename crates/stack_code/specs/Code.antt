-- The code of a node: what each instruction of it stands for, with its length in bytes. Which index of the pool an
-- instruction names isn't said.
use Rattle.std.specs.Prelude.{◌≡◌, ℕ, zero, suc, ◌+◌, ◌&&◌, ◌||◌, List, [], ◌∷◌, ◌++◌, Some, None, Bool, true, false, not, ℤ, pos, negsuc, int_le, nat_lt, if◌then◌else◌, ◌⊎◌, codes}
use Rattle.kc_core.specs.declared.tree.TypeTree.{TypeTree}
use Rattle.kc_core.specs.declared.tree.TypeTree.TheVariants as type_is
use Rattle.kc_core.specs.declared.tree.BinaryOp.{BinaryOp}
use Rattle.kc_core.specs.declared.tree.BinaryOp.TheVariants.{Plus, Minus, Times, Div, Rem}
use Rattle.kc_core.specs.declared.tree.UnaryOp.TheVariants as unary
use Rattle.kc_core.specs.declared.tree.Order.{Order}
use Rattle.kc_core.specs.declared.tree.Order.TheVariants.{Less, LessEqual, Greater, GreaterEqual}
use Rattle.kc_core.specs.declared.tree.Native.TheVariants as native
use Rattle.kc_core.specs.declared.tree.Core.{Core}
use Rattle.kc_core.specs.declared.tree.Kind.TheFolds.{fold-Core}
use Rattle.kc_core.specs.declared.tree.Kind.TheOpen.{Kind-F, Core-F}
use Rattle.class_file.specs.declared.value.Kind.{Kind as SlotKind}
use Rattle.class_file.specs.declared.value.Kind.TheVariants as kinds
use Rattle.class_file.specs.declared.value.NativeId.{NativeId}
use Rattle.class_file.specs.declared.value.NativeId.TheVariants as native_is
use Rattle.stack_code.specs.declared.constants.Helper.{Helper}
use Rattle.stack_code.specs.declared.constants.Helper.TheVariants as helper
use Rattle.class_file.specs.declared.row.Row.TheVariants as row
use Rattle.class_file.specs.declared.row.Test.{Test}
use Rattle.class_file.specs.declared.row.Test.TheVariants as test_is
use Rattle.class_file.specs.declared.row.Operator.{Operator}
use Rattle.class_file.specs.declared.row.Operator.TheVariants as op
use Rattle.class_file.specs.declared.instr.Instr.{Instr}
use Rattle.class_file.specs.Rows.{length_of, row_of, target}
use Rattle.class_file.specs.Pools.{Slots, entry_at, named_in, constant_in, Number, Literal}
use Rattle.class_file.specs.Lots.{NamesNative}

-- what an instruction of the code does, by the things that its indexes stand for
pub data Operation : Type 0 where
  PushInt : (number : ℤ) → Operation
  PushText : (units : List ℕ) → Operation
  Load : (kind : SlotKind) (local : ℕ) → Operation
  Store : (kind : SlotKind) (local : ℕ) → Operation
  Compute : (operator : Operator) → Operation
  Negate : Operation
  Discard : Operation
  Call : (callee : Helper) → Operation
  -- a jump by so many bytes from its own place; where an Int passes a test against 0; where two Ints pass a test
  Jump : (offset : ℤ) → Operation
  JumpIf : (test : Test) (offset : ℕ) → Operation
  JumpCompare : (test : Test) (offset : ℕ) → Operation
  Leave : Operation

-- the shortest of iconst, bipush, sipush and ldc_w
abbrev pub int_bytes : ℤ → ℕ
int_bytes z =
    if int_le (negsuc 0) z && int_le z (pos 5) then 1
    else (if int_le (negsuc 127) z && int_le z (pos 127) then 2 else 3)

abbrev pub local_bytes : ℕ → ℕ
local_bytes x = if nat_lt x 256 then 2 else 4

abbrev pub bytes_of : Operation → ℕ
bytes_of (PushInt z) = int_bytes z
bytes_of (PushText t) = 3
bytes_of (Load k x) = local_bytes x
bytes_of (Store k x) = local_bytes x
bytes_of (Compute o) = 1
bytes_of Negate = 1
bytes_of Discard = 1
bytes_of (Call m) = 3
bytes_of (Jump d) = 3
bytes_of (JumpIf t n) = 3
bytes_of (JumpCompare t n) = 3
bytes_of Leave = 1

abbrev pub bytes : List Operation → ℕ
bytes [] = 0
bytes (o ∷ os) = bytes_of o + bytes os

-- the native that a helper is
abbrev pub native_of : Helper → NativeId
native_of helper.ConsoleWrite = native_is.ConsoleWrite
native_of helper.TextsConcat = native_is.TextsConcat
native_of helper.TextsOfInt = native_is.TextsOfInt
native_of helper.TextsOfBoolean = native_is.TextsOfBoolean

-- over this pool an instruction at this place stands for the operation
abbrev pub StandsFor : Slots → ℕ → Instr → Operation → Type 0
StandsFor pool at i (PushInt z) = (row_of at i ≡ row.PushInt z) ⊎ ((k : ℕ) × (row_of at i ≡ row.PushConstant k) × (constant_in pool (entry_at pool k) ≡ Some (Number z)))
StandsFor pool at i (PushText t) = (k : ℕ) × (row_of at i ≡ row.PushConstant k) × (constant_in pool (entry_at pool k) ≡ Some (Literal t))
StandsFor pool at i (Load k x) = row_of at i ≡ row.Load k x
StandsFor pool at i (Store k x) = row_of at i ≡ row.Store k x
StandsFor pool at i (Compute o) = row_of at i ≡ row.IntBinary o
StandsFor pool at i Negate = row_of at i ≡ row.IntNeg
StandsFor pool at i Discard = row_of at i ≡ row.Pop
StandsFor pool at i (Call m) = (k : ℕ) × (row_of at i ≡ row.InvokeStatic k) × NamesNative (named_in pool (entry_at pool k)) (native_of m)
StandsFor pool at i (Jump d) = row_of at i ≡ row.Goto (target at d)
StandsFor pool at i (JumpIf t n) = row_of at i ≡ row.IfZero t (at + n)
StandsFor pool at i (JumpCompare t n) = row_of at i ≡ row.IfCompare t (at + n)
StandsFor pool at i Leave = row_of at i ≡ row.Return

-- over this pool these instructions, from a place on, stand for the operations, one for one
abbrev pub Spells : Slots → ℕ → List Instr → List Operation → Type 0
Spells pool at [] [] = Unit {0}
Spells pool at (i ∷ is) (o ∷ os) = StandsFor pool at i o × (length_of i ≡ bytes_of o) × Spells pool (at + bytes_of o) is os
Spells pool at _ _ = ⊥

-- What is known of a node's code: the static type of the value that it leaves on the stack, where `Unit` leaves nothing; its
-- length in bytes; how many nodes it stands for; whether it can go on at its end; whether it is the literal true; and the
-- operations. Of a Boolean node there is a second form, which leaves nothing: `test w n` goes on n bytes behind its end where the
-- value is w, and at its end where it is not.
pub record Emitted : Type 0 where
  pub ty : TypeTree
  pub size : ℕ
  pub nodes : ℕ
  pub goes_on : Bool
  pub always : Bool
  pub code : List Operation
  pub test_size : Bool → ℕ
  pub test : Bool → ℕ → List Operation

-- What stands behind code that does not go on is not written.
abbrev pub kept : Bool → List Operation → List Operation
kept true os = os
kept false os = []

abbrev pub kept_bytes : Bool → ℕ → ℕ
kept_bytes true n = n
kept_bytes false n = 0

abbrev pub operator_of : BinaryOp → Operator
operator_of Plus = op.Add
operator_of Minus = op.Sub
operator_of Times = op.Mul
operator_of Div = op.Div
operator_of Rem = op.Rem

-- the test that an Int passes, and the one that it does not pass
abbrev pub test_of : Bool → Order → Test
test_of true Less = test_is.Lt
test_of true LessEqual = test_is.Le
test_of true Greater = test_is.Gt
test_of true GreaterEqual = test_is.Ge
test_of false Less = test_is.Ge
test_of false LessEqual = test_is.Gt
test_of false Greater = test_is.Le
test_of false GreaterEqual = test_is.Lt

-- whether two Ints are equal
abbrev pub equal_test : Bool → Test
equal_test true = test_is.Eq
equal_test false = test_is.Ne

-- whether the Int that a Boolean stands for is the one of this Boolean
abbrev pub truth_test : Bool → Test
truth_test true = test_is.Ne
truth_test false = test_is.Eq

-- the Int that stands for a Boolean
abbrev pub bit : Bool → ℤ
bit true = pos 1
bit false = pos 0

-- a jump back by so many bytes
abbrev pub back : ℕ → ℤ
back zero = pos 0
back (suc n) = negsuc n

-- a local variable of this type onto the stack
abbrev pub loads : TypeTree → ℕ → List Operation
loads type_is.Int x = Load kinds.Int x ∷ []
loads type_is.Boolean x = Load kinds.Int x ∷ []
loads type_is.String x = Load kinds.Ref x ∷ []
loads type_is.Unit x = []

-- a value of this type from the stack into a local variable
abbrev pub stores : TypeTree → ℕ → List Operation
stores type_is.Int x = Store kinds.Int x ∷ []
stores type_is.Boolean x = Store kinds.Int x ∷ []
stores type_is.String x = Store kinds.Ref x ∷ []
stores type_is.Unit x = []

-- a value of this type on the stack becomes its text
abbrev pub to_text : TypeTree → List Operation
to_text type_is.Int = Call helper.TextsOfInt ∷ []
to_text type_is.Boolean = Call helper.TextsOfBoolean ∷ []
to_text type_is.String = []
to_text type_is.Unit = PushText (codes "kotlin.Unit") ∷ []

-- a value of this type is taken off the stack
abbrev pub discards : TypeTree → List Operation
discards type_is.Int = Discard ∷ []
discards type_is.Boolean = Discard ∷ []
discards type_is.String = Discard ∷ []
discards type_is.Unit = []

-- Code that leaves its value: a test of it looks at the value.
abbrev pub plain : TypeTree → ℕ → ℕ → Bool → List Operation → Emitted
plain ty size nodes goes_on code = record {
  ty = ty;
  size = size;
  nodes = nodes;
  goes_on = goes_on;
  always = false;
  code = code;
  test_size = λ w. size + kept_bytes goes_on 3;
  test = λ w n. code ++ kept goes_on (JumpIf (truth_test w) (n + 3) ∷ []);
}

-- the two values of a test that goes on 4 bytes behind its end where it is false
abbrev pub truth : List Operation
truth = PushInt (pos 1) ∷ Jump (pos 4) ∷ PushInt (pos 0) ∷ []

-- Code that tests: its value is made of what the test comes to.
abbrev pub testing : TypeTree → ℕ → Bool → (Bool → ℕ) → (Bool → ℕ → List Operation) → Emitted
testing ty nodes goes_on test_size test = record {
  ty = ty;
  size = test_size false + kept_bytes goes_on 5;
  nodes = nodes;
  goes_on = goes_on;
  always = false;
  code = test false 4 ++ kept goes_on truth;
  test_size = test_size;
  test = test;
}

-- code without children
abbrev pub leaf : List Operation → TypeTree → Emitted
leaf os ty = plain ty (bytes os) 1 true os

-- a literal
abbrev pub truth_code : Bool → TypeTree → Emitted
truth_code b ty = record (leaf (PushInt (bit b) ∷ []) ty) { always = b }

-- a child, and operations that take its value
abbrev pub then_code : Emitted → List Operation → TypeTree → Emitted
then_code a tail ty = plain ty (a.size + kept_bytes a.goes_on (bytes tail)) (1 + a.nodes) a.goes_on (a.code ++ kept a.goes_on tail)

-- two children, and operations that take their values
abbrev pub two_ops : Emitted → Emitted → List Operation → List Operation
two_ops a b tail = a.code ++ kept a.goes_on (b.code ++ kept b.goes_on tail)

abbrev pub two_bytes : Emitted → Emitted → ℕ → ℕ
two_bytes a b n = a.size + kept_bytes a.goes_on (b.size + kept_bytes b.goes_on n)

abbrev pub two_code : Emitted → Emitted → List Operation → TypeTree → Emitted
two_code a b tail ty = plain ty (two_bytes a b (bytes tail)) (1 + a.nodes + b.nodes) (a.goes_on && b.goes_on) (two_ops a b tail)

-- two children, and a test of their values
abbrev pub compared : Emitted → Emitted → (Bool → Test) → TypeTree → Emitted
compared a b test ty =
    testing ty (1 + a.nodes + b.nodes) (a.goes_on && b.goes_on) (λ w. two_bytes a b 3) (λ w n. two_ops a b (JumpCompare (test w) (n + 3) ∷ []))

abbrev pub negated : Emitted → TypeTree → Emitted
negated a ty = testing ty (1 + a.nodes) a.goes_on (λ w. a.test_size (not w)) (λ w. a.test (not w))

-- how far behind the end of the second side the first side goes on where it decides the whole, if that is w
abbrev pub decided : Bool → Bool → ℕ → ℕ
decided true true n = n
decided false false n = n
decided _ _ n = 0

-- Two sides, of which the first one decides where it is k; so the whole goes on where the first side does.
abbrev pub short : Bool → Emitted → Emitted → TypeTree → Emitted
short k a b ty =
    testing ty (1 + a.nodes + b.nodes) a.goes_on (λ w. a.test_size k + kept_bytes a.goes_on (b.test_size w))
    (λ w n. a.test k (b.test_size w + decided k w n) ++ kept a.goes_on (b.test w n))

-- several children, and what stands behind the first ones and behind the last one
pub record Several : Type 0 where
  pub size : ℕ
  pub nodes : ℕ
  pub goes_on : Bool
  pub code : List Operation

abbrev pub nothing : Several
nothing = record { size = 0; nodes = 0; goes_on = true; code = [] }

abbrev pub followed : Emitted → List Operation → Several → Several
followed e between more = record {
  size = e.size + kept_bytes e.goes_on (bytes between + more.size);
  nodes = e.nodes + more.nodes;
  goes_on = e.goes_on && more.goes_on;
  code = e.code ++ kept e.goes_on (between ++ more.code);
}

-- the parts of a text behind the first, each put behind what stands there
abbrev pub further_texts : List Emitted → Several
further_texts [] = nothing
further_texts (e ∷ es) = followed e (to_text e.ty ++ Call helper.TextsConcat ∷ []) (further_texts es)

abbrev pub texts : List Emitted → Several
texts [] = record { size = 3; nodes = 0; goes_on = true; code = PushText [] ∷ [] }
texts (e ∷ es) = followed e (to_text e.ty) (further_texts es)

-- all values onto the stack
abbrev pub values : List Emitted → Several
values [] = nothing
values (e ∷ es) = followed e [] (values es)

-- one after the other, where the last one's value stays
abbrev pub in_turn : List Emitted → Several
in_turn [] = nothing
in_turn (e ∷ []) = followed e [] nothing
in_turn (e ∷ f ∷ es) = followed e (discards e.ty) (in_turn (f ∷ es))

abbrev pub whole : Several → List Operation → TypeTree → Emitted
whole s tail ty = plain ty (s.size + kept_bytes s.goes_on (bytes tail)) (1 + s.nodes) s.goes_on (s.code ++ kept s.goes_on tail)

-- A condition: where it does not hold, it goes on so many bytes behind its end. The literal true needs no code.
abbrev pub condition : Emitted → ℕ → List Operation
condition c n = if c.always then [] else c.test false n

abbrev pub condition_size : Emitted → ℕ
condition_size c = if c.always then 0 else c.test_size false

-- code that runs where a condition holds
abbrev pub if_code : Emitted → Emitted → TypeTree → Emitted
if_code c a ty =
    plain ty (condition_size c + kept_bytes c.goes_on a.size) (1 + c.nodes + a.nodes) (if c.always then a.goes_on else c.goes_on)
    (condition c a.size ++ kept c.goes_on a.code)

-- the jump over the code for the other way
abbrev pub over : Emitted → ℕ → List Operation
over a n = kept a.goes_on (Jump (pos (n + 3)) ∷ [])

abbrev pub over_size : Emitted → ℕ
over_size a = kept_bytes a.goes_on 3

-- one code where a condition holds, and another where it does not
abbrev pub either_ops : Emitted → Emitted → Emitted → List Operation
either_ops c a b = c.test false (a.size + over_size a) ++ kept c.goes_on (a.code ++ (over a b.size ++ b.code))

abbrev pub either_bytes : Emitted → Emitted → Emitted → ℕ
either_bytes c a b = c.test_size false + kept_bytes c.goes_on (a.size + over_size a + b.size)

-- Where the condition is the literal true, there is no other way.
abbrev pub if_else_code : Emitted → Emitted → Emitted → TypeTree → Emitted
if_else_code c a b ty =
    plain ty (if c.always then a.size else either_bytes c a b) (1 + c.nodes + a.nodes + b.nodes) (if c.always then a.goes_on else c.goes_on && (a.goes_on || b.goes_on))
    (if c.always then a.code else either_ops c a b)

-- the jump back of a loop whose turn has so many bytes
abbrev pub returns : Emitted → ℕ → List Operation
returns a n = kept a.goes_on (discards a.ty ++ Jump (back n) ∷ [])

abbrev pub body_size : Emitted → ℕ
body_size a = a.size + kept_bytes a.goes_on (bytes (discards a.ty) + 3)

-- code that runs as long as a condition holds: so a loop goes on where its condition can fail
abbrev pub while_code : Emitted → Emitted → TypeTree → Emitted
while_code c a ty =
    plain ty (condition_size c + kept_bytes c.goes_on (body_size a)) (1 + c.nodes + a.nodes) (c.goes_on && not c.always)
    (condition c (body_size a) ++ kept c.goes_on (a.code ++ returns a (condition_size c + a.size + bytes (discards a.ty))))

-- the code of a node, by its kind and its static type, from its children's
abbrev pub kind_code : Kind-F (TypeTree → Emitted) Emitted → TypeTree → Emitted
kind_code (Kind-F.IntLit n) ty = leaf (PushInt n ∷ []) ty
kind_code (Kind-F.StrLit t) ty = leaf (PushText t ∷ []) ty
kind_code (Kind-F.BoolLit b) ty = truth_code b ty
kind_code (Kind-F.LocalRead x) ty = leaf (loads ty x) ty
kind_code (Kind-F.LocalWrite x e) ty = then_code e (stores e.ty x) ty
kind_code (Kind-F.Declare x None) ty = leaf [] ty
kind_code (Kind-F.Declare x (Some e)) ty = then_code e (stores e.ty x) ty
kind_code (Kind-F.NumBinary o a b) ty = two_code a b (Compute (operator_of o) ∷ []) ty
kind_code (Kind-F.NumUnary unary.Minus a) ty = then_code a (Negate ∷ []) ty
kind_code (Kind-F.NumCompare o a b) ty = compared a b (λ w. test_of w o) ty
kind_code (Kind-F.Equal a b) ty = compared a b equal_test ty
kind_code (Kind-F.Not a) ty = negated a ty
kind_code (Kind-F.And a b) ty = short false a b ty
kind_code (Kind-F.Or a b) ty = short true a b ty
kind_code (Kind-F.Concat parts) ty = whole (texts parts) [] ty
kind_code (Kind-F.CallNative native.ConsoleWrite args) ty = whole (values args) (Call helper.ConsoleWrite ∷ []) ty
kind_code (Kind-F.Block parts) ty = whole (in_turn parts) [] ty
kind_code (Kind-F.If c a None) ty = if_code c a ty
kind_code (Kind-F.If c a (Some b)) ty = if_else_code c a b ty
kind_code (Kind-F.While label c a) ty = while_code c a ty

abbrev pub core_code : Core-F (TypeTree → Emitted) Emitted → Emitted
core_code c = c.kind c.ty

abbrev pub code_of : Core → Emitted
code_of e = fold-Core (TypeTree → Emitted) Emitted kind_code core_code e

-- a body's code, and the return behind it
abbrev pub body_code : Core → List Operation
body_code body = (code_of body).code ++ kept (code_of body).goes_on (discards body.ty ++ Leave ∷ [])
