-- What is known at a place of compiled code, and what a walk over a tree has passed.
use Rattle.std.specs.Prelude.{◌≡◌, ℕ, ◌+◌, ◌<◌, ◌==◌, slice_set, ◌&&◌, ◌||◌, not, if◌then◌else◌, List, [], ◌∷◌, ◌++◌, Bool, true, false, Option, Some, None, map, length, reverse, get_or, drop}
use Rattle.kc_core.specs.declared.tree.TypeTree.{TypeTree}
use Rattle.kc_core.specs.declared.tree.BinaryOp.{BinaryOp}
use Rattle.kc_core.specs.declared.tree.UnaryOp.TheVariants as unary
use Rattle.kc_core.specs.declared.tree.Native.TheVariants as native
use Rattle.kc_core.specs.declared.tree.Local.{Local}
use Rattle.kc_core.specs.declared.tree.Core.{Core}
use Rattle.kc_core.specs.declared.tree.Kind.TheOpen.{Kind-F}
use Rattle.kc_core.specs.Formed.{Assigned}
use Rattle.class_file.specs.declared.class.VType.{VType}
use Rattle.class_file.specs.declared.class.VType.TheVariants.{Integer}
use Rattle.class_file.specs.declared.row.Test.{Test}
use Rattle.class_file.specs.declared.instr.Instr.{Instr}
use Rattle.class_file.specs.Rows.{length_of, row_of}
use Rattle.class_file.specs.Verification as verification
use Rattle.class_file.specs.Verification.{is_place}
use Rattle.stack_code.specs.declared.constants.Helper.TheVariants as helper
use Rattle.stack_code.specs.declared.frames.Walk.{Walk}
use Rattle.stack_code.specs.declared.frames.Operand.{Operand}
use Rattle.stack_code.specs.declared.frames.Operand.TheVariants as operand
use Rattle.stack_code.specs.declared.frames.Branch.{Branch}
use Rattle.stack_code.specs.Code.{Operation, bytes_of, bytes, kept, two_ops, JumpIf, truth_test, compared, truth, condition, either_ops, to_text, Call, values, Emitted, Several}
use Rattle.stack_code.specs.Frames.{Known, text_type, Traced, TracedSeveral, traced_kind, traced_of, kept_known, with_assigned, behind, two_known, compared_traced, frames_from, truth_known, both, meeting, held, condition_known, either_known, in_line, values_traced, texts_traced, further_texts_traced}

abbrev pub operand_type : Operand → VType
operand_type operand.Number = Integer
operand_type operand.Text = text_type

-- the locals whose flags are set, and the places
abbrev pub set_of : List Bool → ℕ → Bool
set_of flags x = get_or flags x false

-- the flags of the locals from this number on, where those that another set lacks are not set
abbrev pub met : List Bool → ℕ → Assigned → List Bool
met [] x other = []
met (flag ∷ flags) x other = (flag && other x) ∷ met flags (x + 1) other

-- what is known where the walk stands
abbrev pub known_of : Walk → Known
known_of w = record { assigned = set_of w.assigned.items; stack = map operand_type (reverse w.stack.items) }

-- The walk stays where it is, and knows this.
pub record Moves (s t : Walk) (k : Known) : Type 0 where
  pub at : t.at ≡ s.at
  pub frames : t.frames.items ≡ s.frames.items
  pub known : known_of t ≡ k

-- The walk has passed these operations, before each of which it knew that, if it walks over code that is written; and now it
-- knows this.
pub record Walks (locals : List Local) (entry : ℕ → Bool) (live : Bool) (s t : Walk) (os : List Operation) (ks : List Known) (k : Known) : Type 0 where
  pub even : length os ≡ length ks
  pub at : t.at ≡ s.at + bytes (kept live os)
  pub frames : t.frames.items ≡ s.frames.items ++ frames_from locals entry s.at (kept live os) (kept_known live ks)
  pub known : known_of t ≡ k

-- one operation of so many bytes, which changes nothing that is known
abbrev pub WalksOne : List Local → (ℕ → Bool) → Bool → Walk → Walk → ℕ → Type 0
WalksOne locals entry live s t n = (o : Operation) → bytes_of o ≡ n → Walks locals entry live s t (o ∷ []) (known_of s ∷ []) (known_of s)

-- The walk has passed a node's code, and operations that take its value, where it goes on.
pub record DoesLine (locals : List Local) (entry : ℕ → Bool) (live : Bool) (s t : Walk) (x : Traced) (tail : List Operation) (tail_known : Known → List Known) (goes : Bool) : Type 0 where
  pub goes_is : goes ≡ x.emitted.goes_on
  pub walks : Walks locals entry live s t (x.emitted.code ++ kept x.emitted.goes_on tail) (x.known (known_of s) ++ kept_known x.emitted.goes_on (tail_known (behind x (known_of s)))) (with_assigned (x.after (known_of s).assigned) (known_of s))

-- one operation of so many bytes behind the node's code
abbrev pub DoesOne : List Local → (ℕ → Bool) → Bool → Walk → Walk → Traced → ℕ → Bool → Type 0
DoesOne locals entry live s t x n goes = (o : Operation) → bytes_of o ≡ n → DoesLine locals entry live s t x (o ∷ []) (λ k. k ∷ []) goes

-- The walk has passed two nodes' codes, and one operation that takes their values.
pub record DoesBoth (locals : List Local) (entry : ℕ → Bool) (live : Bool) (s t : Walk) (a b : Traced) (o : Operation) (goes : Bool) : Type 0 where
  pub goes_is : goes ≡ (a.emitted.goes_on && b.emitted.goes_on)
  pub walks : Walks locals entry live s t (two_ops a.emitted b.emitted (o ∷ [])) (two_known a b (known_of s)) (with_assigned (b.after (a.after (known_of s).assigned)) (known_of s))

abbrev pub DoesTwo : List Local → (ℕ → Bool) → Bool → Walk → Walk → Traced → Traced → ℕ → Bool → Type 0
DoesTwo locals entry live s t a b n goes = (o : Operation) → bytes_of o ≡ n → DoesBoth locals entry live s t a b o goes

-- The walk has passed a node's code, without its value; `goes` says whether that goes on.
pub record Does (locals : List Local) (entry : ℕ → Bool) (live : Bool) (s t : Walk) (x : Traced) (goes : Bool) : Type 0 where
  pub goes_is : goes ≡ x.emitted.goes_on
  pub walks : Walks locals entry live s t x.emitted.code (x.known (known_of s)) (with_assigned (x.after (known_of s).assigned) (known_of s))

-- The walk has passed the test of a node's value.
pub record Tests (locals : List Local) (entry : ℕ → Bool) (live : Bool) (s t : Walk) (x : Traced) (when : Bool) (b : Branch) : Type 0 where
  pub goes_is : b.goes ≡ x.emitted.goes_on
  pub exits_is : b.exits ≡ x.exits when
  pub jumped_is : set_of b.jumped.items ≡ x.jumped when (known_of s).assigned
  pub walks : (n : ℕ) → Walks locals entry live s t (x.emitted.test when n) (x.known_test when (known_of s)) (with_assigned (x.passed when (known_of s).assigned) (known_of s))

-- A test of the node looks at its value.
pub record LooksAtValue (x : Traced) : Type 0 where
  pub exits : (w : Bool) → x.exits w ≡ x.emitted.goes_on
  pub passed : (w : Bool) → x.passed w ≡ x.after
  pub jumped : (w : Bool) → x.jumped w ≡ x.after
  pub test : (w : Bool) (n : ℕ) → x.emitted.test w n ≡ x.emitted.code ++ kept x.emitted.goes_on (JumpIf (truth_test w) (n + 3) ∷ [])
  pub known_test : (w : Bool) (k : Known) → x.known_test w k ≡ x.known k ++ kept_known x.emitted.goes_on (behind x k ∷ [])

-- its test, if it is so
abbrev pub TestsPlain : List Local → (ℕ → Bool) → Bool → Walk → Walk → Traced → Branch → Type 0
TestsPlain locals entry live s t x b = LooksAtValue x → (when : Bool) → Tests locals entry live s t x when b

-- two nodes whose values are compared
abbrev pub DoesCompared : List Local → (ℕ → Bool) → Bool → Walk → Walk → Traced → Traced → Branch → Type 0
DoesCompared locals entry live s t a b r = (test : Bool → Test) (ty : TypeTree) (when : Bool) → Tests locals entry live s t (compared_traced (compared a.emitted b.emitted test ty) a b) when r

-- the values of a test that goes on elsewhere where these locals are assigned
abbrev pub PassesTruth : List Local → (ℕ → Bool) → Bool → Walk → Walk → Assigned → Type 0
PassesTruth locals entry live s t jumped = Walks locals entry live s t truth (truth_known (known_of s) (with_assigned jumped (known_of s))) (with_assigned (both (known_of s).assigned jumped) (known_of s))

-- The walk has passed a condition.
pub record TestsCondition (locals : List Local) (entry : ℕ → Bool) (live : Bool) (s t : Walk) (c : Traced) (b : Branch) : Type 0 where
  pub goes_is : b.goes ≡ c.emitted.goes_on
  pub exits_is : b.exits ≡ (not c.emitted.always && c.exits false)
  pub jumped_is : set_of b.jumped.items ≡ (if c.emitted.always then (known_of s).assigned else c.jumped false (known_of s).assigned)
  pub walks : (n : ℕ) → Walks locals entry live s t (condition c.emitted n) (condition_known c (known_of s)) (with_assigned (held c (known_of s).assigned) (known_of s))

-- The walk has passed both ways of a choice.
pub record DoesEither (locals : List Local) (entry : ℕ → Bool) (live : Bool) (s t : Walk) (c a b : Traced) (goes : Bool) : Type 0 where
  pub goes_is : goes ≡ (c.emitted.goes_on && (a.emitted.goes_on || b.emitted.goes_on))
  pub walks : Walks locals entry live s t (either_ops c.emitted a.emitted b.emitted) (either_known c a b (known_of s)) (with_assigned (meeting a.emitted.goes_on (a.after (c.passed false (known_of s).assigned)) (b.after (c.jumped false (known_of s).assigned))) (known_of s))

-- The walk has passed a node's code, and its value stands on the stack.
pub record DoesValue (locals : List Local) (entry : ℕ → Bool) (live : Bool) (s t : Walk) (x : Traced) (goes : Bool) : Type 0 where
  pub goes_is : goes ≡ x.emitted.goes_on
  pub walks : Walks locals entry live s t x.emitted.code (x.known (known_of s)) (behind x (known_of s))

abbrev pub emitted_all : List Traced → List Emitted
emitted_all xs = map (λ (x : Traced). x.emitted) xs

-- The walk has passed nodes whose values are needed, without their values.
pub record DoesValues (locals : List Local) (entry : ℕ → Bool) (live : Bool) (s t : Walk) (xs : List Traced) (goes : Bool) : Type 0 where
  pub goes_is : goes ≡ (values (emitted_all xs)).goes_on
  pub walks : Walks locals entry live s t (values (emitted_all xs)).code ((values_traced xs).known (known_of s)) (with_assigned ((values_traced xs).after (known_of s).assigned) (known_of s))

-- the parts of a text from this place on
abbrev pub texts_traced_from : Bool → List Traced → TracedSeveral
texts_traced_from true es = texts_traced es
texts_traced_from false es = further_texts_traced es

-- the stack before a part of a text
abbrev pub texts_stack : Bool → List VType → List VType
texts_stack true types = types
texts_stack false types = text_type ∷ types

-- what puts a text behind the one below it
abbrev pub joined : Bool → List Operation
joined true = []
joined false = Call helper.TextsConcat ∷ []

-- the stack with a text in place of the one below, if there is one
abbrev pub with_text : Bool → List VType → List VType
with_text true types = text_type ∷ types
with_text false types = text_type ∷ drop 1 types

-- The walk has passed a part of a text.
pub record DoesText (locals : List Local) (entry : ℕ → Bool) (live : Bool) (s t : Walk) (x : Traced) (first : Bool) (ty : TypeTree) (goes : Bool) : Type 0 where
  pub goes_is : goes ≡ x.emitted.goes_on
  pub walks : Walks locals entry live s t (x.emitted.code ++ kept x.emitted.goes_on (to_text ty ++ joined first)) (x.known (known_of s) ++ kept_known x.emitted.goes_on (in_line (to_text ty ++ joined first) (behind x (known_of s)))) (record { assigned = x.after (known_of s).assigned; stack = with_text first (known_of s).stack })

-- the same of a node of this kind, whatever its type
abbrev pub DoesKind : List Local → (ℕ → Bool) → Bool → Walk → Walk → Kind-F (TypeTree → Traced) Traced → Bool → Type 0
DoesKind locals entry live s t y goes = (ty : TypeTree) → Does locals entry live s t (traced_kind y ty) goes

abbrev pub TestsKind : List Local → (ℕ → Bool) → Bool → Walk → Walk → Kind-F (TypeTree → Traced) Traced → Bool → Branch → Type 0
TestsKind locals entry live s t y when b = (ty : TypeTree) → Tests locals entry live s t (traced_kind y ty) when b

-- the kinds of nodes over their parts
abbrev pub Layer : Type 0
Layer = Kind-F (TypeTree → Traced) Traced

abbrev pub write_layer : ℕ → Traced → Layer
write_layer x e = Kind-F.LocalWrite x e

abbrev pub minus_layer : Traced → Layer
minus_layer e = Kind-F.NumUnary unary.Minus e

abbrev pub binary_layer : BinaryOp → Traced → Traced → Layer
binary_layer op a b = Kind-F.NumBinary op a b

abbrev pub short_layer : Bool → Traced → Traced → Layer
short_layer true a b = Kind-F.Or a b
short_layer false a b = Kind-F.And a b

abbrev pub texts_layer : List Traced → Layer
texts_layer es = Kind-F.Concat es

abbrev pub native_layer : List Traced → Layer
native_layer es = Kind-F.CallNative native.ConsoleWrite es

abbrev pub block_layer : List Traced → Layer
block_layer es = Kind-F.Block es

abbrev pub if_layer : Traced → Traced → Layer
if_layer c a = Kind-F.If c a None

abbrev pub if_else_layer : Traced → Traced → Traced → Layer
if_else_layer c a b = Kind-F.If c a (Some b)

abbrev pub declare_layer : ℕ → Option Core → Layer
declare_layer x None = Kind-F.Declare x None
declare_layer x (Some e) = Kind-F.Declare x (Some (traced_of e))

abbrev pub choice_layer : Traced → Traced → Option Core → Layer
choice_layer c a None = Kind-F.If c a None
choice_layer c a (Some b) = Kind-F.If c a (Some (traced_of b))

abbrev pub while_layer : Traced → Traced → Layer
while_layer c a = Kind-F.While 0 c a

-- A front of the operations of several nodes is passed, and `rest` is left; `on` says whether the front goes on.
pub record PartlyWalks (locals : List Local) (entry : ℕ → Bool) (live on : Bool) (s t : Walk) (rest total : Several) (left whole : TracedSeveral) : Type 0 where
  pub front : List Operation
  pub front_known : List Known
  pub walks : Walks locals entry live s t front front_known (known_of t)
  pub code : front ++ kept on rest.code ≡ total.code
  pub known : front_known ++ kept_known on (left.known (known_of t)) ≡ whole.known (known_of s)
  pub after : left.after (known_of t).assigned ≡ whole.after (known_of s).assigned
  pub goes : (on && rest.goes_on) ≡ total.goes_on

-- ---- the entries of some code

-- whether an instruction jumps to a place, or stands right before it and does not go on
abbrev pub enters : ℕ → Instr → ℕ → Bool
enters at i pc = is_place (verification.jump_of (row_of at i)) pc || (not (verification.goes_on (row_of at i)) && at + length_of i == pc)

-- whether one of them does
abbrev pub entered : ℕ → List Instr → ℕ → Bool
entered at [] pc = false
entered at (i ∷ is) pc = enters at i pc || entered (at + length_of i) is pc

-- the flags with a place's set, if there is one
abbrev pub flagged : List Bool → Option ℕ → List Bool
flagged flags None = flags
flagged flags (Some to) = slice_set flags to true

-- the flags have the entries that were met, and the others are in the rest, which begins at a place
pub record HasEntries (flags : List Bool) (code : List Instr) (count at : ℕ) (rest : List Instr) : Type 0 where
  pub long : length flags ≡ count
  pub holds : (pc : ℕ) → pc < count → (set_of flags pc || entered at rest pc) ≡ entered 0 code pc
