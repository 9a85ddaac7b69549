-- What is known before each operation of compiled code, and the frames that its method gives
-- (Java Virtual Machine Specification SE 8, 4.7.4 and 4.10.1).
use Rattle.std.specs.Prelude.{◌≡◌, ℕ, ◌+◌, ◌≤◌, ◌&&◌, ◌||◌, ◌==◌, List, [], ◌∷◌, ◌++◌, Option, Some, None, Bool, true, false, not, pos, if◌then◌else◌, drop, max, reverse}
use Rattle.kc_core.specs.declared.tree.TypeTree.{TypeTree}
use Rattle.kc_core.specs.declared.tree.TypeTree.TheVariants as type_is
use Rattle.kc_core.specs.declared.tree.UnaryOp.TheVariants as unary
use Rattle.kc_core.specs.declared.tree.Native.TheVariants as native
use Rattle.kc_core.specs.declared.tree.Local.{Local}
use Rattle.kc_core.specs.declared.tree.Function.{Function}
use Rattle.kc_core.specs.declared.tree.Core.{Core}
use Rattle.kc_core.specs.declared.tree.Kind.TheFolds.{fold-Core, map-Kind}
use Rattle.kc_core.specs.declared.tree.Kind.TheOpen.{Kind-F, Core-F}
use Rattle.kc_core.specs.declared.tree.Program.{Program}
use Rattle.kc_core.specs.Formed.{Assigned, none_assigned, marked, FormedMain}
use Rattle.class_file.specs.declared.value.Kind.TheVariants as kinds
use Rattle.class_file.specs.declared.class.VType.{VType}
use Rattle.class_file.specs.declared.class.VType.TheVariants.{Top, Integer, Object}
use Rattle.class_file.specs.declared.class.Frame.{Frame}
use Rattle.class_file.specs.declared.class.Method.{Method}
use Rattle.class_file.specs.Rows.{target}
use Rattle.class_file.specs.Typing.{same, widths}
use Rattle.class_file.specs.declared.class.Set.{Set}
use Rattle.class_file.specs.Verification.{is_place, Verifies}
use Rattle.class_file.specs.Lots.{text_name}
use Rattle.stack_code.specs.declared.constants.Helper.{Helper}
use Rattle.stack_code.specs.declared.constants.Helper.TheVariants as helper
use Rattle.stack_code.specs.Code.{Operation, PushInt, PushText, Load, Store, Compute, Negate, Discard, Call, Jump, JumpIf, JumpCompare, Leave, bytes_of, Emitted, kind_code, stores, to_text, discards, body_code}
use Rattle.stack_code.specs.Agrees.{IsCompiled}

-- ---- what is known before an operation, and behind it

-- the locals that are assigned, and the types of the values on the stack, its top first
pub record Known : Type 0 where
  pub assigned : Assigned
  pub stack : List VType

abbrev pub text_type : VType
text_type = Object text_name

-- the values of a static type, of which `Unit` has none
abbrev pub value_types : TypeTree → List VType
value_types type_is.Int = Integer ∷ []
value_types type_is.Boolean = Integer ∷ []
value_types type_is.String = text_type ∷ []
value_types type_is.Unit = []

abbrev pub pushed : VType → Known → Known
pushed t k = record { assigned = k.assigned; stack = t ∷ k.stack }

abbrev pub popped : ℕ → Known → Known
popped n k = record { assigned = k.assigned; stack = drop n k.stack }

abbrev pub called : Helper → Known → Known
called helper.ConsoleWrite k = popped 1 k
called helper.TextsConcat k = pushed text_type (popped 2 k)
called helper.TextsOfInt k = pushed text_type (popped 1 k)
called helper.TextsOfBoolean k = pushed text_type (popped 1 k)

-- what an operation makes of what is known
abbrev pub effect : Operation → Known → Known
effect (PushInt z) k = pushed Integer k
effect (PushText t) k = pushed text_type k
effect (Load kinds.Ref x) k = pushed text_type k
effect (Load _ x) k = pushed Integer k
effect (Store _ x) k = record { assigned = marked x true k.assigned; stack = drop 1 k.stack }
effect (Compute o) k = pushed Integer (popped 2 k)
effect Negate k = pushed Integer (popped 1 k)
effect Discard k = popped 1 k
effect (Call m) k = called m k
effect (Jump d) k = k
effect (JumpIf t n) k = popped 1 k
effect (JumpCompare t n) k = popped 2 k
effect Leave k = k

-- before each of some operations without jumps, and behind them
abbrev pub in_line : List Operation → Known → List Known
in_line [] k = []
in_line (o ∷ os) k = k ∷ in_line os (effect o k)

abbrev pub behind_line : List Operation → Known → Known
behind_line [] k = k
behind_line (o ∷ os) k = behind_line os (effect o k)

-- ---- the code of a node

-- assigned in both
abbrev pub both : Assigned → Assigned → Assigned
both a b x = a x && b x

-- where the first way is there too, what both ways assign, and else what the second one does
abbrev pub meeting : Bool → Assigned → Assigned → Assigned
meeting true a b = both a b
meeting false a b = b

-- A node's code, and what is known in it: what is assigned behind the code, from what is before it; behind the test of a value,
-- and where that jumps, if it does; and what is known before each operation, one for one.
pub record Traced : Type 0 where
  pub emitted : Emitted
  pub exits : Bool → Bool
  pub after : Assigned → Assigned
  pub passed : Bool → Assigned → Assigned
  pub jumped : Bool → Assigned → Assigned
  pub known : Known → List Known
  pub known_test : Bool → Known → List Known

abbrev pub kept_known : Bool → List Known → List Known
kept_known true ks = ks
kept_known false ks = []

-- the same stack, with other locals assigned
abbrev pub with_assigned : Assigned → Known → Known
with_assigned a k = record { assigned = a; stack = k.stack }

-- behind code that leaves a value of this type
abbrev pub with_value : TypeTree → Assigned → Known → Known
with_value ty a k = record { assigned = a; stack = value_types ty ++ k.stack }

abbrev pub behind : Traced → Known → Known
behind x k = with_value x.emitted.ty (x.after k.assigned) k

-- code that leaves its value, where a test looks at it
abbrev pub plain_traced : Emitted → (Assigned → Assigned) → (Known → List Known) → Traced
plain_traced x after known = record {
  emitted = x;
  exits = λ w. x.goes_on;
  after = after;
  passed = λ w. after;
  jumped = λ w. after;
  known = known;
  known_test = λ w k. known k ++ kept_known x.goes_on (with_value x.ty (after k.assigned) k ∷ []);
}

-- before the three operations that make a value of a test
abbrev pub truth_known : Known → Known → List Known
truth_known held failed = held ∷ pushed Integer held ∷ failed ∷ []

-- code that tests
abbrev pub testing_traced : Emitted → (Bool → Bool) → (Bool → Assigned → Assigned) → (Bool → Assigned → Assigned) → (Bool → Known → List Known) → Traced
testing_traced x exits passed jumped known_test = record {
  emitted = x;
  exits = exits;
  after = λ a. both (passed false a) (jumped false a);
  passed = passed;
  jumped = jumped;
  known = λ k. known_test false k ++ kept_known x.goes_on (truth_known (with_assigned (passed false k.assigned) k) (with_assigned (jumped false k.assigned) k));
  known_test = known_test;
}

abbrev pub leaf_traced : Emitted → Traced
leaf_traced x = plain_traced x (λ a. a) (in_line x.code)

-- a child, and operations without jumps
abbrev pub then_traced : Emitted → Traced → List Operation → (Assigned → Assigned) → Traced
then_traced x e tail mark = plain_traced x (λ a. mark (e.after a)) (λ k. e.known k ++ kept_known e.emitted.goes_on (in_line tail (behind e k)))

-- two children, and an operation that takes their values
abbrev pub two_known : Traced → Traced → Known → List Known
two_known a b k = a.known k ++ kept_known a.emitted.goes_on (b.known (behind a k) ++ kept_known b.emitted.goes_on (behind b (behind a k) ∷ []))

abbrev pub two_traced : Emitted → Traced → Traced → Traced
two_traced x a b = plain_traced x (λ s. b.after (a.after s)) (two_known a b)

abbrev pub compared_traced : Emitted → Traced → Traced → Traced
compared_traced x a b = testing_traced x (λ w. x.goes_on) (λ w s. b.after (a.after s)) (λ w s. b.after (a.after s)) (λ w. two_known a b)

abbrev pub negated_traced : Emitted → Traced → Traced
negated_traced x a = testing_traced x (λ w. a.exits (not w)) (λ w. a.passed (not w)) (λ w. a.jumped (not w)) (λ w. a.known_test (not w))

-- Two sides, of which the first one decides where it is d: the whole goes on elsewhere from both sides where its test is that of d,
-- and else the first side jumps to the end.
abbrev pub short_traced : Emitted → Bool → Traced → Traced → Traced
short_traced x d a b =
    testing_traced x (λ w. (same w d && a.exits d) || (a.emitted.goes_on && b.exits w))
    (λ w s. meeting (not (same w d) && a.exits d) (a.jumped d s) (b.passed w (a.passed d s)))
    (λ w s. meeting (same w d && a.exits d) (a.jumped d s) (b.jumped w (a.passed d s)))
    (λ w k. a.known_test d k ++ kept_known a.emitted.goes_on (b.known_test w (with_assigned (a.passed d k.assigned) k)))

-- several children
pub record TracedSeveral : Type 0 where
  pub after : Assigned → Assigned
  pub known : Known → List Known

abbrev pub nothing_traced : TracedSeveral
nothing_traced = record { after = λ a. a; known = λ k. [] }

abbrev pub followed_traced : Traced → List Operation → TracedSeveral → TracedSeveral
followed_traced e between more = record {
  after = λ a. more.after (e.after a);
  known = λ k. e.known k ++ kept_known e.emitted.goes_on (in_line between (behind e k) ++ more.known (behind_line between (behind e k)));
}

abbrev pub further_texts_traced : List Traced → TracedSeveral
further_texts_traced [] = nothing_traced
further_texts_traced (e ∷ es) = followed_traced e (to_text e.emitted.ty ++ Call helper.TextsConcat ∷ []) (further_texts_traced es)

abbrev pub texts_traced : List Traced → TracedSeveral
texts_traced [] = record { after = λ a. a; known = λ k. k ∷ [] }
texts_traced (e ∷ es) = followed_traced e (to_text e.emitted.ty) (further_texts_traced es)

abbrev pub values_traced : List Traced → TracedSeveral
values_traced [] = nothing_traced
values_traced (e ∷ es) = followed_traced e [] (values_traced es)

abbrev pub in_turn_traced : List Traced → TracedSeveral
in_turn_traced [] = nothing_traced
in_turn_traced (e ∷ []) = followed_traced e [] nothing_traced
in_turn_traced (e ∷ f ∷ es) = followed_traced e (discards e.emitted.ty) (in_turn_traced (f ∷ es))

-- where a condition holds
abbrev pub held : Traced → Assigned → Assigned
held c a = if c.emitted.always then a else c.passed false a

abbrev pub condition_known : Traced → Known → List Known
condition_known c k = if c.emitted.always then [] else c.known_test false k

abbrev pub if_traced : Emitted → Traced → Traced → Traced
if_traced x c a =
    plain_traced x (λ s. meeting (not c.emitted.always && c.exits false) (c.jumped false s) (a.after (held c s)))
    (λ k. condition_known c k ++ kept_known c.emitted.goes_on (a.known (with_assigned (held c k.assigned) k)))

-- before the jump over the other way
abbrev pub over_known : Traced → Known → List Known
over_known a k = kept_known a.emitted.goes_on (behind a k ∷ [])

abbrev pub either_known : Traced → Traced → Traced → Known → List Known
either_known c a b k =
    c.known_test false k
    ++ kept_known c.emitted.goes_on (a.known (with_assigned (c.passed false k.assigned) k) ++ (over_known a (with_assigned (c.passed false k.assigned) k) ++ b.known (with_assigned (c.jumped false k.assigned) k)))

abbrev pub if_else_traced : Emitted → Traced → Traced → Traced → Traced
if_else_traced x c a b =
    plain_traced x
    (λ s. if c.emitted.always then a.after s else meeting a.emitted.goes_on (a.after (c.passed false s)) (b.after (c.jumped false s)))
    (λ k. if c.emitted.always then a.known k else either_known c a b k)

-- A turn of a loop begins with what is known before the loop, since what is assigned stays so.
abbrev pub returns_known : Traced → Known → List Known
returns_known a k = kept_known a.emitted.goes_on (in_line (discards a.emitted.ty ++ Jump (pos 0) ∷ []) (behind a k))

abbrev pub while_traced : Emitted → Traced → Traced → Traced
while_traced x c a =
    plain_traced x (λ s. if c.emitted.always then s else c.jumped false s)
    (λ k. condition_known c k
    ++ kept_known c.emitted.goes_on (a.known (with_assigned (held c k.assigned) k) ++ returns_known a (with_assigned (held c k.assigned) k)))

-- a node whose code is given, by its kind
abbrev pub kind_traced : Emitted → Kind-F (TypeTree → Traced) Traced → Traced
kind_traced x (Kind-F.IntLit n) = leaf_traced x
kind_traced x (Kind-F.StrLit t) = leaf_traced x
kind_traced x (Kind-F.BoolLit b) = leaf_traced x
kind_traced x (Kind-F.LocalRead y) = leaf_traced x
kind_traced x (Kind-F.LocalWrite y e) = then_traced x e (stores e.emitted.ty y) (marked y true)
kind_traced x (Kind-F.Declare y None) = leaf_traced x
kind_traced x (Kind-F.Declare y (Some e)) = then_traced x e (stores e.emitted.ty y) (marked y true)
kind_traced x (Kind-F.NumBinary o a b) = two_traced x a b
kind_traced x (Kind-F.NumUnary unary.Minus a) = then_traced x a (Negate ∷ []) (λ s. s)
kind_traced x (Kind-F.NumCompare o a b) = compared_traced x a b
kind_traced x (Kind-F.Equal a b) = compared_traced x a b
kind_traced x (Kind-F.Not a) = negated_traced x a
kind_traced x (Kind-F.And a b) = short_traced x false a b
kind_traced x (Kind-F.Or a b) = short_traced x true a b
kind_traced x (Kind-F.Concat parts) = plain_traced x (texts_traced parts).after (texts_traced parts).known
kind_traced x (Kind-F.CallNative native.ConsoleWrite args) =
    plain_traced x (values_traced args).after (λ k. (values_traced args).known k ++ kept_known x.goes_on (with_value type_is.String ((values_traced args).after k.assigned) k ∷ []))
kind_traced x (Kind-F.Block parts) = plain_traced x (in_turn_traced parts).after (in_turn_traced parts).known
kind_traced x (Kind-F.If c a None) = if_traced x c a
kind_traced x (Kind-F.If c a (Some b)) = if_else_traced x c a b
kind_traced x (Kind-F.While label c a) = while_traced x c a

abbrev pub emitted_kind : Kind-F (TypeTree → Traced) Traced → TypeTree → Emitted
emitted_kind y ty = kind_code (map-Kind (TypeTree → Traced) Traced (TypeTree → Emitted) Emitted (λ f ty. (f ty).emitted) (λ x. x.emitted) y) ty

abbrev pub traced_kind : Kind-F (TypeTree → Traced) Traced → TypeTree → Traced
traced_kind y ty = kind_traced (emitted_kind y ty) y

abbrev pub traced_core : Core-F (TypeTree → Traced) Traced → Traced
traced_core c = c.kind c.ty

abbrev pub traced_of : Core → Traced
traced_of e = fold-Core (TypeTree → Traced) Traced traced_kind traced_core e

-- ---- a whole body

-- before the first operation
abbrev pub nothing_known : Known
nothing_known = record { assigned = none_assigned; stack = [] }

-- before each operation of a body's code
abbrev pub body_known : Core → List Known
body_known body =
    (traced_of body).known nothing_known ++ kept_known (traced_of body).emitted.goes_on (in_line (discards body.ty ++ Leave ∷ []) (behind (traced_of body) nothing_known))

-- the place to which an operation may jump, and whether it may go on to the next one
abbrev pub jump_of : ℕ → Operation → Option ℕ
jump_of at (Jump d) = Some (target at d)
jump_of at (JumpIf t n) = Some (at + n)
jump_of at (JumpCompare t n) = Some (at + n)
jump_of at _ = None

abbrev pub goes_on : Operation → Bool
goes_on (Jump d) = false
goes_on Leave = false
goes_on _ = true

-- Whether an operation of code that begins at a place jumps to a place, or stands right before it and does not go on to it.
abbrev pub is_entry : ℕ → List Operation → ℕ → Bool
is_entry at [] pc = false
is_entry at (o ∷ os) pc = (is_place (jump_of at o) pc || (not (goes_on o) && at + bytes_of o == pc)) || is_entry (at + bytes_of o) os pc

-- the type of a local while it is assigned
abbrev pub local_type : TypeTree → VType
local_type type_is.Int = Integer
local_type type_is.Boolean = Integer
local_type type_is.String = text_type
local_type type_is.Unit = Top

-- the types of the locals from this number on
abbrev pub local_types : ℕ → List Local → Assigned → List VType
local_types x [] a = []
local_types x (l ∷ ls) a = (if a x then local_type l.ty else Top) ∷ local_types (x + 1) ls a

-- a frame's stack has the top last
abbrev pub frame_at : List Local → ℕ → Known → Frame
frame_at locals at k = record { at = at; locals = local_types 0 locals k.assigned; stack = reverse k.stack; unset = false }

-- the frames of a rest of the code, which begins at a place: one at each place that is an entry
abbrev pub frames_from : List Local → (ℕ → Bool) → ℕ → List Operation → List Known → List Frame
frames_from locals entry at (o ∷ os) (k ∷ ks) =
    if entry at then frame_at locals at k ∷ frames_from locals entry (at + bytes_of o) os ks else frames_from locals entry (at + bytes_of o) os ks
frames_from locals entry at _ _ = []

abbrev pub frames_of : Function → List Frame
frames_of f = frames_from f.locals (is_entry 0 (body_code f.body)) 0 (body_code f.body) (body_known f.body)

-- the most places of the stack that values take before or behind an operation
abbrev pub highest : List Operation → List Known → ℕ
highest (o ∷ os) (k ∷ ks) = max (widths k.stack) (max (widths (effect o k).stack) (highest os ks))
highest _ _ = 0

abbrev pub stack_of : Function → ℕ
stack_of f = highest (body_code f.body) (body_known f.body)

-- The method gives the frames of the function, and has room for its operands.
pub record IsFramed (m : Method) (f : Function) : Type 0 where
  pub frames : m.frames ≡ frames_of f
  pub deep : stack_of f ≤ m.max_stack

-- the law of framed code: a compiled set verifies, whose main is well formed and whose method gives its frames
abbrev pub CompiledVerifies : Type 0
CompiledVerifies = (set : Set) (program : Program) (main : ℕ) (c : IsCompiled set program main) → FormedMain c.function → IsFramed c.method c.function → Verifies set
