-- What a program does, with a bound on the nodes that it enters.
use Rattle.std.specs.Ordering.{int_eq}
use Rattle.std.specs.Prelude.{ℕ, zero, suc, Bool, true, false, List, [], ◌∷◌, ◌++◌, length, replicate, Option, Some, None, slice_get, slice_set, ℤ, codes, not}
use Rattle.kc_text.specs.Unicode.{utf8_of}
use Rattle.kc_core.specs.declared.tree.Span.{Span}
use Rattle.kc_core.specs.declared.tree.TypeTree.{TypeTree}
use Rattle.kc_core.specs.declared.tree.UnaryOp.TheVariants as unary
use Rattle.kc_core.specs.declared.tree.Native.{Native}
use Rattle.kc_core.specs.declared.tree.Native.TheVariants as native_is
use Rattle.kc_core.specs.declared.tree.Function.{Function}
use Rattle.kc_core.specs.declared.tree.Program.{Program}
use Rattle.kc_core.specs.declared.tree.Core.{Core}
use Rattle.kc_core.specs.declared.tree.Kind.{Kind, out-Kind}
use Rattle.kc_core.specs.declared.tree.Kind.TheOpen.{Kind-F}
use Rattle.kc_core.specs.Runs.{Outcome, Going, Over}
use Rattle.kc_core.specs.Values.{Value, Int, Boolean, Text, UnitValue, has_type, arithmetic, negated, compares, text_of}

-- an exception: its class, by its name in class files, and its message
pub record Exception : Type 0 where
  pub class : List ℕ
  pub message : Option (List ℕ)

abbrev pub division_by_zero : Exception
division_by_zero = record { class = codes "java/lang/ArithmeticException"; message = Some (codes "/ by zero") }

-- What is known between two nodes: the locals of the activation, unset ones being none; the bytes of the standard input that
-- are left; the bytes printed so far; and the units that are left.
pub record State : Type 0 where
  pub locals : List (Option Value)
  pub input : List ℕ
  pub out : List ℕ
  pub units : ℕ

-- what evaluating a node comes to: a value, a throw, no more units, or a break of the rules at some node
pub data Completion : Type 0 where
  Gives : (v : Value) (s : State) → Completion
  Throws : (x : Exception) (s : State) → Completion
  Stops : (s : State) → Completion
  Breaks : (at : Span) (s : State) → Completion

-- goes on from a value, and passes on all else
abbrev pub then_do : Completion → (Value → State → Completion) → Completion
then_do (Gives v s) go = go v s
then_do (Throws x s) go = Throws x s
then_do (Stops s) go = Stops s
then_do (Breaks at s) go = Breaks at s

-- takes one unit, or stops
abbrev pub enter : ℕ → State → (State → Completion) → Completion
enter zero s go = Stops s
enter (suc u) s go = go (record s { units = u })

abbrev pub if_typed : Bool → Span → Value → State → Completion
if_typed true at v s = Gives v s
if_typed false at v s = Breaks at s

-- a node's value has the node's static type
abbrev pub checked : Span → TypeTree → Value → State → Completion
checked at ty v s = if_typed (has_type v ty) at v s

abbrev pub read : Span → Option (Option Value) → State → Completion
read at (Some (Some v)) s = Gives v s
read at (Some None) s = Breaks at s
read at None s = Breaks at s

-- a local gets this content, if there is such a local
abbrev pub set_local : Span → Option (Option Value) → ℕ → Option Value → State → Completion
set_local at (Some old) x content s = Gives UnitValue (record s { locals = slice_set s.locals x content })
set_local at None x content s = Breaks at s

abbrev pub number_or_zero_divisor : Option ℤ → State → Completion
number_or_zero_divisor (Some z) s = Gives (Int z) s
number_or_zero_divisor None s = Throws division_by_zero s

abbrev pub on_int : Span → Value → (ℤ → State → Completion) → State → Completion
on_int at (Int z) go s = go z s
on_int at (Boolean b) go s = Breaks at s
on_int at (Text t) go s = Breaks at s
on_int at UnitValue go s = Breaks at s

abbrev pub on_boolean : Span → Value → (Bool → State → Completion) → State → Completion
on_boolean at (Int z) go s = Breaks at s
on_boolean at (Boolean b) go s = go b s
on_boolean at (Text t) go s = Breaks at s
on_boolean at UnitValue go s = Breaks at s

-- one of two ways
abbrev pub either : Bool → (State → Completion) → (State → Completion) → State → Completion
either true held failed s = held s
either false held failed s = failed s

-- two Ints in order, and then what is done with them
abbrev pub two_ints : Span → (Core → State → Completion) → Core → Core → (ℤ → ℤ → State → Completion) → State → Completion
two_ints at ev a b go s = then_do (ev a s) (λ x s1. then_do (ev b s1) (λ y. on_int at x (λ m. on_int at y (go m))))

-- a Boolean, and what it turns into
abbrev pub truth_of : Span → (Core → State → Completion) → (Bool → Bool) → Core → State → Completion
truth_of at ev turn a s = then_do (ev a s) (λ v. on_boolean at v (λ t. Gives (Boolean (turn t))))

-- a test first, and then one of two ways
abbrev pub tested : Span → (Core → State → Completion) → Core → (State → Completion) → (State → Completion) → State → Completion
tested at ev c held failed s = then_do (ev c s) (λ v. on_boolean at v (λ t. either t held failed))

-- the parts in order; the value is the last one's
abbrev pub in_order : (Core → State → Completion) → List Core → Value → State → Completion
in_order ev [] v s = Gives v s
in_order ev (e ∷ es) v s = then_do (ev e s) (in_order ev es)

-- the parts in order, each turned into a text before the next one; their texts are put behind the text that is there
abbrev pub joined : (Core → State → Completion) → List Core → List ℕ → State → Completion
joined ev [] text s = Gives (Text text) s
joined ev (e ∷ es) text s = then_do (ev e s) (λ v. joined ev es (text ++ text_of v))

-- operands in order, and then what is done with their values
abbrev pub operands : (Core → State → Completion) → List Core → (List Value → State → Completion) → State → Completion
operands ev [] go s = go [] s
operands ev (e ∷ es) go s = then_do (ev e s) (λ v. operands ev es (λ vs. go (v ∷ vs)))

-- what a native does with its arguments
abbrev pub native : Span → Native → List Value → State → Completion
native at native_is.ConsoleWrite (Text t ∷ []) s = Gives UnitValue (record s { out = s.out ++ utf8_of t })
native at native_is.ConsoleWrite _ s = Breaks at s

-- One node, where `ev` is the meaning of nodes one level down, and `again` that of this very node: a loop's next turn.
abbrev pub rule : Span → (Core → State → Completion) → (State → Completion) → Kind-F Kind Core → State → Completion
rule at ev again (Kind-F.IntLit n) s = Gives (Int n) s
rule at ev again (Kind-F.StrLit t) s = Gives (Text t) s
rule at ev again (Kind-F.BoolLit b) s = Gives (Boolean b) s
rule at ev again (Kind-F.LocalRead x) s = read at (slice_get s.locals x) s
rule at ev again (Kind-F.LocalWrite x e) s = then_do (ev e s) (λ v s1. set_local at (slice_get s1.locals x) x (Some v) s1)
rule at ev again (Kind-F.Declare x None) s = set_local at (slice_get s.locals x) x None s
rule at ev again (Kind-F.Declare x (Some e)) s = then_do (ev e s) (λ v s1. set_local at (slice_get s1.locals x) x (Some v) s1)
rule at ev again (Kind-F.NumBinary op a b) s = two_ints at ev a b (λ m n. number_or_zero_divisor (arithmetic op m n)) s
rule at ev again (Kind-F.NumUnary unary.Minus a) s = then_do (ev a s) (λ x. on_int at x (λ m. Gives (Int (negated m))))
rule at ev again (Kind-F.NumCompare order a b) s = two_ints at ev a b (λ m n. Gives (Boolean (compares order m n))) s
rule at ev again (Kind-F.Equal a b) s = two_ints at ev a b (λ m n. Gives (Boolean (int_eq m n))) s
rule at ev again (Kind-F.Not a) s = truth_of at ev not a s
rule at ev again (Kind-F.And a b) s = tested at ev a (truth_of at ev (λ t. t) b) (Gives (Boolean false)) s
rule at ev again (Kind-F.Or a b) s = tested at ev a (Gives (Boolean true)) (truth_of at ev (λ t. t) b) s
rule at ev again (Kind-F.Concat parts) s = joined ev parts [] s
rule at ev again (Kind-F.CallNative f values) s = operands ev values (native at f) s
rule at ev again (Kind-F.Block parts) s = in_order ev parts UnitValue s
rule at ev again (Kind-F.If c a None) s = tested at ev c (ev a) (Gives UnitValue) s
rule at ev again (Kind-F.If c a (Some b)) s = tested at ev c (ev a) (ev b) s
rule at ev again (Kind-F.While label c a) s = tested at ev c (λ s1. then_do (ev a s1) (λ v. again)) (Gives UnitValue) s

-- A node, entered at most d deep. Each node entered takes a unit, and so does each turn of a loop; with as many units as d, the
-- depth never runs out first.
abbrev pub eval : ℕ → Core → State → Completion
eval zero e s = Stops s
eval (suc d) e s = enter s.units s (λ s1. then_do (rule e.span (eval d) (eval d e) (out-Kind e.kind) s1) (checked e.span e.ty))

-- how a run of the source ends
pub data Ending : Type 0 where
  Ended : Ending
  Threw : (x : Exception) → Ending
  Broken : (at : Span) → Ending

abbrev pub outcome_of : Completion → Outcome Ending
outcome_of (Gives v s) = Over Ended s.out
outcome_of (Throws x s) = Over (Threw x) s.out
outcome_of (Stops s) = Going s.out
outcome_of (Breaks at s) = Over (Broken at) s.out

abbrev pub unset : ℕ → List (Option Value)
unset n = replicate n None

abbrev pub start_of : Option Function → List ℕ → ℕ → Outcome Ending
start_of None input n = Going []
start_of (Some f) input n = outcome_of (eval n f.body (record { locals = unset (length f.locals); input = input; out = []; units = n }))

-- the program from the start of its function `main`, over the bytes of an input, with n units
abbrev pub meaning : Program → ℕ → List ℕ → ℕ → Outcome Ending
meaning program main input n = start_of (slice_get program.functions main) input n
