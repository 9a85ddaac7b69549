-- Meaning is a lawful run: output only grows, and with more units a node does the same.
use Rattle.std.proofs.Common.{◌≡◌, ℕ, zero, suc, ◌+◌, ◌-◌, List, [], ◌∷◌, ◌++◌, length, Option, Some, None, Bool, true, false, refl, sym, ap, ◌∙◌, subst, arith, suc-add}
use Rattle.std.specs.Prelude.{slice_get, ℤ, not}
use Rattle.kc_text.specs.Unicode.{utf8_of}
use Rattle.kc_core.specs.declared.tree.Span.{Span}
use Rattle.kc_core.specs.declared.tree.UnaryOp.TheVariants as unary
use Rattle.kc_core.specs.declared.tree.Native.{Native}
use Rattle.kc_core.specs.declared.tree.Native.TheVariants as native_is
use Rattle.kc_core.specs.declared.tree.Function.{Function}
use Rattle.kc_core.specs.declared.tree.Program.{Program}
use Rattle.kc_core.specs.declared.tree.Core.{Core}
use Rattle.kc_core.specs.declared.tree.Kind.{Kind, out-Kind}
use Rattle.kc_core.specs.declared.tree.Kind.TheOpen.{Kind-F}
use Rattle.kc_core.specs.Runs.{Outcome, Going, Over, said, IsOver, IsPrefix, Lawful}
use Rattle.kc_core.specs.Values.{Value, Int, Boolean, Text, UnitValue, has_type, arithmetic, text_of}
use Rattle.kc_core.specs.Meaning.{State, Completion, Gives, Throws, Stops, Breaks, then_do, enter, if_typed, checked, read, set_local, number_or_zero_divisor, on_int, on_boolean, either, two_ints, truth_of, tested, in_order, joined, operands, native, rule, eval, Ending, outcome_of, unset, start_of, meaning}
use Rattle.kc_core.specs.Agreement.{prefix_all, prefix_on}

abbrev pub state_of : Completion → State
state_of (Gives v s) = s
state_of (Throws x s) = s
state_of (Stops s) = s
state_of (Breaks at s) = s

-- b units more
abbrev pub up : ℕ → State → State
up b s = record s { units = s.units + b }

-- output only grows: one lemma for each word of Meaning

abbrev pub From : List ℕ → Completion → Type 0
From out r = IsPrefix out (state_of r).out

abbrev pub Grows : (State → Completion) → Type 0
Grows f = (s : State) → From s.out (f s)

pub grows_then : (out : List ℕ) (r : Completion) (go : Value → State → Completion) → ((v : Value) → Grows (go v)) → From out r → From out (then_do r go)
grows_then out (Gives v s) go h g = prefix_on out s.out _ g (h v s)
grows_then out (Throws x s) go h g = g
grows_then out (Stops s) go h g = g
grows_then out (Breaks at s) go h g = g

grows_enter : (u : ℕ) (s : State) (go : State → Completion) → Grows go → From s.out (enter u s go)
grows_enter zero s go h = prefix_all s.out
grows_enter (suc u) s go h = h (record s { units = u })

grows_typed : (is : Bool) (at : Span) (v : Value) → Grows (if_typed is at v)
grows_typed true at v s = prefix_all s.out
grows_typed false at v s = prefix_all s.out

grows_read : (at : Span) (w : Option (Option Value)) → Grows (read at w)
grows_read at (Some (Some v)) s = prefix_all s.out
grows_read at (Some None) s = prefix_all s.out
grows_read at None s = prefix_all s.out

grows_set : (at : Span) (w : Option (Option Value)) (x : ℕ) (content : Option Value) → Grows (set_local at w x content)
grows_set at (Some old) x content s = prefix_all s.out
grows_set at None x content s = prefix_all s.out

grows_number : (w : Option ℤ) → Grows (number_or_zero_divisor w)
grows_number (Some z) s = prefix_all s.out
grows_number None s = prefix_all s.out

grows_int : (at : Span) (v : Value) (go : ℤ → State → Completion) → ((z : ℤ) → Grows (go z)) → Grows (on_int at v go)
grows_int at (Int z) go h s = h z s
grows_int at (Boolean b) go h s = prefix_all s.out
grows_int at (Text t) go h s = prefix_all s.out
grows_int at UnitValue go h s = prefix_all s.out

grows_boolean : (at : Span) (v : Value) (go : Bool → State → Completion) → ((b : Bool) → Grows (go b)) → Grows (on_boolean at v go)
grows_boolean at (Int z) go h s = prefix_all s.out
grows_boolean at (Boolean b) go h s = h b s
grows_boolean at (Text t) go h s = prefix_all s.out
grows_boolean at UnitValue go h s = prefix_all s.out

grows_either : (t : Bool) (held failed : State → Completion) → Grows held → Grows failed → Grows (either t held failed)
grows_either true held failed g h s = g s
grows_either false held failed g h s = h s

grows_native : (at : Span) (f : Native) (vs : List Value) → Grows (native at f vs)
grows_native at native_is.ConsoleWrite [] s = prefix_all s.out
grows_native at native_is.ConsoleWrite (Text t ∷ []) s = (utf8_of t, refl)
grows_native at native_is.ConsoleWrite (Text t ∷ v ∷ vs) s = prefix_all s.out
grows_native at native_is.ConsoleWrite (Int z ∷ vs) s = prefix_all s.out
grows_native at native_is.ConsoleWrite (Boolean b ∷ vs) s = prefix_all s.out
grows_native at native_is.ConsoleWrite (UnitValue ∷ vs) s = prefix_all s.out

module _ (ev : Core → State → Completion) (ih : (e : Core) → Grows (ev e)) where
  grows_order : (es : List Core) (v : Value) → Grows (in_order ev es v)
  grows_order [] v s = prefix_all s.out
  grows_order (e ∷ es) v s = grows_then s.out (ev e s) (in_order ev es) (grows_order es) (ih e s)

  grows_joined : (es : List Core) (text : List ℕ) → Grows (joined ev es text)
  grows_joined [] text s = prefix_all s.out
  grows_joined (e ∷ es) text s = grows_then s.out (ev e s) _ (λ v. grows_joined es (text ++ text_of v)) (ih e s)

  grows_operands : (es : List Core) (go : List Value → State → Completion) → ((vs : List Value) → Grows (go vs)) → Grows (operands ev es go)
  grows_operands [] go h s = h [] s
  grows_operands (e ∷ es) go h s = grows_then s.out (ev e s) _ (λ v. grows_operands es (λ vs. go (v ∷ vs)) (λ vs. h (v ∷ vs))) (ih e s)

  grows_two : (at : Span) (a b : Core) (go : ℤ → ℤ → State → Completion) → ((m n : ℤ) → Grows (go m n)) → Grows (two_ints at ev a b go)
  grows_two at a b go h s = grows_then s.out (ev a s) _ (λ x s1. grows_then s1.out (ev b s1) _ (λ y. grows_int at x _ (λ m. grows_int at y _ (h m))) (ih b s1)) (ih a s)

  grows_tested : (at : Span) (c : Core) (held failed : State → Completion) → Grows held → Grows failed → Grows (tested at ev c held failed)
  grows_tested at c held failed g h s = grows_then s.out (ev c s) _ (λ v. grows_boolean at v _ (λ t. grows_either t held failed g h)) (ih c s)

  grows_truth : (at : Span) (turn : Bool → Bool) (a : Core) → Grows (truth_of at ev turn a)
  grows_truth at turn a s = grows_then s.out (ev a s) _ (λ v. grows_boolean at v _ (λ t s1. prefix_all s1.out)) (ih a s)

  module _ (again : State → Completion) (turn : Grows again) where
    grows_rule : (at : Span) (k : Kind-F Kind Core) → Grows (rule at ev again k)
    grows_rule at (Kind-F.IntLit n) s = prefix_all s.out
    grows_rule at (Kind-F.StrLit t) s = prefix_all s.out
    grows_rule at (Kind-F.BoolLit b) s = prefix_all s.out
    grows_rule at (Kind-F.LocalRead x) s = grows_read at (slice_get s.locals x) s
    grows_rule at (Kind-F.LocalWrite x e) s = grows_then s.out (ev e s) _ (λ v s1. grows_set at (slice_get s1.locals x) x (Some v) s1) (ih e s)
    grows_rule at (Kind-F.Declare x None) s = grows_set at (slice_get s.locals x) x None s
    grows_rule at (Kind-F.Declare x (Some e)) s = grows_then s.out (ev e s) _ (λ v s1. grows_set at (slice_get s1.locals x) x (Some v) s1) (ih e s)
    grows_rule at (Kind-F.NumBinary op a b) s = grows_two at a b _ (λ m n. grows_number (arithmetic op m n)) s
    grows_rule at (Kind-F.NumUnary unary.Minus a) s = grows_then s.out (ev a s) _ (λ x. grows_int at x _ (λ m s1. prefix_all s1.out)) (ih a s)
    grows_rule at (Kind-F.NumCompare order a b) s = grows_two at a b _ (λ m n s1. prefix_all s1.out) s
    grows_rule at (Kind-F.Equal a b) s = grows_two at a b _ (λ m n s1. prefix_all s1.out) s
    grows_rule at (Kind-F.Not a) s = grows_truth at not a s
    grows_rule at (Kind-F.And a b) s = grows_tested at a _ _ (grows_truth at (λ t. t) b) (λ s1. prefix_all s1.out) s
    grows_rule at (Kind-F.Or a b) s = grows_tested at a _ _ (λ s1. prefix_all s1.out) (grows_truth at (λ t. t) b) s
    grows_rule at (Kind-F.Concat parts) s = grows_joined parts [] s
    grows_rule at (Kind-F.CallNative f values) s = grows_operands values (native at f) (grows_native at f) s
    grows_rule at (Kind-F.Block parts) s = grows_order parts UnitValue s
    grows_rule at (Kind-F.If c a None) s = grows_tested at c _ _ (ih a) (λ s1. prefix_all s1.out) s
    grows_rule at (Kind-F.If c a (Some b)) s = grows_tested at c _ _ (ih a) (ih b) s
    grows_rule at (Kind-F.While label c a) s = grows_tested at c _ _ (λ s1. grows_then s1.out (ev a s1) _ (λ v. turn) (ih a s1)) (λ s1. prefix_all s1.out) s

-- a node at one depth, after its unit is taken
abbrev pub entered : ℕ → Core → State → Completion
entered d e s = then_do (rule e.span (eval d) (eval d e) (out-Kind e.kind) s) (checked e.span e.ty)

grows_entered : (d : ℕ) (e : Core) → ((x : Core) → Grows (eval d x)) → Grows (entered d e)
grows_entered d e ih s = grows_then s.out (rule e.span (eval d) (eval d e) (out-Kind e.kind) s) (checked e.span e.ty) (λ v. grows_typed (has_type v e.ty) e.span v)
    (grows_rule (eval d) ih (eval d e) (ih e) e.span (out-Kind e.kind) s)

pub eval_grows : (d : ℕ) (e : Core) → Grows (eval d e)
eval_grows zero e s = prefix_all s.out
eval_grows (suc d) e s = grows_enter s.units s (entered d e) (grows_entered d e (eval_grows d))

-- With more depth and b units more a node does the same, and the surplus is left; of a stop, output goes on from it.
abbrev pub Same : ℕ → Completion → Completion → Type 0
Same b (Gives v s) r = r ≡ Gives v (up b s)
Same b (Throws x s) r = r ≡ Throws x (up b s)
Same b (Stops s) r = From s.out r
Same b (Breaks at s) r = r ≡ Breaks at (up b s)

module _ (b : ℕ) where
  abbrev pub Alike : (State → Completion) → (State → Completion) → Type 0
  Alike f g = (s : State) → Same b (f s) (g (up b s))

  pub alike_then : (go go1 : Value → State → Completion) → ((v : Value) → Grows (go1 v)) → ((v : Value) → Alike (go v) (go1 v)) → (r r1 : Completion) → Same b r r1 → Same b (then_do r go) (then_do r1 go1)
  alike_then go go1 gr h (Gives v s) r1 e = subst (λ r. Same b (go v s) (then_do r go1)) (sym e) (h v s)
  alike_then go go1 gr h (Throws x s) r1 e = ap (λ r. then_do r go1) e
  alike_then go go1 gr h (Stops s) r1 e = grows_then s.out r1 go1 gr e
  alike_then go go1 gr h (Breaks at s) r1 e = ap (λ r. then_do r go1) e

  alike_typed : (is : Bool) (at : Span) (v : Value) → Alike (if_typed is at v) (if_typed is at v)
  alike_typed true at v s = refl
  alike_typed false at v s = refl

  alike_read : (at : Span) (w : Option (Option Value)) → Alike (read at w) (read at w)
  alike_read at (Some (Some v)) s = refl
  alike_read at (Some None) s = refl
  alike_read at None s = refl

  alike_set : (at : Span) (w : Option (Option Value)) (x : ℕ) (content : Option Value) → Alike (set_local at w x content) (set_local at w x content)
  alike_set at (Some old) x content s = refl
  alike_set at None x content s = refl

  alike_number : (w : Option ℤ) → Alike (number_or_zero_divisor w) (number_or_zero_divisor w)
  alike_number (Some z) s = refl
  alike_number None s = refl

  alike_int : (at : Span) (v : Value) (go : ℤ → State → Completion) → ((z : ℤ) → Alike (go z) (go z)) → Alike (on_int at v go) (on_int at v go)
  alike_int at (Int z) go h s = h z s
  alike_int at (Boolean b) go h s = refl
  alike_int at (Text t) go h s = refl
  alike_int at UnitValue go h s = refl

  alike_boolean : (at : Span) (v : Value) (go go1 : Bool → State → Completion) → ((t : Bool) → Alike (go t) (go1 t)) → Alike (on_boolean at v go) (on_boolean at v go1)
  alike_boolean at (Int z) go go1 h s = refl
  alike_boolean at (Boolean t) go go1 h s = h t s
  alike_boolean at (Text t) go go1 h s = refl
  alike_boolean at UnitValue go go1 h s = refl

  alike_either : (t : Bool) (f g f1 g1 : State → Completion) → Alike f f1 → Alike g g1 → Alike (either t f g) (either t f1 g1)
  alike_either true f g f1 g1 h k s = h s
  alike_either false f g f1 g1 h k s = k s

  alike_native : (at : Span) (f : Native) (vs : List Value) → Alike (native at f vs) (native at f vs)
  alike_native at native_is.ConsoleWrite [] s = refl
  alike_native at native_is.ConsoleWrite (Text t ∷ []) s = refl
  alike_native at native_is.ConsoleWrite (Text t ∷ v ∷ vs) s = refl
  alike_native at native_is.ConsoleWrite (Int z ∷ vs) s = refl
  alike_native at native_is.ConsoleWrite (Boolean t ∷ vs) s = refl
  alike_native at native_is.ConsoleWrite (UnitValue ∷ vs) s = refl

  -- where the parts' meanings are alike, so are the nodes'
  module _ (ev ev1 : Core → State → Completion) (grow : (e : Core) → Grows (ev1 e)) (same : (e : Core) → Alike (ev e) (ev1 e)) where
    alike_order : (es : List Core) (v : Value) → Alike (in_order ev es v) (in_order ev1 es v)
    alike_order [] v s = refl
    alike_order (e ∷ es) v s = alike_then (in_order ev es) (in_order ev1 es) (grows_order ev1 grow es) (alike_order es) (ev e s) (ev1 e (up b s)) (same e s)

    alike_joined : (es : List Core) (text : List ℕ) → Alike (joined ev es text) (joined ev1 es text)
    alike_joined [] text s = refl
    alike_joined (e ∷ es) text s = alike_then _ _ (λ v. grows_joined ev1 grow es (text ++ text_of v)) (λ v. alike_joined es (text ++ text_of v)) (ev e s) (ev1 e (up b s)) (same e s)

    alike_operands : (es : List Core) (go go1 : List Value → State → Completion) → ((vs : List Value) → Grows (go1 vs)) → ((vs : List Value) → Alike (go vs) (go1 vs)) → Alike (operands ev es go) (operands ev1 es go1)
    alike_operands [] go go1 gr h s = h [] s
    alike_operands (e ∷ es) go go1 gr h s = alike_then _ _ (λ v. grows_operands ev1 grow es (λ vs. go1 (v ∷ vs)) (λ vs. gr (v ∷ vs)))
        (λ v. alike_operands es (λ vs. go (v ∷ vs)) (λ vs. go1 (v ∷ vs)) (λ vs. gr (v ∷ vs)) (λ vs. h (v ∷ vs))) (ev e s) (ev1 e (up b s)) (same e s)

    alike_two : (at : Span) (a c : Core) (go : ℤ → ℤ → State → Completion) → ((m n : ℤ) → Grows (go m n)) → ((m n : ℤ) → Alike (go m n) (go m n)) → Alike (two_ints at ev a c go) (two_ints at ev1 a c go)
    alike_two at a c go gr h s = alike_then _ _
        (λ x s1. grows_then s1.out (ev1 c s1) _ (λ y. grows_int at x _ (λ m. grows_int at y _ (gr m))) (grow c s1))
        (λ x s1. alike_then _ _ (λ y. grows_int at x _ (λ m. grows_int at y _ (gr m)))
        (λ y. alike_int at x _ (λ m. alike_int at y _ (h m))) (ev c s1) (ev1 c (up b s1)) (same c s1))
        (ev a s) (ev1 a (up b s)) (same a s)

    alike_tested : (at : Span) (c : Core) (f g f1 g1 : State → Completion) → Grows f1 → Grows g1 → Alike f f1 → Alike g g1 → Alike (tested at ev c f g) (tested at ev1 c f1 g1)
    alike_tested at c f g f1 g1 gf gg h k s = alike_then _ _ (λ v. grows_boolean at v _ (λ t. grows_either t f1 g1 gf gg))
        (λ v. alike_boolean at v _ _ (λ t. alike_either t f g f1 g1 h k)) (ev c s) (ev1 c (up b s)) (same c s)

    alike_truth : (at : Span) (turn : Bool → Bool) (a : Core) → Alike (truth_of at ev turn a) (truth_of at ev1 turn a)
    alike_truth at turn a s = alike_then _ _ (λ v. grows_boolean at v _ (λ t s1. prefix_all s1.out))
        (λ v. alike_boolean at v _ _ (λ t s1. refl)) (ev a s) (ev1 a (up b s)) (same a s)

    module _ (again again1 : State → Completion) (turn : Grows again1) (turns : Alike again again1) where
      pub alike_rule : (at : Span) (k : Kind-F Kind Core) → Alike (rule at ev again k) (rule at ev1 again1 k)
      alike_rule at (Kind-F.IntLit n) s = refl
      alike_rule at (Kind-F.StrLit t) s = refl
      alike_rule at (Kind-F.BoolLit t) s = refl
      alike_rule at (Kind-F.LocalRead x) s = alike_read at (slice_get s.locals x) s
      alike_rule at (Kind-F.LocalWrite x e) s = alike_then _ _ (λ v s1. grows_set at (slice_get s1.locals x) x (Some v) s1)
          (λ v s1. alike_set at (slice_get s1.locals x) x (Some v) s1) (ev e s) (ev1 e (up b s)) (same e s)
      alike_rule at (Kind-F.Declare x None) s = alike_set at (slice_get s.locals x) x None s
      alike_rule at (Kind-F.Declare x (Some e)) s = alike_then _ _ (λ v s1. grows_set at (slice_get s1.locals x) x (Some v) s1)
          (λ v s1. alike_set at (slice_get s1.locals x) x (Some v) s1) (ev e s) (ev1 e (up b s)) (same e s)
      alike_rule at (Kind-F.NumBinary op a c) s = alike_two at a c _ (λ m n. grows_number (arithmetic op m n)) (λ m n. alike_number (arithmetic op m n)) s
      alike_rule at (Kind-F.NumUnary unary.Minus a) s = alike_then _ _ (λ x. grows_int at x _ (λ m s1. prefix_all s1.out))
          (λ x. alike_int at x _ (λ m s1. refl)) (ev a s) (ev1 a (up b s)) (same a s)
      alike_rule at (Kind-F.NumCompare order a c) s = alike_two at a c _ (λ m n s1. prefix_all s1.out) (λ m n s1. refl) s
      alike_rule at (Kind-F.Equal a c) s = alike_two at a c _ (λ m n s1. prefix_all s1.out) (λ m n s1. refl) s
      alike_rule at (Kind-F.Not a) s = alike_truth at not a s
      alike_rule at (Kind-F.And a c) s = alike_tested at a _ _ _ _ (grows_truth ev1 grow at (λ t. t) c) (λ s1. prefix_all s1.out) (alike_truth at (λ t. t) c) (λ s1. refl) s
      alike_rule at (Kind-F.Or a c) s = alike_tested at a _ _ _ _ (λ s1. prefix_all s1.out) (grows_truth ev1 grow at (λ t. t) c) (λ s1. refl) (alike_truth at (λ t. t) c) s
      alike_rule at (Kind-F.Concat parts) s = alike_joined parts [] s
      alike_rule at (Kind-F.CallNative f values) s = alike_operands values (native at f) (native at f) (grows_native at f) (alike_native at f) s
      alike_rule at (Kind-F.Block parts) s = alike_order parts UnitValue s
      alike_rule at (Kind-F.If c a None) s = alike_tested at c _ _ _ _ (grow a) (λ s1. prefix_all s1.out) (same a) (λ s1. refl) s
      alike_rule at (Kind-F.If c a (Some d)) s = alike_tested at c _ _ _ _ (grow a) (grow d) (same a) (same d) s
      alike_rule at (Kind-F.While label c a) s = alike_tested at c _ _ _ _
          (λ s1. grows_then s1.out (ev1 a s1) _ (λ v. turn) (grow a s1)) (λ s1. prefix_all s1.out)
          (λ s1. alike_then _ _ (λ v. turn) (λ v. turns) (ev a s1) (ev1 a (up b s1)) (same a s1)) (λ s1. refl) s

  -- the bound of depth rises by a, the units by b
  pub eval_more : (a d : ℕ) (e : Core) (s : State) → Same b (eval d e s) (eval (d + a) e (up b s))
  eval_more a zero e s = eval_grows (zero + a) e (up b s)
  eval_more a (suc d) e s = subst (λ n. Same b (enter s.units s (entered d e)) (eval n e (up b s))) (sym (suc-add d a)) (by_units s.units
      (λ s1. alike_then (checked e.span e.ty) (checked e.span e.ty) (λ v. grows_typed (has_type v e.ty) e.span v) (λ v. alike_typed (has_type v e.ty) e.span v)
      (rule e.span (eval d) (eval d e) (out-Kind e.kind) s1) (rule e.span (eval (d + a)) (eval (d + a) e) (out-Kind e.kind) (up b s1))
      (alike_rule (eval d) (eval (d + a)) (eval_grows (d + a)) (λ x. eval_more a d x) (eval d e) (eval (d + a) e) (eval_grows (d + a) e) (eval_more a d e) e.span (out-Kind e.kind) s1)))
    where
      by_units : (u : ℕ) → Alike (entered d e) (entered (d + a) e) → Same b (enter u s (entered d e)) (enter (u + b) (up b s) (entered (d + a) e))
      by_units zero h = grows_enter (zero + b) (up b s) (entered (d + a) e) (grows_entered (d + a) e (eval_grows (d + a)))
      by_units (suc u) h = subst (λ n. Same b (entered d e (record s { units = u })) (enter n (up b s) (entered (d + a) e))) (sym (suc-add u b)) (h (record s { units = u }))

-- with more units: the same end, or more output
abbrev pub Later : Outcome Ending → Outcome Ending → Type 0
Later (Going out) r = IsPrefix out (said r)
Later (Over how out) r = r ≡ Over how out

pub said_of : (r : Completion) → said (outcome_of r) ≡ (state_of r).out
said_of (Gives v s) = refl
said_of (Throws x s) = refl
said_of (Stops s) = refl
said_of (Breaks at s) = refl

later_of : (b : ℕ) (r r1 : Completion) → Same b r r1 → Later (outcome_of r) (outcome_of r1)
later_of b (Gives v s) r1 e = ap outcome_of e
later_of b (Throws x s) r1 e = ap outcome_of e
later_of b (Stops s) r1 e = subst (IsPrefix s.out) (sym (said_of r1)) e
later_of b (Breaks at s) r1 e = ap outcome_of e

pub meaning_later : (program : Program) (main : ℕ) (input : List ℕ) (n b : ℕ) → Later (meaning program main input n) (meaning program main input (n + b))
meaning_later program main input n b = by_found (slice_get program.functions main)
  where
    by_found : (w : Option Function) → Later (start_of w input n) (start_of w input (n + b))
    by_found None = prefix_all []
    by_found (Some f) = later_of b (eval n f.body (record { locals = unset (length f.locals); input = input; out = []; units = n })) _
        (eval_more b b n f.body (record { locals = unset (length f.locals); input = input; out = []; units = n }))

later_stays : (r r1 : Outcome Ending) → IsOver r → Later r r1 → r1 ≡ r
later_stays (Going out) r1 over h = absurd over
later_stays (Over how out) r1 over h = h

later_grows : (r r1 : Outcome Ending) → Later r r1 → IsPrefix (said r) (said r1)
later_grows (Going out) r1 h = h
later_grows (Over how out) r1 h = subst (λ w. IsPrefix out (said w)) (sym h) (prefix_all out)

pub meaning_lawful : (program : Program) (main : ℕ) (input : List ℕ) → Lawful (meaning program main input)
meaning_lawful program main input = record {
  stays = λ n m le over. ap (meaning program main input) (let e : m ≡ n + (m - n) = omega arith in e) ∙
      later_stays (meaning program main input n) (meaning program main input (n + (m - n))) over (meaning_later program main input n (m - n));
  grows = λ n m le. subst (λ k. IsPrefix (said (meaning program main input n)) (said (meaning program main input k))) (let e : n + (m - n) ≡ m = omega arith in e)
      (later_grows (meaning program main input n) (meaning program main input (n + (m - n))) (meaning_later program main input n (m - n)));
}
