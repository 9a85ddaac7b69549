-- Nodes with one child or two: their code does what they do.
use Rattle.std.proofs.Common.{◌≡◌, ℕ, suc, ◌+◌, ◌<◌, ◌≤◌, List, [], ◌∷◌, ◌++◌, length, Option, Some, None, Bool, false, refl, sym, ap, ◌∙◌, subst, arith}
use Rattle.std.specs.Prelude.{slice_get, slice_set, ℤ, nat_lt, ◌&&◌}
use Rattle.std.proofs.lemmas.Bool.{le-ltb}
use Rattle.kc_core.specs.declared.tree.TypeTree.{TypeTree}
use Rattle.kc_core.specs.declared.tree.TypeTree.TheVariants as type_is
use Rattle.kc_core.specs.declared.tree.BinaryOp.{BinaryOp}
use Rattle.kc_core.specs.declared.tree.BinaryOp.TheVariants.{Plus, Minus, Times, Div, Rem}
use Rattle.kc_core.specs.declared.tree.Span.{Span}
use Rattle.kc_core.specs.Values.{Value, Int, Boolean, Text, UnitValue, arithmetic, negated}
use Rattle.kc_core.specs.Meaning.{State, Completion, Gives, then_do, enter, checked, set_local, number_or_zero_divisor, division_by_zero, on_int}
use Rattle.class_file.specs.declared.value.Value.{Value as Slot}
use Rattle.class_file.specs.declared.value.Value.TheVariants as slot
use Rattle.class_file.specs.declared.value.Kind.{Kind as SlotKind}
use Rattle.class_file.specs.declared.value.Kind.TheVariants as kinds
use Rattle.class_file.specs.declared.class.Set.{Set}
use Rattle.class_file.specs.Natives.{Object}
use Rattle.class_file.specs.Machine.{Next, Over, Threw, on_from, after, or_zero_divisor, int_answer, Goes}
use Rattle.stack_code.specs.Code.{Operation, Compute, Negate, bytes, Emitted, stores, then_code, two_code, operator_of, local_bytes, bit, kept, kept_bytes}
use Rattle.stack_code.specs.Implements.{running as frame, state_at as state, Holds, Held, Activation}
use Rattle.stack_code.proofs.Runs.{grows_none, Represents, represents_on, Typed, On, Quiet, live, HasAt, has_front, written, kept_all, both_on, Sized, factor, Reaches, Run, run_on, bind, evident, own, ends_at, Ready, Follows, Inside, with_check, entered}
use Rattle.stack_code.proofs.Steps.{store, negate, compute}
use Rattle.stack_code.proofs.Lists.{get_same, get_other, set_length, within, held_write}
use Rattle.stack_code.proofs.Single.{behind, unhandled}

pub not_less : (n m : ℕ) → m ≤ n → nat_lt n m ≡ false
not_less n m le = le-ltb n m le

module _ (set : Set) (S : ℕ) where
  -- what operations do that stand behind a value of this type
  abbrev pub Tail : TypeTree → List Operation → (Value → State → Completion) → Type 0
  Tail ty tail go = (v : Value) (xs : List Slot) (s : State) (o : Activation) (at : ℕ) (ls st : List Slot) (h : List Object) → HasAt set o at tail → Held h ls s.locals → Quiet set o → Typed ty h v xs → Run set S o Represents (live o at ls (xs ++ st) h s) h s.units factor 0 ls (at + bytes tail) st (go v s)

  -- a child, and operations that take its value
  pub after_value : (d : ℕ) (a : Emitted) (fa : State → Completion) (tail : List Operation) (ty : TypeTree) (span : Span) (go : Value → State → Completion) → Sized a → Tail a.ty tail go → Follows set S d a fa → Follows set S (suc d) (then_code a tail ty) (λ s. enter s.units s (λ s1. then_do (then_do (fa s1) go) (checked span ty)))
  after_value d a fa tail ty span go za rt ra = entered set S d a.nodes (then_code a tail ty) _ (omega arith) (with_check set S d a.nodes (then_code a tail ty) span (λ s. then_do (fa s) go) inside)
    where
      inside : Inside set S d a.nodes (then_code a tail ty) (λ s. then_do (fa s) go)
      inside s o at ls st h ready =
          bind set S o (On a.goes_on (Typed a.ty)) (On a.goes_on Represents) (at + a.size) end st st c h s.units factor a.nodes 0 a.nodes ls (omega arith) (omega arith) go last (fa s) (ra s o at ls st h ready_a)
        where
          c : Next
          c = live o at ls st h s

          end : ℕ
          end = at + (a.size + kept_bytes a.goes_on (bytes tail))

          ready_a : Ready set S d a s o at ls h
          ready_a = record { deep = ready.deep; small = omega (arith, ready.small); code = has_front set o at a.code (kept a.goes_on tail) ready.code; held = ready.held; quiet = ready.quiet }

          last : (v : Value) (s1 : State) → Reaches set S c h s.units 0 a.nodes ls (λ h' xs. On a.goes_on (Typed a.ty) h' v xs) s1 (λ ls' h' xs. live o (at + a.size) ls' (xs ++ st) h' s1) → Run set S o (On a.goes_on Represents) c h s.units factor a.nodes ls end st (go v s1)
          last v s1 g =
              let f = kept_all a.goes_on (bytes tail) g.is.0 in
              evident set S o Represents (λ v. Some end) st c h s.units factor a.nodes ls a.goes_on g.is.0 (go v s1)
              (run_on set S o Represents end st c h s.units factor a.nodes 0 a.nodes factor 0 ls s1 (λ h' xs. On a.goes_on (Typed a.ty) h' v xs) (λ ls' h' xs. live o (at + a.size) ls' (xs ++ st) h' s1) g (omega arith) (omega arith) (go v s1)
              (ends_at set S o Represents (live o (at + a.size) g.ls' (g.xs ++ st) g.h' s1) g.h' s1.units factor 0 g.ls' (at + a.size + bytes tail) end st (go v s1) (omega (arith, f))
              (rt v g.xs s1 o (at + a.size) g.ls' st g.h' (written set o (at + a.size) a.goes_on tail g.is.0 (behind set o a za at (kept a.goes_on tail) ready.code)) g.held ready.quiet g.is.1)))

  negate_tail : (ty : TypeTree) (span : Span) → Tail ty (Negate ∷ []) (λ x. on_int span x (λ m. Gives (Int (negated m))))
  negate_tail ty span (Int z) xs s o at ls st h code held quiet is =
      own set S 1 (live o at ls (xs ++ st) h s) h factor 0 ls ls h (slot.Int (negated z) ∷ []) (λ h' ys. Represents h' (Int (negated z)) ys) s (λ ls' h' ys. live o (at + 1) ls' (ys ++ st) h' s) (omega arith)
      (ap (λ ys. on_from set 1 (live o at ls (ys ++ st) h s)) is.1 ∙ negate set o at ls st h s z code.0)
      refl (grows_none h) held refl
  negate_tail ty span (Boolean b) xs s o at ls st h code held quiet is = tt
  negate_tail ty span (Text t) xs s o at ls st h code held quiet is = tt
  negate_tail ty span UnitValue xs s o at ls st h code held quiet is = tt

  pub negate_follows : (d : ℕ) (ty : TypeTree) (span : Span) (a : Emitted) (fa : State → Completion) → Sized a → Follows set S d a fa → Follows set S (suc d) (then_code a (Negate ∷ []) ty) (λ s. enter s.units s (λ s1. then_do (then_do (fa s1) (λ x. on_int span x (λ m. Gives (Int (negated m))))) (checked span ty)))
  negate_follows d ty span a fa za ra = after_value d a fa (Negate ∷ []) ty span (λ x. on_int span x (λ m. Gives (Int (negated m)))) za (negate_tail a.ty span) ra

  -- a value that takes one place goes to a local variable
  stored_run : (o : Activation) (at : ℕ) (ls st : List Slot) (h : List Object) (s : State) (k : SlotKind) (x : ℕ) (w : Slot) (v : Value) (old : Option Value) → slice_get s.locals x ≡ Some old → Held h ls s.locals → ((i : ℕ) → on_from set 1 (live o at ls (w ∷ st) h s) ≡ live o (at + local_bytes x) (slice_set ls x w) st h s) → Holds h v (Some w) → Run set S o Represents (live o at ls (w ∷ st) h s) h s.units factor 0 ls (at + (local_bytes x + 0)) st (Gives UnitValue (record s { locals = slice_set s.locals x (Some v) }))
  stored_run o at ls st h s k x w v old e held runs is =
      own set S 1 (live o at ls (w ∷ st) h s) h factor 0 ls (slice_set ls x w) h [] (λ h' ys. Represents h' UnitValue ys) s' (λ ls' h' ys. live o (at + (local_bytes x + 0)) ls' (ys ++ st) h' s') (omega arith)
      (runs 0 ∙ (let e : at + local_bytes x ≡ at + (local_bytes x + 0) = omega arith in ap (λ n. live o n (slice_set ls x w) st h s) e))
      refl (grows_none h)
      (held_write h ls (slice_set ls x w) s.locals x v lt (set_length ls x w) (subst (Holds h v) (sym (get_same ls x w (omega (arith, lt, held.room)))) is) (λ y q. get_other ls x y w q) held)
      (set_length ls x w)
    where
      s' : State
      s' = record s { locals = slice_set s.locals x (Some v) }

      lt : x < length s.locals
      lt = within s.locals x old e

  declare_tail : (ty : TypeTree) (span : Span) (x : ℕ) → Tail ty (stores ty x) (λ v s1. set_local span (slice_get s1.locals x) x (Some v) s1)
  declare_tail ty span x v xs s o at ls st h code held quiet is = found ty v xs code is (slice_get s.locals x) refl
    where
      fits : (old : Option Value) → slice_get s.locals x ≡ Some old → nat_lt (length ls) (x + 1) ≡ false
      fits old e = let lt = within s.locals x old e in not_less (length ls) (x + 1) (omega (arith, lt, held.room))

      found : (ty : TypeTree) (v : Value) (xs : List Slot) → HasAt set o at (stores ty x) → Typed ty h v xs → (w : Option (Option Value)) → slice_get s.locals x ≡ w → Run set S o Represents (live o at ls (xs ++ st) h s) h s.units factor 0 ls (at + bytes (stores ty x)) st (set_local span w x (Some v) s)
      found ty v xs code is None e = tt
      found type_is.Int (Int z) xs code is (Some old) e =
          subst (λ ys. Run set S o Represents (live o at ls (ys ++ st) h s) h s.units factor 0 ls (at + (local_bytes x + 0)) st (Gives UnitValue (record s { locals = slice_set s.locals x (Some (Int z)) }))) (sym is.1)
          (stored_run o at ls st h s kinds.Int x (slot.Int z) (Int z) old e held (λ i. store set o at ls st h s kinds.Int x (slot.Int z) code.0 refl (fits old e) refl) refl)
      found type_is.Boolean (Boolean b) xs code is (Some old) e =
          subst (λ ys. Run set S o Represents (live o at ls (ys ++ st) h s) h s.units factor 0 ls (at + (local_bytes x + 0)) st (Gives UnitValue (record s { locals = slice_set s.locals x (Some (Boolean b)) }))) (sym is.1)
          (stored_run o at ls st h s kinds.Int x (slot.Int (bit b)) (Boolean b) old e held (λ i. store set o at ls st h s kinds.Int x (slot.Int (bit b)) code.0 refl (fits old e) refl) refl)
      found type_is.String (Text t) xs code is (Some old) e =
          subst (λ ys. Run set S o Represents (live o at ls (ys ++ st) h s) h s.units factor 0 ls (at + (local_bytes x + 0)) st (Gives UnitValue (record s { locals = slice_set s.locals x (Some (Text t)) }))) (sym is.1.1)
          (stored_run o at ls st h s kinds.Ref x (slot.Ref is.1.0) (Text t) old e held (λ i. store set o at ls st h s kinds.Ref x (slot.Ref is.1.0) code.0 refl (fits old e) refl) (is.1.0, refl, is.1.2))
      found type_is.Unit UnitValue xs code is (Some old) e =
          let s' : State = record s { locals = slice_set s.locals x (Some UnitValue) } in
          own set S 0 (live o at ls (xs ++ st) h s) h factor 0 ls ls h [] (λ h' ys. Represents h' UnitValue ys) s' (λ ls' h' ys. live o (at + 0) ls' (ys ++ st) h' s') (omega arith)
          (let e : at ≡ at + 0 = omega arith in ap (λ ys. live o at ls (ys ++ st) h s) is.1 ∙ ap (λ n. live o n ls st h s) e)
          refl (grows_none h) (held_write h ls ls s.locals x UnitValue (within s.locals x old e) refl tt (λ y q. refl) held) refl
      found type_is.Int (Boolean b) xs code is (Some old) e = absurd (let q = is.0 in cc)
      found type_is.Int (Text t) xs code is (Some old) e = absurd (let q = is.0 in cc)
      found type_is.Boolean (Int z) xs code is (Some old) e = absurd (let q = is.0 in cc)
      found type_is.Boolean (Text t) xs code is (Some old) e = absurd (let q = is.0 in cc)
      found type_is.Boolean UnitValue xs code is (Some old) e = absurd (let q = is.0 in cc)
      found type_is.String (Boolean b) xs code is (Some old) e = absurd (let q = is.0 in cc)
      found type_is.Unit (Boolean b) xs code is (Some old) e = absurd (let q = is.0 in cc)
      found type_is.Int UnitValue xs code is (Some old) e = absurd (let q = is.0 in cc)
      found type_is.String (Int z) xs code is (Some old) e = absurd (let q = is.0 in cc)
      found type_is.String UnitValue xs code is (Some old) e = absurd (let q = is.0 in cc)
      found type_is.Unit (Int z) xs code is (Some old) e = absurd (let q = is.0 in cc)
      found type_is.Unit (Text t) xs code is (Some old) e = absurd (let q = is.0 in cc)

  pub declare_follows : (d : ℕ) (ty : TypeTree) (span : Span) (x : ℕ) (a : Emitted) (fa : State → Completion) → Sized a → Follows set S d a fa → Follows set S (suc d) (then_code a (stores a.ty x) ty) (λ s. enter s.units s (λ s1. then_do (then_do (fa s1) (λ v s2. set_local span (slice_get s2.locals x) x (Some v) s2)) (checked span ty)))
  declare_follows d ty span x a fa za ra = after_value d a fa (stores a.ty x) ty span (λ v s2. set_local span (slice_get s2.locals x) x (Some v) s2) za (declare_tail a.ty span x) ra

  answers : (op : BinaryOp) (m n : ℤ) → int_answer (operator_of op) m n ≡ arithmetic op m n
  answers Plus m n = refl
  answers Minus m n = refl
  answers Times m n = refl
  answers Div m n = refl
  answers Rem m n = refl

  compute_tail : (span : Span) (op : BinaryOp) (x y : Value) (xs ys : List Slot) (s : State) (o : Activation) (at : ℕ) (ls st : List Slot) (h : List Object) → HasAt set o at (Compute (operator_of op) ∷ []) → Held h ls s.locals → Quiet set o → Represents h x xs → Represents h y ys → Run set S o Represents (live o at ls (ys ++ (xs ++ st)) h s) h s.units factor 0 ls (at + 1) st (on_int span x (λ m. on_int span y (λ n. number_or_zero_divisor (arithmetic op m n))) s)
  compute_tail span op (Int m) (Int n) xs ys s o at ls st h code held quiet isx isy = by_answer (arithmetic op m n) refl
    where
      c : Next
      c = live o at ls (ys ++ (xs ++ st)) h s

      stack : ys ++ (xs ++ st) ≡ slot.Int n ∷ slot.Int m ∷ st
      stack = ap (λ zs. zs ++ (xs ++ st)) isy ∙ ap (λ zs. slot.Int n ∷ (zs ++ st)) isx

      step : (w : Option ℤ) → arithmetic op m n ≡ w → on_from set 1 c ≡ after set (state o at ls (slot.Int n ∷ slot.Int m ∷ st) h s) (frame o at ls (slot.Int n ∷ slot.Int m ∷ st)) o.rest (at + 1) (or_zero_divisor w (λ z. Goes (at + 1) ls (slot.Int z ∷ st)))
      step w e =
          ap (λ zs. on_from set 1 (live o at ls zs h s)) stack ∙ compute set o at ls st h s (operator_of op) m n code.0
          ∙ ap (λ w. after set (state o at ls (slot.Int n ∷ slot.Int m ∷ st) h s) (frame o at ls (slot.Int n ∷ slot.Int m ∷ st)) o.rest (at + 1) (or_zero_divisor w (λ z. Goes (at + 1) ls (slot.Int z ∷ st)))) (answers op m n ∙ e)

      by_answer : (w : Option ℤ) → arithmetic op m n ≡ w → Run set S o Represents c h s.units factor 0 ls (at + 1) st (number_or_zero_divisor w s)
      by_answer (Some z) e =
          own set S 1 c h factor 0 ls ls h (slot.Int z ∷ []) (λ h' zs. Represents h' (Int z) zs) s (λ ls' h' zs. live o (at + 1) ls' (zs ++ st) h' s) (omega arith) (step (Some z) e) refl (grows_none h) held refl
      by_answer None e =
          own set S 1 c h factor 0 ls ls h [] (λ h' zs. Unit {0}) s (λ ls' h' zs. Over (Threw division_by_zero.class division_by_zero.message) s.out) (omega arith)
          (step None e ∙ unhandled set (state o at ls (slot.Int n ∷ slot.Int m ∷ st) h s) (frame o at ls (slot.Int n ∷ slot.Int m ∷ st) ∷ o.rest) (quiet.0, quiet.1)) tt (grows_none h) held refl
  compute_tail span op (Int m) (Boolean b) xs ys s o at ls st h code held quiet isx isy = tt
  compute_tail span op (Int m) (Text t) xs ys s o at ls st h code held quiet isx isy = tt
  compute_tail span op (Int m) UnitValue xs ys s o at ls st h code held quiet isx isy = tt
  compute_tail span op (Boolean b) y xs ys s o at ls st h code held quiet isx isy = tt
  compute_tail span op (Text t) y xs ys s o at ls st h code held quiet isx isy = tt
  compute_tail span op UnitValue y xs ys s o at ls st h code held quiet isx isy = tt

  abbrev Two : Span → BinaryOp → (State → Completion) → (State → Completion) → State → Completion
  Two span op fa fb s = then_do (fa s) (λ x s1. then_do (fb s1) (λ y. on_int span x (λ m. on_int span y (λ n. number_or_zero_divisor (arithmetic op m n)))))

  pub binary_follows : (d : ℕ) (ty : TypeTree) (span : Span) (op : BinaryOp) (a b : Emitted) (fa fb : State → Completion) → Sized a → Sized b → Follows set S d a fa → Follows set S d b fb → Follows set S (suc d) (two_code a b (Compute (operator_of op) ∷ []) ty) (λ s. enter s.units s (λ s1. then_do (Two span op fa fb s1) (checked span ty)))
  binary_follows d ty span op a b fa fb za zb ra rb = entered set S d (a.nodes + b.nodes) whole _ (omega arith) (with_check set S d (a.nodes + b.nodes) whole span (Two span op fa fb) inside)
    where
      tail : List Operation
      tail = Compute (operator_of op) ∷ []

      whole : Emitted
      whole = two_code a b (Compute (operator_of op) ∷ []) ty

      inside : Inside set S d (a.nodes + b.nodes) whole (Two span op fa fb)
      inside s o at ls st h ready =
          bind set S o (On a.goes_on (Typed a.ty)) (On both Represents) (at + a.size) end st st c h s.units factor (a.nodes + b.nodes) 0 a.nodes ls (omega arith) (omega arith) (λ x s1. then_do (fb s1) (then' x)) second (fa s) (ra s o at ls st h ready_a)
        where
          c : Next
          c = live o at ls st h s

          both : Bool
          both = a.goes_on && b.goes_on

          end : ℕ
          end = at + (a.size + kept_bytes a.goes_on (b.size + kept_bytes b.goes_on 1))

          then' : Value → Value → State → Completion
          then' x y = on_int span x (λ m. on_int span y (λ n. number_or_zero_divisor (arithmetic op m n)))

          ready_a : Ready set S d a s o at ls h
          ready_a = record { deep = ready.deep; small = omega (arith, ready.small); code = has_front set o at a.code _ ready.code; held = ready.held; quiet = ready.quiet }

          second : (x : Value) (s1 : State) → Reaches set S c h s.units 0 a.nodes ls (λ h' xs. On a.goes_on (Typed a.ty) h' x xs) s1 (λ ls' h' xs. live o (at + a.size) ls' (xs ++ st) h' s1) → Run set S o (On both Represents) c h s.units factor (a.nodes + b.nodes) ls end st (then_do (fb s1) (then' x))
          second x s1 g =
              run_on set S o (On both Represents) end st c h s.units factor (a.nodes + b.nodes) 0 a.nodes 18 b.nodes ls s1 (λ h' xs. On a.goes_on (Typed a.ty) h' x xs) (λ ls' h' xs. live o (at + a.size) ls' (xs ++ st) h' s1) g (omega arith) (omega arith) (then_do (fb s1) (then' x))
              (bind set S o (On b.goes_on (Typed b.ty)) (On both Represents) (at + a.size + b.size) end (g.xs ++ st) st c1 g.h' s1.units 18 b.nodes 0 b.nodes g.ls' (omega arith) (omega arith) (then' x) last (fb s1) (rb s1 o (at + a.size) g.ls' (g.xs ++ st) g.h' ready_b))
            where
              c1 : Next
              c1 = live o (at + a.size) g.ls' (g.xs ++ st) g.h' s1

              at_b : HasAt set o (at + a.size) (b.code ++ kept b.goes_on tail)
              at_b = written set o (at + a.size) a.goes_on (b.code ++ kept b.goes_on tail) g.is.0 (behind set o a za at (kept a.goes_on (b.code ++ kept b.goes_on tail)) ready.code)

              ready_b : Ready set S d b s1 o (at + a.size) g.ls' g.h'
              ready_b = record { deep = omega (arith, g.units, ready.deep); small = omega (arith, ready.small); code = has_front set o (at + a.size) b.code (kept b.goes_on tail) at_b; held = g.held; quiet = ready.quiet }

              last : (y : Value) (s2 : State) → Reaches set S c1 g.h' s1.units 0 b.nodes g.ls' (λ h' ys. On b.goes_on (Typed b.ty) h' y ys) s2 (λ ls' h' ys. live o (at + a.size + b.size) ls' (ys ++ (g.xs ++ st)) h' s2) → Run set S o (On both Represents) c1 g.h' s1.units 18 b.nodes g.ls' end st (then' x y s2)
              last y s2 g2 =
                  let e = kept_all a.goes_on (b.size + kept_bytes b.goes_on 1) g.is.0 in
                  let f = kept_all b.goes_on 1 g2.is.0 in
                  evident set S o Represents (λ v. Some end) st c1 g.h' s1.units 18 b.nodes g.ls' both (both_on a.goes_on b.goes_on g.is.0 g2.is.0) (then' x y s2)
                  (run_on set S o Represents end st c1 g.h' s1.units 18 b.nodes 0 b.nodes factor 0 g.ls' s2 (λ h' ys. On b.goes_on (Typed b.ty) h' y ys) (λ ls' h' ys. live o (at + a.size + b.size) ls' (ys ++ (g.xs ++ st)) h' s2) g2 (omega arith) (omega arith) (then' x y s2)
                  (ends_at set S o Represents (live o (at + a.size + b.size) g2.ls' (g2.xs ++ (g.xs ++ st)) g2.h' s2) g2.h' s2.units factor 0 g2.ls' (at + a.size + b.size + 1) end st (then' x y s2) (omega (arith, e, f))
                  (compute_tail span op x y g.xs g2.xs s2 o (at + a.size + b.size) g2.ls' st g2.h' (written set o (at + a.size + b.size) b.goes_on tail g2.is.0 (behind set o b zb (at + a.size) (kept b.goes_on tail) at_b)) g2.held ready.quiet (represents_on g.h' g2.h' x g.xs g2.grows g.is.1.1) g2.is.1.1)))
