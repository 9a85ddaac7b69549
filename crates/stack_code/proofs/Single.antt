-- Nodes without a list of children: their code does what they do.
use Rattle.std.proofs.Common.{◌≡◌, ℕ, suc, ◌+◌, List, [], ◌∷◌, ◌++◌, length, Option, Some, None, true, refl, ap, ◌∙◌, subst, arith}
use Rattle.std.specs.Prelude.{slice_get, slice_set, ℤ, codes}
use Rattle.std.specs.List.{find}
use Rattle.kc_core.specs.declared.tree.TypeTree.{TypeTree}
use Rattle.kc_core.specs.declared.tree.TypeTree.TheVariants as type_is
use Rattle.kc_core.specs.declared.tree.Span.{Span}
use Rattle.kc_core.specs.Values.{Value, Int, Boolean, Text, UnitValue}
use Rattle.kc_core.specs.Meaning.{State, Gives, then_do, enter, checked, read, set_local, division_by_zero}
use Rattle.class_file.specs.declared.value.Value.{Value as Slot}
use Rattle.class_file.specs.declared.value.Value.TheVariants as slot
use Rattle.class_file.specs.declared.value.Kind.TheVariants as kinds
use Rattle.class_file.specs.declared.value.BuiltIn.TheVariants as built_in
use Rattle.class_file.specs.declared.class.Handler.{Handler}
use Rattle.class_file.specs.declared.class.Set.{Set}
use Rattle.class_file.specs.Classes.{built_ins}
use Rattle.class_file.specs.Natives.{Object, TextObject, Instance, name_of, text_in}
use Rattle.class_file.specs.Machine.{Active, State as MachineState, Over, Threw, thrown, unwound, goes_on, catches, with_exception, class_pool}
use Rattle.stack_code.specs.Code.{Operation, PushInt, PushText, bytes_of, bytes, Emitted, leaf, loads, local_bytes, bit}
use Rattle.stack_code.specs.Implements.{Held, Activation, Unhandled}
use Rattle.stack_code.proofs.Runs.{grows_none, Represents, Typed, On, held_on, live, HasAt, has_back, Sized, factor, Run, own, Ready, Follows, Inside, with_check, entered}
use Rattle.stack_code.proofs.Steps.{push_int, push_text, load}
use Rattle.stack_code.proofs.Lists.{within, get_new, grows_more, held_unset}

pub behind : (set : Set) (o : Activation) (x : Emitted) → Sized x → (at : ℕ) (b : List Operation) → HasAt set o at (x.code ++ b) → HasAt set o (at + x.size) b
behind set o x sized at b h = subst (λ n. HasAt set o (at + n) b) sized.whole (has_back set o at x.code b h)

-- a throw that no frame handles ends the run
unwinds : (set : Set) (s : MachineState) (r class : ℕ) (fields : List Slot) (fs : List Active) → Unhandled set fs → unwound set s r class fields fs ≡ unwound set s r class fields []
unwinds set s r class fields [] q = refl
unwinds set s r class fields (f ∷ fs) q =
    ap (λ (hs : List Handler). elim (find (catches set (class_pool set f.class) class f.at) hs) [ Some h ↦ goes_on s f fs h.at (slot.Ref r ∷ []) | None ↦ unwound set s r class fields fs ]) q.0
    ∙ unwinds set s r class fields fs q.1

-- what stands behind a list is there in the longer one
get_behind : {A : Type 0} (xs more : List A) (a : A) → slice_get (xs ++ a ∷ more) (length xs) ≡ Some a
get_behind [] more a = refl
get_behind (x ∷ xs) more a = get_behind xs more a

class_is : (set : Set) → name_of set 15 ≡ division_by_zero.class
unfolding built_ins
class_is set = refl

pub unhandled : (set : Set) (s : MachineState) (fs : List Active) → Unhandled set fs → thrown set built_in.ArithmeticException s fs ≡ Over (Threw division_by_zero.class division_by_zero.message) s.out
unhandled set s fs q =
    unwinds set (with_exception built_in.ArithmeticException s) (length s.heap + 1) 15 (slot.Ref (length s.heap) ∷ []) fs q
    ∙ ap (λ name. Over (Threw name (text_in (slice_get (s.heap ++ TextObject text ∷ exception ∷ []) (length s.heap)))) s.out) (class_is set)
    ∙ ap (λ o. Over (Threw division_by_zero.class (text_in o)) s.out) (get_behind s.heap (exception ∷ []) (TextObject text))
  where
    text : List ℕ
    text = codes "/ by zero"

    exception : Object
    exception = Instance 15 (slot.Ref (length s.heap) ∷ [])

module _ (set : Set) (S : ℕ) where
  pub int_follows : (d : ℕ) (ty : TypeTree) (span : Span) (z : ℤ) → Follows set S (suc d) (leaf (PushInt z ∷ []) ty) (λ s. enter s.units s (λ s1. then_do (Gives (Int z) s1) (checked span ty)))
  int_follows d ty span z = entered set S d 0 (leaf (PushInt z ∷ []) ty) _ (omega arith) (with_check set S d 0 (leaf (PushInt z ∷ []) ty) span (Gives (Int z)) inside)
    where
      inside : Inside set S d 0 (leaf (PushInt z ∷ []) ty) (Gives (Int z))
      inside s o at ls st h ready =
          own set S 1 (live o at ls st h s) h factor 0 ls ls h (slot.Int z ∷ []) (λ h' xs. On true Represents h' (Int z) xs) s (λ ls' h' xs. live o (at + bytes (PushInt z ∷ [])) ls' (xs ++ st) h' s) (omega arith)
          (push_int set o at ls st h s z ready.code.0 ∙ (let e : at + bytes_of (PushInt z) ≡ at + (bytes_of (PushInt z) + 0) = omega arith in ap (λ n. live o n ls (slot.Int z ∷ st) h s) e))
          (refl, refl) (grows_none h) ready.held refl

  pub text_follows : (d : ℕ) (ty : TypeTree) (span : Span) (t : List ℕ) → Follows set S (suc d) (leaf (PushText t ∷ []) ty) (λ s. enter s.units s (λ s1. then_do (Gives (Text t) s1) (checked span ty)))
  text_follows d ty span t = entered set S d 0 (leaf (PushText t ∷ []) ty) _ (omega arith) (with_check set S d 0 (leaf (PushText t ∷ []) ty) span (Gives (Text t)) inside)
    where
      inside : Inside set S d 0 (leaf (PushText t ∷ []) ty) (Gives (Text t))
      inside s o at ls st h ready =
          own set S 1 (live o at ls st h s) h factor 0 ls ls (h ++ TextObject t ∷ []) (slot.Ref (length h) ∷ []) (λ h' xs. On true Represents h' (Text t) xs) s (λ ls' h' xs. live o (at + 3) ls' (xs ++ st) h' s) (omega arith)
          (push_text set o at ls st h s t ready.code.0)
          (refl, (length h, refl, get_new h (TextObject t))) (grows_more h (TextObject t)) (held_on h (h ++ TextObject t ∷ []) ls s.locals (grows_more h (TextObject t)) ready.held) refl

  some_is : (a b : Slot) → Some a ≡ Some b → a ≡ b
  some_is a b e = cc

  pub read_follows : (d : ℕ) (ty : TypeTree) (span : Span) (x : ℕ) → Follows set S (suc d) (leaf (loads ty x) ty) (λ s. enter s.units s (λ s1. then_do (read span (slice_get s1.locals x) s1) (checked span ty)))
  read_follows d ty span x = entered set S d 0 (leaf (loads ty x) ty) _ (omega arith) (λ s o at ls st h ready. found s o at ls st h ready (slice_get s.locals x) refl)
    where
      one : (n m : ℕ) → n + m ≡ n + (m + 0)
      one n m = omega arith

      -- the value is of the type
      of_type : (s : State) (o : Activation) (at : ℕ) (ls st : List Slot) (h : List Object) (ty : TypeTree) → Held h ls s.locals → HasAt set o at (loads ty x) → (v : Value) → slice_get s.locals x ≡ Some (Some v) → Run set S o (On true (Typed ty)) (live o at ls st h s) h s.units factor 0 ls (at + bytes (loads ty x)) st (then_do (Gives v s) (checked span ty))
      of_type s o at ls st h type_is.Int held code (Int z) e =
          own set S 1 (live o at ls st h s) h factor 0 ls ls h (slot.Int z ∷ []) (λ h' xs. On true (Typed type_is.Int) h' (Int z) xs) s (λ ls' h' xs. live o (at + bytes (loads type_is.Int x)) ls' (xs ++ st) h' s) (omega arith)
          (load set o at ls st h s kinds.Int x (slot.Int z) code.0 (held.same x (Int z) e) refl ∙ ap (λ n. live o n ls (slot.Int z ∷ st) h s) (one at (local_bytes x)))
          (refl, (refl, refl)) (grows_none h) held refl
      of_type s o at ls st h type_is.Boolean held code (Boolean b) e =
          own set S 1 (live o at ls st h s) h factor 0 ls ls h (slot.Int (bit b) ∷ []) (λ h' xs. On true (Typed type_is.Boolean) h' (Boolean b) xs) s (λ ls' h' xs. live o (at + bytes (loads type_is.Boolean x)) ls' (xs ++ st) h' s) (omega arith)
          (load set o at ls st h s kinds.Int x (slot.Int (bit b)) code.0 (held.same x (Boolean b) e) refl ∙ ap (λ n. live o n ls (slot.Int (bit b) ∷ st) h s) (one at (local_bytes x)))
          (refl, (refl, refl)) (grows_none h) held refl
      of_type s o at ls st h type_is.String held code (Text t) e =
          let r = held.same x (Text t) e in
          own set S 1 (live o at ls st h s) h factor 0 ls ls h (slot.Ref r.0 ∷ []) (λ h' xs. On true (Typed type_is.String) h' (Text t) xs) s (λ ls' h' xs. live o (at + bytes (loads type_is.String x)) ls' (xs ++ st) h' s) (omega arith)
          (load set o at ls st h s kinds.Ref x (slot.Ref r.0) code.0 r.1 refl ∙ ap (λ n. live o n ls (slot.Ref r.0 ∷ st) h s) (one at (local_bytes x)))
          (refl, (refl, (r.0, refl, r.2))) (grows_none h) held refl
      of_type s o at ls st h type_is.Unit held code UnitValue e =
          own set S 0 (live o at ls st h s) h factor 0 ls ls h [] (λ h' xs. On true (Typed type_is.Unit) h' UnitValue xs) s (λ ls' h' xs. live o (at + bytes (loads type_is.Unit x)) ls' (xs ++ st) h' s) (omega arith)
          (let e : at ≡ at + 0 = omega arith in ap (λ n. live o n ls st h s) e)
          (refl, (refl, refl)) (grows_none h) held refl
      of_type s o at ls st h type_is.Int held code (Boolean b) e = tt
      of_type s o at ls st h type_is.Int held code (Text t) e = tt
      of_type s o at ls st h type_is.Boolean held code (Int z) e = tt
      of_type s o at ls st h type_is.Boolean held code (Text t) e = tt
      of_type s o at ls st h type_is.Boolean held code UnitValue e = tt
      of_type s o at ls st h type_is.String held code (Boolean b) e = tt
      of_type s o at ls st h type_is.Unit held code (Boolean b) e = tt
      of_type s o at ls st h type_is.Int held code UnitValue e = tt
      of_type s o at ls st h type_is.String held code (Int z) e = tt
      of_type s o at ls st h type_is.String held code UnitValue e = tt
      of_type s o at ls st h type_is.Unit held code (Int z) e = tt
      of_type s o at ls st h type_is.Unit held code (Text t) e = tt

      found : (s : State) (o : Activation) (at : ℕ) (ls st : List Slot) (h : List Object) → Ready set S d (leaf (loads ty x) ty) s o at ls h → (w : Option (Option Value)) → slice_get s.locals x ≡ w → Run set S o (On true (Typed ty)) (live o at ls st h s) h s.units factor 0 ls (at + bytes (loads ty x)) st (then_do (read span w s) (checked span ty))
      found s o at ls st h ready (Some (Some v)) e = of_type s o at ls st h ty ready.held ready.code v e
      found s o at ls st h ready (Some None) e = tt
      found s o at ls st h ready None e = tt

  -- a variable without a value
  pub unset_follows : (d : ℕ) (ty : TypeTree) (span : Span) (x : ℕ) → Follows set S (suc d) (leaf [] ty) (λ s. enter s.units s (λ s1. then_do (set_local span (slice_get s1.locals x) x None s1) (checked span ty)))
  unset_follows d ty span x = entered set S d 0 (leaf [] ty) _ (omega arith) (with_check set S d 0 (leaf [] ty) span (λ s. set_local span (slice_get s.locals x) x None s) (λ s o at ls st h ready. found s o at ls st h ready (slice_get s.locals x) refl))
    where
      found : (s : State) (o : Activation) (at : ℕ) (ls st : List Slot) (h : List Object) → Ready set S d (leaf [] ty) s o at ls h → (w : Option (Option Value)) → slice_get s.locals x ≡ w → Run set S o (On true Represents) (live o at ls st h s) h s.units factor 0 ls (at + 0) st (set_local span w x None s)
      found s o at ls st h ready (Some old) e =
          let s' : State = record s { locals = slice_set s.locals x None } in
          own set S 0 (live o at ls st h s) h factor 0 ls ls h [] (λ h' xs. On true Represents h' UnitValue xs) s' (λ ls' h' xs. live o (at + 0) ls' (xs ++ st) h' s') (omega arith)
          (let e : at ≡ at + 0 = omega arith in ap (λ n. live o n ls st h s) e)
          (refl, refl) (grows_none h) (held_unset h ls s.locals x (within s.locals x old e) ready.held) refl
      found s o at ls st h ready None e = tt
