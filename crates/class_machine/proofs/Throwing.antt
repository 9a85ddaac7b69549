-- Exceptions of the machine's own, and the frames that they leave.
use Rattle.std.proofs.Common.{◌≡◌, ℕ, suc, ◌+◌, Bool, true, false, List, [], ◌∷◌, ◌++◌, length, Option, Some, None, refl, sym, ap, ◌∙◌, arith, if◌then◌else◌}
use Rattle.std.specs.Prelude.{slice_get, map, All, ◌&&◌, ◌||◌, ◌==◌, nat_le, nat_lt}
use Rattle.std.specs.List.{find, list_any}
use Rattle.std.proofs.lemmas.Bool.{eqb-true}
use Rattle.class_file.specs.declared.class.Set.{Set}
use Rattle.class_file.specs.declared.class.Method.{Method}
use Rattle.class_file.specs.declared.class.Handler.{Handler}
use Rattle.class_file.specs.declared.value.Value.{Value}
use Rattle.class_file.specs.declared.value.Value.TheVariants.{Ref}
use Rattle.class_file.specs.declared.value.BuiltIn.{BuiltIn}
use Rattle.class_file.specs.declared.value.BuiltIn.TheVariants as built_in
use Rattle.class_file.specs.Pools.{Slots, entry_at, name_in}
use Rattle.class_file.specs.Classes.{built_ins, class_number, class_count, exception_number, supertypes, supertypes_up_to, concat_map, interfaces_of, or_none, superclass, is_below}
use Rattle.class_file.specs.Natives.{Object, TextObject, Instance, text_in, name_of}
use Rattle.class_file.specs.Machine.{State, Active, Next, Going, Over, class_pool, method_at, handlers_of, catches, handler, type_covers, number_named, unwound, thrown, goes_on, message, message_of, with_exception, exception_reference, exception_objects, exception_place, exception_fields}
use Rattle.class_file.specs.Machine as machine
use Rattle.class_machine.specs.declared.links.LinkedHandler.{LinkedHandler}
use Rattle.class_machine.specs.declared.links.Links.{Links}
use Rattle.class_machine.specs.Links.{IsLinked, linked_handler, caught_in, caught_named, caught_number, exception_named}
use Rattle.class_machine.specs.Lot.{IsBuilt, CatchesKnown, CatchesAll, CatchesOne, class_name}
use Rattle.class_machine.specs.Throws.{superclasses, covers, linked_catches, linked_place, place_in, unwound_by}

-- ---- what is thrown

new_at : (heap : List Object) (o : Object) (more : List Object) → slice_get (heap ++ o ∷ more) (length heap) ≡ Some o
new_at [] o more = refl
new_at (x ∷ heap) o more = new_at heap o more

-- the message that is told is the exception's
told : (heap : List Object) (class : ℕ) (o : Option (List ℕ)) → message_of (heap ++ exception_objects (length heap) class o) (exception_fields (length heap) o) ≡ o
told heap class None = refl
told heap class (Some units) = ap text_in (new_at heap (TextObject units) (Instance class (Ref (length heap) ∷ []) ∷ []))

named : (set : Set) (x : BuiltIn) → name_of set (exception_number x) ≡ class_name x
unfolding built_ins
named set built_in.Throwable = refl
named set built_in.Exception = refl
named set built_in.Error = refl
named set built_in.RuntimeException = refl
named set built_in.IllegalArgumentException = refl
named set built_in.NumberFormatException = refl
named set built_in.IllegalStateException = refl
named set built_in.UnsupportedOperationException = refl
named set built_in.ArithmeticException = refl
named set built_in.NullPointerException = refl
named set built_in.ClassCastException = refl
named set built_in.IndexOutOfBoundsException = refl
named set built_in.ArrayIndexOutOfBoundsException = refl
named set built_in.ArrayStoreException = refl
named set built_in.NegativeArraySizeException = refl
named set built_in.IncompatibleClassChangeError = refl
named set built_in.AbstractMethodError = refl
named set built_in.NoSuchElementException = refl

-- the number of the class of this name
numbered : (set : Set) (x : BuiltIn) → class_number set (class_name x) ≡ Some (exception_number x)
unfolding built_ins
numbered set built_in.Throwable = refl
numbered set built_in.Exception = refl
numbered set built_in.Error = refl
numbered set built_in.RuntimeException = refl
numbered set built_in.IllegalArgumentException = refl
numbered set built_in.NumberFormatException = refl
numbered set built_in.IllegalStateException = refl
numbered set built_in.UnsupportedOperationException = refl
numbered set built_in.ArithmeticException = refl
numbered set built_in.NullPointerException = refl
numbered set built_in.ClassCastException = refl
numbered set built_in.IndexOutOfBoundsException = refl
numbered set built_in.ArrayIndexOutOfBoundsException = refl
numbered set built_in.ArrayStoreException = refl
numbered set built_in.NegativeArraySizeException = refl
numbered set built_in.IncompatibleClassChangeError = refl
numbered set built_in.AbstractMethodError = refl
numbered set built_in.NoSuchElementException = refl

known : (x : BuiltIn) → exception_named (class_name x) ≡ Some (exception_number x)
known built_in.Throwable = refl
known built_in.Exception = refl
known built_in.Error = refl
known built_in.RuntimeException = refl
known built_in.IllegalArgumentException = refl
known built_in.NumberFormatException = refl
known built_in.IllegalStateException = refl
known built_in.UnsupportedOperationException = refl
known built_in.ArithmeticException = refl
known built_in.NullPointerException = refl
known built_in.ClassCastException = refl
known built_in.IndexOutOfBoundsException = refl
known built_in.ArrayIndexOutOfBoundsException = refl
known built_in.ArrayStoreException = refl
known built_in.NegativeArraySizeException = refl
known built_in.IncompatibleClassChangeError = refl
known built_in.AbstractMethodError = refl
known built_in.NoSuchElementException = refl

-- a class and its supertypes up to so many steps away
abbrev up_to : Set → ℕ → ℕ → List ℕ
up_to set n fuel = n ∷ concat_map (supertypes_up_to fuel set) (interfaces_of set n) ++ or_none (superclass set n) (supertypes_up_to fuel set)

above_by : (set : Set) (k : ℕ) (x : BuiltIn) → up_to set (exception_number x) (suc (suc (suc (suc (suc (suc k)))))) ≡ superclasses x
unfolding built_ins
above_by set k built_in.Throwable = refl
above_by set k built_in.Exception = refl
above_by set k built_in.Error = refl
above_by set k built_in.RuntimeException = refl
above_by set k built_in.IllegalArgumentException = refl
above_by set k built_in.NumberFormatException = refl
above_by set k built_in.IllegalStateException = refl
above_by set k built_in.UnsupportedOperationException = refl
above_by set k built_in.ArithmeticException = refl
above_by set k built_in.NullPointerException = refl
above_by set k built_in.ClassCastException = refl
above_by set k built_in.IndexOutOfBoundsException = refl
above_by set k built_in.ArrayIndexOutOfBoundsException = refl
above_by set k built_in.ArrayStoreException = refl
above_by set k built_in.NegativeArraySizeException = refl
above_by set k built_in.IncompatibleClassChangeError = refl
above_by set k built_in.AbstractMethodError = refl
above_by set k built_in.NoSuchElementException = refl

above : (set : Set) (x : BuiltIn) → supertypes set (exception_number x) ≡ superclasses x
above set x =
    let n : class_count set ≡ suc (suc (suc (suc (suc (suc (31 + length set.classes)))))) = omega arith in
    ap (up_to set (exception_number x)) n ∙ above_by set (31 + length set.classes) x

-- ---- handlers

-- a linked row catches what its row does
covered : (set : Set) (x : BuiltIn) (pool : Slots) (h : Handler) → CatchesKnown pool h
    → (h.catch_type == 0 || type_covers set (exception_number x) (number_named set (name_in pool (entry_at pool h.catch_type)))) ≡ covers x (caught_in (h.catch_type == 0) (name_in pool (entry_at pool h.catch_type)))
covered set x pool h (CatchesAll e) =
    ap (λ (n : ℕ). n == 0 || type_covers set (exception_number x) (number_named set (name_in pool (entry_at pool h.catch_type)))) e
    ∙ sym (ap (λ (n : ℕ). covers x (caught_in (n == 0) (name_in pool (entry_at pool h.catch_type)))) e)
covered set x pool h (CatchesOne y some name) =
    ap (λ (o : Option (List ℕ)). h.catch_type == 0 || type_covers set (exception_number x) (number_named set o)) name
    ∙ ap (λ (o : Option ℕ). h.catch_type == 0 || type_covers set (exception_number x) o) (numbered set y)
    ∙ by (h.catch_type == 0) refl
    ∙ sym (ap (λ (o : Option (List ℕ)). covers x (caught_in (h.catch_type == 0) o)) name)
  where
    below : is_below set (exception_number x) (exception_number y) ≡ covers x (caught_named (Some (class_name y)))
    below =
        ap (list_any (λ (m : ℕ). m == exception_number y)) (above set x)
        ∙ sym (ap (λ (o : Option ℕ). covers x (caught_number o)) (known y))

    by : (b : Bool) → h.catch_type == 0 ≡ b → (h.catch_type == 0 || is_below set (exception_number x) (exception_number y)) ≡ covers x (caught_in (h.catch_type == 0) (Some (class_name y)))
    by true k = absurd (some (eqb-true h.catch_type 0 k))
    by false k = ap (λ (b : Bool). b || is_below set (exception_number x) (exception_number y)) k ∙ below ∙ sym (ap (λ (b : Bool). covers x (caught_in b (Some (class_name y)))) k)

catches_same : (set : Set) (x : BuiltIn) (pool : Slots) (at : ℕ) (h : Handler) → CatchesKnown pool h → catches set pool (exception_number x) at h ≡ linked_catches x at (linked_handler pool h)
catches_same set x pool at h k = ap (λ (b : Bool). nat_le h.start at && nat_lt at h.end && b) (covered set x pool h k)

abbrev place_of : Option Handler → Option ℕ
place_of (Some h) = Some h.at
place_of None = None

All-tail : (P : Handler → Type 0) (h : Handler) (hs : List Handler) → All P (h ∷ hs) → All P hs
All-tail P h hs all = λ k d lt. all (suc k) d (omega (arith, lt))

rows_same : (set : Set) (x : BuiltIn) (pool : Slots) (at : ℕ) (hs : List Handler) → All (CatchesKnown pool) hs → place_of (find (catches set pool (exception_number x) at) hs) ≡ linked_place (map (linked_handler pool) hs) x at
rows_same set x pool at [] all = refl
rows_same set x pool at (h ∷ hs) all =
    by (linked_catches x at (linked_handler pool h)) (catches_same set x pool at h (all 0 h (omega arith))) (rows_same set x pool at hs (All-tail (CatchesKnown pool) h hs all))
  where
    by : (b : Bool) → catches set pool (exception_number x) at h ≡ b → place_of (find (catches set pool (exception_number x) at) hs) ≡ linked_place (map (linked_handler pool) hs) x at
        → place_of (find (catches set pool (exception_number x) at) (h ∷ hs)) ≡ (if b then Some h.at else linked_place (map (linked_handler pool) hs) x at)
    by true e more = ap (λ (b : Bool). place_of (if b then Some h else find (catches set pool (exception_number x) at) hs)) e
    by false e more = ap (λ (b : Bool). place_of (if b then Some h else find (catches set pool (exception_number x) at) hs)) e ∙ more

all_known : (set : Set) → IsBuilt set → (class method : ℕ) → All (CatchesKnown (class_pool set class)) (handlers_of (method_at set class method))
all_known set built class method = by (method_at set class method) refl
  where
    by : (o : Option Method) → method_at set class method ≡ o → All (CatchesKnown (class_pool set class)) (handlers_of o)
    by None e = λ k d lt. absurd (omega (arith, lt))
    by (Some m) e = built.handlers class method m e

-- the place of the handler of a frame
handler_place : (set : Set) (links : Links) → IsLinked set links → IsBuilt set → (x : BuiltIn) (f : Active) → place_of (handler set (exception_number x) f) ≡ place_in links x f
handler_place set links linked built x f =
    rows_same set x (class_pool set f.class) f.at (handlers_of (method_at set f.class f.method)) (all_known set built f.class f.method)
    ∙ ap (λ (hs : List LinkedHandler). linked_place hs x f.at) (sym (linked.handlers f.class f.method))

-- ---- unwinding

abbrev pub after_unwinding : Set → State → ℕ → List Value → Option (List Active) → Next
after_unwinding set s class fields (Some fs) = Going (record s { frames = fs })
after_unwinding set s class fields None = Over (machine.Threw (name_of set class) (message_of s.heap fields)) s.out

unwound_is : (set : Set) (links : Links) → IsLinked set links → IsBuilt set → (x : BuiltIn) (s : State) (r : ℕ) (fields : List Value) (fs : List Active)
    → unwound set s r (exception_number x) fields fs ≡ after_unwinding set s (exception_number x) fields (unwound_by links x r fs)
unwound_is set links linked built x s r fields [] = refl
unwound_is set links linked built x s r fields (f ∷ fs) = by (handler set (exception_number x) f) (handler_place set links linked built x f) (unwound_is set links linked built x s r fields fs)
  where
    caught : Option ℕ → Option (List Active)
    caught o = elim o [ Some at ↦ Some (record f { at = at; stack = Ref r ∷ [] } ∷ fs) | None ↦ unwound_by links x r fs ]

    by : (o : Option Handler) → place_of o ≡ place_in links x f → unwound set s r (exception_number x) fields fs ≡ after_unwinding set s (exception_number x) fields (unwound_by links x r fs)
        → elim o [ Some h ↦ goes_on s f fs h.at (Ref r ∷ []) | None ↦ unwound set s r (exception_number x) fields fs ] ≡ after_unwinding set s (exception_number x) fields (caught (place_in links x f))
    by (Some h) e more = ap (λ (o : Option ℕ). after_unwinding set s (exception_number x) fields (caught o)) e
    by None e more = more ∙ ap (λ (o : Option ℕ). after_unwinding set s (exception_number x) fields (caught o)) e

-- what a throw of the machine's own comes to
pub thrown_caught : (set : Set) (links : Links) → IsLinked set links → IsBuilt set → (x : BuiltIn) (s : State) (fs new : List Active) → unwound_by links x (exception_reference x s) fs ≡ Some new
    → thrown set x s fs ≡ Going (record (with_exception x s) { frames = new })
thrown_caught set links linked built x s fs new e =
    unwound_is set links linked built x (with_exception x s) (exception_reference x s) (exception_fields (length s.heap) (message x)) fs
    ∙ ap (after_unwinding set (with_exception x s) (exception_number x) (exception_fields (length s.heap) (message x))) e

pub thrown_out_of : (set : Set) (links : Links) → IsLinked set links → IsBuilt set → (x : BuiltIn) (s : State) (fs : List Active) → unwound_by links x (exception_reference x s) fs ≡ None
    → thrown set x s fs ≡ Over (machine.Threw (class_name x) (message x)) s.out
thrown_out_of set links linked built x s fs e =
    unwound_is set links linked built x (with_exception x s) (exception_reference x s) (exception_fields (length s.heap) (message x)) fs
    ∙ ap (after_unwinding set (with_exception x s) (exception_number x) (exception_fields (length s.heap) (message x))) e
    ∙ ap (λ (m : Option (List ℕ)). Over (machine.Threw (name_of set (exception_number x)) m) s.out) (told s.heap (exception_number x) (message x))
    ∙ ap (λ (c : List ℕ). Over (machine.Threw c (message x)) s.out) (named set x)

-- ---- the state's own frames, and the stack of the running frame, play no part in a throw

unwound_frames : (set : Set) (s : State) (gs : List Active) (r class : ℕ) (fields : List Value) (fs : List Active) → unwound set s r class fields fs ≡ unwound set (record s { frames = gs }) r class fields fs
unwound_frames set s gs r class fields [] = refl
unwound_frames set s gs r class fields (f ∷ fs) = by (handler set class f) (unwound_frames set s gs r class fields fs)
  where
    by : (o : Option Handler) → unwound set s r class fields fs ≡ unwound set (record s { frames = gs }) r class fields fs
        → elim o as (λ _. Next) [ Some h ↦ goes_on s f fs h.at (Ref r ∷ []) | None ↦ unwound set s r class fields fs ]
        ≡ elim o as (λ _. Next) [ Some h ↦ goes_on (record s { frames = gs }) f fs h.at (Ref r ∷ []) | None ↦ unwound set (record s { frames = gs }) r class fields fs ]
    by (Some h) more = refl
    by None more = more

unwound_stack : (set : Set) (s : State) (f : Active) (stack : List Value) (r class : ℕ) (fields : List Value) (fs : List Active) → unwound set s r class fields (f ∷ fs) ≡ unwound set s r class fields (record f { stack = stack } ∷ fs)
unwound_stack set s f stack r class fields fs = by (handler set class f)
  where
    by : (o : Option Handler) → elim o as (λ _. Next) [ Some h ↦ goes_on s f fs h.at (Ref r ∷ []) | None ↦ unwound set s r class fields fs ]
        ≡ elim o as (λ _. Next) [ Some h ↦ goes_on s (record f { stack = stack }) fs h.at (Ref r ∷ []) | None ↦ unwound set s r class fields fs ]
    by (Some h) = refl
    by None = refl

pub thrown_same : (set : Set) (x : BuiltIn) (s : State) (f : Active) (fs gs : List Active) (stack : List Value) → thrown set x s (f ∷ fs) ≡ thrown set x (record s { frames = gs }) (record f { stack = stack } ∷ fs)
thrown_same set x s f fs gs stack =
    unwound_stack set (with_exception x s) f stack (exception_reference x s) (exception_number x) (exception_fields (length s.heap) (message x)) fs
    ∙ unwound_frames set (with_exception x s) gs (exception_reference x s) (exception_number x) (exception_fields (length s.heap) (message x)) (record f { stack = stack } ∷ fs)
