-- Exceptions of the machine's own, by linked handlers.
use Rattle.std.specs.Prelude.{◌≡◌, ℕ, List, [], ◌∷◌, ◌++◌, length, Option, Some, None, Bool, true, false, ◌&&◌, ◌==◌, nat_le, nat_lt, if◌then◌else◌}
use Rattle.std.specs.List.{list_any}
use Rattle.class_file.specs.declared.value.Value.TheVariants.{Ref}
use Rattle.class_file.specs.declared.value.BuiltIn.{BuiltIn}
use Rattle.class_file.specs.declared.value.BuiltIn.TheVariants as built_in
use Rattle.class_file.specs.Classes.{exception_number}
use Rattle.class_file.specs.Natives.{Object}
use Rattle.class_file.specs.Machine.{Active, message, exception_objects, exception_place}
use Rattle.class_machine.specs.declared.frame.Frame.{Frame}
use Rattle.class_machine.specs.declared.links.Caught.{Caught}
use Rattle.class_machine.specs.declared.links.Caught.TheVariants as caught
use Rattle.class_machine.specs.declared.links.LinkedHandler.{LinkedHandler}
use Rattle.class_machine.specs.declared.links.Links.{Links}
use Rattle.class_machine.specs.Links.{handlers_at}
use Rattle.class_machine.specs.Stacks.{shown}

-- the numbers of the class of an exception and of its superclasses
abbrev pub superclasses : BuiltIn → List ℕ
superclasses built_in.Throwable = 7 ∷ 0 ∷ []
superclasses built_in.Exception = 8 ∷ 7 ∷ 0 ∷ []
superclasses built_in.Error = 9 ∷ 7 ∷ 0 ∷ []
superclasses built_in.RuntimeException = 10 ∷ 8 ∷ 7 ∷ 0 ∷ []
superclasses built_in.IllegalArgumentException = 11 ∷ 10 ∷ 8 ∷ 7 ∷ 0 ∷ []
superclasses built_in.NumberFormatException = 12 ∷ 11 ∷ 10 ∷ 8 ∷ 7 ∷ 0 ∷ []
superclasses built_in.IllegalStateException = 13 ∷ 10 ∷ 8 ∷ 7 ∷ 0 ∷ []
superclasses built_in.UnsupportedOperationException = 14 ∷ 10 ∷ 8 ∷ 7 ∷ 0 ∷ []
superclasses built_in.ArithmeticException = 15 ∷ 10 ∷ 8 ∷ 7 ∷ 0 ∷ []
superclasses built_in.NullPointerException = 16 ∷ 10 ∷ 8 ∷ 7 ∷ 0 ∷ []
superclasses built_in.ClassCastException = 17 ∷ 10 ∷ 8 ∷ 7 ∷ 0 ∷ []
superclasses built_in.IndexOutOfBoundsException = 18 ∷ 10 ∷ 8 ∷ 7 ∷ 0 ∷ []
superclasses built_in.ArrayIndexOutOfBoundsException = 19 ∷ 18 ∷ 10 ∷ 8 ∷ 7 ∷ 0 ∷ []
superclasses built_in.ArrayStoreException = 20 ∷ 10 ∷ 8 ∷ 7 ∷ 0 ∷ []
superclasses built_in.NegativeArraySizeException = 21 ∷ 10 ∷ 8 ∷ 7 ∷ 0 ∷ []
superclasses built_in.IncompatibleClassChangeError = 22 ∷ 9 ∷ 7 ∷ 0 ∷ []
superclasses built_in.AbstractMethodError = 23 ∷ 22 ∷ 9 ∷ 7 ∷ 0 ∷ []
superclasses built_in.NoSuchElementException = 24 ∷ 10 ∷ 8 ∷ 7 ∷ 0 ∷ []

-- does a row that catches so catch the exception?
abbrev pub covers : BuiltIn → Caught → Bool
covers x caught.All = true
covers x (caught.Class n) = list_any (λ m. m == n) (superclasses x)
covers x caught.Nothing = false

abbrev pub linked_catches : BuiltIn → ℕ → LinkedHandler → Bool
linked_catches x at h = nat_le h.start at && nat_lt at h.end && covers x h.caught

-- where the first row leads that catches an exception from a place
abbrev pub linked_place : List LinkedHandler → BuiltIn → ℕ → Option ℕ
linked_place [] x at = None
linked_place (h ∷ hs) x at = if linked_catches x at h then Some h.at else linked_place hs x at

abbrev pub place_in : Links → BuiltIn → Active → Option ℕ
place_in links x f = linked_place (handlers_at links f.class f.method) x f.at

-- the frames down to one that catches an exception
abbrev pub unwound_by : Links → BuiltIn → ℕ → List Active → Option (List Active)
unwound_by links x r [] = None
unwound_by links x r (f ∷ fs) = elim (place_in links x f) [ Some at ↦ Some (record f { at = at; stack = Ref r ∷ [] } ∷ fs) | None ↦ unwound_by links x r fs ]

abbrev pub Unwound : Links → BuiltIn → ℕ → Bool → List Active → List Active → Type 0
Unwound links x r true old new = unwound_by links x r old ≡ Some new
Unwound links x r false old new = unwound_by links x r old ≡ None

-- a frame caught it, or not
abbrev pub CaughtBy : Links → BuiltIn → ℕ → Bool → Frame → Frame → Type 0
CaughtBy links x r true old new = (at : ℕ) × (place_in links x (shown old) ≡ Some at) × (shown new ≡ record (shown old) { at = at; stack = Ref r ∷ [] })
CaughtBy links x r false old new = place_in links x (shown old) ≡ None

-- a new exception, behind its message if it has one
pub record MadeException (x : BuiltIn) (place : ℕ) (old new : List Object) : Type 0 where
  pub heap_is : new ≡ old ++ exception_objects (length old) (exception_number x) (message x)
  pub place_is : place ≡ exception_place (length old) (message x)
