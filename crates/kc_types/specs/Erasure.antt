-- Types as compiled code sees them (Java Virtual Machine Specification SE 8, 2.2 to 2.4): without arguments.
use Rattle.std.specs.Prelude.{ℕ, zero, suc, ◌+◌, nat_eq, cond}
use Rattle.kc_types.specs.Types.{Ty, Class, Param, Nothing, Nullable, Heads}

pub data Representation : Type 0 where
  IntValue LongValue CharValue BooleanValue : Representation
  -- an object of the class that stands for this one; for that of a number it is the number's box
  Reference : (c : ℕ) → Representation
  -- an array of objects
  ArrayReference : Representation

abbrev pub reference_to : ℕ → Representation
reference_to c = cond (nat_eq c 7) ArrayReference (Reference c)

-- where a reference is needed: an argument, a type parameter, a nullable type; a type parameter by its bound, for which there
-- are so many steps
abbrev pub boxed_from : ℕ → Heads → Ty → Representation
boxed_from n h (Class c xs) = reference_to c
boxed_from n h Nothing = Reference h.any
boxed_from zero h (Param x) = Reference h.any
boxed_from (suc n) h (Param x) = boxed_from n h (h.bound_of x)
boxed_from zero h (Nullable t) = Reference h.any
boxed_from (suc n) h (Nullable t) = boxed_from n h t

-- each bound may have a `?`
abbrev pub boxed : Heads → Ty → Representation
boxed h t = boxed_from (suc (h.vars + h.vars)) h t

abbrev pub value_of_class : ℕ → Representation
value_of_class c = cond (nat_eq c 2) IntValue (cond (nat_eq c 3) LongValue (cond (nat_eq c 4) CharValue (cond (nat_eq c 5) BooleanValue (reference_to c))))

abbrev pub erased : Heads → Ty → Representation
erased h (Class c xs) = value_of_class c
erased h (Param x) = boxed h (Param x)
erased h Nothing = boxed h Nothing
erased h (Nullable t) = boxed h (Nullable t)
