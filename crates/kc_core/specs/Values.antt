-- Values, their types, and what the operators on numbers give.
use Rattle.std.specs.Prelude.{ℕ, Bool, true, false, List, Option, Some, None, ℤ, pos, if◌then◌else◌, int_lt, int_le, codes}
use Rattle.std.specs.Ordering.{int_eq}
use Rattle.std.specs.Int.{w32, int_wrapping_add, int_wrapping_sub, int_wrapping_mul, int_wrapping_div, int_wrapping_neg}
use Rattle.std.specs.Int.RustNames.{int_rem}
use Rattle.std.specs.Fmt.{signed_decimal}
use Rattle.kc_core.specs.declared.tree.TypeTree.{TypeTree}
use Rattle.kc_core.specs.declared.tree.TypeTree.TheVariants as type_is
use Rattle.kc_core.specs.declared.tree.BinaryOp.{BinaryOp}
use Rattle.kc_core.specs.declared.tree.BinaryOp.TheVariants.{Plus, Minus, Times, Div, Rem}
use Rattle.kc_core.specs.declared.tree.Order.{Order}
use Rattle.kc_core.specs.declared.tree.Order.TheVariants.{Less, LessEqual, Greater, GreaterEqual}

pub data Value : Type 0 where
  Int : (number : ℤ) → Value
  Boolean : (is : Bool) → Value
  Text : (units : List ℕ) → Value
  UnitValue : Value

-- the value has the type
abbrev pub has_type : Value → TypeTree → Bool
has_type (Int z) type_is.Int = true
has_type (Boolean b) type_is.Boolean = true
has_type (Text t) type_is.String = true
has_type UnitValue type_is.Unit = true
has_type _ _ = false

-- The result of an operator on two Ints, which wraps; none where a divisor is 0. A quotient is cut towards zero
-- (Kotlin Language Specification 1.9, "Built-in integer types").
abbrev pub arithmetic : BinaryOp → ℤ → ℤ → Option ℤ
arithmetic Plus x y = Some (int_wrapping_add w32 x y)
arithmetic Minus x y = Some (int_wrapping_sub w32 x y)
arithmetic Times x y = Some (int_wrapping_mul w32 x y)
arithmetic Div x y = if int_eq y (pos 0) then None else Some (int_wrapping_div w32 x y)
arithmetic Rem x y = if int_eq y (pos 0) then None else Some (int_rem x y)

abbrev pub negated : ℤ → ℤ
negated x = int_wrapping_neg w32 x

-- a comparison of two Ints (Kotlin Language Specification 1.9, "Comparison expressions")
abbrev pub compares : Order → ℤ → ℤ → Bool
compares Less x y = int_lt x y
compares LessEqual x y = int_le x y
compares Greater x y = int_lt y x
compares GreaterEqual x y = int_le y x

abbrev pub truth_text : Bool → List ℕ
truth_text true = codes "true"
truth_text false = codes "false"

-- the text of a value
abbrev pub text_of : Value → List ℕ
text_of (Int z) = signed_decimal z
text_of (Boolean b) = truth_text b
text_of (Text t) = t
text_of UnitValue = codes "kotlin.Unit"
