-- Plain rows, which go on with nothing but their frame, and runs of them.
use Rattle.std.specs.Prelude.{◌≡◌, ◌≢◌, ◌<◌, ℕ, zero, suc, Bool, true, false, not, List, ◌∷◌, reverse, slice_get, Option, Some, None}
use Rattle.class_file.specs.declared.row.Row.{Row}
use Rattle.class_file.specs.declared.row.Row.TheVariants as row
use Rattle.class_file.specs.declared.row.Operator.{Operator}
use Rattle.class_file.specs.declared.row.Operator.TheVariants as op
use Rattle.class_file.specs.Machine.{Active, Effect, Goes, Fails, effect}
use Rattle.class_machine.specs.declared.frame.Frame.{Frame}
use Rattle.class_machine.specs.declared.links.Op.{Op}
use Rattle.class_machine.specs.declared.links.Links.{Links}
use Rattle.class_machine.specs.Links.{op_at, methods_in, ops_in}
use Rattle.class_machine.specs.Stacks.{shown, SameMethod}

abbrev pub is_division : Operator → Bool
is_division op.Div = true
is_division op.Rem = true
is_division op.Add = false
is_division op.Sub = false
is_division op.Mul = false
is_division op.And = false
is_division op.Or = false
is_division op.Xor = false

abbrev pub is_plain : Row → Bool
is_plain row.Nop = true
is_plain (row.PushInt n) = true
is_plain (row.PushLong n) = true
is_plain row.PushNull = true
is_plain (row.Load kind i) = true
is_plain (row.Store kind i) = true
is_plain (row.Increment i n) = true
is_plain row.Pop = true
is_plain row.Pop2 = true
is_plain row.Dup = true
is_plain row.DupX1 = true
is_plain row.Dup2 = true
is_plain (row.IntBinary o) = not (is_division o)
is_plain (row.LongBinary o) = not (is_division o)
is_plain (row.IntShift s) = true
is_plain (row.LongShift s) = true
is_plain row.IntNeg = true
is_plain row.LongNeg = true
is_plain row.IntToLong = true
is_plain row.LongToInt = true
is_plain row.IntToChar = true
is_plain row.LongCompare = true
is_plain (row.IfZero t to) = true
is_plain (row.IfCompare t to) = true
is_plain (row.IfNull wanted to) = true
is_plain (row.Goto to) = true
is_plain _ = false

-- where an effect leads that only moves the frame
abbrev pub moved : Active → Effect → Option Active
moved f (Goes at locals stack) = Some (record f { at = at; locals = locals; stack = stack })
moved f _ = None

abbrev pub moved_by : Active → Option Op → Option Active
moved_by f (Some op) = moved f (effect op.row op.next f.locals f.stack)
moved_by f None = None

-- the frame after the row at its place
abbrev pub moved_on : List Op → Option Active → Option Active
moved_on ops (Some f) = moved_by f (slice_get ops f.at)
moved_on ops None = None

-- the frame after so many rows
abbrev pub moved_times : List Op → ℕ → Active → Option Active
moved_times ops zero f = Some f
moved_times ops (suc n) f = moved_on ops (moved_times ops n f)

-- something stands at a place
pub record HasOpIn (ops : List Op) (at : ℕ) : Type 0 where
  pub op : Op
  pub is : slice_get ops at ≡ Some op

-- a row stands at the frame's place, and it does not fail
pub record HasRow (ops : List Op) (f : Active) : Type 0 where
  pub op : Op
  pub is : slice_get ops f.at ≡ Some op
  pub goes : effect op.row op.next f.locals f.stack ≢ Fails

-- so it is as long as rows only move the frame
pub record MovesOn (ops : List Op) (f : Active) : Type 0 where
  pub row_after : (n : ℕ) (g : Active) → moved_times ops n f ≡ Some g → HasRow ops g

-- the ops of a method
abbrev pub ops_at : Links → ℕ → ℕ → List Op
ops_at links class method = ops_in (slice_get (methods_in (slice_get links.classes.items class)) method)

-- the running frame moves on
pub record TopMovesOn (links : Links) (frames : List Frame) : Type 0 where
  pub top : Frame
  pub below : List Frame
  pub is : reverse frames ≡ top ∷ below
  pub moves : MovesOn (ops_at links top.class top.method) (shown top)

-- before as many rows as it may make it stops only at one that is not plain
abbrev pub StopsBy : List Op → ℕ → ℕ → Active → Type 0
StopsBy ops made most f = made < most → (op : Op) → slice_get ops f.at ≡ Some op → is_plain op.row ≡ false

-- no plain row stands at the running frame's place
abbrev pub TopStops : Links → List Frame → Type 0
TopStops links frames = (top : Frame) (below : List Frame) (op : Op) → reverse frames ≡ top ∷ below → op_at links top.class top.method top.at ≡ Some op → is_plain op.row ≡ false

-- the running frame moved so many times of as many as it may
pub record TopMoved (links : Links) (made most : ℕ) (old new : List Frame) : Type 0 where
  pub before : Frame
  pub after : Frame
  pub below : List Frame
  pub old_is : reverse old ≡ before ∷ below
  pub new_is : reverse new ≡ after ∷ below
  pub same : SameMethod before after
  pub moved : moved_times (ops_at links before.class before.method) made (shown before) ≡ Some (shown after)
  pub stops : StopsBy (ops_at links before.class before.method) made most (shown after)
