-- What stands on a stack, its top first, and what a row did.
use Rattle.class_file.specs.declared.row.Row.{Row}
use Rattle.class_file.specs.declared.row.Row.TheVariants as row
use Rattle.std.specs.Prelude.{◌≡◌, ◌≢◌, ℤ, false, ℕ, List, [], ◌∷◌, reverse}
use Rattle.class_file.specs.declared.value.Value.{Value}
use Rattle.class_file.specs.declared.value.Value.TheVariants.{Int, Long}
use Rattle.class_machine.specs.Lot.{is_built}
use Rattle.class_file.specs.Machine.{effect, Fails, Effect, Goes, Throws, LoadsConstant, LoadsLong, Compares, Invokes, Static, Returns, Active}
use Rattle.class_machine.specs.declared.frame.Frame.{Frame}
use Rattle.class_machine.specs.declared.rows.Went.{Went}
use Rattle.class_machine.specs.declared.rows.Went.TheVariants.{On, Threw, Loads, LoadsWide, Compares as ComparesTwo, Calls, Returned, ReturnedValue, NotBuilt}

-- a running method as the definition sees it
abbrev pub shown : Frame → Active
shown f = record { class = f.class; method = f.method; at = f.at; locals = f.locals.items; stack = reverse f.stack.items; starts = f.starts }

pub record HasInt (stack : List Value) : Type 0 where
  pub top : ℤ
  pub rest : List Value
  pub is : stack ≡ Int top ∷ rest

pub record HasLong (stack : List Value) : Type 0 where
  pub top : ℤ
  pub rest : List Value
  pub is : stack ≡ Long top ∷ rest

-- the same method's frame
pub record SameMethod (old new : Frame) : Type 0 where
  pub class_is : new.class ≡ old.class
  pub method_is : new.method ≡ old.method
  pub starts_is : new.starts ≡ old.starts

-- a frame whose stack alone may have changed
pub record Stands (old new : Frame) : Type 0 where
  pub same : SameMethod old new
  pub at_is : new.at ≡ old.at
  pub locals_are : new.locals ≡ old.locals

-- the frame went on
abbrev pub DidGoOn : Effect → Frame → Frame → Type 0
DidGoOn e old new = (e ≡ Goes new.at new.locals.items (reverse new.stack.items)) × SameMethod old new

-- a row that did not fail did this; one that is not built did nothing
abbrev pub Did : Row → Effect → Went → Frame → Frame → Type 0
Did r e On old new = DidGoOn e old new
Did r e (Threw x) old new = (e ≡ Throws x) × Stands old new
Did r e (Loads i) old new = (e ≡ LoadsConstant i) × (new ≡ old)
Did r e (LoadsWide i) old new = (e ≡ LoadsLong i) × (new ≡ old)
Did r e (ComparesTwo wanted to v w) old new = (e ≡ Compares wanted to v w (reverse new.stack.items)) × Stands old new
Did r e (Calls i) old new = (e ≡ Invokes Static i) × (new ≡ old) × (r ≡ row.InvokeStatic i)
Did r e Returned old new = (e ≡ Returns []) × SameMethod old new
Did r e (ReturnedValue v) old new = (e ≡ Returns (v ∷ [])) × SameMethod old new
Did r e NotBuilt old new = is_built r ≡ false

-- the row does not fail in the running frame
pub record RowGoes (r : Row) (next : ℕ) (frames : List Frame) : Type 0 where
  pub top : Frame
  pub below : List Frame
  pub is : reverse frames ≡ top ∷ below
  pub goes : effect r next top.locals.items (reverse top.stack.items) ≢ Fails

-- a row did this in the running frame
pub record TopDid (r : Row) (next : ℕ) (w : Went) (old new : List Frame) : Type 0 where
  pub before : Frame
  pub after : Frame
  pub below : List Frame
  pub old_is : reverse old ≡ before ∷ below
  pub new_is : reverse new ≡ after ∷ below
  pub did : Did r (effect r next before.locals.items (reverse before.stack.items)) w before after

-- the running frame was changed so
pub record TopChanged (change : Active → Active) (old new : List Frame) : Type 0 where
  pub before : Frame
  pub after : Frame
  pub below : List Frame
  pub old_is : reverse old ≡ before ∷ below
  pub new_is : reverse new ≡ after ∷ below
  pub is : shown after ≡ change (shown before)

abbrev pub TopPushed : Value → ℕ → List Frame → List Frame → Type 0
TopPushed v next old new = TopChanged (λ f. record f { at = next; stack = v ∷ f.stack }) old new

abbrev pub TopJumped : ℕ → List Frame → List Frame → Type 0
TopJumped to old new = TopChanged (λ f. record f { at = to }) old new

-- the running frame
pub record IsRunning (f : Frame) (frames : List Frame) : Type 0 where
  pub below : List Frame
  pub is : reverse frames ≡ f ∷ below
