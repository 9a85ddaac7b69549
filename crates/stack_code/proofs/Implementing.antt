-- A method that is the code of a function does what the function's body means.
use Rattle.std.proofs.Common.{◌≡◌, ℕ, ◌+◌, ◌≤◌, List, [], ◌∷◌, ◌++◌, Some, refl, sym, ap, ◌∙◌, subst, arith}
use Rattle.kc_core.specs.declared.tree.TypeTree.{TypeTree}
use Rattle.kc_core.specs.declared.tree.TypeTree.TheVariants as type_is
use Rattle.kc_core.specs.declared.tree.Function.{Function}
use Rattle.kc_core.specs.Values.{Value, Int, Boolean, Text, UnitValue}
use Rattle.kc_core.specs.Meaning as source
use Rattle.class_file.specs.declared.value.Value.{Value as Slot}
use Rattle.class_file.specs.declared.value.Value.TheVariants as slot
use Rattle.class_file.specs.declared.class.Set.{Set}
use Rattle.class_file.specs.declared.class.Method.{Method}
use Rattle.class_file.specs.Natives.{Object}
use Rattle.class_file.specs.Machine.{on_from, class_pool, handlers_of, method_at, handed}
use Rattle.class_file.specs.Runs.{on_add}
use Rattle.stack_code.specs.Code.{Operation, Leave, kept, discards, code_of, body_code, bit}
use Rattle.stack_code.specs.Agrees.{IsCodeOf}
use Rattle.stack_code.specs.Implements.{Activation, activation, Unhandled, state_at, Held, IsGoing, printed, Does, CodeImplements, method_factor}
use Rattle.stack_code.proofs.Runs.{Typed, On, Quiet, live, HasAt, has_front, written, Run, Ready}
use Rattle.stack_code.proofs.Steps.{discard, leave}
use Rattle.stack_code.proofs.Single.{behind}
use Rattle.stack_code.proofs.Nodes.{sized, type_of_code, node_acts}
use Rattle.stack_code.proofs.Placed.{has_all}

module _ (set : Set) (o : Activation) (m : Method) (f : Function) (there : method_at set o.class o.method ≡ Some m) (is : IsCodeOf (class_pool set o.class) m f) (below : Unhandled set o.rest) where
  quiet : Quiet set o
  quiet = (ap handlers_of there ∙ is.unhandled, below)

  code : HasAt set o 0 (body_code f.body)
  code = has_all set o m there (body_code f.body) is.spelled

  abbrev last : List Operation
  last = discards f.body.ty ++ Leave ∷ []

  -- S bounds the nodes of the body
  abbrev S : ℕ
  S = (code_of f.body).nodes

  -- the body's value is dropped, and the frame returns
  returns : (at : ℕ) (ls : List Slot) (h : List Object) (s : source.State) (ty : TypeTree) (v : Value) (xs : List Slot) → HasAt set o at (discards ty ++ Leave ∷ []) → Typed ty h v xs → (j : ℕ) × (j ≤ 2) × (to : ℕ) × (on_from set j (live o at ls (xs ++ []) h s) ≡ handed set (state_at o to ls [] h s) [] o.rest)
  returns at ls h s type_is.Int (Int z) xs code is =
      (2, omega arith, at + 1, ap (λ ys. on_from set 2 (live o at ls (ys ++ []) h s)) is.1 ∙ ap (on_from set 1) (discard set o at ls [] h s (slot.Int z) code.0 refl) ∙ leave set o (at + 1) ls [] h s code.1.0)
  returns at ls h s type_is.Boolean (Boolean b) xs code is =
      (2, omega arith, at + 1, ap (λ ys. on_from set 2 (live o at ls (ys ++ []) h s)) is.1 ∙ ap (on_from set 1) (discard set o at ls [] h s (slot.Int (bit b)) code.0 refl) ∙ leave set o (at + 1) ls [] h s code.1.0)
  returns at ls h s type_is.String (Text t) xs code is =
      (2, omega arith, at + 1, ap (λ ys. on_from set 2 (live o at ls (ys ++ []) h s)) is.1.1 ∙ ap (on_from set 1) (discard set o at ls [] h s (slot.Ref is.1.0) code.0 refl) ∙ leave set o (at + 1) ls [] h s code.1.0)
  returns at ls h s type_is.Unit UnitValue xs code is =
      (1, omega arith, at, ap (λ ys. on_from set 1 (live o at ls (ys ++ []) h s)) is.1 ∙ leave set o at ls [] h s code.0)
  returns at ls h s type_is.Int (Boolean b) xs code is = absurd (let q = is.0 in cc)
  returns at ls h s type_is.Int (Text t) xs code is = absurd (let q = is.0 in cc)
  returns at ls h s type_is.Int UnitValue xs code is = absurd (let q = is.0 in cc)
  returns at ls h s type_is.Boolean (Int z) xs code is = absurd (let q = is.0 in cc)
  returns at ls h s type_is.Boolean (Text t) xs code is = absurd (let q = is.0 in cc)
  returns at ls h s type_is.Boolean UnitValue xs code is = absurd (let q = is.0 in cc)
  returns at ls h s type_is.String (Int z) xs code is = absurd (let q = is.0 in cc)
  returns at ls h s type_is.String (Boolean b) xs code is = absurd (let q = is.0 in cc)
  returns at ls h s type_is.String UnitValue xs code is = absurd (let q = is.0 in cc)
  returns at ls h s type_is.Unit (Int z) xs code is = absurd (let q = is.0 in cc)
  returns at ls h s type_is.Unit (Boolean b) xs code is = absurd (let q = is.0 in cc)
  returns at ls h s type_is.Unit (Text t) xs code is = absurd (let q = is.0 in cc)

  -- what the body's code comes to is what the frame does
  comes_to : (s0 : source.State) (ls : List Slot) (h : List Object) (r : source.Completion) → Run set S o (On (code_of f.body).goes_on (Typed (code_of f.body).ty)) (live o 0 ls [] h s0) h s0.units 0 S ls (0 + (code_of f.body).size) [] r → Does method_factor S set o (live o 0 ls [] h s0) h s0.units r
  comes_to s0 ls h (source.Gives v s) g =
      let after = returns (0 + (code_of f.body).size) g.ls' g.h' s f.body.ty v g.xs
      (written set o (0 + (code_of f.body).size) (code_of f.body).goes_on last g.is.0 (behind set o (code_of f.body) (sized f.body) 0 (kept (code_of f.body).goes_on last) code))
      (subst (λ ty. Typed ty g.h' v g.xs) (type_of_code f.body) g.is.1) in record {
        steps = g.j + after.0;
        spent = g.k;
        at = after.2;
        locals = g.ls';
        heap = g.h';
        runs = on_add set g.j after.0 (live o 0 ls [] h s0) ∙ ap (on_from set after.0) g.runs ∙ after.3;
        grows = g.grows;
        units = g.units;
        most = omega (arith, g.most, after.1);
      }
  comes_to s0 ls h (source.Throws x s) g = record { steps = g.j; spent = g.k; runs = g.runs; units = g.units; most = omega (arith, g.most) }
  comes_to s0 ls h (source.Stops s) g = record {
    steps = g.j;
    going = subst IsGoing (sym g.runs) g.going;
    says = ap printed g.runs ∙ g.says;
    most = omega (arith, g.most);
    least = g.least;
  }
  comes_to s0 ls h (source.Breaks at s) g = tt

  ready : (n : ℕ) (s : source.State) (ls : List Slot) (h : List Object) → s.units ≤ n → Held h ls s.locals → Ready set S n (code_of f.body) s o 0 ls h
  ready n s ls h deep held = record {
    deep = deep;
    small = omega arith;
    code = has_front set o 0 (code_of f.body).code (kept (code_of f.body).goes_on last) code;
    held = held;
    quiet = quiet;
  }

  does : (n : ℕ) (s : source.State) (ls : List Slot) (h : List Object) → s.units ≤ n → Held h ls s.locals → Does method_factor S set o (live o 0 ls [] h s) h s.units (source.eval n f.body s)
  does n s ls h deep held = comes_to s ls h (source.eval n f.body s) ((node_acts set S n f.body).value s o 0 ls [] h (ready n s ls h deep held))

pub code_implements : CodeImplements
code_implements set class method m f there is = record {
  slack = (code_of f.body).nodes;
  does = λ rest statics started below. does set (activation class method rest statics started) m f there is below;
}
