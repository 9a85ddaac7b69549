-- The lengths of the parts of a list of nodes, one after the other.
use Rattle.std.proofs.Common.{◌≡◌, ℕ, ◌+◌, List, Bool, true, false, refl, sym, ap, ◌∙◌, subst}
use Rattle.std.specs.Prelude.{not, if◌then◌else◌}
use Rattle.kc_core.specs.declared.tree.TypeTree.{TypeTree}
use Rattle.stack_code.specs.declared.measures.Measure.{Measure}
use Rattle.stack_code.specs.Code.{Operation, kept_bytes, Emitted, plain}
use Rattle.stack_code.specs.Emission.{IsPlain, IsMeasure}

-- code that leaves its value
pub plain_measured : (m : Measure) (n : ℕ) (g : Bool) (x : Emitted) (ty : TypeTree) (size nodes : ℕ) (goes : Bool) (code : List Operation) → n ≡ size → g ≡ goes → x ≡ plain ty size nodes goes code → IsPlain m n g → IsMeasure m x
plain_measured m n g x ty size nodes goes code e f is p =
    subst (IsMeasure m) (sym is) (record {
      value = p.value ∙ e;
      when_true = p.when_true ∙ ap (λ k. k + kept_bytes g 3) e ∙ ap (λ h. size + kept_bytes h 3) f;
      when_false = p.when_false ∙ ap (λ k. k + kept_bytes g 3) e ∙ ap (λ h. size + kept_bytes h 3) f;
      goes_on = p.goes_on ∙ f;
    })

pub not_false : (b : Bool) → not b ≡ false → b ≡ true
not_false true e = refl
not_false false e = cc

pub not_true : (b : Bool) → not b ≡ true → b ≡ false
not_true true e = cc
not_true false e = refl

pub measured_when : (w : Bool) (m : Measure) (x : Emitted) → IsMeasure m x → (if w then m.when_true else m.when_false) ≡ x.test_size w
measured_when true m x is = is.when_true
measured_when false m x is = is.when_false
