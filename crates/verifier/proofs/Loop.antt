-- One turn of the scan, and the loops over methods and classes.
use Rattle.std.proofs.Common.{◌≡◌, ℕ, ◌+◌, ◌<◌, ◌≤◌, List, [], ◌∷◌, length, drop, get_or, Option, Some, None, sym, ap, ◌∙◌, add-one, arith, length-drop}
use Rattle.std.proofs.Math.Seq.{drop-cons}
use Rattle.std.proofs.lemmas.List.{nil_from_length}
use Rattle.class_file.specs.declared.instr.Instr.{Instr}
use Rattle.class_file.specs.declared.instr.Instr.TheVariants.{Nop}
use Rattle.class_file.specs.declared.class.Method.{Method}
use Rattle.class_file.specs.declared.class.ClassFile.{ClassFile}
use Rattle.class_file.specs.declared.class.Set.{Set}
use Rattle.class_file.specs.declared.verify_code.VerifyCode.{VerifyCode}
use Rattle.class_file.specs.declared.verify_code.VerifyCode.TheVariants.{MissingFrame}
use Rattle.class_file.specs.Rows.{length_of}
use Rattle.class_file.specs.Typing.{Types}
use Rattle.class_file.specs.Verification.{PlaceFault, scan, fault_of, left_by, entering_at}
use Rattle.verifier.specs.Turns.{turn_of}

module _ (set : Set) (c : ClassFile) (m : Method) (pc : ℕ) (i : Instr) (is : List Instr) where
  abbrev after_code : Types → Option VerifyCode → Option PlaceFault
  after_code t o = elim o [ Some code ↦ Some (record { at = pc; code = code }) | None ↦ scan set c m is (pc + length_of i) (left_by set c m pc i t) ]

  abbrev after_enter : Option Types → Option PlaceFault
  after_enter o = elim o [ None ↦ Some (record { at = pc; code = MissingFrame }) | Some t ↦ after_code t (fault_of set c m pc i t) ]

  fails_at : (o left : Option Types) (code : VerifyCode) → turn_of set c m pc i o (Some code) left → after_enter o ≡ Some (record { at = pc; code = code })
  fails_at None left code h = ap (λ (x : VerifyCode). Some (record { at = pc; code = x })) (sym h)
  fails_at (Some t) left code h = ap (after_code t) h

  flows_at : (o left : Option Types) → turn_of set c m pc i o None left → after_enter o ≡ scan set c m is (pc + length_of i) left
  flows_at None left h = absurd h
  flows_at (Some t) left h = ap (after_code t) h.0 ∙ ap (scan set c m is (pc + length_of i)) h.1

  pub fails : (flow known left : Option Types) (code : VerifyCode) → known ≡ entering_at m pc flow → turn_of set c m pc i known (Some code) left → scan set c m (i ∷ is) pc flow ≡ Some (record { at = pc; code = code })
  unfolding scan
  fails flow known left code e h = ap after_enter (sym e) ∙ fails_at known left code h

  pub flows : (flow known left : Option Types) → known ≡ entering_at m pc flow → turn_of set c m pc i known None left → scan set c m (i ∷ is) pc flow ≡ scan set c m is (pc + length_of i) left
  unfolding scan
  flows flow known left e h = ap after_enter (sym e) ∙ flows_at known left h

pub cut : (code : List Instr) (k : ℕ) → k < length code → drop k code ≡ get_or code k Nop ∷ drop (k + 1) code
cut code k lt = drop-cons code k Nop lt ∙ ap (λ (n : ℕ). get_or code k Nop ∷ drop n code) (sym (add-one k))

pub over : (set : Set) (c : ClassFile) (m : Method) (code : List Instr) (k pc : ℕ) (flow : Option Types) → length code ≤ k → scan set c m (drop k code) pc flow ≡ None
unfolding scan
over set c m code k pc flow le =
    let empty : drop k code ≡ [] = nil_from_length (drop k code) (omega (arith, length-drop k code)) in
    ap (λ (is : List Instr). scan set c m is pc flow) empty
