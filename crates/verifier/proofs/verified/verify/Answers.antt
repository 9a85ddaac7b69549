use Rattle.std.proofs.Common.{◌≡◌, Option, Some, None, sym, ◌∙◌}
use Rattle.class_file.specs.declared.verify_code.VerifyFault.{VerifyFault}
use Rattle.class_file.specs.Verification.{first_fault}
use Rattle.verifier.proofs.Law.{verifies, is_clean}
use Rattle.verifier.proofs.verified.verify.Goals as goal

pub invariant_of-result : goal.invariant_of-result
invariant_of-result c = verifies c.args.set.now (sym c.in_ok-set_fault.ensures ∙ c.in-None.is)

clash : (f : VerifyFault) (o : Option VerifyFault) → o ≡ Some f → o ≡ None → ⊥
clash f o e h = cc

pub returns-in-Some-clause-fault : goal.returns-in-Some-clause-fault
returns-in-Some-clause-fault c =
    let e = sym c.in_ok-set_fault.ensures ∙ c.in-Some.is in
    (e, λ v. clash c.in-Some.fault (first_fault c.args.set.now) e (is_clean c.args.set.now v))
