use Rattle.std.proofs.Common.{◌≡◌, length, ap, ◌∙◌, arith}
use Rattle.class_file.specs.declared.class.Method.{Method}
use Rattle.class_file.specs.Verification.{code_length}
use Rattle.verifier.proofs.Places.{flags_count}
use Rattle.verifier.proofs.tabled.TabledMethod.code_length.Goals as goal

pub returns : goal.returns
returns c =
    let counted : c.len.result ≡ length c.self.inside.starts.items = omega (arith, c.len.ensures) in
    counted ∙ ap length c.self.invariant.starts_are ∙ flags_count c.self.inside.method.now.code ∙ ap (λ (m : Method). code_length m.code) c.self.view_is
