use Rattle.std.proofs.Common.{List, Bool, false, get_or, ap, ◌∙◌}
use Rattle.class_file.specs.declared.class.Method.{Method}
use Rattle.class_file.specs.Verification.{starts}
use Rattle.verifier.proofs.Places.{flag_of}
use Rattle.verifier.proofs.tabled.TabledMethod.starts.Goals as goal

pub returns : goal.returns
returns c =
    c.flag_at.ensures ∙ ap (λ (flags : List Bool). get_or flags c.args.pc false) (c.deref.ensures.value ∙ c.self.invariant.starts_are) ∙ flag_of c.self.inside.method.now.code c.args.pc
    ∙ ap (λ (m : Method). starts m c.args.pc) c.self.view_is
