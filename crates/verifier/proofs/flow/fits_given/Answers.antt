use Rattle.std.proofs.Common.{ℕ, sym, ap, ◌∙◌}
use Rattle.std.specs.Option.{option_map}
use Rattle.class_file.specs.Typing.{types_assignable}
use Rattle.class_file.specs.Verification.{types_given, fits_given}
use Rattle.verifier_types.specs.Frames.{shown}
use Rattle.verifier.proofs.Places.{given_find}
use Rattle.verifier.proofs.flow.fits_given.Goals as goal

pub returns-in-None : goal.returns-in-None
returns-in-None c =
    let m = c.args.method.now in
    ap (fits_given c.args.set.now (shown c.args.after.now)) (ap (option_map (types_given m.max_locals)) c.in-None.ensures ∙ sym (given_find m.max_locals m.frames c.args.to))

pub returns-in_ok-flows_into-in-Some : goal.returns-in_ok-flows_into-in-Some
returns-in_ok-flows_into-in-Some c =
    let m = c.args.method.now in
    let t = shown c.args.after.now in
    c.in_ok-flows_into-in-Some.ensures ∙ ap (λ (max : ℕ). types_assignable c.args.set.now t (types_given max c.in-Some.frame.now)) c.max_locals.ensures
    ∙ ap (fits_given c.args.set.now t) (ap (option_map (types_given m.max_locals)) c.in-Some.ensures ∙ sym (given_find m.max_locals m.frames c.args.to))
