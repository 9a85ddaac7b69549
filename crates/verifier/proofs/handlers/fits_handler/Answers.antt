use Rattle.std.proofs.Common.{Some, ℕ, List, Option, Bor, sym, ap, ◌∙◌}
use Rattle.std.specs.Option.{option_copied, option_map}
use Rattle.class_file.specs.Typing.{types_assignable}
use Rattle.class_file.specs.Verification.{types_given, thrown_types, given_at, fits_handler}
use Rattle.verifier_types.specs.Frames.{shown}
use Rattle.verifier.proofs.Places.{given_find}
use Rattle.verifier.proofs.handlers.fits_handler.Goals as goal

pub returns-in-None : goal.returns-in-None
returns-in-None c =
    let m = c.args.method.now in
    let t = shown c.args.known.now in
    let name : Option (List ℕ) = Some c.in-Some.name.now in
    ap (fits_handler c.args.set.now t name) (ap (option_map (types_given m.max_locals)) c.in-None.ensures ∙ sym (given_find m.max_locals m.frames c.args.at))
    ∙ ap (λ (o : Option (Bor (List ℕ))). fits_handler c.args.set.now t (option_copied o) (given_at m c.args.at)) (sym c.in-Some.is)

pub returns-in_ok-is_thrown_into-in-Some-frame_at : goal.returns-in_ok-is_thrown_into-in-Some-frame_at
returns-in_ok-is_thrown_into-in-Some-frame_at c =
    let m = c.args.method.now in
    let t = shown c.args.known.now in
    let name : Option (List ℕ) = Some c.in-Some.name.now in
    c.in_ok-is_thrown_into-in-Some-frame_at.ensures
    ∙ ap (λ (max : ℕ). types_assignable c.args.set.now (thrown_types t c.in-Some.name.now) (types_given max c.in-Some-frame_at.frame.now)) c.max_locals.ensures
    ∙ ap (fits_handler c.args.set.now t name) (ap (option_map (types_given m.max_locals)) c.in-Some-frame_at.ensures ∙ sym (given_find m.max_locals m.frames c.args.at))
    ∙ ap (λ (o : Option (Bor (List ℕ))). fits_handler c.args.set.now t (option_copied o) (given_at m c.args.at)) (sym c.in-Some.is)
