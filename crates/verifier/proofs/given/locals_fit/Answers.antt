use Rattle.std.proofs.Common.{◌≡◌, ◌≤◌, ◌-◌, ℕ, true, false, eqb, length, sym, ap, ◌∙◌, arith, map}
use Rattle.std.proofs.lemmas.List.{length-map}
use Rattle.class_file.specs.Typing.{width}
use Rattle.verifier_types.specs.Seen.{type_of}
use Rattle.verifier.specs.Fits.{fits_at}
use Rattle.verifier.proofs.Fitting.{misfit, fit, fits_within, all_given}
use Rattle.verifier.proofs.given.locals_fit.Goals as goal

pub returns-then-not-fits_at : goal.returns-then-not-fits_at
returns-then-not-fits_at c =
    let ls = map type_of c.args.locals.now in
    let within : c.loop-t.at ≤ length ls = omega (arith, c.loop-t.invariant.within, length-map c.args.locals.now type_of) in
    let no : fits_at c.args.set.now ls c.loop-t.at c.t-item.result.now ≡ false = ap (fits_at c.args.set.now ls c.loop-t.at) (sym c.given-given.ensures) ∙ sym c.fits_at.ensures ∙ c.if-not-fits_at.true in
    sym (misfit c.args.set.now ls c.args.max c.loop-t.at c.args.types.now c.loop-t.t-index c.t-item.result c.t-item.is c.loop-t-test.true within no) ∙ c.loop-t.invariant.same

pub loop-t-preserved : goal.loop-t-preserved
loop-t-preserved c =
    let ls = map type_of c.args.locals.now in
    let count : length ls ≡ length c.args.locals.now = length-map c.args.locals.now type_of in
    let within : c.loop-t.at ≤ length ls = omega (arith, c.loop-t.invariant.within, count) in
    let yes : fits_at c.args.set.now ls c.loop-t.at c.t-item.result.now ≡ true = ap (fits_at c.args.set.now ls c.loop-t.at) (sym c.given-given.ensures) ∙ sym c.fits_at.ensures ∙ c.if-not-fits_at.false in
    let wide : c.width-at.result ≡ width c.t-item.result.now = c.width-at.ensures.exact ∙ ap width c.given-given.ensures in
    let room = fits_within c.args.set.now ls c.loop-t.at c.t-item.result.now yes in
    record {
      within = omega (arith, wide, count, room);
      same = fit c.args.set.now ls c.args.max c.loop-t.at c.width-at.result c.args.types.now c.loop-t.t-index c.t-item.result c.t-item.is c.loop-t-test.true within yes wide ∙ c.loop-t.invariant.same;
    }

pub returns : goal.returns
returns c =
    let ls = map type_of c.args.locals.now in
    let count : length c.args.locals.now ≡ length ls = sym (length-map c.args.locals.now type_of) in
    ap (λ (n : ℕ). eqb (n - c.loop-t.at) c.saturating_sub.result) count ∙ ap (eqb (length ls - c.loop-t.at)) c.saturating_sub.ensures
    ∙ sym (all_given c.args.set.now ls c.args.max c.loop-t.at c.args.types.now c.loop-t.t-index c.loop-t-test.false) ∙ c.loop-t.invariant.same
