use Rattle.std.proofs.Common.{◌≡◌, List, ℕ, Option, Some, None, sym, ap, ◌∙◌, refl, ◌<◌, ◌^◌}
use Rattle.std.proofs.lemmas.List.Elements.{All-from_recursion, recursion_from_All}
use Rattle.class_file.specs.Inputs.{text_of_modified}
use Rattle.class_reader.proofs.Modified.{is_spelled, is_read}
use Rattle.class_reader.proofs.pool.text_of.Goals as goal

pub returns-in-Ok : goal.returns-in-Ok
returns-in-Ok c =
    let small = recursion_from_All (λ u. u < 2 ^ 16) c.in-Ok.text (rw c.units.ensures at c.are_units.ensures) in
    sym (sym (ap text_of_modified c.in-Ok.ensures.ok) ∙ is_read c.in-Ok.text small)

pub returns-in-Err-Found : goal.returns-in-Err-Found
returns-in-Err-Found c = by (text_of_modified c.args.bytes.now) refl
  where
    by : (o : Option (List ℕ)) → text_of_modified c.args.bytes.now ≡ o → None ≡ text_of_modified c.args.bytes.now
    by None e = sym e
    by (Some t) e = let s = is_spelled c.args.bytes.now t e in let r = rw c.in-Err-Found.field-0-is at c.in-Err-Found.ensures.refused in absurd (r (t, All-from_recursion (λ u. u < 2 ^ 16) t s.0, s.1))
