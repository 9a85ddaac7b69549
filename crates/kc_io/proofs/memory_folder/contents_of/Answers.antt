use Rattle.std.proofs.Common.{sym, ◌∙◌, ap, Some}
use Rattle.std.specs.Option.{option_copied}
use Rattle.kc_io.proofs.Entries.{contents_found, contents_missing}
use Rattle.kc_io.proofs.memory_folder.contents_of.Goals as goal

pub returns-in_err-place : goal.returns-in_err-place
returns-in_err-place c =
    ap option_copied c.from_residual.ensures ∙ sym (contents_missing c.args.files.now c.args.name.now c.in_err-place.ensures)

pub returns : goal.returns
returns c =
    ap Some c.deref.ensures.value ∙ sym (contents_found c.args.files.now c.args.name.now c.in_ok-place.place _ c.in_ok-place.ensures)
