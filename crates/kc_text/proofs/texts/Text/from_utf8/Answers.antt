use Rattle.std.proofs.Common.{rules}
use Rattle.kc_text.specs.Unicode.{IsTranscoded}
use Rattle.kc_text.proofs.Transcoding.{units-IsTranscoded}
use Rattle.kc_text.proofs.texts.Text.from_utf8.Goals as goal

pub returns-in_ok-from_str-in-Ok-clause-only : goal.returns-in_ok-from_str-in-Ok-clause-only
returns-in_ok-from_str-in-Ok-clause-only c units stands =
    let read : IsTranscoded c.args.bytes.now c.in_ok-from_str-in-Ok.field-0 = search rules in
    units-IsTranscoded stands read
