use Rattle.std.proofs.Common.{ap, sym, subst, ◌∙◌}
use Rattle.kc_text.specs.Unicode.{IsUtf8, utf8_of}
use Rattle.kc_text.proofs.Reading.{IsUtf8-utf8_of}
use Rattle.kc_text.proofs.Transcoding.{utf8_of-IsTranscoded}
use Rattle.kc_text.proofs.texts.Text.to_utf8.Goals as goal

pub returns-clause-back : goal.returns-clause-back
returns-clause-back c source t = c.in_ok-bytes.ensures.bytes ∙ ap utf8_of c.units.ensures ∙ utf8_of-IsTranscoded t

pub returns-clause-read : goal.returns-clause-read
returns-clause-read c = rw (← c.units.ensures) c.in_ok-bytes.ensures.read

pub returns-clause-utf8 : goal.returns-clause-utf8
returns-clause-utf8 c = subst IsUtf8 (sym c.in_ok-bytes.ensures.bytes) (IsUtf8-utf8_of c.in_ok-bytes.ensures.read)
