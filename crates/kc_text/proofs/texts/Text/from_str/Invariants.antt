-- The units so far are the UTF-16 of the characters so far.
use Rattle.std.proofs.Common.{◌≡◌}
use Rattle.kc_text.specs.Unicode.{encode_utf16_all}
use Rattle.kc_text.proofs.texts.Text.from_str.Given as goal

abbrev pub invariant-loop-character : goal.invariant-loop-character
invariant-loop-character l = l.units.items ≡ encode_utf16_all l.yielded
