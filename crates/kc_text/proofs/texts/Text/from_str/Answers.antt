use Rattle.std.proofs.Common.{List, ℕ, ◌≡◌, ap, sym, ◌∙◌}
use Rattle.std.proofs.lemmas.List.{map-id}
use Rattle.std.proofs.lemmas.Iterator.{YieldsList-from_chars}
use Rattle.std.proofs.lemmas.Iterator.Consumers.{YieldsList-end}
use Rattle.std.proofs.lemmas.Str.{encodes-chars, scalars-chars}
use Rattle.std.specs.Str.{chars}
use Rattle.kc_text.specs.Unicode.{encode_utf16_all, IsTranscoded}
use Rattle.kc_text.proofs.Transcoding.{encode_utf16_all-push, IsTranscoded-ascii}
use Rattle.kc_text.proofs.texts.Text.from_str.Goals as goal

pub loop-character-preserved : goal.loop-character-preserved
loop-character-preserved c =
    c.in_ok-push_character.ensures
    ∙ rw (encode_utf16_all-push c.loop-character.yielded c.in-Some.character, c.loop-character.invariant)

transcoded : (c : goal.In_ok-text) (units : List ℕ) → units ≡ c.loop-character.units.items → IsTranscoded c.args.text.now units
transcoded c units is =
    let text = c.args.text.now in
    let end = YieldsList-end (YieldsList-from_chars text c.utf8.text cc) c.loop-character.yielded _ c.loop-character.yielded_by _ _ c.in-None.is c.next.ensures.steps in
    let all : c.loop-character.yielded ≡ chars text = sym (map-id c.loop-character.yielded) ∙ end.0 in
    record {
      characters = chars text;
      scalars = scalars-chars text c.utf8.text;
      in_utf8 = encodes-chars text c.utf8.text;
      in_utf16 = ap encode_utf16_all (sym all) ∙ sym c.loop-character.invariant ∙ sym is;
    }

pub returns-clause-ok : goal.returns-clause-ok
returns-clause-ok c = transcoded c _ c.in_ok-text.ensures

pub returns-clause-ascii : goal.returns-clause-ascii
returns-clause-ascii c all = IsTranscoded-ascii all (transcoded c _ c.in_ok-text.ensures)
