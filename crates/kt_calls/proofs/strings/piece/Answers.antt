use Rattle.std.proofs.Common.{refl, sym, ◌∙◌}
use Rattle.kt_grammar.specs.Tokens.{is_string_text}
use Rattle.kt_calls.specs.Strings.{text_piece, text_piece_of, name_or_hole, name_or_hole_of, any_piece_of}
use Rattle.kt_grammar.proofs.Advances.{chosen_first, chosen_second}
use Rattle.kt_calls.proofs.strings.piece.Goals as goal

pub returns-then-is_mark_at : goal.returns-then-is_mark_at
returns-then-is_mark_at g c = chosen_first is_string_text text_piece name_or_hole text_piece_of any_piece_of (λ x. refl) c.args.bodies.now.tokens.now c.args.at c.requires.within (sym c.is_mark_at.ensures ∙ c.if-is_mark_at.true) c.text_piece.result c.text_piece.ensures

pub returns : goal.returns
returns g c = chosen_second is_string_text text_piece name_or_hole name_or_hole_of any_piece_of (λ x. refl) c.args.bodies.now.tokens.now c.args.at c.requires.within (sym c.is_mark_at.ensures ∙ c.if-is_mark_at.false) c.name_or_hole.result c.name_or_hole.ensures
