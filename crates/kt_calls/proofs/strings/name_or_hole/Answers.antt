use Rattle.std.proofs.Common.{refl, sym, ◌∙◌}
use Rattle.kt_grammar.specs.Tokens.{is_string_name}
use Rattle.kt_calls.specs.Strings.{name_piece, name_piece_of, hole, hole_of, name_or_hole_of}
use Rattle.kt_grammar.proofs.Advances.{chosen_first, chosen_second}
use Rattle.kt_calls.proofs.strings.name_or_hole.Goals as goal

pub returns-then-is_mark_at : goal.returns-then-is_mark_at
returns-then-is_mark_at g c = chosen_first is_string_name name_piece hole name_piece_of name_or_hole_of (λ x. refl) c.args.bodies.now.tokens.now c.args.at c.requires.within (sym c.is_mark_at.ensures ∙ c.if-is_mark_at.true) c.name_piece.result c.name_piece.ensures

pub returns : goal.returns
returns g c = chosen_second is_string_name name_piece hole hole_of name_or_hole_of (λ x. refl) c.args.bodies.now.tokens.now c.args.at c.requires.within (sym c.is_mark_at.ensures ∙ c.if-is_mark_at.false) c.hole.result c.hole.ensures
