-- Parts of strings, and what is built of them.
use Rattle.std.specs.Prelude.{[]}
use Rattle.grammars.specs.Grammar.{Part, next, one, row, both, choose, many, Cst, leaf, pair, left, right}
use Rattle.kc_tree.specs.declared.expr.Piece.{Piece}
use Rattle.kc_tree.specs.declared.expr.Piece.TheVariants as piece
use Rattle.kt_lexer.specs.declared.token.Token.{Token}
use Rattle.kt_grammar.specs.Built as built
use Rattle.kt_grammar.specs.Rows as rows
use Rattle.kt_grammar.specs.Rows.{Row}
use Rattle.kt_grammar.specs.Tokens.{is_string_text, is_string_name, is_hole_open, is_hole_close, is_piece}
use Rattle.kt_grammar.specs.TypesBuilt.{word_of}

-- what no derivation has
abbrev pub no_piece : Piece
no_piece = piece.Text []

abbrev pub text_piece : Part Row Token
text_piece = one is_string_text

abbrev pub text_piece_of : Cst Token → Piece
text_piece_of (leaf t) = piece.Text (built.text_of t.kind)
text_piece_of _ = no_piece

abbrev pub name_piece : Part Row Token
name_piece = one is_string_name

abbrev pub name_piece_of : Cst Token → Piece
name_piece_of (leaf t) = piece.Name (word_of t)
name_piece_of _ = no_piece

abbrev pub hole : Part Row Token
hole = both (one is_hole_open) (both (row rows.expression) (one is_hole_close))

abbrev pub hole_of : Cst Token → Piece
hole_of (pair o (pair x c)) = piece.Hole (built.expression_of x)
hole_of _ = no_piece

abbrev pub name_or_hole : Part Row Token
name_or_hole = choose (next is_string_name) name_piece hole

abbrev pub name_or_hole_of : Cst Token → Piece
name_or_hole_of (left x) = name_piece_of x
name_or_hole_of (right x) = hole_of x
name_or_hole_of _ = no_piece

abbrev pub any_piece : Part Row Token
any_piece = choose (next is_string_text) text_piece name_or_hole

abbrev pub any_piece_of : Cst Token → Piece
any_piece_of (left x) = text_piece_of x
any_piece_of (right x) = name_or_hole_of x
any_piece_of _ = no_piece

abbrev pub all_pieces : Part Row Token
all_pieces = many (next is_piece) any_piece
