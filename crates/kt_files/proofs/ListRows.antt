-- The steps of the functions that read the declarations of a file.
use Rattle.std.proofs.Common.{◌≡◌, false, true, List, [], ◌∷◌, ◌++◌, refl, ap, ◌∙◌, arith}
use Rattle.grammars.specs.Grammar.{next, row, guard, Cst, none, leaf, node, pair, left, right, Derives, d_nothing, d_one, d_row, d_both, d_left, d_right, d_guard, Productive}
use Rattle.kc_tree.specs.declared.decl.Decl.{Decl}
use Rattle.kt_bodies.proofs.Sequences.{IsSequence, turn_part}
use Rattle.kt_lexer.specs.declared.token.Token.{Token}
use Rattle.kt_lexer.specs.declared.token.TokenKind.TheVariants as kind
use Rattle.kt_lexer.specs.declared.token.Keyword.TheVariants as keyword
use Rattle.kt_grammar.specs.declared.cursor.Cursor.{Cursor}
use Rattle.kt_grammar.specs.DeclarationsBuilt as built
use Rattle.kt_grammar.specs.Parsed.{Advanced}
use Rattle.kt_grammar.specs.Rows as rows
use Rattle.kt_grammar.specs.Rows.{grammar}
use Rattle.kt_grammar.specs.Tokens.{begins_declaration, marked}
use Rattle.kt_grammar.specs.TypesBuilt.{no_span}

abbrev marked_object : Token
marked_object = record { kind = kind.Word keyword.Object; span = no_span; marked = true }

abbrev a_name : Token
a_name = record { kind = kind.Name 0; span = no_span; marked = false }

abbrev an_object : Cst Token
an_object = node (right (right (right (right (right (left (node (pair (leaf marked_object) (pair (leaf a_name) (pair (right none) (right none)))))))))))

object_declared : Derives grammar (row (rows.declaration false false)) (marked_object ∷ a_name ∷ []) an_object []
object_declared = d_row (d_right (d_right (d_right (d_right (d_right (d_left (d_row (d_both (d_one refl) (d_both (d_one refl) (d_both (d_right d_nothing) (d_right d_nothing)))))))))))

has_marked_turn : Productive grammar (guard (next (marked begins_declaration)) (turn_part (rows.declaration false false) rows.after_declaration))
has_marked_turn = (marked_object ∷ a_name ∷ [], node (pair an_object (node (right none))), d_guard refl (d_both object_declared (d_row (d_right d_nothing))) (omega arith))

pub declarations_list : IsSequence rows.declarations rows.more_declarations rows.after_declaration (rows.declaration false false) begins_declaration (marked begins_declaration) (λ c. built.declaration_of c ∷ []) built.declarations_of built.more_declarations_of built.declarations_behind
declarations_list = record {
  rule = refl;
  rule_more = refl;
  rule_after = refl;
  takes = refl;
  productive = has_marked_turn;
  none_is = refl;
  some_is = λ c d. refl;
  more_none = refl;
  more_again = λ s d. refl;
  more_some = λ c d. refl;
  behind_none = refl;
  behind_again = λ s d. refl;
  behind_some = λ c d. refl;
}

-- a declaration at the list's end
pub declaration_more : (xs ys : List Decl) {ts : List Token} {start end : Cursor} {x : Decl} → Advanced (row (rows.declaration false false)) built.declaration_of ts start end x → ys ≡ xs ++ x ∷ []
    → Advanced (row (rows.declaration false false)) (λ c. xs ++ built.declaration_of c ∷ []) ts start end ys
declaration_more xs ys p i = record { tree = p.tree; looked = p.looked; read = p.read; builds = i ∙ ap (λ (x : Decl). xs ++ x ∷ []) p.builds; so_far = p.so_far }
