-- Single tokens.
use Rattle.std.proofs.Common.{◌≡◌, ℕ, ◌+◌, true, false, List, drop, Option, Some, None, refl, ap, ◌∙◌}
use Rattle.std.proofs.lemmas.Bool.{eq-eqb}
use Rattle.grammars.specs.Grammar.{first, test}
use Rattle.kc_tree.specs.declared.types.Word.{Word}
use Rattle.kt_lexer.specs.declared.token.Token.{Token}
use Rattle.kt_lexer.specs.declared.token.TokenKind.{TokenKind}
use Rattle.kt_lexer.specs.declared.token.TokenKind.TheVariants as kind
use Rattle.kt_lexer.specs.declared.token.Keyword.{Keyword}
use Rattle.kt_lexer.specs.declared.token.Operator.{Operator}
use Rattle.kt_grammar.specs.Parsed.{NameTaken, WordAt}
use Rattle.kt_grammar.specs.Tokens.{is_op, is_name, operator_class}
use Rattle.kt_grammar.specs.TypesBuilt.{word_of}
use Rattle.kt_grammar.proofs.Steps.{takes_one}

abbrev token : TokenKind → Token
token k = record { kind = k; span = record { file = 0; start = 0; end = 0 }; marked = false }

abbrev pub word_token : Keyword → Token
word_token k = token (kind.Word k)

abbrev pub op_token : Operator → Token
op_token k = token (kind.Op k)

pub is_itself : (k : Operator) → is_op k (op_token k) ≡ true
is_itself k = eq-eqb (operator_class k) (operator_class k) refl

abbrev pub a_name : Token
a_name = token (kind.Name 0)

pub is_a_name : is_name a_name ≡ true
is_a_name = refl

name_first : (o : Option Token) (w : Word) → WordAt o (Some w) → test is_name o ≡ true
name_first None w h = absurd h
name_first (Some t) w h = h.0

word_first : (o : Option Token) (t : Token) (w : Word) → o ≡ Some t → WordAt o (Some w) → w ≡ word_of t
word_first None t w e h = absurd h
word_first (Some u) t w e h = let i : u ≡ t = cc in h.1 ∙ ap word_of i

pub takes_name : (ts : List Token) (at : ℕ) (w : Word) → WordAt (first (drop at ts)) (Some w) → NameTaken ts at (at + 1) w
takes_name ts at w h =
    let k = takes_one is_name ts at (name_first (first (drop at ts)) w h) in
    record { taken = k; word = word_first (first (drop at ts)) k.token w (ap first k.here) h }
