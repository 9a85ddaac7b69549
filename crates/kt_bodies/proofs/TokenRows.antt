-- The steps of the functions that take single tokens.
use Rattle.std.proofs.Common.{◌≡◌, ℕ, ◌+◌, true, false, List, drop, Some, refl, sym, subst}
use Rattle.std.proofs.lemmas.Bool.{eq-eqb}
use Rattle.grammars.specs.Grammar.{first}
use Rattle.kc_tree.specs.declared.types.Word.{Word}
use Rattle.kt_bodies.specs.declared.terminals.Terminal.{Terminal}
use Rattle.kt_bodies.specs.declared.terminals.Terminal.TheVariants as terminal
use Rattle.kt_bodies.specs.Terminals.{is_terminal, NameMoved}
use Rattle.kt_lexer.specs.declared.token.Token.{Token}
use Rattle.kt_lexer.specs.declared.token.TokenKind.TheVariants as kind
use Rattle.kt_grammar.specs.declared.cursor.Cursor.{Cursor}
use Rattle.kt_grammar.specs.Parsed.{WordAt}
use Rattle.kt_grammar.specs.Tokens.{keyword_class}
use Rattle.kt_grammar.specs.TypesBuilt.{no_span}
use Rattle.kt_grammar.proofs.SingleTokens.{word_token, takes_name}

named : ℕ → Token
named n = record { kind = kind.Name n; span = no_span; marked = false }

pub sample : Terminal → Token
sample (terminal.Word k) = word_token k
sample terminal.Catch = named 0
sample terminal.Finally = named 1

pub is_sample : (w : Terminal) → is_terminal w (sample w) ≡ true
unfolding sample named
is_sample (terminal.Word k) = eq-eqb (keyword_class k) (keyword_class k) refl
is_sample terminal.Catch = refl
is_sample terminal.Finally = refl

pub name_moved : {ts : List Token} {start : Cursor} {w : Word} (end : Cursor) → WordAt (first (drop start.at ts)) (Some w) → end ≡ record { at = start.at + 1; looked = start.looked } → NameMoved ts start end w
name_moved {ts = ts} {start = start} {w = w} end h e = subst (λ (c : Cursor). NameMoved ts start c w) (sym e) (let k = takes_name ts start.at w h in record { taken = k.taken; so_far = refl; word = k.word })
