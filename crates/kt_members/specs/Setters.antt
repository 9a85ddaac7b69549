-- Parts of setters, and what is built of them.
use Rattle.std.specs.Prelude.{Option, Some, None}
use Rattle.grammars.specs.Grammar.{Part, one, Cst, pair}
use Rattle.kc_tree.specs.declared.decl.FunBody.{FunBody}
use Rattle.kc_tree.specs.declared.decl.Setter.{Setter}
use Rattle.kc_tree.specs.declared.fault.Span.{Span}
use Rattle.kc_tree.specs.declared.types.Word.{Word}
use Rattle.kt_lexer.specs.declared.token.Token.{Token}
use Rattle.kt_grammar.specs.DeclarationsBuilt as built
use Rattle.kt_grammar.specs.Rows.{Row, in_brackets}
use Rattle.kt_grammar.specs.Tokens.{is_name}

-- the parameter of a setter
abbrev pub bracketed_name : Part Row Token
bracketed_name = in_brackets (one is_name)

abbrev pub name_in : Cst Token → Word
name_in (pair bracket (pair n close)) = built.name_of n
name_in _ = built.no_word

abbrev pub setter_with : Span → Word → Option FunBody → Option Setter
setter_with s n body = elim body as (λ _. Option Setter) [ Some b ↦ Some (record { span = s; name = n; body = b }) | None ↦ None ]
