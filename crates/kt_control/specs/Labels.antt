-- Labels that may be written or not.
use Rattle.std.specs.Prelude.{◌≡◌, Bool, true, false, Option, Some, None}
use Rattle.grammars.specs.Grammar.{Part, one, test}
use Rattle.kc_tree.specs.declared.types.Word.{Word}
use Rattle.kt_lexer.specs.declared.token.Token.{Token}
use Rattle.kt_grammar.specs.Rows.{Row, maybe}
use Rattle.kt_grammar.specs.Tokens.{is_label, is_label_use}
use Rattle.kt_grammar.specs.TypesBuilt.{word_of}

-- a label that the test holds of is at hand, or no such token
abbrev pub LabelAt : (Token → Bool) → Option Token → Option Word → Type 0
LabelAt f o None = test f o ≡ false
LabelAt f None (Some w) = ⊥
LabelAt f (Some t) (Some w) = (f t ≡ true) × (w ≡ word_of t)

-- behind the word of a jump
abbrev pub label_use : Part Row Token
label_use = maybe is_label_use (one is_label_use)

-- before a loop
abbrev pub label : Part Row Token
label = maybe is_label (one is_label)
