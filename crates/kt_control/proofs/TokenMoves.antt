-- The steps of the functions that take single tokens and labels, and parts that have derivations.
use Rattle.std.proofs.Common.{◌≡◌, ◌+◌, ◌≤◌, Bool, true, false, List, [], ◌∷◌, length, drop, Option, Some, None, refl, ap, ◌∙◌, arith}
use Rattle.std.proofs.lemmas.Bool.{eq-eqb}
use Rattle.grammars.specs.Grammar.{Part, one, row, Cst, none, leaf, node, pair, left, right, first, test, Derives, d_nothing, d_one, d_row, d_both, d_left, d_right, d_done, Productive}
use Rattle.kc_tree.specs.declared.types.Word.{Word}
use Rattle.kt_control.specs.Labels.{LabelAt}
use Rattle.kt_lexer.specs.declared.token.Token.{Token}
use Rattle.kt_lexer.specs.declared.token.Keyword.{Keyword}
use Rattle.kt_grammar.specs.declared.cursor.Cursor.{Cursor}
use Rattle.kt_grammar.specs.Built as built
use Rattle.kt_grammar.specs.Moves.{Moved}
use Rattle.kt_grammar.specs.Parsed.{Advanced}
use Rattle.kt_grammar.specs.Rows as rows
use Rattle.kt_grammar.specs.Rows.{Row, grammar, word, maybe}
use Rattle.kt_grammar.specs.Tokens.{keyword_class}
use Rattle.kt_grammar.specs.TypesBuilt.{word_of}
use Rattle.kt_grammar.proofs.Advances.{moves}
use Rattle.kt_grammar.proofs.SingleTokens.{a_name, word_token}
use Rattle.kt_grammar.proofs.Steps.{takes_one, standing, read_one, read_first, read_second, read_nothing}

-- ---- one token forward

pub moved_one : (f : Token → Bool) (ts : List Token) (start end : Cursor) → test f (first (drop start.at ts)) ≡ true → end ≡ record { at = start.at + 1; looked = start.looked } → Moved f ts start end
moved_one f ts start end h e = moves (takes_one f ts start.at h) e

-- the value of a part, under another name
pub same_value : {X : Type 0} {a : Part Row Token} {build : Cst Token → X} {ts : List Token} {start end : Cursor} {x y : X} → Advanced a build ts start end x → y ≡ x → Advanced a build ts start end y
same_value p e = record { tree = p.tree; looked = p.looked; read = p.read; builds = e ∙ p.builds; so_far = p.so_far }

-- ---- labels

label_first : (f : Token → Bool) (o : Option Token) (w : Word) → LabelAt f o (Some w) → test f o ≡ true
label_first f None w h = absurd h
label_first f (Some t) w h = h.0

label_word : (f : Token → Bool) (o : Option Token) (t : Token) (w : Word) → o ≡ Some t → LabelAt f o (Some w) → w ≡ word_of t
label_word f None t w e h = absurd h
label_word f (Some u) t w e h = let i : u ≡ t = cc in h.1 ∙ ap word_of i

pub labelled : (f : Token → Bool) (ts : List Token) (start end : Cursor) (w : Word) → LabelAt f (first (drop start.at ts)) (Some w) → end ≡ record { at = start.at + 1; looked = start.looked }
    → Advanced (maybe f (one f)) built.label_of ts start end (Some w)
labelled f ts start end w h e =
    let o = moved_one f ts start end (label_first f (first (drop start.at ts)) w h) e in
    record {
      tree = left (leaf o.taken.token);
      looked = 0;
      read = read_first (standing o.taken) (read_one o.taken);
      builds = ap Some (label_word f (first (drop start.at ts)) o.taken.token w (ap first o.taken.here) h);
      so_far = omega (arith, o.so_far);
    }

pub unlabelled : (f : Token → Bool) (ts : List Token) (start : Cursor) → start.at ≤ length ts → test f (first (drop start.at ts)) ≡ false → Advanced (maybe f (one f)) built.label_of ts start start None
unlabelled f ts start w h = record { tree = right none; looked = 0; read = read_second h (read_nothing w); builds = refl; so_far = omega arith }

pub has_label : (f : Token → Bool) → Productive grammar (maybe f (one f))
has_label f = ([], right none, d_right d_nothing)

pub has_word : (k : Keyword) → Productive grammar (word k)
has_word k = (word_token k ∷ [], leaf (word_token k), d_one (eq-eqb (keyword_class k) (keyword_class k) refl))
