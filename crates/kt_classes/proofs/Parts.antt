-- Steps that rows of classes share.
use Rattle.std.proofs.Common.{◌≡◌, max, List, sym, ap, subst, ◌∙◌, arith}
use Rattle.grammars.specs.Grammar.{Part, row, one, both, Cst, leaf, node, pair, Reads}
use Rattle.kc_tree.specs.declared.decl.Class.{Class}
use Rattle.kc_tree.specs.declared.types.Word.{Word}
use Rattle.kt_bodies.specs.Terminals.{NameMoved}
use Rattle.kt_lexer.specs.declared.token.Token.{Token}
use Rattle.kt_lexer.specs.declared.token.Keyword.{Keyword}
use Rattle.kt_grammar.specs.declared.cursor.Cursor.{Cursor}
use Rattle.kt_grammar.specs.DeclarationsBuilt as built
use Rattle.kt_grammar.specs.Moves.{Moved}
use Rattle.kt_grammar.specs.Parsed.{Read, Advanced}
use Rattle.kt_grammar.specs.Rows.{Row, grammar, word}
use Rattle.kt_grammar.specs.Tokens.{is_word, is_name}
use Rattle.kt_grammar.proofs.Steps.{read_one, read_both, read_row}

-- two parts, one behind the other, and what is built of both
pub joined : {X Y Z : Type 0} (a b : Part Row Token) (f : Cst Token → X) (g : Cst Token → Y) (join : X → Y → Z) (whole : Cst Token → Z) → ((c d : Cst Token) → whole (pair c d) ≡ join (f c) (g d))
    → {ts : List Token} {start mid end : Cursor} {x : X} {y : Y} → Advanced a f ts start mid x → Advanced b g ts mid end y → Advanced (both a b) whole ts start end (join x y)
joined a b f g join whole law {x = x} {y = y} p q = record {
  tree = pair p.tree q.tree;
  looked = max p.looked q.looked;
  read = read_both p.read q.read;
  builds = ap (λ u. join u y) p.builds ∙ ap (λ v. join (f p.tree) v) q.builds ∙ sym (law p.tree q.tree);
  so_far = omega (arith, p.so_far, q.so_far);
}

-- a keyword, a name and the rest
pub declared : {Y : Type 0} (n : Row) (k : Keyword) (a : Part Row Token) → grammar n ≡ both (word k) (both (one is_name) a) → (f : Cst Token → Y) (join : Word → Y → Class) (whole : Cst Token → Class)
    → ((us rest : List Token) (w i c : Cst Token) → Reads grammar a us c rest → join (built.name_of i) (f c) ≡ whole (node (pair w (pair i c))))
    → {ts : List Token} {start next mid end : Cursor} {v : Word} {y : Y} {x : Class} → Moved (is_word k) ts start next → NameMoved ts next mid v → Advanced a f ts mid end y → x ≡ join v y
    → Advanced (row n) whole ts start end x
declared n k a is f join whole law {ts = ts} {start = start} {end = end} {y = y} o m p e = record {
  tree = node (pair (leaf o.taken.token) (pair (leaf m.taken.token) p.tree));
  looked = max 0 (max 0 p.looked);
  read = read_row (subst (λ b. Read b ts start.at end.at (max 0 (max 0 p.looked)) (pair (leaf o.taken.token) (pair (leaf m.taken.token) p.tree))) (sym is) (read_both (read_one o.taken) (read_both (read_one m.taken) p.read)));
  builds = e ∙ ap (λ u. join u y) m.word ∙ ap (λ z. join (built.name_of (leaf m.taken.token)) z) p.builds ∙ law _ _ (leaf o.taken.token) (leaf m.taken.token) p.tree p.read.reads;
  so_far = omega (arith, o.so_far, m.so_far, p.so_far);
}
