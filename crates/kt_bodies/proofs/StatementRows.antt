-- The steps of the functions that read statements and blocks.
use Rattle.std.proofs.Common.{◌≡◌, max, Bool, true, List, [], ◌∷◌, ◌++◌, refl, sym, ap, ◌∙◌, arith}
use Rattle.grammars.specs.Grammar.{Part, next, one, row, both, guard, Cst, none, leaf, node, pair, left, right, Derives, d_nothing, d_one, d_row, d_both, d_left, d_right, d_done, d_guard, Reads, r_one, r_row, r_both, Productive}
use Rattle.kc_tree.specs.declared.fault.Span.{Span}
use Rattle.kc_tree.specs.declared.expr.Expr.{Expr}
use Rattle.kc_tree.specs.declared.expr.ExprKind.TheVariants as e
use Rattle.kt_lexer.specs.declared.token.Token.{Token}
use Rattle.kt_lexer.specs.declared.token.TokenKind.TheVariants as kind
use Rattle.kt_lexer.specs.declared.token.Operator.TheVariants as operator
use Rattle.kt_grammar.specs.declared.cursor.Cursor.{Cursor}
use Rattle.kt_grammar.specs.Built as built
use Rattle.kt_grammar.specs.Moves.{Moved}
use Rattle.kt_grammar.specs.Parsed.{Advanced}
use Rattle.kt_grammar.specs.Rows as rows
use Rattle.kt_grammar.specs.Rows.{Row, grammar, op}
use Rattle.kt_grammar.specs.Tokens.{is_op, begins_statement, marked}
use Rattle.kt_grammar.specs.TypesBuilt.{no_span, span_of}
use Rattle.kt_grammar.proofs.Extents.{between_is}
use Rattle.kt_grammar.proofs.Progress.{goes_on}
use Rattle.kt_grammar.proofs.Steps.{has_both, read_one, read_both, read_row}
use Rattle.kt_grammar.proofs.TypeRows.{stretch, has_op}
use Rattle.kt_bodies.specs.Statements.{to_brace, before_brace}
use Rattle.kt_bodies.proofs.Sequences.{IsSequence, turn_part}

-- ---- statements

-- a name behind a line's end
abbrev marked_name : Token
marked_name = record { kind = kind.Name 0; span = no_span; marked = true }

abbrev no_turns : Cst Token
no_turns = pair none (pair none (pair none (pair none (pair none (pair none (pair none (pair (right none) (pair none (pair none none)))))))))

abbrev name_statement : Cst Token
name_statement = node (right (right (right (pair (node (pair (node (right (left (leaf marked_name)))) none)) (right no_turns)))))

a_statement : Derives grammar (row rows.statement) (marked_name ∷ []) name_statement []
a_statement = d_row (d_right (d_right (d_right (d_both (d_row (d_both (d_row (d_right (d_left (d_one refl)))) d_done))
    (d_right (d_both d_done (d_both d_done (d_both d_done (d_both d_done (d_both d_done (d_both d_done (d_both d_done (d_both (d_right d_nothing) (d_both d_done (d_both d_done d_done)))))))))))))))

pub has_statement : Productive grammar (row rows.statement)
has_statement = (marked_name ∷ [], name_statement, a_statement)

pub has_statements : Productive grammar (row rows.statements)
has_statements = ([], node (right none), d_row (d_right d_nothing))

has_marked_turn : Productive grammar (guard (next (marked begins_statement)) (turn_part rows.statement rows.after_statement))
has_marked_turn = (marked_name ∷ [], node (pair name_statement (node (right none))), d_guard refl (d_both a_statement (d_row (d_right d_nothing))) (omega arith))

pub statements_list : IsSequence rows.statements rows.more_statements rows.after_statement rows.statement begins_statement (marked begins_statement) (λ c. built.statement_of c ∷ []) built.statements_of built.more_statements_of built.statements_behind
statements_list = record {
  rule = refl;
  rule_more = refl;
  rule_after = refl;
  takes = refl;
  productive = has_marked_turn;
  none_is = refl;
  some_is = λ c d. refl;
  more_none = refl;
  more_again = λ s d. refl;
  more_some = λ c d. refl;
  behind_none = refl;
  behind_again = λ s d. refl;
  behind_some = λ c d. refl;
}

-- a statement at the list's end
pub statement_more : (xs ys : List Expr) {ts : List Token} {start end : Cursor} {x : Expr} → Advanced (row rows.statement) built.statement_of ts start end x → ys ≡ xs ++ x ∷ []
    → Advanced (row rows.statement) (λ c. xs ++ built.statement_of c ∷ []) ts start end ys
statement_more xs ys p i = record { tree = p.tree; looked = p.looked; read = p.read; builds = i ∙ ap (λ x. xs ++ x ∷ []) p.builds; so_far = p.so_far }

-- ---- braces

pub has_to_brace : Productive grammar to_brace
has_to_brace = has_both has_statements (has_op operator.CloseBrace)

pub closed_by : {ts : List Token} {start mid end : Cursor} {xs : List Expr} → Advanced (row rows.statements) built.statements_of ts start mid xs → Moved (is_op operator.CloseBrace) ts mid end
    → Advanced to_brace before_brace ts start end xs
closed_by p o = record { tree = pair p.tree (leaf o.taken.token); looked = max p.looked 0; read = read_both p.read (read_one o.taken); builds = p.builds; so_far = omega (arith, p.so_far, o.so_far) }

-- a part that a single token ends
pub record Closed (x : Cst Token) : Type 0 where
  pub inner : Cst Token
  pub close : Token
  pub is : x ≡ pair inner (leaf close)

pub closed : {a : Part Row Token} {f : Token → Bool} {ts r : List Token} {x : Cst Token} → Reads grammar (both a (one f)) ts x r → Closed x
closed (r_both {x = x} d (r_one {t = t} h)) = record { inner = x; close = t; is = refl }

pub in_braces : {ts : List Token} {start next end : Cursor} {xs : List Expr} → Moved (is_op operator.OpenBrace) ts start next → Advanced to_brace before_brace ts next end xs
    → Advanced (row rows.block) built.block_statements ts start end xs
in_braces {xs = xs} o p =
    let k = closed p.read.reads in
    record {
      tree = node (pair (leaf o.taken.token) p.tree);
      looked = max 0 p.looked;
      read = read_row (read_both (read_one o.taken) p.read);
      builds = p.builds ∙ rw k.is refl;
      so_far = omega (arith, o.so_far, p.so_far);
    }

pub record Braced (x : Cst Token) : Type 0 where
  pub begin : Token
  pub inner : Cst Token
  pub close : Token
  pub is : x ≡ node (pair (leaf begin) (pair inner (leaf close)))

braced : {ts r : List Token} {x : Cst Token} → Reads grammar (row rows.block) ts x r → Braced x
braced (r_row (r_both (r_one {t = o} h) (r_both {x = x} d (r_one {t = c} k)))) = record { begin = o; inner = x; close = c; is = refl }

block_alike : {s u : Span} {xs ys : List Expr} → s ≡ u → xs ≡ ys → (let x : Expr = record { span = s; kind = e.Block xs } in x) ≡ record { span = u; kind = e.Block ys }
block_alike p q = cc

block_built : {c : Cst Token} (b : Braced c) {s : Span} {xs : List Expr} {y : Expr} → s ≡ span_of c → xs ≡ built.block_statements c → y ≡ record { span = s; kind = e.Block xs } → y ≡ built.block_of c
block_built b p q i = i ∙ block_alike (p ∙ ap span_of b.is) (q ∙ ap built.block_statements b.is) ∙ ap built.block_of (sym b.is)

pub block_from : {ts : List Token} {start end : Cursor} {xs : List Expr} {y : Expr} (s : Span) → Advanced (row rows.block) built.block_statements ts start end xs → s ≡ stretch ts start.at end.at
    → y ≡ record { span = s; kind = e.Block xs } → Advanced (row rows.block) built.block_of ts start end y
block_from s p f i = record {
  tree = p.tree;
  looked = p.looked;
  read = p.read;
  builds = block_built (braced p.read.reads) (f ∙ between_is (goes_on refl p.read) p.read (goes_on refl p.read) p.read) p.builds i;
  so_far = p.so_far;
}
