-- A tree takes no more tokens than it is read from, and a text has no more tokens than units.
use Rattle.std.proofs.Common.{◌≡◌, ℕ, ℤ, ◌+◌, ◌≤◌, nat_lt, Bool, true, false, if◌then◌else◌, List, [], ◌∷◌, length, Some, None, pos, negsuc, refl, sym, ap, subst, ◌∙◌, arith}
use Rattle.std.proofs.lemmas.List.{length-drop}
use Rattle.form_parser.specs.declared.tokens.TokenKind.{TokenKind}
use Rattle.form_parser.specs.declared.tokens.TokenKind.TheVariants as kind
use Rattle.form_parser.specs.declared.tokens.Token.{Token}
use Rattle.form_parser.specs.declared.tokens.Place.{Place}
use Rattle.form_parser.specs.declared.operators.Level.{Level}
use Rattle.form_parser.specs.declared.operators.Level.TheVariants as level
use Rattle.form_parser.specs.declared.operators.Operator.{Operator}
use Rattle.form_parser.specs.declared.operators.Operator.TheVariants as operator
use Rattle.form_parser.specs.declared.operators.Prefix.{Prefix}
use Rattle.form_parser.specs.declared.operators.Prefix.TheVariants as sign
use Rattle.form_parser.specs.declared.parser.Standing.{Standing}
use Rattle.form_parser.specs.declared.surface.Expression.{Expression}
use Rattle.form_parser.specs.declared.surface.ExpressionKind.{ExpressionKind, out-ExpressionKind}
use Rattle.form_parser.specs.declared.surface.ExpressionKind.TheVariants as expr
use Rattle.form_parser.specs.declared.surface.ExpressionKind.TheOpen.{ExpressionKind-F}
use Rattle.form_parser.specs.declared.surface.ExpressionKind.TheFolds.{fold-ExpressionKind, map-ExpressionKind, fold_out-ExpressionKind, fold_out-Expression}
use Rattle.form_parser.specs.declared.surface.ExpressionKind.TheViews.{outs-Number, outs-Truth, outs-Name, outs-Negation, outs-Not, outs-Binary, outs-Compare, outs-Equality, outs-And, outs-Or}
use Rattle.form_parser.specs.declared.surface.Body.{Body}
use Rattle.form_parser.specs.declared.surface.Statement.{Statement, out-Statement}
use Rattle.form_parser.specs.declared.surface.Statement.TheVariants as statement
use Rattle.form_parser.specs.declared.surface.Statement.TheOpen.{Statement-F}
use Rattle.form_parser.specs.declared.surface.Statement.TheFolds.{map-Statement, fold_out-Statement, fold_out-Body}
use Rattle.form_parser.specs.declared.surface.Statement.TheViews.{outs-Declare, outs-Assign, outs-Print, outs-If, outs-While}
use Rattle.form_parser.specs.declared.surface.Source.{Source}
use Rattle.form_parser.specs.Cut.{word_of, Cut, the_end, blank, line_end, word, sign as a_sign}
use Rattle.form_parser.specs.Grammar.{joined, Row, chain, more, nothing, prefix, primary, operand, behind, binary, prefixed, least, leaf, bracketed, Reads, a_chain, one_more, no_more, ended, a_prefix, the_least, unsigned, a_leaf, brackets, else_of, first_else, branch_of, behind_else, alone_in, block_of, ReadsTest, a_test, ReadsStatement, a_declaration, an_assignment, a_print, an_if, an_if_else, a_while, ReadsBody, a_block, alone, ReadsStatements, closed, separated, another, Derives, one}
use Rattle.form_parser.specs.Sizes.{kind_size, placed_size, expression_size, statement_layer_size, body_layer_size, statement_size, body_size, statements_size, source_size, SizeIsWithinBytes}
use Rattle.form_parser.proofs.Cuts.{some_units, signs_length}
use Rattle.form_parser.proofs.Readings.{same_some, none_or_some}

-- ---- the sizes of what is made

abbrev pub size_of_kind : ExpressionKind → ℕ
size_of_kind k = fold-ExpressionKind ℕ ℕ kind_size placed_size k

kind_sized : (k : ExpressionKind) (y : ExpressionKind-F ExpressionKind Expression) → out-ExpressionKind k ≡ y → size_of_kind k ≡ kind_size (map-ExpressionKind ExpressionKind Expression ℕ ℕ size_of_kind expression_size y)
kind_sized k y e = fold_out-ExpressionKind ℕ ℕ kind_size placed_size k ∙ ap (λ z. kind_size (map-ExpressionKind ExpressionKind Expression ℕ ℕ size_of_kind expression_size z)) e

sized : (p : Place) (k : ExpressionKind) (y : ExpressionKind-F ExpressionKind Expression) → out-ExpressionKind k ≡ y
    → expression_size (record { place = p; kind = k }) ≡ kind_size (map-ExpressionKind ExpressionKind Expression ℕ ℕ size_of_kind expression_size y)
sized p k y e = fold_out-Expression ℕ ℕ kind_size placed_size (record { place = p; kind = k }) ∙ kind_sized k y e

pub size_by_kind : (e : Expression) → expression_size e ≡ size_of_kind e.kind
size_by_kind e = fold_out-Expression ℕ ℕ kind_size placed_size e

some_size : (y : ExpressionKind-F ℕ ℕ) → 1 ≤ kind_size y
some_size (ExpressionKind-F.Number n) = omega arith
some_size (ExpressionKind-F.Truth b) = omega arith
some_size (ExpressionKind-F.Name n) = omega arith
some_size (ExpressionKind-F.Negation a) = omega arith
some_size (ExpressionKind-F.Not a) = omega arith
some_size (ExpressionKind-F.Binary op a b) = omega arith
some_size (ExpressionKind-F.Compare order a b) = omega arith
some_size (ExpressionKind-F.Equality equal a b) = omega arith
some_size (ExpressionKind-F.And a b) = omega arith
some_size (ExpressionKind-F.Or a b) = omega arith

-- an expression takes a token at least
pub some_token : (e : Expression) → 1 ≤ expression_size e
some_token e =
    let s = size_by_kind e ∙ kind_sized e.kind (out-ExpressionKind e.kind) refl in
    let n = some_size (map-ExpressionKind ExpressionKind Expression ℕ ℕ size_of_kind expression_size (out-ExpressionKind e.kind)) in
    omega arith

binary_size : (o : Operator) (a b : Expression) → expression_size (binary o a b) ≡ 1 + expression_size a + expression_size b
binary_size (operator.Binary o) a b = sized _ (expr.Binary o a b) (ExpressionKind-F.Binary o a b) (outs-Binary o a b)
binary_size (operator.Compare o) a b = sized _ (expr.Compare o a b) (ExpressionKind-F.Compare o a b) (outs-Compare o a b)
binary_size (operator.Equality equal) a b = sized _ (expr.Equality equal a b) (ExpressionKind-F.Equality equal a b) (outs-Equality equal a b)
binary_size operator.And a b = sized _ (expr.And a b) (ExpressionKind-F.And a b) (outs-And a b)
binary_size operator.Or a b = sized _ (expr.Or a b) (ExpressionKind-F.Or a b) (outs-Or a b)

prefixed_size : (t : Token) (o : Prefix) (a : Expression) → expression_size (prefixed t o a) ≡ 1 + expression_size a
prefixed_size t sign.Minus a = sized _ (expr.Negation a) (ExpressionKind-F.Negation a) (outs-Negation a)
prefixed_size t sign.Not a = sized _ (expr.Not a) (ExpressionKind-F.Not a) (outs-Not a)

number_size : (p : Place) (n : ℤ) → expression_size (record { place = p; kind = expr.Number n }) ≡ 1
number_size p n = sized p (expr.Number n) (ExpressionKind-F.Number n) (outs-Number n)

truth_size : (p : Place) (b : Bool) → expression_size (record { place = p; kind = expr.Truth b }) ≡ 1
truth_size p b = sized p (expr.Truth b) (ExpressionKind-F.Truth b) (outs-Truth b)

name_size : (p n : Place) → expression_size (record { place = p; kind = expr.Name n }) ≡ 1
name_size p n = sized p (expr.Name n) (ExpressionKind-F.Name n) (outs-Name n)

bracketed_size : (t : Token) (a : Expression) (u : Token) → expression_size (bracketed t a u) ≡ expression_size a
bracketed_size t a u = fold_out-Expression ℕ ℕ kind_size placed_size (bracketed t a u) ∙ sym (fold_out-Expression ℕ ℕ kind_size placed_size a)

this_size : {a b : Expression} (n : ℕ) → expression_size a ≡ n → Some a ≡ Some b → expression_size b ≡ n
this_size n e h = subst (λ x. expression_size x ≡ n) (same_some refl h) e

leaf_size : (p : Place) (k : TokenKind) {a : Expression} → leaf p k ≡ Some a → expression_size a ≡ 1
leaf_size p (kind.Number n) {a = a} h = by (nat_lt n 2147483648) h
  where
    by : (b : Bool) → (if b then Some (let e : Expression = record { place = p; kind = expr.Number (pos n) } in e) else None) ≡ Some a → expression_size a ≡ 1
    by true k = this_size 1 (number_size p (pos n)) k
    by false k = absurd (none_or_some refl k)
leaf_size p kind.True h = this_size 1 (truth_size p true) h
leaf_size p kind.False h = this_size 1 (truth_size p false) h
leaf_size p kind.Name h = this_size 1 (name_size p p) h
leaf_size p _ h = absurd (none_or_some refl h)

-- ---- expressions

-- what is read before the rest of a row
abbrev credit : Row → ℕ
credit (chain l) = 0
credit (more l a) = expression_size a
credit (nothing a) = expression_size a
credit prefix = 0
credit primary = 0

operand_credit : (l : Level) → credit (operand l) ≡ 0
operand_credit level.Or = refl
operand_credit level.And = refl
operand_credit level.Equality = refl
operand_credit level.Comparison = refl
operand_credit level.Additive = refl
operand_credit level.Multiplicative = refl

behind_credit : (l : Level) (a : Expression) → credit (behind l a) ≡ expression_size a
behind_credit level.Or a = refl
behind_credit level.And a = refl
behind_credit level.Equality a = refl
behind_credit level.Comparison a = refl
behind_credit level.Additive a = refl
behind_credit level.Multiplicative a = refl

reads_size : {i : Bool} {row : Row} {ts us : List Token} {a : Expression} → Reads i row ts a us → expression_size a + length us ≤ credit row + length ts
reads_size (a_chain {l = l} d e) =
    let p = reads_size d in
    let q = reads_size e in
    let c = operand_credit l in
    omega arith
reads_size (one_more {l = l} {a = a} {b = b} {o = o} h d e) =
    let p = reads_size d in
    let q = reads_size e in
    let c = operand_credit l in
    let k = behind_credit l (binary o a b) in
    let s = binary_size o a b in
    omega arith
reads_size (no_more n) = omega arith
reads_size ended = omega arith
reads_size (a_prefix {t = t} {a = a} {o = o} h d) =
    let p = reads_size d in
    let s = prefixed_size t o a in
    omega arith
reads_size (the_least {t = t} {u = u} h w) = let s = number_size (least t u).place (negsuc 2147483647) in omega arith
reads_size (unsigned d) = reads_size d
reads_size (a_leaf {t = t} h) = let s = leaf_size t.place t.kind h in omega arith
reads_size (brackets {t = t} {u = u} {a = a} h d k) =
    let p = reads_size d in
    let s = bracketed_size t a u in
    omega arith

test_size : {ts us : List Token} {a : Expression} → ReadsTest ts a us → 2 + expression_size a + length us ≤ length ts
test_size (a_test h d k) = let p = reads_size d in omega arith

-- ---- statements

statement_sized : (s : Statement) (y : Statement-F Statement Body) → out-Statement s ≡ y → statement_size s ≡ statement_layer_size (map-Statement Statement Body ℕ ℕ statement_size body_size y)
statement_sized s y e = fold_out-Statement ℕ ℕ statement_layer_size body_layer_size s ∙ ap (λ z. statement_layer_size (map-Statement Statement Body ℕ ℕ statement_size body_size z)) e

declare_size : (p : Place) (v : Bool) (n : Place) (a : Expression) → statement_size (statement.Declare p v n a) ≡ 3 + expression_size a
declare_size p v n a = statement_sized (statement.Declare p v n a) (Statement-F.Declare p v n a) (outs-Declare p v n a)

assign_size : (p n : Place) (a : Expression) → statement_size (statement.Assign p n a) ≡ 2 + expression_size a
assign_size p n a = statement_sized (statement.Assign p n a) (Statement-F.Assign p n a) (outs-Assign p n a)

print_size : (p : Place) (a : Expression) → statement_size (statement.Print p a) ≡ 3 + expression_size a
print_size p a = statement_sized (statement.Print p a) (Statement-F.Print p a) (outs-Print p a)

if_size : (p : Place) (a : Expression) (b : Body) → statement_size (statement.If p a b None) ≡ 3 + expression_size a + body_size b
if_size p a b = statement_sized (statement.If p a b None) (Statement-F.If p a b None) (outs-If p a b None)

if_else_size : (p : Place) (a : Expression) (b c : Body) → statement_size (statement.If p a b (Some c)) ≡ 4 + expression_size a + body_size b + body_size c
if_else_size p a b c = statement_sized (statement.If p a b (Some c)) (Statement-F.If p a b (Some c)) (outs-If p a b (Some c))

while_size : (p : Place) (a : Expression) (b : Body) → statement_size (statement.While p a b) ≡ 3 + expression_size a + body_size b
while_size p a b = statement_sized (statement.While p a b) (Statement-F.While p a b) (outs-While p a b)

body_sized : (b : Body) → body_size b ≡ statements_size b.statements
body_sized b = fold_out-Body ℕ ℕ statement_layer_size body_layer_size b

-- an `else` is one token, and a `;` before it another one
else_taken : (k : TokenKind) (ts : List Token) {us : List Token} → else_of k ts ≡ Some us → length us ≡ length ts
else_taken kind.Else ts h = sym (ap length (same_some refl h))
else_taken _ ts h = absurd (none_or_some refl h)

first_taken : (ts : List Token) {us : List Token} → first_else ts ≡ Some us → 1 + length us ≤ length ts
first_taken [] h = absurd (none_or_some refl h)
first_taken (t ∷ ts) h = let e = else_taken t.kind ts h in omega arith

branch_taken : (k : TokenKind) (ts : List Token) {us : List Token} → branch_of k ts ≡ Some us → length us ≤ length ts
branch_taken kind.Else ts h = let e = ap length (same_some h refl) in omega arith
branch_taken kind.Semicolon ts h = let e = first_taken ts h in omega arith
branch_taken _ ts h = absurd (none_or_some refl h)

else_behind : (ts : List Token) {us : List Token} → behind_else ts ≡ Some us → 1 + length us ≤ length ts
else_behind [] h = absurd (none_or_some refl h)
else_behind (t ∷ ts) h = let e = branch_taken t.kind ts h in omega arith

mutual
  read_size : {ts us : List Token} {s : Statement} → ReadsStatement ts s us → statement_size s + length us ≤ length ts
  read_size (a_declaration {t = t} {n = n} {v = v} {a = a} h k l d) =
      let p = reads_size d in
      let s = declare_size (joined t.place a.place) v n.place a in
      omega arith
  read_size (an_assignment {t = t} {a = a} h k l d) =
      let p = reads_size d in
      let s = assign_size (joined t.place a.place) t.place a in
      omega arith
  read_size (a_print {t = t} {u = u} {a = a} h k l d e) =
      let p = reads_size d in
      let s = print_size (joined t.place u.place) a in
      omega arith
  read_size (an_if {t = t} {a = a} {held = held} h d b n) =
      let p = test_size d in
      let q = read_body_size b in
      let s = if_size (joined t.place held.place) a held in
      omega arith
  read_size (an_if_else {t = t} {vs = vs} {a = a} {held = held} {failed = failed} h d b n c) =
      let p = test_size d in
      let q = read_body_size b in
      let e = else_behind vs n in
      let r = read_body_size c in
      let s = if_else_size (joined t.place failed.place) a held failed in
      omega arith
  read_size (a_while {t = t} {a = a} {body = body} h d b) =
      let p = test_size d in
      let q = read_body_size b in
      let s = while_size (joined t.place body.place) a body in
      omega arith

  read_body_size : {ts us : List Token} {b : Body} → ReadsBody ts b us → body_size b + length us ≤ length ts
  read_body_size (a_block {t = t} {ss = ss} {close = close} h d) =
      let p = read_all_size d in
      let s = body_sized (block_of t ss close) in
      omega arith
  read_body_size (alone {s = s} d) =
      let p = read_size d in
      let e = body_sized (alone_in s) in
      omega arith

  -- with the closing brace
  read_all_size : {st : Standing} {ts us : List Token} {ss : List Statement} {close : Place} → ReadsStatements st ts ss close us → 1 + statements_size ss + length us ≤ length ts
  read_all_size (closed h) = omega arith
  read_all_size (separated h m d) = let p = read_all_size d in omega arith
  read_all_size (another h d e) =
      let p = read_size d in
      let q = read_all_size e in
      omega arith

derived_size : {ts : List Token} {source : Source} → Derives ts source → source_size source ≤ length ts
derived_size (one h1 h2 h3 h4 h5 d) = let p = read_all_size d in omega arith

-- ---- files

cut_size : {at : ℕ} {marked : Bool} {us : List ℕ} {ts : List Token} → Cut at marked us ts → length ts ≤ length us
cut_size the_end = omega arith
cut_size (blank h c) = let p = cut_size c in omega arith
cut_size (line_end h c) = let p = cut_size c in omega arith
cut_size (word {u = u} {us = us} h k c) =
    let p = cut_size c in
    let n = some_units (word_of (u ∷ us)) k in
    omega (arith, simp length-drop at p)
cut_size (a_sign {u = u} {us = us} h j c) =
    let p = cut_size c in
    let n = (signs_length u us j).0 in
    omega (arith, simp length-drop at p)

pub size_within_bytes : SizeIsWithinBytes
size_within_bytes bytes source f =
    let p = derived_size f.derives in
    let q = cut_size f.cut in
    omega arith
