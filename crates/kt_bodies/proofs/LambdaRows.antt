-- The steps of the functions that read lambdas.
use Rattle.std.proofs.Common.{◌≡◌, ℕ, ◌≤◌, max, Bool, true, false, List, [], ◌∷◌, ◌++◌, length, drop, Result, Ok, Err, Option, Some, None, refl, sym, ap, ◌∙◌, arith, append_assoc}
use Rattle.grammars.specs.Grammar.{Part, next, row, both, choose, nothing, Cst, none, leaf, node, pair, left, right, first, test, d_nothing, d_row, d_left, d_right, Reads, r_one, r_both, r_left, r_right, Productive}
use Rattle.grammars.proofs.Later.{begun_here, begun_row, begun_first, begun_second}
use Rattle.kc_text.specs.declared.errors.Fail.{Fail}
use Rattle.kc_tree.specs.declared.fault.Span.{Span}
use Rattle.kc_tree.specs.declared.types.Word.{Word}
use Rattle.kc_tree.specs.declared.types.«Type».{«Type»}
use Rattle.kc_tree.specs.declared.expr.Expr.{Expr}
use Rattle.kc_tree.specs.declared.expr.ExprKind.TheVariants as e
use Rattle.kc_tree.specs.declared.expr.LocalName.{LocalName}
use Rattle.kt_bodies.specs.declared.lambdas.Inside.{Inside}
use Rattle.kt_bodies.specs.Lambdas.{colon_before_arrow, one_parameter, parameter_of, behind_arrow, behind_parameters, in_plain, in_lambda, arrow_of, plain_of, inside_of}
use Rattle.kt_bodies.specs.Looks.{Looked}
use Rattle.kt_bodies.specs.Statements.{to_brace, before_brace}
use Rattle.kt_bodies.specs.Terminals.{NameMoved}
use Rattle.kt_bodies.proofs.Looking.{looked_left, looked_right, halts_looked_left}
use Rattle.kt_bodies.proofs.StatementRows.{has_to_brace}
use Rattle.kt_lexer.specs.declared.token.Token.{Token}
use Rattle.kt_lexer.specs.declared.token.Operator.TheVariants as operator
use Rattle.kt_grammar.specs.declared.cursor.Cursor.{Cursor}
use Rattle.kt_grammar.specs.Built as built
use Rattle.kt_grammar.specs.Lookahead.{parameters}
use Rattle.kt_grammar.specs.Moves.{Moved}
use Rattle.kt_grammar.specs.Parsed.{Advanced, Advances, Taken}
use Rattle.kt_grammar.specs.Rows as rows
use Rattle.kt_grammar.specs.Rows.{Row, grammar, op}
use Rattle.kt_grammar.specs.Tokens.{is_op, is_name}
use Rattle.kt_grammar.specs.TypesBuilt as types_built
use Rattle.kt_grammar.specs.TypesBuilt.{span_of, word_of}
use Rattle.kt_grammar.proofs.Advances.{halts_row, halts_left, halts_right, halts_second, halts_after}
use Rattle.kt_grammar.proofs.Extents.{between_is}
use Rattle.kt_grammar.proofs.Progress.{goes_on}
use Rattle.kt_grammar.proofs.Steps.{BegunAt, standing, has_both, read_one, read_both, read_row, read_first, read_second, read_nothing}
use Rattle.kt_grammar.proofs.TypeRows.{stretch, has_op, has_name}

-- ---- parts have derivations

pub has_no_colon : Productive grammar colon_before_arrow
has_no_colon = ([], right none, d_right d_nothing)

abbrev pub parameters_behind : Part Row Token
parameters_behind = choose (next (is_op operator.Comma)) (both (op operator.Comma) (choose (next is_name) (row rows.parameter) nothing)) nothing

pub has_no_parameter : Productive grammar parameters_behind
has_no_parameter = ([], right none, d_right d_nothing)

pub has_behind_arrow : Productive grammar behind_arrow
has_behind_arrow = has_both (has_op operator.Arrow) has_to_brace

pub has_in_lambda : Productive grammar in_lambda
has_in_lambda = let k = has_behind_arrow in (k.0, left k.1, d_left k.2)

-- ---- what a look for parameters has gone over

pub parameters_begun : {ts : List Token} {at next : ℕ} → Taken is_name ts at next → BegunAt behind_parameters ts at next
parameters_begun {ts = ts} {next = next} o =
    begun_first grammar (begun_row grammar (begun_first grammar (begun_second grammar (read_one o).reads (begun_here grammar (drop next ts) has_no_colon)) has_no_parameter)) has_behind_arrow

pub has_behind_parameters : Productive grammar behind_parameters
has_behind_parameters = has_both (let k = has_both (has_both has_name has_no_colon) has_no_parameter in (k.0, node k.1, d_row k.2)) has_behind_arrow

-- ---- a parameter

pub no_type_written : {ts : List Token} {start : Cursor} → start.at ≤ length ts → test (is_op operator.Colon) (first (drop start.at ts)) ≡ false → Advanced colon_before_arrow built.written_type ts start start None
no_type_written w h = record { tree = right none; looked = 0; read = read_second h (read_nothing w); builds = refl; so_far = omega arith }

pub type_written : {ts : List Token} {start mid end : Cursor} {x : «Type»} → Moved (is_op operator.Colon) ts start mid → Advanced (row rows.type_before_arrow) types_built.type_of ts mid end x
    → Advanced colon_before_arrow built.written_type ts start end (Some x)
type_written o p = record {
  tree = left (pair (leaf o.taken.token) p.tree);
  looked = max 0 p.looked;
  read = read_first (standing o.taken) (read_both (read_one o.taken) p.read);
  builds = ap Some p.builds;
  so_far = omega (arith, o.so_far, p.so_far);
}

parameter_alike : {w v : Word} {x y : Option «Type»} → w ≡ v → x ≡ y → (let n : LocalName = record { name = w; ty = x } in n) ≡ record { name = v; ty = y }
parameter_alike f g = cc

pub parameter_from : (xs ys : List LocalName) {ts : List Token} {start mid end : Cursor} {w : Word} {x : Option «Type»} → NameMoved ts start mid w → Advanced colon_before_arrow built.written_type ts mid end x
    → ys ≡ xs ++ record { name = w; ty = x } ∷ [] → Advanced one_parameter (λ c. xs ++ parameter_of c) ts start end ys
parameter_from xs ys o p i = record {
  tree = pair (leaf o.taken.token) p.tree;
  looked = max 0 p.looked;
  read = read_both (read_one o.taken) p.read;
  builds = i ∙ ap (λ n. xs ++ n ∷ []) (parameter_alike o.word p.builds);
  so_far = omega (arith, o.so_far, p.so_far);
}

-- ---- parameters with commas between them

one_built : {ts r : List Token} {c : Cst Token} → Reads grammar one_parameter ts c r → built.parameters_of (node (pair c (right none))) ≡ parameter_of c
one_built (r_both (r_one h) d) = refl

comma_built : {ts r : List Token} {c : Cst Token} (t : Cst Token) → Reads grammar one_parameter ts c r → built.parameters_of (node (pair c (left (pair t (right none))))) ≡ parameter_of c
comma_built t (r_both (r_one h) d) = refl

more_built : {ts r : List Token} {c : Cst Token} (t d : Cst Token) → Reads grammar one_parameter ts c r → built.parameters_of (node (pair c (left (pair t (left d))))) ≡ parameter_of c ++ built.parameters_of d
more_built t d (r_both (r_one h) i) = refl

pub last_parameter : (xs ys : List LocalName) {ts : List Token} {start end : Cursor} → Advanced one_parameter (λ c. xs ++ parameter_of c) ts start end ys → test (is_op operator.Comma) (first (drop end.at ts)) ≡ false
    → Advanced (row rows.parameter) (λ c. xs ++ built.parameters_of c) ts start end ys
last_parameter xs ys p h = record {
  tree = node (pair p.tree (right none));
  looked = max p.looked 0;
  read = read_row (read_both p.read (read_second h (read_nothing p.read.within)));
  builds = p.builds ∙ ap (λ zs. xs ++ zs) (sym (one_built p.read.reads));
  so_far = omega (arith, p.so_far);
}

pub last_comma : (xs ys : List LocalName) {ts : List Token} {start mid end : Cursor} → Advanced one_parameter (λ c. xs ++ parameter_of c) ts start mid ys → Moved (is_op operator.Comma) ts mid end
    → test is_name (first (drop end.at ts)) ≡ false → Advanced (row rows.parameter) (λ c. xs ++ built.parameters_of c) ts start end ys
last_comma xs ys p o h = record {
  tree = node (pair p.tree (left (pair (leaf o.taken.token) (right none))));
  looked = max p.looked (max 0 0);
  read = read_row (read_both p.read (read_first (standing o.taken) (read_both (read_one o.taken) (read_second h (read_nothing o.taken.within)))));
  builds = p.builds ∙ ap (λ zs. xs ++ zs) (sym (comma_built (leaf o.taken.token) p.read.reads));
  so_far = omega (arith, p.so_far, o.so_far);
}

pub parameters_turn : (xs ys : List LocalName) {ts : List Token} {start mid next : Cursor} → Advanced one_parameter (λ c. xs ++ parameter_of c) ts start mid ys → Moved (is_op operator.Comma) ts mid next
    → test is_name (first (drop next.at ts)) ≡ true → (r : Result (List LocalName × Cursor) (Fail ℕ)) → Advances (row rows.parameter) (λ c. ys ++ built.parameters_of c) ts next r
    → Advances (row rows.parameter) (λ c. xs ++ built.parameters_of c) ts start r
parameters_turn xs ys p o h (Ok k) q = record {
  tree = node (pair p.tree (left (pair (leaf o.taken.token) (left q.tree))));
  looked = max p.looked (max 0 q.looked);
  read = read_row (read_both p.read (read_first (standing o.taken) (read_both (read_one o.taken) (read_first h q.read))));
  builds = q.builds ∙ ap (λ zs. zs ++ built.parameters_of q.tree) p.builds ∙ append_assoc xs (parameter_of p.tree) (built.parameters_of q.tree)
      ∙ ap (λ zs. xs ++ zs) (sym (more_built (leaf o.taken.token) q.tree p.read.reads));
  so_far = omega (arith, p.so_far, o.so_far, q.so_far);
}
parameters_turn xs ys p o h (Err e) q =
    halts_row (halts_second p.read p.so_far (halts_left p.read.within (standing o.taken) (halts_after o.taken o.so_far (halts_left o.taken.within h q))))

-- ---- the statements, with what stands before them

inside_alike : {ps qs : List LocalName} {b : Bool} {xs ys : List Expr} → ps ≡ qs → xs ≡ ys → (let i : Inside = record { params = ps; arrow = b; body = xs } in i) ≡ record { params = qs; arrow = b; body = ys }
inside_alike f g = cc

pub arrow_from : (ps : List LocalName) {ts : List Token} {start mid end : Cursor} {xs : List Expr} → Moved (is_op operator.Arrow) ts start mid → Advanced to_brace before_brace ts mid end xs
    → Advanced behind_arrow (arrow_of ps) ts start end (record { params = ps; arrow = true; body = xs })
arrow_from ps o p = record {
  tree = pair (leaf o.taken.token) p.tree;
  looked = max 0 p.looked;
  read = read_both (read_one o.taken) p.read;
  builds = inside_alike refl p.builds;
  so_far = omega (arith, o.so_far, p.so_far);
}

pub plain_without : {ts : List Token} {start mid end : Cursor} {ps : List LocalName} {xs : List Expr} → Looked parameters behind_parameters ts start mid false → Advanced to_brace before_brace ts mid end xs → ps ≡ []
    → Advanced in_plain plain_of ts start end (record { params = ps; arrow = false; body = xs })
plain_without k p i = record {
  tree = right p.tree;
  looked = max _ p.looked;
  read = looked_right k p.read;
  builds = inside_alike i p.builds;
  so_far = omega (arith, k.so_far, p.so_far);
}

pub plain_with : {ts : List Token} {start mid next : Cursor} {none ps : List LocalName} → Looked parameters behind_parameters ts start mid true → none ≡ [] → Advanced (row rows.parameter) (λ c. none ++ built.parameters_of c) ts mid next ps
    → (r : Result (Inside × Cursor) (Fail ℕ)) → Advances behind_arrow (arrow_of ps) ts next r → Advances in_plain plain_of ts start r
plain_with k i p (Ok m) q = record {
  tree = left (pair p.tree q.tree);
  looked = max _ (max p.looked q.looked);
  read = looked_left k (read_both p.read q.read);
  builds = q.builds ∙ ap (λ ps. arrow_of ps q.tree) (p.builds ∙ ap (λ ps. ps ++ built.parameters_of p.tree) i);
  so_far = omega (arith, k.so_far, p.so_far, q.so_far);
}
plain_with k i p (Err x) q = halts_looked_left k (halts_second p.read p.so_far q)

pub inside_arrow : (ts : List Token) (start : Cursor) (ps : List LocalName) → start.at ≤ length ts → test (is_op operator.Arrow) (first (drop start.at ts)) ≡ true → ps ≡ [] → (r : Result (Inside × Cursor) (Fail ℕ))
    → Advances behind_arrow (arrow_of ps) ts start r → Advances in_lambda inside_of ts start r
inside_arrow ts start ps w h i (Ok k) q = record { tree = left q.tree; looked = q.looked; read = read_first h q.read; builds = q.builds ∙ ap (λ ps. arrow_of ps q.tree) i; so_far = q.so_far }
inside_arrow ts start ps w h i (Err x) q = halts_left w h q

pub inside_plain : (ts : List Token) (start : Cursor) → start.at ≤ length ts → test (is_op operator.Arrow) (first (drop start.at ts)) ≡ false → (r : Result (Inside × Cursor) (Fail ℕ))
    → Advances in_plain plain_of ts start r → Advances in_lambda inside_of ts start r
inside_plain ts start w h (Ok k) q = record { tree = right q.tree; looked = q.looked; read = read_second h q.read; builds = q.builds; so_far = q.so_far }
inside_plain ts start w h (Err x) q = halts_right w h q

-- ---- the lambda

abbrev lambda_at : Option Word → Span → Inside → Expr
lambda_at l s i = record { span = s; kind = e.Lambda l i.params i.arrow i.body }

lambda_built : (l : Option Word) (t : Token) {ts r : List Token} {c : Cst Token} → Reads grammar in_lambda ts c r → lambda_at l (span_of (node (pair (leaf t) c))) (inside_of c) ≡ built.lambda_of l (node (pair (leaf t) c))
lambda_built l t (r_left h (r_both d (r_both i (r_one k)))) = refl
lambda_built l t (r_right h (r_left m (r_both p (r_both d (r_both i (r_one k)))))) = refl
lambda_built l t (r_right h (r_right m (r_both i (r_one k)))) = refl

lambda_alike : (l : Option Word) {s u : Span} {i j : Inside} → s ≡ u → i ≡ j → lambda_at l s i ≡ lambda_at l u j
lambda_alike l {u = u} {i = i} f g = ap (λ (k : Span). lambda_at l k i) f ∙ ap (λ (k : Inside). lambda_at l u k) g

pub lambda_from : (l : Option Word) (s : Span) {ts : List Token} {start next end : Cursor} {i : Inside} {y : Expr} → Moved (is_op operator.OpenBrace) ts start next → Advanced in_lambda inside_of ts next end i
    → s ≡ stretch ts start.at end.at → y ≡ record { span = s; kind = e.Lambda l i.params i.arrow i.body } → Advanced (row rows.lambda) (built.lambda_of l) ts start end y
lambda_from l s o p f g =
    let whole = read_row {n = rows.lambda} (read_both (read_one o.taken) p.read) in
    record {
      tree = node (pair (leaf o.taken.token) p.tree);
      looked = max 0 p.looked;
      read = whole;
      builds = g ∙ lambda_alike l (f ∙ between_is (goes_on refl whole) whole (goes_on refl whole) whole) p.builds ∙ lambda_built l o.taken.token p.read.reads;
      so_far = omega (arith, o.so_far, p.so_far);
    }
