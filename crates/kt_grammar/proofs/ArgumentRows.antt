-- The steps of the functions that read arguments and indexes.
use Rattle.std.proofs.Common.{◌≡◌, ℕ, ◌≤◌, max, Bool, true, false, ◌&&◌, List, [], ◌∷◌, ◌++◌, length, drop, Option, Some, None, refl, sym, ap, subst, ◌∙◌, arith}
use Rattle.grammars.specs.Grammar.{next, one, row, both, none, leaf, node, pair, left, right, first, test}
use Rattle.grammars.specs.Tests.{count_if}
use Rattle.grammars.proofs.Later.{begun_here, begun_second}
use Rattle.kc_text.specs.declared.errors.Fail.{Fail}
use Rattle.kc_tree.specs.declared.expr.Arg.{Arg}
use Rattle.kc_tree.specs.declared.expr.Expr.{Expr}
use Rattle.kc_tree.specs.declared.fault.Span.{Span}
use Rattle.kc_tree.specs.declared.types.Word.{Word}
use Rattle.kt_lexer.specs.declared.token.Token.{Token}
use Rattle.kt_lexer.specs.declared.token.Operator.TheVariants as operator
use Rattle.kt_grammar.specs.declared.cursor.Cursor.{Cursor}
use Rattle.kt_grammar.specs.Built as built
use Rattle.kt_grammar.specs.Expressions.{name_before, star_before}
use Rattle.kt_grammar.specs.Lookahead.{argument_name}
use Rattle.kt_grammar.specs.Moves.{Moved}
use Rattle.kt_grammar.specs.Parsed.{Advanced, Halts, Taken, NameTaken}
use Rattle.kt_grammar.specs.Rows as rows
use Rattle.kt_grammar.specs.Rows.{grammar, op}
use Rattle.kt_grammar.specs.Tokens.{is_op, is_name, begins_argument, begins_expression}
use Rattle.kt_grammar.proofs.Advances.{halts_row, halts_second}
use Rattle.kt_grammar.proofs.Extents.{between_is}
use Rattle.kt_grammar.proofs.ListRows.{IsList}
use Rattle.kt_grammar.proofs.Progress.{goes_on}
use Rattle.kt_grammar.proofs.Steps.{BegunAt, standing, read_one, read_both, read_row, read_left, read_right, read_instead, read_first, read_second, read_nothing}
use Rattle.kt_grammar.proofs.TypeRows.{stretch, has_op}

-- ---- the lists

pub arguments_list : IsList rows.arguments rows.argument begins_argument built.argument_of built.arguments_of
arguments_list = record { rule = refl; none_is = refl; last_is = λ c. refl; more_is = λ c t d. refl }

pub expressions_list : IsList rows.expressions rows.expression begins_expression (λ c. built.expression_of c ∷ []) built.expressions_of
expressions_list = record { rule = refl; none_is = refl; last_is = λ c. refl; more_is = λ c t d. refl }

-- an expression at the list's end
pub one_more : (xs ys : List Expr) {ts : List Token} {start end : Cursor} {x : Expr} → Advanced (row rows.expression) built.expression_of ts start end x → ys ≡ xs ++ x ∷ []
    → Advanced (row rows.expression) (λ c. xs ++ built.expression_of c ∷ []) ts start end ys
one_more xs ys p e = record { tree = p.tree; looked = p.looked; read = p.read; builds = e ∙ ap (λ x. xs ++ x ∷ []) p.builds; so_far = p.so_far }

-- ---- `NAME =` before an argument

no_name_is : (us : List Token) → test is_name (first us) ≡ false → argument_name.holds us ≡ false
no_name_is [] h = refl
no_name_is (t ∷ us) h = ap (λ b. b && test (is_op operator.Assign) (first us)) h

no_name_far : (us : List Token) → test is_name (first us) ≡ false → argument_name.far us ≡ 0
no_name_far [] h = refl
no_name_far (t ∷ us) h = ap (λ b. count_if b 0) h

name_is : {ts : List Token} {at next : ℕ} → Taken is_name ts at next → argument_name.holds (drop at ts) ≡ test (is_op operator.Assign) (first (drop next ts))
name_is {ts = ts} {next = next} o = ap argument_name.holds o.here ∙ ap (λ b. b && test (is_op operator.Assign) (first (drop next ts))) o.is_so

name_far : {ts : List Token} {at next : ℕ} → Taken is_name ts at next → argument_name.far (drop at ts) ≡ 1
name_far o = ap argument_name.far o.here ∙ ap (λ b. count_if b 0) o.is_so

pub no_name : {ts : List Token} {start : Cursor} → start.at ≤ length ts → test is_name (first (drop start.at ts)) ≡ false → Advanced name_before built.argument_name_of ts start start None
no_name {ts = ts} {start = start} w h = record {
  tree = right none;
  looked = 0;
  read = read_right (no_name_is (drop start.at ts) h) (omega (arith, no_name_far (drop start.at ts) h)) (read_nothing w);
  builds = refl;
  so_far = omega arith;
}

-- the name could have been that of an argument
name_begins : {ts : List Token} {at next : ℕ} → Taken is_name ts at next → BegunAt (both (one is_name) (op operator.Assign)) ts at next
name_begins {ts = ts} {next = next} o = begun_second grammar (read_one o).reads (begun_here grammar (drop next ts) (has_op operator.Assign))

pub only_name : {ts : List Token} {start : Cursor} {next : ℕ} (end : Cursor) → Taken is_name ts start.at next → test (is_op operator.Assign) (first (drop next ts)) ≡ false
    → end ≡ record { at = start.at; looked = max start.looked next } → Advanced name_before built.argument_name_of ts start end None
only_name {ts = ts} {start = start} {next = next} end o h e = subst (λ (c : Cursor). Advanced name_before built.argument_name_of ts start c None) (sym e) (record {
  tree = right none;
  looked = max next 0;
  read = read_instead next (name_is o ∙ h) (omega (arith, o.next, name_far o)) o.within (name_begins o) (read_nothing (omega (arith, o.next, o.within)));
  builds = refl;
  so_far = omega arith;
})

pub name_taken : {ts : List Token} {start : Cursor} {next last : ℕ} {w : Word} (end : Cursor) → NameTaken ts start.at next w → Taken (is_op operator.Assign) ts next last
    → end ≡ record { at = last; looked = start.looked } → Advanced name_before built.argument_name_of ts start end (Some w)
name_taken {ts = ts} {start = start} {w = w} end k o e = subst (λ (c : Cursor). Advanced name_before built.argument_name_of ts start c (Some w)) (sym e) (record {
  tree = left (pair (leaf k.taken.token) (leaf o.token));
  looked = 0;
  read = read_left (name_is k.taken ∙ standing o) (omega (arith, k.taken.next, o.next, name_far k.taken)) (read_both (read_one k.taken) (read_one o));
  builds = ap Some k.word;
  so_far = omega arith;
})

-- ---- `*` before its value

pub star_taken : {ts : List Token} {start end : Cursor} → Moved (is_op operator.Times) ts start end → Advanced star_before built.is_taken ts start end true
star_taken o = record { tree = left (leaf o.taken.token); looked = 0; read = read_first (standing o.taken) (read_one o.taken); builds = refl; so_far = omega (arith, o.so_far) }

pub no_star : {ts : List Token} {start : Cursor} → start.at ≤ length ts → test (is_op operator.Times) (first (drop start.at ts)) ≡ false → Advanced star_before built.is_taken ts start start false
no_star w h = record { tree = right none; looked = 0; read = read_second h (read_nothing w); builds = refl; so_far = omega arith }

-- ---- the argument

argument_alike : {s p : Span} {n m : Option Word} {b d : Bool} {x y : Expr} → s ≡ p → n ≡ m → b ≡ d → x ≡ y
    → (let a : Arg = record { span = s; name = n; spread = b; trailing = false; value = x } in a) ≡ record { span = p; name = m; spread = d; trailing = false; value = y }
argument_alike e f g h = cc

pub argument_from : (xs ys : List Arg) {ts : List Token} {start mid next end : Cursor} {s : Span} {n : Option Word} {b : Bool} {x : Expr} → Advanced name_before built.argument_name_of ts start mid n
    → Advanced star_before built.is_taken ts mid next b → Advanced (row rows.expression) built.expression_of ts next end x → s ≡ stretch ts start.at end.at
    → ys ≡ xs ++ record { span = s; name = n; spread = b; trailing = false; value = x } ∷ [] → Advanced (row rows.argument) (λ c. xs ++ built.argument_of c) ts start end ys
argument_from xs ys p o q e g =
    let whole = read_both p.read (read_both o.read q.read) in
    record {
      tree = node (pair p.tree (pair o.tree q.tree));
      looked = max p.looked (max o.looked q.looked);
      read = read_row whole;
      builds = g ∙ ap (λ a. xs ++ a ∷ []) (argument_alike (e ∙ between_is (goes_on refl whole) whole (goes_on refl q.read) q.read) p.builds o.builds q.builds);
      so_far = omega (arith, p.so_far, o.so_far, q.so_far);
    }

pub argument_halts : {ts : List Token} {start mid next : Cursor} {n : Option Word} {b : Bool} {e : Fail ℕ} → Advanced name_before built.argument_name_of ts start mid n
    → Advanced star_before built.is_taken ts mid next b → Halts (row rows.expression) ts next e → Halts (row rows.argument) ts start e
argument_halts p o q = halts_row (halts_second p.read p.so_far (halts_second o.read o.so_far q))
