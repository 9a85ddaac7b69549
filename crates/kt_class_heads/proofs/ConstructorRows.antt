-- The steps of the functions that read primary constructors.
use Rattle.std.proofs.Common.{◌≡◌, ℕ, ◌≤◌, max, true, false, List, [], ◌++◌, length, drop, Result, Ok, Err, Option, Some, None, refl, ap, ◌∙◌, arith}
use Rattle.grammars.specs.Grammar.{row, both, Cst, none, leaf, node, pair, left, right, first, test, d_nothing, d_row, d_right, Reads, r_one, r_both, Productive}
use Rattle.kc_text.specs.declared.errors.Fail.{Fail}
use Rattle.kc_tree.specs.declared.decl.ClassParam.{ClassParam}
use Rattle.kt_class_heads.specs.Constructors.{bracketed, bracketed_of, word_part, written, written_of, begins}
use Rattle.kt_lexer.specs.declared.token.Token.{Token}
use Rattle.kt_lexer.specs.declared.token.Operator.TheVariants as operator
use Rattle.kt_grammar.specs.declared.cursor.Cursor.{Cursor}
use Rattle.kt_grammar.specs.DeclarationsBuilt as built
use Rattle.kt_grammar.specs.Moves.{Moved}
use Rattle.kt_grammar.specs.Parsed.{Read, Advanced, Halts, Advances}
use Rattle.kt_grammar.specs.Rows as rows
use Rattle.kt_grammar.specs.Rows.{grammar, op}
use Rattle.kt_grammar.specs.Tokens.{is_op, is_constructor}
use Rattle.kt_grammar.proofs.Advances.{halts_left, halts_second}
use Rattle.kt_grammar.proofs.Steps.{standing, has_both, read_one, read_both, read_first, read_second, read_nothing}
use Rattle.kt_grammar.proofs.TypeRows.{has_op}

-- ---- parts have derivations

pub has_parameters : Productive grammar (row rows.constructor_parameters)
has_parameters = ([], node (right none), d_row (d_right d_nothing))

pub has_parameters_close : Productive grammar (both (row rows.constructor_parameters) (op operator.CloseRound))
has_parameters_close = has_both has_parameters (has_op operator.CloseRound)

-- ---- brackets

pub bracketed_from : {none_yet xs : List ClassParam} {ts : List Token} {start next mid end : Cursor} → none_yet ≡ [] → Moved (is_op operator.OpenRound) ts start next
    → Advanced (row rows.constructor_parameters) (λ c. none_yet ++ built.constructor_parameters_of c) ts next mid xs → Moved (is_op operator.CloseRound) ts mid end → Advanced bracketed bracketed_of ts start end xs
bracketed_from i o p q = record {
  tree = pair (leaf o.taken.token) (pair p.tree (leaf q.taken.token));
  looked = max 0 (max p.looked 0);
  read = read_both (read_one o.taken) (read_both p.read (read_one q.taken));
  builds = p.builds ∙ ap (λ zs. zs ++ built.constructor_parameters_of p.tree) i;
  so_far = omega (arith, o.so_far, p.so_far, q.so_far);
}

-- ---- the word before them

no_word : {ts : List Token} {at : ℕ} → at ≤ length ts → test is_constructor (first (drop at ts)) ≡ false → Read word_part ts at at 0 (right none)
no_word w h = read_second h (read_nothing w)

pub without_word : (ts : List Token) (start : Cursor) → start.at ≤ length ts → test is_constructor (first (drop start.at ts)) ≡ false → (r : Result (List ClassParam × Cursor) (Fail ℕ))
    → Advances bracketed bracketed_of ts start r → Advances written written_of ts start r
without_word ts start w h (Ok k) q = record {
  tree = pair (right none) q.tree;
  looked = max 0 q.looked;
  read = read_both (no_word w h) q.read;
  builds = q.builds;
  so_far = omega (arith, q.so_far);
}
without_word ts start w h (Err e) q = halts_second (no_word w h) (omega arith) q

a_word : {ts : List Token} {start next : Cursor} (o : Moved is_constructor ts start next) → Read word_part ts start.at next.at 0 (left (leaf o.taken.token))
a_word o = read_first (standing o.taken) (read_one o.taken)

pub with_word : {ts : List Token} {start next : Cursor} → Moved is_constructor ts start next → (r : Result (List ClassParam × Cursor) (Fail ℕ)) → Advances bracketed bracketed_of ts next r
    → Advances written written_of ts start r
with_word o (Ok k) q = record {
  tree = pair (left (leaf o.taken.token)) q.tree;
  looked = max 0 q.looked;
  read = read_both (a_word o) q.read;
  builds = q.builds;
  so_far = omega (arith, o.so_far, q.so_far);
}
with_word o (Err e) q = halts_second (a_word o) (omega (arith, o.so_far)) q

-- ---- the whole

written_built : {ts r : List Token} {c : Cst Token} → Reads grammar written ts c r → (let x : Option (List ClassParam) = Some (written_of c) in x) ≡ built.primary_of_class (left c)
written_built (r_both d (r_both (r_one h) (r_both e (r_one i)))) = refl

pub no_constructor : {ts : List Token} {start : Cursor} → start.at ≤ length ts → test begins (first (drop start.at ts)) ≡ false → Advanced rows.primary_constructor built.primary_of_class ts start start None
no_constructor w h = record { tree = right none; looked = 0; read = read_second h (read_nothing w); builds = refl; so_far = omega arith }

pub constructor_from : {ts : List Token} {start end : Cursor} {xs : List ClassParam} → test begins (first (drop start.at ts)) ≡ true → Advanced written written_of ts start end xs
    → Advanced rows.primary_constructor built.primary_of_class ts start end (Some xs)
constructor_from h p = record {
  tree = left p.tree;
  looked = p.looked;
  read = read_first h p.read;
  builds = ap Some p.builds ∙ written_built p.read.reads;
  so_far = p.so_far;
}

pub constructor_halts : {ts : List Token} {start : Cursor} {e : Fail ℕ} → start.at ≤ length ts → test begins (first (drop start.at ts)) ≡ true → Halts written ts start e → Halts rows.primary_constructor ts start e
constructor_halts w h q = halts_left w h q
