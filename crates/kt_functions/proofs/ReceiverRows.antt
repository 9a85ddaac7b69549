-- The steps of the functions that read names of functions.
use Rattle.std.proofs.Common.{◌≡◌, ℕ, ◌≤◌, max, true, false, List, [], ◌∷◌, length, drop, Option, Some, None, Result, Ok, Err, refl, sym, ap, ◌∙◌, arith}
use Rattle.grammars.specs.Grammar.{one, row, both, Cst, none, leaf, node, pair, left, right, first, test, d_nothing, d_one, d_right, Reads, r_nothing, r_one, r_both, r_left, r_right, Productive}
use Rattle.kc_text.specs.declared.errors.Fail.{Fail}
use Rattle.kc_tree.specs.declared.fault.Span.{Span}
use Rattle.kc_tree.specs.declared.types.Word.{Word}
use Rattle.kc_tree.specs.declared.types.«Type».{«Type»}
use Rattle.kc_tree.specs.declared.types.TypeArg.{TypeArg}
use Rattle.kc_tree.specs.declared.types.TypeKind.TheVariants as type_kind
use Rattle.kt_bodies.specs.Terminals.{NameMoved}
use Rattle.kt_functions.specs.declared.receivers.FunName.{FunName}
use Rattle.kt_functions.specs.declared.sites.Site.{Site}
use Rattle.kt_functions.specs.declared.sites.Site.TheVariants as site
use Rattle.kt_functions.specs.Sites.{site_of}
use Rattle.kt_functions.specs.Receivers as spec
use Rattle.kt_lexer.specs.declared.token.Token.{Token}
use Rattle.kt_lexer.specs.declared.token.Operator.TheVariants as operator
use Rattle.kt_grammar.specs.declared.cursor.Cursor.{Cursor}
use Rattle.kt_grammar.specs.DeclarationsBuilt as built
use Rattle.kt_grammar.specs.Moves.{Moved}
use Rattle.kt_grammar.specs.Parsed.{Parsed, Advanced, Advances}
use Rattle.kt_grammar.specs.Rows as rows
use Rattle.kt_grammar.specs.Rows.{Row, grammar, op, question_marks}
use Rattle.kt_grammar.specs.Signs.{TokenTaken}
use Rattle.kt_grammar.specs.Tokens.{is_op, is_name, is_dot}
use Rattle.kt_grammar.specs.TypesBuilt.{between, nullables, type_arguments_of, type_of}
use Rattle.kt_grammar.proofs.Advances.{halts_row, halts_left, halts_right, halts_second, halts_after}
use Rattle.kt_grammar.proofs.Extents.{placed}
use Rattle.kt_grammar.proofs.Progress.{goes_on}
use Rattle.kt_grammar.proofs.SingleTokens.{op_token}
use Rattle.kt_grammar.proofs.Steps.{has_both, read_one, read_both, read_row, read_first, read_second, read_nothing}
use Rattle.kt_grammar.proofs.TypeRows.{stretch, first_taken, named_alike, has_op, has_name, has_marks, has_type}

-- ---- parts have derivations

pub has_dot : Productive grammar (one is_dot)
has_dot = (op_token operator.Dot ∷ [], leaf (op_token operator.Dot), d_one refl)

pub has_dot_name : Productive grammar spec.dot_name
has_dot_name = has_both has_dot has_name

pub has_behind_arguments : Productive grammar spec.behind_arguments
has_behind_arguments = has_both has_marks has_dot_name

pub has_maybe_receiver : Productive grammar spec.maybe_receiver
has_maybe_receiver = ([], right none, d_right d_nothing)

pub has_dotted : Productive grammar (both (op operator.Dot) (one is_name))
has_dotted = has_both (has_op operator.Dot) has_name

pub has_type_close : Productive grammar (both (row rows.type_) (op operator.CloseRound))
has_type_close = has_both has_type (has_op operator.CloseRound)

-- ---- the name with which a receiver begins

pub bare_type : {ts : List Token} {at : ℕ} {x : «Type»} (t : Option Token) (w : Word) → at ≤ length ts → test (is_op operator.Less) (first (drop at ts)) ≡ false → x ≡ record { span = w.span; kind = type_kind.Named (w ∷ []) [] }
    → Parsed spec.type_arguments (spec.type_with t w) ts at at x
bare_type t w v h e = record { tree = right none; read = read_second h (read_nothing v); builds = e }

pub type_with_arguments : {ts : List Token} {at end : ℕ} {s : Span} {gs : List TypeArg} {x : «Type»} (start : ℕ) (w : Word) → test (is_op operator.Less) (first (drop at ts)) ≡ true
    → Parsed (row rows.type_arguments) type_arguments_of ts at end gs → s ≡ stretch ts start end → x ≡ record { span = s; kind = type_kind.Named (w ∷ []) gs }
    → Parsed spec.type_arguments (spec.type_with (first (drop start ts)) w) ts at end x
type_with_arguments {ts = ts} start w h p f e = record {
  tree = left p.tree;
  read = read_first h p.read;
  builds = e ∙ named_alike (f ∙ ap (λ u. between (first (drop start ts)) u) (sym (placed (goes_on refl p.read) p.read).ends)) refl p.builds;
}

-- ---- the dot

receiver_alike : {y z : «Type»} {w v : Word} → y ≡ z → w ≡ v → (let f : FunName = record { receiver = Some y; name = w } in f) ≡ record { receiver = Some z; name = v }
receiver_alike f g = cc

pub dot_from : {ts : List Token} {start mid end : Cursor} {d : Token} {w : Word} {y : «Type»} (t : Option Token) (x : «Type») → TokenTaken is_dot ts start mid d → y ≡ built.before_dot t x d.kind d.span → NameMoved ts mid end w
    → Advanced spec.dot_name (spec.dot_name_of t x) ts start end (record { receiver = Some y; name = w })
dot_from t x o e n = record {
  tree = pair (leaf o.taken.token) (leaf n.taken.token);
  looked = max 0 0;
  read = read_both (read_one o.taken) (read_one n.taken);
  builds = receiver_alike (e ∙ ap (λ (d : Token). built.before_dot t x d.kind d.span) o.same) n.word;
  so_far = omega (arith, o.so_far, n.so_far);
}

-- ---- behind the name

pub after_marks : {ts : List Token} {start mid : Cursor} {y : «Type»} (t : Option Token) (x : «Type») → Advanced question_marks (nullables t x) ts start mid y → (r : Result (FunName × Cursor) (Fail ℕ))
    → Advances spec.dot_name (spec.dot_name_of t y) ts mid r → Advances spec.behind_arguments (spec.behind_arguments_of t x) ts start r
after_marks t x p (Ok k) q = record {
  tree = pair p.tree q.tree;
  looked = max p.looked q.looked;
  read = read_both p.read q.read;
  builds = q.builds ∙ ap (λ (y : «Type»). spec.dot_name_of t y q.tree) p.builds;
  so_far = omega (arith, p.so_far, q.so_far);
}
after_marks t x p (Err e) q = halts_second p.read p.so_far q

pub after_arguments : {ts : List Token} {start mid : Cursor} {y : «Type»} (t : Option Token) (w : Word) → Advanced spec.type_arguments (spec.type_with t w) ts start mid y → (r : Result (FunName × Cursor) (Fail ℕ))
    → Advances spec.behind_arguments (spec.behind_arguments_of t y) ts mid r → Advances spec.behind_name (spec.behind_name_of t w) ts start r
after_arguments t w p (Ok k) q = record {
  tree = pair p.tree q.tree;
  looked = max p.looked q.looked;
  read = read_both p.read q.read;
  builds = q.builds ∙ ap (λ (y : «Type»). spec.behind_arguments_of t y q.tree) p.builds;
  so_far = omega (arith, p.so_far, q.so_far);
}
after_arguments t w p (Err e) q = halts_second p.read p.so_far q

pub no_receiver : {ts : List Token} {start : Cursor} (t : Option Token) (w : Word) → start.at ≤ length ts → test rows.behind_receiver (first (drop start.at ts)) ≡ false
    → Advanced spec.maybe_receiver (spec.maybe_receiver_of t w) ts start start (record { receiver = None; name = w })
no_receiver t w v h = record { tree = right none; looked = 0; read = read_second h (read_nothing v); builds = refl; so_far = omega arith }

pub a_receiver : (ts : List Token) (start : Cursor) (t : Option Token) (w : Word) → start.at ≤ length ts → test rows.behind_receiver (first (drop start.at ts)) ≡ true → (r : Result (FunName × Cursor) (Fail ℕ))
    → Advances spec.behind_name (spec.behind_name_of t w) ts start r → Advances spec.maybe_receiver (spec.maybe_receiver_of t w) ts start r
a_receiver ts start t w v h (Ok k) q = record { tree = left q.tree; looked = q.looked; read = read_first h q.read; builds = q.builds; so_far = q.so_far }
a_receiver ts start t w v h (Err e) q = halts_left v h q

pub after_name : {ts : List Token} {start mid : Cursor} {w : Word} → NameMoved ts start mid w → (r : Result (FunName × Cursor) (Fail ℕ))
    → Advances spec.maybe_receiver (spec.maybe_receiver_of (first (drop start.at ts)) w) ts mid r → Advances spec.from_name spec.from_name_of ts start r
after_name {w = w} n (Ok k) q = record {
  tree = pair (leaf n.taken.token) q.tree;
  looked = max 0 q.looked;
  read = read_both (read_one n.taken) q.read;
  builds = q.builds ∙ ap (λ t. spec.maybe_receiver_of t w q.tree) (first_taken n.taken) ∙ ap (λ (w : Word). spec.maybe_receiver_of (Some n.taken.token) w q.tree) n.word;
  so_far = omega (arith, n.so_far, q.so_far);
}
after_name n (Err e) q = halts_after n.taken n.so_far q

-- ---- behind brackets

pub bracketed_from : {ts : List Token} {start next mid end : Cursor} {x : «Type»} → Moved (is_op operator.OpenRound) ts start next → Advanced (row rows.type_) type_of ts next mid x → Moved (is_op operator.CloseRound) ts mid end
    → Advanced spec.bracketed spec.bracketed_of ts start end x
bracketed_from o p q = record {
  tree = pair (leaf o.taken.token) (pair p.tree (leaf q.taken.token));
  looked = max 0 (max p.looked 0);
  read = read_both (read_one o.taken) (read_both p.read (read_one q.taken));
  builds = p.builds;
  so_far = omega (arith, o.so_far, p.so_far, q.so_far);
}

pub after_brackets_from : {ts : List Token} {start mid next end : Cursor} {x : «Type»} {w : Word} → Advanced spec.bracketed spec.bracketed_of ts start mid x → Moved (is_op operator.Dot) ts mid next → NameMoved ts next end w
    → Advanced spec.after_brackets spec.after_brackets_of ts start end (record { receiver = Some x; name = w })
after_brackets_from p o n = record {
  tree = pair p.tree (pair (leaf o.taken.token) (leaf n.taken.token));
  looked = max p.looked (max 0 0);
  read = read_both p.read (read_both (read_one o.taken) (read_one n.taken));
  builds = receiver_alike p.builds n.word;
  so_far = omega (arith, p.so_far, o.so_far, n.so_far);
}

-- ---- the whole

brackets_built : {ts r : List Token} {c : Cst Token} → Reads grammar spec.after_brackets ts c r → spec.after_brackets_of c ≡ spec.name_of (node (left c))
brackets_built (r_both (r_both (r_one h) (r_both d (r_one i))) (r_both (r_one j) (r_one k))) = refl

pub top_brackets : (ts : List Token) (start : Cursor) → start.at ≤ length ts → test (is_op operator.OpenRound) (first (drop start.at ts)) ≡ true → (r : Result (FunName × Cursor) (Fail ℕ))
    → Advances spec.after_brackets spec.after_brackets_of ts start r → Advances (row (rows.function_name rows.top_level)) spec.name_of ts start r
top_brackets ts start w h (Ok k) q = record { tree = node (left q.tree); looked = q.looked; read = read_row (read_first h q.read); builds = q.builds ∙ brackets_built q.read.reads; so_far = q.so_far }
top_brackets ts start w h (Err e) q = halts_row (halts_left w h q)

name_built : {ts r : List Token} {c : Cst Token} → Reads grammar spec.from_name ts c r → spec.from_name_of c ≡ spec.name_of (node (right c))
name_built (r_both (r_one h) (r_right k r_nothing)) = refl
name_built (r_both (r_one h) (r_left k (r_both (r_left i d) (r_both e (r_both (r_one j) (r_one l)))))) = refl
name_built (r_both (r_one h) (r_left k (r_both (r_right i r_nothing) (r_both e (r_both (r_one j) (r_one l)))))) = refl

pub top_name : (ts : List Token) (start : Cursor) → start.at ≤ length ts → test (is_op operator.OpenRound) (first (drop start.at ts)) ≡ false → (r : Result (FunName × Cursor) (Fail ℕ))
    → Advances spec.from_name spec.from_name_of ts start r → Advances (row (rows.function_name rows.top_level)) spec.name_of ts start r
top_name ts start w h (Ok k) q = record { tree = node (right q.tree); looked = q.looked; read = read_row (read_second h q.read); builds = q.builds ∙ name_built q.read.reads; so_far = q.so_far }
top_name ts start w h (Err e) q = halts_row (halts_right w h q)

only_alike : {w v : Word} → w ≡ v → (let f : FunName = record { receiver = None; name = w } in f) ≡ record { receiver = None; name = v }
only_alike e = cc

pub only_from : {ts : List Token} {start end : Cursor} {w : Word} → NameMoved ts start end w → Advanced (one is_name) spec.only_name_of ts start end (record { receiver = None; name = w })
only_from n = record { tree = leaf n.taken.token; looked = 0; read = read_one n.taken; builds = only_alike n.word; so_far = omega (arith, n.so_far) }

only_built : {ts r : List Token} {c : Cst Token} → Reads grammar (one is_name) ts c r → spec.only_name_of c ≡ spec.name_of (node c)
only_built (r_one h) = refl

pub in_body : (s : Site) → spec.is_top_level s ≡ false → (ts : List Token) (start : Cursor) (r : Result (FunName × Cursor) (Fail ℕ)) → Advances (one is_name) spec.only_name_of ts start r
    → Advances (row (rows.function_name (site_of s))) spec.name_of ts start r
in_body site.TopLevel e ts start r q = absurd (cc)
in_body site.InClass e ts start (Ok k) q = record { tree = node q.tree; looked = q.looked; read = read_row q.read; builds = q.builds ∙ only_built q.read.reads; so_far = q.so_far }
in_body site.InClass e ts start (Err x) q = halts_row q
in_body site.InInterface e ts start (Ok k) q = record { tree = node q.tree; looked = q.looked; read = read_row q.read; builds = q.builds ∙ only_built q.read.reads; so_far = q.so_far }
in_body site.InInterface e ts start (Err x) q = halts_row q

pub at_top : (s : Site) → spec.is_top_level s ≡ true → (ts : List Token) (start : Cursor) (r : Result (FunName × Cursor) (Fail ℕ)) → Advances (row (rows.function_name rows.top_level)) spec.name_of ts start r
    → Advances (row (rows.function_name (site_of s))) spec.name_of ts start r
at_top site.TopLevel e ts start r q = q
at_top site.InClass e ts start r q = absurd (cc)
at_top site.InInterface e ts start r q = absurd (cc)
