-- The steps of the functions that read `when` and its subject.
use Rattle.std.proofs.Common.{◌≡◌, ◌≤◌, max, false, List, [], ◌∷◌, length, drop, Option, Some, None, refl, sym, ap, subst, ◌∙◌, arith}
use Rattle.grammars.specs.Grammar.{Test, Part, row, both, many, Cst, none, leaf, node, pair, left, right, first, test, Derives, d_nothing, d_one, d_row, d_both, d_left, d_right, d_done, Reads, r_nothing, r_one, r_row, r_both, r_left, r_right, Productive}
use Rattle.kc_tree.specs.declared.fault.Span.{Span}
use Rattle.kc_tree.specs.declared.types.Word.{Word}
use Rattle.kc_tree.specs.declared.types.«Type».{«Type»}
use Rattle.kc_tree.specs.declared.expr.Branch.{Branch}
use Rattle.kc_tree.specs.declared.expr.Expr.{Expr}
use Rattle.kc_tree.specs.declared.expr.LocalName.{LocalName}
use Rattle.kt_bodies.specs.Terminals.{NameMoved}
use Rattle.kt_lexer.specs.declared.token.Token.{Token}
use Rattle.kt_lexer.specs.declared.token.Keyword.TheVariants as keyword
use Rattle.kt_lexer.specs.declared.token.Operator.TheVariants as operator
use Rattle.kt_grammar.specs.declared.cursor.Cursor.{Cursor}
use Rattle.kt_grammar.specs.Built as built
use Rattle.kt_grammar.specs.Moves.{Moved}
use Rattle.kt_grammar.specs.Parsed.{Advanced}
use Rattle.kt_grammar.specs.Rows as rows
use Rattle.kt_grammar.specs.Rows.{Row, grammar, op}
use Rattle.kt_grammar.specs.Tokens.{is_op, is_word}
use Rattle.kt_grammar.specs.TypesBuilt.{span_of}
use Rattle.kt_grammar.proofs.Extents.{between_is}
use Rattle.kt_grammar.proofs.Progress.{goes_on}
use Rattle.kt_grammar.proofs.SingleTokens.{a_name}
use Rattle.kt_grammar.proofs.Steps.{standing, has_both, read_one, read_both, read_row, read_first, read_second, read_nothing}
use Rattle.kt_grammar.proofs.TypeRows.{stretch, has_op}
use Rattle.kt_when.specs.declared.subjects.Subject.{Subject}
use Rattle.kt_when.specs.Subjects.{typed_name, variable, variable_of, bound, in_brackets, in_brackets_of, subject, subject_of, in_braces, in_braces_of, when_at}

-- ---- parts have derivations

pub has_no_type : Productive grammar rows.colon_type
has_no_type = ([], right none, d_right d_nothing)

pub has_branches : Productive grammar (row rows.branches)
has_branches = ([], node (right none), d_row (d_right d_nothing))

pub has_branches_close : Productive grammar (both (row rows.branches) (op operator.CloseBrace))
has_branches_close = has_both has_branches (has_op operator.CloseBrace)

pub has_in_braces : Productive grammar in_braces
has_in_braces = has_both (has_op operator.OpenBrace) has_branches_close

pub has_subject : Productive grammar subject
has_subject = ([], right none, d_right d_nothing)

pub has_subject_branches : Productive grammar (both subject in_braces)
has_subject_branches = has_both has_subject has_in_braces

-- the same value
pub built_as : {X : Type 0} {a : Part Row Token} {build : Cst Token → X} {ts : List Token} {start end : Cursor} {x y : X} → Advanced a build ts start end x → y ≡ x → Advanced a build ts start end y
built_as p i = record { tree = p.tree; looked = p.looked; read = p.read; builds = i ∙ p.builds; so_far = p.so_far }

-- ---- the variable

name_alike : {w v : Word} {x y : Option «Type»} → w ≡ v → x ≡ y → (let n : LocalName = record { name = w; ty = x } in n) ≡ record { name = v; ty = y }
name_alike f g = cc

pub name_from : {ts : List Token} {start mid end : Cursor} {w : Word} {x : Option «Type»} → NameMoved ts start mid w → Advanced rows.colon_type built.written_type ts mid end x
    → Advanced (row rows.typed_name) typed_name ts start end (record { name = w; ty = x })
name_from o p = record {
  tree = node (pair (leaf o.taken.token) p.tree);
  looked = max 0 p.looked;
  read = read_row (read_both (read_one o.taken) p.read);
  builds = name_alike o.word p.builds;
  so_far = omega (arith, o.so_far, p.so_far);
}

pub variable_from : {ts : List Token} {start mid end : Cursor} {x : LocalName} → Advanced (row rows.typed_name) typed_name ts start mid x → Moved (is_op operator.Assign) ts mid end → Advanced variable variable_of ts start end x
variable_from p o = record { tree = pair p.tree (leaf o.taken.token); looked = max p.looked 0; read = read_both p.read (read_one o.taken); builds = p.builds; so_far = omega (arith, p.so_far, o.so_far) }

pub not_bound : {ts : List Token} {start : Cursor} → start.at ≤ length ts → test (is_word keyword.Val) (first (drop start.at ts)) ≡ false → Advanced bound built.bound_of ts start start None
not_bound w h = record { tree = right none; looked = 0; read = read_second h (read_nothing w); builds = refl; so_far = omega arith }

variable_built : {us r : List Token} {c : Cst Token} (t : Cst Token) → Reads grammar variable us c r → Some (variable_of c) ≡ built.bound_of (left (pair t c))
variable_built t (r_both (r_row (r_both (r_one h) d)) (r_one k)) = refl

pub bound_from : {ts : List Token} {start mid end : Cursor} {x : LocalName} → Moved (is_word keyword.Val) ts start mid → Advanced variable variable_of ts mid end x → Advanced bound built.bound_of ts start end (Some x)
bound_from o p = record {
  tree = left (pair (leaf o.taken.token) p.tree);
  looked = max 0 p.looked;
  read = read_first (standing o.taken) (read_both (read_one o.taken) p.read);
  builds = ap Some p.builds ∙ variable_built (leaf o.taken.token) p.read.reads;
  so_far = omega (arith, o.so_far, p.so_far);
}

-- ---- the subject

subject_alike : {b c : Option LocalName} {x y : Expr} → b ≡ c → x ≡ y → (let j : Subject = record { bound = b; value = Some x } in j) ≡ record { bound = c; value = Some y }
subject_alike f g = cc

pub brackets_from : {ts : List Token} {start mid end : Cursor} {b : Option LocalName} {x : Expr} → Advanced bound built.bound_of ts start mid b → Advanced (row rows.expression) built.expression_of ts mid end x
    → Advanced in_brackets in_brackets_of ts start end (record { bound = b; value = Some x })
brackets_from p q = record { tree = pair p.tree q.tree; looked = max p.looked q.looked; read = read_both p.read q.read; builds = subject_alike p.builds q.builds; so_far = omega (arith, p.so_far, q.so_far) }

pub no_subject_from : {ts : List Token} {start : Cursor} → start.at ≤ length ts → test (is_op operator.OpenRound) (first (drop start.at ts)) ≡ false
    → Advanced subject subject_of ts start start (record { bound = None; value = None })
no_subject_from w h = record { tree = right none; looked = 0; read = read_second h (read_nothing w); builds = refl; so_far = omega arith }

pub subject_from : {ts : List Token} {start next mid end : Cursor} {j : Subject} → Moved (is_op operator.OpenRound) ts start next → Advanced in_brackets in_brackets_of ts next mid j → Moved (is_op operator.CloseRound) ts mid end
    → Advanced subject subject_of ts start end j
subject_from o p q = record {
  tree = left (pair (leaf o.taken.token) (pair p.tree (leaf q.taken.token)));
  looked = max 0 (max p.looked 0);
  read = read_first (standing o.taken) (read_both (read_one o.taken) (read_both p.read (read_one q.taken)));
  builds = p.builds;
  so_far = omega (arith, o.so_far, p.so_far, q.so_far);
}

-- ---- the branches

pub braces_from : {ts : List Token} {start next mid end : Cursor} {xs : List Branch} → Moved (is_op operator.OpenBrace) ts start next → Advanced (row rows.branches) built.branches_of ts next mid xs → Moved (is_op operator.CloseBrace) ts mid end
    → Advanced in_braces in_braces_of ts start end xs
braces_from o p q = record {
  tree = pair (leaf o.taken.token) (pair p.tree (leaf q.taken.token));
  looked = max 0 (max p.looked 0);
  read = read_both (read_one o.taken) (read_both p.read (read_one q.taken));
  builds = p.builds;
  so_far = omega (arith, o.so_far, p.so_far, q.so_far);
}

-- ---- the whole

when_built : (t : Token) {us r vs q : List Token} {c d : Cst Token} → Reads grammar subject us c r → Reads grammar in_braces vs d q
    → when_at (span_of (node (pair (leaf t) (pair c d)))) (subject_of c) (in_braces_of d) ≡ built.when_of (node (pair (leaf t) (pair c d)))
when_built t (r_left h (r_both (r_one a) (r_both (r_both b x) (r_one z)))) (r_both (r_one o) (r_both y (r_one k))) = refl
when_built t (r_right h r_nothing) (r_both (r_one o) (r_both y (r_one k))) = refl

when_alike : {s u : Span} {i j : Subject} {xs ys : List Branch} → s ≡ u → i ≡ j → xs ≡ ys → when_at s i xs ≡ when_at u j ys
when_alike {s = s} {u = u} {i = i} {j = j} {xs = xs} f g h = ap (λ (m : Span). when_at m i xs) f ∙ ap (λ (m : Subject). when_at u m xs) g ∙ ap (λ (m : List Branch). when_at u j m) h

pub when_from : (s : Span) {ts : List Token} {start next mid end : Cursor} {j : Subject} {xs : List Branch} {y : Expr} → Moved (is_word keyword.When) ts start next → Advanced subject subject_of ts next mid j
    → Advanced in_braces in_braces_of ts mid end xs → s ≡ stretch ts start.at end.at → y ≡ when_at s j xs → Advanced (row rows.when_) built.when_of ts start end y
when_from s o p q f g =
    let whole = read_row {n = rows.when_} (read_both (read_one o.taken) (read_both p.read q.read)) in
    record {
      tree = node (pair (leaf o.taken.token) (pair p.tree q.tree));
      looked = max 0 (max p.looked q.looked);
      read = whole;
      builds = g ∙ when_alike (f ∙ between_is (goes_on refl whole) whole (goes_on refl whole) whole) p.builds q.builds ∙ when_built o.taken.token p.read.reads q.read.reads;
      so_far = omega (arith, o.so_far, p.so_far, q.so_far);
    }
