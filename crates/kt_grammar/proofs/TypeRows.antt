-- The steps of the functions that read types.
use Rattle.std.proofs.Common.{◌≡◌, ℕ, ◌-◌, ◌<◌, ◌≤◌, ◌==◌, nat_lt, Bool, true, false, List, [], ◌∷◌, ◌++◌, length, length-append, drop, Result, Ok, Err, Option, Some, refl, sym, ap, ◌∙◌, arith, append_assoc, append-nil, true≢false}
use Rattle.std.proofs.lemmas.Bool.{eqb-true}
use Rattle.grammars.specs.Grammar.{Test, next, Part, nothing, one, row, both, choose, Cst, none, leaf, node, pair, left, right, first, test, d_nothing, d_one, d_row, d_left, d_right, d_done, Reads, r_nothing, r_one, r_row, r_both, r_right, r_done, Productive}
use Rattle.grammars.specs.Tests.{count_if}
use Rattle.grammars.proofs.Refusals.{stuck_left, stuck_right, stuck_second}
use Rattle.kc_text.specs.declared.errors.Fail.{Fail}
use Rattle.kc_tree.specs.declared.fault.Span.{Span}
use Rattle.kc_tree.specs.declared.types.Word.{Word}
use Rattle.kc_tree.specs.declared.types.«Type».{«Type»}
use Rattle.kc_tree.specs.declared.types.TypeArg.{TypeArg}
use Rattle.kc_tree.specs.declared.types.TypeArgKind.{TypeArgKind}
use Rattle.kc_tree.specs.declared.types.TypeArgKind.TheVariants as argument_kind
use Rattle.kc_tree.specs.declared.types.TypeKind.TheVariants as type_kind
use Rattle.kt_lexer.specs.declared.token.Token.{Token}
use Rattle.kt_lexer.specs.declared.token.Keyword.TheVariants as keyword
use Rattle.kt_lexer.specs.declared.token.Operator.{Operator}
use Rattle.kt_lexer.specs.declared.token.Operator.TheVariants as operator
use Rattle.kt_grammar.specs.Lookahead.{out_type}
use Rattle.kt_grammar.specs.Parsed.{Parsed, Fails, found, no_memory, Parses, Taken, NameTaken, OutTaken}
use Rattle.kt_grammar.specs.Rows as rows
use Rattle.kt_grammar.specs.Rows.{Row, grammar, op, dotted_names, question_marks, to_type, behind_first_type}
use Rattle.kt_grammar.specs.Tokens.{is_op, is_word, is_name, is_out, class_of, begins_type, begins_type_argument}
use Rattle.kt_grammar.specs.TypesBuilt as built
use Rattle.kt_grammar.specs.TypesBuilt.{between, first_of, last_of, word_of}
use Rattle.kt_grammar.proofs.SingleTokens.{a_name, op_token, is_itself}
use Rattle.kt_grammar.proofs.Steps.{standing, settled_near, behind_stuck, read_one, read_both, read_row, read_left, read_right, read_first, read_second, read_nothing, read_done, has_both, fails_row, fails_left, fails_right, fails_second, fails_after, turn}
use Rattle.kt_grammar.proofs.Extents.{between_is, placed}
use Rattle.kt_grammar.proofs.Progress.{goes_on}

abbrev pub next_is_arrow : Test Token
next_is_arrow = next (is_op operator.Arrow)

abbrev pub core_part : Part Row Token
core_part = choose (next (is_op operator.OpenRound)) (row rows.bracketed_type) (both (row rows.dotted) (choose (next (is_op operator.Less)) (row rows.type_arguments) nothing))

-- ---- parts have derivations

pub has_op : (k : Operator) → Productive grammar (op k)
has_op k = (op_token k ∷ [], leaf (op_token k), d_one (is_itself k))

pub has_dotted_names : Productive grammar dotted_names
has_dotted_names = ([], none, d_done)

pub has_name : Productive grammar (one is_name)
has_name = (a_name ∷ [], leaf a_name, d_one refl)

pub has_dotted : Productive grammar (row rows.dotted)
has_dotted = let k = has_both has_name has_dotted_names in (k.0, node k.1, d_row k.2)

pub has_no_arguments : Productive grammar (choose (next (is_op operator.Less)) (row rows.type_arguments) nothing)
has_no_arguments = ([], right none, d_right d_nothing)

pub has_marks : Productive grammar question_marks
has_marks = ([], none, d_done)

pub has_type : Productive grammar (row rows.type_)
has_type = let k = has_both has_dotted has_no_arguments in let m = has_both {a = core_part} (k.0, right k.1, d_right k.2) has_marks in (m.0, node m.1, d_row m.2)

pub has_to_type : Productive grammar (to_type rows.type_)
has_to_type = has_both (has_op operator.Arrow) has_type

pub has_close_to_type : Productive grammar (both (op operator.CloseRound) (to_type rows.type_))
has_close_to_type = has_both (has_op operator.CloseRound) has_to_type

pub has_no_result : Productive grammar (choose (next (is_op operator.Arrow)) (to_type rows.type_) nothing)
has_no_result = ([], right none, d_right d_nothing)

pub has_behind_first : Productive grammar (behind_first_type (next (is_op operator.Arrow)) rows.type_)
has_behind_first = let k = has_both (has_op operator.CloseRound) has_no_result in (k.0, right k.1, d_right k.2)

pub has_in_brackets : Productive grammar (choose (next (is_op operator.CloseRound)) (both (op operator.CloseRound) (to_type rows.type_)) (both (row rows.type_) (behind_first_type (next (is_op operator.Arrow)) rows.type_)))
has_in_brackets = let k = has_close_to_type in (k.0, left k.1, d_left k.2)

pub has_comma_types : Productive grammar (choose (next (is_op operator.Comma)) (both (op operator.Comma) (row rows.types)) nothing)
has_comma_types = ([], right none, d_right d_nothing)

pub has_more : Productive grammar (row rows.more_type_arguments)
has_more = ([], node (right none), d_row (d_right d_nothing))

pub has_greater : Productive grammar (op operator.Greater)
has_greater = has_op operator.Greater

pub has_more_end : Productive grammar (both (row rows.more_type_arguments) (op operator.Greater))
has_more_end = has_both has_more has_greater

pub has_argument : Productive grammar (row rows.type_argument)
has_argument = (op_token operator.Times ∷ [], node (left (leaf (op_token operator.Times))), d_row (d_left (d_one refl)))

pub has_arguments_end : Productive grammar (both (row rows.type_argument) (both (row rows.more_type_arguments) (op operator.Greater)))
has_arguments_end = has_both has_argument has_more_end

-- ---- names

words_alike : {w v : Word} {ws vs : List Word} → w ≡ v → ws ≡ vs → w ∷ ws ≡ v ∷ vs
words_alike p q = cc

pub dotted_from : {ts : List Token} {at mid : ℕ} {w : Word} → NameTaken ts at mid w → (r : Result (List Word × ℕ) (Fail ℕ))
    → Parses dotted_names (λ x. w ∷ built.words_behind x) ts mid r → Parses (row rows.dotted) built.words_of ts at r
dotted_from k (Ok p) q = record {
  tree = node (pair (leaf k.taken.token) q.tree);
  read = read_row (read_both (read_one k.taken) q.read);
  builds = q.builds ∙ words_alike k.word refl;
}
dotted_from k (Err e) q = fails_row (fails_after k.taken q)

pub word_turn : {ts : List Token} {at mid end : ℕ} {w : Word} (ws vs : List Word) → Taken (is_op operator.Dot) ts at mid → NameTaken ts mid end w → vs ≡ ws ++ w ∷ []
    → (r : Result (List Word × ℕ) (Fail ℕ)) → Parses dotted_names (λ x. vs ++ built.words_behind x) ts end r → Parses dotted_names (λ x. ws ++ built.words_behind x) ts at r
word_turn {w = w} ws vs o k e = turn (is_op operator.Dot) (both (op operator.Dot) (one is_name)) (λ us x. us ++ built.words_behind x) ws vs
    (λ d. ap (λ v. ws ++ v ∷ built.words_behind d) (sym k.word) ∙ sym (append_assoc ws (w ∷ []) (built.words_behind d)) ∙ ap (λ us. us ++ built.words_behind d) (sym e))
    (standing o) (read_both (read_one o) (read_one k.taken))

pub words_end : {ts : List Token} {at : ℕ} (ws : List Word) → at ≤ length ts → test (is_op operator.Dot) (first (drop at ts)) ≡ false
    → Parsed dotted_names (λ x. ws ++ built.words_behind x) ts at at ws
words_end ws w h = record { tree = none; read = read_done w h; builds = sym (append-nil ws) }

-- ---- `?`

last_taken : {f : Token → Bool} {ts : List Token} {at end : ℕ} (o : Taken f ts at end) → first (drop (end - 1) ts) ≡ Some o.token
last_taken {ts = ts} {at = at} {end = end} o = let n : end - 1 ≡ at = omega (arith, o.next) in ap (λ m. first (drop m ts)) n ∙ ap first o.here

nullable_alike : (t : Option Token) (o : Option Token) {q : Token} {s : Span} (x : «Type») {y : «Type»} → o ≡ Some q → s ≡ between t o → y ≡ record { span = s; kind = type_kind.Nullable x } → built.nullable t q x ≡ y
nullable_alike t o {q = q} {s = s} x {y = y} e f g =
    let i : s ≡ between t (Some q) = f ∙ ap (λ m. between t m) e in
    ap (λ m. record { span = m; kind = type_kind.Nullable x }) (sym i) ∙ sym g

pub mark_turn : {ts : List Token} {at end : ℕ} (t : Option Token) (x y : «Type») {s : Span} → Taken (is_op operator.Question) ts at end → s ≡ between t (first (drop (end - 1) ts))
    → y ≡ record { span = s; kind = type_kind.Nullable x }
    → (r : Result («Type» × ℕ) (Fail ℕ)) → Parses question_marks (built.nullables t y) ts end r → Parses question_marks (built.nullables t x) ts at r
mark_turn t x y o e f = turn (is_op operator.Question) (op operator.Question) (built.nullables t) x y
    (λ d. ap (λ m. built.nullables t m d) (nullable_alike t _ x (last_taken o) e f)) (standing o) (read_one o)

pub marks_end : {ts : List Token} {at : ℕ} (t : Option Token) (x : «Type») → at ≤ length ts → test (is_op operator.Question) (first (drop at ts)) ≡ false
    → Parsed question_marks (built.nullables t x) ts at at x
marks_end t x w h = record { tree = none; read = read_done w h; builds = refl }

-- ---- places

pub first_taken : {f : Token → Bool} {ts : List Token} {at end : ℕ} (o : Taken f ts at end) → first (drop at ts) ≡ Some o.token
first_taken o = ap first o.here

abbrev pub stretch : List Token → ℕ → ℕ → Span
stretch ts at end = between (first (drop at ts)) (first (drop (end - 1) ts))

-- ---- types

pub type_from : {ts : List Token} {at mid : ℕ} {x : «Type»} → Parsed core_part built.core_of ts at mid x → (r : Result («Type» × ℕ) (Fail ℕ))
    → Parses question_marks (built.nullables (first (drop at ts)) x) ts mid r → Parses (row rows.type_) built.type_of ts at r
type_from {ts = ts} {at = at} {x = x} p (Ok k) q = record {
  tree = node (pair p.tree q.tree);
  read = read_row (read_both p.read q.read);
  builds = q.builds ∙ ap (λ o. built.nullables o x q.tree) (sym (placed (goes_on refl p.read) p.read).begins) ∙ ap (λ m. built.nullables (first_of p.tree) m q.tree) p.builds;
}
type_from p (Err e) q = fails_row (fails_second p.read q)

pub core_bracketed : (ts : List Token) (at : ℕ) → test (is_op operator.OpenRound) (first (drop at ts)) ≡ true → (r : Result («Type» × ℕ) (Fail ℕ))
    → Parses (row rows.bracketed_type) built.in_brackets_of ts at r → Parses core_part built.core_of ts at r
core_bracketed ts at h (Ok k) q = record { tree = left q.tree; read = read_first h q.read; builds = q.builds }
core_bracketed ts at h (Err e) q = fails_left h q

pub core_named : (ts : List Token) (at : ℕ) → test (is_op operator.OpenRound) (first (drop at ts)) ≡ false → (r : Result («Type» × ℕ) (Fail ℕ))
    → Parses (both (row rows.dotted) (choose (next (is_op operator.Less)) (row rows.type_arguments) nothing)) built.named_of ts at r → Parses core_part built.core_of ts at r
core_named ts at h (Ok k) q = record { tree = right q.tree; read = read_second h q.read; builds = q.builds }
core_named ts at h (Err e) q = fails_right h q

pub named_alike : {s s' : Span} {ws ws' : List Word} {gs gs' : List TypeArg} → s ≡ s' → ws ≡ ws' → gs ≡ gs'
    → (let t : «Type» = record { span = s; kind = type_kind.Named ws gs } in t) ≡ record { span = s'; kind = type_kind.Named ws' gs' }
named_alike p q r = cc

pub fun_alike : {s s' : Span} {ps ps' : List «Type»} {x x' : «Type»} → s ≡ s' → ps ≡ ps' → x ≡ x'
    → (let t : «Type» = record { span = s; kind = type_kind.Fun ps x } in t) ≡ record { span = s'; kind = type_kind.Fun ps' x' }
fun_alike p q r = cc

pub bare_type : {ts : List Token} {at end : ℕ} {ws : List Word} {gs : List TypeArg} (s : Span) → Parsed (row rows.dotted) built.words_of ts at end ws → test (is_op operator.Less) (first (drop end ts)) ≡ false
    → s ≡ stretch ts at end → gs ≡ []
    → Parsed (both (row rows.dotted) (choose (next (is_op operator.Less)) (row rows.type_arguments) nothing)) built.named_of ts at end (record { span = s; kind = type_kind.Named ws gs })
bare_type s p h e f = record {
  tree = pair p.tree (right none);
  read = read_both p.read (read_second h (read_nothing p.read.within));
  builds = named_alike (e ∙ between_is (goes_on refl p.read) p.read (goes_on refl p.read) p.read) p.builds f;
}

pub type_with_arguments : {ts : List Token} {at mid end : ℕ} {ws : List Word} {gs : List TypeArg} (s : Span) → Parsed (row rows.dotted) built.words_of ts at mid ws → test (is_op operator.Less) (first (drop mid ts)) ≡ true
    → Parsed (row rows.type_arguments) built.type_arguments_of ts mid end gs → s ≡ stretch ts at end
    → Parsed (both (row rows.dotted) (choose (next (is_op operator.Less)) (row rows.type_arguments) nothing)) built.named_of ts at end (record { span = s; kind = type_kind.Named ws gs })
type_with_arguments s p h q e = record {
  tree = pair p.tree (left q.tree);
  read = read_both p.read (read_first h q.read);
  builds = named_alike (e ∙ between_is (goes_on refl p.read) p.read (goes_on refl q.read) q.read) p.builds q.builds;
}

-- ---- types in brackets

pub empty_function : {ts : List Token} {at mid end : ℕ} {s : Span} {ps : List «Type»} {x y : «Type»} → Taken (is_op operator.OpenRound) ts at mid → test (is_op operator.CloseRound) (first (drop mid ts)) ≡ true
    → Parsed (both (op operator.CloseRound) (to_type rows.type_)) built.result_of ts mid end x → s ≡ stretch ts at end → ps ≡ []
    → y ≡ record { span = s; kind = type_kind.Fun ps x } → Parsed (row rows.bracketed_type) built.in_brackets_of ts at end y
empty_function o h q e f g = record {
  tree = node (pair (leaf o.token) (left q.tree));
  read = read_row (read_both (read_one o) (read_first h q.read));
  builds = g ∙ fun_alike (e ∙ between_is (goes_on refl (read_one o)) (read_one o) (goes_on refl q.read) q.read) f q.builds;
}

pub bracketed_from : {ts : List Token} {at next mid : ℕ} {x : «Type»} → Taken (is_op operator.OpenRound) ts at next → test (is_op operator.CloseRound) (first (drop next ts)) ≡ false
    → Parsed (row rows.type_) built.type_of ts next mid x → (r : Result («Type» × ℕ) (Fail ℕ))
    → Parses (behind_first_type next_is_arrow rows.type_) (built.behind_first_of (first (drop at ts)) x) ts mid r → Parses (row rows.bracketed_type) built.in_brackets_of ts at r
bracketed_from {x = x} o h p (Ok k) q = record {
  tree = node (pair (leaf o.token) (right (pair p.tree q.tree)));
  read = read_row (read_both (read_one o) (read_second h (read_both p.read q.read)));
  builds = q.builds ∙ ap (λ t. built.behind_first_of t x q.tree) (first_taken o) ∙ ap (λ m. built.behind_first_of (Some o.token) m q.tree) p.builds;
}
bracketed_from o h p (Err e) q = fails_row (fails_after o (fails_right h (fails_second p.read q)))

types_alike : {x : «Type»} {xs ys : List «Type»} → xs ≡ ys → x ∷ xs ≡ x ∷ ys
types_alike e = cc

pub many_parameters : (start : ℕ) {ts : List Token} {at next mid end : ℕ} {s : Span} {head x y : «Type»} {ps : List «Type»} → Taken (is_op operator.Comma) ts at next
    → Parsed (row rows.types) (λ c. head ∷ built.types_of c) ts next mid ps → Parsed (both (op operator.CloseRound) (to_type rows.type_)) built.result_of ts mid end x → s ≡ stretch ts start end
    → y ≡ record { span = s; kind = type_kind.Fun ps x } → Parsed (behind_first_type next_is_arrow rows.type_) (built.behind_first_of (first (drop start ts)) head) ts at end y
many_parameters start {ts = ts} o p q e g = record {
  tree = left (pair (leaf o.token) (pair p.tree q.tree));
  read = read_first (standing o) (read_both (read_one o) (read_both p.read q.read));
  builds = g ∙ fun_alike (e ∙ ap (λ m. between (first (drop start ts)) m) (sym (placed (goes_on refl q.read) q.read).ends)) p.builds q.builds;
}

pub one_type : (start : ℕ) {ts : List Token} {at end : ℕ} {head : «Type»} → test (is_op operator.Comma) (first (drop at ts)) ≡ false → Taken (is_op operator.CloseRound) ts at end
    → test (is_op operator.Arrow) (first (drop end ts)) ≡ false → Parsed (behind_first_type next_is_arrow rows.type_) (built.behind_first_of (first (drop start ts)) head) ts at end head
one_type start h o k = record {
  tree = right (pair (leaf o.token) (right none));
  read = read_second h (read_both (read_one o) (read_second k (read_nothing o.within)));
  builds = refl;
}

pub one_parameter : (start : ℕ) {ts : List Token} {at mid next end : ℕ} {s : Span} {head x y : «Type»} {ps : List «Type»} → test (is_op operator.Comma) (first (drop at ts)) ≡ false → Taken (is_op operator.CloseRound) ts at mid
    → Taken (is_op operator.Arrow) ts mid next → Parsed (row rows.type_) built.type_of ts next end x → s ≡ stretch ts start end → ps ≡ head ∷ []
    → y ≡ record { span = s; kind = type_kind.Fun ps x } → Parsed (behind_first_type next_is_arrow rows.type_) (built.behind_first_of (first (drop start ts)) head) ts at end y
one_parameter start {ts = ts} h o a q e f g = record {
  tree = right (pair (leaf o.token) (left (pair (leaf a.token) q.tree)));
  read = read_second h (read_both (read_one o) (read_first (standing a) (read_both (read_one a) q.read)));
  builds = g ∙ fun_alike (e ∙ ap (λ m. between (first (drop start ts)) m) (sym (placed (goes_on refl q.read) q.read).ends)) f q.builds;
}

pub result_from : {ts : List Token} {at mid next : ℕ} → Taken (is_op operator.CloseRound) ts at mid → Taken (is_op operator.Arrow) ts mid next → (r : Result («Type» × ℕ) (Fail ℕ))
    → Parses (row rows.type_) built.type_of ts next r → Parses (both (op operator.CloseRound) (to_type rows.type_)) built.result_of ts at r
result_from o a (Ok k) q = record { tree = pair (leaf o.token) (pair (leaf a.token) q.tree); read = read_both (read_one o) (read_both (read_one a) q.read); builds = q.builds }
result_from o a (Err e) q = fails_after o (fails_after a q)

-- ---- lists of types

grown : {A : Type 0} (xs ys more : List A) {x y : A} → y ≡ x → ys ≡ xs ++ y ∷ [] → ys ++ more ≡ xs ++ x ∷ more
grown xs ys more {x = x} {y = y} e f = ap (λ m. m ++ more) f ∙ append_assoc xs (y ∷ []) more ∙ ap (λ m. xs ++ m ∷ more) e

pub type_turn : {ts : List Token} {at mid end : ℕ} {x : «Type»} (xs ys : List «Type») → test begins_type (first (drop at ts)) ≡ true → Parsed (row rows.type_) built.type_of ts at mid x
    → Taken (is_op operator.Comma) ts mid end → ys ≡ xs ++ x ∷ [] → (r : Result (List «Type» × ℕ) (Fail ℕ))
    → Parses (row rows.types) (λ c. ys ++ built.types_of c) ts end r → Parses (row rows.types) (λ c. xs ++ built.types_of c) ts at r
type_turn xs ys h p o e (Ok k) q = record {
  tree = node (left (pair p.tree (left (pair (leaf o.token) q.tree))));
  read = read_row (read_first h (read_both p.read (read_first (standing o) (read_both (read_one o) q.read))));
  builds = q.builds ∙ grown xs ys (built.types_of q.tree) p.builds e;
}
type_turn xs ys h p o e (Err f) q = fails_row (fails_left h (fails_second p.read (fails_left (standing o) (fails_after o q))))

pub last_type : {ts : List Token} {at end : ℕ} {x : «Type»} (xs ys : List «Type») → test begins_type (first (drop at ts)) ≡ true → Parsed (row rows.type_) built.type_of ts at end x
    → test (is_op operator.Comma) (first (drop end ts)) ≡ false → ys ≡ xs ++ x ∷ [] → Parsed (row rows.types) (λ c. xs ++ built.types_of c) ts at end ys
last_type xs ys h p k e = record {
  tree = node (left (pair p.tree (right none)));
  read = read_row (read_first h (read_both p.read (read_second k (read_nothing p.read.within))));
  builds = e ∙ ap (λ m. xs ++ m ∷ []) p.builds;
}

pub types_end : {ts : List Token} {at : ℕ} (xs : List «Type») → at ≤ length ts → test begins_type (first (drop at ts)) ≡ false → Parsed (row rows.types) (λ c. xs ++ built.types_of c) ts at at xs
types_end xs w h = record { tree = node (right none); read = read_row (read_second h (read_nothing w)); builds = sym (append-nil xs) }

pub argument_turn : {ts : List Token} {at mid end : ℕ} {x : TypeArg} (xs ys : List TypeArg) → Taken (is_op operator.Comma) ts at mid → test begins_type_argument (first (drop mid ts)) ≡ true
    → Parsed (row rows.type_argument) built.type_argument_of ts mid end x → ys ≡ xs ++ x ∷ [] → (r : Result (List TypeArg × ℕ) (Fail ℕ))
    → Parses (row rows.more_type_arguments) (λ c. ys ++ built.more_type_arguments_of c) ts end r → Parses (row rows.more_type_arguments) (λ c. xs ++ built.more_type_arguments_of c) ts at r
argument_turn xs ys o h p e (Ok k) q = record {
  tree = node (left (pair (leaf o.token) (left (pair p.tree q.tree))));
  read = read_row (read_first (standing o) (read_both (read_one o) (read_first h (read_both p.read q.read))));
  builds = q.builds ∙ grown xs ys (built.more_type_arguments_of q.tree) p.builds e;
}
argument_turn xs ys o h p e (Err f) q = fails_row (fails_left (standing o) (fails_after o (fails_left h (fails_second p.read q))))

pub last_comma : {ts : List Token} {at end : ℕ} (xs : List TypeArg) → Taken (is_op operator.Comma) ts at end → test begins_type_argument (first (drop end ts)) ≡ false
    → Parsed (row rows.more_type_arguments) (λ c. xs ++ built.more_type_arguments_of c) ts at end xs
last_comma xs o h = record {
  tree = node (left (pair (leaf o.token) (right none)));
  read = read_row (read_first (standing o) (read_both (read_one o) (read_second h (read_nothing o.within))));
  builds = sym (append-nil xs);
}

pub arguments_end : {ts : List Token} {at : ℕ} (xs : List TypeArg) → at ≤ length ts → test (is_op operator.Comma) (first (drop at ts)) ≡ false
    → Parsed (row rows.more_type_arguments) (λ c. xs ++ built.more_type_arguments_of c) ts at at xs
arguments_end xs w h = record { tree = node (right none); read = read_row (read_second h (read_nothing w)); builds = sym (append-nil xs) }

arguments_alike : {x y : TypeArg} {xs : List TypeArg} (f : Cst Token → List TypeArg) (c : Cst Token) → x ≡ y → xs ≡ x ∷ f c → xs ≡ y ∷ f c
arguments_alike f c e g = g ∙ ap (λ m. m ∷ f c) e

pub all_arguments : {ts : List Token} {at a b c end : ℕ} {x : TypeArg} {xs : List TypeArg} → Taken (is_op operator.Less) ts at a → Parsed (row rows.type_argument) built.type_argument_of ts a b x
    → Parsed (row rows.more_type_arguments) (λ t. x ∷ built.more_type_arguments_of t) ts b c xs → Taken (is_op operator.Greater) ts c end → Parsed (row rows.type_arguments) built.type_arguments_of ts at end xs
all_arguments o p q g = record {
  tree = node (pair (leaf o.token) (pair p.tree (pair q.tree (leaf g.token))));
  read = read_row (read_both (read_one o) (read_both p.read (read_both q.read (read_one g))));
  builds = arguments_alike built.more_type_arguments_of q.tree p.builds q.builds;
}

-- ---- one type argument

argument_alike : {s s' : Span} {k k' : TypeArgKind} → s ≡ s' → k ≡ k' → (let a : TypeArg = record { span = s; kind = k } in a) ≡ record { span = s'; kind = k' }
argument_alike p q = cc

pub star : {ts : List Token} {at end : ℕ} (s : Span) → Taken (is_op operator.Times) ts at end → s ≡ stretch ts at end
    → Parsed (row rows.type_argument) built.type_argument_of ts at end (record { span = s; kind = argument_kind.Star })
star s o e = record {
  tree = node (left (leaf o.token));
  read = read_row (read_first (standing o) (read_one o));
  builds = argument_alike (e ∙ between_is (goes_on refl (read_one o)) (read_one o) (goes_on refl (read_one o)) (read_one o)) refl;
}

pub in_argument : {ts : List Token} {at mid end : ℕ} {x : «Type»} (s : Span) → test (is_op operator.Times) (first (drop at ts)) ≡ false → Taken (is_word keyword.In) ts at mid → Parsed (row rows.type_) built.type_of ts mid end x
    → s ≡ stretch ts at end → Parsed (row rows.type_argument) built.type_argument_of ts at end (record { span = s; kind = argument_kind.In x })
in_argument s h o p e = record {
  tree = node (right (left (pair (leaf o.token) p.tree)));
  read = read_row (read_second h (read_first (standing o) (read_both (read_one o) p.read)));
  builds = argument_alike (e ∙ between_is (goes_on refl (read_one o)) (read_one o) (goes_on refl p.read) p.read) (ap argument_kind.In p.builds);
}

count_one : (b : Bool) → count_if b 0 ≤ 1
count_one true = omega arith
count_one false = omega arith

out_far : (ts : List Token) → out_type.far ts ≤ 1
out_far [] = omega arith
out_far (t ∷ ts) = count_one (is_out t)

pub out_argument : {ts : List Token} {at mid end : ℕ} {x : «Type»} (s : Span) → test (is_op operator.Times) (first (drop at ts)) ≡ false → test (is_word keyword.In) (first (drop at ts)) ≡ false → OutTaken ts at mid
    → Parsed (row rows.type_) built.type_of ts mid end x → s ≡ stretch ts at end → Parsed (row rows.type_argument) built.type_argument_of ts at end (record { span = s; kind = argument_kind.Out x })
out_argument {ts = ts} {at = at} s h k o p e =
    let q = read_both (read_one o.taken) p.read in record {
      tree = node (right (right (left (pair (leaf o.taken.token) p.tree))));
      read = read_row (read_second h (read_second k (read_left o.holds (omega (arith, out_far (drop at ts), goes_on refl q)) q)));
      builds = argument_alike (e ∙ between_is (goes_on refl (read_one o.taken)) (read_one o.taken) (goes_on refl p.read) p.read) (ap argument_kind.Out p.builds);
    }

pub exact_argument : {ts : List Token} {at end : ℕ} {x : «Type»} (s : Span) → test (is_op operator.Times) (first (drop at ts)) ≡ false → test (is_word keyword.In) (first (drop at ts)) ≡ false → out_type.holds (drop at ts) ≡ false
    → Parsed (row rows.type_) built.type_of ts at end x → s ≡ stretch ts at end → Parsed (row rows.type_argument) built.type_argument_of ts at end (record { span = s; kind = argument_kind.Exact x })
exact_argument {ts = ts} {at = at} s h k o p e = record {
  tree = node (right (right (right p.tree)));
  read = read_row (read_second h (read_second k (read_right o (omega (arith, out_far (drop at ts), goes_on refl p.read)) p.read)));
  builds = argument_alike (e ∙ between_is (goes_on refl p.read) p.read (goes_on refl p.read) p.read) (ap argument_kind.Exact p.builds);
}

pub fails_out : {ts : List Token} {at mid : ℕ} {e : Fail ℕ} → OutTaken ts at mid → Fails (row rows.type_) ts mid e → Fails (choose out_type (both (one is_out) (row rows.type_)) (row rows.type_)) ts at e
fails_out {ts = ts} {at = at} {mid = mid} o (found {place = place} k) =
    let p = read_one o.taken in
    let s = stuck_second grammar p.reads k.stuck (settled_near place p (behind_stuck k.stuck)) in
    found (record {
      stuck = stuck_left grammar o.holds s (omega (arith, out_far (drop at ts), ap length s.split, length-append s.before (drop place ts), behind_stuck k.stuck, ap length o.taken.here));
      within = k.within;
    })
fails_out o no_memory = no_memory

name_not_open : (n : ℕ) → nat_lt 83 n ≡ true → (n == 37) ≡ false
name_not_open n h = grind arith

not_open : (t : Token) → is_name t ≡ true → is_op operator.OpenRound t ≡ false
not_open t h = name_not_open (class_of t.kind) h

a_name_is_read : (t : Token) → is_name t ≡ true → Reads grammar (row rows.type_) (t ∷ []) (node (pair (right (pair (node (pair (leaf t) none)) (right none))) none)) []
a_name_is_read t h = r_row (r_both (r_right (not_open t h) (r_both (r_row (r_both (r_one h) (r_done refl))) (r_right refl r_nothing))) (r_done refl))

-- a type is not refused at a name
behind_name : (ts rest before : List Token) → ts ≡ before ++ rest → ((s r : List Token) (x : Cst Token) → first s ≡ first rest → Reads grammar (row rows.type_) (before ++ s) x r → ⊥)
    → test is_name (first ts) ≡ true → 0 < length before
behind_name [] rest [] e stop h = absurd (true≢false (sym h))
behind_name (t ∷ ts) rest [] e stop h = absurd (stop (t ∷ []) [] _ (ap first e) (a_name_is_read t h))
behind_name ts rest (b ∷ before) e stop h = omega arith

pub out_is_name : (n : ℕ) → (n == 86) ≡ true → nat_lt 83 n ≡ true
out_is_name n h = rw (eqb-true n 86 h) refl

far_at : (b : Bool) (n : ℕ) → (b ≡ true → 0 < n) → count_if b 0 ≤ n
far_at true n h = omega (arith, h refl)
far_at false n h = omega arith

far_covered : (ts : List Token) (n : ℕ) → (test is_name (first ts) ≡ true → 0 < n) → out_type.far ts ≤ n
far_covered [] n h = omega arith
far_covered (t ∷ ts) n h = far_at (is_out t) n (λ e. h (out_is_name (class_of t.kind) e))

pub fails_no_out : {ts : List Token} {at : ℕ} {e : Fail ℕ} → out_type.holds (drop at ts) ≡ false → Fails (row rows.type_) ts at e → Fails (choose out_type (both (one is_out) (row rows.type_)) (row rows.type_)) ts at e
fails_no_out {ts = ts} {at = at} h (found {place = place} k) = found (record {
  stuck = stuck_right grammar h k.stuck (far_covered (drop at ts) (length k.stuck.before) (λ n. behind_name (drop at ts) (drop place ts) k.stuck.before k.stuck.split k.stuck.no_more n));
  within = k.within;
})
fails_no_out h no_memory = no_memory
