-- The steps of the functions that read types behind `as` and `is`.
use Rattle.std.proofs.Common.{◌≡◌, ℕ, zero, suc, ◌+◌, ◌≤◌, max, Bool, true, false, not, List, [], ◌∷◌, ◌++◌, length, length-append, length-drop, drop, Result, Ok, Err, refl, sym, ap, subst, ◌∙◌, arith}
use Rattle.grammars.proofs.Stacks.{all_of}
use Rattle.grammars.specs.Automata.{goes}
use Rattle.grammars.specs.Tables.{is_empty}
use Rattle.grammars.specs.Grammar.{next, Part, nothing, row, both, choose, Cst, none, node, pair, left, right, first, test, d_nothing, d_row, d_right, Productive}
use Rattle.kc_text.specs.declared.errors.Fail.{Fail}
use Rattle.kc_tree.specs.declared.fault.Span.{Span}
use Rattle.kc_tree.specs.declared.types.Word.{Word}
use Rattle.kc_tree.specs.declared.types.«Type».{«Type»}
use Rattle.kc_tree.specs.declared.types.TypeArg.{TypeArg}
use Rattle.kc_tree.specs.declared.types.TypeKind.TheVariants as type_kind
use Rattle.kt_lexer.specs.declared.token.Token.{Token}
use Rattle.kt_lexer.specs.declared.token.Operator.TheVariants as operator
use Rattle.kt_grammar.specs.declared.cursor.Cursor.{Cursor}
use Rattle.kt_grammar.specs.declared.lookahead.Goal.{Goal}
use Rattle.kt_grammar.specs.declared.lookahead.Goal.TheVariants as goal
use Rattle.kt_grammar.specs.declared.lookahead.Mode.{Mode}
use Rattle.kt_grammar.specs.declared.lookahead.Mode.TheVariants as mode
use Rattle.kt_grammar.specs.Behind.{behind}
use Rattle.kt_grammar.specs.Lookahead.{step, at_end, arguments_form}
use Rattle.kt_grammar.specs.Parsed.{Parses, Advanced, Halts, Advances, Read}
use Rattle.kt_grammar.specs.Rows as rows
use Rattle.kt_grammar.specs.Rows.{grammar, question_marks}
use Rattle.kt_grammar.specs.Tokens.{is_op}
use Rattle.kt_grammar.specs.TypesBuilt as built
use Rattle.kt_grammar.specs.TypesBuilt.{first_of}
use Rattle.kt_grammar.proofs.Advances.{behind_near, refused_wider, refused_left, halts_second, halts_on, halts_row, halts_left, halts_right}
use Rattle.kt_grammar.proofs.Completed.{All, Completes, scanned}
use Rattle.kt_grammar.proofs.Extents.{between_is, placed}
use Rattle.kt_grammar.proofs.Progress.{empty, goes_on}
use Rattle.kt_grammar.proofs.Steps.{BegunAt, wider, has_both, read_row, read_both, read_first, read_second, read_left, read_instead, read_nothing}
use Rattle.kt_grammar.proofs.TypeRows.{stretch, named_alike, has_dotted, has_marks}

abbrev pub name_part : Part rows.Row Token
name_part = both (row rows.dotted) (choose arguments_form (row rows.type_arguments) nothing)

abbrev pub core_part : Part rows.Row Token
core_part = choose (next (is_op operator.OpenRound)) (row rows.bracketed_type) name_part

-- ---- what the scan for type arguments has gone over begins some

behind_all : (front back : List Token) → drop (length front) (front ++ back) ≡ back
behind_all [] back = refl
behind_all (t ∷ front) back = behind_all front back

pub back_is : (at n : ℕ) (ts front back : List Token) → drop at ts ≡ front ++ back → n ≡ at + length front → back ≡ drop n ts
back_is zero n ts front back e i = let j : n ≡ length front = omega (arith, i) in rw (j, e) (sym (behind_all front back))
back_is (suc at) zero ts front back e i = absurd (omega (arith, i))
back_is (suc at) (suc n) [] [] [] e i = refl
back_is (suc at) (suc n) [] [] (b ∷ back) e i = absurd (cc)
back_is (suc at) (suc n) [] (f ∷ front) back e i = absurd (cc)
back_is (suc at) (suc n) (t ∷ ts) front back e i = back_is at n ts front back e (omega (arith, i))

pub record Formed (a : Part rows.Row Token) (ts : List Token) (at n : ℕ) : Type 0 where
  pub within : n ≤ length ts
  pub begun : BegunAt a ts at n

-- what a scan from one mode on has gone over begins a part, if what completes it is of that part
pub formed_as : (a : Part rows.Row Token) (g : Goal) (m : Mode) → ((us : List Token) → Completes g [] m us → All (a ∷ []) us) → (ts : List Token) (at n : ℕ) → at ≤ length ts
    → n ≡ at + goes (step g) (at_end g) (drop at ts) (record { frames = []; mode = m }) → Formed a ts at n
formed_as a g m f ts at n w e =
    let k = scanned g (record { frames = []; mode = m }) (drop at ts) in
    let i : n ≡ at + length k.front = e ∙ ap (λ m. at + m) (sym k.size) in
    let b : k.back ≡ drop n ts = back_is at n ts k.front k.back k.split i in
    let d = all_of grammar (f (k.front ++ k.rest) k.completed) in
    record {
      within = omega (arith, w, i, ap length k.split, length-append k.front k.back, length-drop at ts);
      begun = record {
        before = k.front;
        split = k.split ∙ ap (λ m. k.front ++ m) b;
        begins = (k.rest, d.0, d.1);
      };
    }

pub formed : (ts : List Token) (at n : ℕ) → at ≤ length ts → n ≡ at + arguments_form.far (drop at ts) → Formed (row rows.type_arguments) ts at n
formed ts at n w e = formed_as (row rows.type_arguments) goal.Anywhere mode.Operand (λ us k. k) ts at n w e

-- ---- the name of a type, with type arguments where the tokens form some

pub has_no_form : Productive grammar (choose arguments_form (row rows.type_arguments) nothing)
has_no_form = ([], right none, d_right d_nothing)

pub has_operand_type : Productive grammar (row rows.operand_type)
has_operand_type = let k = has_both has_dotted has_no_form in let m = has_both {a = core_part} (k.0, right k.1, d_right k.2) has_marks in (m.0, node m.1, d_row m.2)

at_of : {c d : Cursor} → c ≡ d → c.at ≡ d.at
at_of e = ap (λ k. k.at) e

pub operand_bare : {ts : List Token} {start end : Cursor} {ws : List Word} {gs : List TypeArg} (s : Span) (n : ℕ) (mid : Cursor) → Advanced (row rows.dotted) built.words_of ts start end ws
    → arguments_form.holds (drop end.at ts) ≡ false → n ≡ end.at + arguments_form.far (drop end.at ts) → mid ≡ record { at = end.at; looked = max end.looked n }
    → s ≡ stretch ts start.at mid.at → gs ≡ []
    → Advanced name_part built.named_of ts start mid (record { span = s; kind = type_kind.Named ws gs })
operand_bare {ts = ts} {start = start} {end = end} {ws = ws} {gs = gs} s n mid p h e m f g =
    let k = formed ts end.at n p.read.within e in
    subst (λ (c : Cursor). Advanced name_part built.named_of ts start c (record { span = s; kind = type_kind.Named ws gs })) (sym m) (record {
      tree = pair p.tree (right none);
      looked = max p.looked (max n 0);
      read = read_both p.read (read_instead n h e k.within k.begun (read_nothing p.read.within));
      builds = named_alike (f ∙ ap (λ i. stretch ts start.at i) (at_of m) ∙ between_is (goes_on refl p.read) p.read (goes_on refl p.read) p.read) p.builds g;
      so_far = omega (arith, p.so_far);
    })

pub operand_arguments : {ts : List Token} {start end last : Cursor} {ws : List Word} {gs : List TypeArg} (s : Span) (n : ℕ) (mid : Cursor) → Advanced (row rows.dotted) built.words_of ts start end ws
    → arguments_form.holds (drop end.at ts) ≡ true → n ≡ end.at + arguments_form.far (drop end.at ts) → mid ≡ record { at = end.at; looked = max end.looked n }
    → Advanced (row rows.type_arguments) built.type_arguments_of ts mid last gs → s ≡ stretch ts start.at last.at
    → Advanced name_part built.named_of ts start last (record { span = s; kind = type_kind.Named ws gs })
operand_arguments {ts = ts} {start = start} {end = end} {last = last} {gs = gs} s n mid p h e m q f =
    let k = formed ts end.at n p.read.within e in
    let o = subst (λ (c : Cursor). Advanced (row rows.type_arguments) built.type_arguments_of ts c last gs) m q in
    record {
      tree = pair p.tree (left o.tree);
      looked = max p.looked (max n o.looked);
      read = read_both p.read (read_left h (omega (arith, e)) (wider n k.within k.begun o.read));
      builds = named_alike (f ∙ between_is (goes_on refl p.read) p.read (goes_on refl o.read) o.read) p.builds o.builds;
      so_far = omega (arith, p.so_far, o.so_far);
    }

pub operand_halts : {ts : List Token} {start end : Cursor} {ws : List Word} {x : Fail ℕ} (n : ℕ) (mid : Cursor) → Advanced (row rows.dotted) built.words_of ts start end ws
    → arguments_form.holds (drop end.at ts) ≡ true → n ≡ end.at + arguments_form.far (drop end.at ts) → mid ≡ record { at = end.at; looked = max end.looked n }
    → Halts (row rows.type_arguments) ts mid x → Halts name_part ts start x
operand_halts {ts = ts} {start = start} {end = end} {x = x} n mid p h e m q =
    let k = formed ts end.at n p.read.within e in
    halts_second p.read p.so_far (halts_on {start = end} {mid = record { at = end.at; looked = max end.looked n }} n refl
    (λ place r. refused_left p.read.within h (omega (arith, e)) (refused_wider n p.read.within k.within k.begun r)) (subst (λ (c : Cursor). Halts (row rows.type_arguments) ts c x) m q))

-- ---- a whole type

pub core_bracketed : (n : rows.Row) (b : Part rows.Row Token) (ts : List Token) (start : Cursor) → start.at ≤ length ts → test (is_op operator.OpenRound) (first (drop start.at ts)) ≡ true → (r : Result («Type» × Cursor) (Fail ℕ))
    → Advances (row n) built.in_brackets_of ts start r → Advances (choose (next (is_op operator.OpenRound)) (row n) b) built.core_of ts start r
core_bracketed n b ts start w h (Ok k) q = record { tree = left q.tree; looked = q.looked; read = read_first h q.read; builds = q.builds; so_far = q.so_far }
core_bracketed n b ts start w h (Err e) q = halts_left w h q

pub core_named : (n : rows.Row) (b : Part rows.Row Token) (ts : List Token) (start : Cursor) → start.at ≤ length ts → test (is_op operator.OpenRound) (first (drop start.at ts)) ≡ false → (r : Result («Type» × Cursor) (Fail ℕ))
    → Advances b built.named_of ts start r → Advances (choose (next (is_op operator.OpenRound)) (row n) b) built.core_of ts start r
core_named n b ts start w h (Ok k) q = record { tree = right q.tree; looked = q.looked; read = read_second h q.read; builds = q.builds; so_far = q.so_far }
core_named n b ts start w h (Err e) q = halts_right w h q

-- `?` behind a type
pub marks_from : (n : rows.Row) (core : Part rows.Row Token) → grammar n ≡ both core question_marks → is_empty empty core ≡ false → {ts : List Token} {start mid : Cursor} {x : «Type»} → Advanced core built.core_of ts start mid x
    → (r : Result («Type» × Cursor) (Fail ℕ)) → Advances question_marks (built.nullables (first (drop start.at ts)) x) ts mid r → Advances (row n) built.type_of ts start r
marks_from n core is z {ts = ts} {start = start} {x = x} p (Ok k) q = record {
  tree = node (pair p.tree q.tree);
  looked = max p.looked q.looked;
  read = read_row (subst (λ b. Read b ts start.at k.1.at (max p.looked q.looked) (pair p.tree q.tree)) (sym is) (read_both p.read q.read));
  builds = q.builds ∙ ap (λ o. built.nullables o x q.tree) (sym (placed (goes_on z p.read) p.read).begins) ∙ ap (λ m. built.nullables (first_of p.tree) m q.tree) p.builds;
  so_far = omega (arith, p.so_far, q.so_far);
}
marks_from n core is z {ts = ts} {start = start} p (Err e) q = halts_row (subst (λ b. Halts b ts start e) (sym is) (halts_second p.read p.so_far q))

-- a test that was negated in the code
pub not_held : (b : Bool) → not b ≡ true → b ≡ false
not_held true h = sym h
not_held false h = refl

pub held : (b : Bool) → not b ≡ false → b ≡ true
held true h = refl
held false h = sym h

-- the result of a function with no test beyond the next token, behind a place that was looked at
pub from_near : {X : Type 0} (a : Part rows.Row Token) (build : Cst Token → X) (ts : List Token) (start : Cursor) (r : Result (X × ℕ) (Fail ℕ)) (s : Result (X × Cursor) (Fail ℕ)) → s ≡ behind start.looked r
    → Parses a build ts start.at r → Advances a build ts start s
from_near a build ts start r s e q = subst (λ m. Advances a build ts start m) (sym e) (behind_near a build ts start r q)
