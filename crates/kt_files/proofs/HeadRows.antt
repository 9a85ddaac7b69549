-- The steps of the functions that read the package and the imports of a file.
use Rattle.std.proofs.Common.{◌≡◌, ℕ, ◌≤◌, max, Bool, true, false, List, [], ◌∷◌, ◌++◌, length, drop, Result, Ok, Err, refl, sym, ap, ◌∙◌, arith, append_assoc, append-nil}
use Rattle.grammars.specs.Grammar.{Part, next, row, both, choose, Cst, none, leaf, node, pair, left, right, first, test, d_nothing, d_row, d_right, Reads, r_row, r_both, Productive}
use Rattle.kc_text.specs.declared.errors.Fail.{Fail}
use Rattle.kc_tree.specs.declared.fault.Span.{Span}
use Rattle.kc_tree.specs.declared.types.Word.{Word}
use Rattle.kc_tree.specs.declared.decl.Import.{Import}
use Rattle.kt_bodies.specs.Terminals.{NameMoved}
use Rattle.kt_files.specs.Heads.{a_package, imports, import_of}
use Rattle.kt_lexer.specs.declared.token.Token.{Token}
use Rattle.kt_lexer.specs.declared.token.TokenKind.TheVariants as kind
use Rattle.kt_lexer.specs.declared.token.Keyword.TheVariants as keyword
use Rattle.kt_lexer.specs.declared.token.Operator.TheVariants as operator
use Rattle.kt_grammar.specs.declared.cursor.Cursor.{Cursor}
use Rattle.kt_grammar.specs.DeclarationsBuilt as built
use Rattle.kt_grammar.specs.Moves.{Moved}
use Rattle.kt_grammar.specs.Parsed.{Advanced, Advances}
use Rattle.kt_grammar.specs.Rows as rows
use Rattle.kt_grammar.specs.Rows.{Row, grammar, op, word, maybe}
use Rattle.kt_grammar.specs.Tokens.{is_op, is_word, is_import}
use Rattle.kt_grammar.specs.TypesBuilt as types_built
use Rattle.kt_grammar.specs.TypesBuilt.{no_span, span_of, word_of}
use Rattle.kt_grammar.proofs.Advances.{halts_row, halts_left, halts_right, halts_after, turn_on, turns_end}
use Rattle.kt_grammar.proofs.Extents.{between_is}
use Rattle.kt_grammar.proofs.Progress.{goes_on}
use Rattle.kt_grammar.proofs.Steps.{has_both, standing, read_one, read_both, read_row, read_first, read_second, read_nothing}
use Rattle.kt_grammar.proofs.TypeRows.{stretch, has_name}

-- ---- the package

pub no_package : {ts : List Token} {start : Cursor} {ws : List Word} → start.at ≤ length ts → test (is_word keyword.Package) (first (drop start.at ts)) ≡ false → ws ≡ [] → Advanced a_package built.package_of ts start start ws
no_package w h e = record { tree = right none; looked = 0; read = read_second h (read_nothing w); builds = e; so_far = omega arith }

pub package_from : {ts : List Token} {start mid : Cursor} → start.at ≤ length ts → Moved (is_word keyword.Package) ts start mid → (r : Result (List Word × Cursor) (Fail ℕ))
    → Advances (row rows.dotted) types_built.words_of ts mid r → Advances a_package built.package_of ts start r
package_from w o (Ok k) q = record {
  tree = left (pair (leaf o.taken.token) q.tree);
  looked = max 0 q.looked;
  read = read_first (standing o.taken) (read_both (read_one o.taken) q.read);
  builds = q.builds;
  so_far = omega (arith, o.so_far, q.so_far);
}
package_from w o (Err e) q = halts_left w (standing o.taken) (halts_after o.taken o.so_far q)

-- ---- paths

-- behind words that are read already
abbrev pub path_behind : List Word × Bool → Cst Token → List Word × Bool
path_behind p c = (p.0 ++ built.path_of c, built.is_star c)

abbrev behind_dot : Part Row Token
behind_dot = choose (next (is_op operator.TimesBehindDot)) (op operator.TimesBehindDot) (row rows.import_path)

abbrev behind_name : Part Row Token
behind_name = maybe (is_op operator.Dot) (both (op operator.Dot) behind_dot)

pub has_behind_name : Productive grammar behind_name
has_behind_name = ([], right none, d_right d_nothing)

pub has_path : Productive grammar (row rows.import_path)
has_path = let k = has_both has_name has_behind_name in (k.0, node k.1, d_row k.2)

path_alike : (b : Bool) {ws vs : List Word} → ws ≡ vs → (let p : List Word × Bool = (ws, b) in p) ≡ (vs, b)
path_alike b e = cc

word_alike : (ws : List Word) {w v : Word} → w ≡ v → ws ++ w ∷ [] ≡ ws ++ v ∷ []
word_alike ws e = ap (λ (u : Word). ws ++ u ∷ []) e

pub path_last : (ws vs : List Word) {ts : List Token} {start end : Cursor} {w : Word} → NameMoved ts start end w → vs ≡ ws ++ w ∷ [] → test (is_op operator.Dot) (first (drop end.at ts)) ≡ false
    → Advanced (row rows.import_path) (path_behind (ws, false)) ts start end (vs, false)
path_last ws vs n e h = record {
  tree = node (pair (leaf n.taken.token) (right none));
  looked = max 0 0;
  read = read_row (read_both (read_one n.taken) (read_second h (read_nothing n.taken.within)));
  builds = path_alike false (e ∙ word_alike ws n.word);
  so_far = omega (arith, n.so_far);
}

pub path_star : (ws vs : List Word) {ts : List Token} {start mid next end : Cursor} {w : Word} → NameMoved ts start mid w → vs ≡ ws ++ w ∷ [] → Moved (is_op operator.Dot) ts mid next → Moved (is_op operator.TimesBehindDot) ts next end
    → Advanced (row rows.import_path) (path_behind (ws, false)) ts start end (vs, true)
path_star ws vs n e o s = record {
  tree = node (pair (leaf n.taken.token) (left (pair (leaf o.taken.token) (left (leaf s.taken.token)))));
  looked = max 0 (max 0 0);
  read = read_row (read_both (read_one n.taken) (read_first (standing o.taken) (read_both (read_one o.taken) (read_first (standing s.taken) (read_one s.taken)))));
  builds = path_alike true (e ∙ word_alike ws n.word);
  so_far = omega (arith, n.so_far, o.so_far, s.so_far);
}

pub path_more : (ws vs : List Word) {ts : List Token} {start mid next : Cursor} {w : Word} → NameMoved ts start mid w → vs ≡ ws ++ w ∷ [] → Moved (is_op operator.Dot) ts mid next → test (is_op operator.TimesBehindDot) (first (drop next.at ts)) ≡ false
    → (r : Result ((List Word × Bool) × Cursor) (Fail ℕ)) → Advances (row rows.import_path) (path_behind (vs, false)) ts next r → Advances (row rows.import_path) (path_behind (ws, false)) ts start r
path_more ws vs n e o h (Ok k) q = record {
  tree = node (pair (leaf n.taken.token) (left (pair (leaf o.taken.token) (right q.tree))));
  looked = max 0 (max 0 q.looked);
  read = read_row (read_both (read_one n.taken) (read_first (standing o.taken) (read_both (read_one o.taken) (read_second h q.read))));
  builds = q.builds ∙ path_alike (built.is_star q.tree) (ap (λ (us : List Word). us ++ built.path_of q.tree) (e ∙ word_alike ws n.word) ∙ append_assoc ws (word_of n.taken.token ∷ []) (built.path_of q.tree));
  so_far = omega (arith, n.so_far, o.so_far, q.so_far);
}
path_more ws vs n e o h (Err x) q =
    halts_row (halts_after n.taken n.so_far (halts_left n.taken.within (standing o.taken) (halts_after o.taken o.so_far (halts_right o.taken.within h q))))

pub path_from_none : {none_yet : List Word} (ts : List Token) (start : Cursor) → none_yet ≡ [] → (r : Result ((List Word × Bool) × Cursor) (Fail ℕ)) → Advances (row rows.import_path) (λ c. (none_yet ++ built.path_of c, built.is_star c)) ts start r
    → Advances (row rows.import_path) (λ c. (built.path_of c, built.is_star c)) ts start r
path_from_none ts start e (Ok k) q = record { tree = q.tree; looked = q.looked; read = q.read; builds = q.builds ∙ path_alike (built.is_star q.tree) (ap (λ (us : List Word). us ++ built.path_of q.tree) e); so_far = q.so_far }
path_from_none ts start e (Err x) q = q

-- ---- imports

abbrev pub import_token : Token
import_token = record { kind = kind.Name 7; span = no_span; marked = false }

abbrev an_import : Span → List Word × Bool → Import
an_import s p = record { span = s; path = p.0; star = p.1 }

import_alike : {s u : Span} {p q : List Word × Bool} → s ≡ u → p ≡ q → an_import s p ≡ an_import u q
import_alike {s = s} {u = u} {p = p} {q = q} f g = ap (λ (m : Span). an_import m p) f ∙ ap (λ (m : List Word × Bool). an_import u m) g

pub import_from : (xs ys : List Import) {ts : List Token} {start next end : Cursor} {p : List Word × Bool} {s : Span} → Moved is_import ts start next → Advanced (row rows.import_path) (λ c. (built.path_of c, built.is_star c)) ts next end p
    → s ≡ stretch ts start.at end.at → ys ≡ xs ++ record { span = s; path = p.0; star = p.1 } ∷ [] → Advanced (row rows.import_) (λ c. xs ++ import_of c) ts start end ys
import_from xs ys o p f g =
    let whole = read_both (read_one o.taken) p.read in
    record {
      tree = node (pair (leaf o.taken.token) p.tree);
      looked = max 0 p.looked;
      read = read_row whole;
      builds = g ∙ ap (λ (m : Import). xs ++ m ∷ []) (import_alike (f ∙ between_is (goes_on refl whole) whole (goes_on refl whole) whole) p.builds);
      so_far = omega (arith, o.so_far, p.so_far);
    }

imports_built : {ts r : List Token} {x : Cst Token} (d : Cst Token) → Reads grammar (row rows.import_) ts x r → built.imports_of (pair x d) ≡ import_of x ++ built.imports_of d
imports_built d (r_row (r_both m p)) = refl

pub imports_turn : (xs ys : List Import) {ts : List Token} {start mid : Cursor} → test is_import (first (drop start.at ts)) ≡ true → Advanced (row rows.import_) (λ c. xs ++ import_of c) ts start mid ys
    → (r : Result (List Import × Cursor) (Fail ℕ)) → Advances imports (λ c. ys ++ built.imports_of c) ts mid r → Advances imports (λ c. xs ++ built.imports_of c) ts start r
imports_turn xs ys {start = start} {mid = mid} h p = turn_on is_import (row rows.import_) (λ zs c. zs ++ built.imports_of c) start mid xs ys
    (λ d. ap (λ (zs : List Import). xs ++ zs) (imports_built d p.read.reads) ∙ sym (append_assoc xs (import_of p.tree) (built.imports_of d)) ∙ ap (λ (zs : List Import). zs ++ built.imports_of d) (sym p.builds))
    h p.read p.so_far

pub imports_end : (xs : List Import) {ts : List Token} {start : Cursor} → start.at ≤ length ts → test is_import (first (drop start.at ts)) ≡ false → Advanced imports (λ c. xs ++ built.imports_of c) ts start start xs
imports_end xs w h = turns_end is_import (row rows.import_) (λ zs c. zs ++ built.imports_of c) xs (λ zs. append-nil zs) w h
