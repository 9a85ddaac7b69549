-- The steps of the functions that read bodies of classes.
use Rattle.std.proofs.Common.{◌≡◌, ℕ, ◌≤◌, max, false, List, [], length, drop, Result, Ok, Err, refl, ap, ◌∙◌, arith}
use Rattle.grammars.specs.Grammar.{row, Cst, none, leaf, node, pair, left, right, first, test, d_nothing, d_row, d_right, Reads, r_nothing, r_one, r_row, r_both, r_left, r_right, Productive}
use Rattle.kc_text.specs.declared.errors.Fail.{Fail}
use Rattle.kc_tree.specs.declared.decl.Constant.{Constant}
use Rattle.kc_tree.specs.declared.decl.Member.{Member}
use Rattle.kt_classes.specs.declared.nodes.BodyParts.{BodyParts}
use Rattle.kt_classes.specs.Bodies as spec
use Rattle.kt_members.specs.Members.{members_in}
use Rattle.kt_classes.proofs.Parts.{joined}
use Rattle.kt_lexer.specs.declared.token.Token.{Token}
use Rattle.kt_lexer.specs.declared.token.Operator.TheVariants as operator
use Rattle.kt_grammar.specs.declared.cursor.Cursor.{Cursor}
use Rattle.kt_grammar.specs.DeclarationsBuilt as built
use Rattle.kt_grammar.specs.Moves.{Moved}
use Rattle.kt_grammar.specs.Parsed.{Advanced, Advances}
use Rattle.kt_grammar.specs.Rows as rows
use Rattle.kt_grammar.specs.Rows.{Row, grammar, op}
use Rattle.kt_grammar.specs.Tokens.{is_op}
use Rattle.kt_grammar.proofs.Advances.{halts_left, halts_after}
use Rattle.kt_grammar.proofs.Steps.{has_both, standing, read_one, read_both, read_row, read_first, read_second, read_nothing}
use Rattle.kt_grammar.proofs.TypeRows.{has_op}

-- ---- parts have derivations

pub has_behind_constants : Productive grammar spec.behind_constants
has_behind_constants = ([], right none, d_right d_nothing)

pub has_to_brace : Productive grammar spec.to_brace
has_to_brace = has_both has_behind_constants (has_op operator.CloseBrace)

pub has_from_constants : Productive grammar spec.from_constants
has_from_constants = has_both {a = row rows.constants} ([], node (right none), d_row (d_right d_nothing)) has_to_brace

-- ---- constants, and what stands behind them

pub no_semicolon : {xs : List Member} {ts : List Token} {start : Cursor} → xs ≡ [] → start.at ≤ length ts → test (is_op operator.Semicolon) (first (drop start.at ts)) ≡ false
    → Advanced spec.behind_constants spec.behind_constants_of ts start start xs
no_semicolon e w h = record { tree = right none; looked = 0; read = read_second h (read_nothing w); builds = e; so_far = omega arith }

pub semicolon_from : {ts : List Token} {start mid : Cursor} → start.at ≤ length ts → Moved (is_op operator.Semicolon) ts start mid → (r : Result (List Member × Cursor) (Fail ℕ))
    → Advances (row (rows.members rows.in_class)) built.members_of ts mid r → Advances spec.behind_constants spec.behind_constants_of ts start r
semicolon_from w o (Ok k) q = record {
  tree = left (pair (leaf o.taken.token) q.tree);
  looked = max 0 q.looked;
  read = read_first (standing o.taken) (read_both (read_one o.taken) q.read);
  builds = q.builds;
  so_far = omega (arith, o.so_far, q.so_far);
}
semicolon_from w o (Err e) q = halts_left w (standing o.taken) (halts_after o.taken o.so_far q)

pub closed_by : {ts : List Token} {start mid end : Cursor} {xs : List Member} → Advanced spec.behind_constants spec.behind_constants_of ts start mid xs → Moved (is_op operator.CloseBrace) ts mid end
    → Advanced spec.to_brace spec.before_brace ts start end xs
closed_by p o = record { tree = pair p.tree (leaf o.taken.token); looked = max p.looked 0; read = read_both p.read (read_one o.taken); builds = p.builds; so_far = omega (arith, p.so_far, o.so_far) }

pub constants_from : {ts : List Token} {start mid end : Cursor} {xs : List Constant} {ys : List Member} → Advanced (row rows.constants) built.constants_of ts start mid xs → Advanced spec.to_brace spec.before_brace ts mid end ys
    → Advanced spec.from_constants spec.from_constants_of ts start end (record { constants = xs; members = ys })
constants_from p q = joined (row rows.constants) spec.to_brace built.constants_of spec.before_brace spec.body_with spec.from_constants_of (λ c d. refl) p q

enum_built : {ts r : List Token} {c : Cst Token} (t : Token) → Reads grammar spec.from_constants ts c r → spec.from_constants_of c ≡ spec.body_in (node (pair (leaf t) c))
enum_built t (r_both d (r_both (r_left h (r_both k l)) (r_one m))) = refl
enum_built t (r_both d (r_both (r_right h r_nothing) (r_one m))) = refl

pub enum_from : {ts : List Token} {start mid end : Cursor} {b : BodyParts} → Moved (is_op operator.OpenBrace) ts start mid → Advanced spec.from_constants spec.from_constants_of ts mid end b
    → Advanced (row rows.enum_body) spec.body_in ts start end b
enum_from o p = record {
  tree = node (pair (leaf o.taken.token) p.tree);
  looked = max 0 p.looked;
  read = read_row {n = rows.enum_body} (read_both (read_one o.taken) p.read);
  builds = p.builds ∙ enum_built o.taken.token p.read.reads;
  so_far = omega (arith, o.so_far, p.so_far);
}

-- ---- other bodies

plain_built : (site : rows.Site) {ts r : List Token} {c : Cst Token} → Reads grammar (row (rows.class_body site)) ts c r → spec.body_with [] (members_in c) ≡ spec.body_in c
plain_built site (r_row (r_both (r_one h) (r_both d (r_one i)))) = refl

pub plain_from : (site : rows.Site) {ts : List Token} {start end : Cursor} {xs : List Member} {b : BodyParts} → Advanced (row (rows.class_body site)) members_in ts start end xs → b ≡ spec.body_with [] xs
    → Advanced (row (rows.class_body site)) spec.body_in ts start end b
plain_from site p e = record { tree = p.tree; looked = p.looked; read = p.read; builds = e ∙ ap (λ (ys : List Member). spec.body_with [] ys) p.builds ∙ plain_built site p.read.reads; so_far = p.so_far }

pub no_body : (n : Row) {xs : List Member} {b : BodyParts} {ts : List Token} {start : Cursor} → xs ≡ [] → b ≡ spec.body_with [] xs → start.at ≤ length ts → test (is_op operator.OpenBrace) (first (drop start.at ts)) ≡ false
    → Advanced (rows.a_body n) spec.body_parts ts start start b
no_body n i e w h = record { tree = right none; looked = 0; read = read_second h (read_nothing w); builds = e ∙ ap (λ (ys : List Member). spec.body_with [] ys) i; so_far = omega arith }
