-- The steps of the functions that read properties.
use Rattle.std.proofs.Common.{◌≡◌, ℕ, ◌≤◌, max, Bool, true, false, List, [], length, drop, Result, Ok, Err, Option, Some, None, refl, sym, ap, ◌∙◌, arith}
use Rattle.grammars.specs.Grammar.{Part, next, nothing, one, row, both, choose, Cst, none, leaf, node, pair, left, right, first, test, d_nothing, d_row, d_left, d_right, Reads, r_nothing, r_one, r_row, r_both, r_left, r_right, Productive}
use Rattle.kc_text.specs.declared.errors.Fail.{Fail}
use Rattle.kc_tree.specs.declared.decl.Prop.{Prop}
use Rattle.kc_tree.specs.declared.expr.Expr.{Expr}
use Rattle.kc_tree.specs.declared.types.Word.{Word}
use Rattle.kc_tree.specs.declared.types.«Type».{«Type»}
use Rattle.kt_bodies.specs.Terminals.{NameMoved}
use Rattle.kt_lexer.specs.declared.token.Token.{Token}
use Rattle.kt_lexer.specs.declared.token.Keyword.{Keyword}
use Rattle.kt_lexer.specs.declared.token.Keyword.TheVariants as keyword
use Rattle.kt_lexer.specs.declared.token.Operator.TheVariants as operator
use Rattle.kt_members.specs.declared.getters.AccessorPair.{AccessorPair}
use Rattle.kt_members.specs.Getters.{accessors_of}
use Rattle.kt_members.specs.Properties as spec
use Rattle.kt_members.proofs.Choices.{BuiltAlike, taken_left, taken_right, of_row}
use Rattle.kt_members.proofs.TokenRows.{has_value}
use Rattle.kt_grammar.specs.declared.cursor.Cursor.{Cursor}
use Rattle.kt_grammar.specs.Built as expressions
use Rattle.kt_grammar.specs.DeclarationsBuilt as built
use Rattle.kt_grammar.specs.Moves.{Moved}
use Rattle.kt_grammar.specs.Parsed.{Advanced, Halts, Advances}
use Rattle.kt_grammar.specs.Rows as rows
use Rattle.kt_grammar.specs.Rows.{Row, grammar, op, value, colon_type}
use Rattle.kt_grammar.specs.Tokens.{is_op, is_word, is_get, is_name}
use Rattle.kt_grammar.proofs.Advances.{halts_second, halts_after}
use Rattle.kt_grammar.proofs.NameRows.{has_no_type}
use Rattle.kt_grammar.proofs.Steps.{has_both, read_one, read_both, read_second, read_nothing}
use Rattle.kt_grammar.proofs.TypeRows.{has_name}

-- ---- parts have derivations

pub has_property_value : (var abstract : Bool) (site : rows.Site) → Productive grammar (rows.property_value var abstract site)
has_property_value var true site = ([], none, d_nothing)
has_property_value var false rows.top_level = let k = has_value in (k.0, left k.1, d_left k.2)
has_property_value var false rows.in_class = ([], right none, d_right d_nothing)
has_property_value var false rows.in_interface = ([], right none, d_right d_nothing)

pub has_behind_name : (var abstract : Bool) (site : rows.Site) → Productive grammar (both colon_type (rows.property_value var abstract site))
has_behind_name var abstract site = has_both has_no_type (has_property_value var abstract site)

pub has_behind_word : (var abstract : Bool) (site : rows.Site) → Productive grammar (both (one is_name) (both colon_type (rows.property_value var abstract site)))
has_behind_word var abstract site = has_both has_name (has_behind_name var abstract site)

-- ---- what stands behind the type

module _ (var : Bool) (n : Word) (ty : Option «Type») where
  abbrev whole : Cst Token → Prop
  whole = built.property_with var n ty

  pub valued_from : {ts : List Token} {start mid end : Cursor} {x : Expr} {y : Prop} → Moved (is_op operator.Assign) ts start mid → Advanced (row rows.expression) expressions.expression_of ts mid end x
      → y ≡ spec.with_value var n ty x → Advanced value (λ c. built.property_with var n ty (left c)) ts start end y
  valued_from o p g = record {
    tree = pair (leaf o.taken.token) p.tree;
    looked = max 0 p.looked;
    read = read_both (read_one o.taken) p.read;
    builds = g ∙ ap (λ (x : Expr). spec.with_value var n ty x) p.builds;
    so_far = omega (arith, o.so_far, p.so_far);
  }

  accessors_held : BuiltAlike (row (rows.accessors var)) (λ c. spec.with_accessors var n ty (accessors_of c)) whole
  accessors_held us rest _ (r_row (r_both d (r_left h (r_both e f)))) = refl
  accessors_held us rest _ (r_row (r_both d (r_right h (r_both (r_both (r_one i) e) f)))) = refl

  pub accessed_from : {ts : List Token} {start end : Cursor} {a : AccessorPair} {y : Prop} → Advanced (row (rows.accessors var)) accessors_of ts start end a → y ≡ spec.with_accessors var n ty a
      → Advanced (row (rows.accessors var)) (built.property_with var n ty) ts start end y
  accessed_from p g = record {
    tree = p.tree;
    looked = p.looked;
    read = p.read;
    builds = g ∙ ap (λ (a : AccessorPair). spec.with_accessors var n ty a) p.builds ∙ accessors_held _ _ p.tree p.read.reads;
    so_far = p.so_far;
  }

  instead : BuiltAlike (row (rows.accessors var)) whole (λ c. built.property_with var n ty (right c))
  instead us rest _ (r_row d) = refl

  in_class : BuiltAlike (rows.value_or_accessors var) whole (λ c. built.property_with var n ty (left c))
  in_class us rest _ (r_left h (r_both (r_one i) d)) = refl
  in_class us rest _ (r_right h (r_row d)) = refl

  in_interface : BuiltAlike (row (rows.accessors var)) whole (λ c. built.property_with var n ty (left c))
  in_interface us rest _ (r_row d) = refl

  pub chosen_value : (ts : List Token) (start : Cursor) → start.at ≤ length ts → test (is_op operator.Assign) (first (drop start.at ts)) ≡ true → (r : Result (Prop × Cursor) (Fail ℕ))
      → Advances value (λ c. built.property_with var n ty (left c)) ts start r → Advances (rows.value_or_accessors var) (built.property_with var n ty) ts start r
  chosen_value ts start w h r p = taken_left (is_op operator.Assign) value (row (rows.accessors var)) (λ c. built.property_with var n ty (left c)) whole (λ us rest c d. refl) ts start w h r p

  pub chosen_accessors : (ts : List Token) (start : Cursor) → start.at ≤ length ts → test (is_op operator.Assign) (first (drop start.at ts)) ≡ false → (r : Result (Prop × Cursor) (Fail ℕ))
      → Advances (row (rows.accessors var)) (built.property_with var n ty) ts start r → Advances (rows.value_or_accessors var) (built.property_with var n ty) ts start r
  chosen_accessors ts start w h r p = taken_right (is_op operator.Assign) value (row (rows.accessors var)) whole whole instead ts start w h r p

  pub class_some : (ts : List Token) (start : Cursor) → start.at ≤ length ts → test spec.begins_value (first (drop start.at ts)) ≡ true → (r : Result (Prop × Cursor) (Fail ℕ))
      → Advances (rows.value_or_accessors var) (built.property_with var n ty) ts start r → Advances (rows.property_value var false rows.in_class) (built.property_with var n ty) ts start r
  class_some ts start w h r p = taken_left spec.begins_value (rows.value_or_accessors var) nothing whole whole in_class ts start w h r p

  pub interface_some : (ts : List Token) (start : Cursor) → start.at ≤ length ts → test is_get (first (drop start.at ts)) ≡ true → (r : Result (Prop × Cursor) (Fail ℕ))
      → Advances (row (rows.accessors var)) (built.property_with var n ty) ts start r → Advances (rows.property_value var false rows.in_interface) (built.property_with var n ty) ts start r
  interface_some ts start w h r p = taken_left is_get (row (rows.accessors var)) nothing whole whole in_interface ts start w h r p

  pub class_none : {ts : List Token} {start : Cursor} {y : Prop} → start.at ≤ length ts → test spec.begins_value (first (drop start.at ts)) ≡ false → y ≡ spec.bare var n ty
      → Advanced (rows.property_value var false rows.in_class) (built.property_with var n ty) ts start start y
  class_none w h g = record { tree = right none; looked = 0; read = read_second h (read_nothing w); builds = g; so_far = omega arith }

  pub interface_none : {ts : List Token} {start : Cursor} {y : Prop} → start.at ≤ length ts → test is_get (first (drop start.at ts)) ≡ false → y ≡ spec.bare var n ty
      → Advanced (rows.property_value var false rows.in_interface) (built.property_with var n ty) ts start start y
  interface_none w h g = record { tree = right none; looked = 0; read = read_second h (read_nothing w); builds = g; so_far = omega arith }

  pub abstract_none : (abstract : Bool) (site : rows.Site) → abstract ≡ true → {ts : List Token} {start : Cursor} {y : Prop} → start.at ≤ length ts → y ≡ spec.bare var n ty
      → Advanced (rows.property_value var abstract site) (built.property_with var n ty) ts start start y
  abstract_none true site e w g = record { tree = none; looked = 0; read = read_nothing w; builds = g; so_far = omega arith }
  abstract_none false site e w g = absurd (cc)

  pub concrete : (abstract : Bool) (site : rows.Site) → abstract ≡ false → (ts : List Token) (start : Cursor) (r : Result (Prop × Cursor) (Fail ℕ))
      → Advances (rows.property_value var false site) (built.property_with var n ty) ts start r → Advances (rows.property_value var abstract site) (built.property_with var n ty) ts start r
  concrete true site e ts start r p = absurd (cc)
  concrete false site e ts start r p = p

-- ---- the whole

pub behind_from : (k : Keyword) (var abstract : Bool) (site : rows.Site) {ts : List Token} {start a b mid : Cursor} {n : Word} {ty : Option «Type»} → Moved (is_word k) ts start a → NameMoved ts a b n
    → Advanced colon_type expressions.written_type ts b mid ty → (r : Result (Prop × Cursor) (Fail ℕ)) → Advances (rows.property_value var abstract site) (built.property_with var n ty) ts mid r
    → Advances (rows.property_behind k var abstract site) (built.behind_word var) ts start r
behind_from k var abstract site {n = n} {ty = ty} o w p (Ok m) q = record {
  tree = pair (leaf o.taken.token) (pair (leaf w.taken.token) (pair p.tree q.tree));
  looked = max 0 (max 0 (max p.looked q.looked));
  read = read_both (read_one o.taken) (read_both (read_one w.taken) (read_both p.read q.read));
  builds = q.builds ∙ ap (λ (x : Word). built.property_with var x ty q.tree) w.word ∙ ap (λ (x : Option «Type»). built.property_with var (built.name_of (leaf w.taken.token)) x q.tree) p.builds;
  so_far = omega (arith, o.so_far, w.so_far, p.so_far, q.so_far);
}
behind_from k var abstract site o w p (Err e) q = halts_after o.taken o.so_far (halts_after w.taken w.so_far (halts_second p.read p.so_far q))

abbrev var_part : Bool → rows.Site → Part Row Token
var_part abstract site = rows.property_behind keyword.Var true abstract site

abbrev val_part : Bool → rows.Site → Part Row Token
val_part abstract site = rows.property_behind keyword.Val false abstract site

pub property_var : (abstract : Bool) (site : rows.Site) (ts : List Token) (start : Cursor) → start.at ≤ length ts → test (is_word keyword.Var) (first (drop start.at ts)) ≡ true → (r : Result (Prop × Cursor) (Fail ℕ))
    → Advances (rows.property_behind keyword.Var true abstract site) (built.behind_word true) ts start r → Advances (row (rows.property abstract site)) built.property_of ts start r
property_var abstract site ts start w h r p =
    of_row (rows.property abstract site) (choose (next (is_word keyword.Var)) (var_part abstract site) (val_part abstract site)) refl (λ c. built.property_of (node c)) built.property_of (λ us rest c d. refl) ts start r
    (taken_left (is_word keyword.Var) (var_part abstract site) (val_part abstract site) (built.behind_word true) (λ c. built.property_of (node c)) (λ us rest c d. refl) ts start w h r p)

pub property_val : (abstract : Bool) (site : rows.Site) (ts : List Token) (start : Cursor) → start.at ≤ length ts → test (is_word keyword.Var) (first (drop start.at ts)) ≡ false → (r : Result (Prop × Cursor) (Fail ℕ))
    → Advances (rows.property_behind keyword.Val false abstract site) (built.behind_word false) ts start r → Advances (row (rows.property abstract site)) built.property_of ts start r
property_val abstract site ts start w h r p =
    of_row (rows.property abstract site) (choose (next (is_word keyword.Var)) (var_part abstract site) (val_part abstract site)) refl (λ c. built.property_of (node c)) built.property_of (λ us rest c d. refl) ts start r
    (taken_right (is_word keyword.Var) (var_part abstract site) (val_part abstract site) (built.behind_word false) (λ c. built.property_of (node c)) (λ us rest c d. refl) ts start w h r p)
