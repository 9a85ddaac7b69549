-- The steps of the functions that read the parameters of constructors.
use Rattle.std.proofs.Common.{◌≡◌, ◌+◌, ◌≤◌, max, true, false, List, [], ◌∷◌, ◌++◌, length, drop, Option, Some, None, refl, ap, ◌∙◌, arith}
use Rattle.grammars.specs.Grammar.{row, both, Cst, none, leaf, node, pair, left, right, first, test, d_right, d_nothing, Reads, r_nothing, r_one, r_both, r_left, r_right, Productive}
use Rattle.kc_tree.specs.declared.fault.Span.{Span}
use Rattle.kc_tree.specs.declared.types.Mod.{Mod}
use Rattle.kc_tree.specs.declared.types.Word.{Word}
use Rattle.kc_tree.specs.declared.types.«Type».{«Type»}
use Rattle.kc_tree.specs.declared.expr.Expr.{Expr}
use Rattle.kc_tree.specs.declared.decl.ClassParam.{ClassParam}
use Rattle.kt_bodies.specs.Terminals.{NameMoved}
use Rattle.kt_class_heads.specs.declared.parameters.Keeping.{Keeping}
use Rattle.kt_class_heads.specs.declared.parameters.TypedName.{TypedName}
use Rattle.kt_class_heads.specs.declared.parameters.ParamParts.{ParamParts}
use Rattle.kt_class_heads.specs.Parameters.{kept, no_word, by_token, kept_of, typed_of, parts, parts_of, begins}
use Rattle.kt_functions.specs.Parameters.{typed_value, typed_value_of, typed}
use Rattle.kt_functions.proofs.ParameterRows.{has_typed}
use Rattle.kt_lexer.specs.declared.token.Token.{Token}
use Rattle.kt_lexer.specs.declared.token.Operator.TheVariants as operator
use Rattle.kt_grammar.specs.declared.cursor.Cursor.{Cursor}
use Rattle.kt_grammar.specs.DeclarationsBuilt as built
use Rattle.kt_grammar.specs.Moves.{Moved}
use Rattle.kt_grammar.specs.Parsed.{Advanced}
use Rattle.kt_grammar.specs.Rows as rows
use Rattle.kt_grammar.specs.Rows.{grammar}
use Rattle.kt_grammar.specs.Tokens.{is_op, is_local}
use Rattle.kt_grammar.specs.TypesBuilt.{first_of, last_of, or_else, between, span_of}
use Rattle.kt_grammar.proofs.Advances.{moves}
use Rattle.kt_grammar.proofs.Extents.{between_is}
use Rattle.kt_grammar.proofs.ListRows.{IsList}
use Rattle.kt_grammar.proofs.Progress.{goes_on}
use Rattle.kt_grammar.proofs.Steps.{takes_one, has_both, read_one, read_both, read_row, read_first, read_second, read_nothing}
use Rattle.kt_grammar.proofs.TypeRows.{stretch}

-- ---- parts have derivations

pub has_kept : Productive grammar kept
has_kept = ([], right none, d_right d_nothing)

pub has_behind_modifiers : Productive grammar (both kept typed)
has_behind_modifiers = has_both has_kept has_typed

-- ---- `val` and `var`

pub not_kept : {ts : List Token} {start : Cursor} {k : Keeping} → start.at ≤ length ts → test is_local (first (drop start.at ts)) ≡ false → k ≡ no_word → Advanced kept kept_of ts start start k
not_kept w h e = record { tree = right none; looked = 0; read = read_second h (read_nothing w); builds = e; so_far = omega arith }

pub kept_by : {ts : List Token} {start : Cursor} (end : Cursor) (k : Keeping) → test is_local (first (drop start.at ts)) ≡ true → k ≡ by_token (first (drop start.at ts))
    → end ≡ record { at = start.at + 1; looked = start.looked } → Advanced kept kept_of ts start end k
kept_by {ts = ts} {start = start} end k h g e =
    let o : Moved is_local ts start end = moves (takes_one is_local ts start.at h) e in
    record {
      tree = left (leaf o.taken.token);
      looked = 0;
      read = read_first h (read_one o.taken);
      builds = g ∙ ap (λ us. by_token (first us)) o.taken.here;
      so_far = omega (arith, o.so_far);
    }

-- ---- a parameter

typed_alike : {w v : Word} {x y : «Type» × Option Expr} → w ≡ v → x ≡ y → (let t : TypedName = record { name = w; ty = x.0; default = x.1 } in t) ≡ record { name = v; ty = y.0; default = y.1 }
typed_alike f g = cc

pub typed_from : {ts : List Token} {start mid next end : Cursor} {w : Word} {x : «Type» × Option Expr} → NameMoved ts start mid w → Moved (is_op operator.Colon) ts mid next → Advanced typed_value typed_value_of ts next end x
    → Advanced typed typed_of ts start end (record { name = w; ty = x.0; default = x.1 })
typed_from n o p = record {
  tree = pair (leaf n.taken.token) (pair (leaf o.taken.token) p.tree);
  looked = max 0 (max 0 p.looked);
  read = read_both (read_one n.taken) (read_both (read_one o.taken) p.read);
  builds = typed_alike n.word p.builds;
  so_far = omega (arith, n.so_far, o.so_far, p.so_far);
}

parts_alike : {ms ns : List Mod} {k l : Keeping} {x y : TypedName} → ms ≡ ns → k ≡ l → x ≡ y
    → (let p : ParamParts = record { mods = ms; keeping = k; typed = x } in p) ≡ record { mods = ns; keeping = l; typed = y }
parts_alike f g h = cc

pub parts_from : {ts : List Token} {start mid next end : Cursor} {ms : List Mod} {k : Keeping} {x : TypedName} → Advanced rows.modifiers built.modifiers_of ts start mid ms → Advanced kept kept_of ts mid next k
    → Advanced typed typed_of ts next end x → Advanced parts parts_of ts start end (record { mods = ms; keeping = k; typed = x })
parts_from p o q = record {
  tree = pair p.tree (pair o.tree q.tree);
  looked = max p.looked (max o.looked q.looked);
  read = read_both p.read (read_both o.read q.read);
  builds = parts_alike p.builds o.builds q.builds;
  so_far = omega (arith, p.so_far, o.so_far, q.so_far);
}

abbrev parameter_at : Span → ParamParts → ClassParam
parameter_at s k = record { span = s; mods = k.mods; is_val = k.keeping.is_val; is_var = k.keeping.is_var; name = k.typed.name; ty = k.typed.ty; default = k.typed.default }

parameter_alike : {s u : Span} {k j : ParamParts} → s ≡ u → k ≡ j → parameter_at s k ≡ parameter_at u j
parameter_alike {u = u} {k = k} f g = ap (λ (s : Span). parameter_at s k) f ∙ ap (λ (j : ParamParts). parameter_at u j) g

or_none : (o : Option Token) → or_else o None ≡ o
or_none None = refl
or_none (Some t) = refl

-- where no token is taken between two parts, the place is that of the two
nothing_between : (x y : Cst Token) → span_of (pair x (pair (right none) y)) ≡ span_of (pair x y)
nothing_between x y = ap (λ o. between (or_else (first_of x) (first_of y)) (or_else o (last_of x))) (or_none (last_of y))

unkept_built : {ts r : List Token} (ms : Cst Token) {x : Cst Token} → Reads grammar typed ts x r
    → parameter_at (span_of (pair ms x)) (parts_of (pair ms (pair (right none) x))) ∷ [] ≡ built.constructor_parameter_of (node (pair ms (pair (right none) x)))
unkept_built ms (r_both (r_one h) (r_both (r_one i) (r_both e f))) = refl

unkept : {ts r : List Token} (ms x : Cst Token) → Reads grammar typed ts x r
    → parameter_at (span_of (pair ms (pair (right none) x))) (parts_of (pair ms (pair (right none) x))) ∷ [] ≡ built.constructor_parameter_of (node (pair ms (pair (right none) x)))
unkept ms x d = ap (λ (s : Span). parameter_at s (parts_of (pair ms (pair (right none) x))) ∷ []) (nothing_between ms x) ∙ unkept_built ms d

parameter_built : {ts r : List Token} {c : Cst Token} → Reads grammar parts ts c r → parameter_at (span_of c) (parts_of c) ∷ [] ≡ built.constructor_parameter_of (node c)
parameter_built (r_both d (r_both (r_left j (r_one k)) (r_both (r_one h) (r_both (r_one i) (r_both e f))))) = refl
parameter_built (r_both {x = ms} d (r_both {y = x} (r_right j r_nothing) e)) = unkept ms x e

pub parameter_from : (xs ys : List ClassParam) {ts : List Token} {start end : Cursor} {s : Span} {k : ParamParts} → Advanced parts parts_of ts start end k → s ≡ stretch ts start.at end.at
    → ys ≡ xs ++ record { span = s; mods = k.mods; is_val = k.keeping.is_val; is_var = k.keeping.is_var; name = k.typed.name; ty = k.typed.ty; default = k.typed.default } ∷ []
    → Advanced (row rows.constructor_parameter) (λ c. xs ++ built.constructor_parameter_of c) ts start end ys
parameter_from xs ys p f g = record {
  tree = node p.tree;
  looked = p.looked;
  read = read_row p.read;
  builds = g ∙ ap (λ n. xs ++ n ∷ []) (parameter_alike (f ∙ between_is (goes_on refl p.read) p.read (goes_on refl p.read) p.read) p.builds) ∙ ap (λ zs. xs ++ zs) (parameter_built p.read.reads);
  so_far = p.so_far;
}

-- ---- all of them

pub parameters_list : IsList rows.constructor_parameters rows.constructor_parameter begins built.constructor_parameter_of built.constructor_parameters_of
parameters_list = record { rule = refl; none_is = refl; last_is = λ c. refl; more_is = λ c t d. refl }
