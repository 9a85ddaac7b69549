-- The steps of the functions that read the parameters of functions.
use Rattle.std.proofs.Common.{◌≡◌, max, List, [], ◌∷◌, ◌++◌, Option, refl, ap, ◌∙◌, arith}
use Rattle.grammars.specs.Grammar.{row, both, Cst, none, leaf, node, pair, right, d_nothing, d_row, d_right, Reads, r_one, r_both, Productive}
use Rattle.kc_tree.specs.declared.fault.Span.{Span}
use Rattle.kc_tree.specs.declared.types.Mod.{Mod}
use Rattle.kc_tree.specs.declared.types.Word.{Word}
use Rattle.kc_tree.specs.declared.types.«Type».{«Type»}
use Rattle.kc_tree.specs.declared.expr.Expr.{Expr}
use Rattle.kc_tree.specs.declared.decl.Param.{Param}
use Rattle.kt_bodies.specs.Terminals.{NameMoved}
use Rattle.kt_functions.specs.declared.parameters.TypedName.{TypedName}
use Rattle.kt_functions.specs.declared.parameters.ParamParts.{ParamParts}
use Rattle.kt_functions.specs.Parameters.{typed_value, typed_value_of, typed, typed_of, parts, parts_of, bracketed, bracketed_of}
use Rattle.kt_functions.proofs.ValueRows.{has_default}
use Rattle.kt_lexer.specs.declared.token.Token.{Token}
use Rattle.kt_lexer.specs.declared.token.Operator.TheVariants as operator
use Rattle.kt_grammar.specs.declared.cursor.Cursor.{Cursor}
use Rattle.kt_grammar.specs.DeclarationsBuilt as built
use Rattle.kt_grammar.specs.Moves.{Moved}
use Rattle.kt_grammar.specs.Parsed.{Advanced}
use Rattle.kt_grammar.specs.Rows as rows
use Rattle.kt_grammar.specs.Rows.{Row, grammar, op}
use Rattle.kt_grammar.specs.Tokens.{is_op, begins_parameter}
use Rattle.kt_grammar.specs.TypesBuilt.{span_of, type_of}
use Rattle.kt_grammar.proofs.Extents.{between_is}
use Rattle.kt_grammar.proofs.ListRows.{IsList}
use Rattle.kt_grammar.proofs.Progress.{goes_on}
use Rattle.kt_grammar.proofs.Steps.{has_both, read_one, read_both, read_row}
use Rattle.kt_grammar.proofs.TypeRows.{stretch, has_op, has_name, has_type}

-- ---- parts have derivations

pub has_typed_value : Productive grammar typed_value
has_typed_value = has_both has_type has_default

pub has_colon_value : Productive grammar (both (op operator.Colon) typed_value)
has_colon_value = has_both (has_op operator.Colon) has_typed_value

pub has_typed : Productive grammar typed
has_typed = has_both has_name has_colon_value

pub has_parameters : Productive grammar (row rows.function_parameters)
has_parameters = ([], node (right none), d_row (d_right d_nothing))

pub has_parameters_close : Productive grammar (both (row rows.function_parameters) (op operator.CloseRound))
has_parameters_close = has_both has_parameters (has_op operator.CloseRound)

pub has_bracketed : Productive grammar bracketed
has_bracketed = has_both (has_op operator.OpenRound) has_parameters_close

-- ---- a parameter

value_alike : {x y : «Type»} {v w : Option Expr} → x ≡ y → v ≡ w → (let p : «Type» × Option Expr = (x, v) in p) ≡ (y, w)
value_alike f g = cc

pub typed_value_from : {ts : List Token} {start mid end : Cursor} {x : «Type»} {v : Option Expr} → Advanced (row rows.type_) type_of ts start mid x → Advanced rows.default built.value_of ts mid end v
    → Advanced typed_value typed_value_of ts start end (x, v)
typed_value_from p q = record {
  tree = pair p.tree q.tree;
  looked = max p.looked q.looked;
  read = read_both p.read q.read;
  builds = value_alike p.builds q.builds;
  so_far = omega (arith, p.so_far, q.so_far);
}

typed_alike : {w v : Word} {x y : «Type» × Option Expr} → w ≡ v → x ≡ y → (let t : TypedName = record { name = w; ty = x.0; default = x.1 } in t) ≡ record { name = v; ty = y.0; default = y.1 }
typed_alike f g = cc

pub typed_from : {ts : List Token} {start mid next end : Cursor} {w : Word} {x : «Type» × Option Expr} → NameMoved ts start mid w → Moved (is_op operator.Colon) ts mid next → Advanced typed_value typed_value_of ts next end x
    → Advanced typed typed_of ts start end (record { name = w; ty = x.0; default = x.1 })
typed_from n o p = record {
  tree = pair (leaf n.taken.token) (pair (leaf o.taken.token) p.tree);
  looked = max 0 (max 0 p.looked);
  read = read_both (read_one n.taken) (read_both (read_one o.taken) p.read);
  builds = typed_alike n.word p.builds;
  so_far = omega (arith, n.so_far, o.so_far, p.so_far);
}

parts_alike : {ms ns : List Mod} {x y : TypedName} → ms ≡ ns → x ≡ y → (let p : ParamParts = record { mods = ms; typed = x } in p) ≡ record { mods = ns; typed = y }
parts_alike f g = cc

pub parts_from : {ts : List Token} {start mid end : Cursor} {ms : List Mod} {x : TypedName} → Advanced rows.modifiers built.modifiers_of ts start mid ms → Advanced typed typed_of ts mid end x
    → Advanced parts parts_of ts start end (record { mods = ms; typed = x })
parts_from p q = record {
  tree = pair p.tree q.tree;
  looked = max p.looked q.looked;
  read = read_both p.read q.read;
  builds = parts_alike p.builds q.builds;
  so_far = omega (arith, p.so_far, q.so_far);
}

abbrev parameter_at : Span → ParamParts → Param
parameter_at s k = record { span = s; mods = k.mods; name = k.typed.name; ty = k.typed.ty; default = k.typed.default }

parameter_alike : {s u : Span} {k j : ParamParts} → s ≡ u → k ≡ j → parameter_at s k ≡ parameter_at u j
parameter_alike {u = u} {k = k} f g = ap (λ (s : Span). parameter_at s k) f ∙ ap (λ (j : ParamParts). parameter_at u j) g

parameter_built : {ts r : List Token} {c : Cst Token} → Reads grammar parts ts c r → parameter_at (span_of c) (parts_of c) ∷ [] ≡ built.function_parameter_of (node c)
parameter_built (r_both d (r_both (r_one h) (r_both (r_one i) (r_both e f)))) = refl

pub parameter_from : (xs ys : List Param) {ts : List Token} {start end : Cursor} {s : Span} {k : ParamParts} → Advanced parts parts_of ts start end k → s ≡ stretch ts start.at end.at
    → ys ≡ xs ++ record { span = s; mods = k.mods; name = k.typed.name; ty = k.typed.ty; default = k.typed.default } ∷ []
    → Advanced (row rows.function_parameter) (λ c. xs ++ built.function_parameter_of c) ts start end ys
parameter_from xs ys p f g = record {
  tree = node p.tree;
  looked = p.looked;
  read = read_row p.read;
  builds = g ∙ ap (λ n. xs ++ n ∷ []) (parameter_alike (f ∙ between_is (goes_on refl p.read) p.read (goes_on refl p.read) p.read) p.builds) ∙ ap (λ zs. xs ++ zs) (parameter_built p.read.reads);
  so_far = p.so_far;
}

-- ---- all of them

pub parameters_list : IsList rows.function_parameters rows.function_parameter begins_parameter built.function_parameter_of built.function_parameters_of
parameters_list = record { rule = refl; none_is = refl; last_is = λ c. refl; more_is = λ c t d. refl }

pub bracketed_from : {none_yet xs : List Param} {ts : List Token} {start next mid end : Cursor} → none_yet ≡ [] → Moved (is_op operator.OpenRound) ts start next
    → Advanced (row rows.function_parameters) (λ c. none_yet ++ built.function_parameters_of c) ts next mid xs → Moved (is_op operator.CloseRound) ts mid end → Advanced bracketed bracketed_of ts start end xs
bracketed_from i o p q = record {
  tree = pair (leaf o.taken.token) (pair p.tree (leaf q.taken.token));
  looked = max 0 (max p.looked 0);
  read = read_both (read_one o.taken) (read_both p.read (read_one q.taken));
  builds = p.builds ∙ ap (λ zs. zs ++ built.function_parameters_of p.tree) i;
  so_far = omega (arith, o.so_far, p.so_far, q.so_far);
}
