-- The steps of the functions that read type parameters.
use Rattle.std.proofs.Common.{◌≡◌, ℕ, ◌≤◌, max, true, false, List, [], ◌∷◌, ◌++◌, length, drop, Option, Result, Ok, Err, refl, sym, ap, ◌∙◌, arith, append_assoc, append-nil}
use Rattle.grammars.specs.Grammar.{row, both, Cst, none, leaf, node, pair, left, right, first, test, d_nothing, d_row, d_right, Reads, r_one, r_both, Productive}
use Rattle.kc_text.specs.declared.errors.Fail.{Fail}
use Rattle.kc_tree.specs.declared.fault.Span.{Span}
use Rattle.kc_tree.specs.declared.types.Mod.{Mod}
use Rattle.kc_tree.specs.declared.types.Word.{Word}
use Rattle.kc_tree.specs.declared.types.«Type».{«Type»}
use Rattle.kc_tree.specs.declared.types.TypeParam.{TypeParam}
use Rattle.kt_bodies.specs.Terminals.{NameMoved}
use Rattle.kt_functions.specs.declared.type_parameters.TypeParts.{TypeParts}
use Rattle.kt_functions.specs.TypeParameters.{named, named_of, parts, parts_of, to_greater, before_greater}
use Rattle.kt_functions.proofs.ModifierRows.{has_modifiers}
use Rattle.kt_lexer.specs.declared.token.Token.{Token}
use Rattle.kt_lexer.specs.declared.token.Operator.TheVariants as operator
use Rattle.kt_grammar.specs.declared.cursor.Cursor.{Cursor}
use Rattle.kt_grammar.specs.Built.{written_type}
use Rattle.kt_grammar.specs.DeclarationsBuilt as built
use Rattle.kt_grammar.specs.Moves.{Moved}
use Rattle.kt_grammar.specs.Parsed.{Advanced, Advances, Halts}
use Rattle.kt_grammar.specs.Rows as rows
use Rattle.kt_grammar.specs.Rows.{Row, grammar, op}
use Rattle.kt_grammar.specs.Tokens.{is_op, begins_parameter}
use Rattle.kt_grammar.specs.TypesBuilt.{span_of}
use Rattle.kt_grammar.proofs.Advances.{halts_row, halts_left, halts_first, halts_second, halts_after}
use Rattle.kt_grammar.proofs.Extents.{between_is}
use Rattle.kt_grammar.proofs.NameRows.{has_no_type}
use Rattle.kt_grammar.proofs.Progress.{goes_on}
use Rattle.kt_grammar.proofs.Steps.{standing, has_both, read_one, read_both, read_row, read_first, read_second, read_nothing}
use Rattle.kt_grammar.proofs.TypeRows.{stretch, has_op, has_name}

-- ---- parts have derivations

pub has_named : Productive grammar named
has_named = has_both has_name has_no_type

pub has_further : Productive grammar (row rows.more_type_parameters)
has_further = ([], node (right none), d_row (d_right d_nothing))

pub has_further_end : Productive grammar (both (row rows.more_type_parameters) (op operator.Greater))
has_further_end = has_both has_further (has_op operator.Greater)

pub has_type_parameter : Productive grammar (row rows.type_parameter)
has_type_parameter = let k = has_both has_modifiers has_named in (k.0, node k.1, d_row k.2)

pub has_to_greater : Productive grammar to_greater
has_to_greater = has_both has_type_parameter has_further_end

-- ---- a type parameter

named_alike : {w v : Word} {x y : Option «Type»} → w ≡ v → x ≡ y → (let p : Word × Option «Type» = (w, x) in p) ≡ (v, y)
named_alike f g = cc

pub named_from : {ts : List Token} {start mid end : Cursor} {w : Word} {x : Option «Type»} → NameMoved ts start mid w → Advanced rows.colon_type written_type ts mid end x → Advanced named named_of ts start end (w, x)
named_from o p = record {
  tree = pair (leaf o.taken.token) p.tree;
  looked = max 0 p.looked;
  read = read_both (read_one o.taken) p.read;
  builds = named_alike o.word p.builds;
  so_far = omega (arith, o.so_far, p.so_far);
}

parts_alike : {ms ns : List Mod} {n m : Word × Option «Type»} → ms ≡ ns → n ≡ m → (let p : TypeParts = record { mods = ms; name = n.0; bound = n.1 } in p) ≡ record { mods = ns; name = m.0; bound = m.1 }
parts_alike f g = cc

pub parts_from : {ts : List Token} {start mid end : Cursor} {ms : List Mod} {n : Word × Option «Type»} → Advanced rows.modifiers built.modifiers_of ts start mid ms → Advanced named named_of ts mid end n
    → Advanced parts parts_of ts start end (record { mods = ms; name = n.0; bound = n.1 })
parts_from p q = record {
  tree = pair p.tree q.tree;
  looked = max p.looked q.looked;
  read = read_both p.read q.read;
  builds = parts_alike p.builds q.builds;
  so_far = omega (arith, p.so_far, q.so_far);
}

abbrev parameter_at : Span → TypeParts → TypeParam
parameter_at s k = record { span = s; mods = k.mods; name = k.name; bound = k.bound }

parameter_alike : {s u : Span} {k j : TypeParts} → s ≡ u → k ≡ j → parameter_at s k ≡ parameter_at u j
parameter_alike {u = u} {k = k} f g = ap (λ (s : Span). parameter_at s k) f ∙ ap (λ (j : TypeParts). parameter_at u j) g

parameter_built : {ts r : List Token} {c : Cst Token} → Reads grammar parts ts c r → parameter_at (span_of c) (parts_of c) ∷ [] ≡ built.type_parameter_of (node c)
parameter_built (r_both d (r_both (r_one h) e)) = refl

pub parameter_from : (xs ys : List TypeParam) {ts : List Token} {start end : Cursor} {s : Span} {k : TypeParts} → Advanced parts parts_of ts start end k → s ≡ stretch ts start.at end.at
    → ys ≡ xs ++ record { span = s; mods = k.mods; name = k.name; bound = k.bound } ∷ [] → Advanced (row rows.type_parameter) (λ c. xs ++ built.type_parameter_of c) ts start end ys
parameter_from xs ys p f g = record {
  tree = node p.tree;
  looked = p.looked;
  read = read_row p.read;
  builds = g ∙ ap (λ n. xs ++ n ∷ []) (parameter_alike (f ∙ between_is (goes_on refl p.read) p.read (goes_on refl p.read) p.read) p.builds) ∙ ap (λ zs. xs ++ zs) (parameter_built p.read.reads);
  so_far = p.so_far;
}

-- ---- those behind commas

pub further_end : (xs : List TypeParam) {ts : List Token} {start : Cursor} → start.at ≤ length ts → test (is_op operator.Comma) (first (drop start.at ts)) ≡ false
    → Advanced (row rows.more_type_parameters) (λ c. xs ++ built.more_type_parameters_of c) ts start start xs
further_end xs w h = record { tree = node (right none); looked = 0; read = read_row (read_second h (read_nothing w)); builds = sym (append-nil xs); so_far = omega arith }

pub last_comma : (xs : List TypeParam) {ts : List Token} {start end : Cursor} → Moved (is_op operator.Comma) ts start end → test begins_parameter (first (drop end.at ts)) ≡ false
    → Advanced (row rows.more_type_parameters) (λ c. xs ++ built.more_type_parameters_of c) ts start end xs
last_comma xs o h = record {
  tree = node (left (pair (leaf o.taken.token) (right none)));
  looked = max 0 0;
  read = read_row (read_first (standing o.taken) (read_both (read_one o.taken) (read_second h (read_nothing o.taken.within))));
  builds = sym (append-nil xs);
  so_far = omega (arith, o.so_far);
}

pub further_halts : {ts : List Token} {start mid : Cursor} {e : Fail ℕ} → start.at ≤ length ts → Moved (is_op operator.Comma) ts start mid → test begins_parameter (first (drop mid.at ts)) ≡ true
    → Halts (row rows.type_parameter) ts mid e → Halts (row rows.more_type_parameters) ts start e
further_halts w o h k = halts_row (halts_left w (standing o.taken) (halts_after o.taken o.so_far (halts_left o.taken.within h (halts_first has_further k))))

pub further_turn : (xs ys : List TypeParam) {ts : List Token} {start mid next : Cursor} → start.at ≤ length ts → Moved (is_op operator.Comma) ts start mid → test begins_parameter (first (drop mid.at ts)) ≡ true
    → Advanced (row rows.type_parameter) (λ c. xs ++ built.type_parameter_of c) ts mid next ys → (r : Result (List TypeParam × Cursor) (Fail ℕ)) → Advances (row rows.more_type_parameters) (λ c. ys ++ built.more_type_parameters_of c) ts next r
    → Advances (row rows.more_type_parameters) (λ c. xs ++ built.more_type_parameters_of c) ts start r
further_turn xs ys w o h p (Ok k) q = record {
  tree = node (left (pair (leaf o.taken.token) (left (pair p.tree q.tree))));
  looked = max 0 (max p.looked q.looked);
  read = read_row (read_first (standing o.taken) (read_both (read_one o.taken) (read_first h (read_both p.read q.read))));
  builds = q.builds ∙ ap (λ zs. zs ++ built.more_type_parameters_of q.tree) p.builds ∙ append_assoc xs (built.type_parameter_of p.tree) (built.more_type_parameters_of q.tree);
  so_far = omega (arith, o.so_far, p.so_far, q.so_far);
}
further_turn xs ys w o h p (Err e) q = halts_row (halts_left w (standing o.taken) (halts_after o.taken o.so_far (halts_left o.taken.within h (halts_second p.read p.so_far q))))

-- ---- all of them

pub greater_from : {none_yet xs ys : List TypeParam} {ts : List Token} {start mid next end : Cursor} → none_yet ≡ [] → Advanced (row rows.type_parameter) (λ c. none_yet ++ built.type_parameter_of c) ts start mid xs
    → Advanced (row rows.more_type_parameters) (λ c. xs ++ built.more_type_parameters_of c) ts mid next ys → Moved (is_op operator.Greater) ts next end → Advanced to_greater before_greater ts start end ys
greater_from i p q o = record {
  tree = pair p.tree (pair q.tree (leaf o.taken.token));
  looked = max p.looked (max q.looked 0);
  read = read_both p.read (read_both q.read (read_one o.taken));
  builds = q.builds ∙ ap (λ zs. zs ++ built.more_type_parameters_of q.tree) (p.builds ∙ ap (λ zs. zs ++ built.type_parameter_of p.tree) i);
  so_far = omega (arith, p.so_far, q.so_far, o.so_far);
}

pub none_written : {none_yet : List TypeParam} {ts : List Token} {start : Cursor} → none_yet ≡ [] → start.at ≤ length ts → test (is_op operator.Less) (first (drop start.at ts)) ≡ false
    → Advanced rows.parameters_of_type built.parameters_of_type_of ts start start none_yet
none_written i w h = record { tree = right none; looked = 0; read = read_second h (read_nothing w); builds = i; so_far = omega arith }

angles_built : {ts r : List Token} {c : Cst Token} (t : Cst Token) → Reads grammar to_greater ts c r → before_greater c ≡ built.parameters_of_type_of (left (node (pair t c)))
angles_built t (r_both d (r_both e (r_one h))) = refl

pub some_written : {xs : List TypeParam} {ts : List Token} {start mid end : Cursor} → Moved (is_op operator.Less) ts start mid → Advanced to_greater before_greater ts mid end xs
    → Advanced rows.parameters_of_type built.parameters_of_type_of ts start end xs
some_written o p = record {
  tree = left (node (pair (leaf o.taken.token) p.tree));
  looked = max 0 p.looked;
  read = read_first (standing o.taken) (read_row (read_both (read_one o.taken) p.read));
  builds = p.builds ∙ angles_built (leaf o.taken.token) p.read.reads;
  so_far = omega (arith, o.so_far, p.so_far);
}

pub written_halts : {ts : List Token} {start mid : Cursor} {e : Fail ℕ} → start.at ≤ length ts → Moved (is_op operator.Less) ts start mid → Halts to_greater ts mid e → Halts rows.parameters_of_type ts start e
written_halts w o k = halts_left w (standing o.taken) (halts_row (halts_after o.taken o.so_far k))
