-- The steps of the functions that read declared names.
use Rattle.std.proofs.Common.{◌≡◌, ℕ, ◌≤◌, true, false, List, [], ◌∷◌, ◌++◌, length, drop, Result, Ok, Err, Option, Some, None, refl, sym, ap, ◌∙◌, append_assoc, append-nil}
use Rattle.grammars.specs.Grammar.{row, none, leaf, node, pair, left, right, first, test, d_row, d_right, d_nothing, Productive}
use Rattle.kc_text.specs.declared.errors.Fail.{Fail}
use Rattle.kc_tree.specs.declared.expr.LocalName.{LocalName}
use Rattle.kc_tree.specs.declared.types.Word.{Word}
use Rattle.kc_tree.specs.declared.types.«Type».{«Type»}
use Rattle.kt_lexer.specs.declared.token.Token.{Token}
use Rattle.kt_lexer.specs.declared.token.Operator.TheVariants as operator
use Rattle.kt_grammar.specs.Built as built
use Rattle.kt_grammar.specs.Parsed.{Parsed, Parses, Taken, NameTaken}
use Rattle.kt_grammar.specs.Rows as rows
use Rattle.kt_grammar.specs.Rows.{grammar, op}
use Rattle.kt_grammar.specs.Tokens.{is_op, is_name}
use Rattle.kt_grammar.specs.TypesBuilt as types_built
use Rattle.kt_grammar.specs.TypesBuilt.{word_of}
use Rattle.kt_grammar.proofs.ListRows.{IsList, no_element, last_element, element_and_more, adds_none, adds_last, adds_more}
use Rattle.kt_grammar.proofs.Steps.{standing, read_one, read_both, read_row, read_first, read_second, read_nothing, fails_row, fails_left, fails_after, fails_second}

pub has_no_type : Productive grammar rows.colon_type
has_no_type = ([], right none, d_right d_nothing)

pub names_list : IsList rows.names rows.typed_name is_name built.typed_name_of built.names_of
names_list = record { rule = refl; none_is = refl; last_is = λ c. refl; more_is = λ c t d. refl }

pub has_bare_end : Productive grammar (row rows.bare_names)
has_bare_end = ([], node (right none), d_row (d_right d_nothing))

pub no_type_written : {ts : List Token} {at : ℕ} → at ≤ length ts → test (is_op operator.Colon) (first (drop at ts)) ≡ false → Parsed rows.colon_type built.written_type ts at at None
no_type_written w h = record { tree = right none; read = read_second h (read_nothing w); builds = refl }

pub type_written : {ts : List Token} {at mid end : ℕ} {x : «Type»} → Taken (is_op operator.Colon) ts at mid → Parsed (row rows.type_) types_built.type_of ts mid end x → Parsed rows.colon_type built.written_type ts at end (Some x)
type_written o p = record { tree = left (pair (leaf o.token) p.tree); read = read_first (standing o) (read_both (read_one o) p.read); builds = ap Some p.builds }

name_alike : {w v : Word} {x y : Option «Type»} → w ≡ v → x ≡ y → (let n : LocalName = record { name = w; ty = x } in n) ≡ record { name = v; ty = y }
name_alike p q = cc

pub name_from : {ts : List Token} {at mid end : ℕ} {w : Word} {x : Option «Type»} (ns ms : List LocalName) → NameTaken ts at mid w → Parsed rows.colon_type built.written_type ts mid end x
    → ms ≡ ns ++ record { name = w; ty = x } ∷ [] → Parsed (row rows.typed_name) (λ c. ns ++ built.typed_name_of c) ts at end ms
name_from ns ms k p e = record {
  tree = node (pair (leaf k.taken.token) p.tree);
  read = read_row (read_both (read_one k.taken) p.read);
  builds = e ∙ ap (λ n. ns ++ n ∷ []) (name_alike k.word p.builds);
}

pub names_turn : {ts : List Token} {at mid end : ℕ} (ns ms : List LocalName) → test is_name (first (drop at ts)) ≡ true → Parsed (row rows.typed_name) (λ c. ns ++ built.typed_name_of c) ts at mid ms
    → Taken (is_op operator.Comma) ts mid end → (r : Result (List LocalName × ℕ) (Fail ℕ))
    → Parses (row rows.names) (λ c. ms ++ built.names_of c) ts end r → Parses (row rows.names) (λ c. ns ++ built.names_of c) ts at r
names_turn ns ms h p o (Ok k) q = record {
  tree = node (left (pair p.tree (left (pair (leaf o.token) q.tree))));
  read = element_and_more names_list h p.read o q.read;
  builds = adds_more names_list ns ms k.0 p.tree (leaf o.token) q.tree p.builds q.builds;
}
names_turn ns ms h p o (Err e) q = fails_row (fails_left h (fails_second p.read (fails_left (standing o) (fails_after o q))))

pub last_name : {ts : List Token} {at end : ℕ} (ns ms : List LocalName) → test is_name (first (drop at ts)) ≡ true → Parsed (row rows.typed_name) (λ c. ns ++ built.typed_name_of c) ts at end ms
    → test (is_op operator.Comma) (first (drop end ts)) ≡ false → Parsed (row rows.names) (λ c. ns ++ built.names_of c) ts at end ms
last_name ns ms h p k = record {
  tree = node (left (pair p.tree (right none)));
  read = last_element names_list h p.read k;
  builds = adds_last names_list ns ms p.tree p.builds;
}

pub names_end : {ts : List Token} {at : ℕ} (ns : List LocalName) → at ≤ length ts → test is_name (first (drop at ts)) ≡ false → Parsed (row rows.names) (λ c. ns ++ built.names_of c) ts at at ns
names_end ns w h = record { tree = node (right none); read = no_element names_list w h; builds = adds_none names_list ns }

pub bare_turn : {ts : List Token} {at mid end : ℕ} {w : Word} (ns ms : List LocalName) → Taken (is_op operator.Comma) ts at mid → test is_name (first (drop mid ts)) ≡ true → NameTaken ts mid end w
    → ms ≡ ns ++ record { name = w; ty = None } ∷ [] → (r : Result (List LocalName × ℕ) (Fail ℕ))
    → Parses (row rows.bare_names) (λ c. ms ++ built.bare_names_of c) ts end r → Parses (row rows.bare_names) (λ c. ns ++ built.bare_names_of c) ts at r
bare_turn {w = w} ns ms o h k e (Ok j) q = record {
  tree = node (left (pair (leaf o.token) (left (pair (leaf k.taken.token) q.tree))));
  read = read_row (read_first (standing o) (read_both (read_one o) (read_first h (read_both (read_one k.taken) q.read))));
  builds = q.builds ∙ ap (λ m. m ++ built.bare_names_of q.tree) e ∙ append_assoc ns (record { name = w; ty = None } ∷ []) (built.bare_names_of q.tree)
      ∙ ap (λ n. ns ++ n ∷ built.bare_names_of q.tree) (name_alike k.word refl);
}
bare_turn ns ms o h k e (Err f) q = fails_row (fails_left (standing o) (fails_after o (fails_left h (fails_after k.taken q))))

pub bare_comma : {ts : List Token} {at end : ℕ} (ns : List LocalName) → Taken (is_op operator.Comma) ts at end → test is_name (first (drop end ts)) ≡ false
    → Parsed (row rows.bare_names) (λ c. ns ++ built.bare_names_of c) ts at end ns
bare_comma ns o h = record {
  tree = node (left (pair (leaf o.token) (right none)));
  read = read_row (read_first (standing o) (read_both (read_one o) (read_second h (read_nothing o.within))));
  builds = sym (append-nil ns);
}

pub bare_end : {ts : List Token} {at : ℕ} (ns : List LocalName) → at ≤ length ts → test (is_op operator.Comma) (first (drop at ts)) ≡ false → Parsed (row rows.bare_names) (λ c. ns ++ built.bare_names_of c) ts at at ns
bare_end ns w h = record { tree = node (right none); read = read_row (read_second h (read_nothing w)); builds = sym (append-nil ns) }
