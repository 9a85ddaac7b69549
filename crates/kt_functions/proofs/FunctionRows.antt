-- The steps of the functions that read functions.
use Rattle.std.proofs.Common.{◌≡◌, max, Bool, List, Option, refl, ap, ◌∙◌, arith, [], ◌∷◌}
use Rattle.grammars.specs.Grammar.{row, both, Cst, none, leaf, node, pair, right, d_nothing, d_one, d_row, d_both, d_right, Reads, r_one, r_both, Productive}
use Rattle.kc_tree.specs.declared.decl.Fun.{Fun}
use Rattle.kc_tree.specs.declared.decl.FunBody.{FunBody}
use Rattle.kc_tree.specs.declared.decl.Param.{Param}
use Rattle.kc_tree.specs.declared.types.TypeParam.{TypeParam}
use Rattle.kc_tree.specs.declared.types.«Type».{«Type»}
use Rattle.kt_functions.specs.declared.functions.Ending.{Ending}
use Rattle.kt_functions.specs.declared.functions.Signature.{Signature}
use Rattle.kt_functions.specs.declared.functions.Named.{Named}
use Rattle.kt_functions.specs.declared.receivers.FunName.{FunName}
use Rattle.kt_functions.specs.Functions as parts
use Rattle.kt_functions.specs.Parameters.{bracketed, bracketed_of}
use Rattle.kt_functions.specs.Receivers.{name_of}
use Rattle.kt_functions.proofs.ParameterRows.{has_bracketed}
use Rattle.kt_functions.proofs.ValueRows.{has_written_body}
use Rattle.kt_lexer.specs.declared.token.Token.{Token}
use Rattle.kt_lexer.specs.declared.token.Keyword.TheVariants as keyword
use Rattle.kt_grammar.specs.declared.cursor.Cursor.{Cursor}
use Rattle.kt_grammar.specs.Built.{written_type}
use Rattle.kt_grammar.specs.DeclarationsBuilt as built
use Rattle.kt_grammar.specs.Moves.{Moved}
use Rattle.kt_grammar.specs.Parsed.{Advanced}
use Rattle.kt_grammar.specs.Rows as rows
use Rattle.kt_grammar.specs.Rows.{Row, Site, grammar}
use Rattle.kt_grammar.specs.Tokens.{is_word}
use Rattle.kt_grammar.proofs.NameRows.{has_no_type}
use Rattle.kt_grammar.proofs.SingleTokens.{a_name}
use Rattle.kt_grammar.proofs.Steps.{has_both, read_one, read_both, read_row}

-- ---- parts have derivations

pub has_ending : (abstract : Bool) → Productive grammar (parts.ending abstract)
has_ending abstract = has_both has_no_type (has_written_body abstract)

pub has_signature : (abstract : Bool) → Productive grammar (parts.signature abstract)
has_signature abstract = has_both has_bracketed (has_ending abstract)

pub has_function_name : (site : Site) → Productive grammar (row (rows.function_name site))
has_function_name rows.top_level = (a_name ∷ [], node (right (pair (leaf a_name) (right none))), d_row (d_right (d_both (d_one refl) (d_right d_nothing))))
has_function_name rows.in_class = (a_name ∷ [], node (leaf a_name), d_row (d_one refl))
has_function_name rows.in_interface = (a_name ∷ [], node (leaf a_name), d_row (d_one refl))

pub has_named : (abstract : Bool) (site : Site) → Productive grammar (parts.named abstract site)
has_named abstract site = has_both (has_function_name site) (has_signature abstract)

pub has_type_parameters : Productive grammar rows.parameters_of_type
has_type_parameters = ([], right none, d_right d_nothing)

pub has_behind_word : (abstract : Bool) (site : Site) → Productive grammar (both rows.parameters_of_type (parts.named abstract site))
has_behind_word abstract site = has_both has_type_parameters (has_named abstract site)

-- ---- from the end on

ending_alike : {x y : Option «Type»} {b d : Option FunBody} → x ≡ y → b ≡ d → (let e : Ending = record { result = x; body = b } in e) ≡ record { result = y; body = d }
ending_alike f g = cc

pub ending_from : (abstract : Bool) {ts : List Token} {start mid end : Cursor} {x : Option «Type»} {b : Option FunBody} → Advanced rows.colon_type written_type ts start mid x → Advanced (rows.body_of_function abstract) built.written_body ts mid end b
    → Advanced (parts.ending abstract) parts.ending_of ts start end (record { result = x; body = b })
ending_from abstract p q = record {
  tree = pair p.tree q.tree;
  looked = max p.looked q.looked;
  read = read_both p.read q.read;
  builds = ending_alike p.builds q.builds;
  so_far = omega (arith, p.so_far, q.so_far);
}

signature_alike : {xs ys : List Param} {e d : Ending} → xs ≡ ys → e ≡ d → (let s : Signature = record { values = xs; ending = e } in s) ≡ record { values = ys; ending = d }
signature_alike f g = cc

pub signature_from : (abstract : Bool) {ts : List Token} {start mid end : Cursor} {xs : List Param} {e : Ending} → Advanced bracketed bracketed_of ts start mid xs → Advanced (parts.ending abstract) parts.ending_of ts mid end e
    → Advanced (parts.signature abstract) parts.signature_of ts start end (record { values = xs; ending = e })
signature_from abstract p q = record {
  tree = pair p.tree q.tree;
  looked = max p.looked q.looked;
  read = read_both p.read q.read;
  builds = signature_alike p.builds q.builds;
  so_far = omega (arith, p.so_far, q.so_far);
}

named_alike : {n m : FunName} {s d : Signature} → n ≡ m → s ≡ d → (let k : Named = record { name = n; signature = s } in k) ≡ record { name = m; signature = d }
named_alike f g = cc

pub named_from : (abstract : Bool) (site : Site) {ts : List Token} {start mid end : Cursor} {n : FunName} {s : Signature} → Advanced (row (rows.function_name site)) name_of ts start mid n
    → Advanced (parts.signature abstract) parts.signature_of ts mid end s → Advanced (parts.named abstract site) parts.named_of ts start end (record { name = n; signature = s })
named_from abstract site p q = record {
  tree = pair p.tree q.tree;
  looked = max p.looked q.looked;
  read = read_both p.read q.read;
  builds = named_alike p.builds q.builds;
  so_far = omega (arith, p.so_far, q.so_far);
}

-- ---- the whole

function_built : (abstract : Bool) (site : Site) {ts r : List Token} {c : Cst Token} (w ps : Cst Token) → Reads grammar (parts.named abstract site) ts c r → parts.assembled (built.parameters_of_type_of ps) (parts.named_of c) ≡ built.function_of (node (pair w (pair ps c)))
function_built abstract site w ps (r_both n (r_both (r_both (r_one h) (r_both d (r_one i))) (r_both e f))) = refl

function_alike : {xs ys : List TypeParam} {n m : Named} → xs ≡ ys → n ≡ m → parts.assembled xs n ≡ parts.assembled ys m
function_alike {ys = ys} {n = n} f g = ap (λ (xs : List TypeParam). parts.assembled xs n) f ∙ ap (λ (m : Named). parts.assembled ys m) g

pub function_from : (abstract : Bool) (site : Site) {ts : List Token} {start next mid end : Cursor} {xs : List TypeParam} {n : Named} {x : Fun} → Moved (is_word keyword.Fun) ts start next
    → Advanced rows.parameters_of_type built.parameters_of_type_of ts next mid xs → Advanced (parts.named abstract site) parts.named_of ts mid end n → x ≡ parts.assembled xs n
    → Advanced (row (rows.function abstract site)) built.function_of ts start end x
function_from abstract site o p q e = record {
  tree = node (pair (leaf o.taken.token) (pair p.tree q.tree));
  looked = max 0 (max p.looked q.looked);
  read = read_row (read_both (read_one o.taken) (read_both p.read q.read));
  builds = e ∙ function_alike p.builds q.builds ∙ function_built abstract site (leaf o.taken.token) p.tree q.read.reads;
  so_far = omega (arith, o.so_far, p.so_far, q.so_far);
}
