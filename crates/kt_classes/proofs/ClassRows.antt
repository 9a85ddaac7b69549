-- The steps of the functions that read classes, interfaces and objects.
use Rattle.std.proofs.Common.{◌≡◌, ℕ, Bool, List, [], Option, refl, subst}
use Rattle.grammars.specs.Grammar.{row, one, both, Cst, none, node, pair, right, d_nothing, d_right, Reads, r_nothing, r_one, r_row, r_both, r_left, r_right, Productive}
use Rattle.kc_text.specs.declared.errors.Fail.{Fail}
use Rattle.kc_tree.specs.declared.decl.Class.{Class}
use Rattle.kc_tree.specs.declared.decl.ClassParam.{ClassParam}
use Rattle.kc_tree.specs.declared.decl.Super.{Super}
use Rattle.kc_tree.specs.declared.types.TypeParam.{TypeParam}
use Rattle.kc_tree.specs.declared.types.Word.{Word}
use Rattle.kt_bodies.specs.Terminals.{NameMoved}
use Rattle.kt_classes.specs.declared.nodes.BodyParts.{BodyParts}
use Rattle.kt_classes.specs.declared.nodes.Heritage.{Heritage}
use Rattle.kt_classes.specs.declared.nodes.Constructed.{Constructed}
use Rattle.kt_classes.specs.declared.nodes.Generic.{Generic}
use Rattle.kt_classes.specs.declared.nodes.Inherited.{Inherited}
use Rattle.kt_classes.specs.Bodies.{body_parts}
use Rattle.kt_classes.specs.Classes as spec
use Rattle.kt_classes.proofs.Parts.{joined, declared}
use Rattle.kt_lexer.specs.declared.token.Token.{Token}
use Rattle.kt_lexer.specs.declared.token.Keyword.TheVariants as keyword
use Rattle.kt_grammar.specs.declared.cursor.Cursor.{Cursor}
use Rattle.kt_grammar.specs.DeclarationsBuilt as built
use Rattle.kt_grammar.specs.Moves.{Moved}
use Rattle.kt_grammar.specs.Parsed.{Advanced, Halts}
use Rattle.kt_grammar.specs.Rows as rows
use Rattle.kt_grammar.specs.Rows.{Row, grammar}
use Rattle.kt_grammar.specs.Tokens.{is_word, is_name}
use Rattle.kt_grammar.proofs.Steps.{has_both}
use Rattle.kt_grammar.proofs.TypeRows.{has_name}

-- ---- parts have derivations

pub has_a_body : (n : Row) → Productive grammar (rows.a_body n)
has_a_body n = ([], right none, d_right d_nothing)

pub has_heritage : (n : Row) → Productive grammar (spec.heritage n)
has_heritage n = has_both {a = rows.supers} ([], right none, d_right d_nothing) (has_a_body n)

pub has_constructed : (n : Row) → Productive grammar (spec.constructed n)
has_constructed n = has_both {a = rows.primary_constructor} ([], right none, d_right d_nothing) (has_heritage n)

pub has_generic : (n : Row) → Productive grammar (spec.generic n)
has_generic n = has_both {a = rows.parameters_of_type} ([], right none, d_right d_nothing) (has_constructed n)

pub has_inherited : (n : Row) → Productive grammar (spec.inherited n)
has_inherited n = has_both {a = rows.parameters_of_type} ([], right none, d_right d_nothing) (has_heritage n)

pub has_named_class : (n : Row) → Productive grammar (both (one is_name) (spec.generic n))
has_named_class n = has_both has_name (has_generic n)

pub has_named_interface : Productive grammar (both (one is_name) (spec.inherited (rows.class_body rows.in_interface)))
has_named_interface = has_both has_name (has_inherited (rows.class_body rows.in_interface))

pub has_named_object : Productive grammar (both (one is_name) (spec.heritage (rows.class_body rows.in_class)))
has_named_object = has_both has_name (has_heritage (rows.class_body rows.in_class))

-- ---- from one part on to the end

pub heritage_from : (n : Row) {ts : List Token} {start mid end : Cursor} {xs : List Super} {b : BodyParts} → Advanced rows.supers built.supers_of ts start mid xs → Advanced (rows.a_body n) body_parts ts mid end b
    → Advanced (spec.heritage n) spec.heritage_of ts start end (record { supers = xs; body = b })
heritage_from n p q = joined rows.supers (rows.a_body n) built.supers_of body_parts spec.heritage_with spec.heritage_of (λ c d. refl) p q

pub constructed_from : (n : Row) {ts : List Token} {start mid end : Cursor} {xs : Option (List ClassParam)} {h : Heritage} → Advanced rows.primary_constructor built.primary_of_class ts start mid xs → Advanced (spec.heritage n) spec.heritage_of ts mid end h
    → Advanced (spec.constructed n) spec.constructed_of ts start end (record { primary = xs; heritage = h })
constructed_from n p q = joined rows.primary_constructor (spec.heritage n) built.primary_of_class spec.heritage_of spec.constructed_with spec.constructed_of (λ c d. refl) p q

pub generic_from : (n : Row) {ts : List Token} {start mid end : Cursor} {xs : List TypeParam} {k : Constructed} → Advanced rows.parameters_of_type built.parameters_of_type_of ts start mid xs → Advanced (spec.constructed n) spec.constructed_of ts mid end k
    → Advanced (spec.generic n) spec.generic_of ts start end (record { params = xs; constructed = k })
generic_from n p q = joined rows.parameters_of_type (spec.constructed n) built.parameters_of_type_of spec.constructed_of spec.generic_with spec.generic_of (λ c d. refl) p q

pub inherited_from : (n : Row) {ts : List Token} {start mid end : Cursor} {xs : List TypeParam} {h : Heritage} → Advanced rows.parameters_of_type built.parameters_of_type_of ts start mid xs → Advanced (spec.heritage n) spec.heritage_of ts mid end h
    → Advanced (spec.inherited n) spec.inherited_of ts start end (record { params = xs; heritage = h })
inherited_from n p q = joined rows.parameters_of_type (spec.heritage n) built.parameters_of_type_of spec.heritage_of spec.inherited_with spec.inherited_of (λ c d. refl) p q

-- the row by its other name
pub heritage_as : {n m : Row} {ts : List Token} {start end : Cursor} {h : Heritage} → n ≡ m → Advanced (spec.heritage n) spec.heritage_of ts start end h → Advanced (spec.heritage m) spec.heritage_of ts start end h
heritage_as {ts = ts} {start = start} {end = end} {h = h} is p = subst (λ n. Advanced (spec.heritage n) spec.heritage_of ts start end h) is p

pub halts_heritage : {n m : Row} {ts : List Token} {start : Cursor} {e : Fail ℕ} → n ≡ m → Halts (spec.heritage n) ts start e → Halts (spec.heritage m) ts start e
halts_heritage {ts = ts} {start = start} {e = e} is k = subst (λ n. Halts (spec.heritage n) ts start e) is k

-- ---- the whole

class_built : (n : Row) (us rest : List Token) (w i c : Cst Token) → Reads grammar (spec.generic n) us c rest → spec.class_with (built.name_of i) (spec.generic_of c) ≡ built.class_of_node (node (pair w (pair i c)))
class_built n us rest w i _ (r_both d (r_both f (r_both g h))) = refl

pub class_from : (enum : Bool) {ts : List Token} {start next mid end : Cursor} {v : Word} {g : Generic} {x : Class} → Moved (is_word keyword.Class) ts start next → NameMoved ts next mid v
    → Advanced (spec.generic (rows.body_of_class enum)) spec.generic_of ts mid end g → x ≡ spec.class_with v g → Advanced (row (rows.class_ enum)) built.class_of_node ts start end x
class_from enum o m p e =
    declared (rows.class_ enum) keyword.Class (spec.generic (rows.body_of_class enum)) refl spec.generic_of spec.class_with built.class_of_node (class_built (rows.body_of_class enum)) o m p e

interface_built : (us rest : List Token) (w i c : Cst Token) → Reads grammar (spec.inherited (rows.class_body rows.in_interface)) us c rest
    → spec.interface_with (built.name_of i) (spec.inherited_of c) ≡ built.interface_of (node (pair w (pair i c)))
interface_built us rest w i _ (r_both d (r_both f (r_left h (r_row (r_both (r_one j) (r_both k (r_one l))))))) = refl
interface_built us rest w i _ (r_both d (r_both f (r_right h r_nothing))) = refl

pub interface_from : {ts : List Token} {start next mid end : Cursor} {v : Word} {g : Inherited} {x : Class} → Moved (is_word keyword.Interface) ts start next → NameMoved ts next mid v
    → Advanced (spec.inherited (rows.class_body rows.in_interface)) spec.inherited_of ts mid end g → x ≡ spec.interface_with v g → Advanced (row rows.interface_) built.interface_of ts start end x
interface_from o m p e =
    declared rows.interface_ keyword.Interface (spec.inherited (rows.class_body rows.in_interface)) refl spec.inherited_of spec.interface_with built.interface_of interface_built o m p e

object_built : (us rest : List Token) (w i c : Cst Token) → Reads grammar (spec.heritage (rows.class_body rows.in_class)) us c rest
    → spec.object_with (built.name_of i) (spec.heritage_of c) ≡ built.object_of (node (pair w (pair i c)))
object_built us rest w i _ (r_both f (r_left h (r_row (r_both (r_one j) (r_both k (r_one l)))))) = refl
object_built us rest w i _ (r_both f (r_right h r_nothing)) = refl

pub object_from : {ts : List Token} {start next mid end : Cursor} {v : Word} {g : Heritage} {x : Class} → Moved (is_word keyword.Object) ts start next → NameMoved ts next mid v
    → Advanced (spec.heritage (rows.class_body rows.in_class)) spec.heritage_of ts mid end g → x ≡ spec.object_with v g → Advanced (row rows.object_) built.object_of ts start end x
object_from o m p e = declared rows.object_ keyword.Object (spec.heritage (rows.class_body rows.in_class)) refl spec.heritage_of spec.object_with built.object_of object_built o m p e
