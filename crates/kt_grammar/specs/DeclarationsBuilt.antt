-- The file of a derivation.
use Rattle.std.specs.Prelude.{ℕ, suc, ◌-◌, nat_lt, Bool, true, false, List, [], ◌∷◌, ◌++◌, Option, Some, None, if◌then◌else◌, unwrap_or, slice_get}
use Rattle.grammars.specs.Grammar.{Cst, leaf, node, pair, left, right}
use Rattle.kc_tree.specs.declared.fault.Span.{Span}
use Rattle.kc_tree.specs.declared.types.Word.{Word}
use Rattle.kc_tree.specs.declared.types.Mod.{Mod}
use Rattle.kc_tree.specs.declared.types.ModKind.{ModKind}
use Rattle.kc_tree.specs.declared.types.ModKind.TheVariants as mod_kind
use Rattle.kc_tree.specs.declared.types.«Type».{«Type»}
use Rattle.kc_tree.specs.declared.types.TypeKind.TheVariants as type_kind
use Rattle.kc_tree.specs.declared.types.TypeParam.{TypeParam}
use Rattle.kc_tree.specs.declared.expr.Expr.{Expr}
use Rattle.kc_tree.specs.declared.expr.Arg.{Arg}
use Rattle.kc_tree.specs.declared.decl.File.{File}
use Rattle.kc_tree.specs.declared.decl.Import.{Import}
use Rattle.kc_tree.specs.declared.decl.Decl.{Decl}
use Rattle.kc_tree.specs.declared.decl.DeclKind.{DeclKind}
use Rattle.kc_tree.specs.declared.decl.DeclKind.TheVariants as decl_kind
use Rattle.kc_tree.specs.declared.decl.Class.{Class}
use Rattle.kc_tree.specs.declared.decl.ClassForm.TheVariants as form
use Rattle.kc_tree.specs.declared.decl.Member.{Member}
use Rattle.kc_tree.specs.declared.decl.MemberKind.{MemberKind}
use Rattle.kc_tree.specs.declared.decl.MemberKind.TheVariants as member_kind
use Rattle.kc_tree.specs.declared.decl.ClassParam.{ClassParam}
use Rattle.kc_tree.specs.declared.decl.Super.{Super}
use Rattle.kc_tree.specs.declared.decl.Constant.{Constant}
use Rattle.kc_tree.specs.declared.decl.Fun.{Fun}
use Rattle.kc_tree.specs.declared.decl.FunBody.{FunBody}
use Rattle.kc_tree.specs.declared.decl.FunBody.TheVariants as fun_body
use Rattle.kc_tree.specs.declared.decl.Param.{Param}
use Rattle.kc_tree.specs.declared.decl.Prop.{Prop}
use Rattle.kc_tree.specs.declared.decl.Getter.{Getter}
use Rattle.kc_tree.specs.declared.decl.Setter.{Setter}
use Rattle.kt_lexer.specs.declared.token.Token.{Token}
use Rattle.kt_lexer.specs.declared.token.TokenKind.{TokenKind}
use Rattle.kt_lexer.specs.declared.token.TokenKind.TheVariants as kind
use Rattle.kt_lexer.specs.declared.token.Keyword.TheVariants as keyword
use Rattle.kt_lexer.specs.declared.token.Operator.TheVariants as operator
use Rattle.kt_grammar.specs.TypesBuilt.{first_of, last_of, between, no_span, span_of, word_of, words_of, type_of, type_arguments_of, nullables}
use Rattle.kt_grammar.specs.Built.{is_val, is_var, written_type, expression_of, arguments_of, block_statements}

-- ---- words

-- what no derivation has
abbrev pub no_word : Word
no_word = record { span = no_span; name = 0 }

abbrev pub name_of : Cst Token → Word
name_of (leaf t) = word_of t
name_of _ = no_word

-- the kinds of the modifiers from `public` on, in the order of their numbers
abbrev pub mod_kinds : List ModKind
mod_kinds = mod_kind.Public ∷ mod_kind.Internal ∷ mod_kind.Private ∷ mod_kind.Final ∷ mod_kind.Open ∷ mod_kind.Abstract ∷ mod_kind.Sealed ∷ mod_kind.Data
    ∷ mod_kind.Enum ∷ mod_kind.Override ∷ mod_kind.Operator ∷ mod_kind.Infix ∷ mod_kind.Inline ∷ mod_kind.Const ∷ mod_kind.Vararg ∷ mod_kind.Noinline
    ∷ mod_kind.Crossinline ∷ mod_kind.Reified ∷ []

abbrev pub mod_kind_of : TokenKind → ModKind
mod_kind_of (kind.Name n) = if nat_lt n 8 then mod_kind.Out else unwrap_or (slice_get mod_kinds (n - 8)) mod_kind.Out
mod_kind_of _ = mod_kind.In

abbrev pub mod_of : Token → Mod
mod_of t = record { span = t.span; kind = mod_kind_of t.kind }

abbrev pub modifiers_of : Cst Token → List Mod
modifiers_of (pair (leaf t) more) = mod_of t ∷ modifiers_of more
modifiers_of _ = []

-- ---- parameters of types

abbrev pub type_parameter_of : Cst Token → List TypeParam
type_parameter_of (node (pair ms (pair n x))) = record { span = span_of (pair ms (pair n x)); mods = modifiers_of ms; name = name_of n; bound = written_type x } ∷ []
type_parameter_of _ = []

abbrev pub more_type_parameters_of : Cst Token → List TypeParam
more_type_parameters_of (node (left (pair comma (left (pair x more))))) = type_parameter_of x ++ more_type_parameters_of more
more_type_parameters_of _ = []

abbrev pub parameters_of_type_of : Cst Token → List TypeParam
parameters_of_type_of (left (node (pair less (pair x (pair more greater))))) = type_parameter_of x ++ more_type_parameters_of more
parameters_of_type_of _ = []

-- ---- values and bodies

abbrev pub value_of : Cst Token → Option Expr
value_of (left (pair assign x)) = Some (expression_of x)
value_of _ = None

abbrev pub body_of : Cst Token → Option FunBody
body_of (node (left x)) = Some (fun_body.Block (block_statements x))
body_of (node (right (pair assign x))) = Some (fun_body.Expr (expression_of x))
body_of _ = None

abbrev pub written_arguments_of : Cst Token → Option (List Arg)
written_arguments_of (left (pair o (pair x c))) = Some (arguments_of x)
written_arguments_of _ = None

-- ---- functions

abbrev pub function_parameter_of : Cst Token → List Param
function_parameter_of (node (pair ms (pair n (pair colon (pair ty x))))) =
    record { span = span_of (pair ms (pair n (pair colon (pair ty x)))); mods = modifiers_of ms; name = name_of n; ty = type_of ty; default = value_of x } ∷ []
function_parameter_of _ = []

abbrev pub function_parameters_of : Cst Token → List Param
function_parameters_of (node (left (pair x (left (pair comma more))))) = function_parameter_of x ++ function_parameters_of more
function_parameters_of (node (left (pair x y))) = function_parameter_of x
function_parameters_of _ = []

-- the `?` of `?.` belongs to the type before it; it is the first unit of the token
abbrev pub before_dot : Option Token → «Type» → TokenKind → Span → «Type»
before_dot (Some t) x (kind.Op operator.SafeDot) s = record { span = record { file = t.span.file; start = t.span.start; end = suc s.start }; kind = type_kind.Nullable x }
before_dot _ x _ s = x

-- a name with perhaps type arguments, as a type
abbrev pub named_type : Cst Token → Cst Token → «Type»
named_type n (left x) = record { span = between (first_of n) (last_of x); kind = type_kind.Named (name_of n ∷ []) (type_arguments_of x) }
named_type n _ = record { span = span_of n; kind = type_kind.Named (name_of n ∷ []) [] }

abbrev pub receiver_of : Cst Token → Option «Type»
receiver_of (node (left (pair (pair o (pair x c)) (pair dot n)))) = Some (type_of x)
receiver_of (node (right (pair m (left (pair ts (pair qs (pair (leaf d) n))))))) = Some (before_dot (first_of m) (nullables (first_of m) (named_type m ts) qs) d.kind d.span)
receiver_of _ = None

abbrev pub function_name_of : Cst Token → Word
function_name_of (node (leaf t)) = word_of t
function_name_of (node (left (pair x (pair dot n)))) = name_of n
function_name_of (node (right (pair m (left (pair ts (pair qs (pair d n))))))) = name_of n
function_name_of (node (right (pair n y))) = name_of n
function_name_of _ = no_word

abbrev pub no_function : Fun
no_function = record { params = []; receiver = None; name = no_word; values = []; result = None; body = None }

abbrev pub written_body : Cst Token → Option FunBody
written_body (left x) = body_of x
written_body _ = None

abbrev pub function_of : Cst Token → Fun
function_of (node (pair word (pair ps (pair n (pair (pair o (pair vs c)) (pair ty x)))))) =
    record { params = parameters_of_type_of ps; receiver = receiver_of n; name = function_name_of n; values = function_parameters_of vs; result = written_type ty; body = written_body x }
function_of _ = no_function

-- ---- properties

-- a getter from its head and its body
abbrev pub getter_of : Cst Token → Option Token → FunBody → Option Getter
getter_of (node (pair g (pair o (pair c ty)))) last b = Some (record { span = between (first_of g) last; ty = written_type ty; body = b })
getter_of _ last b = None

abbrev pub setter_of : Cst Token → Option Setter
setter_of (node (pair s (pair (pair o (pair n c)) x))) =
    elim (body_of x) as (λ _. Option Setter) [ Some b ↦ Some (record { span = span_of (pair s (pair (pair o (pair n c)) x)); name = name_of n; body = b }) | None ↦ None ]
setter_of _ = None

abbrev pub setter_on_line_of : Cst Token → Option Setter
setter_on_line_of (node x) = setter_of x
setter_on_line_of _ = None

-- behind a block; a `val` may have none
abbrev pub setter_behind_block_of : Cst Token → Option Setter
setter_behind_block_of (node x) = setter_of (node x)
setter_behind_block_of (left x) = setter_of x
setter_behind_block_of _ = None

-- behind an expression
abbrev pub setter_behind_value_of : Cst Token → Option Setter
setter_behind_value_of (node x) = setter_on_line_of (node x)
setter_behind_value_of (left x) = setter_on_line_of x
setter_behind_value_of _ = None

abbrev pub property_with : Bool → Word → Option «Type» → Cst Token → Prop
property_with var n ty (node (pair g (left (pair b s)))) =
    record { is_var = var; name = n; ty = ty; value = None; getter = getter_of g (last_of b) (fun_body.Block (block_statements b)); setter = setter_behind_block_of s }
property_with var n ty (node (pair g (right (pair (pair assign x) s)))) =
    record { is_var = var; name = n; ty = ty; value = None; getter = getter_of g (last_of x) (fun_body.Expr (expression_of x)); setter = setter_behind_value_of s }
property_with var n ty (left (pair assign x)) = record { is_var = var; name = n; ty = ty; value = Some (expression_of x); getter = None; setter = None }
property_with var n ty (left (left (pair assign x))) = record { is_var = var; name = n; ty = ty; value = Some (expression_of x); getter = None; setter = None }
property_with var n ty (left (right x)) = property_with var n ty x
property_with var n ty (left (node x)) = property_with var n ty (node x)
property_with var n ty (right (node x)) = property_with var n ty (node x)
property_with var n ty _ = record { is_var = var; name = n; ty = ty; value = None; getter = None; setter = None }

abbrev pub behind_word : Bool → Cst Token → Prop
behind_word var (pair w (pair n (pair ty x))) = property_with var (name_of n) (written_type ty) x
behind_word var _ = record { is_var = var; name = no_word; ty = None; value = None; getter = None; setter = None }

abbrev pub property_of : Cst Token → Prop
property_of (node (left x)) = behind_word true x
property_of (node (right x)) = behind_word false x
property_of _ = record { is_var = false; name = no_word; ty = None; value = None; getter = None; setter = None }

-- ---- members

abbrev pub modified_mods : Cst Token → List Mod
modified_mods (node (left (pair (leaf t) x))) = mod_of t ∷ modified_mods x
modified_mods (node (right (left (pair (leaf t) x)))) = mod_of t ∷ modified_mods x
modified_mods _ = []

abbrev pub modified_kind : Cst Token → MemberKind
modified_kind (node (left (pair (leaf t) x))) = modified_kind x
modified_kind (node (right (left (pair (leaf t) x)))) = modified_kind x
modified_kind (node (right (right (left x)))) = member_kind.Fun (function_of x)
modified_kind (node (right (right (right x)))) = member_kind.Prop (property_of x)
modified_kind _ = member_kind.Init []

abbrev pub modified_of : Cst Token → Member
modified_of x = record { span = span_of x; mods = modified_mods x; kind = modified_kind x }

abbrev pub member_of : Cst Token → Member
member_of (node (left (pair i x))) = record { span = span_of (pair i x); mods = []; kind = member_kind.Init (block_statements x) }
member_of (node (right x)) = modified_of x
member_of (node x) = modified_of x
member_of x = record { span = no_span; mods = []; kind = member_kind.Init [] }

abbrev mutual
  pub members_of : Cst Token → List Member
  members_of (node (left (pair x more))) = member_of x ∷ members_behind more
  members_of _ = []

  pub more_members_of : Cst Token → List Member
  more_members_of (node (left (left (pair semi more)))) = more_members_of more
  more_members_of (node (left (right (pair x more)))) = member_of x ∷ members_behind more
  more_members_of _ = []

  pub members_behind : Cst Token → List Member
  members_behind (node (left (left (pair semi more)))) = more_members_of more
  members_behind (node (left (right (node (pair x more))))) = member_of x ∷ members_behind more
  members_behind _ = []

-- ---- classes

abbrev pub constructor_parameter_of : Cst Token → List ClassParam
constructor_parameter_of (node (pair ms (pair (left (leaf w)) (pair n (pair colon (pair ty x)))))) =
    record { span = span_of (pair ms (pair (leaf w) (pair n (pair colon (pair ty x))))); mods = modifiers_of ms; is_val = is_val w.kind; is_var = is_var w.kind; name = name_of n; ty = type_of ty; default = value_of x } ∷ []
constructor_parameter_of (node (pair ms (pair y (pair n (pair colon (pair ty x)))))) =
    record { span = span_of (pair ms (pair n (pair colon (pair ty x)))); mods = modifiers_of ms; is_val = false; is_var = false; name = name_of n; ty = type_of ty; default = value_of x } ∷ []
constructor_parameter_of _ = []

abbrev pub constructor_parameters_of : Cst Token → List ClassParam
constructor_parameters_of (node (left (pair x (left (pair comma more))))) = constructor_parameter_of x ++ constructor_parameters_of more
constructor_parameters_of (node (left (pair x y))) = constructor_parameter_of x
constructor_parameters_of _ = []

abbrev pub primary_of_class : Cst Token → Option (List ClassParam)
primary_of_class (left (pair w (pair o (pair x c)))) = Some (constructor_parameters_of x)
primary_of_class _ = None

abbrev pub supertype_of : Cst Token → List Super
supertype_of (node (pair ty x)) = record { span = span_of (pair ty x); ty = type_of ty; args = written_arguments_of x } ∷ []
supertype_of _ = []

abbrev pub supertypes_of : Cst Token → List Super
supertypes_of (node (left (node (pair x (left (pair comma more)))))) = supertype_of x ++ supertypes_of more
supertypes_of (node (left (node (pair x y)))) = supertype_of x
supertypes_of _ = []

abbrev pub supers_of : Cst Token → List Super
supers_of (left (pair colon (pair x (left (pair comma more))))) = supertype_of x ++ supertypes_of more
supers_of (left (pair colon (pair x y))) = supertype_of x
supers_of _ = []

abbrev pub constant_of : Cst Token → List Constant
constant_of (node (pair n x)) = record { span = span_of (pair n x); name = name_of n; args = written_arguments_of x } ∷ []
constant_of _ = []

abbrev pub constants_of : Cst Token → List Constant
constants_of (node (left (pair x (left (pair comma more))))) = constant_of x ++ constants_of more
constants_of (node (left (pair x y))) = constant_of x
constants_of _ = []

-- of the body of an enum or of another class
abbrev pub body_constants : Cst Token → List Constant
body_constants (left (node (pair o (pair x (pair y c))))) = constants_of x
body_constants _ = []

abbrev pub body_members : Cst Token → List Member
body_members (left (node (pair o (pair x (pair (left (pair semi y)) c))))) = members_of y
body_members (left (node (pair o (pair x (pair y c))))) = []
body_members (left (node (pair o (pair x c)))) = members_of x
body_members _ = []

abbrev pub class_of_node : Cst Token → Class
class_of_node (node (pair w (pair n (pair ps (pair p (pair ss b)))))) = record {
  form = form.Class;
  name = name_of n;
  params = parameters_of_type_of ps;
  primary = primary_of_class p;
  supers = supers_of ss;
  constants = body_constants b;
  members = body_members b;
}
class_of_node _ = record { form = form.Class; name = no_word; params = []; primary = None; supers = []; constants = []; members = [] }

abbrev pub interface_of : Cst Token → Class
interface_of (node (pair w (pair n (pair ps (pair ss b))))) = record { form = form.Interface; name = name_of n; params = parameters_of_type_of ps; primary = None; supers = supers_of ss; constants = []; members = body_members b }
interface_of _ = record { form = form.Interface; name = no_word; params = []; primary = None; supers = []; constants = []; members = [] }

abbrev pub object_of : Cst Token → Class
object_of (node (pair w (pair n (pair ss b)))) = record { form = form.Object; name = name_of n; params = []; primary = None; supers = supers_of ss; constants = []; members = body_members b }
object_of _ = record { form = form.Object; name = no_word; params = []; primary = None; supers = []; constants = []; members = [] }

-- ---- declarations

abbrev pub declaration_mods : Cst Token → List Mod
declaration_mods (node (left (pair (leaf t) x))) = mod_of t ∷ declaration_mods x
declaration_mods (node (right (left (pair (leaf t) x)))) = mod_of t ∷ declaration_mods x
declaration_mods (node (right (right (left (pair (leaf t) x))))) = mod_of t ∷ declaration_mods x
declaration_mods _ = []

abbrev pub function_or_property_of : Cst Token → DeclKind
function_or_property_of (left x) = decl_kind.Fun (function_of x)
function_or_property_of (right x) = decl_kind.Prop (property_of x)
function_or_property_of x = decl_kind.Fun (function_of x)

abbrev pub declaration_kind : Cst Token → DeclKind
declaration_kind (node (left (pair (leaf t) x))) = declaration_kind x
declaration_kind (node (right (left (pair (leaf t) x)))) = declaration_kind x
declaration_kind (node (right (right (left (pair (leaf t) x))))) = declaration_kind x
declaration_kind (node (right (right (right (left x))))) = decl_kind.Class (class_of_node x)
declaration_kind (node (right (right (right (right (left x)))))) = decl_kind.Class (interface_of x)
declaration_kind (node (right (right (right (right (right (left x))))))) = decl_kind.Class (object_of x)
declaration_kind (node (right (right (right (right (right (right x))))))) = function_or_property_of x
declaration_kind _ = decl_kind.Fun no_function

abbrev pub declaration_of : Cst Token → Decl
declaration_of x = record { span = span_of x; mods = declaration_mods x; kind = declaration_kind x }

abbrev mutual
  pub declarations_of : Cst Token → List Decl
  declarations_of (node (left (pair x more))) = declaration_of x ∷ declarations_behind more
  declarations_of _ = []

  pub more_declarations_of : Cst Token → List Decl
  more_declarations_of (node (left (left (pair semi more)))) = more_declarations_of more
  more_declarations_of (node (left (right (pair x more)))) = declaration_of x ∷ declarations_behind more
  more_declarations_of _ = []

  pub declarations_behind : Cst Token → List Decl
  declarations_behind (node (left (left (pair semi more)))) = more_declarations_of more
  declarations_behind (node (left (right (node (pair x more))))) = declaration_of x ∷ declarations_behind more
  declarations_behind _ = []

-- ---- files

abbrev pub path_of : Cst Token → List Word
path_of (node (pair (leaf t) (left (pair dot (right x))))) = word_of t ∷ path_of x
path_of (node (pair (leaf t) x)) = word_of t ∷ []
path_of _ = []

-- whether `.*` stands behind the path
abbrev pub is_star : Cst Token → Bool
is_star (node (pair (leaf t) (left (pair dot (right x))))) = is_star x
is_star (node (pair (leaf t) (left (pair dot (left x))))) = true
is_star _ = false

abbrev pub imports_of : Cst Token → List Import
imports_of (pair (node (pair w x)) more) = record { span = span_of (pair w x); path = path_of x; star = is_star x } ∷ imports_of more
imports_of _ = []

abbrev pub package_of : Cst Token → List Word
package_of (left (pair w x)) = words_of x
package_of _ = []

abbrev pub file_of : Cst Token → File
file_of (node (pair p (pair is ds))) = record { span = span_of (pair p (pair is ds)); «package» = package_of p; imports = imports_of is; decls = declarations_of ds }
file_of _ = record { span = no_span; «package» = []; imports = []; decls = [] }
