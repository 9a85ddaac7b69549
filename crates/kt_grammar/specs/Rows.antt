-- The grammar of files, declarations, statements, expressions and types, one equation a row. A mark is part of a token, so where a
-- token must stand on the line of the one before, its test says so.
use Rattle.std.specs.Prelude.{Bool, true, false, not, ◌&&◌, ◌||◌}
use Rattle.grammars.specs.Grammar.{Test, next, Part, nothing, one, row, both, choose, many, guard}
use Rattle.kt_lexer.specs.declared.token.Token.{Token}
use Rattle.kt_lexer.specs.declared.token.Keyword.{Keyword}
use Rattle.kt_lexer.specs.declared.token.Keyword.TheVariants as keyword
use Rattle.kt_lexer.specs.declared.token.Operator.{Operator}
use Rattle.kt_lexer.specs.declared.token.Operator.TheVariants as operator
use Rattle.kt_grammar.specs.Tokens.{is_op, is_word, is_name, is_out, is_catch, is_finally, is_label, is_label_use, unmarked, marked, is_atom, is_string_open, is_string_text, is_string_name, is_hole_open, is_hole_close, is_string_close, is_piece, is_jump, is_break, is_prefix, is_postfix, is_dot, is_equality, is_comparison, is_in, is_is, is_as, is_range, is_sum, is_product, is_assignment, is_local, is_loop, begins_type, begins_type_argument, begins_expression, begins_statement, begins_argument, begins_condition, begins_trailing, is_import, is_constructor, is_init, is_get, is_set, is_abstract, is_enum, is_modifier, is_modifier_name, begins_declaration, begins_parameter}
use Rattle.kt_grammar.specs.Lookahead.{suffix_follows, argument_name, parameters, arguments_form, result_follows, out_type, catch_clause, finally_clause, else_follows, modifier_follows}

-- where a function or a property stands
pub data Site : Type 0 where
  top_level : Site
  in_class : Site
  in_interface : Site

pub data Row : Type 0 where
  file : Row
  import_ : Row
  import_path : Row
  declarations : Row
  more_declarations : Row
  after_declaration : Row
  -- whether `abstract` stands before it, and whether `enum` does
  declaration : Bool → Bool → Row
  -- whether `enum` stands before it
  class_ : Bool → Row
  interface_ : Row
  object_ : Row
  constructor_parameters : Row
  constructor_parameter : Row
  supertypes : Row
  supertype : Row
  enum_body : Row
  constants : Row
  constant : Row
  class_body : Site → Row
  members : Site → Row
  more_members : Site → Row
  after_member : Site → Row
  member : Site → Row
  -- whether `abstract` stands before it
  modified_member : Bool → Site → Row
  function : Bool → Site → Row
  function_name : Site → Row
  function_parameters : Row
  function_parameter : Row
  body : Row
  property : Bool → Site → Row
  -- whether the property is a `var`
  accessors : Bool → Row
  getter_head : Row
  setter : Row
  type_parameters : Row
  more_type_parameters : Row
  type_parameter : Row
  type_ : Row
  dotted : Row
  bracketed_type : Row
  operand_type : Row
  type_before_arrow : Row
  bracketed_before_arrow : Row
  types : Row
  type_arguments : Row
  type_argument : Row
  more_type_arguments : Row
  expression : Row
  conjunction : Row
  equality : Row
  comparison : Row
  named : Row
  elvis : Row
  infix_ : Row
  range : Row
  sum : Row
  product : Row
  cast : Row
  prefix : Row
  postfix : Row
  suffix : Row
  call : Row
  trailing : Row
  arguments : Row
  argument : Row
  expressions : Row
  primary : Row
  string : Row
  super_ : Row
  conditional : Row
  when_ : Row
  branches : Row
  more_branches : Row
  after_branch : Row
  branch : Row
  conditions : Row
  condition : Row
  try_ : Row
  catch_ : Row
  lambda : Row
  names : Row
  typed_name : Row
  parameter : Row
  bare_names : Row
  jump : Row
  block : Row
  statements : Row
  more_statements : Row
  after_statement : Row
  statement : Row
  local : Row
  loop : Row

-- ---- parts that rows share

abbrev pub op : Operator → Part Row Token
op k = one (is_op k)

abbrev pub word : Keyword → Part Row Token
word k = one (is_word k)

-- the part, wherever a token stands that the test holds of
abbrev pub maybe : (Token → Bool) → Part Row Token → Part Row Token
maybe f a = choose (next f) a nothing

-- an operator on the same line and its right operand, any number of times
abbrev pub turns : (Token → Bool) → Row → Part Row Token
turns f n = many (next (unmarked f)) (both (one (unmarked f)) (row n))

abbrev pub in_brackets : Part Row Token → Part Row Token
in_brackets a = both (op operator.OpenRound) (both a (op operator.CloseRound))

abbrev pub question_marks : Part Row Token
question_marks = many (next (is_op operator.Question)) (op operator.Question)

-- the names behind the first of a dotted name
abbrev pub dotted_names : Part Row Token
dotted_names = many (next (is_op operator.Dot)) (both (op operator.Dot) (one is_name))

-- a name with type arguments where the test holds, or a type in brackets of the row, and any number of `?`
abbrev pub a_type : Test Token → Row → Part Row Token
a_type f n = both (choose (next (is_op operator.OpenRound)) (row n) (both (row dotted) (choose f (row type_arguments) nothing)))
    question_marks

-- `->` and a type
abbrev pub to_type : Row → Part Row Token
to_type n = both (op operator.Arrow) (row n)

-- what stands behind the first type in brackets: further types and a result, or a result, with none where the test fails
abbrev pub behind_first_type : Test Token → Row → Part Row Token
behind_first_type f n = choose (next (is_op operator.Comma)) (both (op operator.Comma) (both (row types) (both (op operator.CloseRound) (to_type n))))
    (both (op operator.CloseRound) (choose f (to_type n) nothing))

-- types in brackets: those of a function's parameters before its result, or one type
abbrev pub brackets : Test Token → Row → Part Row Token
brackets f n = both (op operator.OpenRound) (choose (next (is_op operator.CloseRound)) (both (op operator.CloseRound) (to_type n))
    (both (row type_) (behind_first_type f n)))

abbrev pub colon_type : Part Row Token
colon_type = maybe (is_op operator.Colon) (both (op operator.Colon) (row type_))

abbrev pub value : Part Row Token
value = both (op operator.Assign) (row expression)

-- What the test picks stands on a line of its own or behind `;`. No `;` stands first, and behind one any number may.
abbrev pub listed : (Token → Bool) → Row → Row → Part Row Token
listed f n after = maybe f (both (row n) (row after))

abbrev pub more_listed : (Token → Bool) → Row → Row → Row → Part Row Token
more_listed f n more after = maybe (λ t. is_op operator.Semicolon t || f t)
    (choose (next (is_op operator.Semicolon)) (both (op operator.Semicolon) (row more)) (both (row n) (row after)))

abbrev pub listed_behind : (Token → Bool) → Row → Row → Row → Part Row Token
listed_behind f n more after = maybe (λ t. is_op operator.Semicolon t || marked f t)
    (choose (next (is_op operator.Semicolon)) (both (op operator.Semicolon) (row more)) (guard (next (marked f)) (both (row n) (row after))))

-- ---- parts of declarations

abbrev pub begins_member : Site → Token → Bool
begins_member in_interface t = is_modifier t || (is_word keyword.Fun t || is_local t)
begins_member site t = is_init t || (is_modifier t || (is_word keyword.Fun t || is_local t))

-- behind the name of a receiver's type
abbrev pub behind_receiver : Token → Bool
behind_receiver t = is_op operator.Less t || (is_op operator.Question t || is_dot t)

abbrev pub modifiers : Part Row Token
modifiers = many modifier_follows (one is_modifier)

-- a modifier by which the grammar does not go: of a declaration, of a member
abbrev pub is_plain : Token → Bool
is_plain t = is_modifier t && not (is_abstract t || is_enum t)

abbrev pub is_plain_of_member : Token → Bool
is_plain_of_member t = is_modifier t && not (is_abstract t)

-- Behind a comma a line that begins with a modifier begins the next declaration.
abbrev pub begins_supertype : Token → Bool
begins_supertype t = begins_type t && not (marked is_modifier_name t)

-- of a class, a function or an interface, where some are written
abbrev pub parameters_of_type : Part Row Token
parameters_of_type = maybe (is_op operator.Less) (row type_parameters)

abbrev pub supers : Part Row Token
supers = maybe (is_op operator.Colon) (both (op operator.Colon) (both (row supertype) (maybe (is_op operator.Comma) (both (op operator.Comma) (row supertypes)))))

abbrev pub a_body : Row → Part Row Token
a_body n = maybe (is_op operator.OpenBrace) (row n)

abbrev pub written_arguments : Part Row Token
written_arguments = maybe (is_op operator.OpenRound) (in_brackets (row arguments))

abbrev pub primary_constructor : Part Row Token
primary_constructor = maybe (λ t. is_constructor t || is_op operator.OpenRound t) (both (maybe is_constructor (one is_constructor)) (in_brackets (row constructor_parameters)))

-- the body of a class, with constants first where it is an enum
abbrev pub body_of_class : Bool → Row
body_of_class true = enum_body
body_of_class false = class_body in_class

abbrev pub default : Part Row Token
default = maybe (is_op operator.Assign) value

-- none with `abstract`
abbrev pub body_of_function : Bool → Part Row Token
body_of_function true = nothing
body_of_function false = maybe (λ t. is_op operator.OpenBrace t || is_op operator.Assign t) (row body)

-- `=` and a value, or a getter and perhaps a setter
abbrev pub value_or_accessors : Bool → Part Row Token
value_or_accessors var = choose (next (is_op operator.Assign)) value (row (accessors var))

-- what stands behind the name and the type of a property: nothing with `abstract`, something at the top of a file, no value in an interface
abbrev pub property_value : Bool → Bool → Site → Part Row Token
property_value var true site = nothing
property_value var false top_level = value_or_accessors var
property_value var false in_class = maybe (λ t. is_op operator.Assign t || is_get t) (value_or_accessors var)
property_value var false in_interface = maybe is_get (row (accessors var))

-- A `var` with a getter has a setter. Behind an expression it begins a line, since `set` is an infix name there else.
abbrev pub setter_behind_block : Bool → Part Row Token
setter_behind_block true = row setter
setter_behind_block false = maybe is_set (row setter)

abbrev pub setter_on_line : Part Row Token
setter_on_line = guard (next (marked is_set)) (row setter)

abbrev pub setter_behind_value : Bool → Part Row Token
setter_behind_value true = setter_on_line
setter_behind_value false = maybe (marked is_set) setter_on_line

abbrev pub property_behind : Keyword → Bool → Bool → Site → Part Row Token
property_behind k var abstract site = both (word k) (both (one is_name) (both colon_type (property_value var abstract site)))

-- a function or a property; with `abstract` no property stands at the top of a file
abbrev pub function_or_property : Bool → Part Row Token
function_or_property true = row (function true top_level)
function_or_property false = choose (next (is_word keyword.Fun)) (row (function false top_level)) (row (property false top_level))

-- ---- what may follow an operand, level by level

abbrev pub or_turns : Part Row Token
or_turns = many (next (is_op operator.Or)) (both (op operator.Or) (row conjunction))

abbrev pub and_turns : Part Row Token
and_turns = many (next (is_op operator.And)) (both (op operator.And) (row equality))

abbrev pub equality_turns : Part Row Token
equality_turns = turns is_equality comparison

abbrev pub comparison_turn : Part Row Token
comparison_turn = choose (next (unmarked is_comparison)) (both (one (unmarked is_comparison)) (row named)) nothing

abbrev pub named_turn : Part Row Token
named_turn = choose (next (unmarked is_in)) (both (one (unmarked is_in)) (row elvis)) (both (one (unmarked is_is)) (row operand_type))

abbrev pub named_turns : Part Row Token
named_turns = many (next (unmarked (λ t. is_in t || is_is t))) named_turn

abbrev pub elvis_turns : Part Row Token
elvis_turns = many (next (is_op operator.Elvis)) (both (op operator.Elvis) (row infix_))

-- the name and its right operand stand on the same line
abbrev pub infix_turns : Part Row Token
infix_turns = many (next (unmarked is_name)) (both (one (unmarked is_name)) (guard (next (unmarked begins_expression)) (row range)))

abbrev pub range_turns : Part Row Token
range_turns = turns is_range sum

abbrev pub sum_turns : Part Row Token
sum_turns = turns is_sum product

abbrev pub product_turns : Part Row Token
product_turns = turns is_product cast

abbrev pub cast_turns : Part Row Token
cast_turns = turns is_as operand_type

-- all that may follow a postfix expression
abbrev pub operator_turns : Part Row Token
operator_turns = both cast_turns (both product_turns (both sum_turns (both range_turns (both infix_turns (both elvis_turns
    (both named_turns (both comparison_turn (both equality_turns (both and_turns or_turns)))))))))

-- a lambda on the same line
abbrev pub a_trailing : Part Row Token
a_trailing = guard (next (unmarked begins_trailing)) (row trailing)

-- ---- the rows

abbrev pub grammar : Row → Part Row Token
-- files
grammar file = both (maybe (is_word keyword.Package) (both (word keyword.Package) (row dotted))) (both (many (next is_import) (row import_)) (row declarations))
grammar import_ = both (one is_import) (row import_path)
grammar import_path = both (one is_name) (maybe (is_op operator.Dot) (both (op operator.Dot) (choose (next (is_op operator.TimesBehindDot)) (op operator.TimesBehindDot) (row import_path))))
-- declarations
grammar declarations = listed begins_declaration (declaration false false) after_declaration
grammar more_declarations = more_listed begins_declaration (declaration false false) more_declarations after_declaration
grammar after_declaration = listed_behind begins_declaration (declaration false false) more_declarations after_declaration
grammar (declaration abstract enum) = choose (next is_abstract) (both (one is_abstract) (row (declaration true enum))) (choose (next is_enum) (both (one is_enum) (row (declaration abstract true)))
    (choose (next is_plain) (both (one is_plain) (row (declaration abstract enum))) (choose (next (is_word keyword.Class)) (row (class_ enum))
    (choose (next (is_word keyword.Interface)) (row interface_) (choose (next (is_word keyword.Object)) (row object_) (function_or_property abstract))))))
grammar (class_ enum) = both (word keyword.Class) (both (one is_name) (both parameters_of_type (both primary_constructor (both supers (a_body (body_of_class enum))))))
grammar interface_ = both (word keyword.Interface) (both (one is_name) (both parameters_of_type (both supers (a_body (class_body in_interface)))))
grammar object_ = both (word keyword.Object) (both (one is_name) (both supers (a_body (class_body in_class))))
grammar constructor_parameters = maybe (λ t. is_local t || begins_parameter t) (both (row constructor_parameter) (maybe (is_op operator.Comma) (both (op operator.Comma) (row constructor_parameters))))
grammar constructor_parameter = both modifiers (both (maybe is_local (one is_local)) (both (one is_name) (both (op operator.Colon) (both (row type_) default))))
grammar supertypes = maybe begins_supertype (guard (next begins_supertype) (both (row supertype) (maybe (is_op operator.Comma) (both (op operator.Comma) (row supertypes)))))
grammar supertype = both (row type_) written_arguments
grammar enum_body = both (op operator.OpenBrace) (both (row constants) (both (maybe (is_op operator.Semicolon) (both (op operator.Semicolon) (row (members in_class)))) (op operator.CloseBrace)))
grammar constants = maybe is_name (both (row constant) (maybe (is_op operator.Comma) (both (op operator.Comma) (row constants))))
grammar constant = both (one is_name) written_arguments
grammar (class_body site) = both (op operator.OpenBrace) (both (row (members site)) (op operator.CloseBrace))
grammar (members site) = listed (begins_member site) (member site) (after_member site)
grammar (more_members site) = more_listed (begins_member site) (member site) (more_members site) (after_member site)
grammar (after_member site) = listed_behind (begins_member site) (member site) (more_members site) (after_member site)
-- an interface has no `init` block
grammar (member in_interface) = row (modified_member false in_interface)
grammar (member site) = choose (next is_init) (both (one is_init) (row block)) (row (modified_member false site))
grammar (modified_member abstract site) = choose (next is_abstract) (both (one is_abstract) (row (modified_member true site))) (choose (next is_plain_of_member) (both (one is_plain_of_member) (row (modified_member abstract site)))
    (choose (next (is_word keyword.Fun)) (row (function abstract site)) (row (property abstract site))))
grammar (function abstract site) = both (word keyword.Fun) (both parameters_of_type (both (row (function_name site)) (both (in_brackets (row function_parameters)) (both colon_type (body_of_function abstract)))))
-- with a receiver only at the top of a file
grammar (function_name top_level) = choose (next (is_op operator.OpenRound)) (both (in_brackets (row type_)) (both (op operator.Dot) (one is_name)))
    (both (one is_name) (maybe behind_receiver (both (maybe (is_op operator.Less) (row type_arguments)) (both question_marks (both (one is_dot) (one is_name))))))
grammar (function_name site) = one is_name
grammar function_parameters = maybe begins_parameter (both (row function_parameter) (maybe (is_op operator.Comma) (both (op operator.Comma) (row function_parameters))))
grammar function_parameter = both modifiers (both (one is_name) (both (op operator.Colon) (both (row type_) default)))
grammar body = choose (next (is_op operator.OpenBrace)) (row block) value
grammar (property abstract site) = choose (next (is_word keyword.Var)) (property_behind keyword.Var true abstract site) (property_behind keyword.Val false abstract site)
grammar (accessors var) = both (row getter_head) (choose (next (is_op operator.OpenBrace)) (both (row block) (setter_behind_block var)) (both value (setter_behind_value var)))
grammar getter_head = both (one is_get) (both (op operator.OpenRound) (both (op operator.CloseRound) colon_type))
grammar setter = both (one is_set) (both (in_brackets (one is_name)) (row body))
grammar type_parameters = both (op operator.Less) (both (row type_parameter) (both (row more_type_parameters) (op operator.Greater)))
grammar more_type_parameters = maybe (is_op operator.Comma) (both (op operator.Comma) (maybe begins_parameter (both (row type_parameter) (row more_type_parameters))))
grammar type_parameter = both modifiers (both (one is_name) colon_type)
-- types
grammar type_ = a_type (next (is_op operator.Less)) bracketed_type
grammar bracketed_type = brackets (next (is_op operator.Arrow)) type_
-- behind `as` and `is` in an expression
grammar operand_type = a_type arguments_form bracketed_type
-- in a condition, or of a lambda's parameter
grammar type_before_arrow = a_type (next (is_op operator.Less)) bracketed_before_arrow
grammar bracketed_before_arrow = brackets result_follows type_before_arrow
grammar dotted = both (one is_name) dotted_names
grammar types = maybe begins_type (both (row type_) (maybe (is_op operator.Comma) (both (op operator.Comma) (row types))))
grammar type_arguments = both (op operator.Less) (both (row type_argument) (both (row more_type_arguments) (op operator.Greater)))
grammar more_type_arguments = maybe (is_op operator.Comma) (both (op operator.Comma)
    (maybe begins_type_argument (both (row type_argument) (row more_type_arguments))))
grammar type_argument = choose (next (is_op operator.Times)) (op operator.Times) (choose (next (is_word keyword.In)) (both (word keyword.In) (row type_))
    (choose out_type (both (one is_out) (row type_)) (row type_)))
-- expressions, from `||` to what binds strongest
grammar expression = both (row conjunction) or_turns
grammar conjunction = both (row equality) and_turns
grammar equality = both (row comparison) equality_turns
grammar comparison = both (row named) comparison_turn
grammar named = both (row elvis) named_turns
grammar elvis = both (row infix_) elvis_turns
grammar infix_ = both (row range) infix_turns
grammar range = both (row sum) range_turns
grammar sum = both (row product) sum_turns
grammar product = both (row cast) product_turns
grammar cast = both (row prefix) cast_turns
grammar prefix = choose (next is_prefix) (both (one is_prefix) (row prefix)) (row postfix)
grammar postfix = both (row primary) (many suffix_follows (row suffix))
grammar suffix = choose (next (unmarked is_postfix)) (one (unmarked is_postfix)) (choose (next is_dot) (both (one is_dot) (one is_name))
    (choose (next (unmarked (is_op operator.OpenSquare))) (both (one (unmarked (is_op operator.OpenSquare))) (both (row expression) (both (maybe (is_op operator.Comma) (both (op operator.Comma) (row expressions))) (op operator.CloseSquare))))
    (choose (next (unmarked (is_op operator.Less))) (guard (next (unmarked (is_op operator.Less))) (both (row type_arguments) (row call))) (row call))))
-- calls
grammar call = choose (next (unmarked (is_op operator.OpenRound))) (both (both (one (unmarked (is_op operator.OpenRound))) (both (row arguments) (op operator.CloseRound))) (maybe (unmarked begins_trailing) a_trailing)) a_trailing
grammar trailing = both (maybe is_label (one is_label)) (row lambda)
grammar arguments = maybe begins_argument (both (row argument) (maybe (is_op operator.Comma) (both (op operator.Comma) (row arguments))))
grammar argument = both (choose argument_name (both (one is_name) (op operator.Assign)) nothing) (both (maybe (is_op operator.Times) (op operator.Times)) (row expression))
grammar expressions = maybe begins_expression (both (row expression) (maybe (is_op operator.Comma) (both (op operator.Comma) (row expressions))))
-- what stands alone
grammar primary = choose (next is_atom) (one is_atom) (choose (next is_name) (one is_name) (choose (next is_string_open) (row string)
    (choose (next (is_op operator.OpenRound)) (in_brackets (row expression)) (choose (next (is_word keyword.Super)) (row super_)
    (choose (next (is_word keyword.If)) (row conditional) (choose (next (is_word keyword.When)) (row when_) (choose (next (is_word keyword.Try)) (row try_)
    (choose (next is_jump) (row jump) (row lambda)))))))))
grammar string = both (one is_string_open) (both (many (next is_piece) (choose (next is_string_text) (one is_string_text) (choose (next is_string_name) (one is_string_name)
    (both (one is_hole_open) (both (row expression) (one is_hole_close)))))) (one is_string_close))
grammar super_ = both (word keyword.Super) (both (maybe (is_op operator.Less) (both (op operator.Less) (both (row type_) (op operator.Greater)))) (both (op operator.Dot) (one is_name)))
grammar conditional = both (word keyword.If) (both (in_brackets (row expression)) (both (row statement)
    (choose else_follows (both (maybe (is_op operator.Semicolon) (op operator.Semicolon)) (both (word keyword.Else) (row statement))) nothing)))
grammar when_ = both (word keyword.When) (both (maybe (is_op operator.OpenRound)
    (in_brackets (both (maybe (is_word keyword.Val) (both (word keyword.Val) (both (row typed_name) (op operator.Assign)))) (row expression))))
    (both (op operator.OpenBrace) (both (row branches) (op operator.CloseBrace))))
-- no `;` stands first; behind one more may follow
grammar branches = maybe (λ t. is_word keyword.Else t || begins_condition t) (both (row branch) (row after_branch))
grammar more_branches = maybe (λ t. is_op operator.Semicolon t || (is_word keyword.Else t || begins_condition t))
    (choose (next (is_op operator.Semicolon)) (both (op operator.Semicolon) (row more_branches)) (both (row branch) (row after_branch)))
grammar after_branch = maybe (λ t. is_op operator.Semicolon t || (is_word keyword.Else t || marked begins_condition t))
    (choose (next (is_op operator.Semicolon)) (both (op operator.Semicolon) (row more_branches))
    (guard (next (λ t. is_word keyword.Else t || marked begins_condition t)) (both (row branch) (row after_branch))))
grammar branch = both (choose (next (is_word keyword.Else)) (word keyword.Else) (both (row condition) (row conditions))) (both (op operator.Arrow) (row statement))
grammar conditions = maybe (is_op operator.Comma) (both (op operator.Comma) (maybe begins_condition (both (row condition) (row conditions))))
grammar condition = choose (next is_in) (both (one is_in) (row expression)) (choose (next is_is) (both (one is_is) (row type_before_arrow)) (row expression))
grammar try_ = both (word keyword.Try) (both (row block) (choose (next is_catch) (both (row catch_) (both (many catch_clause (row catch_)) (choose finally_clause (both (one is_finally) (row block)) nothing)))
    (both (one is_finally) (row block))))
grammar catch_ = both (one is_catch) (both (in_brackets (both (one is_name) (both (op operator.Colon) (row type_)))) (row block))
grammar lambda = both (op operator.OpenBrace) (choose (next (is_op operator.Arrow)) (both (op operator.Arrow) (both (row statements) (op operator.CloseBrace)))
    (choose parameters (both (row parameter) (both (op operator.Arrow) (both (row statements) (op operator.CloseBrace)))) (both (row statements) (op operator.CloseBrace))))
grammar names = maybe is_name (both (row typed_name) (maybe (is_op operator.Comma) (both (op operator.Comma) (row names))))
grammar parameter = both (both (one is_name) (maybe (is_op operator.Colon) (both (op operator.Colon) (row type_before_arrow))))
    (maybe (is_op operator.Comma) (both (op operator.Comma) (maybe is_name (row parameter))))
grammar bare_names = maybe (is_op operator.Comma) (both (op operator.Comma) (maybe is_name (both (one is_name) (row bare_names))))
grammar typed_name = both (one is_name) colon_type
grammar jump = choose (next (is_word keyword.Return)) (both (word keyword.Return) (both (maybe is_label_use (one is_label_use)) (maybe (unmarked begins_expression) (guard (next (unmarked begins_expression)) (row expression)))))
    (choose (next (is_word keyword.Throw)) (both (word keyword.Throw) (row expression)) (both (one is_break) (maybe is_label_use (one is_label_use))))
-- statements
grammar block = both (op operator.OpenBrace) (both (row statements) (op operator.CloseBrace))
grammar statements = maybe begins_statement (both (row statement) (row after_statement))
grammar more_statements = maybe (λ t. is_op operator.Semicolon t || begins_statement t)
    (choose (next (is_op operator.Semicolon)) (both (op operator.Semicolon) (row more_statements)) (both (row statement) (row after_statement)))
grammar after_statement = maybe (λ t. is_op operator.Semicolon t || marked begins_statement t)
    (choose (next (is_op operator.Semicolon)) (both (op operator.Semicolon) (row more_statements)) (guard (next (marked begins_statement)) (both (row statement) (row after_statement))))
grammar statement = choose (next is_local) (row local) (choose (next is_loop) (row loop) (choose (next is_prefix) (guard (next is_prefix) (row expression))
    (both (row postfix) (choose (next (unmarked is_assignment)) (both (one (unmarked is_assignment)) (row expression)) operator_turns))))
grammar local = both (one is_local) (choose (next (is_op operator.OpenRound))
    (both (in_brackets (both (row typed_name) (maybe (is_op operator.Comma) (both (op operator.Comma) (row names))))) value)
    (both (one is_name) (choose (next (is_op operator.Colon)) (both (op operator.Colon) (both (row type_) (maybe (is_op operator.Assign) value))) value)))
grammar loop = both (maybe is_label (one is_label)) (choose (next (is_word keyword.For))
    (both (word keyword.For) (both (in_brackets (both (choose (next (is_op operator.OpenRound)) (in_brackets (both (one is_name) (row bare_names))) (row typed_name)) (both (word keyword.In) (row expression)))) (row statement)))
    (choose (next (is_word keyword.While)) (both (word keyword.While) (both (in_brackets (row expression)) (row statement)))
    (both (word keyword.Do) (both (row statement) (both (word keyword.While) (in_brackets (row expression)))))))
