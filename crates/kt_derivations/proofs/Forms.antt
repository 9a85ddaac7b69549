-- The rows of the grammar with what decides each choice, and the tables of their first tokens.
use Rattle.std.proofs.Common.{Bool, true, false}
use Rattle.kt_lexer.specs.declared.token.Keyword.{Keyword}
use Rattle.kt_lexer.specs.declared.token.Keyword.TheVariants as keyword
use Rattle.kt_lexer.specs.declared.token.Operator.{Operator}
use Rattle.kt_lexer.specs.declared.token.Operator.TheVariants as operator
use Rattle.kt_grammar.specs.Lookahead as far
use Rattle.kt_grammar.specs.Rows.{Site, Row, top_level, in_class, in_interface, file, import_, import_path, declarations, more_declarations, after_declaration, declaration, class_, interface_, object_, constructor_parameters, constructor_parameter, supertypes, supertype, enum_body, constants, constant, class_body, members, more_members, after_member, member, modified_member, function, function_name, function_parameters, function_parameter, body, property, accessors, getter_head, setter, type_parameters, more_type_parameters, type_parameter, type_, dotted, bracketed_type, operand_type, type_before_arrow, bracketed_before_arrow, types, type_arguments, type_argument, more_type_arguments, expression, conjunction, equality, comparison, named, elvis, infix_, range, sum, product, cast, prefix, postfix, suffix, call, trailing, arguments, argument, expressions, primary, string, super_, conditional, when_, branches, more_branches, after_branch, branch, conditions, condition, try_, catch_, lambda, names, typed_name, parameter, bare_names, jump, block, statements, more_statements, after_statement, statement, local, loop}
use Rattle.bound_grammars.specs.Obeying.{here, there}
use Rattle.bound_grammars.proofs.Checks.{Way, free, ruled, farther, Shape, s_nothing, s_one, s_row, s_both, s_choose, s_many, s_guard, Tables}
use Rattle.kt_derivations.specs.Rules.{far_tests, near_tests}
use Rattle.kt_derivations.proofs.Sights.{like, Seen, unmarked, marked, either, but_not, none_seen, is_op, is_word, is_name, is_catch, is_finally, is_out, is_get, is_set, is_init, is_constructor, is_import, is_abstract, is_enum, is_modifier_name, is_modifier, is_label, is_label_use, is_atom, is_string_open, is_string_text, is_string_name, is_hole_open, is_hole_close, is_string_close, is_piece, is_jump, is_break, is_prefix, is_postfix, is_dot, is_equality, is_comparison, is_in, is_is, is_as, is_range, is_sum, is_product, is_assignment, is_local, is_loop, begins_type, begins_type_argument, begins_postfix, begins_expression, begins_statement, begins_argument, begins_condition, begins_trailing, begins_declaration, begins_parameter}

abbrev pub Form : Type 0
Form = Shape Row like far_tests near_tests

abbrev pub Decision : Type 0
Decision = Way like far_tests near_tests

-- ---- decisions: by the next token, and by rules

abbrev next : Seen → Decision
next s = free s

abbrev pub by_or : Decision
by_or = ruled (is_op operator.Or) here

abbrev pub by_and : Decision
by_and = ruled (is_op operator.And) (there here)

abbrev pub by_equality : Decision
by_equality = ruled (unmarked is_equality) (there (there here))

abbrev pub by_comparison : Decision
by_comparison = ruled (unmarked is_comparison) (there (there (there here)))

abbrev pub by_test : Decision
by_test = ruled (unmarked (either is_in is_is)) (there (there (there (there here))))

abbrev pub by_elvis : Decision
by_elvis = ruled (is_op operator.Elvis) (there (there (there (there (there here)))))

abbrev pub by_infix : Decision
by_infix = ruled (unmarked is_name) (there (there (there (there (there (there here))))))

abbrev pub by_range : Decision
by_range = ruled (unmarked is_range) (there (there (there (there (there (there (there here)))))))

abbrev pub by_sum : Decision
by_sum = ruled (unmarked is_sum) (there (there (there (there (there (there (there (there here))))))))

abbrev pub by_product : Decision
by_product = ruled (unmarked is_product) (there (there (there (there (there (there (there (there (there here)))))))))

abbrev pub by_cast : Decision
by_cast = ruled (unmarked is_as) (there (there (there (there (there (there (there (there (there (there here))))))))))

abbrev pub by_assignment : Decision
by_assignment = ruled (unmarked is_assignment) (there (there (there (there (there (there (there (there (there (there (there here)))))))))))

abbrev pub by_assign : Decision
by_assign = ruled (is_op operator.Assign) (there (there (there (there (there (there (there (there (there (there (there (there here))))))))))))

abbrev pub by_value : Decision
by_value = ruled (unmarked begins_expression) (there (there (there (there (there (there (there (there (there (there (there (there (there here)))))))))))))

abbrev pub by_trailing : Decision
by_trailing = ruled (unmarked begins_trailing) (there (there (there (there (there (there (there (there (there (there (there (there (there (there here))))))))))))))

abbrev pub by_less : Decision
by_less = ruled (is_op operator.Less) (there (there (there (there (there (there (there (there (there (there (there (there (there (there (there here)))))))))))))))

abbrev pub by_dot : Decision
by_dot = ruled (is_op operator.Dot) (there (there (there (there (there (there (there (there (there (there (there (there (there (there (there (there here))))))))))))))))

abbrev pub by_arrow : Decision
by_arrow = ruled (is_op operator.Arrow) (there (there (there (there (there (there (there (there (there (there (there (there (there (there (there (there (there here)))))))))))))))))

abbrev pub by_question : Decision
by_question = ruled (is_op operator.Question) (there (there (there (there (there (there (there (there (there (there (there (there (there (there (there (there (there (there here))))))))))))))))))

abbrev pub suffix_follows : Decision
suffix_follows = farther far.suffix_follows here

abbrev pub arguments_form : Decision
arguments_form = farther far.arguments_form (there here)

abbrev pub result_follows : Decision
result_follows = farther far.result_follows (there (there here))

abbrev pub argument_name : Decision
argument_name = farther far.argument_name (there (there (there here)))

abbrev pub parameters : Decision
parameters = farther far.parameters (there (there (there (there here))))

abbrev pub out_type : Decision
out_type = farther far.out_type (there (there (there (there (there here)))))

abbrev pub catch_clause : Decision
catch_clause = farther far.catch_clause (there (there (there (there (there (there here))))))

abbrev pub finally_clause : Decision
finally_clause = farther far.finally_clause (there (there (there (there (there (there (there here)))))))

abbrev pub else_follows : Decision
else_follows = farther far.else_follows (there (there (there (there (there (there (there (there here))))))))

abbrev pub modifier_follows : Decision
modifier_follows = farther far.modifier_follows (there (there (there (there (there (there (there (there (there here)))))))))

-- ---- parts that rows share

abbrev nothing : Form
nothing = s_nothing

abbrev one : Seen → Form
one s = s_one s

abbrev row : Row → Form
row n = s_row n

abbrev both : Form → Form → Form
both a b = s_both a b

abbrev choose : Decision → Form → Form → Form
choose w a b = s_choose w a b

abbrev many : Decision → Form → Form
many w a = s_many w a

abbrev guard : Seen → Form → Form
guard s a = s_guard s a

abbrev op : Operator → Form
op k = one (is_op k)

abbrev word : Keyword → Form
word k = one (is_word k)

abbrev maybe : Seen → Form → Form
maybe s a = choose (next s) a nothing

abbrev turns : Decision → Seen → Row → Form
turns w s n = many w (both (one (unmarked s)) (row n))

abbrev begins_member : Site → Seen
begins_member in_interface = either is_modifier (either (is_word keyword.Fun) is_local)
begins_member site = either is_init (either is_modifier (either (is_word keyword.Fun) is_local))

abbrev behind_receiver : Seen
behind_receiver = either (is_op operator.Less) (either (is_op operator.Question) is_dot)

abbrev is_plain : Seen
is_plain = but_not is_modifier (either is_abstract is_enum)

abbrev is_plain_of_member : Seen
is_plain_of_member = but_not is_modifier is_abstract

abbrev begins_supertype : Seen
begins_supertype = but_not begins_type (marked is_modifier_name)

abbrev body_of_class : Bool → Row
body_of_class true = enum_body
body_of_class false = class_body in_class

abbrev in_brackets : Form → Form
in_brackets a = both (op operator.OpenRound) (both a (op operator.CloseRound))

abbrev question_marks : Form
question_marks = many by_question (op operator.Question)

abbrev dotted_names : Form
dotted_names = many by_dot (both (op operator.Dot) (one is_name))

abbrev a_type : Decision → Row → Form
a_type f n = both (choose (next (is_op operator.OpenRound)) (row n) (both (row dotted) (choose f (row type_arguments) nothing))) question_marks

abbrev to_type : Row → Form
to_type n = both (op operator.Arrow) (row n)

abbrev behind_first_type : Decision → Row → Form
behind_first_type f n = choose (next (is_op operator.Comma)) (both (op operator.Comma) (both (row types) (both (op operator.CloseRound) (to_type n)))) (both (op
    operator.CloseRound) (choose f (to_type n) nothing))

abbrev brackets : Decision → Row → Form
brackets f n = both (op operator.OpenRound) (choose (next (is_op operator.CloseRound)) (both (op operator.CloseRound) (to_type n)) (both (row type_) (behind_first_type f n)))

abbrev colon_type : Form
colon_type = maybe (is_op operator.Colon) (both (op operator.Colon) (row type_))

abbrev value : Form
value = both (op operator.Assign) (row expression)

abbrev listed : Seen → Row → Row → Form
listed f n after = maybe f (both (row n) (row after))

abbrev more_listed : Seen → Row → Row → Row → Form
more_listed f n more after = maybe (either (is_op operator.Semicolon) f) (choose (next (is_op operator.Semicolon)) (both (op operator.Semicolon) (row more)) (both (row n) (row
    after)))

abbrev listed_behind : Seen → Row → Row → Row → Form
listed_behind f n more after = maybe (either (is_op operator.Semicolon) (marked f)) (choose (next (is_op operator.Semicolon)) (both (op operator.Semicolon) (row more)) (guard
    (marked f) (both (row n) (row after))))

abbrev modifiers : Form
modifiers = many modifier_follows (one is_modifier)

abbrev parameters_of_type : Form
parameters_of_type = choose by_less (row type_parameters) nothing

abbrev supers : Form
supers = maybe (is_op operator.Colon) (both (op operator.Colon) (both (row supertype) (maybe (is_op operator.Comma) (both (op operator.Comma) (row supertypes)))))

abbrev a_body : Row → Form
a_body n = maybe (is_op operator.OpenBrace) (row n)

abbrev written_arguments : Form
written_arguments = maybe (is_op operator.OpenRound) (in_brackets (row arguments))

abbrev primary_constructor : Form
primary_constructor = maybe (either is_constructor (is_op operator.OpenRound)) (both (maybe is_constructor (one is_constructor)) (in_brackets (row constructor_parameters)))

abbrev default : Form
default = choose by_assign value nothing

abbrev body_of_function : Bool → Form
body_of_function true = nothing
body_of_function false = maybe (either (is_op operator.OpenBrace) (is_op operator.Assign)) (row body)

abbrev value_or_accessors : Bool → Form
value_or_accessors var = choose by_assign value (row (accessors var))

abbrev property_value : Bool → Bool → Site → Form
property_value var true site = nothing
property_value var false top_level = value_or_accessors var
property_value var false in_class = maybe (either (is_op operator.Assign) is_get) (value_or_accessors var)
property_value var false in_interface = maybe is_get (row (accessors var))

abbrev setter_behind_block : Bool → Form
setter_behind_block true = row setter
setter_behind_block false = maybe is_set (row setter)

abbrev setter_on_line : Form
setter_on_line = guard (marked is_set) (row setter)

abbrev setter_behind_value : Bool → Form
setter_behind_value true = setter_on_line
setter_behind_value false = maybe (marked is_set) setter_on_line

abbrev property_behind : Keyword → Bool → Bool → Site → Form
property_behind k var abstract site = both (word k) (both (one is_name) (both colon_type (property_value var abstract site)))

abbrev function_or_property : Bool → Form
function_or_property true = row (function true top_level)
function_or_property false = choose (next (is_word keyword.Fun)) (row (function false top_level)) (row (property false top_level))

abbrev or_turns : Form
or_turns = many by_or (both (op operator.Or) (row conjunction))

abbrev and_turns : Form
and_turns = many by_and (both (op operator.And) (row equality))

abbrev equality_turns : Form
equality_turns = turns by_equality is_equality comparison

abbrev comparison_turn : Form
comparison_turn = choose by_comparison (both (one (unmarked is_comparison)) (row named)) nothing

abbrev named_turn : Form
named_turn = choose (next (unmarked is_in)) (both (one (unmarked is_in)) (row elvis)) (both (one (unmarked is_is)) (row operand_type))

abbrev named_turns : Form
named_turns = many by_test named_turn

abbrev elvis_turns : Form
elvis_turns = many by_elvis (both (op operator.Elvis) (row infix_))

abbrev infix_turns : Form
infix_turns = many by_infix (both (one (unmarked is_name)) (guard (unmarked begins_expression) (row range)))

abbrev range_turns : Form
range_turns = turns by_range is_range sum

abbrev sum_turns : Form
sum_turns = turns by_sum is_sum product

abbrev product_turns : Form
product_turns = turns by_product is_product cast

abbrev cast_turns : Form
cast_turns = turns by_cast is_as operand_type

abbrev operator_turns : Form
operator_turns = both cast_turns (both product_turns (both sum_turns (both range_turns (both infix_turns (both elvis_turns (both named_turns (both comparison_turn (both
    equality_turns (both and_turns or_turns)))))))))

abbrev a_trailing : Form
a_trailing = guard (unmarked begins_trailing) (row trailing)

-- ---- the rows

abbrev pub form : Row → Form
form file = both (maybe (is_word keyword.Package) (both (word keyword.Package) (row dotted))) (both (many (next is_import) (row import_)) (row declarations))
form import_ = both (one is_import) (row import_path)
form import_path = both (one is_name) (choose by_dot (both (op operator.Dot) (choose (next (is_op operator.TimesBehindDot)) (op operator.TimesBehindDot) (row import_path)))
    nothing)
form declarations = listed begins_declaration (declaration false false) after_declaration
form more_declarations = more_listed begins_declaration (declaration false false) more_declarations after_declaration
form after_declaration = listed_behind begins_declaration (declaration false false) more_declarations after_declaration
form (declaration abstract enum) = choose (next is_abstract) (both (one is_abstract) (row (declaration true enum))) (choose (next is_enum) (both (one is_enum) (row (declaration
    abstract true))) (choose (next is_plain) (both (one is_plain) (row (declaration abstract enum))) (choose (next (is_word keyword.Class)) (row (class_ enum)) (choose (next
    (is_word keyword.Interface)) (row interface_) (choose (next (is_word keyword.Object)) (row object_) (function_or_property abstract))))))
form (class_ enum) = both (word keyword.Class) (both (one is_name) (both parameters_of_type (both primary_constructor (both supers (a_body (body_of_class enum))))))
form interface_ = both (word keyword.Interface) (both (one is_name) (both parameters_of_type (both supers (a_body (class_body in_interface)))))
form object_ = both (word keyword.Object) (both (one is_name) (both supers (a_body (class_body in_class))))
form constructor_parameters = maybe (either is_local begins_parameter) (both (row constructor_parameter) (maybe (is_op operator.Comma) (both (op operator.Comma) (row
    constructor_parameters))))
form constructor_parameter = both modifiers (both (maybe is_local (one is_local)) (both (one is_name) (both (op operator.Colon) (both (row type_) default))))
form supertypes = maybe begins_supertype (guard begins_supertype (both (row supertype) (maybe (is_op operator.Comma) (both (op operator.Comma) (row supertypes)))))
form supertype = both (row type_) written_arguments
form enum_body = both (op operator.OpenBrace) (both (row constants) (both (maybe (is_op operator.Semicolon) (both (op operator.Semicolon) (row (members in_class)))) (op
    operator.CloseBrace)))
form constants = maybe is_name (both (row constant) (maybe (is_op operator.Comma) (both (op operator.Comma) (row constants))))
form constant = both (one is_name) written_arguments
form (class_body site) = both (op operator.OpenBrace) (both (row (members site)) (op operator.CloseBrace))
form (members site) = listed (begins_member site) (member site) (after_member site)
form (more_members site) = more_listed (begins_member site) (member site) (more_members site) (after_member site)
form (after_member site) = listed_behind (begins_member site) (member site) (more_members site) (after_member site)
form (member in_interface) = row (modified_member false in_interface)
form (member site) = choose (next is_init) (both (one is_init) (row block)) (row (modified_member false site))
form (modified_member abstract site) = choose (next is_abstract) (both (one is_abstract) (row (modified_member true site))) (choose (next is_plain_of_member) (both (one
    is_plain_of_member) (row (modified_member abstract site))) (choose (next (is_word keyword.Fun)) (row (function abstract site)) (row (property abstract site))))
form (function abstract site) = both (word keyword.Fun) (both parameters_of_type (both (row (function_name site)) (both (in_brackets (row function_parameters)) (both colon_type
    (body_of_function abstract)))))
form (function_name top_level) = choose (next (is_op operator.OpenRound)) (both (in_brackets (row type_)) (both (op operator.Dot) (one is_name))) (both (one is_name) (maybe
    behind_receiver (both (choose by_less (row type_arguments) nothing) (both question_marks (both (one is_dot) (one is_name))))))
form (function_name site) = one is_name
form function_parameters = maybe begins_parameter (both (row function_parameter) (maybe (is_op operator.Comma) (both (op operator.Comma) (row function_parameters))))
form function_parameter = both modifiers (both (one is_name) (both (op operator.Colon) (both (row type_) default)))
form body = choose (next (is_op operator.OpenBrace)) (row block) value
form (property abstract site) = choose (next (is_word keyword.Var)) (property_behind keyword.Var true abstract site) (property_behind keyword.Val false abstract site)
form (accessors var) = both (row getter_head) (choose (next (is_op operator.OpenBrace)) (both (row block) (setter_behind_block var)) (both value (setter_behind_value var)))
form getter_head = both (one is_get) (both (op operator.OpenRound) (both (op operator.CloseRound) colon_type))
form setter = both (one is_set) (both (in_brackets (one is_name)) (row body))
form type_parameters = both (op operator.Less) (both (row type_parameter) (both (row more_type_parameters) (op operator.Greater)))
form more_type_parameters = maybe (is_op operator.Comma) (both (op operator.Comma) (maybe begins_parameter (both (row type_parameter) (row more_type_parameters))))
form type_parameter = both modifiers (both (one is_name) colon_type)
form type_ = a_type by_less bracketed_type
form bracketed_type = brackets by_arrow type_
form operand_type = a_type arguments_form bracketed_type
form type_before_arrow = a_type by_less bracketed_before_arrow
form bracketed_before_arrow = brackets result_follows type_before_arrow
form dotted = both (one is_name) dotted_names
form types = maybe begins_type (both (row type_) (maybe (is_op operator.Comma) (both (op operator.Comma) (row types))))
form type_arguments = both (op operator.Less) (both (row type_argument) (both (row more_type_arguments) (op operator.Greater)))
form more_type_arguments = maybe (is_op operator.Comma) (both (op operator.Comma) (maybe begins_type_argument (both (row type_argument) (row more_type_arguments))))
form type_argument = choose (next (is_op operator.Times)) (op operator.Times) (choose (next (is_word keyword.In)) (both (word keyword.In) (row type_)) (choose out_type (both (one
    is_out) (row type_)) (row type_)))
form expression = both (row conjunction) or_turns
form conjunction = both (row equality) and_turns
form equality = both (row comparison) equality_turns
form comparison = both (row named) comparison_turn
form named = both (row elvis) named_turns
form elvis = both (row infix_) elvis_turns
form infix_ = both (row range) infix_turns
form range = both (row sum) range_turns
form sum = both (row product) sum_turns
form product = both (row cast) product_turns
form cast = both (row prefix) cast_turns
form prefix = choose (next is_prefix) (both (one is_prefix) (row prefix)) (row postfix)
form postfix = both (row primary) (many suffix_follows (row suffix))
form suffix = choose (next (unmarked is_postfix)) (one (unmarked is_postfix)) (choose (next is_dot) (both (one is_dot) (one is_name)) (choose (next (unmarked (is_op
    operator.OpenSquare))) (both (one (unmarked (is_op operator.OpenSquare))) (both (row expression) (both (maybe (is_op operator.Comma) (both (op operator.Comma) (row
    expressions))) (op operator.CloseSquare)))) (choose (next (unmarked (is_op operator.Less))) (guard (unmarked (is_op operator.Less)) (both (row type_arguments) (row call))) (row
    call))))
form call = choose (next (unmarked (is_op operator.OpenRound))) (both (both (one (unmarked (is_op operator.OpenRound))) (both (row arguments) (op operator.CloseRound))) (choose
    by_trailing a_trailing nothing)) a_trailing
form trailing = both (maybe is_label (one is_label)) (row lambda)
form arguments = maybe begins_argument (both (row argument) (maybe (is_op operator.Comma) (both (op operator.Comma) (row arguments))))
form argument = both (choose argument_name (both (one is_name) (op operator.Assign)) nothing) (both (maybe (is_op operator.Times) (op operator.Times)) (row expression))
form expressions = maybe begins_expression (both (row expression) (maybe (is_op operator.Comma) (both (op operator.Comma) (row expressions))))
form primary = choose (next is_atom) (one is_atom) (choose (next is_name) (one is_name) (choose (next is_string_open) (row string) (choose (next (is_op operator.OpenRound))
    (in_brackets (row expression)) (choose (next (is_word keyword.Super)) (row super_) (choose (next (is_word keyword.If)) (row conditional) (choose (next (is_word keyword.When))
    (row when_) (choose (next (is_word keyword.Try)) (row try_) (choose (next is_jump) (row jump) (row lambda)))))))))
form string = both (one is_string_open) (both (many (next is_piece) (choose (next is_string_text) (one is_string_text) (choose (next is_string_name) (one is_string_name) (both (one
    is_hole_open) (both (row expression) (one is_hole_close)))))) (one is_string_close))
form super_ = both (word keyword.Super) (both (choose by_less (both (op operator.Less) (both (row type_) (op operator.Greater))) nothing) (both (op operator.Dot) (one is_name)))
form conditional = both (word keyword.If) (both (in_brackets (row expression)) (both (row statement) (choose else_follows (both (maybe (is_op operator.Semicolon) (op
    operator.Semicolon)) (both (word keyword.Else) (row statement))) nothing)))
form when_ = both (word keyword.When) (both (maybe (is_op operator.OpenRound) (in_brackets (both (maybe (is_word keyword.Val) (both (word keyword.Val) (both (row typed_name) (op
    operator.Assign)))) (row expression)))) (both (op operator.OpenBrace) (both (row branches) (op operator.CloseBrace))))
form branches = maybe (either (is_word keyword.Else) begins_condition) (both (row branch) (row after_branch))
form more_branches = maybe (either (is_op operator.Semicolon) (either (is_word keyword.Else) begins_condition)) (choose (next (is_op operator.Semicolon)) (both (op
    operator.Semicolon) (row more_branches)) (both (row branch) (row after_branch)))
form after_branch = maybe (either (is_op operator.Semicolon) (either (is_word keyword.Else) (marked begins_condition))) (choose (next (is_op operator.Semicolon)) (both (op
    operator.Semicolon) (row more_branches)) (guard (either (is_word keyword.Else) (marked begins_condition)) (both (row branch) (row after_branch))))
form branch = both (choose (next (is_word keyword.Else)) (word keyword.Else) (both (row condition) (row conditions))) (both (op operator.Arrow) (row statement))
form conditions = maybe (is_op operator.Comma) (both (op operator.Comma) (maybe begins_condition (both (row condition) (row conditions))))
form condition = choose (next is_in) (both (one is_in) (row expression)) (choose (next is_is) (both (one is_is) (row type_before_arrow)) (row expression))
form try_ = both (word keyword.Try) (both (row block) (choose (next is_catch) (both (row catch_) (both (many catch_clause (row catch_)) (choose finally_clause (both (one
    is_finally) (row block)) nothing))) (both (one is_finally) (row block))))
form catch_ = both (one is_catch) (both (in_brackets (both (one is_name) (both (op operator.Colon) (row type_)))) (row block))
form lambda = both (op operator.OpenBrace) (choose by_arrow (both (op operator.Arrow) (both (row statements) (op operator.CloseBrace))) (choose parameters (both (row parameter)
    (both (op operator.Arrow) (both (row statements) (op operator.CloseBrace)))) (both (row statements) (op operator.CloseBrace))))
form names = maybe is_name (both (row typed_name) (maybe (is_op operator.Comma) (both (op operator.Comma) (row names))))
form parameter = both (both (one is_name) (maybe (is_op operator.Colon) (both (op operator.Colon) (row type_before_arrow)))) (maybe (is_op operator.Comma) (both (op operator.Comma)
    (maybe is_name (row parameter))))
form bare_names = maybe (is_op operator.Comma) (both (op operator.Comma) (maybe is_name (both (one is_name) (row bare_names))))
form typed_name = both (one is_name) colon_type
form jump = choose (next (is_word keyword.Return)) (both (word keyword.Return) (both (maybe is_label_use (one is_label_use)) (choose by_value (guard (unmarked begins_expression)
    (row expression)) nothing))) (choose (next (is_word keyword.Throw)) (both (word keyword.Throw) (row expression)) (both (one is_break) (maybe is_label_use (one is_label_use))))
form block = both (op operator.OpenBrace) (both (row statements) (op operator.CloseBrace))
form statements = maybe begins_statement (both (row statement) (row after_statement))
form more_statements = maybe (either (is_op operator.Semicolon) begins_statement) (choose (next (is_op operator.Semicolon)) (both (op operator.Semicolon) (row more_statements))
    (both (row statement) (row after_statement)))
form after_statement = maybe (either (is_op operator.Semicolon) (marked begins_statement)) (choose (next (is_op operator.Semicolon)) (both (op operator.Semicolon) (row
    more_statements)) (guard (marked begins_statement) (both (row statement) (row after_statement))))
form statement = choose (next is_local) (row local) (choose (next is_loop) (row loop) (choose (next is_prefix) (guard is_prefix (row expression)) (both (row postfix) (choose
    by_assignment (both (one (unmarked is_assignment)) (row expression)) operator_turns))))
form local = both (one is_local) (choose (next (is_op operator.OpenRound)) (both (in_brackets (both (row typed_name) (maybe (is_op operator.Comma) (both (op operator.Comma) (row
    names))))) value) (both (one is_name) (choose (next (is_op operator.Colon)) (both (op operator.Colon) (both (row type_) (choose by_assign value nothing))) value)))
form loop = both (maybe is_label (one is_label)) (choose (next (is_word keyword.For)) (both (word keyword.For) (both (in_brackets (both (choose (next (is_op operator.OpenRound))
    (in_brackets (both (one is_name) (row bare_names))) (row typed_name)) (both (word keyword.In) (row expression)))) (row statement))) (choose (next (is_word keyword.While)) (both
    (word keyword.While) (both (in_brackets (row expression)) (row statement))) (both (word keyword.Do) (both (row statement) (both (word keyword.While) (in_brackets (row
    expression)))))))

-- ---- their tables: which rows may be empty, the first tokens, and those with which loops and optional parts go on by no rule

abbrev empty : Row → Bool
empty file = true
empty import_ = false
empty import_path = false
empty declarations = true
empty more_declarations = true
empty after_declaration = true
empty (declaration _ _) = false
empty (class_ _) = false
empty interface_ = false
empty object_ = false
empty constructor_parameters = true
empty constructor_parameter = false
empty supertypes = true
empty supertype = false
empty enum_body = false
empty constants = true
empty constant = false
empty (class_body _) = false
empty (members _) = true
empty (more_members _) = true
empty (after_member _) = true
empty (member _) = false
empty (modified_member _ _) = false
empty (function _ _) = false
empty (function_name _) = false
empty function_parameters = true
empty function_parameter = false
empty body = false
empty (property _ _) = false
empty (accessors _) = false
empty getter_head = false
empty setter = false
empty type_parameters = false
empty more_type_parameters = true
empty type_parameter = false
empty type_ = false
empty dotted = false
empty bracketed_type = false
empty operand_type = false
empty type_before_arrow = false
empty bracketed_before_arrow = false
empty types = true
empty type_arguments = false
empty type_argument = false
empty more_type_arguments = true
empty expression = false
empty conjunction = false
empty equality = false
empty comparison = false
empty named = false
empty elvis = false
empty infix_ = false
empty range = false
empty sum = false
empty product = false
empty cast = false
empty prefix = false
empty postfix = false
empty suffix = false
empty call = false
empty trailing = false
empty arguments = true
empty argument = false
empty expressions = true
empty primary = false
empty string = false
empty super_ = false
empty conditional = false
empty when_ = false
empty branches = true
empty more_branches = true
empty after_branch = true
empty branch = false
empty conditions = true
empty condition = false
empty try_ = false
empty catch_ = false
empty lambda = false
empty names = true
empty typed_name = false
empty parameter = false
empty bare_names = true
empty jump = false
empty block = false
empty statements = true
empty more_statements = true
empty after_statement = true
empty statement = false
empty local = false
empty loop = false

abbrev begin : Row → Seen
begin file = either begins_declaration (either is_import (is_word keyword.Package))
begin import_ = is_import
begin import_path = is_name
begin declarations = begins_declaration
begin more_declarations = either begins_declaration (is_op operator.Semicolon)
begin after_declaration = either (marked begins_declaration) (is_op operator.Semicolon)
begin (declaration true true) = either is_modifier (either (is_word keyword.Fun) (either (is_word keyword.Class) (either (is_word keyword.Object) (is_word keyword.Interface))))
begin (declaration true false) = either is_modifier (either (is_word keyword.Fun) (either (is_word keyword.Class) (either (is_word keyword.Object) (is_word keyword.Interface))))
begin (declaration false true) = begins_declaration
begin (declaration false false) = begins_declaration
begin (class_ _) = is_word keyword.Class
begin interface_ = is_word keyword.Interface
begin object_ = is_word keyword.Object
begin constructor_parameters = either begins_parameter is_local
begin constructor_parameter = either begins_parameter is_local
begin supertypes = begins_supertype
begin supertype = begins_type
begin enum_body = is_op operator.OpenBrace
begin constants = is_name
begin constant = is_name
begin (class_body _) = is_op operator.OpenBrace
begin (members top_level) = begins_member in_class
begin (members in_class) = begins_member in_class
begin (members in_interface) = begins_member in_interface
begin (more_members top_level) = either (begins_member in_class) (is_op operator.Semicolon)
begin (more_members in_class) = either (begins_member in_class) (is_op operator.Semicolon)
begin (more_members in_interface) = either (begins_member in_interface) (is_op operator.Semicolon)
begin (after_member top_level) = either (marked (begins_member in_class)) (is_op operator.Semicolon)
begin (after_member in_class) = either (marked (begins_member in_class)) (is_op operator.Semicolon)
begin (after_member in_interface) = either (marked (begins_member in_interface)) (is_op operator.Semicolon)
begin (member top_level) = begins_member in_class
begin (member in_class) = begins_member in_class
begin (member in_interface) = begins_member in_interface
begin (modified_member _ _) = begins_member in_interface
begin (function _ _) = is_word keyword.Fun
begin (function_name top_level) = begins_type
begin (function_name in_class) = is_name
begin (function_name in_interface) = is_name
begin function_parameters = begins_parameter
begin function_parameter = begins_parameter
begin body = either (is_op operator.Assign) (is_op operator.OpenBrace)
begin (property _ _) = is_local
begin (accessors _) = is_get
begin getter_head = is_get
begin setter = is_set
begin type_parameters = is_op operator.Less
begin more_type_parameters = is_op operator.Comma
begin type_parameter = begins_parameter
begin type_ = begins_type
begin dotted = is_name
begin bracketed_type = is_op operator.OpenRound
begin operand_type = begins_type
begin type_before_arrow = begins_type
begin bracketed_before_arrow = is_op operator.OpenRound
begin types = begins_type
begin type_arguments = is_op operator.Less
begin type_argument = begins_type_argument
begin more_type_arguments = is_op operator.Comma
begin expression = begins_expression
begin conjunction = begins_expression
begin equality = begins_expression
begin comparison = begins_expression
begin named = begins_expression
begin elvis = begins_expression
begin infix_ = begins_expression
begin range = begins_expression
begin sum = begins_expression
begin product = begins_expression
begin cast = begins_expression
begin prefix = begins_expression
begin postfix = begins_postfix
begin suffix = either is_dot (either (unmarked is_postfix) (either (unmarked begins_trailing) (either (unmarked (is_op operator.Less)) (either (unmarked (is_op operator.OpenRound))
    (unmarked (is_op operator.OpenSquare))))))
begin call = either (unmarked begins_trailing) (unmarked (is_op operator.OpenRound))
begin trailing = begins_trailing
begin arguments = begins_argument
begin argument = begins_argument
begin expressions = begins_expression
begin primary = begins_postfix
begin string = is_string_open
begin super_ = is_word keyword.Super
begin conditional = is_word keyword.If
begin when_ = is_word keyword.When
begin branches = either begins_condition (is_word keyword.Else)
begin more_branches = either begins_condition (either (is_word keyword.Else) (is_op operator.Semicolon))
begin after_branch = either (marked begins_condition) (either (is_word keyword.Else) (is_op operator.Semicolon))
begin branch = either begins_condition (is_word keyword.Else)
begin conditions = is_op operator.Comma
begin condition = begins_condition
begin try_ = is_word keyword.Try
begin catch_ = is_catch
begin lambda = is_op operator.OpenBrace
begin names = is_name
begin typed_name = is_name
begin parameter = is_name
begin bare_names = is_op operator.Comma
begin jump = is_jump
begin block = is_op operator.OpenBrace
begin statements = begins_statement
begin more_statements = either begins_statement (is_op operator.Semicolon)
begin after_statement = either (marked begins_statement) (is_op operator.Semicolon)
begin statement = begins_statement
begin local = is_local
begin loop = is_loop

abbrev go : Row → Seen
go file = either begins_type (either begins_declaration (either is_label_use (either (is_op operator.Colon) (either (is_op operator.Comma) (either (is_op operator.Assign) (either
    (is_word keyword.Package) (either (is_op operator.Semicolon) (is_op operator.OpenBrace))))))))
go import_ = none_seen
go import_path = none_seen
go declarations = either begins_type (either begins_declaration (either is_label_use (either (is_op operator.Colon) (either (is_op operator.Comma) (either (is_op operator.Assign)
    (either (is_op operator.Semicolon) (is_op operator.OpenBrace)))))))
go more_declarations = either begins_type (either begins_declaration (either is_label_use (either (is_op operator.Colon) (either (is_op operator.Comma) (either (is_op
    operator.Assign) (either (is_op operator.Semicolon) (is_op operator.OpenBrace)))))))
go after_declaration = either begins_type (either begins_declaration (either is_label_use (either (is_op operator.Colon) (either (is_op operator.Comma) (either (is_op
    operator.Assign) (either (is_op operator.Semicolon) (is_op operator.OpenBrace)))))))
go (declaration true true) = either begins_supertype (either (is_op operator.Colon) (either (is_op operator.Comma) (is_op operator.OpenBrace)))
go (declaration true false) = either begins_supertype (either (is_op operator.Colon) (either (is_op operator.Comma) (is_op operator.OpenBrace)))
go (declaration false true) = either begins_supertype (either is_label_use (either (is_op operator.Colon) (either (is_op operator.Comma) (either (is_op operator.Assign) (is_op
    operator.OpenBrace)))))
go (declaration false false) = either begins_supertype (either is_label_use (either (is_op operator.Colon) (either (is_op operator.Comma) (either (is_op operator.Assign) (is_op
    operator.OpenBrace)))))
go (class_ _) = either begins_supertype (either (is_op operator.Colon) (either (is_op operator.Comma) (is_op operator.OpenBrace)))
go interface_ = either begins_supertype (either (is_op operator.Colon) (either (is_op operator.Comma) (is_op operator.OpenBrace)))
go object_ = either begins_supertype (either (is_op operator.Colon) (either (is_op operator.Comma) (is_op operator.OpenBrace)))
go constructor_parameters = either begins_parameter (either is_local (either is_label_use (is_op operator.Comma)))
go constructor_parameter = is_label_use
go supertypes = either begins_supertype (is_op operator.Comma)
go supertype = is_op operator.OpenRound
go enum_body = none_seen
go constants = either begins_type (is_op operator.Comma)
go constant = is_op operator.OpenRound
go (class_body _) = none_seen
go (members top_level) = either (begins_member in_class) (either is_set (either is_label_use (either (is_op operator.Colon) (either (is_op operator.Assign) (either (is_op
    operator.Semicolon) (is_op operator.OpenBrace))))))
go (members in_class) = either (begins_member in_class) (either is_get (either is_set (either is_label_use (either (is_op operator.Colon) (either (is_op operator.Assign) (either
    (is_op operator.Semicolon) (is_op operator.OpenBrace)))))))
go (members in_interface) = either (begins_member in_interface) (either is_get (either is_set (either is_label_use (either (is_op operator.Colon) (either (is_op operator.Assign)
    (either (is_op operator.Semicolon) (is_op operator.OpenBrace)))))))
go (more_members top_level) = either (begins_member in_class) (either is_set (either is_label_use (either (is_op operator.Colon) (either (is_op operator.Assign) (either (is_op
    operator.Semicolon) (is_op operator.OpenBrace))))))
go (more_members in_class) = either (begins_member in_class) (either is_get (either is_set (either is_label_use (either (is_op operator.Colon) (either (is_op operator.Assign)
    (either (is_op operator.Semicolon) (is_op operator.OpenBrace)))))))
go (more_members in_interface) = either (begins_member in_interface) (either is_get (either is_set (either is_label_use (either (is_op operator.Colon) (either (is_op
    operator.Assign) (either (is_op operator.Semicolon) (is_op operator.OpenBrace)))))))
go (after_member top_level) = either (begins_member in_class) (either is_set (either is_label_use (either (is_op operator.Colon) (either (is_op operator.Assign) (either (is_op
    operator.Semicolon) (is_op operator.OpenBrace))))))
go (after_member in_class) = either (begins_member in_class) (either is_get (either is_set (either is_label_use (either (is_op operator.Colon) (either (is_op operator.Assign)
    (either (is_op operator.Semicolon) (is_op operator.OpenBrace)))))))
go (after_member in_interface) = either (begins_member in_interface) (either is_get (either is_set (either is_label_use (either (is_op operator.Colon) (either (is_op
    operator.Assign) (either (is_op operator.Semicolon) (is_op operator.OpenBrace)))))))
go (member top_level) = either is_set (either is_label_use (either (is_op operator.Colon) (either (is_op operator.Assign) (is_op operator.OpenBrace))))
go (member in_class) = either is_get (either is_set (either is_label_use (either (is_op operator.Colon) (either (is_op operator.Assign) (is_op operator.OpenBrace)))))
go (member in_interface) = either is_get (either is_set (either is_label_use (either (is_op operator.Colon) (either (is_op operator.Assign) (is_op operator.OpenBrace)))))
go (modified_member true top_level) = is_op operator.Colon
go (modified_member true in_class) = is_op operator.Colon
go (modified_member true in_interface) = is_op operator.Colon
go (modified_member false top_level) = either is_set (either is_label_use (either (is_op operator.Colon) (either (is_op operator.Assign) (is_op operator.OpenBrace))))
go (modified_member false in_class) = either is_get (either is_set (either is_label_use (either (is_op operator.Colon) (either (is_op operator.Assign) (is_op
    operator.OpenBrace)))))
go (modified_member false in_interface) = either is_get (either is_set (either is_label_use (either (is_op operator.Colon) (either (is_op operator.Assign) (is_op
    operator.OpenBrace)))))
go (function true top_level) = is_op operator.Colon
go (function true in_class) = is_op operator.Colon
go (function true in_interface) = is_op operator.Colon
go (function false top_level) = either is_label_use (either (is_op operator.Colon) (either (is_op operator.Assign) (is_op operator.OpenBrace)))
go (function false in_class) = either is_label_use (either (is_op operator.Colon) (either (is_op operator.Assign) (is_op operator.OpenBrace)))
go (function false in_interface) = either is_label_use (either (is_op operator.Colon) (either (is_op operator.Assign) (is_op operator.OpenBrace)))
go (function_name top_level) = behind_receiver
go (function_name in_class) = none_seen
go (function_name in_interface) = none_seen
go function_parameters = either begins_parameter (either is_label_use (is_op operator.Comma))
go function_parameter = is_label_use
go body = is_label_use
go (property true top_level) = is_op operator.Colon
go (property true in_class) = is_op operator.Colon
go (property true in_interface) = is_op operator.Colon
go (property false top_level) = either is_set is_label_use
go (property false in_class) = either is_get (either is_set (either is_label_use (either (is_op operator.Colon) (is_op operator.Assign))))
go (property false in_interface) = either is_get (either is_set (either is_label_use (is_op operator.Colon)))
go (accessors true) = is_label_use
go (accessors false) = either is_set is_label_use
go getter_head = is_op operator.Colon
go setter = is_label_use
go type_parameters = none_seen
go more_type_parameters = either begins_parameter (either (is_op operator.Colon) (is_op operator.Comma))
go type_parameter = is_op operator.Colon
go type_ = none_seen
go dotted = none_seen
go bracketed_type = none_seen
go operand_type = none_seen
go type_before_arrow = none_seen
go bracketed_before_arrow = none_seen
go types = either begins_type (is_op operator.Comma)
go type_arguments = none_seen
go type_argument = none_seen
go more_type_arguments = either begins_type_argument (is_op operator.Comma)
go expression = is_label_use
go conjunction = is_label_use
go equality = is_label_use
go comparison = is_label_use
go named = is_label_use
go elvis = is_label_use
go infix_ = is_label_use
go range = is_label_use
go sum = is_label_use
go product = is_label_use
go cast = is_label_use
go prefix = is_label_use
go postfix = is_label_use
go suffix = none_seen
go call = none_seen
go trailing = none_seen
go arguments = either begins_argument (either is_label_use (is_op operator.Comma))
go argument = is_label_use
go expressions = either begins_expression (either is_label_use (is_op operator.Comma))
go primary = is_label_use
go string = none_seen
go super_ = none_seen
go conditional = is_label_use
go when_ = none_seen
go branches = either begins_condition (either is_label_use (either (is_word keyword.Else) (is_op operator.Semicolon)))
go more_branches = either begins_condition (either is_label_use (either (is_word keyword.Else) (is_op operator.Semicolon)))
go after_branch = either begins_condition (either is_label_use (either (is_word keyword.Else) (is_op operator.Semicolon)))
go branch = is_label_use
go conditions = either begins_condition (either is_label_use (is_op operator.Comma))
go condition = is_label_use
go try_ = none_seen
go catch_ = none_seen
go lambda = none_seen
go names = either is_name (either (is_op operator.Colon) (is_op operator.Comma))
go typed_name = is_op operator.Colon
go parameter = either is_name (either (is_op operator.Colon) (is_op operator.Comma))
go bare_names = either is_name (is_op operator.Comma)
go jump = is_label_use
go block = none_seen
go statements = either begins_statement (either is_label_use (is_op operator.Semicolon))
go more_statements = either begins_statement (either is_label_use (is_op operator.Semicolon))
go after_statement = either begins_statement (either is_label_use (is_op operator.Semicolon))
go statement = is_label_use
go local = is_label_use
go loop = is_label_use

abbrev pub tables : Tables Row like
tables = record { empty = empty; begin = begin; go = go }
