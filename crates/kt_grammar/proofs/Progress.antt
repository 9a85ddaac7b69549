-- Rows that may take no token.
use Rattle.std.proofs.Common.{◌≡◌, ℕ, ◌<◌, Bool, true, false, List, length, drop, refl}
use Rattle.grammars.specs.Grammar.{Part, Cst}
use Rattle.grammars.specs.Tables.{is_empty}
use Rattle.grammars.proofs.Progress.{progress, farther}
use Rattle.grammars.proofs.Readings.{derives}
use Rattle.kt_lexer.specs.declared.token.Token.{Token}
use Rattle.kt_grammar.specs.Parsed.{Read}
use Rattle.kt_grammar.specs.Rows as rows
use Rattle.kt_grammar.specs.Rows.{Row, grammar}

abbrev pub empty : Row → Bool
empty rows.types = true
empty rows.more_type_arguments = true
empty rows.arguments = true
empty rows.expressions = true
empty rows.branches = true
empty rows.more_branches = true
empty rows.after_branch = true
empty rows.conditions = true
empty rows.names = true
empty rows.bare_names = true
empty rows.statements = true
empty rows.more_statements = true
empty rows.after_statement = true
empty rows.declarations = true
empty rows.more_declarations = true
empty rows.after_declaration = true
empty rows.file = true
empty rows.constructor_parameters = true
empty rows.supertypes = true
empty rows.constants = true
empty (rows.members site) = true
empty (rows.more_members site) = true
empty (rows.after_member site) = true
empty rows.function_parameters = true
empty rows.more_type_parameters = true
empty _ = false

empties : (n : Row) → is_empty empty (grammar n) ≡ true → empty n ≡ true
empties rows.file h = refl
empties rows.import_ h = h
empties rows.import_path h = h
empties rows.declarations h = refl
empties rows.more_declarations h = refl
empties rows.after_declaration h = refl
empties (rows.declaration true enum) h = h
empties (rows.declaration false enum) h = h
empties (rows.class_ enum) h = h
empties rows.interface_ h = h
empties rows.object_ h = h
empties rows.constructor_parameters h = refl
empties rows.constructor_parameter h = h
empties rows.supertypes h = refl
empties rows.supertype h = h
empties rows.enum_body h = h
empties rows.constants h = refl
empties rows.constant h = h
empties (rows.class_body site) h = h
empties (rows.members site) h = refl
empties (rows.more_members site) h = refl
empties (rows.after_member site) h = refl
empties (rows.member rows.top_level) h = h
empties (rows.member rows.in_class) h = h
empties (rows.member rows.in_interface) h = h
empties (rows.modified_member abstract site) h = h
empties (rows.function abstract site) h = h
empties (rows.function_name rows.top_level) h = h
empties (rows.function_name rows.in_class) h = h
empties (rows.function_name rows.in_interface) h = h
empties rows.function_parameters h = refl
empties rows.function_parameter h = h
empties rows.body h = h
empties (rows.property abstract site) h = h
empties (rows.accessors var) h = h
empties rows.getter_head h = h
empties rows.setter h = h
empties rows.type_parameters h = h
empties rows.more_type_parameters h = refl
empties rows.type_parameter h = h
empties rows.type_ h = h
empties rows.dotted h = h
empties rows.bracketed_type h = h
empties rows.operand_type h = h
empties rows.type_before_arrow h = h
empties rows.bracketed_before_arrow h = h
empties rows.types h = refl
empties rows.type_arguments h = h
empties rows.type_argument h = h
empties rows.more_type_arguments h = refl
empties rows.expression h = h
empties rows.conjunction h = h
empties rows.equality h = h
empties rows.comparison h = h
empties rows.named h = h
empties rows.elvis h = h
empties rows.infix_ h = h
empties rows.range h = h
empties rows.sum h = h
empties rows.product h = h
empties rows.cast h = h
empties rows.prefix h = h
empties rows.postfix h = h
empties rows.suffix h = h
empties rows.call h = h
empties rows.trailing h = h
empties rows.arguments h = refl
empties rows.argument h = h
empties rows.expressions h = refl
empties rows.primary h = h
empties rows.string h = h
empties rows.super_ h = h
empties rows.conditional h = h
empties rows.when_ h = h
empties rows.branches h = refl
empties rows.more_branches h = refl
empties rows.after_branch h = refl
empties rows.branch h = h
empties rows.conditions h = refl
empties rows.condition h = h
empties rows.try_ h = h
empties rows.catch_ h = h
empties rows.lambda h = h
empties rows.names h = refl
empties rows.typed_name h = h
empties rows.parameter h = h
empties rows.bare_names h = refl
empties rows.jump h = h
empties rows.block h = h
empties rows.statements h = refl
empties rows.more_statements h = refl
empties rows.after_statement h = refl
empties rows.statement h = h
empties rows.local h = h
empties rows.loop h = h

-- a reading of any other part takes a token
pub shortens : {a : Part Row Token} {ts : List Token} {at end looked : ℕ} {x : Cst Token} → is_empty empty a ≡ false → Read a ts at end looked x → length (drop end ts) < length (drop at ts)
shortens h p = progress grammar empty empties (derives grammar p.reads) h

pub goes_on : {a : Part Row Token} {ts : List Token} {at end looked : ℕ} {x : Cst Token} → is_empty empty a ≡ false → Read a ts at end looked x → at < end
goes_on {ts = ts} {at = at} {end = end} h p = farther at end ts (shortens h p)
