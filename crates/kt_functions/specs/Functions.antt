-- Parts of functions, and what is built of them.
use Rattle.std.specs.Prelude.{Bool, List, [], None}
use Rattle.grammars.specs.Grammar.{Part, row, both, Cst, pair}
use Rattle.kc_tree.specs.declared.decl.Fun.{Fun}
use Rattle.kc_tree.specs.declared.types.TypeParam.{TypeParam}
use Rattle.kt_functions.specs.declared.functions.Ending.{Ending}
use Rattle.kt_functions.specs.declared.functions.Signature.{Signature}
use Rattle.kt_functions.specs.declared.functions.Named.{Named}
use Rattle.kt_functions.specs.Parameters.{bracketed, bracketed_of}
use Rattle.kt_functions.specs.Receivers.{name_of, no_name}
use Rattle.kt_lexer.specs.declared.token.Token.{Token}
use Rattle.kt_grammar.specs.Built.{written_type}
use Rattle.kt_grammar.specs.DeclarationsBuilt as built
use Rattle.kt_grammar.specs.Rows as rows
use Rattle.kt_grammar.specs.Rows.{Row, Site}

-- the result type and the body
abbrev pub ending : Bool → Part Row Token
ending abstract = both rows.colon_type (rows.body_of_function abstract)

abbrev pub ending_of : Cst Token → Ending
ending_of (pair ty x) = record { result = written_type ty; body = built.written_body x }
ending_of _ = record { result = None; body = None }

-- all behind the name
abbrev pub signature : Bool → Part Row Token
signature abstract = both bracketed (ending abstract)

abbrev pub signature_of : Cst Token → Signature
signature_of (pair vs x) = record { values = bracketed_of vs; ending = ending_of x }
signature_of x = record { values = []; ending = ending_of x }

-- all behind the type parameters
abbrev pub named : Bool → Site → Part Row Token
named abstract site = both (row (rows.function_name site)) (signature abstract)

abbrev pub named_of : Cst Token → Named
named_of (pair n x) = record { name = name_of n; signature = signature_of x }
named_of x = record { name = no_name; signature = signature_of x }

-- the function from its type parameters and all behind them
abbrev pub assembled : List TypeParam → Named → Fun
assembled ps n = record { params = ps; receiver = n.name.receiver; name = n.name.name; values = n.signature.values; result = n.signature.ending.result; body = n.signature.ending.body }
