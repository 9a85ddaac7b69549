use Rattle.kt_lexer.specs.Cut.{a_word, a_name, a_label, a_label_use, a_number, a_character, a_string_open, a_string_name, a_hole_open, a_hole_close, a_string_close, an_operator}
use Rattle.kt_lexer.proofs.Cuts.{kind_along, text_kind}
use Rattle.kt_lexer.proofs.kinds.kind_of.Goals as goal

pub returns-in-Word-clause-kind : goal.returns-in-Word-clause-kind
returns-in-Word-clause-kind c = kind_along c.in-Word.is a_word

pub returns-in-Number-clause-kind : goal.returns-in-Number-clause-kind
returns-in-Number-clause-kind c = kind_along c.in-Number.is a_number

pub returns-in-CharLiteral-clause-kind : goal.returns-in-CharLiteral-clause-kind
returns-in-CharLiteral-clause-kind c = kind_along c.in-CharLiteral.is a_character

pub returns-in-StringOpen-clause-kind : goal.returns-in-StringOpen-clause-kind
returns-in-StringOpen-clause-kind c = kind_along c.in-StringOpen.is a_string_open

pub returns-in-HoleOpen-clause-kind : goal.returns-in-HoleOpen-clause-kind
returns-in-HoleOpen-clause-kind c = kind_along c.in-HoleOpen.is a_hole_open

pub returns-in-HoleClose-clause-kind : goal.returns-in-HoleClose-clause-kind
returns-in-HoleClose-clause-kind c = kind_along c.in-HoleClose.is a_hole_close

pub returns-in-StringClose-clause-kind : goal.returns-in-StringClose-clause-kind
returns-in-StringClose-clause-kind c = kind_along c.in-StringClose.is a_string_close

pub returns-in-Op-clause-kind : goal.returns-in-Op-clause-kind
returns-in-Op-clause-kind c = kind_along c.in-Op.is an_operator

pub returns-in_ok-name-in-Name-clause-kind : goal.returns-in_ok-name-in-Name-clause-kind
returns-in_ok-name-in-Name-clause-kind c = kind_along c.in-Name.is (a_name c.in_ok-name-in-Name.ensures.number)

pub returns-in_ok-name-in-Label-clause-kind : goal.returns-in_ok-name-in-Label-clause-kind
returns-in_ok-name-in-Label-clause-kind c = kind_along c.in-Label.is (a_label c.in_ok-name-in-Label.ensures.number)

pub returns-in_ok-name-in-LabelUse-clause-kind : goal.returns-in_ok-name-in-LabelUse-clause-kind
returns-in_ok-name-in-LabelUse-clause-kind c = kind_along c.in-LabelUse.is (a_label_use c.in_ok-name-in-LabelUse.ensures.number)

pub returns-in_ok-name-in-StringName-clause-kind : goal.returns-in_ok-name-in-StringName-clause-kind
returns-in_ok-name-in-StringName-clause-kind c = kind_along c.in-StringName.is (a_string_name c.in_ok-name-in-StringName.ensures.number)

pub returns-in_ok-units-in-StringText-clause-kind : goal.returns-in_ok-units-in-StringText-clause-kind
returns-in_ok-units-in-StringText-clause-kind c = kind_along c.in-StringText.is (text_kind c.in_ok-units-in-StringText.ensures)
