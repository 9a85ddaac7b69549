use Rattle.kt_calls.proofs.CallRows.{no_label, label_taken}
use Rattle.kt_calls.proofs.calls.label_before.Goals as goal

pub returns-in-Some : goal.returns-in-Some
returns-in-Some c = label_taken c.in-Some.ensures c.word_of.ensures

pub returns-in-None : goal.returns-in-None
returns-in-None c = no_label c.requires c.in-None.ensures
