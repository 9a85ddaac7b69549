use Rattle.kt_class_heads.proofs.SupertypeRows.{no_comma, comma_from}
use Rattle.kt_class_heads.proofs.supertypes.behind_comma.Goals as goal

pub returns-in_default : goal.returns-in_default
returns-in_default c = no_comma c.args.before c.requires.within c.in_default.ensures

pub returns : goal.returns
returns c = comma_from c.args.before c.requires.within c.in-Some.ensures c.further_supertypes.result c.further_supertypes.ensures
