use Rattle.kt_class_heads.proofs.SupertypeRows.{no_supers, supers_from}
use Rattle.kt_class_heads.proofs.supertypes.supers.Goals as goal

pub returns-in_default : goal.returns-in_default
returns-in_default c = no_supers c.new.result c.requires.within c.in_default.ensures c.new.ensures

pub returns : goal.returns
returns c = supers_from c.requires.within c.in-Some.ensures c.some_supertypes.result c.some_supertypes.ensures
