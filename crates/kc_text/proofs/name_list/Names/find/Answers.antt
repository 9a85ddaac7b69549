use Rattle.kc_text.proofs.Different.{found_number, found_listed}
use Rattle.kc_text.proofs.name_list.Names.find.Goals as goal

pub returns-clause-listed : goal.returns-clause-listed
returns-clause-listed c = rw (← c.self.view_is) (found_listed _ _ _ c.get_index_of.ensures.found)

pub returns-clause-number : goal.returns-clause-number
returns-clause-number c = rw (← c.self.view_is) (found_number _ _ _ c.get_index_of.ensures.index)
