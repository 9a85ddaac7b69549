use Rattle.kc_text.specs.NameList.{AddsOnce}
use Rattle.kc_text.proofs.Different.{AllDifferent-from_IsDistinct, AddsOnce-insert_key, KeepsNumbers-from_AddsOnce}
use Rattle.kc_text.proofs.name_list.Names.add.Goals as goal

pub invariant_of-self-2 : goal.invariant_of-self-2
invariant_of-self-2 c = AllDifferent-from_IsDistinct _ c.in_ok-number.ensures.unique

adds : (c : goal.In_ok-number) → AddsOnce c.args.self.now c.insert_full.new.self.keys c.args.name
adds c = rw (← c.self.view_is) (AddsOnce-insert_key _ _ _ c.in_ok-number.ensures.keys)

pub returns-clause-ok : goal.returns-clause-ok
returns-clause-ok c = adds c

pub returns-clause-keeps : goal.returns-clause-keeps
returns-clause-keeps c = KeepsNumbers-from_AddsOnce _ _ _ (adds c)

pub returns-clause-different : goal.returns-clause-different
returns-clause-different c = AllDifferent-from_IsDistinct _ c.in_ok-number.ensures.unique
