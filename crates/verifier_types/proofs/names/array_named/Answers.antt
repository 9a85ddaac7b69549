use Rattle.std.proofs.Common.{◌≡◌, ◌-◌, ◌+◌, ℕ, suc, Option, length, take, drop, sym, ap, ◌∙◌, arith, add-one, take_all, length-drop}
use Rattle.class_file.specs.Classes.{element_of_class, class_number, without_last}
use Rattle.verifier_types.proofs.ArrayNames.{no_place, a_place, none_array, some_array}
use Rattle.verifier_types.proofs.names.array_named.Goals as goal

pub returns-in-None : goal.returns-in-None
returns-in-None c = sym (none_array c.args.set.now c.args.name.now 0 (no_place c.args.name.now (sym c.in-None.ensures)))

pub returns-in-Some : goal.returns-in-Some
returns-in-Some c =
    let set = c.args.set.now in
    let name = c.args.name.now in
    let count = c.in-Some.count in
    let lead = a_place name count (sym c.in-Some.ensures) in
    let rest : take (length name - (count + 1)) (drop (count + 1) name) ≡ drop (suc count) name =
    take_all (length name - (count + 1)) (drop (count + 1) name) (omega (arith, length-drop (count + 1) name)) ∙ ap (λ (n : ℕ). drop n name) (add-one count) in
    let zero : count ≡ 0 + count = omega arith in
    let found = some_array set name 0 count lead.is lead.within in
    c.of_class.ensures ∙ ap (λ (o : Option ℕ). element_of_class o count) (c.class_number.ensures ∙ ap (class_number set) (c.without_last.ensures ∙ ap without_last rest))
    ∙ ap (element_of_class (class_number set (without_last (drop (suc count) name)))) zero ∙ sym found
