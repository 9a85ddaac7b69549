use Rattle.std.proofs.Common.{ℕ, sym, ap, ◌∙◌}
use Rattle.class_file.specs.Classes.{chain_up_to}
use Rattle.class_file.specs.Members.{is_member}
use Rattle.verifier_types.proofs.Elements.{less_below, root_below, same_below, more_below, neq_eqb}
use Rattle.verifier_types.proofs.names.element_below.Goals as goal

pub returns-then-b-c : goal.returns-then-b-c
returns-then-b-c c = sym (less_below c.args.set.now c.args.b.class c.args.b.dimensions c.args.c.class c.args.c.dimensions c.if-b-c.true)

pub returns-then-is_root : goal.returns-then-is_root
returns-then-is_root c =
    sym (root_below c.args.set.now c.args.b.class c.args.b.dimensions c.args.c.class c.args.c.dimensions c.if-b-c.false (sym c.is_root.ensures ∙ c.if-is_root.true))

pub returns-then-b-c-2 : goal.returns-then-b-c-2
returns-then-b-c-2 c =
    let set = c.args.set.now in
    c.is_in_chain.ensures ∙ ap (λ (n : ℕ). is_member c.args.c.class (chain_up_to n set c.args.b.class)) c.chain_bound.ensures
    ∙ sym (same_below set c.args.b.class c.args.b.dimensions c.args.c.class c.args.c.dimensions c.if-b-c-2.true (sym c.is_root.ensures ∙ c.if-is_root.false))

pub returns-else-b-c-2 : goal.returns-else-b-c-2
returns-else-b-c-2 c =
    neq_eqb c.args.b.dimensions c.args.c.dimensions c.if-b-c-2.false
    ∙ sym (more_below c.args.set.now c.args.b.class c.args.b.dimensions c.args.c.class c.args.c.dimensions c.if-b-c.false c.if-b-c-2.false (sym c.is_root.ensures ∙ c.if-is_root.false))
