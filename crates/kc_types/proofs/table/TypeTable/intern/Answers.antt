use Rattle.std.proofs.Common.{◌≡◌, ◌≤◌, List, Some, sym, subst, inl, inr, refl, arith}
use Rattle.std.specs.Prelude.{slice_get}
use Rattle.std.proofs.lemmas.Option.{slice_get_within, get_or_from_slice_get}
use Rattle.kc_types.specs.declared.trees.TypeTree.{TypeTree}
use Rattle.kc_types.specs.Trees.{depth_of}
use Rattle.kc_types.specs.Tables.{tree_of}
use Rattle.kc_types.proofs.Nodes.{default}
use Rattle.kc_types.proofs.Growth.{Found, found, not_found, contained}
use Rattle.kc_types.proofs.table.TypeTable.intern.Goals as goal

there : (c : goal.Joined-ty) → Found c.self.inside.types.entries c.self.invariant c.args.ty c.in-Some.at
there c = found c.self.inside.types.entries c.self.invariant c.args.ty c.in-Some.at (sym c.in-Some.ensures.index)

number : (c : goal.Joined-ty) → slice_get c.args.self.now c.in-Some.at ≡ Some (tree_of c.args.self.now c.args.ty)
number c = subst (λ (ts : List TypeTree). slice_get ts c.in-Some.at ≡ Some (tree_of ts c.args.ty)) c.self.view_is (there c).tree

pub returns-in-Some-clause-names : goal.returns-in-Some-clause-names
returns-in-Some-clause-names c = record {
  within = slice_get_within c.args.self.now c.in-Some.at (tree_of c.args.self.now c.args.ty) (number c);
  is = get_or_from_slice_get c.args.self.now c.in-Some.at (tree_of c.args.self.now c.args.ty) default (number c);
}

pub returns-in-Some-clause-shallow : goal.returns-in-Some-clause-shallow
returns-in-Some-clause-shallow c = subst (λ (ts : List TypeTree). depth_of (tree_of ts c.args.ty) ≤ 16) c.self.view_is (there c).shallow

pub returns-in-Some-clause-ok : goal.returns-in-Some-clause-ok
returns-in-Some-clause-ok c = inl (contained c.args.self.now c.in-Some.at (tree_of c.args.self.now c.args.ty) (number c), refl)

pub add-requires-clause-new : goal.add-requires-clause-new
add-requires-clause-new c = not_found c.self.inside.types.entries c.self.invariant c.args.ty c.args.self.now c.self.view_is c.requires.parts c.get_index_of.result c.in_default.is c.get_index_of.ensures.found

pub returns-clause-ok : goal.returns-clause-ok
returns-clause-ok c = inr (not_found c.self.inside.types.entries c.self.invariant c.args.ty c.args.self.now c.self.view_is c.requires.parts c.get_index_of.result c.in_default.is c.get_index_of.ensures.found, c.in_ok-add.ensures.ok)

pub returns-clause-names : goal.returns-clause-names
returns-clause-names c = record {
  within = slice_get_within c.add.new.self c.in_ok-add.field-0.0 (tree_of c.args.self.now c.args.ty) c.in_ok-add.ensures.number;
  is = get_or_from_slice_get c.add.new.self c.in_ok-add.field-0.0 (tree_of c.args.self.now c.args.ty) default c.in_ok-add.ensures.number;
}

pub returns-then-depth-gt-MOST-clause-deep : goal.returns-then-depth-gt-MOST-clause-deep
returns-then-depth-gt-MOST-clause-deep c = (omega (arith, c.depth_of-depth.ensures.small, c.if-depth-gt-MOST.true), c.depth_of-depth.ensures.exact)
