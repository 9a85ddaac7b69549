use Rattle.std.proofs.Common.{◌+◌, map, sym, ap, ◌∙◌}
use Rattle.kc_types.specs.declared.types.Ty.TheVariants as node
use Rattle.kc_types.specs.Trees.{depth_of, depth_of_argument, deepest}
use Rattle.kc_types.specs.Tables.{tree_of, tree_at, argument_at, level_of}
use Rattle.kc_types.proofs.Tables.{depth_rolled, depth_of_class, depth_of_function}
use Rattle.kc_types.proofs.table.TypeTable.depth_of.Goals as goal

pub returns-in-Class-clause-exact : goal.returns-in-Class-clause-exact
returns-in-Class-clause-exact c =
    let e = c.deepest_argument.ensures.exact ∙ ap (λ xs. deepest (map (λ a. depth_of_argument (argument_at c.args.self.now a)) xs)) c.as_slice.ensures in
    depth_of_class c.args.self.now c.in-Class.field-0 c.in-Class.arguments c.deepest_argument.result e ∙ sym (ap (λ t. depth_of (tree_of c.args.self.now t)) c.in-Class.is)

pub returns-in-Fun-clause-exact : goal.returns-in-Fun-clause-exact
returns-in-Fun-clause-exact c =
    let e = c.deepest_part.ensures.exact ∙ ap (λ xs. deepest (map (λ t. depth_of (tree_at c.args.self.now t)) xs)) c.as_slice-in-Fun.ensures in
    ap (λ n. 1 + n) c.max.ensures
    ∙ depth_of_function c.args.self.now c.in-Fun.params c.in-Fun.result c.deepest_part.result c.depth_at.result e c.depth_at.ensures.exact
    ∙ sym (ap (λ t. depth_of (tree_of c.args.self.now t)) c.in-Fun.is)

pub returns-in-Nullable-clause-exact : goal.returns-in-Nullable-clause-exact
returns-in-Nullable-clause-exact c = c.depth_at-in-Nullable.ensures.exact ∙ sym (ap (λ t. depth_of (tree_of c.args.self.now t)) c.in-Nullable.is ∙ depth_rolled (level_of c.args.self.now (node.Nullable c.in-Nullable.ty)))

pub returns-in-Param-clause-exact : goal.returns-in-Param-clause-exact
returns-in-Param-clause-exact c = sym (ap (λ t. depth_of (tree_of c.args.self.now t)) c.in-Param.is ∙ depth_rolled (level_of c.args.self.now (node.Param c.in-Param.field-0)))

pub returns-in-Nothing-clause-exact : goal.returns-in-Nothing-clause-exact
returns-in-Nothing-clause-exact c = sym (ap (λ t. depth_of (tree_of c.args.self.now t)) c.in-Nothing.is ∙ depth_rolled (level_of c.args.self.now node.Nothing))
