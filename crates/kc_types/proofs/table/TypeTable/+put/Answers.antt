use Rattle.std.proofs.Common.{ℕ, ◌+◌, ◌*◌, All, ◌<◌, List, map, take, get_or, length, sym, ap, subst, ◌∙◌, arith}
use Rattle.kc_types.specs.declared.ids.TypeId.{TypeId}
use Rattle.kc_types.specs.declared.types.Ty.TheVariants as node
use Rattle.kc_types.specs.declared.types.TyArg.{TyArg}
use Rattle.kc_types.specs.declared.types.TyArg.TheVariants as argument
use Rattle.kc_types.specs.Trees.{nullable, put, put_argument}
use Rattle.kc_types.specs.Tables.{tree_of, tree_at, argument_at, value_in, NamesAll, NamesArguments, PartBelow, PartsBelow, ArgumentBelow}
use Rattle.kc_types.proofs.Putting.{passed_on, class_deep, class_is, parts_deep, result_deep, function_is, nullable_deep, interned, too_deep, exact_deep, out_deep, in_deep, exact_names, out_names, in_names, star_names, part_deep, part_names, all_still, argument_still, args_still, argument_deep, argument_next, part_deep_in, part_next, param_names, same_names, nothing_names, extends_both, put_nullable}
use Rattle.kc_types.proofs.table.TypeTable.+put.Invariants.{size}
use Rattle.kc_types.proofs.table.TypeTable.+put.Goals as goal

size_below : (n : ℕ) (a : TyArg) → ArgumentBelow n a → size a < 3 * n + 1
size_below n (argument.Exact t) lt = omega (arith, lt)
size_below n (argument.Out t) lt = omega (arith, lt)
size_below n (argument.In t) lt = omega (arith, lt)
size_below n argument.Star lt = omega arith

pub put-returns-in_err-arguments-in-Class-clause-deep : goal.put-returns-in_err-arguments-in-Class-clause-deep
put-returns-in_err-arguments-in-Class-clause-deep t c =
    passed_on c.from_residual-in_err-arguments-in-Class.result c.in_err-arguments-in-Class.field-0.0 _ _
    (class_deep c.args.self.now (value_in c.args.self.now c.args.params.now c.args.args.now) c.args.id c.in-Class.class c.as_slice.result.now
    (c.view.ensures.is ∙ ap (tree_of c.args.self.now) (sym c.in_ok-class.ensures ∙ c.in-Class.is ∙ ap (node.Class c.in-Class.class) (sym c.as_slice.ensures))))
    c.from_residual-in_err-arguments-in-Class.ensures.1 c.in_err-arguments-in-Class.ensures.deep

pub put-returns-in_err-parts-in-Fun-clause-deep : goal.put-returns-in_err-parts-in-Fun-clause-deep
put-returns-in_err-parts-in-Fun-clause-deep t c =
    passed_on c.from_residual-in_err-parts-in-Fun.result c.in_err-parts-in-Fun.field-0.0 _ _
    (parts_deep c.args.self.now (value_in c.args.self.now c.args.params.now c.args.args.now) c.args.id c.as_slice-in-Fun.result.now c.in-Fun.result
    (c.view.ensures.is ∙ ap (tree_of c.args.self.now) (sym c.in_ok-class.ensures ∙ c.in-Fun.is ∙ ap (λ ps. node.Fun ps c.in-Fun.result) (sym c.as_slice-in-Fun.ensures))))
    c.from_residual-in_err-parts-in-Fun.ensures.1 c.in_err-parts-in-Fun.ensures.deep

pub put-returns-in_err-result-in-Fun-clause-deep : goal.put-returns-in_err-result-in-Fun-clause-deep
put-returns-in_err-result-in-Fun-clause-deep t c =
    let is = sym c.in_ok-class.ensures ∙ c.in-Fun.is ∙ ap (λ ps. node.Fun ps c.in-Fun.result) (sym c.as_slice-in-Fun.ensures) in
    let parts = subst (PartsBelow (length c.args.self.now)) is c.view.ensures.node.parts in
    passed_on c.from_residual-in_err-result-in-Fun.result c.in_err-result-in-Fun.field-0.0 _ _
    (λ f d. result_deep c.args.self.now (value_in c.args.self.now c.args.params.now c.args.args.now) c.args.id c.as_slice-in-Fun.result.now c.in-Fun.result (c.view.ensures.is ∙ ap (tree_of c.args.self.now) is) f
    (part_deep c.args.self.now c.put_parts.new.self c.put_parts.ensures.extends c.args.params.now c.args.args.now c.requires.args c.in-Fun.result parts.1 f d))
    c.from_residual-in_err-result-in-Fun.ensures.1 c.in_err-result-in-Fun.ensures.deep

pub put-intern-requires-in-Fun : goal.put-intern-requires-in-Fun
put-intern-requires-in-Fun t c =
    let still = all_still c.put_parts.new.self c.put.new.self c.put.ensures.extends _ c.in_ok-parts-in-Fun.parts.items c.in_ok-parts-in-Fun.ensures.names in
    record {
      parts = (subst (All (PartBelow (length c.put.new.self))) (sym c.from_vec-in-Fun.ensures) still.within, c.in_ok-result-in-Fun.ensures.names.within);
      one_mark = tt;
    }

pub put-returns-in_err-ty-in-Nullable-clause-deep : goal.put-returns-in_err-ty-in-Nullable-clause-deep
put-returns-in_err-ty-in-Nullable-clause-deep t c =
    passed_on c.from_residual-in_err-ty-in-Nullable.result c.in_err-ty-in-Nullable.field-0.0 _ _
    (nullable_deep c.args.self.now (value_in c.args.self.now c.args.params.now c.args.args.now) c.args.id c.in-Nullable.ty
    (c.view.ensures.is ∙ ap (tree_of c.args.self.now) (sym c.in_ok-class.ensures ∙ c.in-Nullable.is)))
    c.from_residual-in_err-ty-in-Nullable.ensures.1 c.in_err-ty-in-Nullable.ensures.deep

pub put-returns-in_ok-arguments-in-Class-clause-names : goal.put-returns-in_ok-arguments-in-Class-clause-names
put-returns-in_ok-arguments-in-Class-clause-names t c =
    interned c.intern.result c.intern.new.self _ _
    (ap (λ xs. tree_of c.put_arguments.new.self (node.Class c.in-Class.class xs)) c.from_vec.ensures
    ∙ class_is c.args.self.now (value_in c.args.self.now c.args.params.now c.args.args.now) c.args.id c.in-Class.class c.as_slice.result.now
    (c.view.ensures.is ∙ ap (tree_of c.args.self.now) (sym c.in_ok-class.ensures ∙ c.in-Class.is ∙ ap (node.Class c.in-Class.class) (sym c.as_slice.ensures)))
    c.put_arguments.new.self c.in_ok-arguments-in-Class.arguments.items c.in_ok-arguments-in-Class.ensures.names)
    c.intern.ensures.names

pub put-returns-in_ok-arguments-in-Class-clause-deep : goal.put-returns-in_ok-arguments-in-Class-clause-deep
put-returns-in_ok-arguments-in-Class-clause-deep t c =
    too_deep c.intern.result _ _
    (ap (λ xs. tree_of c.put_arguments.new.self (node.Class c.in-Class.class xs)) c.from_vec.ensures
    ∙ class_is c.args.self.now (value_in c.args.self.now c.args.params.now c.args.args.now) c.args.id c.in-Class.class c.as_slice.result.now
    (c.view.ensures.is ∙ ap (tree_of c.args.self.now) (sym c.in_ok-class.ensures ∙ c.in-Class.is ∙ ap (node.Class c.in-Class.class) (sym c.as_slice.ensures)))
    c.put_arguments.new.self c.in_ok-arguments-in-Class.arguments.items c.in_ok-arguments-in-Class.ensures.names)
    c.intern.ensures.deep

pub put-returns-in-Some-clause-names : goal.put-returns-in-Some-clause-names
put-returns-in-Some-clause-names t c =
    param_names c.args.self.now c.args.params.now c.args.args.now c.args.id c.in-Param.var c.in-Some.arg c.requires.args
    (c.view.ensures.is ∙ ap (tree_of c.args.self.now) (sym c.in_ok-class.ensures ∙ c.in-Param.is)) (sym c.argument_for.ensures ∙ c.in-Some.is)

pub put-returns-in-None-clause-names : goal.put-returns-in-None-clause-names
put-returns-in-None-clause-names t c =
    same_names c.args.self.now c.args.params.now c.args.args.now c.args.id c.in-Param.var c.requires.id
    (c.view.ensures.is ∙ ap (tree_of c.args.self.now) (sym c.in_ok-class.ensures ∙ c.in-Param.is)) (sym c.argument_for.ensures ∙ c.in-None.is)

pub put-returns-in_ok-result-in-Fun-clause-names : goal.put-returns-in_ok-result-in-Fun-clause-names
put-returns-in_ok-result-in-Fun-clause-names t c =
    let is = sym c.in_ok-class.ensures ∙ c.in-Fun.is ∙ ap (λ ps. node.Fun ps c.in-Fun.result) (sym c.as_slice-in-Fun.ensures) in
    let parts = subst (PartsBelow (length c.args.self.now)) is c.view.ensures.node.parts in
    let still = all_still c.put_parts.new.self c.put.new.self c.put.ensures.extends _ c.in_ok-parts-in-Fun.parts.items c.in_ok-parts-in-Fun.ensures.names in
    let named = part_names c.args.self.now c.put_parts.new.self c.put_parts.ensures.extends c.args.params.now c.args.args.now c.requires.args c.put.new.self c.in-Fun.result c.in_ok-result-in-Fun.result parts.1 c.in_ok-result-in-Fun.ensures.names in
    let made = ap (λ xs. tree_of c.put.new.self (node.Fun xs c.in_ok-result-in-Fun.result)) c.from_vec-in-Fun.ensures
    ∙ function_is c.args.self.now (value_in c.args.self.now c.args.params.now c.args.args.now) c.args.id c.as_slice-in-Fun.result.now c.in-Fun.result (c.view.ensures.is ∙ ap (tree_of c.args.self.now) is)
    c.put.new.self c.in_ok-parts-in-Fun.parts.items c.in_ok-result-in-Fun.result still named in
    interned c.intern-in-Fun.result c.intern-in-Fun.new.self _ _ made c.intern-in-Fun.ensures.names

pub put-returns-in_ok-result-in-Fun-clause-deep : goal.put-returns-in_ok-result-in-Fun-clause-deep
put-returns-in_ok-result-in-Fun-clause-deep t c =
    let is = sym c.in_ok-class.ensures ∙ c.in-Fun.is ∙ ap (λ ps. node.Fun ps c.in-Fun.result) (sym c.as_slice-in-Fun.ensures) in
    let parts = subst (PartsBelow (length c.args.self.now)) is c.view.ensures.node.parts in
    let still = all_still c.put_parts.new.self c.put.new.self c.put.ensures.extends _ c.in_ok-parts-in-Fun.parts.items c.in_ok-parts-in-Fun.ensures.names in
    let named = part_names c.args.self.now c.put_parts.new.self c.put_parts.ensures.extends c.args.params.now c.args.args.now c.requires.args c.put.new.self c.in-Fun.result c.in_ok-result-in-Fun.result parts.1 c.in_ok-result-in-Fun.ensures.names in
    let made = ap (λ xs. tree_of c.put.new.self (node.Fun xs c.in_ok-result-in-Fun.result)) c.from_vec-in-Fun.ensures
    ∙ function_is c.args.self.now (value_in c.args.self.now c.args.params.now c.args.args.now) c.args.id c.as_slice-in-Fun.result.now c.in-Fun.result (c.view.ensures.is ∙ ap (tree_of c.args.self.now) is)
    c.put.new.self c.in_ok-parts-in-Fun.parts.items c.in_ok-result-in-Fun.result still named in
    too_deep c.intern-in-Fun.result _ _ made c.intern-in-Fun.ensures.deep

pub put-returns-in-Nothing-clause-names : goal.put-returns-in-Nothing-clause-names
put-returns-in-Nothing-clause-names t c =
    nothing_names c.args.self.now (value_in c.args.self.now c.args.params.now c.args.args.now) c.args.id c.requires.id (c.view.ensures.is ∙ ap (tree_of c.args.self.now) (sym c.in_ok-class.ensures ∙ c.in-Nothing.is))

pub put-returns-in_ok-ty-in-Nullable-clause-names : goal.put-returns-in_ok-ty-in-Nullable-clause-names
put-returns-in_ok-ty-in-Nullable-clause-names t c =
    interned c.nullable.result c.nullable.new.self _ _
    (ap nullable c.in_ok-ty-in-Nullable.ensures.names.is
    ∙ sym (put_nullable (value_in c.args.self.now c.args.params.now c.args.args.now) c.args.self.now c.args.id c.in-Nullable.ty (c.view.ensures.is ∙ ap (tree_of c.args.self.now) (sym c.in_ok-class.ensures ∙ c.in-Nullable.is))))
    c.nullable.ensures.names

pub put_argument-returns-in_err-put-in-Exact-clause-deep : goal.put_argument-returns-in_err-put-in-Exact-clause-deep
put_argument-returns-in_err-put-in-Exact-clause-deep t c =
    passed_on c.from_residual.result c.in_err-put-in-Exact.field-0.0 _ _ (exact_deep c.args.self.now c.put.new.self (value_in c.args.self.now c.args.params.now c.args.args.now) c.args.argument c.in-Exact.ty c.in-Exact.is) c.from_residual.ensures.1 c.in_err-put-in-Exact.ensures.deep

pub put_argument-returns-in_err-put-in-Out-clause-deep : goal.put_argument-returns-in_err-put-in-Out-clause-deep
put_argument-returns-in_err-put-in-Out-clause-deep t c =
    passed_on c.from_residual-in_err-put-in-Out.result c.in_err-put-in-Out.field-0.0 _ _ (out_deep c.args.self.now c.put-in-Out.new.self (value_in c.args.self.now c.args.params.now c.args.args.now) c.args.argument c.in-Out.ty c.in-Out.is) c.from_residual-in_err-put-in-Out.ensures.1 c.in_err-put-in-Out.ensures.deep

pub put_argument-returns-in_err-put-in-In-clause-deep : goal.put_argument-returns-in_err-put-in-In-clause-deep
put_argument-returns-in_err-put-in-In-clause-deep t c =
    passed_on c.from_residual-in_err-put-in-In.result c.in_err-put-in-In.field-0.0 _ _ (in_deep c.args.self.now c.put-in-In.new.self (value_in c.args.self.now c.args.params.now c.args.args.now) c.args.argument c.in-In.ty c.in-In.is) c.from_residual-in_err-put-in-In.ensures.1 c.in_err-put-in-In.ensures.deep

pub put_argument-returns-in_ok-put-in-Exact-clause-names : goal.put_argument-returns-in_ok-put-in-Exact-clause-names
put_argument-returns-in_ok-put-in-Exact-clause-names t c =
    exact_names c.args.self.now c.put.new.self (value_in c.args.self.now c.args.params.now c.args.args.now) c.args.argument c.in-Exact.ty c.in_ok-put-in-Exact.field-0 c.in_ok-put-in-Exact.ensures.names c.in-Exact.is

pub put_argument-returns-in_ok-put-in-Out-clause-names : goal.put_argument-returns-in_ok-put-in-Out-clause-names
put_argument-returns-in_ok-put-in-Out-clause-names t c =
    out_names c.args.self.now c.put-in-Out.new.self (value_in c.args.self.now c.args.params.now c.args.args.now) c.args.argument c.in-Out.ty c.in_ok-put-in-Out.field-0 c.in_ok-put-in-Out.ensures.names c.in-Out.is

pub put_argument-returns-in_ok-put-in-In-clause-names : goal.put_argument-returns-in_ok-put-in-In-clause-names
put_argument-returns-in_ok-put-in-In-clause-names t c =
    in_names c.args.self.now c.put-in-In.new.self (value_in c.args.self.now c.args.params.now c.args.args.now) c.args.argument c.in-In.ty c.in_ok-put-in-In.field-0 c.in_ok-put-in-In.ensures.names c.in-In.is

pub put_argument-returns-in-Star-clause-names : goal.put_argument-returns-in-Star-clause-names
put_argument-returns-in-Star-clause-names t c =
    star_names c.args.self.now (value_in c.args.self.now c.args.params.now c.args.args.now) c.args.argument c.in-Star.is

pub put_arguments-put_argument-requires : goal.put_arguments-put_argument-requires
put_arguments-put_argument-requires t c =
    let x = get_or c.args.arguments.now c.loop-argument.argument-index (argument.Exact (record { 0 = 0 })) in
    let small = size_below c.args.below x (c.requires.arguments c.loop-argument.argument-index (argument.Exact (record { 0 = 0 })) c.loop-argument-test.true) in
    (omega (arith, small, c.decreases), (argument_still c.args.self.now c.loop-argument.self c.loop-argument.invariant.0 c.args.params.now c.args.args.now c.requires.args c.args.arguments.now c.args.below c.loop-argument.argument-index (argument.Exact (record { 0 = 0 })) c.requires.below c.requires.arguments c.loop-argument-test.true, args_still c.args.self.now c.loop-argument.self c.loop-argument.invariant.0 c.args.params.now c.args.args.now c.requires.args))

pub put_arguments-returns-in_err-put_argument-clause-deep : goal.put_arguments-returns-in_err-put_argument-clause-deep
put_arguments-returns-in_err-put_argument-clause-deep t c =
    passed_on c.from_residual-in_err-put_argument.result c.in_err-put_argument.field-0.0 _ _
    (argument_deep c.args.self.now c.loop-argument.self c.loop-argument.invariant.0 c.args.params.now c.args.args.now c.requires.args c.args.arguments.now c.args.below c.loop-argument.argument-index (argument.Exact (record { 0 = 0 })) c.requires.below c.requires.arguments c.loop-argument-test.true)
    c.from_residual-in_err-put_argument.ensures.1 c.in_err-put_argument.ensures.deep

pub put_arguments-loop-argument-preserved : goal.put_arguments-loop-argument-preserved
put_arguments-loop-argument-preserved t c = (
  extends_both c.args.self.now c.loop-argument.self c.put_argument.new.self c.loop-argument.invariant.0 c.put_argument.ensures.extends,
  subst (λ (named : List TyArg). NamesArguments c.put_argument.new.self (map (λ a. put_argument (value_in c.args.self.now c.args.params.now c.args.args.now) (argument_at c.args.self.now a)) (take (c.loop-argument.argument-index + 1) c.args.arguments.now)) named) (sym c.in_ok-push.ensures.items)
      (argument_next c.args.self.now c.loop-argument.self c.loop-argument.invariant.0 c.args.params.now c.args.args.now c.requires.args c.args.arguments.now c.args.below c.loop-argument.argument-index (argument.Exact (record { 0 = 0 })) c.requires.below c.requires.arguments c.loop-argument-test.true c.put_argument.new.self c.put_argument.ensures.extends c.loop-argument.named.items c.in_ok-put_argument.field-0 c.loop-argument.invariant.1 c.in_ok-put_argument.ensures.names),
)

pub put_parts-returns-in_err-put-clause-deep : goal.put_parts-returns-in_err-put-clause-deep
put_parts-returns-in_err-put-clause-deep t c =
    passed_on c.from_residual-in_err-put.result c.in_err-put.field-0.0 _ _
    (part_deep_in c.args.self.now c.loop-part.self c.loop-part.invariant.0 c.args.params.now c.args.args.now c.requires.args c.args.parts.now c.args.below c.loop-part.part-index (record { 0 = 0 }) c.requires.below c.requires.parts c.loop-part-test.true)
    c.from_residual-in_err-put.ensures.1 c.in_err-put.ensures.deep

pub put_parts-loop-part-preserved : goal.put_parts-loop-part-preserved
put_parts-loop-part-preserved t c = (
  extends_both c.args.self.now c.loop-part.self c.put.new.self c.loop-part.invariant.0 c.put.ensures.extends,
  subst (λ (named : List TypeId). NamesAll c.put.new.self (map (λ p. put (value_in c.args.self.now c.args.params.now c.args.args.now) (tree_at c.args.self.now p)) (take (c.loop-part.part-index + 1) c.args.parts.now)) named) (sym c.in_ok-push.ensures.items)
      (part_next c.args.self.now c.loop-part.self c.loop-part.invariant.0 c.args.params.now c.args.args.now c.requires.args c.args.parts.now c.args.below c.loop-part.part-index (record { 0 = 0 }) c.requires.below c.requires.parts c.loop-part-test.true c.put.new.self c.put.ensures.extends c.loop-part.named.items c.in_ok-put.field-0 c.loop-part.invariant.1 c.in_ok-put.ensures.names),
)
