-- Types made of those in a list: their levels, their depths.
use Rattle.std.proofs.Common.{◌≡◌, ℕ, suc, ◌+◌, ◌<◌, max, List, [], ◌∷◌, ◌++◌, length, map, take, get_or, refl, sym, ap, subst, ◌∙◌, arith, rules, ◌⊎◌, ⊎_elim}
use Rattle.std.specs.Ordering.{ord_max, nat_cmp}
use Rattle.std.proofs.lemmas.List.{take_more, map-append}
use Rattle.kc_types.specs.declared.ids.ClassId.{ClassId}
use Rattle.kc_types.specs.declared.ids.TypeId.{TypeId}
use Rattle.kc_types.specs.declared.types.TyArg.{TyArg}
use Rattle.kc_types.specs.declared.types.TyArg.TheVariants as argument
use Rattle.kc_types.specs.declared.types.Ty.TheVariants as node
use Rattle.kc_types.specs.declared.trees.TypeTree.{TypeTree}
use Rattle.kc_types.specs.declared.trees.ArgTree.{ArgTree}
use Rattle.kc_types.specs.declared.trees.ArgTree.TheOpen.{ArgTree-F}
use Rattle.kc_types.specs.declared.trees.ArgTree.TheViews.{roll-TypeTree, roll-ArgTree}
use Rattle.kc_types.specs.declared.trees.ArgTree.TheFolds.{map-TypeTree, map-ArgTree, fold-roll-TypeTree, fold-roll-ArgTree}
use Rattle.kc_types.specs.Trees.{Level, deepest, level_depth, argument_depth, depth_of, depth_of_argument}
use Rattle.kc_types.specs.Tables.{tree_at, argument_at, level_of, tree_of}

pub map_more : {A B : Type 0} (f : A → B) (xs : List A) (i : ℕ) (d : A) → i < length xs → map f (take (i + 1) xs) ≡ map f (take i xs) ++ f (get_or xs i d) ∷ []
map_more f xs i d lt = ap (λ ys. map f ys) (take_more xs i d lt) ∙ map-append f (take i xs) (get_or xs i d ∷ [])

pub map_twice : {A B C : Type 0} (f : B → C) (g : A → B) (xs : List A) → map f (map g xs) ≡ map (λ a. f (g a)) xs
map_twice f g [] = refl
map_twice f g (x ∷ xs) = ap (λ l. f (g x) ∷ l) (map_twice f g xs)

deepest_snoc : (ns : List ℕ) (n : ℕ) → deepest (ns ++ n ∷ []) ≡ max (deepest ns) n
deepest_snoc [] n = omega arith
deepest_snoc (m ∷ ns) n = ap (λ k. max m k) (deepest_snoc ns n) ∙ omega arith

pub deepest_more : {A : Type 0} (f : A → ℕ) (xs : List A) (i : ℕ) (d : A) → i < length xs → deepest (map f (take (i + 1) xs)) ≡ max (deepest (map f (take i xs))) (f (get_or xs i d))
deepest_more f xs i d lt = ap deepest (map_more f xs i d lt) ∙ deepest_snoc (map f (take i xs)) (f (get_or xs i d))

-- a tree's depth by its level
pub depth_rolled : (l : Level) → depth_of (roll-TypeTree l) ≡ level_depth (map-TypeTree ArgTree TypeTree ℕ ℕ depth_of_argument depth_of l)
depth_rolled l = fold-roll-TypeTree ℕ ℕ argument_depth level_depth l

pub argument_depth_rolled : (l : ArgTree-F ArgTree TypeTree) → depth_of_argument (roll-ArgTree l) ≡ argument_depth (map-ArgTree ArgTree TypeTree ℕ ℕ depth_of_argument depth_of l)
argument_depth_rolled l = fold-roll-ArgTree ℕ ℕ argument_depth level_depth l

pub larger : (m n : ℕ) → ord_max nat_cmp m n ≡ max m n
larger m n = search rules

pub depth_of_class : (ts : List TypeTree) (c : ClassId) (xs : List TyArg) (n : ℕ) → n ≡ deepest (map (λ a. depth_of_argument (argument_at ts a)) xs) → 1 + n ≡ depth_of (tree_of ts (node.Class c xs))
depth_of_class ts c xs n e =
    let k : 1 + n ≡ suc n = omega arith in
    k ∙ ap suc (e ∙ ap deepest (sym (map_twice depth_of_argument (argument_at ts) xs))) ∙ sym (depth_rolled (level_of ts (node.Class c xs)))

pub depth_of_function : (ts : List TypeTree) (ps : List TypeId) (r : TypeId) (n m : ℕ) → n ≡ deepest (map (λ t. depth_of (tree_at ts t)) ps) → m ≡ depth_of (tree_at ts r) → 1 + max n m ≡ depth_of (tree_of ts (node.Fun ps r))
depth_of_function ts ps r n m e f =
    let k : 1 + max n m ≡ suc (max n m) = omega arith in
    k
    ∙ ap suc (ap (λ i. max i m) (e ∙ ap deepest (sym (map_twice depth_of (tree_at ts) ps))) ∙ ap (λ i. max (deepest (map depth_of (map (tree_at ts) ps))) i) f)
    ∙ sym (depth_rolled (level_of ts (node.Fun ps r)))

pub depth_of_argument_type : (ts : List TypeTree) (a : TyArg) (t : TypeId) → (a ≡ argument.Exact t) ⊎ ((a ≡ argument.Out t) ⊎ (a ≡ argument.In t)) → depth_of (tree_at ts t) ≡ depth_of_argument (argument_at ts a)
depth_of_argument_type ts a t is = ⊎_elim
    (λ e. subst (λ b. depth_of (tree_at ts t) ≡ depth_of_argument (argument_at ts b)) (sym e) (sym (argument_depth_rolled (ArgTree-F.Exact (tree_at ts t)))))
    (λ r. ⊎_elim
    (λ e. subst (λ b. depth_of (tree_at ts t) ≡ depth_of_argument (argument_at ts b)) (sym e) (sym (argument_depth_rolled (ArgTree-F.Out (tree_at ts t)))))
    (λ e. subst (λ b. depth_of (tree_at ts t) ≡ depth_of_argument (argument_at ts b)) (sym e) (sym (argument_depth_rolled (ArgTree-F.In (tree_at ts t)))))
    r)
    is
