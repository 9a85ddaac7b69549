-- Substitution, level by level.
use Rattle.std.proofs.Common.{◌≡◌, ℕ, zero, suc, ◌+◌, ◌<◌, ◌≤◌, max, Bool, true, false, cond, nat_eq, List, [], ◌∷◌, ◌++◌, length, map, take, get_or, Option, Some, None, refl, sym, ap, subst, ◌∙◌, arith, true≢false, append_assoc, length-append}
use Rattle.std.specs.Prelude.{All}
use Rattle.std.proofs.lemmas.List.{map-append}
use Rattle.std.proofs.lemmas.List.Elements.{All-append}
use Rattle.std.specs.Prelude.{Result, Ok, Err, IfOk}
use Rattle.std.specs.Result.{IsErrAnd}
use Rattle.std.proofs.lemmas.Result.{err_from_is_err_and}
use Rattle.kc_types.specs.declared.table.TypeTooDeep.{TypeTooDeep}
use Rattle.kc_text.specs.Fail.{IfFound}
use Rattle.kc_text.specs.declared.errors.Fail.{Fail}
use Rattle.kc_text.specs.declared.errors.Fail.TheVariants.{Found, Memory}
use Rattle.kc_types.specs.declared.ids.ClassId.{ClassId}
use Rattle.kc_types.specs.declared.ids.TypeId.{TypeId}
use Rattle.kc_types.specs.declared.ids.VarId.{VarId}
use Rattle.kc_types.specs.declared.types.TyArg.{TyArg}
use Rattle.kc_types.specs.declared.types.TyArg.TheVariants as argument
use Rattle.kc_types.specs.declared.types.Ty.{Ty}
use Rattle.kc_types.specs.declared.types.Ty.TheVariants as node
use Rattle.kc_types.specs.declared.trees.TypeTree.{TypeTree, out-TypeTree}
use Rattle.kc_types.specs.declared.trees.ArgTree.{ArgTree}
use Rattle.kc_types.specs.declared.trees.ArgTree.TheOpen.{TypeTree-F, ArgTree-F}
use Rattle.kc_types.specs.declared.trees.ArgTree.TheViews.{roll-TypeTree, roll-ArgTree, out-roll-TypeTree}
use Rattle.kc_types.specs.declared.trees.ArgTree.TheFolds.{map-TypeTree, map-ArgTree, fold-roll-TypeTree, fold-roll-ArgTree}
use Rattle.kc_types.specs.Trees.{Level, deepest, depth_of, depth_of_argument, unless_nullable, nullable, value_of, put_level, put, put_argument}
use Rattle.kc_types.specs.Tables.{tree_at, argument_at, level_of, tree_of, PartBelow, ArgumentBelow, level_is_nullable, is_nullable, value_in, argument_for, Names, NamesArgument, NamesAll, NamesArguments, Extends}
use Rattle.kc_types.proofs.Tables.{map_more, map_twice, depth_rolled, argument_depth_rolled}
use Rattle.kc_types.proofs.Nodes.{head_of_all, tail_of_all, map_same, tree_at_more, argument_at_more}
use Rattle.kc_types.proofs.Growth.{argument_up}

-- ---- one level

module _ (v : VarId → TypeTree) where
  put_rolled : (l : Level) → put v (roll-TypeTree l) ≡ put_level v (map-TypeTree ArgTree TypeTree ArgTree TypeTree (put_argument v) (put v) l)
  put_rolled l = fold-roll-TypeTree ArgTree TypeTree roll-ArgTree (put_level v) l

  put_argument_rolled : (l : ArgTree-F ArgTree TypeTree) → put_argument v (roll-ArgTree l) ≡ roll-ArgTree (map-ArgTree ArgTree TypeTree ArgTree TypeTree (put_argument v) (put v) l)
  put_argument_rolled l = fold-roll-ArgTree ArgTree TypeTree roll-ArgTree (put_level v) l

  module _ (ts : List TypeTree) where
    pub put_exact : (t : TypeId) → put_argument v (argument_at ts (argument.Exact t)) ≡ roll-ArgTree (ArgTree-F.Exact (put v (tree_at ts t)))
    put_exact t = put_argument_rolled (ArgTree-F.Exact (tree_at ts t))

    pub put_out : (t : TypeId) → put_argument v (argument_at ts (argument.Out t)) ≡ roll-ArgTree (ArgTree-F.Out (put v (tree_at ts t)))
    put_out t = put_argument_rolled (ArgTree-F.Out (tree_at ts t))

    pub put_in : (t : TypeId) → put_argument v (argument_at ts (argument.In t)) ≡ roll-ArgTree (ArgTree-F.In (put v (tree_at ts t)))
    put_in t = put_argument_rolled (ArgTree-F.In (tree_at ts t))

    pub put_star : put_argument v (argument_at ts argument.Star) ≡ roll-ArgTree ArgTree-F.Star
    put_star = put_argument_rolled ArgTree-F.Star

    module _ (id : TypeId) where
      pub put_class : (c : ClassId) (xs : List TyArg) → tree_at ts id ≡ tree_of ts (node.Class c xs) → put v (tree_at ts id) ≡ roll-TypeTree (TypeTree-F.Class c (map (λ a. put_argument v (argument_at ts a)) xs))
      put_class c xs is = ap (put v) is ∙ put_rolled (TypeTree-F.Class c (map (argument_at ts) xs)) ∙ ap (λ us. roll-TypeTree (TypeTree-F.Class c us)) (map_twice (put_argument v) (argument_at ts) xs)

      pub put_param : (x : VarId) → tree_at ts id ≡ tree_of ts (node.Param x) → put v (tree_at ts id) ≡ v x
      put_param x is = ap (put v) is ∙ put_rolled (TypeTree-F.Param x)

      pub put_function : (ps : List TypeId) (r : TypeId) → tree_at ts id ≡ tree_of ts (node.Fun ps r) → put v (tree_at ts id) ≡ roll-TypeTree (TypeTree-F.Fun (map (λ t. put v (tree_at ts t)) ps) (put v (tree_at ts r)))
      put_function ps r is = ap (put v) is ∙ put_rolled (TypeTree-F.Fun (map (tree_at ts) ps) (tree_at ts r)) ∙ ap (λ us. roll-TypeTree (TypeTree-F.Fun us (put v (tree_at ts r)))) (map_twice (put v) (tree_at ts) ps)

      pub put_nothing : tree_at ts id ≡ tree_of ts node.Nothing → put v (tree_at ts id) ≡ tree_at ts id
      put_nothing is = ap (put v) is ∙ put_rolled TypeTree-F.Nothing ∙ sym is

      pub put_nullable : (t : TypeId) → tree_at ts id ≡ tree_of ts (node.Nullable t) → put v (tree_at ts id) ≡ nullable (put v (tree_at ts t))
      put_nullable t is = ap (put v) is ∙ put_rolled (TypeTree-F.Nullable (tree_at ts t))

-- ---- depths

pub depth_of_rolled_class : (c : ClassId) (us : List ArgTree) → depth_of (roll-TypeTree (TypeTree-F.Class c us)) ≡ suc (deepest (map depth_of_argument us))
depth_of_rolled_class c us = depth_rolled (TypeTree-F.Class c us)

pub depth_of_rolled_function : (us : List TypeTree) (r : TypeTree) → depth_of (roll-TypeTree (TypeTree-F.Fun us r)) ≡ suc (max (deepest (map depth_of us)) (depth_of r))
depth_of_rolled_function us r = depth_rolled (TypeTree-F.Fun us r)

depth_of_nullable_by : (t : TypeTree) (l : Level) → depth_of (unless_nullable t l) ≡ depth_of t
depth_of_nullable_by t (TypeTree-F.Nullable u) = refl
depth_of_nullable_by t (TypeTree-F.Class c xs) = depth_rolled (TypeTree-F.Nullable t)
depth_of_nullable_by t (TypeTree-F.Param x) = depth_rolled (TypeTree-F.Nullable t)
depth_of_nullable_by t (TypeTree-F.Fun ps r) = depth_rolled (TypeTree-F.Nullable t)
depth_of_nullable_by t TypeTree-F.Nothing = depth_rolled (TypeTree-F.Nullable t)

pub depth_of_nullable : (t : TypeTree) → depth_of (nullable t) ≡ depth_of t
depth_of_nullable t = depth_of_nullable_by t (out-TypeTree t)

pub within_deepest : {A : Type 0} (f : A → ℕ) (xs : List A) (i : ℕ) (d : A) → i < length xs → f (get_or xs i d) ≤ deepest (map f xs)
within_deepest f [] i d lt = absurd (omega arith)
within_deepest f (x ∷ xs) zero d lt = omega arith
within_deepest f (x ∷ xs) (suc i) d lt = let h = within_deepest f xs i d (omega arith) in omega (arith, h)

-- ---- `?`

unless_is : (t : TypeTree) (l : Level) → level_is_nullable l ≡ true → unless_nullable t l ≡ t
unless_is t (TypeTree-F.Nullable u) e = refl
unless_is t (TypeTree-F.Class c xs) e = absurd (true≢false (sym e))
unless_is t (TypeTree-F.Param x) e = absurd (true≢false (sym e))
unless_is t (TypeTree-F.Fun ps r) e = absurd (true≢false (sym e))
unless_is t TypeTree-F.Nothing e = absurd (true≢false (sym e))

unless_not : (t : TypeTree) (l : Level) → level_is_nullable l ≡ false → unless_nullable t l ≡ roll-TypeTree (TypeTree-F.Nullable t)
unless_not t (TypeTree-F.Nullable u) e = absurd (true≢false e)
unless_not t (TypeTree-F.Class c xs) e = refl
unless_not t (TypeTree-F.Param x) e = refl
unless_not t (TypeTree-F.Fun ps r) e = refl
unless_not t TypeTree-F.Nothing e = refl

pub nullable_is : (t : TypeTree) → is_nullable t ≡ true → nullable t ≡ t
nullable_is t e = unless_is t (out-TypeTree t) e

pub nullable_not : (t : TypeTree) → is_nullable t ≡ false → nullable t ≡ roll-TypeTree (TypeTree-F.Nullable t)
nullable_not t e = unless_not t (out-TypeTree t) e

abbrev pub node_is_nullable : Ty → Bool
node_is_nullable (node.Nullable t) = true
node_is_nullable (node.Class c xs) = false
node_is_nullable (node.Param x) = false
node_is_nullable (node.Fun ps r) = false
node_is_nullable node.Nothing = false

level_of_nullable : (ts : List TypeTree) (ty : Ty) → level_is_nullable (level_of ts ty) ≡ node_is_nullable ty
level_of_nullable ts (node.Nullable t) = refl
level_of_nullable ts (node.Class c xs) = refl
level_of_nullable ts (node.Param x) = refl
level_of_nullable ts (node.Fun ps r) = refl
level_of_nullable ts node.Nothing = refl

pub not_nullable : (ty : Ty) → ((t : TypeId) → ty ≡ node.Nullable t → ⊥) → node_is_nullable ty ≡ false
not_nullable (node.Nullable t) f = absurd (f t refl)
not_nullable (node.Class c xs) f = refl
not_nullable (node.Param x) f = refl
not_nullable (node.Fun ps r) f = refl
not_nullable node.Nothing f = refl

pub is_nullable_node : (ts : List TypeTree) (t : TypeTree) (ty : Ty) → t ≡ tree_of ts ty → is_nullable t ≡ node_is_nullable ty
is_nullable_node ts t ty is = ap is_nullable is ∙ ap level_is_nullable (out-roll-TypeTree (level_of ts ty)) ∙ level_of_nullable ts ty

-- ---- what stands for a parameter

abbrev pub or_param : List TypeTree → VarId → Option TypeId → TypeTree
or_param ts x None = roll-TypeTree (TypeTree-F.Param x)
or_param ts x (Some t) = tree_at ts t

value_by : (ts : List TypeTree) (p : VarId) (x : VarId) (t : TypeId) (b : Bool) (o : Option TypeId) (u : TypeTree) → u ≡ or_param ts x o → cond b (tree_at ts t) u ≡ or_param ts x (cond b (Some t) o)
value_by ts p x t true o u e = refl
value_by ts p x t false o u e = e

pub value_is : (ts : List TypeTree) (ps : List VarId) (args : List TypeId) (x : VarId) → value_in ts ps args x ≡ or_param ts x (argument_for ps args x)
value_is ts [] args x = refl
value_is ts (p ∷ ps) [] x = refl
value_is ts (p ∷ ps) (t ∷ args) x = value_by ts p x t (nat_eq p.0 x.0) (argument_for ps args x) (value_in ts ps args x) (value_is ts ps args x)

argument_by : (P : TypeId → Type 0) (b : Bool) (t u : TypeId) (o : Option TypeId) → P t → (o ≡ Some u → P u) → cond b (Some t) o ≡ Some u → P u
argument_by P true t u o pt f e = let h : t ≡ u = cc in subst P h pt
argument_by P false t u o pt f e = f e

pub argument_within : (P : TypeId → Type 0) (ps : List VarId) (args : List TypeId) (x : VarId) (u : TypeId) → All P args → argument_for ps args x ≡ Some u → P u
argument_within P [] args x u all e = absurd cc
argument_within P (p ∷ ps) [] x u all e = absurd cc
argument_within P (p ∷ ps) (t ∷ args) x u all e = argument_by P (nat_eq p.0 x.0) t u (argument_for ps args x) (head_of_all P t args all) (argument_within P ps args x u (tail_of_all P t args all)) e

-- ---- a longer table

pub value_more : (ts more : List TypeTree) (ps : List VarId) (args : List TypeId) → All (PartBelow (length ts)) args → ◌≡◌ {A = VarId → TypeTree} (value_in (ts ++ more) ps args) (value_in ts ps args)
value_more ts more ps args all = ap (λ us x. value_of ps us x) (map_same (PartBelow (length ts)) (tree_at (ts ++ more)) (tree_at ts) (tree_at_more ts more) args all)

pub longer : (ts new : List TypeTree) → Extends ts new → length ts ≤ length new
longer ts new ext = let n = ap length ext.1 in let m = length-append ts ext.0 in omega (arith, n, m)

pub extends_same : (ts : List TypeTree) → Extends ts ts
extends_same ts = ([], sym (append_nil ts))
  where
    append_nil : (us : List TypeTree) → us ++ [] ≡ us
    append_nil [] = refl
    append_nil (u ∷ us) = ap (λ l. u ∷ l) (append_nil us)

pub extends_both : (a b c : List TypeTree) → Extends a b → Extends b c → Extends a c
extends_both a b c e f = (e.0 ++ f.0, f.1 ∙ ap (λ l. l ++ f.0) e.1 ∙ append_assoc a e.0 f.0)

module _ (old now : List TypeTree) (ext : Extends old now) (ps : List VarId) (args : List TypeId) (all : All (PartBelow (length old)) args) where
  value_same : ◌≡◌ {A = VarId → TypeTree} (value_in now ps args) (value_in old ps args)
  value_same = ap {B = VarId → TypeTree} (λ (ts : List TypeTree). value_in ts ps args) ext.1 ∙ value_more old ext.0 ps args all

  pub args_still : All (PartBelow (length now)) args
  args_still k d lt = let h = all k d lt in let n = longer old now ext in omega (arith, h, n)

  pub part_same : (t : TypeId) → PartBelow (length old) t → put (value_in now ps args) (tree_at now t) ≡ put (value_in old ps args) (tree_at old t)
  part_same t lt = ap (λ w. put w (tree_at now t)) value_same ∙ ap (put (value_in old ps args)) (ap (λ (ts : List TypeTree). tree_at ts t) ext.1 ∙ tree_at_more old ext.0 t lt)

  pub argument_same : (a : TyArg) → ArgumentBelow (length old) a → put_argument (value_in now ps args) (argument_at now a) ≡ put_argument (value_in old ps args) (argument_at old a)
  argument_same a lt = ap (λ w. put_argument w (argument_at now a)) value_same ∙ ap (put_argument (value_in old ps args)) (ap (λ (ts : List TypeTree). argument_at ts a) ext.1 ∙ argument_at_more old ext.0 a lt)

module _ (now new : List TypeTree) (ext : Extends now new) where
  pub names_still : (t : TypeTree) (id : TypeId) → Names now t id → Names new t id
  names_still t id n = record {
    within = let h = n.within in let m = longer now new ext in omega (arith, h, m);
    is = ap (λ (ts : List TypeTree). tree_at ts id) ext.1 ∙ tree_at_more now ext.0 id n.within ∙ n.is;
  }

  pub all_still : (us : List TypeTree) (ids : List TypeId) → NamesAll now us ids → NamesAll new us ids
  all_still us ids n = record {
    within = λ k d lt. let h = n.within k d lt in let m = longer now new ext in omega (arith, h, m);
    are = ap (λ (ts : List TypeTree). map (tree_at ts) ids) ext.1 ∙ map_same (PartBelow (length now)) (tree_at (now ++ ext.0)) (tree_at now) (tree_at_more now ext.0) ids n.within ∙ n.are;
  }

  pub arguments_still : (us : List ArgTree) (ids : List TyArg) → NamesArguments now us ids → NamesArguments new us ids
  arguments_still us ids n = record {
    within = λ k d lt. argument_up (length now) (length new) (longer now new ext) (get_or ids k d) (n.within k d lt);
    are = ap (λ (ts : List TypeTree). map (argument_at ts) ids) ext.1 ∙ map_same (ArgumentBelow (length now)) (argument_at (now ++ ext.0)) (argument_at now) (argument_at_more now ext.0) ids n.within ∙ n.are;
  }

-- what follows of the cause, where one was found
pub found_map : {T F : Type 0} (r : Result T (Fail F)) (P Q : F → Type 0) → ((f : F) → P f → Q f) → IfFound r P → IfFound r Q
found_map (Ok x) P Q g h = tt
found_map (Err (Found f)) P Q g h = g f h
found_map (Err Memory) P Q g h = tt

one_of : {A : Type 0} (P : A → Type 0) (x : A) → P x → All P (x ∷ [])
one_of P x p zero d lt = p
one_of P x p (suc k) d lt = absurd (omega arith)

-- one more of a list
pub arguments_next : (now new : List TypeTree) → Extends now new → (f : TyArg → ArgTree) (xs : List TyArg) (i : ℕ) (d : TyArg) → i < length xs → (named : List TyArg) (a : TyArg) →
    NamesArguments now (map f (take i xs)) named → NamesArgument new (f (get_or xs i d)) a → NamesArguments new (map f (take (i + 1) xs)) (named ++ a ∷ [])
arguments_next now new ext f xs i d lt named a n m =
    let s = arguments_still now new ext (map f (take i xs)) named n in
    record {
      within = All-append (ArgumentBelow (length new)) named (a ∷ []) s.within (one_of (ArgumentBelow (length new)) a m.within);
      are = map-append (argument_at new) named (a ∷ []) ∙ ap (λ us. us ++ argument_at new a ∷ []) s.are ∙ ap (λ u. map f (take i xs) ++ u ∷ []) m.is ∙ sym (map_more f xs i d lt);
    }

pub parts_next : (now new : List TypeTree) → Extends now new → (f : TypeId → TypeTree) (xs : List TypeId) (i : ℕ) (d : TypeId) → i < length xs → (named : List TypeId) (a : TypeId) →
    NamesAll now (map f (take i xs)) named → Names new (f (get_or xs i d)) a → NamesAll new (map f (take (i + 1) xs)) (named ++ a ∷ [])
parts_next now new ext f xs i d lt named a n m =
    let s = all_still now new ext (map f (take i xs)) named n in
    record {
      within = All-append (PartBelow (length new)) named (a ∷ []) s.within (one_of (PartBelow (length new)) a m.within);
      are = map-append (tree_at new) named (a ∷ []) ∙ ap (λ us. us ++ tree_at new a ∷ []) s.are ∙ ap (λ u. map f (take i xs) ++ u ∷ []) m.is ∙ sym (map_more f xs i d lt);
    }

-- ---- what a refusal says

-- the fault of a part that is passed on
pub passed_on : {T F : Type 0} (r : Result T (Fail F)) (x : Fail F) (P Q : F → Type 0) → ((f : F) → P f → Q f) → IsErrAnd r (λ y. y ≡ x) → IfFound {T = T} (Err x) P → IfFound r Q
passed_on {T = T} {F = F} r x P Q g h k = let p = err_from_is_err_and r h in subst (λ z. IfFound z Q) (sym (p.1 ∙ ap Err p.2)) (of x k)
  where
    of : (y : Fail F) → IfFound {T = T} (Err y) P → IfFound {T = T} (Err y) Q
    of (Found f) e = g f e
    of Memory e = tt

abbrev pub Deep : ℕ → TypeTooDeep → Type 0
Deep n f = (f.depth ≡ 17) × (16 < n)

pub deep_up : (n m : ℕ) → n ≤ m → (f : TypeTooDeep) → Deep n f → Deep m f
deep_up n m le f d = (d.0, let h = d.1 in omega (arith, le, h))

-- ---- the kinds of types

module _ (ts : List TypeTree) (v : VarId → TypeTree) (id : TypeId) where
  module _ (c : ClassId) (xs : List TyArg) (is : tree_at ts id ≡ tree_of ts (node.Class c xs)) where
    class_depth : depth_of (put v (tree_at ts id)) ≡ suc (deepest (map (λ a. depth_of_argument (put_argument v (argument_at ts a))) xs))
    class_depth = ap depth_of (put_class v ts id c xs is) ∙ depth_of_rolled_class c (map (λ a. put_argument v (argument_at ts a)) xs) ∙ ap (λ l. suc (deepest l)) (map_twice depth_of_argument (λ a. put_argument v (argument_at ts a)) xs)

    pub class_deep : (f : TypeTooDeep) → Deep (deepest (map (λ a. depth_of_argument (put_argument v (argument_at ts a))) xs)) f → Deep (depth_of (put v (tree_at ts id))) f
    class_deep f d = let e = class_depth in deep_up (deepest (map (λ a. depth_of_argument (put_argument v (argument_at ts a))) xs)) (depth_of (put v (tree_at ts id))) (omega (arith, e)) f d

    pub class_is : (ts1 : List TypeTree) (ys : List TyArg) → NamesArguments ts1 (map (λ a. put_argument v (argument_at ts a)) xs) ys → tree_of ts1 (node.Class c ys) ≡ put v (tree_at ts id)
    class_is ts1 ys n = ap (λ us. roll-TypeTree (TypeTree-F.Class c us)) n.are ∙ sym (put_class v ts id c xs is)

  module _ (ps : List TypeId) (r : TypeId) (is : tree_at ts id ≡ tree_of ts (node.Fun ps r)) where
    function_depth : depth_of (put v (tree_at ts id)) ≡ suc (max (deepest (map (λ t. depth_of (put v (tree_at ts t))) ps)) (depth_of (put v (tree_at ts r))))
    function_depth =
        ap depth_of (put_function v ts id ps r is) ∙ depth_of_rolled_function (map (λ t. put v (tree_at ts t)) ps) (put v (tree_at ts r))
        ∙ ap (λ l. suc (max (deepest l) (depth_of (put v (tree_at ts r))))) (map_twice depth_of (λ t. put v (tree_at ts t)) ps)

    pub parts_deep : (f : TypeTooDeep) → Deep (deepest (map (λ t. depth_of (put v (tree_at ts t))) ps)) f → Deep (depth_of (put v (tree_at ts id))) f
    parts_deep f d = let e = function_depth in deep_up (deepest (map (λ t. depth_of (put v (tree_at ts t))) ps)) (depth_of (put v (tree_at ts id))) (omega (arith, e)) f d

    pub result_deep : (f : TypeTooDeep) → Deep (depth_of (put v (tree_at ts r))) f → Deep (depth_of (put v (tree_at ts id))) f
    result_deep f d = let e = function_depth in deep_up (depth_of (put v (tree_at ts r))) (depth_of (put v (tree_at ts id))) (omega (arith, e)) f d

    pub function_is : (ts1 : List TypeTree) (qs : List TypeId) (s : TypeId) → NamesAll ts1 (map (λ t. put v (tree_at ts t)) ps) qs → Names ts1 (put v (tree_at ts r)) s → tree_of ts1 (node.Fun qs s) ≡ put v (tree_at ts id)
    function_is ts1 qs s n m = ap (λ us. roll-TypeTree (TypeTree-F.Fun us (tree_at ts1 s))) n.are ∙ ap (λ u. roll-TypeTree (TypeTree-F.Fun (map (λ t. put v (tree_at ts t)) ps) u)) m.is ∙ sym (put_function v ts id ps r is)

  pub nullable_deep : (t : TypeId) → tree_at ts id ≡ tree_of ts (node.Nullable t) → (f : TypeTooDeep) → Deep (depth_of (put v (tree_at ts t))) f → Deep (depth_of (put v (tree_at ts id))) f
  nullable_deep t is f d =
      let e = ap depth_of (put_nullable v ts id t is) ∙ depth_of_nullable (put v (tree_at ts t)) in
      deep_up (depth_of (put v (tree_at ts t))) (depth_of (put v (tree_at ts id))) (omega (arith, e)) f d

-- a type that was interned, as the result
pub interned : (r : Result TypeId (Fail TypeTooDeep)) (new : List TypeTree) (t u : TypeTree) → t ≡ u → IfOk r (λ n. Names new t n) → IfOk r (λ n. Names new u n)
interned r new t u e h = subst (λ w. IfOk r (λ n. Names new w n)) e h

pub too_deep : (r : Result TypeId (Fail TypeTooDeep)) (t u : TypeTree) → t ≡ u → IfFound r (λ f. (f.depth ≡ 17) × (f.depth ≡ depth_of t)) → IfFound r (Deep (depth_of u))
too_deep r t u e h = found_map r (λ f. (f.depth ≡ 17) × (f.depth ≡ depth_of t)) (Deep (depth_of u)) (λ f k. (k.0, let a = k.0 in let b = k.1 ∙ ap depth_of e in omega (arith, a, b))) h

-- an argument of a type
module _ (ts new : List TypeTree) (v : VarId → TypeTree) (a : TyArg) (t : TypeId) where
  exact_depth : a ≡ argument.Exact t → depth_of_argument (put_argument v (argument_at ts a)) ≡ depth_of (put v (tree_at ts t))
  exact_depth is = ap (λ b. depth_of_argument (put_argument v (argument_at ts b))) is ∙ ap depth_of_argument (put_exact v ts t) ∙ argument_depth_rolled (ArgTree-F.Exact (put v (tree_at ts t)))

  out_depth : a ≡ argument.Out t → depth_of_argument (put_argument v (argument_at ts a)) ≡ depth_of (put v (tree_at ts t))
  out_depth is = ap (λ b. depth_of_argument (put_argument v (argument_at ts b))) is ∙ ap depth_of_argument (put_out v ts t) ∙ argument_depth_rolled (ArgTree-F.Out (put v (tree_at ts t)))

  in_depth : a ≡ argument.In t → depth_of_argument (put_argument v (argument_at ts a)) ≡ depth_of (put v (tree_at ts t))
  in_depth is = ap (λ b. depth_of_argument (put_argument v (argument_at ts b))) is ∙ ap depth_of_argument (put_in v ts t) ∙ argument_depth_rolled (ArgTree-F.In (put v (tree_at ts t)))

  pub exact_deep : a ≡ argument.Exact t → (f : TypeTooDeep) → Deep (depth_of (put v (tree_at ts t))) f → Deep (depth_of_argument (put_argument v (argument_at ts a))) f
  exact_deep is f d = subst (λ n. Deep n f) (sym (exact_depth is)) d

  pub out_deep : a ≡ argument.Out t → (f : TypeTooDeep) → Deep (depth_of (put v (tree_at ts t))) f → Deep (depth_of_argument (put_argument v (argument_at ts a))) f
  out_deep is f d = subst (λ n. Deep n f) (sym (out_depth is)) d

  pub in_deep : a ≡ argument.In t → (f : TypeTooDeep) → Deep (depth_of (put v (tree_at ts t))) f → Deep (depth_of_argument (put_argument v (argument_at ts a))) f
  in_deep is f d = subst (λ n. Deep n f) (sym (in_depth is)) d

  module _ (u : TypeId) (n : Names new (put v (tree_at ts t)) u) where
    pub exact_names : a ≡ argument.Exact t → NamesArgument new (put_argument v (argument_at ts a)) (argument.Exact u)
    exact_names is = record { within = n.within; is = ap (λ w. roll-ArgTree (ArgTree-F.Exact w)) n.is ∙ sym (put_exact v ts t) ∙ sym (ap (λ b. put_argument v (argument_at ts b)) is) }

    pub out_names : a ≡ argument.Out t → NamesArgument new (put_argument v (argument_at ts a)) (argument.Out u)
    out_names is = record { within = n.within; is = ap (λ w. roll-ArgTree (ArgTree-F.Out w)) n.is ∙ sym (put_out v ts t) ∙ sym (ap (λ b. put_argument v (argument_at ts b)) is) }

    pub in_names : a ≡ argument.In t → NamesArgument new (put_argument v (argument_at ts a)) (argument.In u)
    in_names is = record { within = n.within; is = ap (λ w. roll-ArgTree (ArgTree-F.In w)) n.is ∙ sym (put_in v ts t) ∙ sym (ap (λ b. put_argument v (argument_at ts b)) is) }

pub star_names : (ts : List TypeTree) (v : VarId → TypeTree) (a : TyArg) → a ≡ argument.Star → NamesArgument ts (put_argument v (argument_at ts a)) argument.Star
star_names ts v a is = record { within = tt; is = sym (ap (λ b. put_argument v (argument_at ts b)) is ∙ put_star v ts) }

-- ---- lists of arguments and of parts

module _ (old now : List TypeTree) (ext : Extends old now) (ps : List VarId) (args : List TypeId) (all : All (PartBelow (length old)) args) where
  abbrev before : VarId → TypeTree
  before = value_in old ps args

  abbrev after : VarId → TypeTree
  after = value_in now ps args

  pub part_names : (new : List TypeTree) (t u : TypeId) → PartBelow (length old) t → Names new (put after (tree_at now t)) u → Names new (put before (tree_at old t)) u
  part_names new t u lt n = subst (λ w. Names new w u) (part_same old now ext ps args all t lt) n

  pub part_deep : (t : TypeId) → PartBelow (length old) t → (f : TypeTooDeep) → Deep (depth_of (put after (tree_at now t))) f → Deep (depth_of (put before (tree_at old t))) f
  part_deep t lt f d = subst (λ w. Deep (depth_of w) f) (part_same old now ext ps args all t lt) d

  module _ (xs : List TyArg) (n i : ℕ) (d : TyArg) (le : n ≤ length old) (within : All (ArgumentBelow n) xs) (lt : i < length xs) where
    below_now : ArgumentBelow (length old) (get_or xs i d)
    below_now = argument_up n (length old) le (get_or xs i d) (within i d lt)

    pub argument_still : ArgumentBelow (length now) (get_or xs i d)
    argument_still = argument_up (length old) (length now) (longer old now ext) (get_or xs i d) below_now

    pub argument_deep : (f : TypeTooDeep) → Deep (depth_of_argument (put_argument after (argument_at now (get_or xs i d)))) f → Deep (deepest (map (λ a. depth_of_argument (put_argument before (argument_at old a))) xs)) f
    argument_deep f k =
        let e = argument_same old now ext ps args all (get_or xs i d) below_now in
        deep_up (depth_of_argument (put_argument before (argument_at old (get_or xs i d)))) (deepest (map (λ a. depth_of_argument (put_argument before (argument_at old a))) xs))
        (within_deepest (λ a. depth_of_argument (put_argument before (argument_at old a))) xs i d lt) f (subst (λ w. Deep (depth_of_argument w) f) e k)

    pub argument_next : (new : List TypeTree) → Extends now new → (named : List TyArg) (a : TyArg) → NamesArguments now (map (λ b. put_argument before (argument_at old b)) (take i xs)) named →
        NamesArgument new (put_argument after (argument_at now (get_or xs i d))) a → NamesArguments new (map (λ b. put_argument before (argument_at old b)) (take (i + 1) xs)) (named ++ a ∷ [])
    argument_next new e named a so_far one =
        arguments_next now new e (λ b. put_argument before (argument_at old b)) xs i d lt named a so_far
        (subst (λ w. NamesArgument new w a) (argument_same old now ext ps args all (get_or xs i d) below_now) one)

  module _ (xs : List TypeId) (n i : ℕ) (d : TypeId) (le : n ≤ length old) (within : All (PartBelow n) xs) (lt : i < length xs) where
    part_now : PartBelow (length old) (get_or xs i d)
    part_now = let h = within i d lt in omega (arith, h, le)

    pub part_deep_in : (f : TypeTooDeep) → Deep (depth_of (put after (tree_at now (get_or xs i d)))) f → Deep (deepest (map (λ t. depth_of (put before (tree_at old t))) xs)) f
    part_deep_in f k =
        deep_up (depth_of (put before (tree_at old (get_or xs i d)))) (deepest (map (λ t. depth_of (put before (tree_at old t))) xs))
        (within_deepest (λ t. depth_of (put before (tree_at old t))) xs i d lt) f (part_deep (get_or xs i d) part_now f k)

    pub part_next : (new : List TypeTree) → Extends now new → (named : List TypeId) (a : TypeId) → NamesAll now (map (λ t. put before (tree_at old t)) (take i xs)) named →
        Names new (put after (tree_at now (get_or xs i d))) a → NamesAll new (map (λ t. put before (tree_at old t)) (take (i + 1) xs)) (named ++ a ∷ [])
    part_next new e named a so_far one =
        parts_next now new e (λ t. put before (tree_at old t)) xs i d lt named a so_far (part_names new (get_or xs i d) a part_now one)

-- ---- parameters and `Nothing`

pub param_names : (ts : List TypeTree) (ps : List VarId) (args : List TypeId) (id : TypeId) (x : VarId) (t : TypeId) → All (PartBelow (length ts)) args → tree_at ts id ≡ tree_of ts (node.Param x) → argument_for ps args x ≡ Some t → Names ts (put (value_in ts ps args) (tree_at ts id)) t
param_names ts ps args id x t all is e = record {
  within = argument_within (PartBelow (length ts)) ps args x t all e;
  is = sym (put_param (value_in ts ps args) ts id x is ∙ value_is ts ps args x ∙ ap (or_param ts x) e);
}

pub same_names : (ts : List TypeTree) (ps : List VarId) (args : List TypeId) (id : TypeId) (x : VarId) → PartBelow (length ts) id → tree_at ts id ≡ tree_of ts (node.Param x) → argument_for ps args x ≡ None → Names ts (put (value_in ts ps args) (tree_at ts id)) id
same_names ts ps args id x lt is e = record {
  within = lt;
  is = is ∙ sym (put_param (value_in ts ps args) ts id x is ∙ value_is ts ps args x ∙ ap (or_param ts x) e);
}

pub nothing_names : (ts : List TypeTree) (v : VarId → TypeTree) (id : TypeId) → PartBelow (length ts) id → tree_at ts id ≡ tree_of ts node.Nothing → Names ts (put v (tree_at ts id)) id
nothing_names ts v id lt is = record { within = lt; is = sym (put_nothing v ts id is) }
