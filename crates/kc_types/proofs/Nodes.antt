-- Types whose parts have numbers: when `==` holds of them, what more types change, and that different ones have different trees.
use Rattle.std.proofs.Common.{◌≡◌, zero, suc, Bool, true, nat_eq, List, [], ◌∷◌, ◌++◌, length, map, Some, refl, sym, ap, ◌∙◌, arith, rules, true≢false, eqb-true}
use Rattle.std.specs.Prelude.{All}
use Rattle.std.specs.Cmp.{IsEquivalence}
use Rattle.std.specs.Cmp.Lexicographic.{pointwise}
use Rattle.std.proofs.Math.ListN.{get_or-append}
use Rattle.std.proofs.lemmas.Bool.{and_parts}
use Rattle.std.proofs.lemmas.Option.{slice_get-get_or}
use Rattle.kc_types.specs.declared.ids.TypeId.{TypeId}
use Rattle.kc_types.specs.declared.ids.ClassId.{ClassId}
use Rattle.kc_types.specs.declared.ids.VarId.{VarId}
use Rattle.kc_types.specs.declared.types.TyArg.{TyArg}
use Rattle.kc_types.specs.declared.types.TyArg.TheVariants as argument
use Rattle.kc_types.specs.declared.types.Ty.{Ty}
use Rattle.kc_types.specs.declared.types.Ty.TheVariants as node
use Rattle.kc_types.specs.declared.trees.TypeTree.{TypeTree, out-TypeTree}
use Rattle.kc_types.specs.declared.trees.ArgTree.{ArgTree, out-ArgTree}
use Rattle.kc_types.specs.declared.trees.ArgTree.TheOpen.{TypeTree-F, ArgTree-F}
use Rattle.kc_types.specs.declared.trees.ArgTree.TheViews.{roll-TypeTree, roll-ArgTree, out-roll-TypeTree, out-roll-ArgTree}
use Rattle.kc_types.specs.contracts.types.TyPartialEq.TheImpl.{eq-value}
use Rattle.kc_types.specs.contracts.types.TyEq.TheImpl.Laws.{laws-law}
use Rattle.kc_types.specs.contracts.types.TyArgPartialEq.TheImpl as argument_eq
use Rattle.kc_types.specs.contracts.ids.TypeIdPartialEq.TheImpl as type_id_eq
use Rattle.kc_types.specs.Tables.{tree_at, argument_at, level_of, tree_of, PartBelow, ArgumentBelow, PartsBelow, AllDifferent}

-- ---- equality

abbrev pub ty_eq : Ty → Ty → Bool
ty_eq = eq-value.it

pub ty_laws : IsEquivalence ty_eq
ty_laws = laws-law

same_argument : (x y : TyArg) → argument_eq.eq-value.it x y ≡ true → x ≡ y
same_argument (argument.Exact a) (argument.Exact b) h = search rules
same_argument (argument.Exact a) y h = absurd (true≢false (sym h))
same_argument (argument.Out a) (argument.Out b) h = search rules
same_argument (argument.Out a) y h = absurd (true≢false (sym h))
same_argument (argument.In a) (argument.In b) h = search rules
same_argument (argument.In a) y h = absurd (true≢false (sym h))
same_argument argument.Star argument.Star h = refl
same_argument argument.Star y h = absurd (true≢false (sym h))

same_id : (x y : TypeId) → type_id_eq.eq-value.it x y ≡ true → x ≡ y
same_id x y h = search rules

same_list : {A : Type 0} (eq : A → A → Bool) → ((x y : A) → eq x y ≡ true → x ≡ y) → (xs ys : List A) → pointwise eq xs ys ≡ true → xs ≡ ys
same_list eq f [] [] h = refl
same_list eq f [] (y ∷ ys) h = absurd (true≢false (sym h))
same_list eq f (x ∷ xs) [] h = absurd (true≢false (sym h))
same_list eq f (x ∷ xs) (y ∷ ys) h = let p = and_parts (eq x y) (pointwise eq xs ys) h in cc (f x y p.0, same_list eq f xs ys p.1)

same_class : (c d : ClassId) → nat_eq c.0 d.0 ≡ true → c ≡ d
same_class c d h = ap (λ n. record { 0 = n }) (eqb-true c.0 d.0 h)

same_var : (c d : VarId) → nat_eq c.0 d.0 ≡ true → c ≡ d
same_var c d h = ap (λ n. record { 0 = n }) (eqb-true c.0 d.0 h)

pub same_ty : (x y : Ty) → ty_eq x y ≡ true → x ≡ y
same_ty (node.Class c xs) (node.Class d ys) h = let p = and_parts (nat_eq c.0 d.0) (pointwise argument_eq.eq-value.it xs ys) h in cc (same_class c d p.0, same_list argument_eq.eq-value.it same_argument xs ys p.1)
same_ty (node.Class c xs) y h = absurd (true≢false (sym h))
same_ty (node.Param a) (node.Param b) h = ap node.Param (same_var a b h)
same_ty (node.Param a) y h = absurd (true≢false (sym h))
same_ty (node.Fun ps r) (node.Fun qs s) h = let p = and_parts (pointwise type_id_eq.eq-value.it ps qs) (nat_eq r.0 s.0) h in cc (same_list type_id_eq.eq-value.it same_id ps qs p.0, same_id r s p.1)
same_ty (node.Fun ps r) y h = absurd (true≢false (sym h))
same_ty node.Nothing node.Nothing h = refl
same_ty node.Nothing y h = absurd (true≢false (sym h))
same_ty (node.Nullable a) (node.Nullable b) h = ap node.Nullable (same_id a b h)
same_ty (node.Nullable a) y h = absurd (true≢false (sym h))

-- ---- more types

abbrev pub default : TypeTree
default = roll-TypeTree TypeTree-F.Nothing

pub head_of_all : {A : Type 0} (P : A → Type 0) (x : A) (xs : List A) → All P (x ∷ xs) → P x
head_of_all P x xs all = all zero x (omega arith)

pub tail_of_all : {A : Type 0} (P : A → Type 0) (x : A) (xs : List A) → All P (x ∷ xs) → All P xs
tail_of_all P x xs all k d lt = all (suc k) d (omega arith)

pub map_same : {A B : Type 0} (P : A → Type 0) (f g : A → B) → ((x : A) → P x → f x ≡ g x) → (xs : List A) → All P xs → map f xs ≡ map g xs
map_same P f g e [] all = refl
map_same P f g e (x ∷ xs) all = cc (e x (head_of_all P x xs all), map_same P f g e xs (tail_of_all P x xs all))

module _ (ts more : List TypeTree) where
  pub tree_at_more : (x : TypeId) → PartBelow (length ts) x → tree_at (ts ++ more) x ≡ tree_at ts x
  tree_at_more x lt = get_or-append ts more default x.0 lt

  pub argument_at_more : (a : TyArg) → ArgumentBelow (length ts) a → argument_at (ts ++ more) a ≡ argument_at ts a
  argument_at_more (argument.Exact t) lt = ap (λ u. roll-ArgTree (ArgTree-F.Exact u)) (tree_at_more t lt)
  argument_at_more (argument.Out t) lt = ap (λ u. roll-ArgTree (ArgTree-F.Out u)) (tree_at_more t lt)
  argument_at_more (argument.In t) lt = ap (λ u. roll-ArgTree (ArgTree-F.In u)) (tree_at_more t lt)
  argument_at_more argument.Star lt = refl

  level_of_more : (ty : Ty) → PartsBelow (length ts) ty → level_of (ts ++ more) ty ≡ level_of ts ty
  level_of_more (node.Class c xs) all = ap (λ us. TypeTree-F.Class c us) (map_same (ArgumentBelow (length ts)) (argument_at (ts ++ more)) (argument_at ts) argument_at_more xs all)
  level_of_more (node.Param x) all = refl
  level_of_more (node.Fun ps r) all = cc (map_same (PartBelow (length ts)) (tree_at (ts ++ more)) (tree_at ts) tree_at_more ps all.0, tree_at_more r all.1)
  level_of_more node.Nothing all = refl
  level_of_more (node.Nullable t) lt = ap (λ u. TypeTree-F.Nullable u) (tree_at_more t lt)

  pub tree_of_more : (ty : Ty) → PartsBelow (length ts) ty → tree_of (ts ++ more) ty ≡ tree_of ts ty
  tree_of_more ty all = ap roll-TypeTree (level_of_more ty all)

-- ---- different types have different trees

module _ (ts : List TypeTree) (different : AllDifferent ts) where
  part_is : (x y : TypeId) → PartBelow (length ts) x → PartBelow (length ts) y → tree_at ts x ≡ tree_at ts y → x ≡ y
  part_is x y lt mt e =
      let f = different x.0 y.0 lt (slice_get-get_or ts x.0 default lt ∙ ap Some e ∙ sym (slice_get-get_or ts y.0 default mt)) in
      ap (λ n. record { 0 = n }) f

  levels_are : (k l : ArgTree-F ArgTree TypeTree) → roll-ArgTree k ≡ roll-ArgTree l → k ≡ l
  levels_are k l e = sym (out-roll-ArgTree k) ∙ ap out-ArgTree e ∙ out-roll-ArgTree l

  argument_is : (a b : TyArg) → ArgumentBelow (length ts) a → ArgumentBelow (length ts) b → argument_at ts a ≡ argument_at ts b → a ≡ b
  argument_is (argument.Exact t) (argument.Exact u) lt mt e = let f = levels_are (ArgTree-F.Exact (tree_at ts t)) (ArgTree-F.Exact (tree_at ts u)) e in ap argument.Exact (part_is t u lt mt cc)
  argument_is (argument.Exact t) (argument.Out u) lt mt e = let f = levels_are (ArgTree-F.Exact (tree_at ts t)) (ArgTree-F.Out (tree_at ts u)) e in absurd cc
  argument_is (argument.Exact t) (argument.In u) lt mt e = let f = levels_are (ArgTree-F.Exact (tree_at ts t)) (ArgTree-F.In (tree_at ts u)) e in absurd cc
  argument_is (argument.Exact t) argument.Star lt mt e = let f = levels_are (ArgTree-F.Exact (tree_at ts t)) ArgTree-F.Star e in absurd cc
  argument_is (argument.Out t) (argument.Out u) lt mt e = let f = levels_are (ArgTree-F.Out (tree_at ts t)) (ArgTree-F.Out (tree_at ts u)) e in ap argument.Out (part_is t u lt mt cc)
  argument_is (argument.Out t) (argument.Exact u) lt mt e = let f = levels_are (ArgTree-F.Out (tree_at ts t)) (ArgTree-F.Exact (tree_at ts u)) e in absurd cc
  argument_is (argument.Out t) (argument.In u) lt mt e = let f = levels_are (ArgTree-F.Out (tree_at ts t)) (ArgTree-F.In (tree_at ts u)) e in absurd cc
  argument_is (argument.Out t) argument.Star lt mt e = let f = levels_are (ArgTree-F.Out (tree_at ts t)) ArgTree-F.Star e in absurd cc
  argument_is (argument.In t) (argument.In u) lt mt e = let f = levels_are (ArgTree-F.In (tree_at ts t)) (ArgTree-F.In (tree_at ts u)) e in ap argument.In (part_is t u lt mt cc)
  argument_is (argument.In t) (argument.Exact u) lt mt e = let f = levels_are (ArgTree-F.In (tree_at ts t)) (ArgTree-F.Exact (tree_at ts u)) e in absurd cc
  argument_is (argument.In t) (argument.Out u) lt mt e = let f = levels_are (ArgTree-F.In (tree_at ts t)) (ArgTree-F.Out (tree_at ts u)) e in absurd cc
  argument_is (argument.In t) argument.Star lt mt e = let f = levels_are (ArgTree-F.In (tree_at ts t)) ArgTree-F.Star e in absurd cc
  argument_is argument.Star argument.Star lt mt e = refl
  argument_is argument.Star (argument.Exact u) lt mt e = let f = levels_are ArgTree-F.Star (ArgTree-F.Exact (tree_at ts u)) e in absurd cc
  argument_is argument.Star (argument.Out u) lt mt e = let f = levels_are ArgTree-F.Star (ArgTree-F.Out (tree_at ts u)) e in absurd cc
  argument_is argument.Star (argument.In u) lt mt e = let f = levels_are ArgTree-F.Star (ArgTree-F.In (tree_at ts u)) e in absurd cc

  list_is : {A B : Type 0} (P : A → Type 0) (f : A → B) → ((x y : A) → P x → P y → f x ≡ f y → x ≡ y) → (xs ys : List A) → All P xs → All P ys → map f xs ≡ map f ys → xs ≡ ys
  list_is P f is [] [] ax ay e = refl
  list_is P f is [] (y ∷ ys) ax ay e = absurd cc
  list_is P f is (x ∷ xs) [] ax ay e = absurd cc
  list_is P f is (x ∷ xs) (y ∷ ys) ax ay e =
      let h : f x ≡ f y = cc in
      let r : map f xs ≡ map f ys = cc in
      cc (is x y (head_of_all P x xs ax) (head_of_all P y ys ay) h, list_is P f is xs ys (tail_of_all P x xs ax) (tail_of_all P y ys ay) r)

  level_is : (a b : Ty) → PartsBelow (length ts) a → PartsBelow (length ts) b → level_of ts a ≡ level_of ts b → a ≡ b
  level_is (node.Class c xs) (node.Class d ys) ax ay e =
      let h : c ≡ d = cc in
      let r : map (argument_at ts) xs ≡ map (argument_at ts) ys = cc in
      cc (h, list_is (ArgumentBelow (length ts)) (argument_at ts) argument_is xs ys ax ay r)
  level_is (node.Class c xs) (node.Param y) ax ay e = absurd cc
  level_is (node.Class c xs) (node.Fun qs s) ax ay e = absurd cc
  level_is (node.Class c xs) node.Nothing ax ay e = absurd cc
  level_is (node.Class c xs) (node.Nullable u) ax ay e = absurd cc
  level_is (node.Param x) (node.Param y) ax ay e = ap node.Param (let h : x ≡ y = cc in h)
  level_is (node.Param x) (node.Class c xs) ax ay e = absurd cc
  level_is (node.Param x) (node.Fun qs s) ax ay e = absurd cc
  level_is (node.Param x) node.Nothing ax ay e = absurd cc
  level_is (node.Param x) (node.Nullable u) ax ay e = absurd cc
  level_is (node.Fun ps r) (node.Fun qs s) ax ay e =
      let h : map (tree_at ts) ps ≡ map (tree_at ts) qs = cc in
      let k : tree_at ts r ≡ tree_at ts s = cc in
      cc (list_is (PartBelow (length ts)) (tree_at ts) part_is ps qs ax.0 ay.0 h, part_is r s ax.1 ay.1 k)
  level_is (node.Fun ps r) (node.Class c xs) ax ay e = absurd cc
  level_is (node.Fun ps r) (node.Param y) ax ay e = absurd cc
  level_is (node.Fun ps r) node.Nothing ax ay e = absurd cc
  level_is (node.Fun ps r) (node.Nullable u) ax ay e = absurd cc
  level_is node.Nothing node.Nothing ax ay e = refl
  level_is node.Nothing (node.Class c xs) ax ay e = absurd cc
  level_is node.Nothing (node.Param y) ax ay e = absurd cc
  level_is node.Nothing (node.Fun qs s) ax ay e = absurd cc
  level_is node.Nothing (node.Nullable u) ax ay e = absurd cc
  level_is (node.Nullable t) (node.Nullable u) ax ay e = let h : tree_at ts t ≡ tree_at ts u = cc in ap node.Nullable (part_is t u ax ay h)
  level_is (node.Nullable t) (node.Class c xs) ax ay e = absurd cc
  level_is (node.Nullable t) (node.Param y) ax ay e = absurd cc
  level_is (node.Nullable t) (node.Fun qs s) ax ay e = absurd cc
  level_is (node.Nullable t) node.Nothing ax ay e = absurd cc

  pub node_is : (a b : Ty) → PartsBelow (length ts) a → PartsBelow (length ts) b → tree_of ts a ≡ tree_of ts b → a ≡ b
  node_is a b ax ay e = level_is a b ax ay (sym (out-roll-TypeTree (level_of ts a)) ∙ ap out-TypeTree e ∙ out-roll-TypeTree (level_of ts b))
