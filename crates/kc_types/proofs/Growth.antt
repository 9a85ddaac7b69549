-- A table that gains a type, and what a look-up in it finds.
use Rattle.std.proofs.Common.{◌≡◌, ℕ, zero, suc, ◌+◌, ◌<◌, ◌≤◌, false, List, [], ◌∷◌, ◌++◌, length, take, drop, get_or, Option, Some, None, Contains, is_some, refl, sym, ap, subst, ◌∙◌, arith, ◌⊎◌, inl, inr, true≢false, length-append}
use Rattle.std.specs.Prelude.{slice_get}
use Rattle.std.specs.Option.{option_map}
use Rattle.std.specs.List.{position}
use Rattle.std.specs.Map.{lookup, keys_of}
use Rattle.std.proofs.lemmas.Option.{slice_get-map, slice_get_within, slice_get-get_or, get_or_from_slice_get}
use Rattle.std.proofs.lemmas.List.{map-append, length-map, take-append-drop, take-map}
use Rattle.std.proofs.lemmas.List.Quantifiers.{position-Some}
use Rattle.std.proofs.lemmas.Map.Views.{Contains-from_lookup, IsSome-lookup_from_Contains}
use Rattle.kc_types.specs.declared.types.TyArg.{TyArg}
use Rattle.kc_types.specs.declared.types.TyArg.TheVariants as argument
use Rattle.kc_types.specs.declared.types.Ty.{Ty}
use Rattle.kc_types.specs.declared.types.Ty.TheVariants as node
use Rattle.kc_types.specs.declared.table.Known.{Known}
use Rattle.kc_types.specs.declared.trees.TypeTree.{TypeTree}
use Rattle.kc_types.specs.Trees.{depth_of}
use Rattle.kc_types.specs.Tables.{tree_of, tree_in, trees_of, ArgumentBelow, PartsBelow, OneMark, is_nullable, IsNode, AllDifferent, Stands, IsTable}
use Rattle.kc_types.proofs.Nodes.{default, ty_eq, ty_laws, same_ty, tree_at_more, tree_of_more, node_is}

abbrev Entry : Type 0
Entry = Ty × Known

-- ---- lists

get_past : {A : Type 0} (xs : List A) (x : A) → slice_get (xs ++ x ∷ []) (length xs) ≡ Some x
get_past [] x = refl
get_past (y ∷ xs) x = get_past xs x

get_before : {A : Type 0} (xs more : List A) (i : ℕ) → i < length xs → slice_get (xs ++ more) i ≡ slice_get xs i
get_before [] more i lt = absurd (omega arith)
get_before (y ∷ xs) more zero lt = refl
get_before (y ∷ xs) more (suc i) lt = get_before xs more i (omega arith)

pub contained : {A : Type 0} (xs : List A) (i : ℕ) (x : A) → slice_get xs i ≡ Some x → Contains xs x
contained xs i x h = (i, slice_get_within xs i x h, get_or_from_slice_get xs i x x h)

some_is : {A : Type 0} {x y : A} → Some x ≡ Some y → x ≡ y
some_is e = cc

-- before the end, or at it
before_end : (n i : ℕ) → i < n + 1 → (i < n) ⊎ (i ≡ n)
before_end zero zero lt = inr refl
before_end zero (suc i) lt = absurd (omega arith)
before_end (suc n) zero lt = inl (omega arith)
before_end (suc n) (suc i) lt = elim (before_end n i (omega arith)) [ inl l ↦ inl (omega (arith, l)) | inr e ↦ inr (ap suc e) ]

module _ (ts : List TypeTree) (t : TypeTree) (different : AllDifferent ts) (new : ¬ (Contains ts t)) where
  size : length (ts ++ t ∷ []) ≡ length ts + 1
  size = length-append ts (t ∷ [])

  is_new : (i : ℕ) → i < length ts → slice_get ts i ≡ Some t → ⊥
  is_new i lt e = new (contained ts i t e)

  at_two : (i j : ℕ) → (i < length ts) ⊎ (i ≡ length ts) → (j < length ts) ⊎ (j ≡ length ts) → slice_get (ts ++ t ∷ []) i ≡ slice_get (ts ++ t ∷ []) j → i ≡ j
  at_two i j (inl l) (inl m) e = different i j l (sym (get_before ts (t ∷ []) i l) ∙ e ∙ get_before ts (t ∷ []) j m)
  at_two i j (inl l) (inr m) e = absurd (is_new i l (sym (get_before ts (t ∷ []) i l) ∙ e ∙ ap (λ k. slice_get (ts ++ t ∷ []) k) m ∙ get_past ts t))
  at_two i j (inr l) (inl m) e = absurd (is_new j m (sym (get_before ts (t ∷ []) j m) ∙ sym e ∙ ap (λ k. slice_get (ts ++ t ∷ []) k) l ∙ get_past ts t))
  at_two i j (inr l) (inr m) e = l ∙ sym m

  still_different : AllDifferent (ts ++ t ∷ [])
  still_different i j lt e =
      let within : j < length (ts ++ t ∷ []) = slice_get_within (ts ++ t ∷ []) j (get_or (ts ++ t ∷ []) i t) (sym e ∙ slice_get-get_or (ts ++ t ∷ []) i t lt) in
      at_two i j (before_end (length ts) i (omega (arith, size, lt))) (before_end (length ts) j (omega (arith, size, within))) e

-- ---- parts

pub argument_up : (n m : ℕ) → n ≤ m → (a : TyArg) → ArgumentBelow n a → ArgumentBelow m a
argument_up n m le (argument.Exact t) lt = omega (arith, le, lt)
argument_up n m le (argument.Out t) lt = omega (arith, le, lt)
argument_up n m le (argument.In t) lt = omega (arith, le, lt)
argument_up n m le argument.Star lt = tt

pub parts_up : (n m : ℕ) → n ≤ m → (ty : Ty) → PartsBelow n ty → PartsBelow m ty
parts_up n m le (node.Class c xs) all = λ k d lt. argument_up n m le (get_or xs k d) (all k d lt)
parts_up n m le (node.Param x) all = tt
parts_up n m le (node.Fun ps r) all = (λ k d lt. let p = all.0 k d lt in omega (arith, le, p), let p = all.1 in omega (arith, le, p))
parts_up n m le node.Nothing all = tt
parts_up n m le (node.Nullable t) lt = omega (arith, le, lt)

one_mark_more : (ts more : List TypeTree) (ty : Ty) → PartsBelow (length ts) ty → OneMark ts ty → OneMark (ts ++ more) ty
one_mark_more ts more (node.Class c xs) all m = tt
one_mark_more ts more (node.Param x) all m = tt
one_mark_more ts more (node.Fun ps r) all m = tt
one_mark_more ts more node.Nothing all m = tt
one_mark_more ts more (node.Nullable t) all m = ap is_nullable (tree_at_more ts more t all) ∙ m

stands_more : (ts more : List TypeTree) (i : ℕ) (e : Entry) → i ≤ length ts → Stands ts i e → Stands (ts ++ more) i e
stands_more ts more i e le s =
    let all = parts_up i (length ts) le e.0 s.parts in
    record {
      parts = s.parts;
      one_mark = one_mark_more ts more e.0 all s.one_mark;
      tree = s.tree ∙ sym (tree_of_more ts more e.0 all);
      depth = s.depth;
      shallow = s.shallow;
    }

-- ---- a type more

pub record Grown (es new : List Entry) (t : TypeTree) : Type 0 where
  pub table : IsTable new
  pub trees : trees_of new ≡ trees_of es ++ t ∷ []
  pub at : slice_get (trees_of new) (length es) ≡ Some t

module _ (es : List Entry) (ty : Ty) (k : Known) (table : IsTable es) (node : IsNode (trees_of es) ty) (absent : ¬ (Contains (trees_of es) (tree_of (trees_of es) ty))) (tree : k.tree ≡ tree_of (trees_of es) ty) (depth : k.depth ≡ depth_of (tree_of (trees_of es) ty)) (shallow : k.depth ≤ 16) where
  abbrev ts : List TypeTree
  ts = trees_of es

  abbrev entry : Entry
  entry = (ty, k)

  trees_are : trees_of (es ++ entry ∷ []) ≡ ts ++ tree_of ts ty ∷ []
  trees_are = map-append tree_in es (entry ∷ []) ∙ ap (λ (u : TypeTree). ts ++ u ∷ []) tree

  count : length ts ≡ length es
  count = length-map es tree_in

  stand_at : (i : ℕ) (e : Entry) → (i < length es) ⊎ (i ≡ length es) → slice_get (es ++ entry ∷ []) i ≡ Some e → Stands (ts ++ tree_of ts ty ∷ []) i e
  stand_at i e (inl l) h = stands_more ts (tree_of ts ty ∷ []) i e (omega (arith, count, l)) (table.stand i e (sym (get_before es (entry ∷ []) i l) ∙ h))
  stand_at i e (inr l) h =
      let is : entry ≡ e = some_is (sym (get_past es entry) ∙ ap (λ n. slice_get (es ++ entry ∷ []) n) (sym l) ∙ h) in
      let all : PartsBelow i ty = parts_up (length ts) i (omega (arith, count, l)) ty node.parts in
      let own : Stands (ts ++ tree_of ts ty ∷ []) i entry = record {
        parts = all;
        one_mark = one_mark_more ts (tree_of ts ty ∷ []) ty node.parts node.one_mark;
        tree = tree ∙ sym (tree_of_more ts (tree_of ts ty ∷ []) ty node.parts);
        depth = depth ∙ ap depth_of (sym tree);
        shallow = shallow;
      } in
      subst (λ (x : Entry). Stands (ts ++ tree_of ts ty ∷ []) i x) is own

  pub grown : (new : List Entry) → new ≡ es ++ entry ∷ [] → Grown es new (tree_of ts ty)
  grown new is =
      let trees : trees_of new ≡ ts ++ tree_of ts ty ∷ [] = ap trees_of is ∙ trees_are in
      record {
        table = record {
          different = subst AllDifferent (sym trees) (still_different ts (tree_of ts ty) table.different absent);
          stand = λ i e h.
              let g : slice_get (es ++ entry ∷ []) i ≡ Some e = ap (λ l. slice_get l i) (sym is) ∙ h in
              let w = slice_get_within (es ++ entry ∷ []) i e g in
              let n = length-append es (entry ∷ []) in
              subst (λ us. Stands us i e) (sym trees) (stand_at i e (before_end (length es) i (omega (arith, w, n))) g);
        };
        trees = trees;
        at = ap (λ us. slice_get us (length es)) trees ∙ ap (λ n. slice_get (ts ++ tree_of ts ty ∷ []) n) (sym count) ∙ get_past ts (tree_of ts ty);
      }

-- ---- look-ups

module _ (es : List Entry) (table : IsTable es) (ty : Ty) where
  -- the type that the look-up finds
  pub record Found (at : ℕ) : Type 0 where
    pub entry : Entry
    pub there : slice_get es at ≡ Some entry
    pub key : entry.0 ≡ ty
    pub tree : slice_get (trees_of es) at ≡ Some (tree_of (trees_of es) ty)
    pub shallow : depth_of (tree_of (trees_of es) ty) ≤ 16

  entry_at : (at : ℕ) (o : Option Entry) → slice_get es at ≡ o → option_map (λ (e : Entry). e.0) o ≡ Some ty → Found at
  entry_at at None h e = absurd cc
  entry_at at (Some x) h e =
      let s = table.stand at x h in
      let key : x.0 ≡ ty = some_is e in
      let tree : x.1.tree ≡ tree_of (trees_of es) ty = s.tree ∙ ap (tree_of (trees_of es)) key in
      record {
        entry = x;
        there = h;
        key = key;
        tree = slice_get-map tree_in es at ∙ ap (option_map tree_in) h ∙ ap Some tree;
        shallow = subst (λ n. n ≤ 16) (s.depth ∙ ap depth_of tree) s.shallow;
      }

  pub found : (at : ℕ) → position (ty_eq ty) (keys_of es) ≡ Some at → Found at
  found at h =
      let p = position-Some (ty_eq ty) (keys_of es) at ty h in
      let key : get_or (keys_of es) at ty ≡ ty = sym (same_ty ty (get_or (keys_of es) at ty) p.1) in
      entry_at at (slice_get es at) refl (sym (slice_get-map (λ (e : Entry). e.0) es at) ∙ slice_get-get_or (keys_of es) at ty p.0 ∙ ap Some key)

  -- a type whose tree is there is found
  in_keys : (i : ℕ) (o : Option Entry) → slice_get es i ≡ o → PartsBelow (length (trees_of es)) ty → option_map tree_in o ≡ Some (tree_of (trees_of es) ty) → Contains (keys_of es) ty
  in_keys i None h all e = absurd cc
  in_keys i (Some x) h all e =
      let s = table.stand i x h in
      let within = slice_get_within es i x h in
      let n = length-map es tree_in in
      let below : PartsBelow (length (trees_of es)) x.0 = parts_up i (length (trees_of es)) (omega (arith, within, n)) x.0 s.parts in
      let is : x.0 ≡ ty = node_is (trees_of es) table.different x.0 ty below all (sym s.tree ∙ some_is e) in
      contained (keys_of es) i ty (slice_get-map (λ (y : Entry). y.0) es i ∙ ap (option_map (λ (y : Entry). y.0)) h ∙ ap Some is)

  pub not_there : PartsBelow (length (trees_of es)) ty → lookup (ty_eq ty) es ≡ None → ¬ (Contains (trees_of es) (tree_of (trees_of es) ty))
  not_there all none there =
      let t = tree_of (trees_of es) ty in
      let g : slice_get (trees_of es) there.0 ≡ Some t = slice_get-get_or (trees_of es) there.0 t there.1 ∙ ap Some there.2 in
      let k = in_keys there.0 (slice_get es there.0) refl all (sym (slice_get-map tree_in es there.0) ∙ g) in
      let s = IsSome-lookup_from_Contains ty_laws ty es k in true≢false (sym (rw none at s))

  no_entry : (o : Option Known) → false ≡ is_some o → o ≡ None
  no_entry None e = refl
  no_entry (Some k) e = absurd (true≢false (sym e))

  -- the same, as callers see the table
  pub not_found : (now : List TypeTree) → trees_of es ≡ now → PartsBelow (length now) ty → (o : Option ℕ) → o ≡ None → is_some o ≡ is_some (lookup (ty_eq ty) es) → ¬ (Contains now (tree_of now ty))
  not_found now view parts o none e =
      let all = subst (λ (ts : List TypeTree). PartsBelow (length ts) ty) (sym view) parts in
      subst (λ (ts : List TypeTree). ¬ (Contains ts (tree_of ts ty))) view (not_there all (no_entry (lookup (ty_eq ty) es) (sym (ap is_some none) ∙ e)))

  -- a new type's key is new
  pub new_key : ¬ (Contains (trees_of es) (tree_of (trees_of es) ty)) → lookup (ty_eq ty) es ≡ None
  new_key absent = by (lookup (ty_eq ty) es) refl
    where
      by : (o : Option Known) → lookup (ty_eq ty) es ≡ o → o ≡ None
      by None q = refl
      by (Some v) q =
          let c = Contains-from_lookup same_ty ty v es q in
          let f = entry_at c.0 (slice_get es c.0) refl (ap (option_map (λ (e : Entry). e.0)) (slice_get-get_or es c.0 (ty, v) c.1 ∙ ap Some c.2)) in
          absurd (absent (contained (trees_of es) c.0 (tree_of (trees_of es) ty) f.tree))

-- ---- fewer types

one_mark_less : (ts more : List TypeTree) (ty : Ty) → PartsBelow (length ts) ty → OneMark (ts ++ more) ty → OneMark ts ty
one_mark_less ts more (node.Class c xs) all m = tt
one_mark_less ts more (node.Param x) all m = tt
one_mark_less ts more (node.Fun ps r) all m = tt
one_mark_less ts more node.Nothing all m = tt
one_mark_less ts more (node.Nullable t) all m = sym (ap is_nullable (tree_at_more ts more t all)) ∙ m

module _ (es more : List Entry) (table : IsTable (es ++ more)) where
  trees_split : trees_of (es ++ more) ≡ trees_of es ++ trees_of more
  trees_split = map-append tree_in es more

  still_apart : AllDifferent (trees_of es)
  still_apart i j lt e =
      let within : j < length (trees_of es) = slice_get_within (trees_of es) j (get_or (trees_of es) i default) (sym e ∙ slice_get-get_or (trees_of es) i default lt) in
      let n = length-append (trees_of es) (trees_of more) in
      let m = ap length trees_split in
      let wide : i < length (trees_of (es ++ more)) = omega (arith, n, m, lt) in
      let at : (k : ℕ) → k < length (trees_of es) → slice_get (trees_of (es ++ more)) k ≡ slice_get (trees_of es) k = λ k l. ap (λ us. slice_get us k) trees_split ∙ get_before (trees_of es) (trees_of more) k l in
      table.different i j wide (at i lt ∙ e ∙ sym (at j within))

  still_stand : (i : ℕ) (e : Entry) → slice_get es i ≡ Some e → Stands (trees_of es) i e
  still_stand i e h =
      let lt = slice_get_within es i e h in
      let s = subst (λ us. Stands us i e) trees_split (table.stand i e (get_before es more i lt ∙ h)) in
      let n = length-map es tree_in in
      let all = parts_up i (length (trees_of es)) (omega (arith, lt, n)) e.0 s.parts in
      record {
        parts = s.parts;
        one_mark = one_mark_less (trees_of es) (trees_of more) e.0 all s.one_mark;
        tree = s.tree ∙ tree_of_more (trees_of es) (trees_of more) e.0 all;
        depth = s.depth;
        shallow = s.shallow;
      }

  fewer : IsTable es
  fewer = record { different = still_apart; stand = still_stand }

pub cut : (es new : List Entry) (n : ℕ) → IsTable es → new ≡ take n es → IsTable new
cut es new n table is = subst IsTable (sym is) (fewer (take n es) (drop n es) (subst IsTable (sym (take-append-drop n es)) table))

pub cut_trees : (es new : List Entry) (n : ℕ) (now : List TypeTree) → trees_of es ≡ now → new ≡ take n es → trees_of new ≡ take n now
cut_trees es new n now view is = ap trees_of is ∙ sym (take-map tree_in n es) ∙ ap (λ us. take n us) view
