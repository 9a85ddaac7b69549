-- Fewer values stand on the operand stack at once than the node weighs.
use Rattle.std.proofs.Common.{ℕ, ◌+◌, ◌≤◌, List, [], ◌∷◌, map, Some, None, sym, ap, ◌∙◌, subst, arith}
use Rattle.kc_core.specs.declared.tree.Core.{Core}
use Rattle.kc_core.specs.declared.tree.Kind.{Kind}
use Rattle.kc_core.specs.declared.tree.Kind.TheOpen.{Kind-F, Core-F}
use Rattle.kc_core.specs.declared.tree.Kind.TheViews.{roll-Kind}
use Rattle.kc_core.specs.declared.tree.Kind.TheFolds.{map-Kind, fold-Kind, fold_out-Core, fold-roll-Kind, ind-Core}
use Rattle.kc_core.specs.Room.{with_each, kind_weight, core_weight, weight_of}
use Rattle.kc_core.specs.RoomLaws.{layer_twice, weight_of_kind}
use Rattle.stack_code.specs.Depth.{most, piled, kind_depth, core_depth, depth_of}

abbrev depth_of_kind : Kind → ℕ
depth_of_kind k = fold-Kind ℕ ℕ kind_depth core_depth k

module _ (B : Type 0) (d w : B → ℕ) (h : (b : B) → d b ≤ w b + 1) where
  most_low : (more : ℕ) (es : List B) → most (map d es) ≤ with_each more (map w es) + 1
  most_low more [] = omega arith
  most_low more (e ∷ es) = let r = most_low more es in let t = h e in omega (arith, r, t)

  piled_low : (es : List B) → piled (map d es) ≤ with_each 8 (map w es) + 1
  piled_low [] = omega arith
  piled_low (e ∷ es) = let r = piled_low es in let t = h e in omega (arith, r, t)

layer_low : (A B : Type 0) (p q : A → ℕ) (d w : B → ℕ) → ((b : B) → d b ≤ w b + 1) → (y : Kind-F A B) → kind_depth (map-Kind A B ℕ ℕ p d y) ≤ kind_weight (map-Kind A B ℕ ℕ q w y) + 1
layer_low A B p q d w h (Kind-F.IntLit n) = omega arith
layer_low A B p q d w h (Kind-F.StrLit t) = omega arith
layer_low A B p q d w h (Kind-F.BoolLit b) = omega arith
layer_low A B p q d w h (Kind-F.LocalRead x) = omega arith
layer_low A B p q d w h (Kind-F.LocalWrite x e) = let u = h e in omega (arith, u)
layer_low A B p q d w h (Kind-F.Declare x None) = omega arith
layer_low A B p q d w h (Kind-F.Declare x (Some e)) = let u = h e in omega (arith, u)
layer_low A B p q d w h (Kind-F.NumBinary o a b) = let u = h a in let v = h b in omega (arith, u, v)
layer_low A B p q d w h (Kind-F.NumUnary o a) = let u = h a in omega (arith, u)
layer_low A B p q d w h (Kind-F.NumCompare o a b) = let u = h a in let v = h b in omega (arith, u, v)
layer_low A B p q d w h (Kind-F.Equal a b) = let u = h a in let v = h b in omega (arith, u, v)
layer_low A B p q d w h (Kind-F.Not a) = let u = h a in omega (arith, u)
layer_low A B p q d w h (Kind-F.And a b) = let u = h a in let v = h b in omega (arith, u, v)
layer_low A B p q d w h (Kind-F.Or a b) = let u = h a in let v = h b in omega (arith, u, v)
layer_low A B p q d w h (Kind-F.Concat es) = let m = most_low B d w h 24 es in omega (arith, m)
layer_low A B p q d w h (Kind-F.CallNative f es) = let m = piled_low B d w h es in omega (arith, m)
layer_low A B p q d w h (Kind-F.Block es) = most_low B d w h 2 es
layer_low A B p q d w h (Kind-F.If c a None) = let u = h c in let v = h a in omega (arith, u, v)
layer_low A B p q d w h (Kind-F.If c a (Some b)) = let u = h c in let v = h a in let t = h b in omega (arith, u, v, t)
layer_low A B p q d w h (Kind-F.While label c a) = let u = h c in let v = h a in omega (arith, u, v)

abbrev KindLow : Kind → Type 0
KindLow k = depth_of_kind k ≤ weight_of_kind k + 1

pub depth_low : (e : Core) → depth_of e ≤ weight_of e + 1
depth_low e = ind-Core KindLow (λ e. depth_of e ≤ weight_of e + 1)
    (λ x y is. subst (λ z. KindLow (roll-Kind z)) is
    (subst (λ (n : ℕ). n ≤ weight_of_kind (roll-Kind (map-Kind _ _ Kind Core (λ a. a.0) (λ b. b.0) y)) + 1)
    (sym (fold-roll-Kind ℕ ℕ kind_depth core_depth (map-Kind _ _ Kind Core (λ a. a.0) (λ b. b.0) y) ∙ ap kind_depth (layer_twice _ _ Kind Core ℕ ℕ (λ a. a.0) (λ b. b.0) depth_of_kind depth_of y)))
    (subst (λ (w : ℕ). kind_depth (map-Kind _ _ ℕ ℕ (λ a. depth_of_kind a.0) (λ b. depth_of b.0) y) ≤ w + 1)
    (sym (fold-roll-Kind ℕ ℕ kind_weight core_weight (map-Kind _ _ Kind Core (λ a. a.0) (λ b. b.0) y) ∙ ap kind_weight (layer_twice _ _ Kind Core ℕ ℕ (λ a. a.0) (λ b. b.0) weight_of_kind weight_of y)))
    (layer_low _ _ (λ a. depth_of_kind a.0) (λ a. weight_of_kind a.0) (λ b. depth_of b.0) (λ b. weight_of b.0) (λ b. b.1) y))))
    (λ x y is. subst (λ (z : Core-F Kind Core). depth_of (record { span = z.span; ty = z.ty; kind = z.kind }) ≤ weight_of (record { span = z.span; ty = z.ty; kind = z.kind }) + 1) is
    (subst (λ (n : ℕ). n ≤ weight_of (record { span = y.span; ty = y.ty; kind = y.kind.0 }) + 1) (sym (fold_out-Core ℕ ℕ kind_depth core_depth (record { span = y.span; ty = y.ty; kind = y.kind.0 })))
    (subst (λ (w : ℕ). depth_of_kind y.kind.0 ≤ w + 1) (sym (fold_out-Core ℕ ℕ kind_weight core_weight (record { span = y.span; ty = y.ty; kind = y.kind.0 }))) y.kind.1)))
    e
