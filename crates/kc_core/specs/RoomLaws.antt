-- Each node's code takes no more room than the node weighs.
use Rattle.std.proofs.Common.{◌≡◌, ℕ, ◌+◌, ◌≤◌, List, [], ◌∷◌, map, Some, None, refl, sym, ap, ◌∙◌, subst, arith}
use Rattle.kc_core.specs.declared.tree.Core.{Core}
use Rattle.kc_core.specs.declared.tree.Kind.{Kind}
use Rattle.kc_core.specs.declared.tree.Kind.TheOpen.{Kind-F, Core-F}
use Rattle.kc_core.specs.declared.tree.Kind.TheViews.{roll-Kind}
use Rattle.kc_core.specs.declared.tree.Kind.TheFolds.{map-Kind, fold-Kind, fold_out-Core, fold-roll-Kind, ind-Core}
use Rattle.kc_core.specs.Room.{with_each, kind_weight, core_weight, weight_of, Room, room_of_each, kind_room, core_room, room_of, RoomIsWithinWeight}

abbrev pub weight_of_kind : Kind → ℕ
weight_of_kind k = fold-Kind ℕ ℕ kind_weight core_weight k

abbrev pub room_of_kind : Kind → Room
room_of_kind k = fold-Kind Room Room kind_room core_room k

-- the parent pays for the jump of a test
pub record Within (r : Room) (w : ℕ) : Type 0 where
  pub value : r.value ≤ w
  pub branch : r.branch ≤ w + 8

each_within : (B : Type 0) (r : B → Room) (w : B → ℕ) → ((b : B) → Within (r b) (w b)) → (few more : ℕ) → few ≤ more → (es : List B) → room_of_each few (map r es) ≤ with_each more (map w es)
each_within B r w h few more le [] = omega arith
each_within B r w h few more le (e ∷ es) = let rest = each_within B r w h few more le es in let this = (h e).value in omega (arith, le, rest, this)

layer_within : (A B : Type 0) (p : A → Room) (q : A → ℕ) (r : B → Room) (w : B → ℕ) → ((b : B) → Within (r b) (w b)) → (y : Kind-F A B) → Within (kind_room (map-Kind A B Room Room p r y)) (kind_weight (map-Kind A B ℕ ℕ q w y))
layer_within A B p q r w h (Kind-F.IntLit n) = record { value = omega arith; branch = omega arith }
layer_within A B p q r w h (Kind-F.StrLit t) = record { value = omega arith; branch = omega arith }
layer_within A B p q r w h (Kind-F.BoolLit b) = record { value = omega arith; branch = omega arith }
layer_within A B p q r w h (Kind-F.LocalRead x) = record { value = omega arith; branch = omega arith }
layer_within A B p q r w h (Kind-F.LocalWrite x e) = let v = (h e).value in record { value = omega (arith, v); branch = omega (arith, v) }
layer_within A B p q r w h (Kind-F.Declare x None) = record { value = omega arith; branch = omega arith }
layer_within A B p q r w h (Kind-F.Declare x (Some e)) = let v = (h e).value in record { value = omega (arith, v); branch = omega (arith, v) }
layer_within A B p q r w h (Kind-F.NumBinary o a b) = let v = (h a).value in let u = (h b).value in record { value = omega (arith, v, u); branch = omega (arith, v, u) }
layer_within A B p q r w h (Kind-F.NumUnary o a) = let v = (h a).value in record { value = omega (arith, v); branch = omega (arith, v) }
layer_within A B p q r w h (Kind-F.NumCompare o a b) = let v = (h a).value in let u = (h b).value in record { value = omega (arith, v, u); branch = omega (arith, v, u) }
layer_within A B p q r w h (Kind-F.Equal a b) = let v = (h a).value in let u = (h b).value in record { value = omega (arith, v, u); branch = omega (arith, v, u) }
layer_within A B p q r w h (Kind-F.Not a) = let v = (h a).branch in record { value = omega (arith, v); branch = omega (arith, v) }
layer_within A B p q r w h (Kind-F.And a b) = let v = (h a).branch in let u = (h b).branch in record { value = omega (arith, v, u); branch = omega (arith, v, u) }
layer_within A B p q r w h (Kind-F.Or a b) = let v = (h a).branch in let u = (h b).branch in record { value = omega (arith, v, u); branch = omega (arith, v, u) }
layer_within A B p q r w h (Kind-F.Concat es) = let s = each_within B r w h 6 24 (omega arith) es in record { value = omega (arith, s); branch = omega (arith, s) }
layer_within A B p q r w h (Kind-F.CallNative n es) = let s = each_within B r w h 0 8 (omega arith) es in record { value = omega (arith, s); branch = omega (arith, s) }
layer_within A B p q r w h (Kind-F.Block es) = let s = each_within B r w h 1 2 (omega arith) es in record { value = omega (arith, s); branch = omega (arith, s) }
layer_within A B p q r w h (Kind-F.If c a None) = let v = (h c).branch in let u = (h a).value in record { value = omega (arith, v, u); branch = omega (arith, v, u) }
layer_within A B p q r w h (Kind-F.If c a (Some b)) = let v = (h c).branch in let u = (h a).value in let t = (h b).value in record { value = omega (arith, v, u, t); branch = omega (arith, v, u, t) }
layer_within A B p q r w h (Kind-F.While label c a) = let v = (h c).branch in let u = (h a).value in record { value = omega (arith, v, u); branch = omega (arith, v, u) }

map_twice : (A B C : Type 0) (f : B → C) (g : A → B) (es : List A) → map f (map g es) ≡ map (λ a. f (g a)) es
map_twice A B C f g [] = refl
map_twice A B C f g (e ∷ es) = ap (λ l. f (g e) ∷ l) (map_twice A B C f g es)

-- one layer of a tree mapped twice is mapped once
pub layer_twice : (A B K C X Y : Type 0) (p : A → K) (q : B → C) (f : K → X) (g : C → Y) (y : Kind-F A B) → map-Kind K C X Y f g (map-Kind A B K C p q y) ≡ map-Kind A B X Y (λ a. f (p a)) (λ b. g (q b)) y
layer_twice A B K C X Y p q f g (Kind-F.IntLit n) = refl
layer_twice A B K C X Y p q f g (Kind-F.StrLit t) = refl
layer_twice A B K C X Y p q f g (Kind-F.BoolLit b) = refl
layer_twice A B K C X Y p q f g (Kind-F.LocalRead x) = refl
layer_twice A B K C X Y p q f g (Kind-F.LocalWrite x e) = refl
layer_twice A B K C X Y p q f g (Kind-F.Declare x None) = refl
layer_twice A B K C X Y p q f g (Kind-F.Declare x (Some e)) = refl
layer_twice A B K C X Y p q f g (Kind-F.NumBinary op a b) = refl
layer_twice A B K C X Y p q f g (Kind-F.NumUnary op a) = refl
layer_twice A B K C X Y p q f g (Kind-F.NumCompare op a b) = refl
layer_twice A B K C X Y p q f g (Kind-F.Equal a b) = refl
layer_twice A B K C X Y p q f g (Kind-F.Not a) = refl
layer_twice A B K C X Y p q f g (Kind-F.And a b) = refl
layer_twice A B K C X Y p q f g (Kind-F.Or a b) = refl
layer_twice A B K C X Y p q f g (Kind-F.Concat es) = ap Kind-F.Concat (map_twice B C Y g q es)
layer_twice A B K C X Y p q f g (Kind-F.CallNative n es) = ap (Kind-F.CallNative n) (map_twice B C Y g q es)
layer_twice A B K C X Y p q f g (Kind-F.Block es) = ap Kind-F.Block (map_twice B C Y g q es)
layer_twice A B K C X Y p q f g (Kind-F.If c a None) = refl
layer_twice A B K C X Y p q f g (Kind-F.If c a (Some b)) = refl
layer_twice A B K C X Y p q f g (Kind-F.While label c a) = refl

abbrev pub KindWithin : Kind → Type 0
KindWithin k = Within (room_of_kind k) (weight_of_kind k)

pub room_within_weight : (e : Core) → Within (room_of e) (weight_of e)
room_within_weight e = ind-Core KindWithin (λ e. Within (room_of e) (weight_of e))
    (λ x y is. subst (λ z. KindWithin (roll-Kind z)) is
    (subst (λ (r : Room). Within r (weight_of_kind (roll-Kind (map-Kind _ _ Kind Core (λ a. a.0) (λ b. b.0) y))))
    (sym (fold-roll-Kind Room Room kind_room core_room (map-Kind _ _ Kind Core (λ a. a.0) (λ b. b.0) y) ∙ ap kind_room (layer_twice _ _ Kind Core Room Room (λ a. a.0) (λ b. b.0) room_of_kind room_of y)))
    (subst (λ (w : ℕ). Within (kind_room (map-Kind _ _ Room Room (λ a. room_of_kind a.0) (λ b. room_of b.0) y)) w)
    (sym (fold-roll-Kind ℕ ℕ kind_weight core_weight (map-Kind _ _ Kind Core (λ a. a.0) (λ b. b.0) y) ∙ ap kind_weight (layer_twice _ _ Kind Core ℕ ℕ (λ a. a.0) (λ b. b.0) weight_of_kind weight_of y)))
    (layer_within _ _ (λ a. room_of_kind a.0) (λ a. weight_of_kind a.0) (λ b. room_of b.0) (λ b. weight_of b.0) (λ b. b.1) y))))
    (λ x y is. subst (λ (z : Core-F Kind Core). Within (room_of (record { span = z.span; ty = z.ty; kind = z.kind })) (weight_of (record { span = z.span; ty = z.ty; kind = z.kind }))) is
    (subst (λ (r : Room). Within r (weight_of (record { span = y.span; ty = y.ty; kind = y.kind.0 }))) (sym (fold_out-Core Room Room kind_room core_room (record { span = y.span; ty = y.ty; kind = y.kind.0 })))
    (subst (λ (w : ℕ). Within (room_of_kind y.kind.0) w) (sym (fold_out-Core ℕ ℕ kind_weight core_weight (record { span = y.span; ty = y.ty; kind = y.kind.0 }))) y.kind.1)))
    e

pub within : RoomIsWithinWeight
within f = let w = (room_within_weight f.body).value in omega (arith, w)
