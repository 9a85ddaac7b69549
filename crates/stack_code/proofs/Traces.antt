-- A node's code with what is known in it, by the layer of its kind.
use Rattle.std.proofs.Common.{◌≡◌, List, [], ◌∷◌, map, Some, None, refl, sym, ap, ◌∙◌, subst}
use Rattle.kc_core.specs.declared.tree.TypeTree.{TypeTree}
use Rattle.kc_core.specs.declared.tree.UnaryOp.TheVariants as unary
use Rattle.kc_core.specs.declared.tree.Native.TheVariants as native_kind
use Rattle.kc_core.specs.declared.tree.Core.{Core}
use Rattle.kc_core.specs.declared.tree.Kind.{Kind, out-Kind}
use Rattle.kc_core.specs.declared.tree.Kind.TheOpen.{Kind-F, Core-F}
use Rattle.kc_core.specs.declared.tree.Kind.TheViews.{roll-Kind}
use Rattle.kc_core.specs.declared.tree.Kind.TheFolds.{map-Kind, fold-Kind, fold_out-Core, fold_out-Kind, fold-roll-Kind, ind-Core}
use Rattle.stack_code.specs.Code.{Emitted, kind_code, core_code, code_of}
use Rattle.stack_code.specs.Frames.{Traced, kind_traced, emitted_kind, traced_kind, traced_core, traced_of}
use Rattle.stack_code.proofs.Nodes.{Coded, code_of_kind, type_of_code}

abbrev pub TracedKind : Type 0
TracedKind = TypeTree → Traced

abbrev pub traced_of_kind : Kind → TracedKind
traced_of_kind k = fold-Kind TracedKind Traced traced_kind traced_core k

pub traced_opened : (e : Core) (y : Kind-F Kind Core) (ty : TypeTree) → out-Kind e.kind ≡ y → e.ty ≡ ty → traced_of e ≡ traced_kind (map-Kind Kind Core TracedKind Traced traced_of_kind traced_of y) ty
traced_opened e y ty h t =
    fold_out-Core TracedKind Traced traced_kind traced_core e
    ∙ ap (λ (w : TracedKind). w e.ty) (fold_out-Kind TracedKind Traced traced_kind traced_core e.kind)
    ∙ ap (λ (z : Kind-F Kind Core). traced_kind (map-Kind Kind Core TracedKind Traced traced_of_kind traced_of z) e.ty) h
    ∙ ap (λ (u : TypeTree). traced_kind (map-Kind Kind Core TracedKind Traced traced_of_kind traced_of y) u) t

abbrev emitted_of : TracedKind → Coded
emitted_of f ty = (f ty).emitted

kind_emitted : (y : Kind-F TracedKind Traced) (x : Emitted) → (kind_traced x y).emitted ≡ x
kind_emitted (Kind-F.IntLit n) x = refl
kind_emitted (Kind-F.StrLit t) x = refl
kind_emitted (Kind-F.BoolLit b) x = refl
kind_emitted (Kind-F.LocalRead n) x = refl
kind_emitted (Kind-F.LocalWrite n e) x = refl
kind_emitted (Kind-F.Declare n None) x = refl
kind_emitted (Kind-F.Declare n (Some e)) x = refl
kind_emitted (Kind-F.NumBinary op a b) x = refl
kind_emitted (Kind-F.NumUnary unary.Minus a) x = refl
kind_emitted (Kind-F.NumCompare op a b) x = refl
kind_emitted (Kind-F.Equal a b) x = refl
kind_emitted (Kind-F.Not a) x = refl
kind_emitted (Kind-F.And a b) x = refl
kind_emitted (Kind-F.Or a b) x = refl
kind_emitted (Kind-F.Concat es) x = refl
kind_emitted (Kind-F.CallNative native_kind.ConsoleWrite es) x = refl
kind_emitted (Kind-F.Block es) x = refl
kind_emitted (Kind-F.If c a None) x = refl
kind_emitted (Kind-F.If c a (Some b)) x = refl
kind_emitted (Kind-F.While label c a) x = refl

same_list : (A : Type 0) (f : A → Traced) (g : A → Emitted) → ((a : A) → (f a).emitted ≡ g a) → (es : List A) → map (λ (x : Traced). x.emitted) (map f es) ≡ map g es
same_list A f g h [] = refl
same_list A f g h (e ∷ es) = ap (λ (x : Emitted). x ∷ map (λ (x : Traced). x.emitted) (map f es)) (h e) ∙ ap (λ (xs : List Emitted). g e ∷ xs) (same_list A f g h es)

-- the code of a layer is the same, if that of its parts is
same_layer : (A B : Type 0) (p : A → TracedKind) (q : A → Coded) (f : B → Traced) (g : B → Emitted) → ((b : B) → (f b).emitted ≡ g b) → (y : Kind-F A B) (ty : TypeTree) → emitted_kind (map-Kind A B TracedKind Traced p f y) ty ≡ kind_code (map-Kind A B Coded Emitted q g y) ty
same_layer A B p q f g h (Kind-F.IntLit n) ty = refl
same_layer A B p q f g h (Kind-F.StrLit t) ty = refl
same_layer A B p q f g h (Kind-F.BoolLit b) ty = refl
same_layer A B p q f g h (Kind-F.LocalRead x) ty = refl
same_layer A B p q f g h (Kind-F.LocalWrite x e) ty = ap (λ (a : Emitted). kind_code (Kind-F.LocalWrite x a) ty) (h e)
same_layer A B p q f g h (Kind-F.Declare x None) ty = refl
same_layer A B p q f g h (Kind-F.Declare x (Some e)) ty = ap (λ (a : Emitted). kind_code (Kind-F.Declare x (Some a)) ty) (h e)
same_layer A B p q f g h (Kind-F.NumBinary op a b) ty = ap (λ (x : Emitted). kind_code (Kind-F.NumBinary op x (f b).emitted) ty) (h a) ∙ ap (λ (x : Emitted). kind_code (Kind-F.NumBinary op (g a) x) ty) (h b)
same_layer A B p q f g h (Kind-F.NumUnary unary.Minus a) ty = ap (λ (x : Emitted). kind_code (Kind-F.NumUnary unary.Minus x) ty) (h a)
same_layer A B p q f g h (Kind-F.NumCompare op a b) ty = ap (λ (x : Emitted). kind_code (Kind-F.NumCompare op x (f b).emitted) ty) (h a) ∙ ap (λ (x : Emitted). kind_code (Kind-F.NumCompare op (g a) x) ty) (h b)
same_layer A B p q f g h (Kind-F.Equal a b) ty = ap (λ (x : Emitted). kind_code (Kind-F.Equal x (f b).emitted) ty) (h a) ∙ ap (λ (x : Emitted). kind_code (Kind-F.Equal (g a) x) ty) (h b)
same_layer A B p q f g h (Kind-F.Not a) ty = ap (λ (x : Emitted). kind_code (Kind-F.Not x) ty) (h a)
same_layer A B p q f g h (Kind-F.And a b) ty = ap (λ (x : Emitted). kind_code (Kind-F.And x (f b).emitted) ty) (h a) ∙ ap (λ (x : Emitted). kind_code (Kind-F.And (g a) x) ty) (h b)
same_layer A B p q f g h (Kind-F.Or a b) ty = ap (λ (x : Emitted). kind_code (Kind-F.Or x (f b).emitted) ty) (h a) ∙ ap (λ (x : Emitted). kind_code (Kind-F.Or (g a) x) ty) (h b)
same_layer A B p q f g h (Kind-F.Concat es) ty = ap (λ (xs : List Emitted). kind_code (Kind-F.Concat xs) ty) (same_list B f g h es)
same_layer A B p q f g h (Kind-F.CallNative native_kind.ConsoleWrite es) ty = ap (λ (xs : List Emitted). kind_code (Kind-F.CallNative native_kind.ConsoleWrite xs) ty) (same_list B f g h es)
same_layer A B p q f g h (Kind-F.Block es) ty = ap (λ (xs : List Emitted). kind_code (Kind-F.Block xs) ty) (same_list B f g h es)
same_layer A B p q f g h (Kind-F.If c a None) ty = ap (λ (x : Emitted). kind_code (Kind-F.If x (f a).emitted None) ty) (h c) ∙ ap (λ (x : Emitted). kind_code (Kind-F.If (g c) x None) ty) (h a)
same_layer A B p q f g h (Kind-F.If c a (Some b)) ty =
    ap (λ (x : Emitted). kind_code (Kind-F.If x (f a).emitted (Some (f b).emitted)) ty) (h c)
    ∙ ap (λ (x : Emitted). kind_code (Kind-F.If (g c) x (Some (f b).emitted)) ty) (h a)
    ∙ ap (λ (x : Emitted). kind_code (Kind-F.If (g c) (g a) (Some x)) ty) (h b)
same_layer A B p q f g h (Kind-F.While label c a) ty = ap (λ (x : Emitted). kind_code (Kind-F.While label x (f a).emitted) ty) (h c) ∙ ap (λ (x : Emitted). kind_code (Kind-F.While label (g c) x) ty) (h a)

map_twice : (A B C : Type 0) (f : B → C) (g : A → B) (es : List A) → map f (map g es) ≡ map (λ a. f (g a)) es
map_twice A B C f g [] = refl
map_twice A B C f g (e ∷ es) = ap (λ l. f (g e) ∷ l) (map_twice A B C f g es)

layer_twice : (A B C D : Type 0) (p : A → Kind) (q : B → Core) (r : Kind → C) (f : Core → D) (y : Kind-F A B) → map-Kind Kind Core C D r f (map-Kind A B Kind Core p q y) ≡ map-Kind A B C D (λ a. r (p a)) (λ b. f (q b)) y
layer_twice A B C D p q r f (Kind-F.IntLit n) = refl
layer_twice A B C D p q r f (Kind-F.StrLit t) = refl
layer_twice A B C D p q r f (Kind-F.BoolLit b) = refl
layer_twice A B C D p q r f (Kind-F.LocalRead x) = refl
layer_twice A B C D p q r f (Kind-F.LocalWrite x e) = refl
layer_twice A B C D p q r f (Kind-F.Declare x None) = refl
layer_twice A B C D p q r f (Kind-F.Declare x (Some e)) = refl
layer_twice A B C D p q r f (Kind-F.NumBinary op a b) = refl
layer_twice A B C D p q r f (Kind-F.NumUnary op a) = refl
layer_twice A B C D p q r f (Kind-F.NumCompare op a b) = refl
layer_twice A B C D p q r f (Kind-F.Equal a b) = refl
layer_twice A B C D p q r f (Kind-F.Not a) = refl
layer_twice A B C D p q r f (Kind-F.And a b) = refl
layer_twice A B C D p q r f (Kind-F.Or a b) = refl
layer_twice A B C D p q r f (Kind-F.Concat es) = ap Kind-F.Concat (map_twice B Core D f q es)
layer_twice A B C D p q r f (Kind-F.CallNative n es) = ap (Kind-F.CallNative n) (map_twice B Core D f q es)
layer_twice A B C D p q r f (Kind-F.Block es) = ap Kind-F.Block (map_twice B Core D f q es)
layer_twice A B C D p q r f (Kind-F.If c a None) = refl
layer_twice A B C D p q r f (Kind-F.If c a (Some b)) = refl
layer_twice A B C D p q r f (Kind-F.While label c a) = refl

-- the layer of a kind whose parts have the same code
kind_step : (A B : Type 0) (p : A → Kind) (q : B → Core) → ((b : B) → (traced_of (q b)).emitted ≡ code_of (q b)) → (y : Kind-F A B) (ty : TypeTree) → (traced_of_kind (roll-Kind (map-Kind A B Kind Core p q y)) ty).emitted ≡ code_of_kind (roll-Kind (map-Kind A B Kind Core p q y)) ty
kind_step A B p q h y ty =
    ap (λ (w : TracedKind). (w ty).emitted) (fold-roll-Kind TracedKind Traced traced_kind traced_core (map-Kind A B Kind Core p q y))
    ∙ ap (λ (z : Kind-F TracedKind Traced). (traced_kind z ty).emitted) (layer_twice A B TracedKind Traced p q traced_of_kind traced_of y)
    ∙ kind_emitted (map-Kind A B TracedKind Traced (λ a. traced_of_kind (p a)) (λ b. traced_of (q b)) y) (emitted_kind (map-Kind A B TracedKind Traced (λ a. traced_of_kind (p a)) (λ b. traced_of (q b)) y) ty)
    ∙ same_layer A B (λ a. traced_of_kind (p a)) (λ a. code_of_kind (p a)) (λ b. traced_of (q b)) (λ b. code_of (q b)) h y ty
    ∙ ap (λ (z : Kind-F Coded Emitted). kind_code z ty) (sym (layer_twice A B Coded Emitted p q code_of_kind code_of y))
    ∙ ap (λ (w : Coded). w ty) (sym (fold-roll-Kind Coded Emitted kind_code core_code (map-Kind A B Kind Core p q y)))

-- the code is that of the node
pub emitted_is : (e : Core) → (traced_of e).emitted ≡ code_of e
emitted_is e = ind-Core (λ k. (ty : TypeTree) → (traced_of_kind k ty).emitted ≡ code_of_kind k ty) (λ e. (traced_of e).emitted ≡ code_of e)
    (λ x y is. subst (λ z. (ty : TypeTree) → (traced_of_kind (roll-Kind z) ty).emitted ≡ code_of_kind (roll-Kind z) ty) is
    (kind_step _ _ (λ a. a.0) (λ b. b.0) (λ b. b.1) y))
    (λ x y is. subst (λ (z : Core-F Kind Core). (traced_of (record { span = z.span; ty = z.ty; kind = z.kind })).emitted ≡ code_of (record { span = z.span; ty = z.ty; kind = z.kind })) is
    (ap (λ (t : Traced). t.emitted) (fold_out-Core TracedKind Traced traced_kind traced_core (record { span = y.span; ty = y.ty; kind = y.kind.0 }))
    ∙ y.kind.1 y.ty
    ∙ sym (fold_out-Core Coded Emitted kind_code core_code (record { span = y.span; ty = y.ty; kind = y.kind.0 }))))
    e

pub type_of_traced : (e : Core) → (traced_of e).emitted.ty ≡ e.ty
type_of_traced e = ap (λ (x : Emitted). x.ty) (emitted_is e) ∙ type_of_code e
