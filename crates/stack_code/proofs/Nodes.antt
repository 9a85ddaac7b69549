-- Every node: its size is that of its code, and its code does what it does.
use Rattle.std.proofs.Common.{append-nil, ◌≡◌, ℕ, zero, suc, ◌+◌, List, [], ◌∷◌, ◌++◌, map, Option, Some, None, Bool, true, false, refl, sym, ap, ◌∙◌, subst, arith}
use Rattle.std.specs.Prelude.{ℤ, pos, negsuc, not, nat_lt, nat_le, int_lt, int_le, ◌&&◌, if◌then◌else◌}
use Rattle.std.proofs.lemmas.Bool.{ltb-true, ltb-false, leb-true, leb-false}
use Rattle.std.specs.Ordering.{int_eq}
use Rattle.kc_core.specs.declared.tree.TypeTree.{TypeTree}
use Rattle.kc_core.specs.declared.tree.Span.{Span}
use Rattle.kc_core.specs.declared.tree.UnaryOp.TheVariants as unary
use Rattle.kc_core.specs.declared.tree.Native.{Native}
use Rattle.kc_core.specs.declared.tree.Native.TheVariants as native_kind
use Rattle.kc_core.specs.declared.tree.Core.{Core}
use Rattle.kc_core.specs.declared.tree.Kind.{Kind, out-Kind}
use Rattle.kc_core.specs.declared.tree.Kind.TheOpen.{Kind-F, Core-F}
use Rattle.kc_core.specs.declared.tree.Kind.TheViews.{roll-Kind, outs-NumBinary, outs-NumCompare, outs-Equal, outs-Not, outs-And, outs-Or, outs-Concat, outs-CallNative, NumBinary as made-NumBinary, NumCompare as made-NumCompare, Equal as made-Equal, Not as made-Not, And as made-And, Or as made-Or, Concat as made-Concat, CallNative as made-CallNative}
use Rattle.kc_core.specs.declared.tree.BinaryOp.{BinaryOp}
use Rattle.kc_core.specs.declared.tree.Order.{Order}
use Rattle.kc_core.specs.declared.tree.Order.TheVariants.{Less, LessEqual, Greater, GreaterEqual}
use Rattle.kc_core.specs.Values.{compares}
use Rattle.kc_core.specs.declared.tree.Kind.TheFolds.{map-Kind, fold-Kind, fold_out-Core, fold_out-Kind, fold-roll-Kind, ind-Core}
use Rattle.kc_core.specs.Meaning.{State, Completion, then_do, enter, checked, rule, eval}
use Rattle.class_file.specs.declared.class.Set.{Set}
use Rattle.class_file.specs.Machine.{holds}
use Rattle.stack_code.specs.declared.constants.Helper.TheVariants as helper
use Rattle.stack_code.specs.Emission.{declared_ops, declared_goes}
use Rattle.stack_code.specs.Code.{Operation, PushInt, Compute, Negate, Call, JumpCompare, truth, bytes, Emitted, loads, stores, bit, kept, kept_bytes, two_ops, leaf, then_code, operator_of, test_of, equal_test, either_ops, either_bytes, if_else_code, Several, texts, values, in_turn, whole, kind_code, core_code, code_of}
use Rattle.stack_code.proofs.Runs.{kept_size, Sized, Acts, acts_none}
use Rattle.stack_code.proofs.Lists.{bytes_append}
use Rattle.stack_code.proofs.Single.{int_follows, text_follows, read_follows, unset_follows}
use Rattle.stack_code.proofs.Operands.{negate_follows, declare_follows, binary_follows}
use Rattle.stack_code.proofs.Several.{AllSized, texts_sized, values_sized, turns_sized, whole_size, block_follows}
use Rattle.stack_code.proofs.Tests.{plain_sized, testing_sized, two_size, short_size, same, plain_acts, truth_acts, negated_acts, compared_acts, short_acts}
use Rattle.stack_code.proofs.Choices.{if_size, either_size, while_size, if_acts, if_else_acts, while_acts}
use Rattle.stack_code.proofs.Texts.{concat_follows, write_follows}

-- the code of a kind by its node's type
abbrev pub Coded : Type 0
Coded = TypeTree → Emitted

abbrev pub code_of_kind : Kind → Coded
code_of_kind k = fold-Kind Coded Emitted kind_code core_code k

then_size : (a : Emitted) (tail : List Operation) → Sized a → bytes (a.code ++ kept a.goes_on tail) ≡ a.size + kept_bytes a.goes_on (bytes tail)
then_size a tail za = let r = bytes_append a.code (kept a.goes_on tail) in let k = kept_size a.goes_on tail in omega (arith, r, k, za.whole)

then_sized : (a : Emitted) (tail : List Operation) (ty : TypeTree) → Sized a → Sized (then_code a tail ty)
then_sized a tail ty za = plain_sized ty (a.size + kept_bytes a.goes_on (bytes tail)) (1 + a.nodes) a.goes_on (a.code ++ kept a.goes_on tail) (then_size a tail za)

leaf_sized : (os : List Operation) (ty : TypeTree) → Sized (leaf os ty)
leaf_sized os ty = plain_sized ty (bytes os) 1 true os refl

whole_sized : (s : Several) (tail : List Operation) (ty : TypeTree) → AllSized s → Sized (whole s tail ty)
whole_sized s tail ty a = plain_sized ty (s.size + kept_bytes s.goes_on (bytes tail)) (1 + s.nodes) s.goes_on (s.code ++ kept s.goes_on tail) (whole_size s tail a)

if_else_sized : (c a b : Emitted) (ty : TypeTree) → Sized c → Sized a → Sized b → Sized (if_else_code c a b ty)
if_else_sized c a b ty zc za zb = plain_sized ty _ _ _ _ (by_case c.always)
  where
    by_case : (t : Bool) → bytes (if t then a.code else either_ops c a b) ≡ (if t then a.size else either_bytes c a b)
    by_case true = za.whole
    by_case false = either_size c a b zc za zb

sized_layer : (A B : Type 0) (g : A → Coded) (f : B → Emitted) → ((b : B) → Sized (f b)) → (y : Kind-F A B) (ty : TypeTree) → Sized (kind_code (map-Kind A B Coded Emitted g f y) ty)
sized_layer A B g f sized (Kind-F.IntLit n) ty = leaf_sized _ ty
sized_layer A B g f sized (Kind-F.StrLit t) ty = leaf_sized _ ty
sized_layer A B g f sized (Kind-F.BoolLit b) ty = (let z = leaf_sized (PushInt (bit b) ∷ []) ty in record { whole = z.whole; test = z.test })
sized_layer A B g f sized (Kind-F.LocalRead x) ty = leaf_sized _ ty
sized_layer A B g f sized (Kind-F.LocalWrite x e) ty = then_sized (f e) (stores (f e).ty x) ty (sized e)
sized_layer A B g f sized (Kind-F.Declare x None) ty = leaf_sized _ ty
sized_layer A B g f sized (Kind-F.Declare x (Some e)) ty = then_sized (f e) (stores (f e).ty x) ty (sized e)
sized_layer A B g f sized (Kind-F.NumBinary op a b) ty = plain_sized ty _ _ _ _ (two_size (f a) (f b) (Compute (operator_of op) ∷ []) (sized a) (sized b))
sized_layer A B g f sized (Kind-F.NumUnary unary.Minus a) ty = then_sized (f a) (Negate ∷ []) ty (sized a)
sized_layer A B g f sized (Kind-F.NumCompare order a b) ty = testing_sized ty _ _ _ _ (λ w n. two_size (f a) (f b) _ (sized a) (sized b))
sized_layer A B g f sized (Kind-F.Equal a b) ty = testing_sized ty _ _ _ _ (λ w n. two_size (f a) (f b) _ (sized a) (sized b))
sized_layer A B g f sized (Kind-F.Not a) ty = testing_sized ty _ _ _ _ (λ w n. (sized a).test (not w) n)
sized_layer A B g f sized (Kind-F.And a b) ty = testing_sized ty _ _ _ _ (λ w n. short_size false (f a) (f b) (sized a) (sized b) w n)
sized_layer A B g f sized (Kind-F.Or a b) ty = testing_sized ty _ _ _ _ (λ w n. short_size true (f a) (f b) (sized a) (sized b) w n)
sized_layer A B g f sized (Kind-F.Concat es) ty = whole_sized (texts (map f es)) [] ty (texts_sized B f sized es)
sized_layer A B g f sized (Kind-F.CallNative native_kind.ConsoleWrite es) ty = whole_sized (values (map f es)) (Call helper.ConsoleWrite ∷ []) ty (values_sized B f sized es)
sized_layer A B g f sized (Kind-F.Block es) ty = whole_sized (in_turn (map f es)) [] ty (turns_sized B f sized es)
sized_layer A B g f sized (Kind-F.If c a None) ty = plain_sized ty _ _ _ _ (if_size (f c) (f a) (sized c) (sized a))
sized_layer A B g f sized (Kind-F.If c a (Some b)) ty = if_else_sized (f c) (f a) (f b) ty (sized c) (sized a) (sized b)
sized_layer A B g f sized (Kind-F.While label c a) ty = plain_sized ty _ _ _ _ (while_size (f c) (f a) (sized c) (sized a))

map_twice : (A B C : Type 0) (f : B → C) (g : A → B) (es : List A) → map f (map g es) ≡ map (λ a. f (g a)) es
map_twice A B C f g [] = refl
map_twice A B C f g (e ∷ es) = ap (λ l. f (g e) ∷ l) (map_twice A B C f g es)

layer_twice : (A B : Type 0) (p : A → Kind) (q : B → Core) (f : Core → Emitted) (y : Kind-F A B) → map-Kind Kind Core Coded Emitted code_of_kind f (map-Kind A B Kind Core p q y) ≡ map-Kind A B Coded Emitted (λ a. code_of_kind (p a)) (λ b. f (q b)) y
layer_twice A B p q f (Kind-F.IntLit n) = refl
layer_twice A B p q f (Kind-F.StrLit t) = refl
layer_twice A B p q f (Kind-F.BoolLit b) = refl
layer_twice A B p q f (Kind-F.LocalRead x) = refl
layer_twice A B p q f (Kind-F.LocalWrite x e) = refl
layer_twice A B p q f (Kind-F.Declare x None) = refl
layer_twice A B p q f (Kind-F.Declare x (Some e)) = refl
layer_twice A B p q f (Kind-F.NumBinary op a b) = refl
layer_twice A B p q f (Kind-F.NumUnary op a) = refl
layer_twice A B p q f (Kind-F.NumCompare order a b) = refl
layer_twice A B p q f (Kind-F.Equal a b) = refl
layer_twice A B p q f (Kind-F.Not a) = refl
layer_twice A B p q f (Kind-F.And a b) = refl
layer_twice A B p q f (Kind-F.Or a b) = refl
layer_twice A B p q f (Kind-F.Concat es) = ap Kind-F.Concat (map_twice B Core Emitted f q es)
layer_twice A B p q f (Kind-F.CallNative n es) = ap (Kind-F.CallNative n) (map_twice B Core Emitted f q es)
layer_twice A B p q f (Kind-F.Block es) = ap Kind-F.Block (map_twice B Core Emitted f q es)
layer_twice A B p q f (Kind-F.If c a None) = refl
layer_twice A B p q f (Kind-F.If c a (Some b)) = refl
layer_twice A B p q f (Kind-F.While label c a) = refl

pub sized : (e : Core) → Sized (code_of e)
sized e = ind-Core (λ k. (ty : TypeTree) → Sized (code_of_kind k ty)) (λ e. Sized (code_of e))
    (λ x y is. subst (λ z. (ty : TypeTree) → Sized (code_of_kind (roll-Kind z) ty)) is
    (subst (λ (w : Coded). (ty : TypeTree) → Sized (w ty))
    (sym (fold-roll-Kind Coded Emitted kind_code core_code (map-Kind _ _ Kind Core (λ a. a.0) (λ b. b.0) y) ∙ ap kind_code (layer_twice _ _ (λ a. a.0) (λ b. b.0) code_of y)))
    (sized_layer _ _ (λ a. code_of_kind a.0) (λ b. code_of b.0) (λ b. b.1) y)))
    (λ x y is. subst (λ (z : Core-F Kind Core). Sized (code_of (record { span = z.span; ty = z.ty; kind = z.kind }))) is
    (subst Sized (sym (fold_out-Core Coded Emitted kind_code core_code (record { span = y.span; ty = y.ty; kind = y.kind.0 }))) (y.kind.1 y.ty)))
    e

-- a node's code, by the layer of its kind
pub opened : (e : Core) → code_of e ≡ kind_code (map-Kind Kind Core Coded Emitted code_of_kind code_of (out-Kind e.kind)) e.ty
opened e = fold_out-Core Coded Emitted kind_code core_code e ∙ ap (λ (w : Coded). w e.ty) (fold_out-Kind Coded Emitted kind_code core_code e.kind)

-- the same, given the kind
pub coded : (e : Core) (k : Kind) (x : Kind-F Kind Core) → e.kind ≡ k → out-Kind k ≡ x → code_of e ≡ kind_code (map-Kind Kind Core Coded Emitted code_of_kind code_of x) e.ty
coded e k x h o =
    opened e ∙ ap (λ k. kind_code (map-Kind Kind Core Coded Emitted code_of_kind code_of (out-Kind k)) e.ty) h ∙ ap (λ x. kind_code (map-Kind Kind Core Coded Emitted code_of_kind code_of x) e.ty) o

pub truth_of : (e : Core) (b : Bool) → out-Kind e.kind ≡ Kind-F.BoolLit b → (code_of e).code ≡ PushInt (bit b) ∷ []
truth_of e b h = ap (λ (x : Emitted). x.code) (coded e e.kind (Kind-F.BoolLit b) refl h)

pub read_code : (e : Core) (x : ℕ) → out-Kind e.kind ≡ Kind-F.LocalRead x → (code_of e).code ≡ loads e.ty x
read_code e x h = ap (λ (x : Emitted). x.code) (coded e e.kind (Kind-F.LocalRead x) refl h)

pub binary_code : (e : Core) (op : BinaryOp) (a b : Core) → e.kind ≡ made-NumBinary op a b → (code_of e).code ≡ two_ops (code_of a) (code_of b) (Compute (operator_of op) ∷ [])
binary_code e op a b h = ap (λ (x : Emitted). x.code) (coded e (made-NumBinary op a b) _ h (outs-NumBinary op a b))

pub compare_code : (e : Core) (order : Order) (a b : Core) → e.kind ≡ made-NumCompare order a b → (code_of e).code ≡ two_ops (code_of a) (code_of b) (JumpCompare (test_of false order) 7 ∷ []) ++ kept ((code_of a).goes_on && (code_of b).goes_on) truth
compare_code e order a b h = ap (λ (x : Emitted). x.code) (coded e (made-NumCompare order a b) _ h (outs-NumCompare order a b))

pub equal_code : (e : Core) (a b : Core) → e.kind ≡ made-Equal a b → (code_of e).code ≡ two_ops (code_of a) (code_of b) (JumpCompare (equal_test false) 7 ∷ []) ++ kept ((code_of a).goes_on && (code_of b).goes_on) truth
equal_code e a b h = ap (λ (x : Emitted). x.code) (coded e (made-Equal a b) _ h (outs-Equal a b))

pub not_code : (e : Core) (a : Core) → e.kind ≡ made-Not a → (code_of e).code ≡ (code_of a).test true 4 ++ kept (code_of a).goes_on truth
not_code e a h = ap (λ (x : Emitted). x.code) (coded e (made-Not a) _ h (outs-Not a))

pub and_code : (e : Core) (a b : Core) → e.kind ≡ made-And a b → (code_of e).code ≡ ((code_of a).test false ((code_of b).test_size false + 4) ++ kept (code_of a).goes_on ((code_of b).test false 4)) ++ kept (code_of a).goes_on truth
and_code e a b h = ap (λ (x : Emitted). x.code) (coded e (made-And a b) _ h (outs-And a b))

pub or_code : (e : Core) (a b : Core) → e.kind ≡ made-Or a b → (code_of e).code ≡ ((code_of a).test true ((code_of b).test_size false + 0) ++ kept (code_of a).goes_on ((code_of b).test false 4)) ++ kept (code_of a).goes_on truth
or_code e a b h = ap (λ (x : Emitted). x.code) (coded e (made-Or a b) _ h (outs-Or a b))

pub concat_is : (e : Core) (parts : List Core) → e.kind ≡ made-Concat parts → code_of e ≡ whole (texts (map code_of parts)) [] e.ty
concat_is e parts h = coded e (made-Concat parts) _ h (outs-Concat parts)

pub concat_code : (e : Core) (parts : List Core) → e.kind ≡ made-Concat parts → (code_of e).code ≡ (texts (map code_of parts)).code
concat_code e parts h = ap (λ (x : Emitted). x.code) (concat_is e parts h) ∙ without (texts (map code_of parts)).goes_on (texts (map code_of parts)).code
  where
    without : (goes : Bool) (os : List Operation) → os ++ kept goes [] ≡ os
    without true os = append-nil os
    without false os = append-nil os

pub write_is : (e : Core) (f : Native) (args : List Core) → e.kind ≡ made-CallNative f args → code_of e ≡ whole (values (map code_of args)) (Call helper.ConsoleWrite ∷ []) e.ty
write_is e native_kind.ConsoleWrite args h = coded e (made-CallNative native_kind.ConsoleWrite args) _ h (outs-CallNative native_kind.ConsoleWrite args)

kind_type : (y : Kind-F Coded Emitted) (ty : TypeTree) → (kind_code y ty).ty ≡ ty
kind_type (Kind-F.IntLit n) ty = refl
kind_type (Kind-F.StrLit t) ty = refl
kind_type (Kind-F.BoolLit b) ty = refl
kind_type (Kind-F.LocalRead x) ty = refl
kind_type (Kind-F.LocalWrite x e) ty = refl
kind_type (Kind-F.Declare x None) ty = refl
kind_type (Kind-F.Declare x (Some e)) ty = refl
kind_type (Kind-F.NumBinary op a b) ty = refl
kind_type (Kind-F.NumUnary unary.Minus a) ty = refl
kind_type (Kind-F.NumCompare order a b) ty = refl
kind_type (Kind-F.Equal a b) ty = refl
kind_type (Kind-F.Not a) ty = refl
kind_type (Kind-F.And a b) ty = refl
kind_type (Kind-F.Or a b) ty = refl
kind_type (Kind-F.Concat es) ty = refl
kind_type (Kind-F.CallNative native_kind.ConsoleWrite es) ty = refl
kind_type (Kind-F.Block es) ty = refl
kind_type (Kind-F.If c a None) ty = refl
kind_type (Kind-F.If c a (Some b)) ty = refl
kind_type (Kind-F.While label c a) ty = refl

-- a node's code leaves a value of the node's type
pub type_of_code : (e : Core) → (code_of e).ty ≡ e.ty
type_of_code e = ap (λ (x : Emitted). x.ty) (opened e) ∙ kind_type (map-Kind Kind Core Coded Emitted code_of_kind code_of (out-Kind e.kind)) e.ty

-- the code of a declaration, which may have a value
pub declared_code : (e : Core) (x : ℕ) (o : Option Core) → out-Kind e.kind ≡ Kind-F.Declare x o → (code_of e).code ≡ declared_ops x o
declared_code e x None h = ap (λ (x : Emitted). x.code) (coded e e.kind (Kind-F.Declare x None) refl h)
declared_code e x (Some v) h = ap (λ (x : Emitted). x.code) (coded e e.kind (Kind-F.Declare x (Some v)) refl h) ∙ ap (λ ty. (code_of v).code ++ kept (code_of v).goes_on (stores ty x)) (type_of_code v)

pub declared_on : (e : Core) (x : ℕ) (o : Option Core) → out-Kind e.kind ≡ Kind-F.Declare x o → (code_of e).goes_on ≡ declared_goes o
declared_on e x None h = ap (λ (x : Emitted). x.goes_on) (coded e e.kind (Kind-F.Declare x None) refl h)
declared_on e x (Some v) h = ap (λ (x : Emitted). x.goes_on) (coded e e.kind (Kind-F.Declare x (Some v)) refl h)

nat_not_less : (m n : ℕ) → nat_le n m ≡ not (nat_lt m n)
nat_not_less m n = by_both (nat_lt m n) (nat_le n m) refl refl
  where
    by_both : (l g : Bool) → nat_lt m n ≡ l → nat_le n m ≡ g → g ≡ not l
    by_both true true e f = let lt = ltb-true m n e in let le = leb-true n m f in absurd (omega arith)
    by_both true false e f = refl
    by_both false true e f = refl
    by_both false false e f = let le = ltb-false m n e in let lt = leb-false n m f in absurd (omega arith)

not_less : (p q : ℤ) → int_le q p ≡ not (int_lt p q)
not_less (pos m) (pos n) = nat_not_less m n
not_less (pos m) (negsuc n) = refl
not_less (negsuc m) (pos n) = refl
not_less (negsuc m) (negsuc n) = nat_not_less n m

not_above : (p q : ℤ) → int_lt q p ≡ not (int_le p q)
not_above p q = flipped (int_le p q) (int_lt q p) (not_less q p)
  where
    flipped : (a b : Bool) → a ≡ not b → b ≡ not a
    flipped a true e = ap not (sym e)
    flipped a false e = ap not (sym e)

-- what a test on Ints comes to
order_holds : (order : Order) (w : Bool) (p q : ℤ) → holds (test_of w order) p q ≡ same w (compares order p q)
order_holds Less true p q = refl
order_holds LessEqual true p q = refl
order_holds Greater true p q = refl
order_holds GreaterEqual true p q = refl
order_holds Less false p q = not_less p q
order_holds LessEqual false p q = not_above p q
order_holds Greater false p q = not_less q p
order_holds GreaterEqual false p q = not_above q p

equal_holds : (w : Bool) (p q : ℤ) → holds (equal_test w) p q ≡ same w (int_eq p q)
equal_holds true p q = refl
equal_holds false p q = refl

module _ (set : Set) (S : ℕ) where
  node_layer : (d : ℕ) (ev : Core → State → Completion) → ((e : Core) → Acts set S d (code_of e) (ev e)) → (span : Span) (ty : TypeTree) (x : Kind-F Kind Core) (again : State → Completion) → Acts set S d (kind_code (map-Kind Kind Core Coded Emitted code_of_kind code_of x) ty) again → Acts set S (suc d) (kind_code (map-Kind Kind Core Coded Emitted code_of_kind code_of x) ty) (λ s. enter s.units s (λ s1. then_do (rule span ev again x s1) (checked span ty)))
  node_layer d ev ih span ty (Kind-F.IntLit n) again turn = plain_acts set S (suc d) ty _ _ _ _ _ refl (int_follows set S d ty span n)
  node_layer d ev ih span ty (Kind-F.StrLit t) again turn = plain_acts set S (suc d) ty _ _ _ _ _ refl (text_follows set S d ty span t)
  node_layer d ev ih span ty (Kind-F.BoolLit b) again turn = truth_acts set S d ty span b
  node_layer d ev ih span ty (Kind-F.LocalRead x) again turn = plain_acts set S (suc d) ty _ _ _ _ _ refl (read_follows set S d ty span x)
  node_layer d ev ih span ty (Kind-F.LocalWrite x e) again turn = plain_acts set S (suc d) ty _ _ _ _ _ (then_size (code_of e) (stores (code_of e).ty x) (sized e)) (declare_follows set S d ty span x (code_of e) (ev e) (sized e) (ih e).value)
  node_layer d ev ih span ty (Kind-F.Declare x None) again turn = plain_acts set S (suc d) ty _ _ _ _ _ refl (unset_follows set S d ty span x)
  node_layer d ev ih span ty (Kind-F.Declare x (Some e)) again turn = plain_acts set S (suc d) ty _ _ _ _ _ (then_size (code_of e) (stores (code_of e).ty x) (sized e)) (declare_follows set S d ty span x (code_of e) (ev e) (sized e) (ih e).value)
  node_layer d ev ih span ty (Kind-F.NumBinary op a b) again turn =
      plain_acts set S (suc d) ty _ _ _ _ _ (two_size (code_of a) (code_of b) (Compute (operator_of op) ∷ []) (sized a) (sized b)) (binary_follows set S d ty span op (code_of a) (code_of b) (ev a) (ev b) (sized a) (sized b) (ih a).value (ih b).value)
  node_layer d ev ih span ty (Kind-F.NumUnary unary.Minus a) again turn = plain_acts set S (suc d) ty _ _ _ _ _ (then_size (code_of a) (Negate ∷ []) (sized a)) (negate_follows set S d ty span (code_of a) (ev a) (sized a) (ih a).value)
  node_layer d ev ih span ty (Kind-F.NumCompare order a b) again turn =
      compared_acts set S d ty span (code_of a) (code_of b) (λ w. test_of w order) (compares order) (ev a) (ev b) (order_holds order) (sized a) (sized b) (ih a).value (ih b).value
  node_layer d ev ih span ty (Kind-F.Equal a b) again turn = compared_acts set S d ty span (code_of a) (code_of b) equal_test int_eq (ev a) (ev b) equal_holds (sized a) (sized b) (ih a).value (ih b).value
  node_layer d ev ih span ty (Kind-F.Not a) again turn = negated_acts set S d ty span (code_of a) (ev a) (sized a) (ih a)
  node_layer d ev ih span ty (Kind-F.And a b) again turn = short_acts set S d ty span false (code_of a) (code_of b) (ev a) (ev b) (sized a) (sized b) (ih a) (ih b)
  node_layer d ev ih span ty (Kind-F.Or a b) again turn = short_acts set S d ty span true (code_of a) (code_of b) (ev a) (ev b) (sized a) (sized b) (ih a) (ih b)
  node_layer d ev ih span ty (Kind-F.Concat es) again turn = plain_acts set S (suc d) ty _ _ _ _ _ (whole_size (texts (map code_of es)) [] (texts_sized Core code_of sized es)) (concat_follows set S d ev sized (λ e. (ih e).value) ty span es)
  node_layer d ev ih span ty (Kind-F.CallNative native_kind.ConsoleWrite es) again turn =
      plain_acts set S (suc d) ty _ _ _ _ _ (whole_size (values (map code_of es)) (Call helper.ConsoleWrite ∷ []) (values_sized Core code_of sized es)) (write_follows set S d ev sized (λ e. (ih e).value) ty span es (values_sized Core code_of sized es))
  node_layer d ev ih span ty (Kind-F.Block es) again turn = plain_acts set S (suc d) ty _ _ _ _ _ (whole_size (in_turn (map code_of es)) [] (turns_sized Core code_of sized es)) (block_follows set S d ev sized (λ e. (ih e).value) ty span es)
  node_layer d ev ih span ty (Kind-F.If c a None) again turn = if_acts set S d ty span (code_of c) (code_of a) (ev c) (ev a) (sized c) (sized a) (ih c) (ih a)
  node_layer d ev ih span ty (Kind-F.If c a (Some b)) again turn = if_else_acts set S d ty span (code_of c) (code_of a) (code_of b) (ev c) (ev a) (ev b) (sized c) (sized a) (sized b) (ih c) (ih a) (ih b)
  node_layer d ev ih span ty (Kind-F.While label c a) again turn = while_acts set S d ty span (code_of c) (code_of a) (ev c) (ev a) again (sized c) (sized a) (ih c) (ih a) turn

  -- both forms of the code of each node do what the node does
  pub node_acts : (d : ℕ) (e : Core) → Acts set S d (code_of e) (eval d e)
  node_acts zero e = acts_none set S (code_of e)
  node_acts (suc d) e =
      subst (λ x. Acts set S (suc d) x (eval (suc d) e)) (sym (opened e)) (node_layer d (eval d) (node_acts d) e.span e.ty (out-Kind e.kind) (eval d e) (subst (λ x. Acts set S d x (eval d e)) (opened e) (node_acts d e)))
