-- Code takes no more bytes than its node's room, and so no more than its function weighs.
use Rattle.std.proofs.Common.{ℕ, ◌+◌, ◌≤◌, List, [], ◌∷◌, ◌++◌, map, Some, None, Bool, true, false, sym, ap, ◌∙◌, subst, arith}
use Rattle.std.specs.Prelude.{ℤ, pos, negsuc, not, nat_lt, int_le, ◌&&◌, if◌then◌else◌}
use Rattle.kc_core.specs.declared.tree.TypeTree.{TypeTree}
use Rattle.kc_core.specs.declared.tree.TypeTree.TheVariants as type_is
use Rattle.kc_core.specs.declared.tree.UnaryOp.TheVariants as unary
use Rattle.kc_core.specs.declared.tree.Native.TheVariants as native_kind
use Rattle.kc_core.specs.declared.tree.Function.{Function}
use Rattle.kc_core.specs.declared.tree.Core.{Core}
use Rattle.kc_core.specs.declared.tree.Kind.{Kind}
use Rattle.kc_core.specs.declared.tree.Kind.TheOpen.{Kind-F, Core-F}
use Rattle.kc_core.specs.declared.tree.Kind.TheViews.{roll-Kind}
use Rattle.kc_core.specs.declared.tree.Kind.TheFolds.{map-Kind, fold_out-Core, fold-roll-Kind, ind-Core}
use Rattle.kc_core.specs.Room.{Room, room_of_each, kind_room, core_room, room_of, function_room, function_weight}
use Rattle.kc_core.specs.RoomLaws.{layer_twice, room_of_kind, within}
use Rattle.stack_code.specs.declared.constants.Helper.TheVariants as helper
use Rattle.stack_code.specs.Code.{Operation, Negate, Call, Leave, bytes, int_bytes, local_bytes, Emitted, loads, stores, to_text, discards, kept, kept_bytes, two_bytes, either_bytes, condition_size, body_size, plain, testing, further_texts, texts, values, in_turn, kind_code, core_code, code_of, body_code}
use Rattle.stack_code.proofs.Lists.{bytes_append}
use Rattle.stack_code.proofs.Runs.{kept_size}
use Rattle.stack_code.proofs.Nodes.{Coded, code_of_kind, sized}

pub record Fits (x : Emitted) (r : Room) : Type 0 where
  pub value : x.size ≤ r.value
  pub branch : (w : Bool) → x.test_size w ≤ r.branch

pub kept_few : (g : Bool) (n : ℕ) → kept_bytes g n ≤ n
kept_few true n = omega arith
kept_few false n = omega arith

int_few : (z : ℤ) → int_bytes z ≤ 3
int_few z = by (int_le (negsuc 0) z && int_le z (pos 5)) (int_le (negsuc 127) z && int_le z (pos 127))
  where
    by : (a b : Bool) → (if a then 1 else (if b then 2 else 3)) ≤ 3
    by true b = omega arith
    by false true = omega arith
    by false false = omega arith

local_few : (x : ℕ) → local_bytes x ≤ 4
local_few x = by (nat_lt x 256)
  where
    by : (a : Bool) → (if a then 2 else 4) ≤ 4
    by true = omega arith
    by false = omega arith

loads_few : (ty : TypeTree) (x : ℕ) → bytes (loads ty x) ≤ 4
loads_few type_is.Int x = let l = local_few x in omega (arith, l)
loads_few type_is.Boolean x = let l = local_few x in omega (arith, l)
loads_few type_is.String x = let l = local_few x in omega (arith, l)
loads_few type_is.Unit x = omega arith

stores_few : (ty : TypeTree) (x : ℕ) → bytes (stores ty x) ≤ 4
stores_few type_is.Int x = let l = local_few x in omega (arith, l)
stores_few type_is.Boolean x = let l = local_few x in omega (arith, l)
stores_few type_is.String x = let l = local_few x in omega (arith, l)
stores_few type_is.Unit x = omega arith

pub discards_few : (ty : TypeTree) → bytes (discards ty) ≤ 1
discards_few type_is.Int = omega arith
discards_few type_is.Boolean = omega arith
discards_few type_is.String = omega arith
discards_few type_is.Unit = omega arith

text_few : (ty : TypeTree) → bytes (to_text ty) ≤ 3
text_few type_is.Int = omega arith
text_few type_is.Boolean = omega arith
text_few type_is.String = omega arith
text_few type_is.Unit = omega arith

joined_few : (ty : TypeTree) → bytes (to_text ty ++ Call helper.TextsConcat ∷ []) ≤ 6
joined_few type_is.Int = omega arith
joined_few type_is.Boolean = omega arith
joined_few type_is.String = omega arith
joined_few type_is.Unit = omega arith

plain_fits : (ty : TypeTree) (size nodes : ℕ) (goes : Bool) (code : List Operation) (n : ℕ) → size ≤ n → Fits (plain ty size nodes goes code) (record { value = n; branch = n + 8 })
plain_fits ty size nodes goes code n h = let k = kept_few goes 3 in record { value = h; branch = λ w. omega (arith, h, k) }

testing_fits : (ty : TypeTree) (nodes : ℕ) (goes : Bool) (test_size : Bool → ℕ) (test : Bool → ℕ → List Operation) (n : ℕ) → ((w : Bool) → test_size w ≤ n) → Fits (testing ty nodes goes test_size test) (record { value = n + 5; branch = n })
testing_fits ty nodes goes test_size test n h = let k = kept_few goes 5 in let f = h false in record { value = omega (arith, f, k); branch = h }

two_few : (a b : Emitted) (r s : Room) (n : ℕ) → Fits a r → Fits b s → two_bytes a b n ≤ r.value + s.value + n
two_few a b r s n fa fb =
    let k = kept_few b.goes_on n in
    let l = kept_few a.goes_on (b.size + kept_bytes b.goes_on n) in
    let u = fa.value in
    let v = fb.value in
    omega (arith, k, l, u, v)

short_few : (d : Bool) (a b : Emitted) (r s : Room) → Fits a r → Fits b s → (w : Bool) → a.test_size d + kept_bytes a.goes_on (b.test_size w) ≤ r.branch + s.branch
short_few d a b r s fa fb w =
    let k = kept_few a.goes_on (b.test_size w) in
    let u = fa.branch d in
    let v = fb.branch w in
    omega (arith, k, u, v)

pub condition_few : (c : Emitted) (r : Room) → Fits c r → condition_size c ≤ r.branch
condition_few c r f = by c.always (f.branch false)
  where
    by : (t : Bool) → c.test_size false ≤ r.branch → (if t then 0 else c.test_size false) ≤ r.branch
    by true h = omega arith
    by false h = h

then_few : (a : Emitted) (r : Room) (tail : List Operation) (n : ℕ) → Fits a r → bytes tail ≤ n → a.size + kept_bytes a.goes_on (bytes tail) ≤ r.value + n
then_few a r tail n f h = let k = kept_few a.goes_on (bytes tail) in let u = f.value in omega (arith, k, u, h)

module _ (B : Type 0) (f : B → Emitted) (r : B → Room) (fits : (b : B) → Fits (f b) (r b)) where
  further_few : (es : List B) → (further_texts (map f es)).size ≤ room_of_each 6 (map r es)
  further_few [] = omega arith
  further_few (e ∷ es) =
      let rest = further_few es in
      let j = joined_few (f e).ty in
      let k = kept_few (f e).goes_on (bytes (to_text (f e).ty ++ Call helper.TextsConcat ∷ []) + (further_texts (map f es)).size) in
      let u = (fits e).value in
      omega (arith, rest, j, k, u)

  texts_few : (es : List B) → (texts (map f es)).size ≤ 3 + room_of_each 6 (map r es)
  texts_few [] = omega arith
  texts_few (e ∷ es) =
      let rest = further_few es in
      let j = text_few (f e).ty in
      let k = kept_few (f e).goes_on (bytes (to_text (f e).ty) + (further_texts (map f es)).size) in
      let u = (fits e).value in
      omega (arith, rest, j, k, u)

  values_few : (es : List B) → (values (map f es)).size ≤ room_of_each 0 (map r es)
  values_few [] = omega arith
  values_few (e ∷ es) =
      let rest = values_few es in
      let k = kept_few (f e).goes_on (0 + (values (map f es)).size) in
      let u = (fits e).value in
      omega (arith, rest, k, u)

  turn_few : (es : List B) → (in_turn (map f es)).size ≤ room_of_each 1 (map r es)
  turn_few [] = omega arith
  turn_few (e ∷ []) =
      let k = kept_few (f e).goes_on 0 in
      let u = (fits e).value in
      omega (arith, k, u)
  turn_few (e ∷ d ∷ es) =
      let rest = turn_few (d ∷ es) in
      let j = discards_few (f e).ty in
      let k = kept_few (f e).goes_on (bytes (discards (f e).ty) + (in_turn (map f (d ∷ es))).size) in
      let u = (fits e).value in
      omega (arith, rest, j, k, u)

if_few : (c a : Emitted) (r s : Room) → Fits c r → Fits a s → condition_size c + kept_bytes c.goes_on a.size ≤ r.branch + s.value
if_few c a r s fc fa =
    let k = kept_few c.goes_on a.size in
    let u = condition_few c r fc in
    let v = fa.value in
    omega (arith, k, u, v)

either_few : (c a b : Emitted) (r s t : Room) → Fits c r → Fits a s → Fits b t → either_bytes c a b ≤ r.branch + s.value + 5 + t.value
either_few c a b r s t fc fa fb =
    let j = kept_few a.goes_on 3 in
    let k = kept_few c.goes_on (a.size + kept_bytes a.goes_on 3 + b.size) in
    let u = fc.branch false in
    let v = fa.value in
    let w = fb.value in
    omega (arith, j, k, u, v, w)

if_else_few : (c a b : Emitted) (r s t : Room) → Fits c r → Fits a s → Fits b t → (if c.always then a.size else either_bytes c a b) ≤ r.branch + s.value + 5 + t.value
if_else_few c a b r s t fc fa fb = by c.always
  where
    by : (x : Bool) → (if x then a.size else either_bytes c a b) ≤ r.branch + s.value + 5 + t.value
    by true = let v = fa.value in omega (arith, v)
    by false = either_few c a b r s t fc fa fb

while_few : (c a : Emitted) (r s : Room) → Fits c r → Fits a s → condition_size c + kept_bytes c.goes_on (body_size a) ≤ r.branch + s.value + 1 + 5
while_few c a r s fc fa =
    let i = discards_few a.ty in
    let j = kept_few a.goes_on (bytes (discards a.ty) + 3) in
    let k = kept_few c.goes_on (body_size a) in
    let u = condition_few c r fc in
    let v = fa.value in
    omega (arith, i, j, k, u, v)

layer_fits : (A B : Type 0) (g : A → Coded) (p : A → Room) (f : B → Emitted) (r : B → Room) → ((b : B) → Fits (f b) (r b)) → (y : Kind-F A B) (ty : TypeTree) → Fits (kind_code (map-Kind A B Coded Emitted g f y) ty) (kind_room (map-Kind A B Room Room p r y))
layer_fits A B g p f r h (Kind-F.IntLit n) ty = let i = int_few n in plain_fits ty _ _ _ _ 3 (omega (arith, i))
layer_fits A B g p f r h (Kind-F.StrLit t) ty = plain_fits ty _ _ _ _ 3 (omega arith)
layer_fits A B g p f r h (Kind-F.BoolLit true) ty = record { value = omega arith; branch = λ w. omega arith }
layer_fits A B g p f r h (Kind-F.BoolLit false) ty = record { value = omega arith; branch = λ w. omega arith }
layer_fits A B g p f r h (Kind-F.LocalRead x) ty = plain_fits ty _ _ _ _ 4 (loads_few ty x)
layer_fits A B g p f r h (Kind-F.LocalWrite x e) ty = plain_fits ty _ _ _ _ ((r e).value + 4) (then_few (f e) (r e) (stores (f e).ty x) 4 (h e) (stores_few (f e).ty x))
layer_fits A B g p f r h (Kind-F.Declare x None) ty = plain_fits ty _ _ _ _ 0 (omega arith)
layer_fits A B g p f r h (Kind-F.Declare x (Some e)) ty = plain_fits ty _ _ _ _ ((r e).value + 4) (then_few (f e) (r e) (stores (f e).ty x) 4 (h e) (stores_few (f e).ty x))
layer_fits A B g p f r h (Kind-F.NumBinary op a b) ty = plain_fits ty _ _ _ _ ((r a).value + (r b).value + 1) (two_few (f a) (f b) (r a) (r b) 1 (h a) (h b))
layer_fits A B g p f r h (Kind-F.NumUnary unary.Minus a) ty = plain_fits ty _ _ _ _ ((r a).value + 1) (then_few (f a) (r a) (Negate ∷ []) 1 (h a) (omega arith))
layer_fits A B g p f r h (Kind-F.NumCompare order a b) ty = testing_fits ty _ _ _ _ ((r a).value + (r b).value + 8) (λ w. let s = two_few (f a) (f b) (r a) (r b) 3 (h a) (h b) in omega (arith, s))
layer_fits A B g p f r h (Kind-F.Equal a b) ty = testing_fits ty _ _ _ _ ((r a).value + (r b).value + 8) (λ w. let s = two_few (f a) (f b) (r a) (r b) 3 (h a) (h b) in omega (arith, s))
layer_fits A B g p f r h (Kind-F.Not a) ty = testing_fits ty _ _ _ _ (r a).branch (λ w. (h a).branch (not w))
layer_fits A B g p f r h (Kind-F.And a b) ty = testing_fits ty _ _ _ _ ((r a).branch + (r b).branch) (short_few false (f a) (f b) (r a) (r b) (h a) (h b))
layer_fits A B g p f r h (Kind-F.Or a b) ty = testing_fits ty _ _ _ _ ((r a).branch + (r b).branch) (short_few true (f a) (f b) (r a) (r b) (h a) (h b))
layer_fits A B g p f r h (Kind-F.Concat es) ty = plain_fits ty _ _ _ _ (3 + room_of_each 6 (map r es)) (let s = texts_few B f r h es in let k = kept_few (texts (map f es)).goes_on 0 in omega (arith, s, k))
layer_fits A B g p f r h (Kind-F.CallNative native_kind.ConsoleWrite es) ty = plain_fits ty _ _ _ _ (3 + room_of_each 0 (map r es)) (let s = values_few B f r h es in let k = kept_few (values (map f es)).goes_on 3 in omega (arith, s, k))
layer_fits A B g p f r h (Kind-F.Block es) ty = plain_fits ty _ _ _ _ (room_of_each 1 (map r es)) (let s = turn_few B f r h es in let k = kept_few (in_turn (map f es)).goes_on 0 in omega (arith, s, k))
layer_fits A B g p f r h (Kind-F.If c a None) ty = plain_fits ty _ _ _ _ ((r c).branch + (r a).value) (if_few (f c) (f a) (r c) (r a) (h c) (h a))
layer_fits A B g p f r h (Kind-F.If c a (Some b)) ty = plain_fits ty _ _ _ _ ((r c).branch + (r a).value + 5 + (r b).value) (if_else_few (f c) (f a) (f b) (r c) (r a) (r b) (h c) (h a) (h b))
layer_fits A B g p f r h (Kind-F.While label c a) ty = plain_fits ty _ _ _ _ ((r c).branch + (r a).value + 1 + 5) (while_few (f c) (f a) (r c) (r a) (h c) (h a))

abbrev pub KindFits : Kind → Type 0
KindFits k = (ty : TypeTree) → Fits (code_of_kind k ty) (room_of_kind k)

pub fits : (e : Core) → Fits (code_of e) (room_of e)
fits e = ind-Core KindFits (λ e. Fits (code_of e) (room_of e))
    (λ x y is. subst (λ z. KindFits (roll-Kind z)) is
    (λ ty. subst (λ (w : Coded). Fits (w ty) (room_of_kind (roll-Kind (map-Kind _ _ Kind Core (λ a. a.0) (λ b. b.0) y))))
    (sym (fold-roll-Kind Coded Emitted kind_code core_code (map-Kind _ _ Kind Core (λ a. a.0) (λ b. b.0) y) ∙ ap kind_code (layer_twice _ _ Kind Core Coded Emitted (λ a. a.0) (λ b. b.0) code_of_kind code_of y)))
    (subst (λ (r : Room). Fits (kind_code (map-Kind _ _ Coded Emitted (λ a. code_of_kind a.0) (λ b. code_of b.0) y) ty) r)
    (sym (fold-roll-Kind Room Room kind_room core_room (map-Kind _ _ Kind Core (λ a. a.0) (λ b. b.0) y) ∙ ap kind_room (layer_twice _ _ Kind Core Room Room (λ a. a.0) (λ b. b.0) room_of_kind room_of y)))
    (layer_fits _ _ (λ a. code_of_kind a.0) (λ a. room_of_kind a.0) (λ b. code_of b.0) (λ b. room_of b.0) (λ b. b.1) y ty))))
    (λ x y is. subst (λ (z : Core-F Kind Core). Fits (code_of (record { span = z.span; ty = z.ty; kind = z.kind })) (room_of (record { span = z.span; ty = z.ty; kind = z.kind }))) is
    (subst (λ (w : Emitted). Fits w (room_of (record { span = y.span; ty = y.ty; kind = y.kind.0 }))) (sym (fold_out-Core Coded Emitted kind_code core_code (record { span = y.span; ty = y.ty; kind = y.kind.0 })))
    (subst (λ (r : Room). Fits (code_of_kind y.kind.0 y.ty) r) (sym (fold_out-Core Room Room kind_room core_room (record { span = y.span; ty = y.ty; kind = y.kind.0 }))) (y.kind.1 y.ty))))
    e

-- a function's code takes no more bytes than its room, and than it weighs
pub body_fits : (f : Function) → (bytes (body_code f.body) ≤ function_room f) × (bytes (body_code f.body) ≤ function_weight f)
body_fits f =
    let x = code_of f.body in
    let split = bytes_append x.code (kept x.goes_on (discards f.body.ty ++ Leave ∷ [])) in
    let tail = bytes_append (discards f.body.ty) (Leave ∷ []) in
    let k = kept_size x.goes_on (discards f.body.ty ++ Leave ∷ []) in
    let few = kept_few x.goes_on (bytes (discards f.body.ty ++ Leave ∷ [])) in
    let one = discards_few f.body.ty in
    let whole = (sized f.body).whole in
    let room = (fits f.body).value in
    let weight = within f in
    (omega (arith, split, tail, k, few, one, whole, room), omega (arith, split, tail, k, few, one, whole, room, weight))
