-- Code that does not go on at its end is not empty, and neither is a whole method's.
use Rattle.std.proofs.Common.{◌≡◌, ◌≢◌, ℕ, ◌+◌, ◌<◌, List, [], ◌∷◌, ◌++◌, map, Some, None, Bool, true, false, true≢false, refl, sym, ap, ◌∙◌, subst, arith}
use Rattle.std.specs.Prelude.{not, ◌&&◌, ◌||◌, if◌then◌else◌}
use Rattle.kc_core.specs.declared.tree.TypeTree.{TypeTree}
use Rattle.kc_core.specs.declared.tree.UnaryOp.TheVariants as unary
use Rattle.kc_core.specs.declared.tree.Native.TheVariants as native_kind
use Rattle.kc_core.specs.declared.tree.Core.{Core}
use Rattle.kc_core.specs.declared.tree.Kind.{Kind}
use Rattle.kc_core.specs.declared.tree.Kind.TheOpen.{Kind-F, Core-F}
use Rattle.kc_core.specs.declared.tree.Kind.TheViews.{roll-Kind}
use Rattle.kc_core.specs.declared.tree.Kind.TheFolds.{map-Kind, fold_out-Core, fold-roll-Kind, ind-Core}
use Rattle.kc_core.specs.RoomLaws.{layer_twice}
use Rattle.class_file.specs.declared.instr.Instr.{Instr}
use Rattle.class_file.specs.Pools.{Slots}
use Rattle.stack_code.specs.declared.constants.Helper.TheVariants as helper
use Rattle.stack_code.specs.Code.{Operation, Call, Leave, Spells, bytes, Emitted, to_text, discards, kept, kept_bytes, two_bytes, either_bytes, condition_size, body_size, plain, testing, Several, followed, further_texts, texts, values, in_turn, whole, kind_code, core_code, code_of, body_code}
use Rattle.stack_code.proofs.Lists.{bytes_append}
use Rattle.stack_code.proofs.Nodes.{Coded, code_of_kind, sized}

pub record Filled (x : Emitted) : Type 0 where
  pub value : x.goes_on ≡ false → 0 < x.size
  pub test : (w : Bool) → x.goes_on ≡ false → 0 < x.test_size w
  pub always : x.always ≡ true → x.goes_on ≡ true

-- nothing is true of what is true and false
both_ways : {A : Type 0} {b : Bool} → b ≡ true → b ≡ false → A
both_ways t f = absurd (true≢false (sym t ∙ f))

plain_filled : (ty : TypeTree) (size nodes : ℕ) (goes : Bool) (code : List Operation) → (goes ≡ false → 0 < size) → Filled (plain ty size nodes goes code)
plain_filled ty size nodes goes code h = record {
  value = h;
  test = λ w stops. let s = h stops in omega (arith, s);
  always = λ is. both_ways is refl;
}

testing_filled : (ty : TypeTree) (nodes : ℕ) (goes : Bool) (test_size : Bool → ℕ) (test : Bool → ℕ → List Operation) → ((w : Bool) → goes ≡ false → 0 < test_size w) → Filled (testing ty nodes goes test_size test)
testing_filled ty nodes goes test_size test h = record {
  value = λ stops. let s = h false stops in omega (arith, s);
  test = h;
  always = λ is. both_ways is refl;
}

-- a part, and what stands behind it where it goes on
joined_filled : (a b : Bool) (size more : ℕ) → (a ≡ false → 0 < size) → (b ≡ false → 0 < more) → (a && b) ≡ false → 0 < size + kept_bytes a more
joined_filled true b size more h g stops = let m = g stops in omega (arith, m)
joined_filled false b size more h g stops = let s = h refl in omega (arith, s)

-- a part, whatever stands behind it
front_filled : (a : Bool) (size more : ℕ) → (a ≡ false → 0 < size) → a ≡ false → 0 < size + kept_bytes a more
front_filled a size more h stops = let s = h stops in omega (arith, s)

two_filled : (a b : Emitted) (n : ℕ) → Filled a → Filled b → (a.goes_on && b.goes_on) ≡ false → 0 < two_bytes a b n
two_filled a b n fa fb = joined_filled a.goes_on b.goes_on a.size (b.size + kept_bytes b.goes_on n) fa.value (λ stops. front_filled b.goes_on b.size n fb.value stops)

abbrev pub AllFilled : Several → Type 0
AllFilled s = s.goes_on ≡ false → 0 < s.size

followed_filled : (e : Emitted) (between : List Operation) (more : Several) → Filled e → AllFilled more → AllFilled (followed e between more)
followed_filled e between more fe h = joined_filled e.goes_on more.goes_on e.size (bytes between + more.size) fe.value (λ stops. let m = h stops in omega (arith, m))

module _ (B : Type 0) (f : B → Emitted) (filled : (b : B) → Filled (f b)) where
  further_filled : (es : List B) → AllFilled (further_texts (map f es))
  further_filled [] = λ stops. both_ways refl stops
  further_filled (e ∷ es) = followed_filled (f e) (to_text (f e).ty ++ Call helper.TextsConcat ∷ []) (further_texts (map f es)) (filled e) (further_filled es)

  texts_filled : (es : List B) → AllFilled (texts (map f es))
  texts_filled [] = λ stops. both_ways refl stops
  texts_filled (e ∷ es) = followed_filled (f e) (to_text (f e).ty) (further_texts (map f es)) (filled e) (further_filled es)

  values_filled : (es : List B) → AllFilled (values (map f es))
  values_filled [] = λ stops. both_ways refl stops
  values_filled (e ∷ es) = followed_filled (f e) [] (values (map f es)) (filled e) (values_filled es)

  turns_filled : (es : List B) → AllFilled (in_turn (map f es))
  turns_filled [] = λ stops. both_ways refl stops
  turns_filled (e ∷ []) = followed_filled (f e) [] (record { size = 0; nodes = 0; goes_on = true; code = [] }) (filled e) (λ stops. both_ways refl stops)
  turns_filled (e ∷ d ∷ es) = followed_filled (f e) (discards (f e).ty) (in_turn (map f (d ∷ es))) (filled e) (turns_filled (d ∷ es))

whole_filled : (s : Several) (tail : List Operation) (ty : TypeTree) → AllFilled s → Filled (whole s tail ty)
whole_filled s tail ty h = plain_filled ty _ _ s.goes_on _ (λ stops. front_filled s.goes_on s.size (bytes tail) h stops)

-- what a condition that does not go on is
stopping : (c : Emitted) → Filled c → c.goes_on ≡ false → 0 < condition_size c
stopping c fc stops = by c.always refl
  where
    by : (t : Bool) → c.always ≡ t → 0 < (if t then 0 else c.test_size false)
    by true is = both_ways (fc.always is) stops
    by false is = fc.test false stops

if_filled : (c a : Emitted) → Filled c → Filled a → (if c.always then a.goes_on else c.goes_on) ≡ false → 0 < condition_size c + kept_bytes c.goes_on a.size
if_filled c a fc fa = by c.always c.goes_on refl refl
  where
    by : (t g : Bool) → c.always ≡ t → c.goes_on ≡ g → (if t then a.goes_on else g) ≡ false → 0 < condition_size c + kept_bytes g a.size
    by true true is on stops = let s = fa.value stops in omega (arith, s)
    by true false is on stops = both_ways (fc.always is) on
    by false true is on stops = both_ways refl stops
    by false false is on stops = let s = stopping c fc on in omega (arith, s)

either_filled : (c a b : Emitted) → Filled c → Filled a → Filled b → (if c.always then a.goes_on else c.goes_on && (a.goes_on || b.goes_on)) ≡ false → 0 < (if c.always then a.size else either_bytes c a b)
either_filled c a b fc fa fb = by c.always c.goes_on a.goes_on refl refl
  where
    by : (t g h : Bool) → c.goes_on ≡ g → a.goes_on ≡ h → (if t then h else g && (h || b.goes_on)) ≡ false → 0 < (if t then a.size else c.test_size false + kept_bytes g (a.size + kept_bytes h 3 + b.size))
    by true g h on go stops = fa.value (go ∙ stops)
    by false true true on go stops = both_ways refl stops
    by false true false on go stops = let s = fa.value go in omega (arith, s)
    by false false h on go stops = let s = fc.test false on in omega (arith, s)

while_filled : (c a : Emitted) → Filled c → Filled a → (c.goes_on && not c.always) ≡ false → 0 < condition_size c + kept_bytes c.goes_on (body_size a)
while_filled c a fc fa = by c.always c.goes_on a.goes_on refl refl refl
  where
    by : (t g h : Bool) → c.always ≡ t → c.goes_on ≡ g → a.goes_on ≡ h → (g && not t) ≡ false → 0 < condition_size c + kept_bytes g (a.size + kept_bytes h (bytes (discards a.ty) + 3))
    by t false h is on go stops = let s = stopping c fc on in omega (arith, s)
    by true true true is on go stops = omega arith
    by true true false is on go stops = let s = fa.value go in omega (arith, s)
    by false true h is on go stops = both_ways refl stops

layer_filled : (A B : Type 0) (g : A → Coded) (f : B → Emitted) → ((b : B) → Filled (f b)) → (y : Kind-F A B) (ty : TypeTree) → Filled (kind_code (map-Kind A B Coded Emitted g f y) ty)
layer_filled A B g f h (Kind-F.IntLit n) ty = plain_filled ty _ _ true _ (λ stops. both_ways refl stops)
layer_filled A B g f h (Kind-F.StrLit t) ty = plain_filled ty _ _ true _ (λ stops. both_ways refl stops)
layer_filled A B g f h (Kind-F.BoolLit b) ty = record { value = λ stops. both_ways refl stops; test = λ w stops. both_ways refl stops; always = λ is. refl }
layer_filled A B g f h (Kind-F.LocalRead x) ty = plain_filled ty _ _ true _ (λ stops. both_ways refl stops)
layer_filled A B g f h (Kind-F.LocalWrite x e) ty = plain_filled ty _ _ _ _ (λ stops. front_filled (f e).goes_on (f e).size _ (h e).value stops)
layer_filled A B g f h (Kind-F.Declare x None) ty = plain_filled ty _ _ true _ (λ stops. both_ways refl stops)
layer_filled A B g f h (Kind-F.Declare x (Some e)) ty = plain_filled ty _ _ _ _ (λ stops. front_filled (f e).goes_on (f e).size _ (h e).value stops)
layer_filled A B g f h (Kind-F.NumBinary op a b) ty = plain_filled ty _ _ _ _ (two_filled (f a) (f b) 1 (h a) (h b))
layer_filled A B g f h (Kind-F.NumUnary unary.Minus a) ty = plain_filled ty _ _ _ _ (λ stops. front_filled (f a).goes_on (f a).size _ (h a).value stops)
layer_filled A B g f h (Kind-F.NumCompare order a b) ty = testing_filled ty _ _ _ _ (λ w. two_filled (f a) (f b) 3 (h a) (h b))
layer_filled A B g f h (Kind-F.Equal a b) ty = testing_filled ty _ _ _ _ (λ w. two_filled (f a) (f b) 3 (h a) (h b))
layer_filled A B g f h (Kind-F.Not a) ty = testing_filled ty _ _ _ _ (λ w. (h a).test (not w))
layer_filled A B g f h (Kind-F.And a b) ty = testing_filled ty _ _ _ _ (λ w stops. front_filled (f a).goes_on ((f a).test_size false) _ ((h a).test false) stops)
layer_filled A B g f h (Kind-F.Or a b) ty = testing_filled ty _ _ _ _ (λ w stops. front_filled (f a).goes_on ((f a).test_size true) _ ((h a).test true) stops)
layer_filled A B g f h (Kind-F.Concat es) ty = whole_filled (texts (map f es)) [] ty (texts_filled B f h es)
layer_filled A B g f h (Kind-F.CallNative native_kind.ConsoleWrite es) ty = whole_filled (values (map f es)) (Call helper.ConsoleWrite ∷ []) ty (values_filled B f h es)
layer_filled A B g f h (Kind-F.Block es) ty = whole_filled (in_turn (map f es)) [] ty (turns_filled B f h es)
layer_filled A B g f h (Kind-F.If c a None) ty = plain_filled ty _ _ _ _ (if_filled (f c) (f a) (h c) (h a))
layer_filled A B g f h (Kind-F.If c a (Some b)) ty = plain_filled ty _ _ _ _ (either_filled (f c) (f a) (f b) (h c) (h a) (h b))
layer_filled A B g f h (Kind-F.While label c a) ty = plain_filled ty _ _ _ _ (while_filled (f c) (f a) (h c) (h a))

abbrev pub KindFilled : Kind → Type 0
KindFilled k = (ty : TypeTree) → Filled (code_of_kind k ty)

pub filled : (e : Core) → Filled (code_of e)
filled e = ind-Core KindFilled (λ e. Filled (code_of e))
    (λ x y is. subst (λ z. KindFilled (roll-Kind z)) is
    (λ ty. subst (λ (w : Coded). Filled (w ty))
    (sym (fold-roll-Kind Coded Emitted kind_code core_code (map-Kind _ _ Kind Core (λ a. a.0) (λ b. b.0) y) ∙ ap kind_code (layer_twice _ _ Kind Core Coded Emitted (λ a. a.0) (λ b. b.0) code_of_kind code_of y)))
    (layer_filled _ _ (λ a. code_of_kind a.0) (λ b. code_of b.0) (λ b. b.1) y ty)))
    (λ x y is. subst (λ (z : Core-F Kind Core). Filled (code_of (record { span = z.span; ty = z.ty; kind = z.kind }))) is
    (subst Filled (sym (fold_out-Core Coded Emitted kind_code core_code (record { span = y.span; ty = y.ty; kind = y.kind.0 }))) (y.kind.1 y.ty)))
    e

body_filled : (body : Core) → 0 < bytes (body_code body)
body_filled body = by (code_of body).goes_on refl
  where
    by : (g : Bool) → (code_of body).goes_on ≡ g → 0 < bytes ((code_of body).code ++ kept g (discards body.ty ++ Leave ∷ []))
    by true on =
        let front = bytes_append (code_of body).code (discards body.ty ++ Leave ∷ []) in
        let tail = bytes_append (discards body.ty) (Leave ∷ []) in
        omega (arith, front, tail)
    by false on =
        let front = bytes_append (code_of body).code [] in
        let size = (sized body).whole in
        let some = (filled body).value on in
        omega (arith, front, size, some)

-- instructions that spell a body's code are some
pub has_code : (pool : Slots) (code : List Instr) (body : Core) → Spells pool 0 code (body_code body) → code ≢ []
has_code pool code body spelled none = by (body_code body) (body_filled body) (subst (λ (is : List Instr). Spells pool 0 is (body_code body)) none spelled)
  where
    by : (os : List Operation) → 0 < bytes os → Spells pool 0 [] os → ⊥
    by [] some s = absurd (omega (arith, some))
    by (o ∷ os) some s = s
