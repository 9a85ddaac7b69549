-- A well-formed tree breaks no rule of its meaning: by the depth of evaluation, with assigned locals holding values of their types.
use Rattle.std.proofs.Common.{◌≡◌, ◌≢◌, ℕ, zero, suc, ◌<◌, List, [], ◌∷◌, ◌++◌, length, map, Option, Some, None, Bool, true, false, cond, refl, sym, ap, ◌∙◌, subst, arith}
use Rattle.std.specs.Prelude.{nat_eq, slice_get, slice_set, ℤ, not}
use Rattle.std.proofs.lemmas.Bool.{eqb-true, eq-eqb}
use Rattle.std.proofs.lemmas.List.{length-replicate}
use Rattle.kc_core.specs.declared.tree.Span.{Span}
use Rattle.kc_core.specs.declared.tree.TypeTree.{TypeTree}
use Rattle.kc_core.specs.declared.tree.TypeTree.TheVariants as type_is
use Rattle.kc_core.specs.declared.tree.UnaryOp.TheVariants as unary
use Rattle.kc_core.specs.declared.tree.Native.{Native}
use Rattle.kc_core.specs.declared.tree.Native.TheVariants as native_is
use Rattle.kc_core.specs.declared.tree.Local.{Local}
use Rattle.kc_core.specs.declared.tree.Core.{Core}
use Rattle.kc_core.specs.declared.tree.Kind.{Kind, out-Kind}
use Rattle.kc_core.specs.declared.tree.Kind.TheOpen.{Kind-F}
use Rattle.kc_core.specs.Runs.{Over}
use Rattle.kc_core.specs.Values.{Value, Int, Boolean, Text, UnitValue, has_type, arithmetic, text_of}
use Rattle.kc_core.specs.Meaning.{State, Completion, Gives, Throws, Stops, Breaks, then_do, enter, if_typed, checked, read, set_local, number_or_zero_divisor, on_int, on_boolean, either, two_ints, truth_of, tested, in_order, joined, operands, native, rule, eval, Broken, outcome_of, unset, start_of}
use Rattle.kc_core.specs.Formed.{Assigned, none_assigned, marked, type_of, last_type, Among, parameters_of, result_of, Formed, FormedAll}
use Rattle.kc_core.specs.Lists.{get_same, get_other, set_length, there, within}
use Rattle.kc_core.specs.Theorems.{NeverBroken}

abbrev pub IsOf : TypeTree → Value → Type 0
IsOf ty v = has_type v ty ≡ true

-- the content of a local that is assigned
abbrev pub Holds : TypeTree → Option (Option Value) → Type 0
Holds ty w = (v : Value) × (w ≡ Some (Some v)) × IsOf ty v

abbrev pub AllOf : List TypeTree → List Value → Type 0
AllOf [] [] = Unit {0}
AllOf [] (v ∷ vs) = ⊥
AllOf (ty ∷ tys) [] = ⊥
AllOf (ty ∷ tys) (v ∷ vs) = IsOf ty v × AllOf tys vs

module _ (locals : List Local) where
  -- there is a place for each local, and those of a hold values of their types
  pub record Fits (a : Assigned) (contents : List (Option Value)) : Type 0 where
    pub long : length contents ≡ length locals
    pub holds : (x : ℕ) (l : Local) → slice_get locals x ≡ Some l → a x ≡ true → Holds l.ty (slice_get contents x)

  -- no break; and a value is one of Q, with the locals of b assigned
  abbrev pub Sound : Assigned → (Value → Type 0) → Completion → Type 0
  Sound b Q (Gives v s) = Fits b s.locals × Q v
  Sound b Q (Throws x s) = Unit {0}
  Sound b Q (Stops s) = Unit {0}
  Sound b Q (Breaks at s) = ⊥

  pub sound_then : (b c : Assigned) (Q R : Value → Type 0) (r : Completion) (go : Value → State → Completion) → Sound b Q r →
      ((v : Value) (s : State) → Fits b s.locals → Q v → Sound c R (go v s)) → Sound c R (then_do r go)
  sound_then b c Q R (Gives v s) go h f = f v s h.0 h.1
  sound_then b c Q R (Throws x s) go h f = tt
  sound_then b c Q R (Stops s) go h f = tt
  sound_then b c Q R (Breaks at s) go h f = absurd h

  fits_among : (a b : Assigned) (contents : List (Option Value)) → Among a b → Fits b contents → Fits a contents
  fits_among a b contents among fit = record { long = fit.long; holds = λ x l at on. fit.holds x l at (among x on) }

  sound_among : (a b : Assigned) (Q : Value → Type 0) (r : Completion) → Among a b → Sound b Q r → Sound a Q r
  sound_among a b Q (Gives v s) among h = (fits_among a b s.locals among h.0, h.1)
  sound_among a b Q (Throws x s) among h = tt
  sound_among a b Q (Stops s) among h = tt
  sound_among a b Q (Breaks at s) among h = absurd h

  sound_checked : (c : Assigned) (at : Span) (ty : TypeTree) (v : Value) (s : State) → Fits c s.locals → IsOf ty v → Sound c (IsOf ty) (checked at ty v s)
  sound_checked c at ty v s fit h = subst (λ w. Sound c (IsOf ty) (if_typed w at v s)) (sym h) (fit, h)

  sound_read : (a : Assigned) (at : Span) (ty : TypeTree) (w : Option (Option Value)) (s : State) → Fits a s.locals → Holds ty w → Sound a (IsOf ty) (read at w s)
  sound_read a at ty w s fit h = subst (λ w. Sound a (IsOf ty) (read at w s)) (sym h.1) (fit, h.2)

  -- an assigned local gets a value of its type
  fits_set : (a : Assigned) (contents : List (Option Value)) (x : ℕ) (l : Local) (is : Bool) (content : Option Value) → Fits a contents → slice_get locals x ≡ Some l →
      (is ≡ true → Holds l.ty (Some content)) → Fits (marked x is a) (slice_set contents x content)
  fits_set a contents x l is content fit e h = record { long = set_length contents x content ∙ fit.long; holds = λ y m ey on. at y m ey (nat_eq y x) refl on }
    where
      inside : x < length contents
      inside = let k = within locals x l e in omega (arith, k, fit.long)

      at : (y : ℕ) (m : Local) → slice_get locals y ≡ Some m → (same : Bool) → nat_eq y x ≡ same → cond same is (a y) ≡ true → Holds m.ty (slice_get (slice_set contents x content) y)
      at y m ey true q on =
          let yx : y ≡ x = eqb-true y x q in
          let lm : l ≡ m = (let both : Some l ≡ Some m = sym e ∙ ap (slice_get locals) (sym yx) ∙ ey in cc) in
          subst (λ k. Holds k.ty (slice_get (slice_set contents x content) y)) lm
          (subst (Holds l.ty) (sym (ap (slice_get (slice_set contents x content)) yx ∙ get_same contents x content inside)) (h on))
      at y m ey false q on = subst (Holds m.ty) (sym (get_other contents x y content (λ yx. let t : nat_eq y x ≡ true = eq-eqb y x yx in cc))) (fit.holds y m ey on)

  sound_set : (b : Assigned) (at : Span) (x : ℕ) (l : Local) (is : Bool) (content : Option Value) (s : State) → Fits b s.locals → slice_get locals x ≡ Some l →
      (is ≡ true → Holds l.ty (Some content)) → Sound (marked x is b) (IsOf type_is.Unit) (set_local at (slice_get s.locals x) x content s)
  sound_set b at x l is content s fit e h =
      let k = within locals x l e in
      let old = there s.locals x (omega (arith, k, fit.long)) in
      subst (λ w. Sound (marked x is b) (IsOf type_is.Unit) (set_local at w x content s)) (sym old.1) (fits_set b s.locals x l is content fit e h, refl)

  sound_int : (c : Assigned) (R : Value → Type 0) (at : Span) (v : Value) (go : ℤ → State → Completion) (s : State) → IsOf type_is.Int v → ((z : ℤ) → Sound c R (go z s)) → Sound c R (on_int at v go s)
  sound_int c R at (Int z) go s is h = h z
  sound_int c R at (Boolean b) go s is h = cc
  sound_int c R at (Text t) go s is h = cc
  sound_int c R at UnitValue go s is h = cc

  sound_boolean : (c : Assigned) (R : Value → Type 0) (at : Span) (v : Value) (go : Bool → State → Completion) (s : State) → IsOf type_is.Boolean v → ((t : Bool) → Sound c R (go t s)) → Sound c R (on_boolean at v go s)
  sound_boolean c R at (Int z) go s is h = cc
  sound_boolean c R at (Boolean b) go s is h = h b
  sound_boolean c R at (Text t) go s is h = cc
  sound_boolean c R at UnitValue go s is h = cc

  sound_either : (c : Assigned) (R : Value → Type 0) (t : Bool) (held failed : State → Completion) (s : State) → Sound c R (held s) → Sound c R (failed s) → Sound c R (either t held failed s)
  sound_either c R true held failed s h k = h
  sound_either c R false held failed s h k = k

  sound_number : (c : Assigned) (w : Option ℤ) (s : State) → Fits c s.locals → Sound c (IsOf type_is.Int) (number_or_zero_divisor w s)
  sound_number c (Some z) s fit = (fit, refl)
  sound_number c None s fit = tt

  sound_native : (c : Assigned) (at : Span) (f : Native) (vs : List Value) (s : State) → Fits c s.locals → AllOf (parameters_of f) vs → Sound c (IsOf (result_of f)) (native at f vs s)
  sound_native c at native_is.ConsoleWrite [] s fit is = absurd is
  sound_native c at native_is.ConsoleWrite (Text t ∷ []) s fit is = (fit, refl)
  sound_native c at native_is.ConsoleWrite (Text t ∷ v ∷ vs) s fit is = absurd is.1
  sound_native c at native_is.ConsoleWrite (Int z ∷ vs) s fit is = let k : false ≡ true = is.0 in cc
  sound_native c at native_is.ConsoleWrite (Boolean b ∷ vs) s fit is = let k : false ≡ true = is.0 in cc
  sound_native c at native_is.ConsoleWrite (UnitValue ∷ vs) s fit is = let k : false ≡ true = is.0 in cc

  -- the meaning of nodes is sound where they are well formed
  abbrev pub SoundAt : (Core → State → Completion) → Type 0
  SoundAt ev = (e : Core) (a b : Assigned) → Formed locals e a b → (s : State) → Fits a s.locals → Sound b (IsOf e.ty) (ev e s)

  module _ (ev : Core → State → Completion) (ih : SoundAt ev) where
    sound_order : (es : List Core) (a b : Assigned) → FormedAll locals es a b → (ty : TypeTree) (v : Value) (s : State) → Fits a s.locals → IsOf ty v → Sound b (IsOf (last_type ty es)) (in_order ev es v s)
    sound_order [] a b (FormedAll.NoMore _) ty v s fit is = (fit, is)
    sound_order (e ∷ es) a c (FormedAll.Next _ _ _ b _ f fs) ty v s fit is =
        sound_then b c (IsOf e.ty) (IsOf (last_type e.ty es)) (ev e s) (in_order ev es) (ih e a b f s fit) (λ v1 s1 fit1 is1. sound_order es b c fs e.ty v1 s1 fit1 is1)

    sound_joined : (es : List Core) (a b : Assigned) → FormedAll locals es a b → (text : List ℕ) (s : State) → Fits a s.locals → Sound b (IsOf type_is.String) (joined ev es text s)
    sound_joined [] a b (FormedAll.NoMore _) text s fit = (fit, refl)
    sound_joined (e ∷ es) a c (FormedAll.Next _ _ _ b _ f fs) text s fit =
        sound_then b c (IsOf e.ty) (IsOf type_is.String) (ev e s) _ (ih e a b f s fit) (λ v s1 fit1 is. sound_joined es b c fs (text ++ text_of v) s1 fit1)

    sound_operands : (R : Value → Type 0) (es : List Core) (a b : Assigned) → FormedAll locals es a b → (go : List Value → State → Completion) (s : State) → Fits a s.locals →
        ((vs : List Value) (s1 : State) → Fits b s1.locals → AllOf (map type_of es) vs → Sound b R (go vs s1)) → Sound b R (operands ev es go s)
    sound_operands R [] a b (FormedAll.NoMore _) go s fit h = h [] s fit tt
    sound_operands R (e ∷ es) a c (FormedAll.Next _ _ _ b _ f fs) go s fit h =
        sound_then b c (IsOf e.ty) R (ev e s) _ (ih e a b f s fit)
        (λ v s1 fit1 is. sound_operands R es b c fs (λ vs. go (v ∷ vs)) s1 fit1 (λ vs s2 fit2 all. h (v ∷ vs) s2 fit2 (is, all)))

    -- the result at the node's own type and layer
    sound_as : (b : Assigned) (e : Core) (ty : TypeTree) (k : Kind-F Kind Core) (s : State) → out-Kind e.kind ≡ k → e.ty ≡ ty → Sound b (IsOf ty) (rule e.span ev (ev e) k s) → Sound b (IsOf e.ty) (rule e.span ev (ev e) (out-Kind e.kind) s)
    sound_as b e ty k s ek et h = subst (λ k. Sound b (IsOf e.ty) (rule e.span ev (ev e) k s)) (sym ek) (subst (λ t. Sound b (IsOf t) (rule e.span ev (ev e) k s)) (sym et) h)

    -- the value of a node with this type
    sound_of : (b : Assigned) (e : Core) (ty : TypeTree) (s : State) → e.ty ≡ ty → Sound b (IsOf e.ty) (ev e s) → Sound b (IsOf ty) (ev e s)
    sound_of b e ty s et h = subst (λ t. Sound b (IsOf t) (ev e s)) et h

    sound_two : (R : Value → Type 0) (at : Span) (left right : Core) (a b c : Assigned) → Formed locals left a b → Formed locals right b c → left.ty ≡ type_is.Int → right.ty ≡ type_is.Int →
        (go : ℤ → ℤ → State → Completion) → ((m n : ℤ) (s1 : State) → Fits c s1.locals → Sound c R (go m n s1)) → (s : State) → Fits a s.locals → Sound c R (two_ints at ev left right go s)
    sound_two R at left right a b c f g tl tr go h s fit =
        sound_then b c (IsOf type_is.Int) R (ev left s) _ (sound_of b left type_is.Int s tl (ih left a b f s fit))
        (λ x s1 fit1 xi. sound_then c c (IsOf type_is.Int) R (ev right s1) _ (sound_of c right type_is.Int s1 tr (ih right b c g s1 fit1))
        (λ y s2 fit2 yi. sound_int c R at x _ s2 xi (λ m. sound_int c R at y _ s2 yi (λ n. h m n s2 fit2))))

    sound_tested : (R : Value → Type 0) (at : Span) (test : Core) (a b c : Assigned) → Formed locals test a b → test.ty ≡ type_is.Boolean →
        (held failed : State → Completion) → ((s1 : State) → Fits b s1.locals → Sound c R (held s1)) → ((s1 : State) → Fits b s1.locals → Sound c R (failed s1)) → (s : State) → Fits a s.locals → Sound c R (tested at ev test held failed s)
    sound_tested R at test a b c f t held failed h k s fit =
        sound_then b c (IsOf type_is.Boolean) R (ev test s) _ (sound_of b test type_is.Boolean s t (ih test a b f s fit))
        (λ v s1 fit1 is. sound_boolean c R at v _ s1 is (λ w. sound_either c R w held failed s1 (h s1 fit1) (k s1 fit1)))

    sound_truth : (at : Span) (turn : Bool → Bool) (v : Core) (a b : Assigned) → Formed locals v a b → v.ty ≡ type_is.Boolean → (s : State) → Fits a s.locals → Sound b (IsOf type_is.Boolean) (truth_of at ev turn v s)
    sound_truth at turn v a b f t s fit =
        sound_then b b (IsOf type_is.Boolean) (IsOf type_is.Boolean) (ev v s) _ (sound_of b v type_is.Boolean s t (ih v a b f s fit))
        (λ w s1 fit1 is. sound_boolean b (IsOf type_is.Boolean) at w _ s1 is (λ u. (fit1, refl)))

    -- a turn, and then the loop once more
    sound_turn : (e body : Core) (a b c : Assigned) → Formed locals e a b → Formed locals body b c → Among a c → e.ty ≡ type_is.Unit → (s : State) → Fits b s.locals →
        Sound b (IsOf type_is.Unit) (then_do (ev body s) (λ v. ev e))
    sound_turn e body a b c loop g i t s fit =
        sound_then c b (IsOf body.ty) (IsOf type_is.Unit) (ev body s) _ (ih body b c g s fit)
        (λ v s1 fit1 is. sound_of b e type_is.Unit s1 t (ih e a b loop s1 (fits_among a c s1.locals i fit1)))

    sound_rule : (e : Core) (a b : Assigned) → Formed locals e a b → (s : State) → Fits a s.locals → Sound b (IsOf e.ty) (rule e.span ev (ev e) (out-Kind e.kind) s)
    sound_rule e a b (Formed.IntLit _ n _ k t) s fit = sound_as a e type_is.Int _ s k t (fit, refl)
    sound_rule e a b (Formed.StrLit _ u _ k t) s fit = sound_as a e type_is.String _ s k t (fit, refl)
    sound_rule e a b (Formed.BoolLit _ u _ k t) s fit = sound_as a e type_is.Boolean _ s k t (fit, refl)
    sound_rule e a b (Formed.LocalRead _ x l _ k at t on) s fit = sound_as a e l.ty _ s k t (sound_read a e.span l.ty (slice_get s.locals x) s fit (fit.holds x l at on))
    sound_rule e a c (Formed.LocalWrite _ x l v _ b k at var t tv f) s fit =
        sound_as (marked x true b) e type_is.Unit _ s k t (sound_then b (marked x true b) (IsOf l.ty) (IsOf type_is.Unit) (ev v s) _ (sound_of b v l.ty s tv (ih v a b f s fit))
        (λ w s1 fit1 is. sound_set b e.span x l true (Some w) s1 fit1 at (λ q. (w, refl, is))))
    sound_rule e a b (Formed.DeclareUnset _ x l _ k at t) s fit =
        sound_as (marked x false a) e type_is.Unit _ s k t (sound_set a e.span x l false None s fit at (λ q. cc))
    sound_rule e a c (Formed.Declare _ x l v _ b k at t tv f) s fit =
        sound_as (marked x true b) e type_is.Unit _ s k t (sound_then b (marked x true b) (IsOf l.ty) (IsOf type_is.Unit) (ev v s) _ (sound_of b v l.ty s tv (ih v a b f s fit))
        (λ w s1 fit1 is. sound_set b e.span x l true (Some w) s1 fit1 at (λ q. (w, refl, is))))
    sound_rule e a c (Formed.NumBinary _ op left right _ b _ k t tl tr f g) s fit =
        sound_as c e type_is.Int _ s k t (sound_two (IsOf type_is.Int) e.span left right a b c f g tl tr _ (λ m n s1 fit1. sound_number c (arithmetic op m n) s1 fit1) s fit)
    sound_rule e a b (Formed.NumUnary _ unary.Minus v _ _ k t tv f) s fit =
        sound_as b e type_is.Int _ s k t (sound_then b b (IsOf type_is.Int) (IsOf type_is.Int) (ev v s) _ (sound_of b v type_is.Int s tv (ih v a b f s fit))
        (λ x s1 fit1 xi. sound_int b (IsOf type_is.Int) e.span x _ s1 xi (λ m. (fit1, refl))))
    sound_rule e a c (Formed.NumCompare _ order left right _ b _ k t tl tr f g) s fit =
        sound_as c e type_is.Boolean _ s k t (sound_two (IsOf type_is.Boolean) e.span left right a b c f g tl tr _ (λ m n s1 fit1. (fit1, refl)) s fit)
    sound_rule e a c (Formed.Equal _ left right _ b _ k t tl tr f g) s fit =
        sound_as c e type_is.Boolean _ s k t (sound_two (IsOf type_is.Boolean) e.span left right a b c f g tl tr _ (λ m n s1 fit1. (fit1, refl)) s fit)
    sound_rule e a b (Formed.Not _ v _ _ k t tv f) s fit =
        sound_as b e type_is.Boolean _ s k t (sound_truth e.span not v a b f tv s fit)
    sound_rule e a m (Formed.And _ left right _ b c _ k t tl tr f g i j) s fit =
        sound_as m e type_is.Boolean _ s k t (sound_tested (IsOf type_is.Boolean) e.span left a b m f tl _ _
        (λ s1 fit1. sound_among m c (IsOf type_is.Boolean) _ j (sound_truth e.span (λ t. t) right b c g tr s1 fit1))
        (λ s1 fit1. (fits_among m b s1.locals i fit1, refl)) s fit)
    sound_rule e a m (Formed.Or _ left right _ b c _ k t tl tr f g i j) s fit =
        sound_as m e type_is.Boolean _ s k t (sound_tested (IsOf type_is.Boolean) e.span left a b m f tl _ _
        (λ s1 fit1. (fits_among m b s1.locals i fit1, refl))
        (λ s1 fit1. sound_among m c (IsOf type_is.Boolean) _ j (sound_truth e.span (λ t. t) right b c g tr s1 fit1)) s fit)
    sound_rule e a b (Formed.Concat _ parts _ _ k t fs) s fit = sound_as b e type_is.String _ s k t (sound_joined parts a b fs [] s fit)
    sound_rule e a b (Formed.CallNative _ f values _ _ k t ts fs) s fit =
        sound_as b e (result_of f) _ s k t (sound_operands (IsOf (result_of f)) values a b fs (native e.span f) s fit (λ vs s1 fit1 all. sound_native b e.span f vs s1 fit1 (subst (λ tys. AllOf tys vs) ts all)))
    sound_rule e a b (Formed.Block _ parts _ _ k t fs) s fit = sound_as b e _ _ s k t (sound_order parts a b fs type_is.Unit UnitValue s fit refl)
    sound_rule e a m (Formed.IfHeld _ test held _ b c _ k t ty th f g i j) s fit =
        sound_as m e type_is.Unit _ s k t (sound_tested (IsOf type_is.Unit) e.span test a b m f ty _ _
        (λ s1 fit1. sound_among m c (IsOf type_is.Unit) _ j (sound_of c held type_is.Unit s1 th (ih held b c g s1 fit1)))
        (λ s1 fit1. (fits_among m b s1.locals i fit1, refl)) s fit)
    sound_rule e a m (Formed.If _ test held failed _ b c d _ k ty th tf f g h i j) s fit =
        sound_as m e e.ty _ s k refl (sound_tested (IsOf e.ty) e.span test a b m f ty _ _
        (λ s1 fit1. sound_among m c (IsOf e.ty) _ i (sound_of c held e.ty s1 th (ih held b c g s1 fit1)))
        (λ s1 fit1. sound_among m d (IsOf e.ty) _ j (sound_of d failed e.ty s1 tf (ih failed b d h s1 fit1))) s fit)
    sound_rule e a b (Formed.While _ label test body _ loop _ c k t ty tb j f g i) s fit =
        sound_as b e type_is.Unit _ s k t (sound_tested (IsOf type_is.Unit) e.span test loop b b f ty _ _
        (λ s1 fit1. sound_turn e body loop b c (Formed.While e label test body loop loop b c k t ty tb (λ x on. on) f g i) g i t s1 fit1)
        (λ s1 fit1. (fit1, refl)) s (fits_among loop a s.locals j fit))

  sound_enter : (b : Assigned) (Q : Value → Type 0) (u : ℕ) (s : State) (go : State → Completion) → ((s1 : State) → s1.locals ≡ s.locals → Sound b Q (go s1)) → Sound b Q (enter u s go)
  sound_enter b Q zero s go h = tt
  sound_enter b Q (suc u) s go h = h (record s { units = u }) refl

  pub sound_eval : (d : ℕ) → SoundAt (eval d)
  sound_eval zero e a b f s fit = tt
  sound_eval (suc d) e a b f s fit = sound_enter b (IsOf e.ty) s.units s (λ s1. then_do (rule e.span (eval d) (eval d e) (out-Kind e.kind) s1) (checked e.span e.ty))
      (λ s1 same. sound_then b b (IsOf e.ty) (IsOf e.ty) (rule e.span (eval d) (eval d e) (out-Kind e.kind) s1) (checked e.span e.ty)
      (sound_rule (eval d) (sound_eval d) e a b f s1 (subst (Fits a) (sym same) fit)) (λ v s2 fit2 is. sound_checked b e.span e.ty v s2 fit2 is))

  fits_unset : (n : ℕ) → n ≡ length locals → Fits none_assigned (unset n)
  fits_unset n e = record { long = length-replicate n None ∙ e; holds = λ x l at on. cc }

  sound_outcome : (b : Assigned) (Q : Value → Type 0) (r : Completion) → Sound b Q r → (at : Span) (out : List ℕ) → outcome_of r ≢ Over (Broken at) out
  sound_outcome b Q (Gives v s) h at out e = cc
  sound_outcome b Q (Throws x s) h at out e = cc
  sound_outcome b Q (Stops s) h at out e = cc
  sound_outcome b Q (Breaks bad s) h at out e = absurd h

pub never_broken : NeverBroken
never_broken program main is input n at out e =
    sound_outcome is.0.locals is.2.after (IsOf is.0.body.ty) (eval n is.0.body start)
    (sound_eval is.0.locals n is.0.body none_assigned is.2.after is.2.body start (fits_unset is.0.locals (length is.0.locals) refl)) at out
    (ap (λ w. start_of w input n) (sym is.1) ∙ e)
  where
    start : State
    start = record { locals = unset (length is.0.locals); input = input; out = []; units = n }
