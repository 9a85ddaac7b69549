-- A frame more, and the last frame.
use Rattle.std.proofs.Common.{◌≡◌, ℕ, zero, suc, ◌+◌, ◌-◌, List, [], ◌∷◌, ◌++◌, length, Some, refl, ap, sym, arith}
use Rattle.std.specs.List.{slice_get}
use Rattle.std.proofs.lemmas.Option.{slice_get_within}
use Rattle.class_file.specs.declared.class.VType.{VType}
use Rattle.class_file.specs.declared.class.Frame.{Frame}
use Rattle.class_file.specs.Fronts.{common_front, fronts_behind, last_locals}

pub one_more : (before : List VType) (fs : List Frame) (f : Frame) → fronts_behind before (fs ++ f ∷ []) ≡ fronts_behind before fs ++ common_front (last_locals before fs) f.locals ∷ []
one_more before [] f = refl
one_more before (g ∷ fs) f = ap (λ (ns : List ℕ). common_front before g.locals ∷ ns) (one_more g.locals fs f)

stands_last : (before : List VType) (fs : List Frame) (n : ℕ) (f : Frame) → slice_get fs n ≡ Some f → n + 1 ≡ length fs → last_locals before fs ≡ f.locals
stands_last before [] n f e is = absurd cc
stands_last before (g ∷ []) zero f e is = cc
stands_last before (g ∷ []) (suc n) f e is = absurd (omega (arith, is))
stands_last before (g ∷ h ∷ fs) zero f e is = absurd (omega (arith, is))
stands_last before (g ∷ h ∷ fs) (suc n) f e is = stands_last g.locals (h ∷ fs) n f e (omega (arith, is))

pub last_is : (before : List VType) (fs : List Frame) (f : Frame) → Some f ≡ slice_get fs (length fs - 1) → last_locals before fs ≡ f.locals
last_is before fs f e = stands_last before fs (length fs - 1) f (sym e) (omega (arith, slice_get_within fs (length fs - 1) f (sym e)))
