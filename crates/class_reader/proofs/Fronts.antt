-- How many locals a frame has in common with those before it, as its form shows.
use Rattle.std.proofs.Common.{◌≡◌, ℕ, zero, suc, ◌+◌, Bool, cond, List, [], ◌∷◌, ◌++◌, length, take, Ok, Err, refl, sym, ap, ◌∙◌, add-one}
use Rattle.class_file.specs.declared.class.VType.{VType}
use Rattle.class_file.specs.declared.class.Frame.{Frame}
use Rattle.class_file.specs.Fronts.{common_front, last_locals}
use Rattle.class_file.specs.Inputs.{Input, Reading, read}
use Rattle.class_spelling.proofs.WritesFrames.{type_is_itself}
use Rattle.class_reader.proofs.Loops.{with_front}

-- the same type before both
one_before : (t : VType) (ts us : List VType) (n : ℕ) → common_front ts us ≡ n → common_front (t ∷ ts) (t ∷ us) ≡ suc n
one_before t ts us n e = ap (λ (b : Bool). cond b (common_front ts us + 1) 0) (type_is_itself t) ∙ ap (λ (k : ℕ). k + 1) e ∙ add-one n

pub front_of_same : (ts : List VType) → common_front ts ts ≡ length ts
front_of_same [] = refl
front_of_same (t ∷ ts) = one_before t ts ts (length ts) (front_of_same ts)

pub front_of_first : (n : ℕ) (ts : List VType) → common_front ts (take n ts) ≡ length (take n ts)
front_of_first zero [] = refl
front_of_first zero (t ∷ ts) = refl
front_of_first (suc n) [] = refl
front_of_first (suc n) (t ∷ ts) = one_before t ts (take n ts) (length (take n ts)) (front_of_first n ts)

front_of_more : (ts more : List VType) → common_front ts (ts ++ more) ≡ length ts
front_of_more [] more = refl
front_of_more (t ∷ ts) more = one_before t ts (ts ++ more) (length ts) (front_of_more ts more)

abbrev types_of : Reading (List VType) → List VType
types_of (Ok x) = x.value
types_of (Err f) = []

-- types that were read behind others
pub front_of_read : (old new : List VType) (given : Reading (List VType)) (rest : Input) → with_front old given ≡ read new rest → common_front old new ≡ length old
front_of_read old new (Ok x) rest e = ap (common_front old) (sym (ap types_of e)) ∙ front_of_more old x.value
front_of_read old new (Err f) rest e = absurd cc

-- ---- the last frame

pub last_pushed : (before : List VType) (fs : List Frame) (f : Frame) → last_locals before (fs ++ f ∷ []) ≡ f.locals
last_pushed before [] f = refl
last_pushed before (g ∷ fs) f = last_pushed g.locals fs f

pub none_is_first : (fs : List Frame) → length fs ≡ 0 → last_locals [] fs ≡ []
none_is_first [] e = refl
none_is_first (f ∷ fs) e = absurd cc

pub some_is_last : (start : List VType) (fs : List Frame) → (length fs ≡ 0 → ⊥) → last_locals start fs ≡ last_locals [] fs
some_is_last start [] some = absurd (some refl)
some_is_last start (f ∷ fs) some = refl
