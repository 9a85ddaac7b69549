-- Where the object that a constructor has still to make stands among the local variables of a frame, and reading types behind others.
use Rattle.std.proofs.Common.{◌≡◌, ℕ, zero, suc, ◌≤◌, ◌<◌, Bool, true, false, cond, List, [], ◌∷◌, ◌++◌, length, take, refl, sym, ap, ◌∙◌, arith, Ok, Err}
use Rattle.std.specs.Prelude.{◌||◌, ◌&&◌, ◌==◌, not, nat_lt}
use Rattle.std.specs.List.{list_any}
use Rattle.std.proofs.Math.Dec.{eqb-suc-suc, eqb-zero-suc}
use Rattle.std.proofs.lemmas.Bool.Decides.{nat_tests}
use Rattle.class_file.specs.declared.class.VType.{VType}
use Rattle.class_file.specs.declared.format_fault.FormatFault.{FormatFault}
use Rattle.class_file.specs.ClassBytes.{is_unset}
use Rattle.class_file.specs.Inputs.{◌>>=◌, Reading, read}
use Rattle.kc_text.specs.declared.errors.Fail.{Fail}
use Rattle.kc_text.specs.declared.errors.Fail.TheVariants as fail
use Rattle.class_reader.specs.Locals.{set_before}
use Rattle.class_reader.specs.Reads.{Fails}
use Rattle.class_reader.proofs.Loops.{with_front}

less_zero : (n : ℕ) → nat_lt zero (suc n) ≡ true
less_zero n = grind (arith, nat_tests)

less_suc : (n m : ℕ) → nat_lt (suc n) (suc m) ≡ nat_lt n m
less_suc n m = grind (arith, nat_tests)

-- it is there exactly where fewer than all stand before it
pub any_unset : (ts : List VType) → nat_lt (set_before ts) (length ts) ≡ list_any is_unset ts
any_unset [] = refl
any_unset (t ∷ ts) = by (is_unset t) (any_unset ts)
  where
    by : (b : Bool) → nat_lt (set_before ts) (length ts) ≡ list_any is_unset ts → nat_lt (cond b zero (suc (set_before ts))) (suc (length ts)) ≡ b || list_any is_unset ts
    by true ih = less_zero (length ts)
    by false ih = less_suc (set_before ts) (length ts) ∙ ih

suc_cond : (b : Bool) (n m : ℕ) → suc (cond b n m) ≡ cond b (suc n) (suc m)
suc_cond true n m = refl
suc_cond false n m = refl

-- one more behind the others
pushed : (ts : List VType) (t : VType) → set_before (ts ++ t ∷ []) ≡ cond ((set_before ts == length ts) && not (is_unset t)) (length (ts ++ t ∷ [])) (set_before ts)
pushed [] t = by (is_unset t)
  where
    by : (b : Bool) → cond b zero (suc zero) ≡ cond (not b) (suc zero) zero
    by true = refl
    by false = refl
pushed (u ∷ ts) t = by (is_unset u) (pushed ts t)
  where
    by : (b : Bool) → set_before (ts ++ t ∷ []) ≡ cond ((set_before ts == length ts) && not (is_unset t)) (length (ts ++ t ∷ [])) (set_before ts)
        → cond b zero (suc (set_before (ts ++ t ∷ []))) ≡ cond ((cond b zero (suc (set_before ts)) == suc (length ts)) && not (is_unset t)) (suc (length (ts ++ t ∷ []))) (cond b zero (suc (set_before ts)))
    by true ih = sym (ap (λ (b : Bool). cond (b && not (is_unset t)) (suc (length (ts ++ t ∷ []))) zero) (eqb-zero-suc (length ts)))
    by false ih =
        ap suc ih
        ∙ suc_cond ((set_before ts == length ts) && not (is_unset t)) (length (ts ++ t ∷ [])) (set_before ts)
        ∙ ap (λ (b : Bool). cond (b && not (is_unset t)) (suc (length (ts ++ t ∷ []))) (suc (set_before ts))) (sym (eqb-suc-suc (set_before ts) (length ts)))

pub grew : (ts new : List VType) (t : VType) (set len after : ℕ) → set ≡ set_before ts → len ≡ length ts → new ≡ ts ++ t ∷ [] → after ≡ length new → ((set == len) && not (is_unset t)) ≡ true → after ≡ set_before new
grew ts new t set len after s e is a h =
    a ∙ ap length is ∙ sym (ap set_before is ∙ pushed ts t ∙ ap (λ (b : Bool). cond b (length (ts ++ t ∷ [])) (set_before ts)) same)
  where
    same : ((set_before ts == length ts) && not (is_unset t)) ≡ true
    same = sym (ap (λ (n : ℕ). (n == length ts) && not (is_unset t)) s) ∙ sym (ap (λ (n : ℕ). (set == n) && not (is_unset t)) e) ∙ h

pub stayed : (ts new : List VType) (t : VType) (set len : ℕ) → set ≡ set_before ts → len ≡ length ts → new ≡ ts ++ t ∷ [] → ((set == len) && not (is_unset t)) ≡ false → set ≡ set_before new
stayed ts new t set len s e is h =
    s ∙ sym (ap set_before is ∙ pushed ts t ∙ ap (λ (b : Bool). cond b (length (ts ++ t ∷ [])) (set_before ts)) same)
  where
    same : ((set_before ts == length ts) && not (is_unset t)) ≡ false
    same = sym (ap (λ (n : ℕ). (n == length ts) && not (is_unset t)) s) ∙ sym (ap (λ (n : ℕ). (set == n) && not (is_unset t)) e) ∙ h

-- some of the first ones
taken_all : (n : ℕ) (ts : List VType) → length (take n ts) < set_before ts → set_before (take n ts) ≡ length (take n ts)
taken_all zero [] lt = refl
taken_all zero (t ∷ ts) lt = refl
taken_all (suc n) [] lt = refl
taken_all (suc n) (t ∷ ts) lt = by (is_unset t) lt (λ (k : length (take n ts) < set_before ts). taken_all n ts k)
  where
    by : (b : Bool) → suc (length (take n ts)) < cond b zero (suc (set_before ts)) → (length (take n ts) < set_before ts → set_before (take n ts) ≡ length (take n ts)) → cond b zero (suc (set_before (take n ts))) ≡ suc (length (take n ts))
    by true lt ih = absurd (omega (arith, lt))
    by false lt ih = ap suc (ih (omega (arith, lt)))

taken_some : (n : ℕ) (ts : List VType) → set_before ts ≤ length (take n ts) → set_before (take n ts) ≡ set_before ts
taken_some zero [] le = refl
taken_some zero (t ∷ ts) le = by (is_unset t) le
  where
    by : (b : Bool) → cond b zero (suc (set_before ts)) ≤ zero → zero ≡ cond b zero (suc (set_before ts))
    by true le = refl
    by false le = absurd (omega (arith, le))
taken_some (suc n) [] le = refl
taken_some (suc n) (t ∷ ts) le = by (is_unset t) le (λ (k : set_before ts ≤ length (take n ts)). taken_some n ts k)
  where
    by : (b : Bool) → cond b zero (suc (set_before ts)) ≤ suc (length (take n ts)) → (set_before ts ≤ length (take n ts) → set_before (take n ts) ≡ set_before ts) → cond b zero (suc (set_before (take n ts))) ≡ cond b zero (suc (set_before ts))
    by true le ih = refl
    by false le ih = ap suc (ih (omega (arith, le)))

pub shrank : (n : ℕ) (ts new : List VType) (set len : ℕ) → new ≡ take n ts → len ≡ length new → set ≡ set_before ts → len < set → len ≡ set_before new
shrank n ts new set len is e s lt = e ∙ ap length is ∙ sym (ap set_before is ∙ taken_all n ts (omega (arith, lt, e, s, ap length is)))

pub kept_set : (n : ℕ) (ts new : List VType) (set len : ℕ) → new ≡ take n ts → len ≡ length new → set ≡ set_before ts → set ≤ len → set ≡ set_before new
kept_set n ts new set len is e s le = s ∙ sym (ap set_before is ∙ taken_some n ts (omega (arith, le, e, s, ap length is)))

-- ---- types behind others

pub fails_behind : (e : Fail FormatFault) (old : List VType) (r : Reading (List VType)) → Fails e (with_front old r) → Fails e r
fails_behind fail.Memory old r h = tt
fails_behind (fail.Found f) old (Ok x) h = absurd cc
fails_behind (fail.Found f) old (Err g) h = h

pub nothing_before : (r : Reading (List VType)) → with_front [] r ≡ r
nothing_before (Ok x) = refl
nothing_before (Err g) = refl

-- what is made of the old ones and those that are read
pub made : {A : Type 0} (f : List VType → A) (old : List VType) (r : Reading (List VType)) → (r >>= λ x. read (f (old ++ x.value)) x.rest) ≡ (with_front old r >>= λ x. read (f x.value) x.rest)
made f old (Ok x) = refl
made f old (Err g) = refl
