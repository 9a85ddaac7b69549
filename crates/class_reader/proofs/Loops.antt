-- Things of one kind, read one after the other as a loop does.
use Rattle.std.proofs.Common.{◌≡◌, ℕ, suc, ◌-◌, ◌+◌, ◌≤◌, ◌<◌, List, [], ◌∷◌, ◌++◌, Ok, Err, refl, sym, ap, ◌∙◌, append_assoc, arith}
use Rattle.std.proofs.lemmas.List.{append-nil}
use Rattle.class_file.specs.declared.format_fault.FormatFault.{FormatFault}
use Rattle.kc_text.specs.declared.errors.Fail.{Fail}
use Rattle.kc_text.specs.declared.errors.Fail.TheVariants as fail
use Rattle.class_file.specs.Inputs.{◌>>=◌, Input, Reading, read, each}
use Rattle.class_reader.specs.Reads.{Fails}

-- what was read before, and what is still read
abbrev pub with_front : {A : Type 0} → List A → Reading (List A) → Reading (List A)
with_front front r = r >>= λ x. read (front ++ x.value) x.rest

pub regroup : {A : Type 0} (front : List A) (x : A) (r : Reading (List A)) → with_front front (r >>= λ o. read (x ∷ o.value) o.rest) ≡ with_front (front ++ x ∷ []) r
regroup front x (Ok o) = ap (λ (ys : List _). read ys o.rest) (simp append_assoc)
regroup front x (Err f) = refl

pub goes_on : {A : Type 0} (one : Input → Reading A) (front : List A) (count i : ℕ) (input after : Input) (x : A) (total : Reading (List A)) → i < count → one input ≡ read x after
    → with_front front (each one (count - i) input) ≡ total → with_front (front ++ x ∷ []) (each one (count - (i + 1)) after) ≡ total
unfolding each
goes_on one front count i input after x total lt h so_far =
    let k : count - i ≡ suc (count - (i + 1)) = omega arith in
    let step : with_front front (each one (count - i) input) ≡ with_front (front ++ x ∷ []) (each one (count - (i + 1)) after) = rw (k, h) (regroup front x (each one (count - (i + 1)) after)) in
    sym step ∙ so_far

pub ends : {A : Type 0} (one : Input → Reading A) (e : Fail FormatFault) (front : List A) (count i : ℕ) (input : Input) (total : Reading (List A)) → i < count → Fails e (one input)
    → with_front front (each one (count - i) input) ≡ total → Fails e total
unfolding each
ends one fail.Memory front count i input total lt h so_far = tt
ends one (fail.Found f) front count i input total lt h so_far =
    let k : count - i ≡ suc (count - (i + 1)) = omega arith in
    let step : with_front front (each one (count - i) input) ≡ Err f = rw (k, h) refl in
    sym so_far ∙ step

pub is_done : {A : Type 0} (one : Input → Reading A) (front : List A) (count i : ℕ) (input : Input) (total : Reading (List A)) → count ≤ i
    → with_front front (each one (count - i) input) ≡ total → total ≡ read front input
unfolding each
is_done one front count i input total le so_far =
    let k : count - i ≡ 0 = omega arith in
    let step : with_front front (each one (count - i) input) ≡ read front input = rw k (ap (λ (xs : List _). read xs input) (append-nil front)) in
    sym so_far ∙ step
