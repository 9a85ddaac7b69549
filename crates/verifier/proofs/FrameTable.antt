-- The table of given frames.
use Rattle.std.proofs.Common.{◌≡◌, ℕ, zero, suc, ◌+◌, ◌-◌, ◌<◌, ◌≤◌, Bool, true, false, cond, eqb, List, [], ◌∷◌, length, drop, get_or, Option, Some, None, refl, sym, ap, ◌∙◌, add-one, arith, length-drop}
use Rattle.std.specs.Prelude.{slice_set, slice_get}
use Rattle.std.proofs.Math.ListN.{replicate}
use Rattle.std.proofs.Math.Seq.{drop-cons}
use Rattle.std.proofs.lemmas.Bool.{eqb-true, eqb-false}
use Rattle.std.proofs.lemmas.Option.{slice_get-get_or}
use Rattle.std.proofs.lemmas.List.{length-replicate, get_or-replicate, length-set, nil_from_length, get_or-set_same, get_or-set_other}
use Rattle.class_file.specs.declared.class.Frame.{Frame}
use Rattle.verifier.specs.Flags.{frame_for, frame_number, or_number, is_free, placed, PlacesFrames, HasFrames}

abbrev Table : Type 0
Table = List (Option ℕ)

pub get_any : {X : Type 0} (xs : List X) (i : ℕ) (a b : X) → i < length xs → get_or xs i a ≡ get_or xs i b
get_any [] i a b h = absurd (omega arith)
get_any (x ∷ xs) zero a b h = refl
get_any (x ∷ xs) (suc i) a b h = get_any xs i a b (omega arith)

or_none : (o : Option ℕ) → or_number o None ≡ o
or_none (Some n) = refl
or_none None = refl

or_assoc : (a b c : Option ℕ) → or_number (or_number a b) c ≡ or_number a (or_number b c)
or_assoc (Some n) b c = refl
or_assoc None b c = refl

placed_length : (table : Table) (at n : ℕ) → length (placed table at n) ≡ length table
placed_length table at n = by (is_free (slice_get table at))
  where
    by : (b : Bool) → length (cond b (slice_set table at (Some n)) table) ≡ length table
    by true = length-set table at (Some n)
    by false = refl

-- what stands at a place once a number is put somewhere
placed_at : (table : Table) (at n pc : ℕ) → pc < length table → get_or (placed table at n) pc None ≡ or_number (get_or table pc None) (cond (eqb at pc) (Some n) None)
placed_at table at n pc h = by (eqb at pc) refl
  where
    here : (o : Option ℕ) → get_or table pc None ≡ o → get_or (cond (is_free (Some o)) (slice_set table pc (Some n)) table) pc None ≡ or_number o (Some n)
    here None e = get_or-set_same table pc (Some n) None h
    here (Some k) e = e

    free_here : is_free (slice_get table pc) ≡ is_free (Some (get_or table pc None))
    free_here = ap is_free (slice_get-get_or table pc None h)

    elsewhere : (b : Bool) → eqb at pc ≡ false → get_or (cond b (slice_set table at (Some n)) table) pc None ≡ get_or table pc None
    elsewhere true k = get_or-set_other table at pc (Some n) None (λ e. eqb-false at pc k (sym e))
    elsewhere false k = refl

    by : (b : Bool) → eqb at pc ≡ b → get_or (placed table at n) pc None ≡ or_number (get_or table pc None) (cond b (Some n) None)
    by true k =
        ap (λ (j : ℕ). get_or (placed table j n) pc None) (eqb-true at pc k)
        ∙ ap (λ (b : Bool). get_or (cond b (slice_set table pc (Some n)) table) pc None) free_here ∙ here (get_or table pc None) refl
    by false k = elsewhere (is_free (slice_get table at)) k ∙ sym (or_none (get_or table pc None))

pub blank_frames : (count : ℕ) (table : Table) (frames : List Frame) → table ≡ replicate count None → PlacesFrames table frames 0 frames
blank_frames count table frames e = record {
  holds = λ pc h.
      let none : Option ℕ = None in
      let within : pc < count = omega (arith, ap length e, length-replicate count none) in
      ap (λ (o : Option ℕ). or_number o (frame_number 0 frames pc)) (ap (λ (t : Table). get_or t pc None) e ∙ get_or-replicate count pc None None within);
}

cut_frames : (fs : List Frame) (k : ℕ) (f : Frame) → f ≡ get_or fs k f → k < length fs → drop k fs ≡ f ∷ drop (k + 1) fs
cut_frames fs k f is lt = drop-cons fs k f lt ∙ ap (λ (g : Frame). g ∷ drop (suc k) fs) (sym is) ∙ ap (λ (n : ℕ). f ∷ drop n fs) (sym (add-one k))

pub one_frame : (table new : Table) (fs : List Frame) (k : ℕ) (f : Frame) → f ≡ get_or fs k f → new ≡ placed table f.at k → k < length fs → PlacesFrames table fs k (drop k fs) → PlacesFrames new fs (k + 1) (drop (k + 1) fs)
one_frame table new fs k f is e lt p = record {
  holds = λ pc h.
      let rest = frame_number (k + 1) (drop (k + 1) fs) pc in
      let within : pc < length table = omega (arith, ap length e, placed_length table f.at k) in
      ap (λ (o : Option ℕ). or_number o rest) (ap (λ (t : Table). get_or t pc None) e ∙ placed_at table f.at k pc within)
      ∙ or_assoc (get_or table pc None) (cond (eqb f.at pc) (Some k) None) rest
      ∙ ap (or_number (get_or table pc None)) (joined (eqb f.at pc) rest)
      ∙ ap (λ (r : List Frame). or_number (get_or table pc None) (frame_number k r pc)) (sym (cut_frames fs k f is lt)) ∙ p.holds pc within;
}
  where
    joined : (b : Bool) (rest : Option ℕ) → or_number (cond b (Some k) None) rest ≡ cond b (Some k) rest
    joined true rest = refl
    joined false rest = refl

pub all_frames : (table : Table) (fs : List Frame) (k : ℕ) → length fs ≤ k → PlacesFrames table fs k (drop k fs) → HasFrames table fs
all_frames table fs k le p = record {
  holds = λ pc h.
      let empty : drop k fs ≡ [] = nil_from_length (drop k fs) (omega (arith, length-drop k fs)) in
      sym (or_none (get_or table pc None)) ∙ ap (λ (r : List Frame). or_number (get_or table pc None) (frame_number k r pc)) (sym empty) ∙ p.holds pc h;
}

-- ---- frames by their numbers

some_none : (n : ℕ) → (let o : Option ℕ = Some n in o) ≡ None → ⊥
some_none n e = cc

none_some : (n : ℕ) → (let o : Option ℕ = None in o) ≡ Some n → ⊥
none_some n e = cc

same_number : (m n : ℕ) → (let o : Option ℕ = Some m in o) ≡ Some n → m ≡ n
same_number m n e = cc

pub no_frame : (k : ℕ) (fs : List Frame) (pc : ℕ) → frame_number k fs pc ≡ None → frame_for fs pc ≡ None
no_frame k [] pc e = refl
no_frame k (f ∷ fs) pc e = by (no_frame (k + 1) fs pc) (eqb f.at pc) e
  where
    by : (frame_number (k + 1) fs pc ≡ None → frame_for fs pc ≡ None) → (b : Bool) → cond b (Some k) (frame_number (k + 1) fs pc) ≡ None → cond b (Some f) (frame_for fs pc) ≡ None
    by more true h = absurd (some_none k h)
    by more false h = more h

pub record Numbered (k n : ℕ) (fs : List Frame) (pc : ℕ) : Type 0 where
  pub above : k ≤ n
  pub is : slice_get fs (n - k) ≡ frame_for fs pc

pub a_frame : (k : ℕ) (fs : List Frame) (pc n : ℕ) → frame_number k fs pc ≡ Some n → Numbered k n fs pc
a_frame k [] pc n e = absurd (none_some n e)
a_frame k (f ∷ fs) pc n e = by (a_frame (k + 1) fs pc n) (eqb f.at pc) refl e
  where
    by : (frame_number (k + 1) fs pc ≡ Some n → Numbered (k + 1) n fs pc) → (b : Bool) → eqb f.at pc ≡ b → cond b (Some k) (frame_number (k + 1) fs pc) ≡ Some n → Numbered k n (f ∷ fs) pc
    by more true e h =
        let same = same_number k n h in
        let first : n - k ≡ 0 = omega arith in
        record { above = omega arith; is = ap (slice_get (f ∷ fs)) first ∙ sym (ap (λ (b : Bool). cond b (Some f) (frame_for fs pc)) e) }
    by more false e h =
        let m = more h in
        let above = m.above in
        let next : n - k ≡ suc (n - (k + 1)) = omega arith in
        record { above = omega arith; is = ap (slice_get (f ∷ fs)) next ∙ m.is ∙ sym (ap (λ (b : Bool). cond b (Some f) (frame_for fs pc)) e) }
