-- Entries of two indexes, from one index and the other.
use Rattle.std.proofs.Common.{◌≡◌, ℕ, ◌<◌, ◌≤◌, Bool, true, false, cond, eqb, List, [], ◌∷◌, ◌++◌, Result, Ok, Err, refl, sym, ap, ◌∙◌, subst, append_assoc}
use Rattle.std.proofs.lemmas.List.{append-nil}
use Rattle.std.specs.Int.{w16}
use Rattle.class_file.specs.declared.format_fault.FormatFault.{FormatFault}
use Rattle.class_file.specs.declared.pool.Entry.{Entry}
use Rattle.class_file.specs.declared.pool.Entry.TheVariants as entry
use Rattle.kc_text.specs.declared.errors.Fail.{Fail}
use Rattle.kc_text.specs.declared.errors.Fail.TheVariants as fail
use Rattle.std.proofs.lemmas.Bool.{eqb-true, lt-ltb, le-ltb}
use Rattle.class_file.specs.declared.format_fault.FormatCode.TheVariants.{OutOfProfile, BadPool}
use Rattle.class_file.specs.Inputs.{Input, Read, Reading, read, fault, number_at}
use Rattle.class_file.specs.PoolFaults.{Use, use_of, one_index, second_index, two_indexes, Piece, piece, long_at, tagged_at}
use Rattle.class_reader.specs.declared.input.Input as kept_input
use Rattle.class_reader.specs.declared.uses.Wanted as kept_wanted
use Rattle.class_reader.specs.declared.uses.Use as kept_use
use Rattle.class_reader.specs.Reads.{input_of, Reads}
use Rattle.class_reader.specs.Pools.{wanted_of, uses_of, IsPieceBy, IsPiece, IsIndex, AreIndexes}

abbrev uses : Type 0
uses = List kept_use.Use

pub err_first : (e : Fail FormatFault) (old new : uses) (w o : kept_wanted.Wanted) (i : Input) → IsIndex (Err e) old new w i → AreIndexes (Err e) old new w o i
err_first fail.Memory old new w o i h = λ make. tt
err_first (fail.Found f) old new w o i h = λ make. by make (number_at w16 i) (h entry.Class)
  where
    by : (make : ℕ → ℕ → Entry) (r : Reading ℕ) → IsPieceBy entry.Class (Err (fail.Found f)) old new (one_index (wanted_of w) entry.Class i r)
        → IsPieceBy (λ (x : ℕ × ℕ). make x.0 x.1) (Err (fail.Found f)) old new (two_indexes (wanted_of w) (wanted_of o) make i r)
    by make (Err g) h = h
    by make (Ok n) h = absurd (cc (h.0))

-- what the first index read
abbrev one_read : ℕ → kept_input.Input → Reading ℕ
one_read n rest = read n (input_of rest)

abbrev entry_read : Entry → Input → Read Entry
entry_read e rest = record { value = e; rest = rest }

abbrev number_read : ℕ → Input → Reading ℕ
number_read n rest = read n rest

first_is : (n : ℕ) (rest : kept_input.Input) (old mid : uses) (w : kept_wanted.Wanted) (i : Input) → IsIndex (Ok (n, rest)) old mid w i
    → (number_at w16 i ≡ one_read n rest) × (uses_of mid ≡ uses_of old ++ use_of i n (wanted_of w) ∷ [])
first_is n rest old mid w i h = by (number_at w16 i) (h entry.Class)
  where
    by : (r : Reading ℕ) → IsPieceBy entry.Class (Ok (n, rest)) old mid (one_index (wanted_of w) entry.Class i r) → (r ≡ one_read n rest) × (uses_of mid ≡ uses_of old ++ use_of i n (wanted_of w) ∷ [])
    by (Err g) h = absurd (cc (h.0))
    by (Ok m) h =
        let same : entry_read (entry.Class m.value) m.rest ≡ entry_read (entry.Class n) (input_of rest) = cc (h.0) in
        let class : entry.Class m.value ≡ entry.Class n = ap (λ (x : Read Entry). x.value) same in
        let value : m.value ≡ n = cc in
        let behind : m.rest ≡ input_of rest = ap (λ (x : Read Entry). x.rest) same in
        (ap (λ (k : ℕ). number_read k m.rest) value ∙ ap (number_read n) behind, h.1 ∙ ap (λ (k : ℕ). uses_of old ++ use_of i k (wanted_of w) ∷ []) value)

pub err_second : (e : Fail FormatFault) (n : ℕ) (rest : kept_input.Input) (old mid new : uses) (w o : kept_wanted.Wanted) (i : Input) → IsIndex (Ok (n, rest)) old mid w i → IsIndex (Err e) mid new o (input_of rest) → AreIndexes (Err e) old new w o i
err_second fail.Memory n rest old mid new w o i h k = λ make. tt
err_second (fail.Found f) n rest old mid new w o i h k = λ make. subst (λ (r : Reading ℕ). IsPieceBy (λ (x : ℕ × ℕ). make x.0 x.1) (Err (fail.Found f)) old new (two_indexes (wanted_of w) (wanted_of o) make i r)) (sym first.0) (by make (number_at w16 (input_of rest)) (k entry.Class))
  where
    first : (number_at w16 i ≡ one_read n rest) × (uses_of mid ≡ uses_of old ++ use_of i n (wanted_of w) ∷ [])
    first = first_is n rest old mid w i h

    by : (make : ℕ → ℕ → Entry) (r : Reading ℕ) → IsPieceBy entry.Class (Err (fail.Found f)) mid new (one_index (wanted_of o) entry.Class (input_of rest) r)
        → IsPieceBy (λ (x : ℕ × ℕ). make x.0 x.1) (Err (fail.Found f)) old new (second_index (use_of i n (wanted_of w)) (wanted_of o) (make n) (input_of rest) r)
    by make (Err g) h = (h.0, h.1 ∙ append-nil (uses_of mid) ∙ first.1)
    by make (Ok m) h = absurd (cc (h.0))

pub ok_both : (n m : ℕ) (rest behind : kept_input.Input) (old mid new : uses) (w o : kept_wanted.Wanted) (i : Input) → IsIndex (Ok (n, rest)) old mid w i → IsIndex (Ok (m, behind)) mid new o (input_of rest) → AreIndexes (Ok ((n, m), behind)) old new w o i
ok_both n m rest behind old mid new w o i h k = λ make.
    subst (λ (r : Reading ℕ). IsPieceBy (λ (x : ℕ × ℕ). make x.0 x.1) (Ok ((n, m), behind)) old new (two_indexes (wanted_of w) (wanted_of o) make i r)) (sym first.0)
    (subst (λ (r : Reading ℕ). IsPieceBy (λ (x : ℕ × ℕ). make x.0 x.1) (Ok ((n, m), behind)) old new (second_index (use_of i n (wanted_of w)) (wanted_of o) (make n) (input_of rest) r)) (sym second.0)
    (refl, second.1 ∙ ap (λ (us : List Use). us ++ use_of (input_of rest) m (wanted_of o) ∷ []) first.1 ∙ append_assoc (uses_of old) (use_of i n (wanted_of w) ∷ []) (use_of (input_of rest) m (wanted_of o) ∷ [])))
  where
    first : (number_at w16 i ≡ one_read n rest) × (uses_of mid ≡ uses_of old ++ use_of i n (wanted_of w) ∷ [])
    first = first_is n rest old mid w i h

    second : (number_at w16 (input_of rest) ≡ one_read m behind) × (uses_of new ≡ uses_of mid ++ use_of (input_of rest) m (wanted_of o) ∷ [])
    second = first_is m behind mid new o (input_of rest) k

-- ---- by the tag

pub plain : (r : Result (Entry × kept_input.Input) (Fail FormatFault)) (old : uses) (e : Reading Entry) → Reads (λ (x : Entry). x) r e → IsPiece r old old (piece [] e)
plain (Ok x) old e h = (h, sym (append-nil (uses_of old)))
plain (Err (fail.Found f)) old e h = (h, sym (append-nil (uses_of old)))
plain (Err fail.Memory) old e h = tt

pub failed : {X : Type 0} (make : X → Entry) (e : Fail FormatFault) (old new : uses) (p : Piece) → IsPieceBy make (Err e) old new p → IsPiece (Err e) old new p
failed make (fail.Found f) old new p h = h
failed make fail.Memory old new p h = tt

differ : (n m : ℕ) → (n ≡ m → ⊥) → eqb n m ≡ false
differ n m h = by (eqb n m) refl
  where
    by : (b : Bool) → eqb n m ≡ b → b ≡ false
    by true e = absurd (h (eqb-true n m e))
    by false e = refl

skip : {b : Bool} (x y : Piece) → b ≡ false → cond b x y ≡ y
skip x y e = ap (λ (b : Bool). cond b x y) e

pub other_tag : (left at tag : ℕ) (i : Input) → (tag ≡ 1 → ⊥) → (tag ≡ 3 → ⊥) → (tag ≡ 5 → ⊥) → (tag ≡ 7 → ⊥) → (tag ≡ 8 → ⊥) → (tag ≡ 9 → ⊥) → (tag ≡ 10 → ⊥) → (tag ≡ 11 → ⊥) → (tag ≡ 12 → ⊥) → tagged_at left at tag i ≡ piece [] (fault OutOfProfile at)
unfolding tagged_at
other_tag left at tag i n1 n3 n5 n7 n8 n9 n10 n11 n12 =
    skip _ _ (differ tag 1 n1) ∙ skip _ _ (differ tag 3 n3) ∙ skip _ _ (differ tag 5 n5) ∙ skip _ _ (differ tag 7 n7) ∙ skip _ _ (differ tag 8 n8) ∙ skip _ _ (differ tag 9 n9) ∙ skip _ _ (differ tag 10 n10) ∙ skip _ _ (differ tag 11 n11) ∙ skip _ _ (differ tag 12 n12)

abbrev too_far : ℕ → Result (Entry × kept_input.Input) (Fail FormatFault)
too_far at = Err (fail.Found (record { at = at; code = BadPool }))

pub short : (left at tag : ℕ) (i : Input) (old : uses) → tag ≡ 5 → left < 2 → IsPiece (too_far at) old old (tagged_at left at tag i)
unfolding tagged_at
short left at tag i old e lt =
    rw e (subst (λ (p : Piece). IsPiece (too_far at) old old p) (sym (ap (λ (b : Bool). cond b (piece [] (fault BadPool at)) (piece [] (long_at i))) (lt-ltb left 2 lt))) (refl, sym (append-nil (uses_of old))))

pub long_read : (left at tag : ℕ) (i : Input) (r : Result (Entry × kept_input.Input) (Fail FormatFault)) (old : uses) → tag ≡ 5 → 2 ≤ left → Reads (λ (x : Entry). x) r (long_at i) → IsPiece r old old (tagged_at left at tag i)
unfolding tagged_at
long_read left at tag i r old e le h =
    rw e (subst (λ (p : Piece). IsPiece r old old p) (sym (ap (λ (b : Bool). cond b (piece [] (fault BadPool at)) (piece [] (long_at i))) (le-ltb left 2 le))) (plain r old (long_at i) h))

abbrev left_out : ℕ → Result (Entry × kept_input.Input) (Fail FormatFault)
left_out at = Err (fail.Found (record { at = at; code = OutOfProfile }))

pub other_read : (left at tag : ℕ) (i : Input) (old : uses) → (tag ≡ 1 → ⊥) → (tag ≡ 3 → ⊥) → (tag ≡ 5 → ⊥) → (tag ≡ 7 → ⊥) → (tag ≡ 8 → ⊥) → (tag ≡ 9 → ⊥) → (tag ≡ 10 → ⊥) → (tag ≡ 11 → ⊥) → (tag ≡ 12 → ⊥) → IsPiece (left_out at) old old (tagged_at left at tag i)
other_read left at tag i old n1 n3 n5 n7 n8 n9 n10 n11 n12 =
    subst (λ (p : Piece). IsPiece (left_out at) old old p) (sym (other_tag left at tag i n1 n3 n5 n7 n8 n9 n10 n11 n12)) (refl, sym (append-nil (uses_of old)))
