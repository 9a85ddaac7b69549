-- Things that are read in the light of those before them.
use Rattle.std.proofs.Common.{◌≡◌, ℕ, zero, suc, ◌-◌, ◌+◌, ◌≤◌, ◌<◌, Bool, true, false, cond, eqb, List, [], ◌∷◌, ◌++◌, length, refl, sym, ap, ◌∙◌, arith}
use Rattle.std.proofs.lemmas.Bool.{eqb-true}
use Rattle.std.proofs.lemmas.List.{append-nil}
use Rattle.class_file.specs.declared.class.Frame.{Frame}
use Rattle.class_file.specs.declared.instr.Instr.{Instr}
use Rattle.class_file.specs.declared.format_fault.FormatFault.{FormatFault}
use Rattle.kc_text.specs.declared.errors.Fail.{Fail}
use Rattle.kc_text.specs.declared.errors.Fail.TheVariants as fail
use Rattle.class_file.specs.Pools.{Slots}
use Rattle.class_file.specs.Inputs.{◌>>=◌, Input, Reading, read}
use Rattle.class_file.specs.ClassBytes.{behind_frame}
use Rattle.class_file.specs.FormatFaults.{field_at, fields_at, method_at, methods_at, frame_at, frames_at, instruction_at, instructions_at}
use Rattle.class_reader.specs.Reads.{Fails}
use Rattle.class_reader.specs.Frames.{before}
use Rattle.class_reader.specs.Members.{key}
use Rattle.class_reader.proofs.Loops.{with_front, regroup}

-- things that are read one after the other, with a state that each one changes
pub record IsTable {A S : Type 0} (one : S → Input → Reading A) (next : S → A → S) (things : ℕ → S → Input → Reading (List A)) : Type 0 where
  pub none : (s : S) (i : Input) → things zero s i ≡ read [] i
  pub more : (n : ℕ) (s : S) (i : Input) → things (suc n) s i ≡ (one s i >>= λ first. things n (next s first.value) first.rest >>= λ others. read (first.value ∷ others.value) others.rest)

pub fields_table : (slots : Slots) → IsTable (field_at slots) (λ seen f. key f.name f.descriptor ∷ seen) (fields_at slots)
unfolding fields_at
fields_table slots = record { none = λ s i. refl; more = λ n s i. refl }

pub methods_table : (slots : Slots) (this : List ℕ) → IsTable (method_at slots this) (λ seen m. key m.name m.descriptor ∷ seen) (methods_at slots this)
unfolding methods_at
methods_table slots this = record { none = λ s i. refl; more = λ n s i. refl }

pub frames_table : (slots : Slots) → IsTable (frame_at slots) (λ s f. behind_frame f) (frames_at slots)
unfolding frames_at
frames_table slots = record { none = λ s i. refl; more = λ n s i. refl }

module _ {A S : Type 0} {one : S → Input → Reading A} {next : S → A → S} {things : ℕ → S → Input → Reading (List A)} (is : IsTable one next things) where
  step : (count i : ℕ) (s : S) (input : Input) → i < count → things (count - i) s input ≡ (one s input >>= λ first. things (count - (i + 1)) (next s first.value) first.rest >>= λ others. read (first.value ∷ others.value) others.rest)
  step count i s input lt =
      let k : count - i ≡ suc (count - (i + 1)) = omega arith in
      ap (λ (n : ℕ). things n s input) k ∙ is.more (count - (i + 1)) s input

  pub goes_on : (front : List A) (count i : ℕ) (s : S) (input after : Input) (x : A) (total : Reading (List A)) → i < count → one s input ≡ read x after
      → with_front front (things (count - i) s input) ≡ total → with_front (front ++ x ∷ []) (things (count - (i + 1)) (next s x) after) ≡ total
  goes_on front count i s input after x total lt h so_far =
      sym (regroup front x (things (count - (i + 1)) (next s x) after))
      ∙ sym (ap (λ (r : Reading A). with_front front (r >>= λ first. things (count - (i + 1)) (next s first.value) first.rest >>= λ others. read (first.value ∷ others.value) others.rest)) h)
      ∙ sym (ap (with_front front) (step count i s input lt))
      ∙ so_far

  pub ends : (e : Fail FormatFault) (front : List A) (count i : ℕ) (s : S) (input : Input) (total : Reading (List A)) → i < count → Fails e (one s input) → with_front front (things (count - i) s input) ≡ total → Fails e total
  ends fail.Memory front count i s input total lt h so_far = tt
  ends (fail.Found f) front count i s input total lt h so_far =
      sym so_far
      ∙ ap (with_front front) (step count i s input lt)
      ∙ ap (λ (r : Reading A). with_front front (r >>= λ first. things (count - (i + 1)) (next s first.value) first.rest >>= λ others. read (first.value ∷ others.value) others.rest)) h

  pub is_done : (front : List A) (count i : ℕ) (s : S) (input : Input) (total : Reading (List A)) → count ≤ i → with_front front (things (count - i) s input) ≡ total → total ≡ read front input
  is_done front count i s input total le so_far =
      let k : count - i ≡ 0 = omega arith in
      sym so_far
      ∙ ap (λ (n : ℕ). with_front front (things n s input)) k
      ∙ ap (with_front front) (is.none s input)
      ∙ ap (λ (xs : List A). read xs input) (append-nil front)

-- what the next frame is told against
pub next_before : (f : Frame) → behind_frame f ≡ before (f.at + 1) f.locals
next_before f = from (f.at + 1) (omega arith)
  where
    from : (n : ℕ) → n ≡ suc f.at → behind_frame f ≡ before n f.locals
    from n e = sym (ap (λ (m : ℕ). before m f.locals) e)

-- ---- instructions

pub is_empty : (n m : ℕ) → n ≡ m → n ≡ 0 → eqb m 0 ≡ true
is_empty n m e z = ap (λ (k : ℕ). eqb k 0) (sym e ∙ z)

pub is_more : (n m : ℕ) → n ≡ m → (n ≡ 0 → ⊥) → eqb m 0 ≡ false
is_more n m e ne = by (eqb m 0) refl
  where
    by : (b : Bool) → eqb m 0 ≡ b → b ≡ false
    by true k = absurd (ne (e ∙ eqb-true m 0 k))
    by false k = refl

module _ (slots : Slots) where
  abbrev first_instr : ℕ → Input → Reading (List Instr)
  first_instr n input = instruction_at slots input >>= λ first. instructions_at slots n first.rest >>= λ others. read (first.value ∷ others.value) others.rest

  instr_step : (count i : ℕ) (input : Input) → i < count → eqb (length input.bytes) 0 ≡ false → instructions_at slots (count - i) input ≡ first_instr (count - (i + 1)) input
  unfolding instructions_at
  instr_step count i input lt more =
      let k : count - i ≡ suc (count - (i + 1)) = omega arith in
      ap (λ (n : ℕ). instructions_at slots n input) k
      ∙ ap (λ (b : Bool). cond b (read [] input) (first_instr (count - (i + 1)) input)) more

  pub instrs_go_on : (front : List Instr) (count i : ℕ) (input after : Input) (x : Instr) (total : Reading (List Instr)) → i < count → eqb (length input.bytes) 0 ≡ false → instruction_at slots input ≡ read x after
      → with_front front (instructions_at slots (count - i) input) ≡ total → with_front (front ++ x ∷ []) (instructions_at slots (count - (i + 1)) after) ≡ total
  instrs_go_on front count i input after x total lt more h so_far =
      sym (regroup front x (instructions_at slots (count - (i + 1)) after))
      ∙ sym (ap (λ (r : Reading Instr). with_front front (r >>= λ first. instructions_at slots (count - (i + 1)) first.rest >>= λ others. read (first.value ∷ others.value) others.rest)) h)
      ∙ sym (ap (with_front front) (instr_step count i input lt more))
      ∙ so_far

  pub instrs_end : (e : Fail FormatFault) (front : List Instr) (count i : ℕ) (input : Input) (total : Reading (List Instr)) → i < count → eqb (length input.bytes) 0 ≡ false → Fails e (instruction_at slots input)
      → with_front front (instructions_at slots (count - i) input) ≡ total → Fails e total
  instrs_end fail.Memory front count i input total lt more h so_far = tt
  instrs_end (fail.Found f) front count i input total lt more h so_far =
      sym so_far
      ∙ ap (with_front front) (instr_step count i input lt more)
      ∙ ap (λ (r : Reading Instr). with_front front (r >>= λ first. instructions_at slots (count - (i + 1)) first.rest >>= λ others. read (first.value ∷ others.value) others.rest)) h

  nothing_more : (n : ℕ) (input : Input) → eqb (length input.bytes) 0 ≡ true → instructions_at slots n input ≡ read [] input
  unfolding instructions_at
  nothing_more zero input h = refl
  nothing_more (suc n) input h = ap (λ (b : Bool). cond b (read [] input) (first_instr n input)) h

  pub instrs_done : (front : List Instr) (count i : ℕ) (input : Input) (total : Reading (List Instr)) → eqb (length input.bytes) 0 ≡ true → with_front front (instructions_at slots (count - i) input) ≡ total → total ≡ read front input
  instrs_done front count i input total h so_far =
      sym so_far ∙ ap (with_front front) (nothing_more (count - i) input h) ∙ ap (λ (xs : List Instr). read xs input) (append-nil front)

  pub instrs_spent : (front : List Instr) (count i : ℕ) (input : Input) (total : Reading (List Instr)) → count ≤ i → with_front front (instructions_at slots (count - i) input) ≡ total → total ≡ read front input
  unfolding instructions_at
  instrs_spent front count i input total le so_far =
      let k : count - i ≡ 0 = omega arith in
      sym so_far ∙ ap (λ (n : ℕ). with_front front (instructions_at slots n input)) k ∙ ap (λ (xs : List Instr). read xs input) (append-nil front)
