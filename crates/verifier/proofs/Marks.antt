-- The table of the places where a frame must be given.
use Rattle.std.proofs.Common.{◌≡◌, ℕ, ◌+◌, ◌<◌, ◌≤◌, Bool, true, false, eqb, List, [], ◌∷◌, length, drop, get_or, Option, Some, None, refl, sym, ap, ◌∙◌, add-one, arith, length-drop}
use Rattle.std.specs.Prelude.{◌||◌, slice_set}
use Rattle.std.proofs.Math.ListN.{replicate}
use Rattle.std.proofs.Math.Seq.{drop-cons}
use Rattle.std.proofs.lemmas.Bool.{eqb-true, eqb-false}
use Rattle.std.proofs.lemmas.List.{length-replicate, get_or-replicate, length-set, nil_from_length, get_or-set_same, get_or-set_other}
use Rattle.class_file.specs.declared.instr.Instr.{Instr}
use Rattle.class_file.specs.declared.instr.Instr.TheVariants.{Nop}
use Rattle.class_file.specs.declared.class.Handler.{Handler}
use Rattle.class_file.specs.declared.class.Method.{Method}
use Rattle.class_file.specs.Rows.{length_of, row_of}
use Rattle.class_file.specs.Verification.{jump_of, is_place, is_target, is_handler}
use Rattle.verifier.specs.Flags.{marked, IsMarked, MarksTargets, HasTargets, MarksHandlers, HasHandlers}
use Rattle.verifier.proofs.Loop.{cut}

or_false : (b : Bool) → (b || false) ≡ b
or_false true = refl
or_false false = refl

or_true : (b : Bool) → (b || true) ≡ true
or_true true = refl
or_true false = refl

or_assoc : (a b c : Bool) → ((a || b) || c) ≡ (a || (b || c))
or_assoc true b c = refl
or_assoc false b c = refl

marked_length : (flags : List Bool) (o : Option ℕ) → length (marked flags o) ≡ length flags
marked_length flags None = refl
marked_length flags (Some to) = length-set flags to true

mark_at : (flags : List Bool) (o : Option ℕ) (pc : ℕ) → pc < length flags → get_or (marked flags o) pc false ≡ (get_or flags pc false || is_place o pc)
mark_at flags None pc h = sym (or_false (get_or flags pc false))
mark_at flags (Some to) pc h = by (eqb to pc) refl
  where
    by : (b : Bool) → eqb to pc ≡ b → get_or (slice_set flags to true) pc false ≡ (get_or flags pc false || b)
    by true k =
        let same = eqb-true to pc k in
        ap (λ (n : ℕ). get_or (slice_set flags n true) pc false) same ∙ get_or-set_same flags pc true false h ∙ sym (or_true (get_or flags pc false))
    by false k =
        let other = eqb-false to pc k in
        get_or-set_other flags to pc true false (λ e. other (sym e)) ∙ sym (or_false (get_or flags pc false))

pub blank_targets : (n : ℕ) (flags : List Bool) (code : List Instr) → flags ≡ replicate n false → MarksTargets flags code 0 code
blank_targets n flags code e = record {
  holds = λ pc h.
      let within : pc < n = omega (arith, ap length e, length-replicate n false) in
      ap (λ (b : Bool). b || is_target 0 code pc) (ap (λ (f : List Bool). get_or f pc false) e ∙ get_or-replicate n pc false false within);
}

pub one_target : (flags new : List Bool) (code : List Instr) (at k : ℕ) → new ≡ marked flags (jump_of (row_of at (get_or code k Nop))) → k < length code → MarksTargets flags code at (drop k code) → MarksTargets new code (at + length_of (get_or code k Nop)) (drop (k + 1) code)
one_target flags new code at k e lt m = record {
  holds = λ pc h.
      let i = get_or code k Nop in
      let o = jump_of (row_of at i) in
      let rest = is_target (at + length_of i) (drop (k + 1) code) pc in
      let within : pc < length flags = omega (arith, ap length e, marked_length flags o) in
      ap (λ (b : Bool). b || rest) (ap (λ (f : List Bool). get_or f pc false) e ∙ mark_at flags o pc within) ∙ or_assoc (get_or flags pc false) (is_place o pc) rest
      ∙ ap (λ (is : List Instr). get_or flags pc false || is_target at is pc) (sym (cut code k lt)) ∙ m.holds pc within;
}

pub all_targets : (flags : List Bool) (code : List Instr) (at k : ℕ) → length code ≤ k → MarksTargets flags code at (drop k code) → HasTargets flags code
all_targets flags code at k le m = record {
  holds = λ pc h.
      let empty : drop k code ≡ [] = nil_from_length (drop k code) (omega (arith, length-drop k code)) in
      sym (or_false (get_or flags pc false)) ∙ ap (λ (is : List Instr). get_or flags pc false || is_target at is pc) (sym empty) ∙ m.holds pc h;
}

pub start_handlers : (flags : List Bool) (code : List Instr) (hs : List Handler) → HasTargets flags code → MarksHandlers flags code hs hs
start_handlers flags code hs t = record { holds = λ pc h. ap (λ (b : Bool). b || is_handler hs pc) (t.holds pc h) }

cut_handlers : (hs : List Handler) (k : ℕ) (d : Handler) → k < length hs → drop k hs ≡ get_or hs k d ∷ drop (k + 1) hs
cut_handlers hs k d lt = drop-cons hs k d lt ∙ ap (λ (n : ℕ). get_or hs k d ∷ drop n hs) (sym (add-one k))

pub one_handler : (flags new : List Bool) (code : List Instr) (hs : List Handler) (k : ℕ) (d : Handler) → new ≡ marked flags (Some ((get_or hs k d).at)) → k < length hs → MarksHandlers flags code hs (drop k hs) → MarksHandlers new code hs (drop (k + 1) hs)
one_handler flags new code hs k d e lt m = record {
  holds = λ pc h.
      let o : Option ℕ = Some ((get_or hs k d).at) in
      let rest = is_handler (drop (k + 1) hs) pc in
      let within : pc < length flags = omega (arith, ap length e, marked_length flags o) in
      ap (λ (b : Bool). b || rest) (ap (λ (f : List Bool). get_or f pc false) e ∙ mark_at flags o pc within) ∙ or_assoc (get_or flags pc false) (is_place o pc) rest
      ∙ ap (λ (is : List Handler). get_or flags pc false || is_handler is pc) (sym (cut_handlers hs k d lt)) ∙ m.holds pc within;
}

pub all_handlers : (flags : List Bool) (code : List Instr) (hs : List Handler) (k : ℕ) → length hs ≤ k → MarksHandlers flags code hs (drop k hs) → HasHandlers flags code hs
all_handlers flags code hs k le m = record {
  holds = λ pc h.
      let empty : drop k hs ≡ [] = nil_from_length (drop k hs) (omega (arith, length-drop k hs)) in
      sym (or_false (get_or flags pc false)) ∙ ap (λ (is : List Handler). get_or flags pc false || is_handler is pc) (sym empty) ∙ m.holds pc h;
}

pub is_marked : (flags : List Bool) (m : Method) (code : List Instr) (hs : List Handler) → code ≡ m.code → hs ≡ m.handlers → HasHandlers flags code hs → IsMarked flags m
is_marked flags m code hs e f h = record {
  holds = λ pc lt. h.holds pc lt ∙ ap (λ (is : List Instr). is_target 0 is pc || is_handler hs pc) e ∙ ap (λ (x : List Handler). is_target 0 m.code pc || is_handler x pc) f;
}
