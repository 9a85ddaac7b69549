-- The entries of some code, and the frames at them.
use Rattle.std.proofs.Common.{◌≡◌, ℕ, zero, suc, ◌+◌, ◌<◌, ◌≤◌, Bool, true, false, eqb, List, [], ◌∷◌, ◌++◌, length, drop, get_or, length-drop, append-nil, append_assoc, Option, Some, None, refl, sym, ap, ◌∙◌, subst, arith}
use Rattle.std.specs.Prelude.{◌||◌, ◌&&◌, ◌==◌, not, slice_set, if◌then◌else◌}
use Rattle.std.proofs.Math.ListN.{replicate}
use Rattle.std.proofs.lemmas.Bool.{eqb-true, eqb-false}
use Rattle.std.proofs.lemmas.List.{length-replicate, length-set, nil_from_length, drop_more, get_or-set_same, get_or-set_other}
use std.Path.{fun_ext}
use Rattle.kc_core.specs.declared.tree.TypeTree.{TypeTree}
use Rattle.kc_core.specs.declared.tree.TypeTree.TheVariants as type_is
use Rattle.kc_core.specs.declared.tree.Local.{Local}
use Rattle.kc_core.specs.declared.tree.Function.{Function}
use Rattle.kc_core.specs.Formed.{Assigned, none_assigned}
use Rattle.class_file.specs.declared.class.Frame.{Frame}
use Rattle.class_file.specs.declared.instr.Instr.{Instr}
use Rattle.class_file.specs.Rows.{length_of, row_of}
use Rattle.class_file.specs.Pools.{Slots}
use Rattle.class_file.specs.Verification as verification
use Rattle.class_file.specs.Verification.{is_place}
use Rattle.stack_code.specs.declared.frames.Walk.{Walk}
use Rattle.stack_code.specs.Code.{Operation, Leave, bytes_of, bytes, kept, discards, Spells, body_code}
use Rattle.stack_code.specs.Frames.{Known, in_line, kept_known, with_assigned, with_value, Traced, behind, traced_of, nothing_known, body_known, is_entry, jump_of, goes_on, frame_at, frames_from, frames_of}
use Rattle.stack_code.specs.Walking.{set_of, known_of, Walks, WalksOne, DoesLine, enters, entered, flagged, HasEntries}
use Rattle.stack_code.proofs.Passing.{walks_then}
use Rattle.stack_code.proofs.Verified.{positive, row_jumps, row_goes}
use Rattle.stack_code.proofs.Traces.{emitted_is, type_of_traced}

or_false : (b : Bool) → (b || false) ≡ b
or_false true = refl
or_false false = refl

or_true : (b : Bool) → (b || true) ≡ true
or_true true = refl
or_true false = refl

or_assoc : (a b c : Bool) → ((a || b) || c) ≡ (a || (b || c))
or_assoc true b c = refl
or_assoc false b c = refl

flagged_length : (flags : List Bool) (o : Option ℕ) → length (flagged flags o) ≡ length flags
flagged_length flags None = refl
flagged_length flags (Some to) = length-set flags to true

flag_at : (flags : List Bool) (o : Option ℕ) (pc : ℕ) → pc < length flags → set_of (flagged flags o) pc ≡ (set_of flags pc || is_place o pc)
flag_at flags None pc h = sym (or_false (get_or flags pc false))
flag_at flags (Some to) pc h = by (eqb to pc) refl
  where
    by : (b : Bool) → eqb to pc ≡ b → get_or (slice_set flags to true) pc false ≡ (get_or flags pc false || b)
    by true k =
        let same = eqb-true to pc k in
        ap (λ (n : ℕ). get_or (slice_set flags n true) pc false) same ∙ get_or-set_same flags pc true false h ∙ sym (or_true (get_or flags pc false))
    by false k =
        let other = eqb-false to pc k in
        get_or-set_other flags to pc true false (λ e. other (sym e)) ∙ sym (or_false (get_or flags pc false))

blank_at : (n x : ℕ) → get_or (replicate n false) x false ≡ false
blank_at zero x = refl
blank_at (suc n) zero = refl
blank_at (suc n) (suc x) = blank_at n x

-- no local is assigned yet
pub blank_is : (n : ℕ) (flags : List Bool) → flags ≡ replicate n false → set_of flags ≡ none_assigned
blank_is n flags e = ap set_of e ∙ fun_ext (λ x. blank_at n x)

pub no_entries : (n : ℕ) (flags : List Bool) (code : List Instr) → flags ≡ replicate n false → HasEntries flags code n 0 code
no_entries n flags code e = record {
  long = ap length e ∙ length-replicate n false;
  holds = λ pc h. ap (λ (b : Bool). b || entered 0 code pc) (ap (λ (f : List Bool). get_or f pc false) e ∙ blank_at n pc);
}

behind_place : (goes : Bool) (n pc : ℕ) → is_place (if goes then None else Some n) pc ≡ (not goes && n == pc)
behind_place true n pc = refl
behind_place false n pc = refl

pub one_entry : (flags mid new : List Bool) (code : List Instr) (count at k : ℕ) (i d : Instr) → i ≡ get_or code k d → mid ≡ flagged flags (verification.jump_of (row_of at i)) → new ≡ flagged mid (if verification.goes_on (row_of at i) then None else Some (at + length_of i)) → k < length code → HasEntries flags code count at (drop k code) → HasEntries new code count (at + length_of i) (drop (k + 1) code)
one_entry flags mid new code count at k i d is e f lt m = record {
  long = ap length f ∙ flagged_length mid behind ∙ ap length e ∙ flagged_length flags jump ∙ m.long;
  holds = λ pc h.
      let first : pc < length flags = omega (arith, m.long, h) in
      let second : pc < length mid = omega (arith, first, ap length e, flagged_length flags jump) in
      ap (λ (b : Bool). b || entered (at + length_of i) (drop (k + 1) code) pc) (ap (λ (w : List Bool). get_or w pc false) f ∙ flag_at mid behind pc second ∙ ap (λ (b : Bool). b || is_place behind pc) (ap (λ (w : List Bool). get_or w pc false) e ∙ flag_at flags jump pc first) ∙ or_assoc (set_of flags pc) (is_place jump pc) (is_place behind pc) ∙ ap (λ b. set_of flags pc || (is_place jump pc || b)) (behind_place (verification.goes_on (row_of at i)) (at + length_of i) pc))
      ∙ or_assoc (set_of flags pc) (enters at i pc) (entered (at + length_of i) (drop (k + 1) code) pc)
      ∙ ap (λ (w : List Instr). set_of flags pc || entered at w pc) (sym (drop_more code k d lt ∙ ap (λ (i : Instr). i ∷ drop (k + 1) code) (sym is)))
      ∙ m.holds pc h;
}
  where
    jump : Option ℕ
    jump = verification.jump_of (row_of at i)

    behind : Option ℕ
    behind = if verification.goes_on (row_of at i) then None else Some (at + length_of i)

pub all_entries : (flags : List Bool) (code : List Instr) (count at k : ℕ) → length code ≤ k → HasEntries flags code count at (drop k code) → HasEntries flags code count 0 []
all_entries flags code count at k le m = record {
  long = m.long;
  holds = λ pc h.
      let empty : drop k code ≡ [] = nil_from_length (drop k code) (omega (arith, length-drop k code, le)) in
      ap (λ (is : List Instr). set_of flags pc || entered at is pc) (sym empty) ∙ m.holds pc h;
}

-- ---- entries of operations

entries_are : (pool : Slots) (at : ℕ) (is : List Instr) (os : List Operation) (pc : ℕ) → Spells pool at is os → entered at is pc ≡ is_entry at os pc
entries_are pool at [] [] pc h = refl
entries_are pool at [] (o ∷ os) pc h = absurd h
entries_are pool at (i ∷ is) [] pc h = absurd h
entries_are pool at (i ∷ is) (o ∷ os) pc h =
    ap (λ (j : Option ℕ). (is_place j pc || (not (verification.goes_on (row_of at i)) && at + length_of i == pc)) || entered (at + length_of i) is pc) (row_jumps pool at i o h.0)
    ∙ ap (λ b. (is_place (jump_of at o) pc || (not b && at + length_of i == pc)) || entered (at + length_of i) is pc) (row_goes pool at i o h.0)
    ∙ ap (λ (n : ℕ). (is_place (jump_of at o) pc || (not (goes_on o) && at + n == pc)) || entered (at + n) is pc) h.1
    ∙ ap (λ b. (is_place (jump_of at o) pc || (not (goes_on o) && at + bytes_of o == pc)) || b) (entries_are pool (at + bytes_of o) is os pc h.2)

-- frames depend on the entries within the code alone
frames_same : (locals : List Local) (e f : ℕ → Bool) (at : ℕ) (os : List Operation) (ks : List Known) → ((pc : ℕ) → pc < at + bytes os → e pc ≡ f pc) → frames_from locals e at os ks ≡ frames_from locals f at os ks
frames_same locals e f at [] ks h = refl
frames_same locals e f at (o ∷ os) [] h = refl
frames_same locals e f at (o ∷ os) (k ∷ ks) h =
    ap (λ b. if b then frame_at locals at k ∷ frames_from locals e (at + bytes_of o) os ks else frames_from locals e (at + bytes_of o) os ks) (h at (let p = positive o in omega (arith, p)))
    ∙ ap (λ (w : List Frame). if f at then frame_at locals at k ∷ w else w) (frames_same locals e f (at + bytes_of o) os ks (λ pc lt. h pc (omega (arith, lt))))

-- ---- a whole body

leave_line : (ty : TypeTree) (A : Assigned) (k : Known) → in_line (discards ty) (with_value ty A k) ++ with_assigned A k ∷ [] ≡ in_line (discards ty ++ Leave ∷ []) (with_value ty A k)
leave_line type_is.Int A k = refl
leave_line type_is.Boolean A k = refl
leave_line type_is.String A k = refl
leave_line type_is.Unit A k = refl

regroup : (g : Bool) (a b d : List Operation) → (a ++ kept g b) ++ kept g d ≡ a ++ kept g (b ++ d)
regroup true a b d = append_assoc a b d
regroup false a b d = append-nil (a ++ [])

regroup_known : (g : Bool) (a b d : List Known) → (a ++ kept_known g b) ++ kept_known g d ≡ a ++ kept_known g (b ++ d)
regroup_known true a b d = append_assoc a b d
regroup_known false a b d = append-nil (a ++ [])

pub body_frames : (f : Function) (flags : List Bool) (code : List Instr) (count : ℕ) (g : Bool) (s t u : Walk) → HasEntries flags code count 0 [] → count ≡ bytes (body_code f.body) → s.at ≡ 0 → s.frames.items ≡ [] → known_of s ≡ nothing_known →
    DoesLine f.locals (set_of flags) true s t (traced_of f.body) (discards f.body.ty) (in_line (discards f.body.ty)) g → WalksOne f.locals (set_of flags) g t u 1 → (pool : Slots) → Spells pool 0 code (body_code f.body) → u.frames.items ≡ frames_of f
body_frames f flags code count g s t u entries long at0 none start d w pool spelled =
    all.frames ∙ ap (λ (fs : List Frame). fs ++ frames_from f.locals (set_of flags) s.at ops known) none ∙ ap (λ (n : ℕ). frames_from f.locals (set_of flags) n ops known) at0
    ∙ ap (λ (os : List Operation). frames_from f.locals (set_of flags) 0 os known) ops_are
    ∙ ap (λ (ks : List Known). frames_from f.locals (set_of flags) 0 (body_code f.body) ks) (ap (λ (k : Known). x.known k ++ kept_known x.emitted.goes_on (in_line (discards f.body.ty ++ Leave ∷ []) (behind x k))) start)
    ∙ frames_same f.locals (set_of flags) (is_entry 0 (body_code f.body)) 0 (body_code f.body) (body_known f.body) (λ pc lt. sym (or_false (set_of flags pc)) ∙ entries.holds pc (omega (arith, lt, long)) ∙ entries_are pool 0 code (body_code f.body) pc spelled)
  where
    x : Traced
    x = traced_of f.body

    K : Known
    K = known_of s

    M : Known
    M = with_assigned (x.after K.assigned) K

    ops : List Operation
    ops = x.emitted.code ++ kept x.emitted.goes_on (discards f.body.ty ++ Leave ∷ [])

    known : List Known
    known = x.known K ++ kept_known x.emitted.goes_on (in_line (discards f.body.ty ++ Leave ∷ []) (behind x K))

    ops_are : ops ≡ body_code f.body
    ops_are = ap (λ y. y.code ++ kept y.goes_on (discards f.body.ty ++ Leave ∷ [])) (emitted_is f.body)

    line : in_line (discards f.body.ty) (behind x K) ++ M ∷ [] ≡ in_line (discards f.body.ty ++ Leave ∷ []) (behind x K)
    line = subst (λ (v : TypeTree). in_line (discards v) (behind x K) ++ M ∷ [] ≡ in_line (discards v ++ Leave ∷ []) (behind x K)) (type_of_traced f.body) (leave_line x.emitted.ty (x.after K.assigned) K)

    last : Walks f.locals (set_of flags) (true && x.emitted.goes_on) t u (Leave ∷ []) (M ∷ []) M
    last = subst (λ b. Walks f.locals (set_of flags) b t u (Leave ∷ []) (M ∷ []) M) d.goes_is (subst (λ (k : Known). Walks f.locals (set_of flags) g t u (Leave ∷ []) (k ∷ []) k) d.walks.known (w Leave refl))

    all : Walks f.locals (set_of flags) true s u ops known M
    all = subst (λ os. Walks f.locals (set_of flags) true s u os known M) (regroup x.emitted.goes_on x.emitted.code (discards f.body.ty) (Leave ∷ []))
        (subst (λ ks. Walks f.locals (set_of flags) true s u ((x.emitted.code ++ kept x.emitted.goes_on (discards f.body.ty)) ++ kept x.emitted.goes_on (Leave ∷ [])) ks M)
        (regroup_known x.emitted.goes_on (x.known K) (in_line (discards f.body.ty) (behind x K)) (M ∷ []) ∙ ap (λ ks. x.known K ++ kept_known x.emitted.goes_on ks) line)
        (walks_then f.locals (set_of flags) true x.emitted.goes_on s t u _ (Leave ∷ []) _ (M ∷ []) M M d.walks last))
