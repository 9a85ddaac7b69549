-- What is written into the local variables that are carried along.
use Rattle.std.proofs.Common.{◌≡◌, ◌≢◌, ℕ, zero, suc, ◌+◌, ◌-◌, ◌<◌, ◌≤◌, Bool, true, false, cond, eqb, ltb, List, [], ◌∷◌, ◌++◌, length, get_or, Option, Some, None, refl, sym, ap, subst, ◌∙◌, arith, length-append, append_assoc, append-nil}
use Rattle.std.specs.Prelude.{slice_get, slice_set, ◌||◌}
use Rattle.std.specs.Option.{option_map}
use Rattle.std.proofs.Math.ListN.{replicate, length-replicate}
use Rattle.std.proofs.Math.Seq.{get_or-append_right}
use Rattle.std.proofs.lemmas.Bool.{eqb-true, eqb-false, ltb-true, ltb-false}
use Rattle.std.proofs.lemmas.List.{get_or-set_other, get_or-replicate, get_or_past}
use Rattle.std.proofs.lemmas.List.Folds.{list_any-append}
use Rattle.class_file.specs.declared.value.Kind.{Kind}
use Rattle.class_file.specs.declared.value.Kind.TheVariants as kinds
use Rattle.class_file.specs.declared.class.Frame.{Frame}
use Rattle.class_file.specs.declared.class.Method.{Method}
use Rattle.class_file.specs.declared.class.VType.{VType}
use Rattle.class_file.specs.declared.class.VType.TheVariants.{Top, Integer, Long, Null, UninitializedThis, Object, Uninitialized}
use Rattle.class_file.specs.Typing.{Types, cut_at, cut_long, t_stored}
use Rattle.class_file.specs.Verification.{padded, types_given, needs_frame, entering, entering_at}
use Rattle.verifier.specs.Flags.{frame_for}
use Rattle.verifier.specs.Carrying.{has_place, IsUnset, Laying}
use Rattle.verifier.proofs.Places.{given_find}

-- ---- places that hold nothing

top_same : (ls : List VType) (p : ℕ) → get_or (slice_set ls p Top) p Top ≡ Top
top_same [] p = refl
top_same (t ∷ ts) zero = refl
top_same (t ∷ ts) (suc p) = top_same ts p

top_kept : (ls : List VType) (p at : ℕ) → get_or ls at Top ≡ Top → get_or (slice_set ls p Top) at Top ≡ Top
top_kept [] p at h = h
top_kept (t ∷ ts) zero zero h = refl
top_kept (t ∷ ts) zero (suc at) h = h
top_kept (t ∷ ts) (suc p) zero h = h
top_kept (t ∷ ts) (suc p) (suc at) h = top_kept ts p at h

pub all_top : (ls : List VType) → ((at : ℕ) → get_or ls at Top ≡ Top) → ls ≡ replicate (length ls) Top
all_top [] h = refl
all_top (t ∷ ts) h = ap (λ (x : VType). x ∷ ts) (h 0) ∙ ap (λ (xs : List VType). Top ∷ xs) (all_top ts (λ at. h (suc at)))

-- ---- what is known to hold nothing

pub whole_unset : (front : ℕ) (stored : List ℕ) (ls : List VType) → length ls ≤ front → IsUnset front stored ls
whole_unset front stored ls le = record { holds = λ at from free. get_or_past ls at Top (omega (arith, le, from)) }

pub one_cleared : (front p : ℕ) (stored : List ℕ) (ls : List VType) → IsUnset front (p ∷ stored) ls → IsUnset front stored (slice_set ls p Top)
one_cleared front p stored ls u = record { holds = λ at from free. by at from free (eqb p at) refl }
  where
    by : (at : ℕ) → front ≤ at → has_place stored at ≡ false → (b : Bool) → eqb p at ≡ b → get_or (slice_set ls p Top) at Top ≡ Top
    by at from free true k = subst (λ (n : ℕ). get_or (slice_set ls p Top) n Top ≡ Top) (eqb-true p at k) (top_same ls p)
    by at from free false k = top_kept ls p at (u.holds at from (ap (λ (b : Bool). b || has_place stored at) k ∙ free))

-- the places from a front on, and those before another one, are clear
pub front_cleared : (front : ℕ) (ls : List VType) (k : ℕ) → front ≤ k → IsUnset front [] ls → ((at : ℕ) → at < k → get_or ls at Top ≡ Top) → ls ≡ replicate (length ls) Top
front_cleared front ls k le u low = all_top ls (λ at. by at (ltb at front) refl)
  where
    by : (at : ℕ) (b : Bool) → ltb at front ≡ b → get_or ls at Top ≡ Top
    by at true e = low at (omega (arith, ltb-true at front e, le))
    by at false e = u.holds at (omega (arith, ltb-false at front e)) refl

pub low_cleared : (ls : List VType) (k : ℕ) → ((at : ℕ) → at < k → get_or ls at Top ≡ Top) → (at : ℕ) → at < k + 1 → get_or (slice_set ls k Top) at Top ≡ Top
low_cleared ls k low at lt = by (ltb at k) refl
  where
    by : (b : Bool) → ltb at k ≡ b → get_or (slice_set ls k Top) at Top ≡ Top
    by true e = top_kept ls k at (low at (ltb-true at k e))
    by false e =
        let same : k ≡ at = omega (arith, lt, ltb-false at k e) in
        subst (λ (n : ℕ). get_or (slice_set ls k Top) n Top ≡ Top) same (top_same ls k)

pub unset_kept : (front : ℕ) (stored : List ℕ) (ls : List VType) (p : ℕ) → IsUnset front stored ls → IsUnset front stored (slice_set ls p Top)
unset_kept front stored ls p u = record { holds = λ at from free. top_kept ls p at (u.holds at from free) }

-- ---- stores

cut_kept : (i : ℕ) (ls : List VType) (at : ℕ) → get_or ls at Top ≡ Top → get_or (cut_long i ls) at Top ≡ Top
cut_kept i ls at h = by (eqb i 0) (slice_get ls (i - 1))
  where
    by : (b : Bool) (o : Option VType) → get_or (cond b ls (cut_at (i - 1) o ls)) at Top ≡ Top
    by true o = h
    by false None = h
    by false (Some Top) = h
    by false (Some Integer) = h
    by false (Some Long) = top_kept ls (i - 1) at h
    by false (Some Null) = h
    by false (Some UninitializedThis) = h
    by false (Some (Object c)) = h
    by false (Some (Uninitialized p)) = h

stored_other : (k : Kind) (i : ℕ) (t : VType) (ls : List VType) (at : ℕ) → at ≢ i → get_or ls at Top ≡ Top → get_or (t_stored k i t ls) at Top ≡ Top
stored_other kinds.Int i t ls at ne h = get_or-set_other (cut_long i ls) i at t Top ne ∙ cut_kept i ls at h
stored_other kinds.Ref i t ls at ne h = get_or-set_other (cut_long i ls) i at t Top ne ∙ cut_kept i ls at h
stored_other kinds.Long i t ls at ne h = top_kept (slice_set (cut_long i ls) i t) (i + 1) at (get_or-set_other (cut_long i ls) i at t Top ne ∙ cut_kept i ls at h)

either_false : (a b : Bool) → (a || (b || false)) ≡ false → (a ≡ false) × (b ≡ false)
either_false false false h = (refl, refl)
either_false false true h = absurd cc
either_false true b h = absurd cc

pub one_stored : (front : ℕ) (stored : List ℕ) (ls : List VType) (k : Kind) (i : ℕ) (t : VType) → IsUnset front stored ls → IsUnset front (stored ++ i ∷ []) (t_stored k i t ls)
one_stored front stored ls k i t u = record { holds = λ at from free. by at from (either_false (has_place stored at) (eqb i at) (sym (list_any-append (λ (p : ℕ). eqb p at) stored (i ∷ [])) ∙ free)) }
  where
    by : (at : ℕ) → front ≤ at → (has_place stored at ≡ false) × (eqb i at ≡ false) → get_or (t_stored k i t ls) at Top ≡ Top
    by at from none = stored_other k i t ls at (λ e. eqb-false i at none.1 (sym e)) (u.holds at from none.0)

-- ---- what a given frame writes

set_in : (xs : List VType) (y t : VType) (ys : List VType) → slice_set (xs ++ y ∷ ys) (length xs) t ≡ (xs ++ t ∷ []) ++ ys
set_in [] y t ys = refl
set_in (x ∷ xs) y t ys = ap (λ (l : List VType). x ∷ l) (set_in xs y t ys)

padded_length : (max : ℕ) (xs : List VType) → length (padded max xs) ≡ length xs + (max - length xs)
padded_length max xs = length-append xs (replicate (max - length xs) Top) ∙ ap (λ (n : ℕ). length xs + n) (length-replicate (max - length xs) Top)

pub laid_within : (max at : ℕ) (ls : List VType) (t : VType) (rest whole : List VType) → at < length ls → Laying max at ls (t ∷ rest) whole → Laying max (at + 1) (slice_set ls at t) rest whole
laid_within max at ls t rest whole lt l = record {
  laid = l.laid ++ t ∷ [];
  at_is = omega (arith, l.at_is, length-append l.laid (t ∷ []));
  is = ap (λ (xs : List VType). slice_set xs at t) l.is ∙ ap (λ (n : ℕ). slice_set (padded max l.laid) n t) l.at_is ∙ by (max - length l.laid) refl;
  whole_is = append_assoc l.laid (t ∷ []) rest ∙ l.whole_is;
}
  where
    some : length l.laid < max
    some = omega (arith, lt, l.at_is, ap length l.is, padded_length max l.laid)

    by : (n : ℕ) → max - length l.laid ≡ n → slice_set (l.laid ++ replicate n Top) (length l.laid) t ≡ padded max (l.laid ++ t ∷ [])
    by zero e = absurd (omega (arith, some, e))
    by (suc n) e =
        let left : n ≡ max - length (l.laid ++ t ∷ []) = omega (arith, e, length-append l.laid (t ∷ [])) in
        set_in l.laid Top t (replicate n Top) ∙ ap (λ (m : ℕ). (l.laid ++ t ∷ []) ++ replicate m Top) left

pub laid_behind : (max at next : ℕ) (ls : List VType) (t : VType) (rest whole : List VType) → length ls ≤ at → next ≡ length (ls ++ t ∷ []) → Laying max at ls (t ∷ rest) whole → Laying max next (ls ++ t ∷ []) rest whole
laid_behind max at next ls t rest whole le e l = record {
  laid = l.laid ++ t ∷ [];
  at_is = e ∙ ap (λ (xs : List VType). length (xs ++ t ∷ [])) same;
  is = ap (λ (xs : List VType). xs ++ t ∷ []) same ∙ sym (append-nil (l.laid ++ t ∷ [])) ∙ ap (λ (n : ℕ). (l.laid ++ t ∷ []) ++ replicate n Top) more;
  whole_is = append_assoc l.laid (t ∷ []) rest ∙ l.whole_is;
}
  where
    none : max - length l.laid ≡ 0
    none = omega (arith, le, l.at_is, ap length l.is, padded_length max l.laid)

    same : ls ≡ l.laid
    same = l.is ∙ ap (λ (n : ℕ). l.laid ++ replicate n Top) none ∙ append-nil l.laid

    more : 0 ≡ max - length (l.laid ++ t ∷ [])
    more = omega (arith, none, length-append l.laid (t ∷ []))

pub none_laid : (max : ℕ) (ls whole : List VType) → ls ≡ replicate max Top → Laying max 0 ls whole whole
none_laid max ls whole e =
    let n : max ≡ max - 0 = omega arith in
    record { laid = []; at_is = refl; is = e ∙ ap (λ (m : ℕ). replicate m Top) n; whole_is = refl }

pub all_laid : (max at : ℕ) (ls whole : List VType) → Laying max at ls [] whole → ls ≡ padded max whole
all_laid max at ls whole l = l.is ∙ ap (padded max) (sym (append-nil l.laid) ∙ l.whole_is)

top_everywhere : (n at : ℕ) → get_or (replicate n Top) at Top ≡ Top
top_everywhere n at = by (ltb at n) refl
  where
    by : (b : Bool) → ltb at n ≡ b → get_or (replicate n Top) at Top ≡ Top
    by true e = get_or-replicate n at Top Top (ltb-true at n e)
    by false e = get_or_past (replicate n Top) at Top (omega (arith, ltb-false at n e, length-replicate n Top))

pub laid_unset : (max at : ℕ) (ls whole : List VType) (stored : List ℕ) → Laying max at ls [] whole → IsUnset at stored ls
laid_unset max at ls whole stored l = record {
  holds = λ p from free.
      ap (λ (xs : List VType). get_or xs p Top) l.is ∙ get_or-append_right l.laid (replicate (max - length l.laid) Top) p Top (omega (arith, l.at_is, from))
      ∙ top_everywhere (max - length l.laid) (p - length l.laid);
}

-- ---- what flows to a place

enters : (m : Method) (pc : ℕ) (o : Option Frame) (flow : Option Types) → o ≡ frame_for m.frames pc → entering (option_map (types_given m.max_locals) o) (needs_frame m pc) flow ≡ entering_at m pc flow
enters m pc o flow e = ap (λ (g : Option Types). entering g (needs_frame m pc) flow) (ap (option_map (types_given m.max_locals)) e ∙ sym (given_find m.max_locals m.frames pc))

pub enters_given : (m : Method) (pc : ℕ) (f : Frame) (flow : Option Types) → (let o : Option Frame = Some f in o) ≡ frame_for m.frames pc → (let o : Option Types = Some (types_given m.max_locals f) in o) ≡ entering_at m pc flow
enters_given m pc f flow e = enters m pc (Some f) flow e

pub enters_so : (m : Method) (pc : ℕ) (b : Bool) (flow : Option Types) → (let o : Option Frame = None in o) ≡ frame_for m.frames pc → needs_frame m pc ≡ b → entering None b flow ≡ entering_at m pc flow
enters_so m pc b flow e k = ap (λ (b : Bool). entering None b flow) (sym k) ∙ enters m pc None flow e
