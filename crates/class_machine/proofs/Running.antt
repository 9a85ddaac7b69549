-- The running frame of a list of frames, the last one.
use Rattle.std.proofs.Common.{◌≡◌, ℕ, ◌+◌, ◌-◌, ◌<◌, List, [], ◌∷◌, ◌++◌, length, take, get_or, refl, sym, ap, ◌∙◌, arith}
use Rattle.std.specs.Prelude.{reverse, slice_set}
use Rattle.std.proofs.Math.Seq.{set-append_seam}
use Rattle.std.proofs.lemmas.List.{reverse-append, take_more, take_all, length-take-le, length-reverse}
use Rattle.class_file.specs.Machine.{Active}
use Rattle.class_machine.specs.declared.frame.Frame.{Frame}
use Rattle.class_machine.specs.Stacks.{shown, TopChanged, Stands}

module _ (fs : List Frame) (some : 0 < length fs) where
  abbrev pub last : ℕ
  last = length fs - 1

  abbrev pub others : List Frame
  others = take last fs

  module _ (n : ℕ) (d f : Frame) (at : n ≡ last) (is : f ≡ get_or fs n d) where
    cut : fs ≡ others ++ f ∷ []
    cut =
        let m : last + 1 ≡ length fs = omega (arith, some) in
        sym (ap (λ (k : ℕ). take k fs) m ∙ take_all (length fs) fs (omega arith)) ∙ take_more fs last d (omega (arith, some))
        ∙ ap (λ (k : ℕ). others ++ get_or fs k d ∷ []) (sym at) ∙ ap (λ (x : Frame). others ++ x ∷ []) (sym is)

    pub top_is : reverse fs ≡ f ∷ reverse others
    top_is = ap reverse cut ∙ reverse-append others (f ∷ [])

    pub set_is : (g : Frame) → reverse (slice_set fs n g) ≡ g ∷ reverse others
    set_is g =
        let m : length others ≡ last = length-take-le last fs (omega arith) in
        ap (λ (xs : List Frame). reverse (slice_set xs n g)) cut
        ∙ ap (λ (k : ℕ). reverse (slice_set (others ++ f ∷ []) k g)) (at ∙ sym m)
        ∙ ap reverse (set-append_seam others f [] g)
        ∙ reverse-append others (g ∷ [])

    pub changed : (change : Active → Active) (g : Frame) → shown g ≡ change (shown f) → TopChanged change fs (slice_set fs n g)
    changed change g h = record { before = f; after = g; below = reverse others; old_is = top_is; new_is = set_is g; is = h }

pub shown_stands : (old new : Frame) → Stands old new → shown new ≡ record (shown old) { stack = reverse new.stack.items }
shown_stands old new s = rw (s.same.class_is, s.same.method_is, s.same.starts_is, s.at_is, s.locals_are) refl

pub nonempty : (fs : List Frame) (f : Frame) (below : List Frame) → reverse fs ≡ f ∷ below → 0 < length fs
nonempty fs f below e = let n = ap length e in let r = length-reverse fs in omega (arith, n, r)

same_head : (f g : Frame) (fs gs : List Frame) → (let xs : List Frame = f ∷ fs in xs) ≡ g ∷ gs → f ≡ g
same_head f g fs gs e = cc

same_tail : (f g : Frame) (fs gs : List Frame) → (let xs : List Frame = f ∷ fs in xs) ≡ g ∷ gs → fs ≡ gs
same_tail f g fs gs e = cc

-- the frame at the last place is the top that is known
pub top_known : (fs : List Frame) (n : ℕ) (d f top : Frame) (below : List Frame) → reverse fs ≡ top ∷ below → n ≡ length fs - 1 → f ≡ get_or fs n d → f ≡ top
top_known fs n d f top below e at is = same_head f top _ _ (sym (top_is fs (nonempty fs top below e) n d f at is) ∙ e)

pub same_top : (xs : List Frame) (f g : Frame) (fs gs : List Frame) → xs ≡ f ∷ fs → xs ≡ g ∷ gs → f ≡ g
same_top xs f g fs gs e h = same_head f g fs gs (sym e ∙ h)

pub same_below : (xs : List Frame) (f g : Frame) (fs gs : List Frame) → xs ≡ f ∷ fs → xs ≡ g ∷ gs → fs ≡ gs
same_below xs f g fs gs e h = same_tail f g fs gs (sym e ∙ h)
