-- Questions that are settled: the recursion says yes at some height, or the one that says yes beyond its height says no.
use Rattle.std.proofs.Common.{◌≡◌, ℕ, zero, suc, ◌≤◌, Bool, true, false, nat_eq, List, [], ◌∷◌, ◌&&◌, ◌||◌, max, refl, sym, ◌∙◌, ◌⊎◌, inl, inr, ⊎_elim, eqb-true, arith}
use Rattle.std.proofs.lemmas.Bool.{and_parts, or_cases}
use Rattle.kc_types.specs.Types.{Ty, Class, Args, none, more, HeadParam, Heads, Given, up, star_bound, class_given}
use Rattle.kc_types.specs.Supertypes.{IsIn, here, later, above, is_class}
use Rattle.kc_types.specs.Subtype.{read, contains_with, all_with, above_with, fits_with, any_fits, class_choices, is_empty, is_anything, layer, below, perhaps}
use Rattle.kc_types.specs.Decided.{Decided}
use Rattle.kc_types.proofs.Exacts.{neither}
use Rattle.kc_types.proofs.Sound.{another, one_class}
use Rattle.kc_types.proofs.Grows.{and_true, or_left, or_right, contains_grows, all_grow, above_grow, fits_grow, any_grow, layer_grows, below_grows}

no : {A : Type 0} → false ≡ true → A
no e = absurd (cc)

pub perhaps_falls : (h : Heads) (n m : ℕ) → n ≤ m → (a b : Ty) → perhaps m h a b ≡ true → perhaps n h a b ≡ true
perhaps_falls h zero m le a b e = refl
perhaps_falls h (suc n) zero le a b e = absurd (omega (arith, le))
perhaps_falls h (suc n) (suc m) le a b e = ⊎_elim
    (λ q. or_left (is_anything h b) (layer (perhaps n h) h a b) q)
    (λ q. or_right (is_anything h b) (layer (perhaps n h) h a b) (layer_grows h (perhaps m h) (perhaps n h) (perhaps_falls h n m (omega (arith, le))) a b q))
    (or_cases (is_anything h b) (layer (perhaps m h) h a b) e)

pub below_perhaps : (h : Heads) (n : ℕ) (a b : Ty) → below n h a b ≡ true → perhaps n h a b ≡ true
below_perhaps h zero a b e = refl
below_perhaps h (suc n) a b e = ⊎_elim
    (λ q. or_left (is_anything h b) (layer (perhaps n h) h a b) q)
    (λ q. or_right (is_anything h b) (layer (perhaps n h) h a b) (layer_grows h (below n h) (perhaps n h) (below_perhaps h n) a b q))
    (or_cases (is_anything h b) (layer (below n h) h a b) e)

and_left_false : (a b : Bool) → a ≡ false → (a && b) ≡ false
and_left_false false b e = refl
and_left_false true b e = no (sym e)

and_right_false : (a b : Bool) → b ≡ false → (a && b) ≡ false
and_right_false false b e = refl
and_right_false true b e = e

-- what is asked of the levels below
abbrev pub Question : Type 0
Question = (Ty → Ty → Bool) → Bool

abbrev pub Monotone : Question → Type 0
Monotone f = (go more_of : Ty → Ty → Bool) → ((a b : Ty) → go a b ≡ true → more_of a b ≡ true) → f go ≡ true → f more_of ≡ true

module _ (h : Heads) where
  abbrev pub Yes : Question → Type 0
  Yes f = (n : ℕ) × (f (below n h) ≡ true)

  abbrev pub No : Question → Type 0
  No f = (n : ℕ) × (f (perhaps n h) ≡ false)

  abbrev pub Settled : Question → Type 0
  Settled f = Yes f ⊎ No f

  abbrev pub Ask : Ty → Ty → Type 0
  Ask a b = Settled (λ go. go a b)

  abbrev pub Holds : Ty → Ty → Type 0
  Holds a b = Yes (λ go. go a b)

  yes_grows : (f : Question) → Monotone f → (n m : ℕ) → n ≤ m → f (below n h) ≡ true → f (below m h) ≡ true
  yes_grows f g n m le e = g (below n h) (below m h) (below_grows h n m le) e

  not_true : (f : Question) → Monotone f → (n m : ℕ) → n ≤ m → f (perhaps n h) ≡ false → (b : Bool) → f (perhaps m h) ≡ b → f (perhaps m h) ≡ false
  not_true f g n m le e true q = no (sym e ∙ g (perhaps m h) (perhaps n h) (perhaps_falls h n m le) q)
  not_true f g n m le e false q = q

  no_grows : (f : Question) → Monotone f → (n m : ℕ) → n ≤ m → f (perhaps n h) ≡ false → f (perhaps m h) ≡ false
  no_grows f g n m le e = not_true f g n m le e (f (perhaps m h)) refl

  pub constant : (b : Bool) → Settled (λ go. b)
  constant true = inl (zero, refl)
  constant false = inr (zero, refl)

  pub both : (f g : Question) → Monotone f → Monotone g → Settled f → (Yes f → Settled g) → Settled (λ go. f go && g go)
  both f g mf mg (inr s) r = inr (s.0, and_left_false (f (perhaps s.0 h)) (g (perhaps s.0 h)) s.1)
  both f g mf mg (inl s) r = ⊎_elim
      (λ q. inl (max s.0 q.0, and_true (f (below (max s.0 q.0) h)) (g (below (max s.0 q.0) h)) (yes_grows f mf s.0 (max s.0 q.0) (omega arith) s.1) (yes_grows g mg q.0 (max s.0 q.0) (omega arith) q.1)))
      (λ q. inr (q.0, and_right_false (f (perhaps q.0 h)) (g (perhaps q.0 h)) q.1))
      (r s)

  pub either : (f g : Question) → Monotone f → Monotone g → Settled f → Settled g → Settled (λ go. f go || g go)
  either f g mf mg (inl s) r = inl (s.0, or_left (f (below s.0 h)) (g (below s.0 h)) s.1)
  either f g mf mg (inr s) (inl r) = inl (r.0, or_right (f (below r.0 h)) (g (below r.0 h)) r.1)
  either f g mf mg (inr s) (inr r) =
      inr (max s.0 r.0, neither (f (perhaps (max s.0 r.0) h)) (g (perhaps (max s.0 r.0) h)) (no_grows f mf s.0 (max s.0 r.0) (omega arith) s.1) (no_grows g mg r.0 (max s.0 r.0) (omega arith) r.1))

  -- a level further up
  anything_first : (a b : Ty) (v : Bool) → is_anything h b ≡ v → No (λ go. layer go h a b) → Ask a b
  anything_first a b true q s = inl (1, or_left (is_anything h b) (layer (below 0 h) h a b) q)
  anything_first a b false q s = inr (suc s.0, neither (is_anything h b) (layer (perhaps s.0 h) h a b) q s.1)

  pub asked : (a b : Ty) → Settled (λ go. layer go h a b) → Ask a b
  asked a b (inl s) = inl (suc s.0, or_right (is_anything h b) (layer (below s.0 h) h a b) s.1)
  asked a b (inr s) = anything_first a b (is_anything h b) refl s

  pub decided : (a b : Ty) → Ask a b → (n : ℕ) × Decided h n a b
  decided a b (inl s) = (s.0, s.1 ∙ sym (below_perhaps h s.0 a b s.1))
  decided a b (inr s) = (s.0, refused (below s.0 h a b) refl ∙ sym s.1)
    where
      refused : (v : Bool) → below s.0 h a b ≡ v → below s.0 h a b ≡ false
      refused true q = no (sym s.1 ∙ below_perhaps h s.0 a b q)
      refused false q = q

  -- ---- lists of arguments
  abbrev pub Each_settled : (HeadParam → Ty) → List HeadParam → Args → Args → Type 0
  Each_settled tops (p ∷ ps) (more a xs) (more b ys) = Settled (λ go. contains_with go (tops p) (read p.variance a) (read p.variance b)) × Each_settled tops ps xs ys
  Each_settled tops [] none none = Unit {0}
  Each_settled tops [] none (more b ys) = Unit {0}
  Each_settled tops [] (more a xs) ys = Unit {0}
  Each_settled tops (p ∷ ps) none ys = Unit {0}
  Each_settled tops (p ∷ ps) (more a xs) none = Unit {0}

  pub all_settled : (tops : HeadParam → Ty) (ps : List HeadParam) (xs ys : Args) → Each_settled tops ps xs ys → Settled (λ go. all_with go tops ps xs ys)
  all_settled tops [] none none s = constant true
  all_settled tops (p ∷ ps) (more a xs) (more b ys) s =
      both (λ go. contains_with go (tops p) (read p.variance a) (read p.variance b)) (λ go. all_with go tops ps xs ys)
      (λ go more_of f e. contains_grows h go more_of f (tops p) (read p.variance a) (read p.variance b) e) (λ go more_of f e. all_grow h go more_of f tops ps xs ys e) s.0 (λ q. all_settled tops ps xs ys s.1)
  all_settled tops [] none (more b ys) s = constant false
  all_settled tops [] (more a xs) ys s = constant false
  all_settled tops (p ∷ ps) none ys s = constant false
  all_settled tops (p ∷ ps) (more a xs) none s = constant false

  -- ---- classes
  of_other : (b : Bool) (t u : Ty) → (b ≡ false → Ask t u) → Settled (λ go. elim b [ true ↦ false | false ↦ go t u ])
  of_other true t u s = constant false
  of_other false t u s = s refl

  other_grows : (b : Bool) (t u : Ty) → Monotone (λ go. elim b [ true ↦ false | false ↦ go t u ])
  other_grows true t u go more_of f e = e
  other_grows false t u go more_of f e = f t u e

  above_settled : (gs : List Given) (c : ℕ) (b : Ty) (ts : List Ty) → ((t : Ty) → IsIn Ty t ts → is_class c t ≡ false → Ask (up h gs t) b) → Settled (λ go. above_with go h gs c b ts)
  above_settled gs c b [] s = constant false
  above_settled gs c b (t ∷ ts) s =
      either (λ go. elim (is_class c t) [ true ↦ false | false ↦ go (up h gs t) b ]) (λ go. above_with go h gs c b ts) (other_grows (is_class c t) (up h gs t) b)
      (λ go more_of f e. above_grow h go more_of f gs c b ts e) (of_other (is_class c t) (up h gs t) b (λ q. s t here q)) (above_settled gs c b ts (λ u i. s u (later i)))

  of_same : (b : Bool) (f : Question) → (b ≡ true → Settled f) → Settled (λ go. elim b [ true ↦ f go | false ↦ false ])
  of_same true f s = s refl
  of_same false f s = constant false

  same_grows : (b : Bool) (f : Question) → Monotone f → Monotone (λ go. elim b [ true ↦ f go | false ↦ false ])
  same_grows true f m go more_of g e = m go more_of g e
  same_grows false f m go more_of g e = e

  -- from a list of arguments: by these, or on from each supertype
  abbrev pub Ways_settled : ℕ → Args → ℕ → Args → Type 0
  Ways_settled c us d ys = (c ≡ d → Each_settled (star_bound h c) (h.params c) us ys) × ((t : Ty) → IsIn Ty t (above h c) → is_class c t ≡ false → Ask (up h (class_given h c us) t) (Class d ys))

  fits_settled : (c : ℕ) (us : Args) (d : ℕ) (ys : Args) → Ways_settled c us d ys → Settled (λ go. fits_with go h c us d ys)
  fits_settled c us d ys s =
      either (λ go. elim (nat_eq c d) [ true ↦ all_with go (star_bound h c) (h.params c) us ys | false ↦ false ]) (λ go. above_with go h (class_given h c us) c (Class d ys) (above h c))
      (same_grows (nat_eq c d) (λ go. all_with go (star_bound h c) (h.params c) us ys) (λ go more_of f e. all_grow h go more_of f (star_bound h c) (h.params c) us ys e))
      (λ go more_of f e. above_grow h go more_of f (class_given h c us) c (Class d ys) (above h c) e)
      (of_same (nat_eq c d) (λ go. all_with go (star_bound h c) (h.params c) us ys) (λ q. all_settled (star_bound h c) (h.params c) us ys (s.0 (eqb-true c d q))))
      (above_settled (class_given h c us) c (Class d ys) (above h c) s.1)

  any_settled : (c : ℕ) (xss : List Args) (d : ℕ) (ys : Args) → ((us : Args) → IsIn Args us xss → Ways_settled c us d ys) → Settled (λ go. any_fits go h c xss d ys)
  any_settled c [] d ys s = constant false
  any_settled c (us ∷ xss) d ys s =
      either (λ go. fits_with go h c us d ys) (λ go. any_fits go h c xss d ys)
      (λ go more_of f e. fits_grow h go more_of f c us d ys e) (λ go more_of f e. any_grow h go more_of f c xss d ys e)
      (fits_settled c us d ys (s us here)) (any_settled c xss d ys (λ vs i. s vs (later i)))

  pub class_settled : (c : ℕ) (xs : Args) (d : ℕ) (ys : Args) → ((us : Args) → IsIn Args us (class_choices h c xs) → Ways_settled c us d ys) → Ask (Class c xs) (Class d ys)
  class_settled c xs d ys s = asked (Class c xs) (Class d ys)
      (either (λ go. nat_eq d h.any && is_empty ys) (λ go. any_fits go h c (class_choices h c xs) d ys) (λ go more_of f e. e) (λ go more_of f e. any_grow h go more_of f c (class_choices h c xs) d ys e)
      (constant (nat_eq d h.any && is_empty ys)) (any_settled c (class_choices h c xs) d ys s))

  -- ---- what a yes says
  abbrev pub Way_holds : ℕ → Args → ℕ → Args → Type 0
  Way_holds c us d ys = ((c ≡ d) × Yes (λ go. all_with go (star_bound h c) (h.params c) us ys)) ⊎ ((t : Ty) × IsIn Ty t (above h c) × (is_class c t ≡ false) × Holds (up h (class_given h c us) t) (Class d ys))

  pub record Class_holds (c : ℕ) (xs : Args) (d : ℕ) (ys : Args) : Type 0 where
    pub args : Args
    pub there : IsIn Args args (class_choices h c xs)
    pub way : Way_holds c args d ys

  above_holds : (n : ℕ) (gs : List Given) (c : ℕ) (b : Ty) (ts : List Ty) → above_with (below n h) h gs c b ts ≡ true → (t : Ty) × IsIn Ty t ts × (is_class c t ≡ false) × Holds (up h gs t) b
  above_holds n gs c b [] e = no e
  above_holds n gs c b (t ∷ ts) e = ⊎_elim
      (λ q. let r = another (is_class c t) (below n h (up h gs t) b) q in (t, here, r.0, (n, r.1)))
      (λ q. let r = above_holds n gs c b ts q in (r.0, later r.1, r.2, r.3))
      (or_cases (elim (is_class c t) [ true ↦ false | false ↦ below n h (up h gs t) b ]) (above_with (below n h) h gs c b ts) e)

  fits_holds : (n c : ℕ) (us : Args) (d : ℕ) (ys : Args) → fits_with (below n h) h c us d ys ≡ true → Way_holds c us d ys
  fits_holds n c us d ys e = ⊎_elim
      (λ q. let r = one_class (nat_eq c d) (all_with (below n h) (star_bound h c) (h.params c) us ys) q in inl (eqb-true c d r.0, (n, r.1)))
      (λ q. inr (above_holds n (class_given h c us) c (Class d ys) (above h c) q))
      (or_cases (elim (nat_eq c d) [ true ↦ all_with (below n h) (star_bound h c) (h.params c) us ys | false ↦ false ]) (above_with (below n h) h (class_given h c us) c (Class d ys) (above h c)) e)

  any_holds : (n c : ℕ) (xs : Args) (xss : List Args) (d : ℕ) (ys : Args) → ((us : Args) → IsIn Args us xss → IsIn Args us (class_choices h c xs)) → any_fits (below n h) h c xss d ys ≡ true → Class_holds c xs d ys
  any_holds n c xs [] d ys i e = no e
  any_holds n c xs (us ∷ xss) d ys i e = ⊎_elim
      (λ q. record { args = us; there = i us here; way = fits_holds n c us d ys q })
      (λ q. any_holds n c xs xss d ys (λ vs j. i vs (later j)) q)
      (or_cases (fits_with (below n h) h c us d ys) (any_fits (below n h) h c xss d ys) e)

  is_none : (ys : Args) → is_empty ys ≡ true → ys ≡ none
  is_none none e = refl
  is_none (more a ys) e = no e

  class_holds_at : (n c : ℕ) (xs : Args) (d : ℕ) (ys : Args) → below n h (Class c xs) (Class d ys) ≡ true → ((d ≡ h.any) × (ys ≡ none)) ⊎ Class_holds c xs d ys
  class_holds_at zero c xs d ys e = no e
  class_holds_at (suc n) c xs d ys e = ⊎_elim
      (λ q. let r = and_parts (nat_eq d h.any) (is_empty ys) q in inl (eqb-true d h.any r.0, is_none ys r.1))
      (λ q. inr (any_holds n c xs (class_choices h c xs) d ys (λ us i. i) q))
      (or_cases (nat_eq d h.any && is_empty ys) (any_fits (below n h) h c (class_choices h c xs) d ys) e)

  pub class_holds : (c : ℕ) (xs : Args) (d : ℕ) (ys : Args) → Holds (Class c xs) (Class d ys) → ((d ≡ h.any) × (ys ≡ none)) ⊎ Class_holds c xs d ys
  class_holds c xs d ys s = class_holds_at s.0 c xs d ys s.1
