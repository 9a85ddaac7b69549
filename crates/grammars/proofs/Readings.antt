-- Lemmas on readings of any grammar.
use Rattle.std.proofs.Common.{◌≡◌, ℕ, Bool, true, false, List, [], ◌∷◌, ◌++◌, refl, sym, ap, subst, ◌∙◌, zero, suc, ◌<◌, ◌≤◌, ◌+◌, length, length-append, arith, append_assoc, true≢false}
use Rattle.grammars.specs.Grammar.{Test, Part, guard, Cst, node, pair, left, right, first, Derives, d_nothing, d_one, d_row, d_both, d_left, d_right, d_more, d_done, d_guard, Reads, r_nothing, r_one, r_row, r_both, r_left, r_right, r_more, r_done, r_guard, Settled}

pub never : {B : Type 0} {b : Bool} → b ≡ true → b ≡ false → B
never p q = absurd (true≢false (sym p ∙ q))

pub first_alike : {A : Type 0} (p r s : List A) → first r ≡ first s → first (p ++ r) ≡ first (p ++ s)
first_alike [] r s e = e
first_alike (t ∷ p) r s e = refl

-- a list cut behind so many tokens, where one more stands
pub record Behind {A : Type 0} (n : ℕ) (ts : List A) : Type 0 where
  pub front : List A
  pub back : List A
  pub split : ts ≡ front ++ back
  pub size : length front ≡ n
  pub more : 0 < length back

pub behind : {A : Type 0} (n : ℕ) (ts : List A) → n < length ts → Behind n ts
behind zero ts h = record { front = []; back = ts; split = refl; size = refl; more = h }
behind (suc n) [] h = absurd (omega (arith, h))
behind (suc n) (t ∷ ts) h = let b = behind n ts (omega (arith, h)) in
    record { front = t ∷ b.front; back = b.back; split = ap (λ m. t ∷ m) b.split; size = omega (arith, b.size); more = b.more }

first_front : {A : Type 0} (q r s : List A) → 0 < length q → first (q ++ r) ≡ first (q ++ s)
first_front [] r s h = absurd (omega (arith, h))
first_front (t ∷ q) r s h = refl

module _ {A : Type 0} (f : Test A) where
  -- a test that looks at tokens of a front alone says the same whatever follows the front
  pub holds_front : (p r s ts : List A) → ts ≡ p ++ r → f.far ts < length p → f.holds (p ++ s) ≡ f.holds ts
  holds_front p r s ts split h =
      let b = behind (f.far ts) p h in
      let whole : ts ≡ b.front ++ (b.back ++ r) = split ∙ ap (λ m. m ++ r) b.split ∙ append_assoc b.front b.back r in
      ap (λ m. f.holds (m ++ s)) b.split ∙ ap (λ m. f.holds m) (append_assoc b.front b.back s)
      ∙ f.says b.front (b.back ++ r) (b.back ++ s) (omega (arith, b.size, ap (λ m. f.far m) whole)) (first_front b.back r s b.more)
      ∙ ap (λ m. f.holds m) (sym whole)

  pub far_front : (p r s ts : List A) → ts ≡ p ++ r → f.far ts < length p → f.far (p ++ s) ≡ f.far ts
  far_front p r s ts split h =
      let b = behind (f.far ts) p h in
      let whole : ts ≡ b.front ++ (b.back ++ r) = split ∙ ap (λ m. m ++ r) b.split ∙ append_assoc b.front b.back r in
      ap (λ m. f.far (m ++ s)) b.split ∙ ap (λ m. f.far m) (append_assoc b.front b.back s)
      ∙ f.looks b.front (b.back ++ r) (b.back ++ s) (omega (arith, b.size, ap (λ m. f.far m) whole)) (first_front b.back r s b.more)
      ∙ ap (λ m. f.far m) (sym whole)

  no_end : (ts : List A) → ts ≡ ts ++ []
  no_end [] = refl
  no_end (t ∷ ts) = ap (λ m. t ∷ m) (no_end ts)

  pub holds_on : (ts s : List A) → f.far ts < length ts → f.holds (ts ++ s) ≡ f.holds ts
  holds_on ts s h = holds_front ts [] s ts (no_end ts) h

  pub far_on : (ts s : List A) → f.far ts < length ts → f.far (ts ++ s) ≡ f.far ts
  far_on ts s h = far_front ts [] s ts (no_end ts) h

  -- other tokens behind the next one make no difference where the test has looked at none of them
  pub holds_at : (p r s ts : List A) {b : Bool} → ts ≡ p ++ r → length r + f.far ts ≤ length ts → first r ≡ first s → f.holds ts ≡ b → f.holds (p ++ s) ≡ b
  holds_at p r s ts split le e h =
      f.says p r s (omega (arith, le, ap length split, length-append p r, ap (λ m. f.far m) split)) e ∙ ap (λ m. f.holds m) (sym split) ∙ h

  pub far_at : (p r s ts : List A) → ts ≡ p ++ r → length r + f.far ts ≤ length ts → first r ≡ first s → f.far (p ++ s) ≡ f.far ts
  far_at p r s ts split le e =
      f.looks p r s (omega (arith, le, ap length split, length-append p r, ap (λ m. f.far m) split)) e ∙ ap (λ m. f.far m) (sym split)

module _ {R A : Type 0} (G : R → Part R A) where
  -- a reading is a derivation
  pub derives : {a : Part R A} {ts r : List A} {x : Cst A} → Reads G a ts x r → Derives G a ts x r
  derives r_nothing = d_nothing
  derives (r_one h) = d_one h
  derives (r_row d) = d_row (derives d)
  derives (r_both d e) = d_both (derives d) (derives e)
  derives (r_left h d) = d_left (derives d)
  derives (r_right h d) = d_right (derives d)
  derives (r_more h d e) = d_more (derives d) (derives e)
  derives (r_guard h d p) = d_guard h (derives d) p
  derives (r_done h) = d_done

  -- more tokens may follow
  pub followed : {a : Part R A} {ts r : List A} {x : Cst A} → Derives G a ts x r → (s : List A) → Derives G a (ts ++ s) x (r ++ s)
  followed d_nothing s = d_nothing
  followed (d_one h) s = d_one h
  followed (d_row d) s = d_row (followed d s)
  followed (d_both d e) s = d_both (followed d s) (followed e s)
  followed (d_left d) s = d_left (followed d s)
  followed (d_right d) s = d_right (followed d s)
  followed (d_more d e) s = d_more (followed d s) (followed e s)
  followed (d_guard {f = f} {ts = ts} {r = r} h d p) s =
      let inside : f.far ts < length ts = omega (arith, p) in
      d_guard (holds_on f ts s inside ∙ h) (followed d s) (omega (arith, length-append r s, length-append ts s, p, far_on f ts s inside))
  followed d_done s = d_done

  pub along : {a : Part R A} {ts ts' r : List A} {x : Cst A} → ts ≡ ts' → Reads G a ts x r → Reads G a ts' x r
  along {a = a} {r = r} {x = x} e d = subst (λ m. Reads G a m x r) e d

  pub along_d : {a : Part R A} {ts ts' r : List A} {x : Cst A} → ts ≡ ts' → Derives G a ts x r → Derives G a ts' x r
  along_d {a = a} {r = r} {x = x} e d = subst (λ m. Derives G a m x r) e d

  -- the tokens that a reading takes
  pub record Front (a : Part R A) (ts : List A) (x : Cst A) (r : List A) : Type 0 where
    pub front : List A
    pub split : ts ≡ front ++ r
    pub derive : (s : List A) → Derives G a (front ++ s) x s

  joined : {a b c : Part R A} {ts r s : List A} {x y z : Cst A}
      → ((p q o : List A) → Derives G a p x q → Derives G b q y o → Derives G c p z o) → Front a ts x r → Front b r y s → Front c ts z s
  joined {s = s} make k l = record {
    front = k.front ++ l.front;
    split = k.split ∙ ap (λ m. k.front ++ m) l.split ∙ sym (append_assoc k.front l.front s);
    derive = λ q. make _ _ _ (along_d (sym (append_assoc k.front l.front q)) (k.derive (l.front ++ q))) (l.derive q);
  }

  front_of_guard : {f : Test A} {a : Part R A} {ts r : List A} {x : Cst A} → f.holds ts ≡ true → length r + f.far ts < length ts → Front a ts x r → Front (guard f a) ts (node x) r
  front_of_guard {f = f} {ts = ts} {r = r} h p k = record {
    front = k.front;
    split = k.split;
    derive = λ s. d_guard (holds_front f k.front r s ts k.split inside ∙ h) (k.derive s) (omega (arith, inside, length-append k.front s, far_front f k.front r s ts k.split inside));
  }
    where
      inside : f.far ts < length k.front
      inside = omega (arith, p, ap length k.split, length-append k.front r)

  pub front_of : {a : Part R A} {ts r : List A} {x : Cst A} → Reads G a ts x r → Front a ts x r
  front_of r_nothing = record { front = []; split = refl; derive = λ s. d_nothing }
  front_of (r_one {t = t} h) = record { front = t ∷ []; split = refl; derive = λ s. d_one h }
  front_of (r_row d) = let k = front_of d in record { front = k.front; split = k.split; derive = λ s. d_row (k.derive s) }
  front_of (r_both d e) = joined (λ p q o d e. d_both d e) (front_of d) (front_of e)
  front_of (r_left h d) = let k = front_of d in record { front = k.front; split = k.split; derive = λ s. d_left (k.derive s) }
  front_of (r_right h d) = let k = front_of d in record { front = k.front; split = k.split; derive = λ s. d_right (k.derive s) }
  front_of (r_more h d e) = joined (λ p q o d e. d_more d e) (front_of d) (front_of e)
  front_of (r_guard h d p) = front_of_guard h p (front_of d)
  front_of (r_done h) = record { front = []; split = refl; derive = λ s. d_done }

  -- the same is read where tokens behind the next one differ that no test has looked at
  pub record Carried (a : Part R A) (ts : List A) (x : Cst A) (back q s : List A) : Type 0 where
    pub before : List A
    pub split : ts ≡ before ++ q
    pub reads : Reads G a (before ++ s) x (back ++ s)

  pub carry : {a : Part R A} {ts r : List A} {x : Cst A} (d : Reads G a ts x r) (back q s : List A) → r ≡ back ++ q → Settled (length q) d → first q ≡ first s → Carried a ts x back q s
  carry r_nothing back q s e w n = record { before = back; split = e; reads = r_nothing }
  carry (r_one {t = t} h) back q s e w n = record { before = t ∷ back; split = ap (λ m. t ∷ m) e; reads = r_one h }
  carry (r_row d) back q s e w n = let k = carry d back q s e w n in record { before = k.before; split = k.split; reads = r_row k.reads }
  carry (r_both d1 d2) back q s e w n =
      let k2 = carry d2 back q s e w.1 n in
      let k1 = carry d1 k2.before q s k2.split w.0 n in
      record { before = k1.before; split = k1.split; reads = r_both k1.reads k2.reads }
  carry (r_left {f = f} {ts = ts} h d) back q s e w n =
      let k = carry d back q s e w.1 n in
      record { before = k.before; split = k.split; reads = r_left (holds_at f k.before q s ts k.split w.0 n h) k.reads }
  carry (r_right {f = f} {ts = ts} h d) back q s e w n =
      let k = carry d back q s e w.1 n in
      record { before = k.before; split = k.split; reads = r_right (holds_at f k.before q s ts k.split w.0 n h) k.reads }
  carry (r_more {f = f} {ts = ts} h d1 d2) back q s e w n =
      let k2 = carry d2 back q s e w.2 n in
      let k1 = carry d1 k2.before q s k2.split w.1 n in
      record { before = k1.before; split = k1.split; reads = r_more (holds_at f k1.before q s ts k1.split w.0 n h) k1.reads k2.reads }
  carry (r_done {f = f} {ts = ts} h) back q s e w n = record { before = back; split = e; reads = r_done (holds_at f back q s ts e w n h) }
  carry (r_guard {f = f} {ts = ts} {r = r} h d p) back q s e w n =
      let k = carry d back q s e w.1 n in
      record {
        before = k.before;
        split = k.split;
        reads = r_guard (holds_at f k.before q s ts k.split w.0 n h) k.reads
            (omega (arith, p, ap length e, ap length k.split, length-append back q, length-append back s, length-append k.before q, length-append k.before s, far_at f k.before q s ts k.split w.0 n));
      }

  -- there is one reading at most
  pub record Same (x x' : Cst A) (r r' : List A) : Type 0 where
    pub tree : x ≡ x'
    pub rest : r ≡ r'

  pairs : {x x' y y' : Cst A} → x ≡ x' → y ≡ y' → pair x y ≡ pair x' y'
  pairs p q = cc

  pub one_reading : {a : Part R A} {ts r r' : List A} {x x' : Cst A} → Reads G a ts x r → Reads G a ts x' r' → Same x x' r r'
  one_reading r_nothing r_nothing = record { tree = refl; rest = refl }
  one_reading (r_one h) (r_one h') = record { tree = refl; rest = refl }
  one_reading (r_row d) (r_row d') = let e = one_reading d d' in record { tree = ap node e.tree; rest = e.rest }
  one_reading (r_both d1 d2) (r_both e1 e2) =
      let u = one_reading d1 e1 in
      let v = one_reading d2 (along (sym u.rest) e2) in
      record { tree = pairs u.tree v.tree; rest = v.rest }
  one_reading (r_left h d) (r_left h' d') = let e = one_reading d d' in record { tree = ap left e.tree; rest = e.rest }
  one_reading (r_left h d) (r_right h' d') = never h h'
  one_reading (r_right h d) (r_left h' d') = never h' h
  one_reading (r_right h d) (r_right h' d') = let e = one_reading d d' in record { tree = ap right e.tree; rest = e.rest }
  one_reading (r_more h d1 d2) (r_more h' e1 e2) =
      let u = one_reading d1 e1 in
      let v = one_reading d2 (along (sym u.rest) e2) in
      record { tree = pairs u.tree v.tree; rest = v.rest }
  one_reading (r_more h d e) (r_done h') = never h h'
  one_reading (r_done h') (r_more h d e) = never h h'
  one_reading (r_guard h d p) (r_guard h' d' p') = let e = one_reading d d' in record { tree = ap node e.tree; rest = e.rest }
  one_reading (r_done h) (r_done h') = record { tree = refl; rest = refl }
