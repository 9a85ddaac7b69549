-- The words are different, so that each one goes to the end of the list.
use Rattle.std.proofs.Common.{◌≡◌, ℕ, zero, suc, ◌+◌, ◌<◌, inl, inr, List, [], ◌∷◌, ◌++◌, length, length-take-le, take, get_or, Contains, Bool, true, false, if◌then◌else◌, refl, sym, ap, ◌∙◌, arith, eqb, subst, Result, IfOk}
use Rattle.kc_text.specs.declared.errors.Memory.{Memory}
use Rattle.std.specs.Bool.{⊤, IsTrue}
use Rattle.std.specs.Char.{is_ascii}
use Rattle.std.specs.List.{list_all}
use Rattle.std.proofs.Math.Seq.{take-suc}
use Rattle.std.proofs.lemmas.List.{get_or-take, get_or_default}
use Rattle.kc_text.specs.NameList.{AddsOnce}
use Rattle.kt_grammar.specs.Reserved.{reserved}

abbrev same : List ℕ → List ℕ → Bool
same [] [] = true
same (x ∷ xs) (y ∷ ys) = if eqb x y then same xs ys else false
same _ _ = false

-- the first place with the word
abbrev place : List (List ℕ) → List ℕ → ℕ
place [] w = 0
place (x ∷ xs) w = if same x w then 0 else suc (place xs w)

abbrev Counted : (List ℕ → ℕ) → List (List ℕ) → ℕ → Type 0
Counted f [] k = ⊤
Counted f (x ∷ xs) k = (f x ≡ k) × Counted f xs (suc k)

counted_at : (f : List ℕ → ℕ) (xs : List (List ℕ)) (k n : ℕ) → Counted f xs k → n < length xs → f (get_or xs n []) ≡ k + n
counted_at f [] k n c h = absurd (omega (arith, h))
counted_at f (x ∷ xs) k zero c h = omega (arith, c.0)
counted_at f (x ∷ xs) k (suc n) c h = omega (arith, counted_at f xs (suc k) n c.1 (omega (arith, h)))

all_counted : Counted (place reserved) reserved 0
all_counted = (refl, (refl, (refl, (refl, (refl, (refl, (refl, (refl, (refl, (refl, (refl, (refl, (refl, (refl, (refl, (refl, (refl, (refl, (refl, (refl, (refl, (refl, (refl, (refl, (refl, (refl, tt))))))))))))))))))))))))))

placed : (n : ℕ) → n < 26 → place reserved (get_or reserved n []) ≡ n
placed n h = omega (arith, counted_at (place reserved) reserved 0 n all_counted h)

-- a word is not among those before it
fresh : (n : ℕ) → n < 26 → Contains (take n reserved) (get_or reserved n []) → ⊥
fresh n h c =
    let size : length (take n reserved) ≡ n = length-take-le n reserved (omega (arith, h)) in
    let before : c.0 < n = omega (arith, c.1, size) in
    let word : get_or reserved c.0 [] ≡ get_or reserved n [] = get_or_default reserved c.0 [] (get_or reserved n []) (omega (arith, before, h)) ∙ sym (get_or-take n reserved c.0 (get_or reserved n []) before) ∙ c.2 in
    omega (arith, before, placed c.0 (omega (arith, before, h)), placed n h, ap (place reserved) word)

pub added : (n : ℕ) (old new : List (List ℕ)) (w : List ℕ) → n < 26 → old ≡ take n reserved → w ≡ get_or reserved n [] → AddsOnce old new w → new ≡ take (n + 1) reserved
added n old new w h f g (inl c) = absurd (fresh n h (subst (λ (x : List (List ℕ)). Contains x (get_or reserved n [])) f (subst (λ (v : List ℕ). Contains old v) g c.0)))
added n old new w h f g (inr c) = c.1 ∙ ap (λ (x : List (List ℕ)). x ++ w ∷ []) f ∙ ap (λ (v : List ℕ). take n reserved ++ v ∷ []) g ∙ sym (take-suc reserved n [] h) ∙ ap (λ (m : ℕ). take m reserved) (let k : suc n ≡ n + 1 = omega arith in k)

-- ---- what the texts of words are

abbrev AllAscii : List (List ℕ) → Type 0
AllAscii [] = ⊤
AllAscii (x ∷ xs) = IsTrue (list_all is_ascii x) × AllAscii xs

ascii_at : (xs : List (List ℕ)) (n : ℕ) → AllAscii xs → n < length xs → IsTrue (list_all is_ascii (get_or xs n []))
ascii_at [] n a h = absurd (omega (arith, h))
ascii_at (x ∷ xs) zero a h = a.0
ascii_at (x ∷ xs) (suc n) a h = ascii_at xs n a.1 (omega (arith, h))

all_ascii : AllAscii reserved
all_ascii = (refl, (refl, (refl, (refl, (refl, (refl, (refl, (refl, (refl, (refl, (refl, (refl, (refl, (refl, (refl, (refl, (refl, (refl, (refl, (refl, (refl, (refl, (refl, (refl, (refl, (refl, tt))))))))))))))))))))))))))

pub text_is : (r : Result (List ℕ) Memory) (w : List ℕ) (n : ℕ) → n < 26 → w ≡ get_or reserved n [] → (IsTrue (list_all is_ascii w) → IfOk r (λ u. u ≡ w)) → IfOk r (λ u. u ≡ get_or reserved n [])
text_is r w n h f g = subst (λ (v : List ℕ). IfOk r (λ u. u ≡ v)) f (g (subst (λ (v : List ℕ). IsTrue (list_all is_ascii v)) (sym f) (ascii_at reserved n all_ascii h)))
