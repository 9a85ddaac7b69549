-- The first and the last token of a reading.
use Rattle.std.proofs.Common.{◌≡◌, ℕ, zero, suc, ◌+◌, ◌-◌, ◌<◌, ◌≤◌, List, [], ◌∷◌, ◌++◌, length, length-append, length-drop, drop, Some, None, refl, sym, ap, ◌∙◌, arith, append_assoc}
use Rattle.grammars.specs.Grammar.{Part, Cst, pair, first, Reads, r_nothing, r_one, r_row, r_both, r_left, r_right, r_more, r_done, r_guard}
use Rattle.kt_lexer.specs.declared.token.Token.{Token}
use Rattle.kt_grammar.specs.Parsed.{Read}
use Rattle.kt_grammar.specs.Rows.{Row, grammar}
use Rattle.kt_grammar.specs.TypesBuilt.{first_of, last_of, between}

pub record Ends (ts r : List Token) (x : Cst Token) : Type 0 where
  pub head : Token
  pub first_one : first_of x ≡ Some head
  pub starts : first ts ≡ Some head
  pub front : List Token
  pub token : Token
  pub last_one : last_of x ≡ Some token
  pub split : ts ≡ front ++ token ∷ r

-- a reading takes no token, or has a first and a last one
pub data Extent (ts r : List Token) (x : Cst Token) : Type 0 where
  none_taken : ts ≡ r → first_of x ≡ None → last_of x ≡ None → Extent ts r x
  some_taken : Ends ts r x → Extent ts r x

alike : {ts r : List Token} {x y : Cst Token} → first_of x ≡ first_of y → last_of x ≡ last_of y → Extent ts r x → Extent ts r y
alike e f (none_taken s p q) = none_taken s (sym e ∙ p) (sym f ∙ q)
alike e f (some_taken k) = some_taken (record { head = k.head; first_one = sym e ∙ k.first_one; starts = k.starts; front = k.front; token = k.token; last_one = sym f ∙ k.last_one; split = k.split })

joined : {ts m r : List Token} {x y : Cst Token} → Extent ts m x → Extent m r y → Extent ts r (pair x y)
joined {y = y} (none_taken e p q) (none_taken e' p' q') = none_taken (e ∙ e') (rw p p') (rw q' q)
joined (none_taken e p q) (some_taken k) = some_taken (record { head = k.head; first_one = rw p k.first_one; starts = ap first e ∙ k.starts; front = k.front; token = k.token; last_one = rw k.last_one refl; split = e ∙ k.split })
joined (some_taken k) (none_taken e p q) = some_taken (record { head = k.head; first_one = rw k.first_one refl; starts = k.starts; front = k.front; token = k.token; last_one = rw q k.last_one; split = k.split ∙ ap (λ m. k.front ++ k.token ∷ m) e })
joined {r = r} (some_taken k) (some_taken l) = some_taken (record {
  head = k.head;
  first_one = rw k.first_one refl;
  starts = k.starts;
  front = k.front ++ k.token ∷ l.front;
  token = l.token;
  last_one = rw l.last_one refl;
  split = k.split ∙ ap (λ m. k.front ++ k.token ∷ m) l.split ∙ sym (append_assoc k.front (k.token ∷ l.front) (l.token ∷ r));
})

pub extent : {a : Part Row Token} {ts r : List Token} {x : Cst Token} → Reads grammar a ts x r → Extent ts r x
extent r_nothing = none_taken refl refl refl
extent (r_one {t = t} h) = some_taken (record { head = t; first_one = refl; starts = refl; front = []; token = t; last_one = refl; split = refl })
extent (r_row d) = alike refl refl (extent d)
extent (r_both d e) = joined (extent d) (extent e)
extent (r_left h d) = alike refl refl (extent d)
extent (r_right h d) = alike refl refl (extent d)
extent (r_more h d e) = joined (extent d) (extent e)
extent (r_done h) = none_taken refl refl refl
extent (r_guard h d p) = alike refl refl (extent d)

in_front : (front : List Token) (t : Token) (r : List Token) → first (drop (length front) (front ++ t ∷ r)) ≡ Some t
in_front [] t r = refl
in_front (u ∷ front) t r = in_front front t r

behind_front : (n m : ℕ) (ts front : List Token) {t : Token} (r : List Token) → drop n ts ≡ front ++ t ∷ r → m ≡ n + length front → first (drop m ts) ≡ Some t
behind_front zero m ts front {t = t} r e i = let j : m ≡ length front = omega (arith, i) in rw (e, j) (in_front front t r)
behind_front (suc n) m [] [] r e i = absurd (cc)
behind_front (suc n) m [] (u ∷ front) r e i = absurd (cc)
behind_front (suc n) zero (u ∷ ts) front r e i = absurd (omega (arith, i))
behind_front (suc n) (suc m) (u ∷ ts) front r e i = behind_front n m ts front r e (omega (arith, i))

pub record Placed (ts : List Token) (at end : ℕ) (x : Cst Token) : Type 0 where
  pub begins : first_of x ≡ first (drop at ts)
  pub ends : last_of x ≡ first (drop (end - 1) ts)

placed_at : {ts : List Token} {at end : ℕ} {x : Cst Token} → at < end → end ≤ length ts → Extent (drop at ts) (drop end ts) x → Placed ts at end x
placed_at {ts = ts} {at = at} {end = end} lt w (none_taken e p q) =
    let size : length (drop at ts) ≡ length (drop end ts) = ap length e in absurd (omega (arith, lt, w, simp length-drop at size))
placed_at {ts = ts} {at = at} {end = end} lt w (some_taken k) =
    let size : length (drop at ts) ≡ length k.front + suc (length (drop end ts)) = ap length k.split ∙ length-append k.front (k.token ∷ drop end ts) in
    let n : end - 1 ≡ at + length k.front = omega (arith, lt, w, simp length-drop at size) in
    record { begins = k.first_one ∙ sym k.starts; ends = k.last_one ∙ sym (behind_front at (end - 1) ts k.front (drop end ts) k.split n) }

pub placed : {a : Part Row Token} {ts : List Token} {at end looked : ℕ} {x : Cst Token} → at < end → Read a ts at end looked x → Placed ts at end x
placed lt p = placed_at lt p.within (extent p.reads)

-- the place of a node from the first token of one reading to the last of another
pub between_is : {a b : Part Row Token} {ts : List Token} {at m n end l k : ℕ} {x y : Cst Token} → at < m → Read a ts at m l x → n < end → Read b ts n end k y
    → between (first (drop at ts)) (first (drop (end - 1) ts)) ≡ between (first_of x) (last_of y)
between_is lt p lt' q = rw ((placed lt p).begins, (placed lt' q).ends) refl
