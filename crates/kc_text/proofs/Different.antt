-- Lists of different texts, as the set behind them sees them.
use Rattle.std.proofs.Common.{arith, ◌≡◌, ℕ, ◌<◌, Bool, true, false, cond, List, [], ◌∷◌, ◌++◌, length, get_or, slice_get, Option, Some, None, is_some, IsSome, IfSome, ◌↔◌, Contains, length-append, nat_eq, refl, sym, ap, ◌∙◌, inl, inr, true≢false}
use Rattle.std.proofs.Math.ListN.{get_or-append}
use Rattle.std.proofs.lemmas.Bool.{cases_lt}
use Rattle.std.proofs.lemmas.Map.Keys.{apart_from_distinct}
use Rattle.std.proofs.lemmas.Map.Views.{list_any-from_Contains, Contains-from_any}
use Rattle.std.proofs.lemmas.Option.{slice_get_within, slice_get-get_or, get_or_from_slice_get}
use Rattle.std.proofs.lemmas.List.Quantifiers.{position-Some}
use Rattle.std.specs.Cmp.Lexicographic.{pointwise, bytes_decides, nat_list_eq_equiv}
use Rattle.std.specs.List.{IsDistinct, list_any, position}
use Rattle.indexmap.specs.IndexSet.{insert_key}
use Rattle.kc_text.specs.NameList.{AllDifferent, AddsOnce, KeepsNumbers}

-- the equality of texts is that of their units
pub same : (x y : List ℕ) → pointwise nat_eq x y ≡ true → x ≡ y
same x y e = (bytes_decides x y).0 e

-- two places with one text do not lie one before the other
not_before : (names : List (List ℕ)) → IsDistinct (pointwise nat_eq) names → (i j : ℕ) → i < j → j < length names → slice_get names i ≡ slice_get names j → ⊥
not_before names distinct i j before within e =
    let y = get_or names j [] in
    let at_j : slice_get names j ≡ Some y = slice_get-get_or names j [] within in
    let x_is : get_or names i [] ≡ y = get_or_from_slice_get names i y [] (e ∙ at_j) in
    true≢false (sym ((bytes_decides (get_or names i []) y).1 x_is) ∙ apart_from_distinct (pointwise nat_eq) names i j [] distinct before within)

pub AllDifferent-from_IsDistinct : (names : List (List ℕ)) → IsDistinct (pointwise nat_eq) names → AllDifferent names
AllDifferent-from_IsDistinct names distinct i j within e =
    let other = slice_get_within names j _ (sym e ∙ slice_get-get_or names i [] within) in
    elim (cases_lt i j) [
      | inl before ↦ absurd (not_before names distinct i j before other e)
      | inr after ↦ elim (cases_lt j i) [ inl before ↦ absurd (not_before names distinct j i before within (sym e)) | inr after' ↦ omega arith ]
    ]

-- what an insertion into the set does to the list
pub AddsOnce-insert_key : (old new : List (List ℕ)) (name : List ℕ) → new ≡ insert_key (pointwise nat_eq) old name → AddsOnce old new name
AddsOnce-insert_key old new name e = by (list_any (pointwise nat_eq name) old) refl e
  where
    by : (had : Bool) → list_any (pointwise nat_eq name) old ≡ had → new ≡ cond had old (old ++ name ∷ []) → AddsOnce old new name
    by true is e = inl (Contains-from_any same name old is, e)
    by false is e = inr (λ there. true≢false (sym (list_any-from_Contains nat_list_eq_equiv name old there) ∙ is), e)

pub KeepsNumbers-from_AddsOnce : (old new : List (List ℕ)) (name : List ℕ) → AddsOnce old new name → KeepsNumbers old new
KeepsNumbers-from_AddsOnce old new name adds n within = elim adds [
  | inl had ↦ ap (λ names. slice_get names n) had.1
  | inr gained ↦
      let inside : n < length (old ++ name ∷ []) = simp length-append (omega arith) in
      ap (λ names. slice_get names n) gained.1 ∙ slice_get-get_or (old ++ name ∷ []) n [] inside ∙ ap Some (get_or-append old (name ∷ []) [] n within) ∙ sym (slice_get-get_or old n [] within)
]

-- what a search of the set finds
pub found_number : (names : List (List ℕ)) (name : List ℕ) (r : Option ℕ) → r ≡ position (pointwise nat_eq name) names → IfSome r (λ n. slice_get names n ≡ Some name)
found_number names name None e = tt
found_number names name (Some n) e =
    let at = position-Some (pointwise nat_eq name) names n [] (sym e) in
    slice_get-get_or names n [] at.0 ∙ ap Some (sym (same name (get_or names n []) at.1))

pub found_listed : (names : List (List ℕ)) (name : List ℕ) (r : Option ℕ) → is_some r ≡ list_any (pointwise nat_eq name) names → IsSome r ↔ Contains names name
found_listed names name None e = (λ some. absurd (true≢false (sym some)), λ there. absurd (true≢false (sym (list_any-from_Contains nat_list_eq_equiv name names there) ∙ sym e)))
found_listed names name (Some n) e = (λ some. Contains-from_any same name names (sym e), λ there. refl)
