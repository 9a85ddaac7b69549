-- The slots of a pool, by the places of its entries.
use Rattle.std.proofs.Common.{◌≡◌, ℕ, zero, suc, ◌+◌, ◌-◌, ◌<◌, ◌≤◌, Bool, true, List, [], ◌∷◌, ◌++◌, length, get_or, Option, Some, None, Contains, refl, sym, ap, subst, ◌∙◌, arith, append_assoc, length-append, true≢false}
use Rattle.std.specs.Prelude.{slice_get, map, All}
use Rattle.std.specs.Option.{option_map}
use Rattle.std.specs.Map.{lookup, keys_of}
use Rattle.std.specs.Cmp.{IsEquivalence}
use Rattle.std.proofs.lemmas.Option.{slice_get-map, slice_get_within, slice_get-get_or, get_or_from_slice_get}
use Rattle.std.proofs.lemmas.List.{map-append, length-map}
use Rattle.std.proofs.lemmas.List.Elements.{All-contains, All-append}
use Rattle.std.proofs.lemmas.Map.Views.{Contains-from_lookup, IsSome-lookup_from_Contains}
use Rattle.class_file.specs.declared.pool.Entry.{Entry}
use Rattle.class_file.specs.declared.pool.Entry.TheVariants.{Long}
use Rattle.class_file.specs.Pools.{Slots, entry_at, flat}
use Rattle.class_file.specs.Indexing.{slot_of, slots_of, StandsAt, IsIndex, added, places_of}

-- the first slot of the rest
get_past : (old : Slots) (x : Option Entry) (rest : Slots) → slice_get (old ++ x ∷ rest) (length old) ≡ Some x
get_past [] x rest = refl
get_past (y ∷ old) x rest = get_past old x rest

key_past : (keys : List Entry) (e : Entry) (rest : List Entry) → slice_get (keys ++ e ∷ rest) (length keys) ≡ Some e
key_past [] e rest = refl
key_past (k ∷ keys) e rest = key_past keys e rest

get_before : {A : Type 0} (old more : List A) (i : ℕ) (x : A) → slice_get old i ≡ Some x → slice_get (old ++ more) i ≡ Some x
get_before [] more i x e = absurd cc
get_before (y ∷ old) more zero x e = e
get_before (y ∷ old) more (suc i) x e = get_before old more i x e

-- what an entry adds to the places: its own, and nothing behind a Long
abbrev pub places_added : Option ℕ → Entry → List (Option ℕ)
places_added p (Long x) = p ∷ None ∷ []
places_added p e = p ∷ []

pub places_added-two : (p : Option ℕ) (e : Entry) → places_of e ≡ 2 → places_added p e ≡ p ∷ None ∷ []
places_added-two p (Long x) h = refl
places_added-two p e h = absurd (omega arith)

pub places_added-one : (p : Option ℕ) (e : Entry) → ¬ (places_of e ≡ 2) → places_added p e ≡ p ∷ []
places_added-one p (Long x) h = absurd (h refl)
places_added-one p e h = refl

slots_added : (keys : List Entry) (e : Entry) (p : Option ℕ) → slot_of keys p ≡ Some e → map (slot_of keys) (places_added p e) ≡ added e
slots_added keys (Long x) p h = ap (λ (o : Option Entry). o ∷ None ∷ []) h
slots_added keys e p h = ap (λ (o : Option Entry). o ∷ []) h

module _ (keys : List Entry) (places : List (Option ℕ)) (stays : (more : List Entry) → map (slot_of (keys ++ more)) places ≡ map (slot_of keys) places) (e : Entry) where
  -- what more places stand for, among more entries
  grown : (more : List Entry) → map (slot_of (keys ++ e ∷ more)) (places ++ places_added (Some (length keys)) e) ≡ map (slot_of keys) places ++ added e
  grown more =
      map-append (slot_of (keys ++ e ∷ more)) places (places_added (Some (length keys)) e)
      ∙ ap (λ (s : Slots). s ++ map (slot_of (keys ++ e ∷ more)) (places_added (Some (length keys)) e)) (stays (e ∷ more))
      ∙ ap (λ (s : Slots). map (slot_of keys) places ++ s) (slots_added (keys ++ e ∷ more) e (Some (length keys)) (key_past keys e more))

  pub slots_grown : slots_of (keys ++ e ∷ []) (places ++ places_added (Some (length keys)) e) ≡ slots_of keys places ++ added e
  slots_grown = ap (λ (s : Slots). None ∷ s) (grown [])

  still_stays : (more : List Entry) → map (slot_of ((keys ++ e ∷ []) ++ more)) (places ++ places_added (Some (length keys)) e) ≡ map (slot_of (keys ++ e ∷ [])) (places ++ places_added (Some (length keys)) e)
  still_stays more = ap (λ (ks : List Entry). map (slot_of ks) (places ++ places_added (Some (length keys)) e)) (append_assoc keys (e ∷ []) more) ∙ grown more ∙ sym (grown [])

at_flat : (o : Option (Option Entry)) (e : Entry) → flat o ≡ Some e → o ≡ Some (Some e)
at_flat (Some (Some x)) e h = ap Some h
at_flat (Some None) e h = absurd cc
at_flat None e h = absurd cc

still_stands : (old more : Slots) (x : Entry × ℕ) → StandsAt old x → StandsAt (old ++ more) x
still_stands old more x (p, h) = (p, ap flat (get_before old more x.1 (Some x.0) (at_flat (slice_get old x.1) x.0 h)))

all_still : (old more : Slots) (es : List (Entry × ℕ)) → All (StandsAt old) es → All (StandsAt (old ++ more)) es
all_still old more es h k d lt = still_stands old more (get_or es k d) (h k d lt)

first_added : (old : Slots) (e : Entry) → slice_get (old ++ added e) (length old) ≡ Some (Some e)
first_added old (Long x) = get_past old (Some (Long x)) (None ∷ [])
first_added old e = get_past old (Some e) []

pub at_end : (old : Slots) (e : Entry) → entry_at (old ++ added e) (length old) ≡ Some e
at_end old e = ap flat (first_added old e)

length_added : (p : Option ℕ) (e : Entry) → length (places_added p e) ≡ places_of e
length_added p (Long x) = refl
length_added p e = refl

alone : (slots : Slots) (x : Entry × ℕ) → StandsAt slots x → All (StandsAt slots) (x ∷ [])
alone slots x h k d lt = let z : k ≡ 0 = omega arith in subst (λ (n : ℕ). StandsAt slots (get_or (x ∷ []) n d)) (sym z) h

-- the index with one more entry
pub indexed : (es : List (Entry × ℕ)) (places : List (Option ℕ)) (e : Entry) (i : ℕ) → IsIndex (keys_of es) es places → i ≡ length places + 1 → length places + places_of e ≤ 65534 → IsIndex (keys_of es ++ e ∷ []) (es ++ (e, i) ∷ []) (places ++ places_added (Some (length (keys_of es))) e)
indexed es places e i h at fits =
    let keys = keys_of es in
    let old = slots_of keys places in
    let len : length old ≡ i = ap suc (length-map places (slot_of keys)) ∙ let k : suc (length places) ≡ length places + 1 = omega arith in k ∙ sym at in
    record {
      small = omega (arith, length-append places (places_added (Some (length keys)) e), length_added (Some (length keys)) e);
      stays = still_stays keys places h.stays e;
      stand = subst (λ (s : Slots). All (StandsAt s) (es ++ (e, i) ∷ [])) (sym (slots_grown keys places h.stays e))
          (All-append (StandsAt (old ++ added e)) es ((e, i) ∷ []) (all_still old (added e) es h.stand) (alone (old ++ added e) (e, i) (omega arith, ap (λ (n : ℕ). entry_at (old ++ added e) n) (sym len) ∙ at_end old e)));
    }

contained : (slots : Slots) (i : ℕ) (x : Option Entry) → slice_get slots i ≡ Some x → Contains slots x
contained slots i x h = (i, slice_get_within slots i x h, get_or_from_slice_get slots i x x h)

pub standing : (slots : Slots) (i : ℕ) (e : Entry) → entry_at slots i ≡ Some e → Contains slots (Some e)
standing slots i e h = contained slots i (Some e) (at_flat (slice_get slots i) e h)

-- an entry of the slots is among the different entries
among : (keys : List Entry) (p : Option ℕ) (e : Entry) → slot_of keys p ≡ Some e → Contains keys e
among keys None e h = absurd cc
among keys (Some q) e h = (q, slice_get_within keys q e h, get_or_from_slice_get keys q e e h)

by_place : (keys : List Entry) (o : Option (Option ℕ)) (e : Entry) → option_map (slot_of keys) o ≡ Some (Some e) → Contains keys e
by_place keys None e h = absurd cc
by_place keys (Some p) e h = among keys p e (let k : slot_of keys p ≡ Some e = cc in k)

at_slot : (keys : List Entry) (places : List (Option ℕ)) (i : ℕ) (e : Entry) → slice_get (slots_of keys places) i ≡ Some (Some e) → Contains keys e
at_slot keys places zero e h = absurd cc
at_slot keys places (suc i) e h = by_place keys (slice_get places i) e (sym (slice_get-map (slot_of keys) places i) ∙ h)

pub in_keys : (keys : List Entry) (places : List (Option ℕ)) (e : Entry) → Contains (slots_of keys places) (Some e) → Contains keys e
in_keys keys places e (i, lt, h) = at_slot keys places i e (slice_get-get_or (slots_of keys places) i (Some e) lt ∙ ap Some h)

module _ (eq : Entry → Entry → Bool) (same : (x y : Entry) → eq x y ≡ true → x ≡ y) (es : List (Entry × ℕ)) (places : List (Option ℕ)) (index : IsIndex (keys_of es) es places) (e : Entry) where
  -- what the look-up finds stands in the slots
  pub found : (i : ℕ) → lookup (eq e) es ≡ Some i → StandsAt (slots_of (keys_of es) places) (e, i)
  found i h = All-contains (StandsAt (slots_of (keys_of es) places)) es (e, i) index.stand (Contains-from_lookup same e i es h)

  -- an entry that stands in the slots is found
  pub not_found : IsEquivalence eq → lookup (eq e) es ≡ None → ¬ (Contains (slots_of (keys_of es) places) (Some e))
  not_found laws h there = let s = IsSome-lookup_from_Contains laws e es (in_keys (keys_of es) places e there) in true≢false (sym (rw h at s))

  -- the same, as the callers see the slots
  pub not_there : IsEquivalence eq → (old : Slots) → slots_of (keys_of es) places ≡ old → lookup (eq e) es ≡ None → ¬ (Contains old (Some e))
  not_there laws old view h = subst (λ (s : Slots). ¬ (Contains s (Some e))) view (not_found laws h)

  pub new_entry : ¬ (Contains (slots_of (keys_of es) places) (Some e)) → lookup (eq e) es ≡ None
  new_entry h = by (lookup (eq e) es) refl
    where
      by : (o : Option ℕ) → lookup (eq e) es ≡ o → o ≡ None
      by None q = refl
      by (Some i) q = absurd (h (standing (slots_of (keys_of es) places) i e (found i q).1))

pub record Added (es new : List (Entry × ℕ)) (places new_places : List (Option ℕ)) (e : Entry) (i : ℕ) : Type 0 where
  pub index : IsIndex (keys_of new) new new_places
  pub slots : slots_of (keys_of new) new_places ≡ slots_of (keys_of es) places ++ added e
  pub at : StandsAt (slots_of (keys_of new) new_places) (e, i)

pub adding : (es new : List (Entry × ℕ)) (places new_places : List (Option ℕ)) (e : Entry) (n i : ℕ) → IsIndex (keys_of es) es places → new ≡ es ++ (e, i) ∷ [] → n ≡ length es → new_places ≡ places ++ places_added (Some n) e → i ≡ length places + 1 → length (slots_of (keys_of es) places) + places_of e ≤ 65535 → Added es new places new_places e i
adding es new places new_places e n i index is count grew at room =
    let keys = keys_of es in
    let size : length (slots_of keys places) ≡ suc (length places) = ap suc (length-map places (slot_of keys)) in
    let fits : length places + places_of e ≤ 65534 = omega arith in
    let keys_are : keys_of new ≡ keys ++ e ∷ [] = ap keys_of is ∙ map-append (λ (x : Entry × ℕ). x.0) es ((e, i) ∷ []) in
    let places_are : new_places ≡ places ++ places_added (Some (length keys)) e = grew ∙ ap (λ (k : ℕ). places ++ places_added (Some k) e) (count ∙ sym (length-map es (λ (x : Entry × ℕ). x.0))) in
    let whole : IsIndex (keys ++ e ∷ []) (es ++ (e, i) ∷ []) (places ++ places_added (Some (length keys)) e) = indexed es places e i index at fits in
    let new_index : IsIndex (keys_of new) new new_places = rw (keys_are, is, places_are) whole in
    let new_slots : slots_of (keys_of new) new_places ≡ slots_of keys places ++ added e = rw (keys_are, places_are) (slots_grown keys places index.stays e) in
    let len : length (slots_of keys places) ≡ i = ap suc (length-map places (slot_of keys)) ∙ (let k : suc (length places) ≡ length places + 1 = omega arith in k ∙ sym at) in
    record {
      index = new_index;
      slots = new_slots;
      at = (omega arith, ap (λ (s : Slots). entry_at s i) new_slots ∙ ap (λ (k : ℕ). entry_at (slots_of keys places ++ added e) k) (sym len) ∙ at_end (slots_of keys places) e);
    }

slot_before : (keys more : List Entry) (p : Option ℕ) (e : Entry) → slot_of keys p ≡ Some e → slot_of (keys ++ more) p ≡ Some e
slot_before keys more None e h = absurd cc
slot_before keys more (Some q) e h = get_before keys more q e h

place_of : (keys : List Entry) (o : Option (Option ℕ)) (p : Option ℕ) (e : Entry) → flat (option_map (slot_of keys) o) ≡ Some e → o ≡ Some p → slot_of keys p ≡ Some e
place_of keys None p e h is = absurd cc
place_of keys (Some None) p e h is = absurd cc
place_of keys (Some (Some q)) p e h is = let same : Some q ≡ p = cc in let there : Some (slot_of keys (Some q)) ≡ Some (Some e) = at_flat (Some (slot_of keys (Some q))) e h in let k : slot_of keys (Some q) ≡ Some e = cc in subst (λ (x : Option ℕ). slot_of keys x ≡ Some e) same k

placed : (keys : List Entry) (places : List (Option ℕ)) (j : ℕ) (p : Option ℕ) (e : Entry) → entry_at (slots_of keys places) (suc j) ≡ Some e → p ≡ get_or places j p → slot_of keys p ≡ Some e
placed keys places j p e h is =
    let got = at_flat (slice_get (map (slot_of keys) places) j) e h in
    let within : j < length places = omega (arith, slice_get_within (map (slot_of keys) places) j (Some e) got, length-map places (slot_of keys)) in
    place_of keys (slice_get places j) p e (ap flat (sym (slice_get-map (slot_of keys) places j)) ∙ h) (slice_get-get_or places j p within ∙ ap Some (sym is))

-- the place at an index is that of the entry that stands there
pub place_at : (keys : List Entry) (places : List (Option ℕ)) (i : ℕ) (p : Option ℕ) (e : Entry) → StandsAt (slots_of keys places) (e, i) → p ≡ get_or places (i - 1) p → slot_of keys p ≡ Some e
place_at keys places zero p e h is = absurd (let k : 0 < 0 = h.0 in omega arith)
place_at keys places (suc j) p e h is = let k : suc j - 1 ≡ j = omega arith in placed keys places j p e h.1 (is ∙ ap (λ (n : ℕ). get_or places n p) k)

-- the slots with an entry that they have once more
pub record Again (keys : List Entry) (es : List (Entry × ℕ)) (places new_places : List (Option ℕ)) (e : Entry) : Type 0 where
  pub index : IsIndex keys es new_places
  pub slots : slots_of keys new_places ≡ slots_of keys places ++ added e

module _ (keys : List Entry) (es : List (Entry × ℕ)) (places : List (Option ℕ)) (e : Entry) (p : Option ℕ) (index : IsIndex keys es places) (there : slot_of keys p ≡ Some e) (room : length (slots_of keys places) + places_of e ≤ 65535) where
  doubled : map (slot_of keys) (places ++ places_added p e) ≡ map (slot_of keys) places ++ added e
  doubled = map-append (slot_of keys) places (places_added p e) ∙ ap (λ (s : Slots). map (slot_of keys) places ++ s) (slots_added keys e p there)

  doubled_among : (more : List Entry) → map (slot_of (keys ++ more)) (places ++ places_added p e) ≡ map (slot_of keys) places ++ added e
  doubled_among more =
      map-append (slot_of (keys ++ more)) places (places_added p e)
      ∙ ap (λ (s : Slots). s ++ map (slot_of (keys ++ more)) (places_added p e)) (index.stays more)
      ∙ ap (λ (s : Slots). map (slot_of keys) places ++ s) (slots_added (keys ++ more) e p (slot_before keys more p e there))

  twice : Again keys es places (places ++ places_added p e) e
  twice =
      let size = length-map places (slot_of keys) in
      let slots : slots_of keys (places ++ places_added p e) ≡ slots_of keys places ++ added e = ap (λ (s : Slots). None ∷ s) doubled in
      record {
        index = record {
          small = omega (arith, length-append places (places_added p e), length_added p e, size);
          stays = λ more. doubled_among more ∙ sym doubled;
          stand = subst (λ (s : Slots). All (StandsAt s) es) (sym slots) (all_still (slots_of keys places) (added e) es index.stand);
        };
        slots = slots;
      }

  pub adding_again : (new_places : List (Option ℕ)) → new_places ≡ places ++ places_added p e → Again keys es places new_places e
  adding_again new_places grew = subst (λ (ps : List (Option ℕ)). Again keys es places ps e) (sym grew) twice
