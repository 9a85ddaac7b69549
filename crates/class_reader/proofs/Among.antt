-- Attributes of which one has a meaning, read one after the other as a loop does.
use Rattle.std.proofs.Common.{◌≡◌, ℕ, suc, ◌-◌, ◌+◌, ◌≤◌, ◌<◌, Bool, true, false, cond, List, [], ◌∷◌, ◌++◌, Option, Some, None, refl, sym, ap, ◌∙◌, arith}
use Rattle.std.specs.Prelude.{not, ◌||◌}
use Rattle.std.specs.Option.{option_map}
use Rattle.class_file.specs.declared.class.Attribute.{Attribute}
use Rattle.class_file.specs.declared.format_fault.FormatFault.{FormatFault}
use Rattle.class_file.specs.declared.format_fault.FormatCode.TheVariants.{BadCode}
use Rattle.kc_text.specs.declared.errors.Fail.{Fail}
use Rattle.kc_text.specs.declared.errors.Fail.TheVariants as fail
use Rattle.class_file.specs.Pools.{Slots, is_text}
use Rattle.class_file.specs.Inputs.{◌>>=◌, Input, Reading, read, fault, sized}
use Rattle.class_file.specs.FormatFaults.{text_named, kept_bytes, Attributes, attributes, is_there, among_at}
use Rattle.class_reader.specs.Reads.{Fails}

module _ {A : Type 0} (slots : Slots) (wanted : List ℕ) (allowed : Bool) (inside : Input → Reading A) where
  -- what one attribute, and those behind it, read
  abbrev known_first : ℕ → Attributes A → Input → Input → Reading (Attributes A)
  known_first n so_far at behind =
      cond (is_there so_far.known || not allowed) (fault BadCode at.at) (sized inside behind >>= λ x. among_at slots wanted allowed inside n (attributes (Some x.value) so_far.others) x.rest)

  abbrev other_first : ℕ → Attributes A → List ℕ → Input → Reading (Attributes A)
  other_first n so_far name behind =
      kept_bytes behind >>= λ b. among_at slots wanted allowed inside n (attributes so_far.known (so_far.others ++ record { name = name; bytes = b.value } ∷ [])) b.rest

  abbrev first_read : ℕ → Attributes A → Input → List ℕ → Input → Reading (Attributes A)
  first_read n so_far at name behind = cond (is_text name wanted) (known_first n so_far at behind) (other_first n so_far name behind)

  step : (count i : ℕ) (so_far : Attributes A) (input : Input) → i < count
      → among_at slots wanted allowed inside (count - i) so_far input ≡ (text_named slots input >>= λ name. first_read (count - (i + 1)) so_far input name.value name.rest)
  unfolding among_at
  step count i so_far input lt = let k : count - i ≡ suc (count - (i + 1)) = omega arith in rw k refl

  abbrev Left : ℕ → ℕ → Attributes A → Input → Reading (Attributes A) → Type 0
  Left count i so_far input total = among_at slots wanted allowed inside (count - i) so_far input ≡ total

  named : (count i : ℕ) (so_far : Attributes A) (input behind : Input) (name : List ℕ) (total : Reading (Attributes A)) → i < count → text_named slots input ≡ read name behind → Left count i so_far input total
      → total ≡ first_read (count - (i + 1)) so_far input name behind
  named count i so_far input behind name total lt h left =
      sym left ∙ step count i so_far input lt ∙ ap (λ (r : Reading (List ℕ)). r >>= λ name. first_read (count - (i + 1)) so_far input name.value name.rest) h

  known_read : (count i : ℕ) (so_far : Attributes A) (input behind : Input) (name : List ℕ) (total : Reading (Attributes A)) → i < count → text_named slots input ≡ read name behind → is_text name wanted ≡ true → Left count i so_far input total
      → total ≡ known_first (count - (i + 1)) so_far input behind
  known_read count i so_far input behind name total lt h is left =
      named count i so_far input behind name total lt h left
      ∙ ap (λ (b : Bool). cond b (known_first (count - (i + 1)) so_far input behind) (other_first (count - (i + 1)) so_far name behind)) is

  other_read : (count i : ℕ) (so_far : Attributes A) (input behind : Input) (name : List ℕ) (total : Reading (Attributes A)) → i < count → text_named slots input ≡ read name behind → is_text name wanted ≡ false → Left count i so_far input total
      → total ≡ other_first (count - (i + 1)) so_far name behind
  other_read count i so_far input behind name total lt h is left =
      named count i so_far input behind name total lt h left
      ∙ ap (λ (b : Bool). cond b (known_first (count - (i + 1)) so_far input behind) (other_first (count - (i + 1)) so_far name behind)) is

  -- ---- the next turn

  pub goes_on_known : (count i : ℕ) (so_far : Attributes A) (input behind after : Input) (name : List ℕ) (x : A) (total : Reading (Attributes A)) → i < count → text_named slots input ≡ read name behind → is_text name wanted ≡ true
      → (is_there so_far.known || not allowed) ≡ false → sized inside behind ≡ read x after → Left count i so_far input total → Left count (i + 1) (attributes (Some x) so_far.others) after total
  goes_on_known count i so_far input behind after name x total lt h is may given left =
      sym (known_read count i so_far input behind name total lt h is left
      ∙ ap (λ (b : Bool). cond b (fault BadCode input.at) (sized inside behind >>= λ x. among_at slots wanted allowed inside (count - (i + 1)) (attributes (Some x.value) so_far.others) x.rest)) may
      ∙ ap (λ (r : Reading A). r >>= λ x. among_at slots wanted allowed inside (count - (i + 1)) (attributes (Some x.value) so_far.others) x.rest) given)

  pub goes_on_other : (count i : ℕ) (known : Option A) (others : List Attribute) (input behind after : Input) (name bytes : List ℕ) (total : Reading (Attributes A)) → i < count → text_named slots input ≡ read name behind → is_text name wanted ≡ false
      → kept_bytes behind ≡ read bytes after → Left count i (attributes known others) input total → Left count (i + 1) (attributes known (others ++ record { name = name; bytes = bytes } ∷ [])) after total
  goes_on_other count i known others input behind after name bytes total lt h is given left =
      sym (other_read count i (attributes known others) input behind name total lt h is left
      ∙ ap (λ (r : Reading (List ℕ)). r >>= λ b. among_at slots wanted allowed inside (count - (i + 1)) (attributes known (others ++ record { name = name; bytes = b.value } ∷ [])) b.rest) given)

  -- ---- faults

  pub name_ends : (e : Fail FormatFault) (count i : ℕ) (so_far : Attributes A) (input : Input) (total : Reading (Attributes A)) → i < count → Fails e (text_named slots input) → Left count i so_far input total → Fails e total
  name_ends fail.Memory count i so_far input total lt h left = tt
  name_ends (fail.Found f) count i so_far input total lt h left =
      sym left ∙ step count i so_far input lt ∙ ap (λ (r : Reading (List ℕ)). r >>= λ name. first_read (count - (i + 1)) so_far input name.value name.rest) h

  pub refused_again : (count i : ℕ) (so_far : Attributes A) (input behind : Input) (name : List ℕ) (total : Reading (Attributes A)) → i < count → text_named slots input ≡ read name behind → is_text name wanted ≡ true → (is_there so_far.known || not allowed) ≡ true
      → Left count i so_far input total → total ≡ fault BadCode input.at
  refused_again count i so_far input behind name total lt h is there left =
      known_read count i so_far input behind name total lt h is left
      ∙ ap (λ (b : Bool). cond b (fault BadCode input.at) (sized inside behind >>= λ x. among_at slots wanted allowed inside (count - (i + 1)) (attributes (Some x.value) so_far.others) x.rest)) there

  pub inside_ends : (e : Fail FormatFault) (count i : ℕ) (so_far : Attributes A) (input behind : Input) (name : List ℕ) (total : Reading (Attributes A)) → i < count → text_named slots input ≡ read name behind → is_text name wanted ≡ true
      → (is_there so_far.known || not allowed) ≡ false → Fails e (sized inside behind) → Left count i so_far input total → Fails e total
  inside_ends fail.Memory count i so_far input behind name total lt h is may given left = tt
  inside_ends (fail.Found f) count i so_far input behind name total lt h is may given left =
      known_read count i so_far input behind name total lt h is left
      ∙ ap (λ (b : Bool). cond b (fault BadCode input.at) (sized inside behind >>= λ x. among_at slots wanted allowed inside (count - (i + 1)) (attributes (Some x.value) so_far.others) x.rest)) may
      ∙ ap (λ (r : Reading A). r >>= λ x. among_at slots wanted allowed inside (count - (i + 1)) (attributes (Some x.value) so_far.others) x.rest) given

  pub kept_ends : (e : Fail FormatFault) (count i : ℕ) (so_far : Attributes A) (input behind : Input) (name : List ℕ) (total : Reading (Attributes A)) → i < count → text_named slots input ≡ read name behind → is_text name wanted ≡ false
      → Fails e (kept_bytes behind) → Left count i so_far input total → Fails e total
  kept_ends fail.Memory count i so_far input behind name total lt h is given left = tt
  kept_ends (fail.Found f) count i so_far input behind name total lt h is given left =
      other_read count i so_far input behind name total lt h is left
      ∙ ap (λ (r : Reading (List ℕ)). r >>= λ b. among_at slots wanted allowed inside (count - (i + 1)) (attributes so_far.known (so_far.others ++ record { name = name; bytes = b.value } ∷ [])) b.rest) given

  pub is_done : (count i : ℕ) (so_far : Attributes A) (input : Input) (total : Reading (Attributes A)) → count ≤ i → Left count i so_far input total → total ≡ read so_far input
  unfolding among_at
  is_done count i so_far input total le left =
      let k : count - i ≡ 0 = omega arith in
      sym left ∙ ap (λ (n : ℕ). among_at slots wanted allowed inside n so_far input) k

pub mapped_there : {A B : Type 0} (f : B → A) (known : Option B) → is_there (option_map f known) ≡ is_there known
mapped_there f None = refl
mapped_there f (Some x) = refl
