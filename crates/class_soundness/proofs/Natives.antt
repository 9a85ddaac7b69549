-- A static native with arguments of its descriptor's types answers as the descriptor says.
use Rattle.std.proofs.Common.{◌≡◌, ℕ, ◌-◌, Bool, true, false, cond, List, [], ◌∷◌, ◌++◌, length, Option, Some, None, refl, subst, ℤ, pos, negsuc}
use Rattle.std.specs.Prelude.{slice_get, codes, take, drop, nat_le, ◌&&◌}
use Rattle.std.specs.Option.{option_map}
use Rattle.class_file.specs.declared.value.Value.{Value}
use Rattle.class_file.specs.declared.value.Value.TheVariants as value
use Rattle.class_file.specs.declared.value.NativeId.{NativeId}
use Rattle.class_file.specs.declared.value.NativeId.TheVariants as native_is
use Rattle.class_file.specs.declared.value.BuiltIn.TheVariants as built_in
use Rattle.class_file.specs.declared.class.Set.{Set}
use Rattle.class_file.specs.Descriptors.{FieldType, IntType, CharType, BooleanType, LongType, Reference, Signature, signature}
use Rattle.class_file.specs.Classes.{built_ins, superclass, named_type}
use Rattle.class_file.specs.Natives.{Object, TextObject, NativeEffect, Gives, Makes, SetsFirst, Writes, ReadsLine, NativeThrows, NativeFails, native_effect, text_of, on_text, on_texts, given_text, text_argument, TextArgument, IsNull, NoText, both_texts, as_text, unit_at_index, part_of, number, new_text}
use Rattle.class_file.specs.Natives as native
use Rattle.class_file.specs.Members.{type_of_field}
use Rattle.class_file.specs.Typing.{result_types}
use Rattle.class_soundness.specs.Soundness.{IsLoaded}
use Rattle.class_soundness.proofs.Fits.{Has, Fits, IsText, new_text_is}
use Rattle.class_soundness.proofs.Chains.{is_text_type, box_no_text}
use Rattle.class_soundness.proofs.Found.{descriptor_of, some_same, none_is}

-- values of these types
abbrev pub HasAll : Set → List Object → List FieldType → List Value → Type 0
HasAll set heap [] [] = Unit {0}
HasAll set heap (t ∷ ts) (v ∷ vs) = Has set heap v (type_of_field t) × HasAll set heap ts vs
HasAll set heap _ _ = ⊥

abbrev pub text_type : FieldType
text_type = Reference (codes "java/lang/String")

-- the object is right for the type wherever it is added
pub record IsRight (set : Set) (result : Option FieldType) (object : Object) : Type 0 where
  pub name : List ℕ
  pub is : result ≡ Some (Reference name)
  pub right : (heap : List Object) → is_text_type set name ≡ true → IsText (heap ++ object ∷ []) (length heap)

pub a_text : (set : Set) (units : List ℕ) → IsRight set (Some text_type) (TextObject units)
a_text set units = record { name = codes "java/lang/String"; is = refl; right = λ heap e. new_text_is heap units }

-- what a native answers is of the type that is wanted
abbrev pub Answers : Set → List Object → Option FieldType → NativeEffect → Type 0
Answers set heap result (Gives values) = Fits set heap values (result_types (option_map type_of_field result))
Answers set heap result (Makes object) = IsRight set result object
Answers set heap result (Writes bytes) = result ≡ None
Answers set heap result ReadsLine = result ≡ Some text_type
Answers set heap result (NativeThrows x) = Unit {0}
Answers set heap result _ = ⊥

module _ (set : Set) (heap : List Object) (result : Option FieldType) where
  text_given : (o : Option (List ℕ)) (units : List ℕ) (go : List ℕ → NativeEffect) → o ≡ Some units → ((units : List ℕ) → Answers set heap result (go units)) → Answers set heap result (given_text o go)
  text_given None units go e k = absurd (none_is units e)
  text_given (Some t) units go e k = k t

  text_answers : (v : Value) (go : List ℕ → NativeEffect) → Has set heap v (type_of_field text_type) → ((units : List ℕ) → Answers set heap result (go units)) → Answers set heap result (on_text heap v go)
  text_answers value.Null go h k = tt
  text_answers (value.Ref r) go h k = let t = h refl in text_given (text_of heap r) t.units go t.is k
  text_answers _ go h k = absurd h

  -- a text, or null
  data IsArgument : TextArgument → Type 0 where
    OfText : (units : List ℕ) → IsArgument (native.IsText units)
    OfNull : IsArgument IsNull

  named_text : (o : Option (List ℕ)) (units : List ℕ) → o ≡ Some units → IsArgument (as_text o)
  named_text None units e = absurd (none_is units e)
  named_text (Some t) units e = OfText t

  argument : (v : Value) → Has set heap v (type_of_field text_type) → IsArgument (text_argument heap v)
  argument value.Null h = OfNull
  argument (value.Ref r) h = let t = h refl in named_text (text_of heap r) t.units t.is
  argument _ h = absurd h

  both_answer : (a b : TextArgument) → IsArgument a → IsArgument b → (go : List ℕ → List ℕ → NativeEffect) → ((x y : List ℕ) → Answers set heap result (go x y)) → Answers set heap result (both_texts a b go)
  both_answer a b (OfText x) (OfText y) go k = k x y
  both_answer a b (OfText x) OfNull go k = tt
  both_answer a b OfNull (OfText y) go k = tt
  both_answer a b OfNull OfNull go k = tt

  texts_answer : (v w : Value) (go : List ℕ → List ℕ → NativeEffect) → Has set heap v (type_of_field text_type) → Has set heap w (type_of_field text_type) → ((x y : List ℕ) → Answers set heap result (go x y)) → Answers set heap result (on_texts heap v w go)
  texts_answer v w go h k all = both_answer (text_argument heap v) (text_argument heap w) (argument v h) (argument w k) go all

unit_answers : (set : Set) (heap : List Object) (units : List ℕ) (i : ℤ) → Answers set heap (Some CharType) (unit_at_index units i)
unit_answers set heap units (pos i) = by (slice_get units i)
  where
    by : (o : Option ℕ) → Answers set heap (Some CharType) (elim o [ Some u ↦ number (pos u) | None ↦ NativeThrows built_in.IndexOutOfBoundsException ])
    by None = tt
    by (Some u) = (tt, tt)
unit_answers set heap units (negsuc i) = tt

part_answers : (set : Set) (heap : List Object) (units : List ℕ) (i j : ℤ) → Answers set heap (Some text_type) (part_of units i j)
part_answers set heap units (pos i) (pos j) = by (nat_le i j && nat_le j (length units))
  where
    by : (b : Bool) → Answers set heap (Some text_type) (cond b (new_text (take (j - i) (drop i units))) (NativeThrows built_in.IndexOutOfBoundsException))
    by true = a_text set (take (j - i) (drop i units))
    by false = tt
part_answers set heap units (pos i) (negsuc j) = tt
part_answers set heap units (negsuc i) (pos j) = tt
part_answers set heap units (negsuc i) (negsuc j) = tt

abbrev Rightly : Set → NativeId → Signature → Type 0
Rightly set id s = (heap : List Object) (args : List Value) → HasAll set heap s.params args → Answers set heap s.result (native_effect set id heap args)

module _ (set : Set) (loaded : IsLoaded set) where
  length_right : Rightly set native_is.TextsLength (record { params = text_type ∷ []; result = Some IntType })
  unfolding native_effect
  length_right heap (v ∷ []) h = text_answers set heap (Some IntType) v _ h.0 (λ units. (tt, tt))
  length_right heap [] h = absurd h
  length_right heap (v ∷ w ∷ more) h = absurd h.1

  char_right : Rightly set native_is.TextsCharAt (record { params = text_type ∷ IntType ∷ []; result = Some CharType })
  unfolding native_effect
  char_right heap (v ∷ value.Int i ∷ []) h = text_answers set heap (Some CharType) v _ h.0 (λ units. unit_answers set heap units i)
  char_right heap (v ∷ value.Int i ∷ w ∷ more) h = absurd h.1.1
  char_right heap (v ∷ _ ∷ more) h = absurd h.1.0
  char_right heap (v ∷ []) h = absurd h.1
  char_right heap [] h = absurd h

  concat_right : Rightly set native_is.TextsConcat (record { params = text_type ∷ text_type ∷ []; result = Some text_type })
  unfolding native_effect
  concat_right heap (v ∷ w ∷ []) h = texts_answer set heap (Some text_type) v w _ h.0 h.1.0 (λ x y. a_text set (x ++ y))
  concat_right heap (v ∷ w ∷ x ∷ more) h = absurd h.1.1
  concat_right heap (v ∷ []) h = absurd h.1
  concat_right heap [] h = absurd h

  substring_right : Rightly set native_is.TextsSubstring (record { params = text_type ∷ IntType ∷ IntType ∷ []; result = Some text_type })
  unfolding native_effect
  substring_right heap (v ∷ value.Int i ∷ value.Int j ∷ []) h = text_answers set heap (Some text_type) v _ h.0 (λ units. part_answers set heap units i j)
  substring_right heap (v ∷ value.Int i ∷ value.Int j ∷ w ∷ more) h = absurd h.1.1.1
  substring_right heap (v ∷ value.Int i ∷ _ ∷ more) h = absurd h.1.1.0
  substring_right heap (v ∷ value.Int i ∷ []) h = absurd h.1.1
  substring_right heap (v ∷ _ ∷ more) h = absurd h.1.0
  substring_right heap (v ∷ []) h = absurd h.1
  substring_right heap [] h = absurd h

  compare_right : Rightly set native_is.TextsCompare (record { params = text_type ∷ text_type ∷ []; result = Some IntType })
  unfolding native_effect
  compare_right heap (v ∷ w ∷ []) h = texts_answer set heap (Some IntType) v w _ h.0 h.1.0 (λ x y. (tt, tt))
  compare_right heap (v ∷ w ∷ x ∷ more) h = absurd h.1.1
  compare_right heap (v ∷ []) h = absurd h.1
  compare_right heap [] h = absurd h

  int_right : Rightly set native_is.TextsOfInt (record { params = IntType ∷ []; result = Some text_type })
  unfolding native_effect
  int_right heap (value.Int i ∷ []) h = a_text set _
  int_right heap (value.Int i ∷ w ∷ more) h = absurd h.1
  int_right heap (_ ∷ more) h = absurd h.0
  int_right heap [] h = absurd h

  long_right : Rightly set native_is.TextsOfLong (record { params = LongType ∷ []; result = Some text_type })
  unfolding native_effect
  long_right heap (value.Long i ∷ []) h = a_text set _
  long_right heap (value.Long i ∷ w ∷ more) h = absurd h.1
  long_right heap (_ ∷ more) h = absurd h.0
  long_right heap [] h = absurd h

  unit_right : Rightly set native_is.TextsOfChar (record { params = CharType ∷ []; result = Some text_type })
  unfolding native_effect
  unit_right heap (value.Int i ∷ []) h = a_text set _
  unit_right heap (value.Int i ∷ w ∷ more) h = absurd h.1
  unit_right heap (_ ∷ more) h = absurd h.0
  unit_right heap [] h = absurd h

  truth_right : Rightly set native_is.TextsOfBoolean (record { params = BooleanType ∷ []; result = Some text_type })
  unfolding native_effect
  truth_right heap (value.Int i ∷ []) h = a_text set _
  truth_right heap (value.Int i ∷ w ∷ more) h = absurd h.1
  truth_right heap (_ ∷ more) h = absurd h.0
  truth_right heap [] h = absurd h

  write_right : Rightly set native_is.ConsoleWrite (record { params = text_type ∷ []; result = None })
  unfolding native_effect
  write_right heap (v ∷ []) h = text_answers set heap None v _ h.0 (λ units. refl)
  write_right heap (v ∷ w ∷ more) h = absurd h.1
  write_right heap [] h = absurd h

  read_right : Rightly set native_is.ConsoleReadLine (record { params = []; result = Some text_type })
  unfolding native_effect
  read_right heap [] h = refl
  read_right heap (v ∷ vs) h = absurd h

  integer_number : named_type set (codes "java/lang/Integer") ≡ Some (record { class = 2; dimensions = 0 })
  unfolding built_ins
  integer_number = refl

  integer_above : superclass set 2 ≡ Some 0
  unfolding built_ins
  integer_above = refl

  integer_box_right : Rightly set native_is.IntegerValueOf (record { params = IntType ∷ []; result = Some (Reference (codes "java/lang/Integer")) })
  unfolding native_effect
  integer_box_right heap (value.Int i ∷ []) h = record { name = codes "java/lang/Integer"; is = refl; right = λ heap e. absurd (box_no_text set loaded (codes "java/lang/Integer") 2 integer_number integer_above refl e) }
  integer_box_right heap (value.Int i ∷ w ∷ more) h = absurd h.1
  integer_box_right heap (_ ∷ more) h = absurd h.0
  integer_box_right heap [] h = absurd h

  long_number : named_type set (codes "java/lang/Long") ≡ Some (record { class = 3; dimensions = 0 })
  unfolding built_ins
  long_number = refl

  long_above : superclass set 3 ≡ Some 0
  unfolding built_ins
  long_above = refl

  long_box_right : Rightly set native_is.LongValueOf (record { params = LongType ∷ []; result = Some (Reference (codes "java/lang/Long")) })
  unfolding native_effect
  long_box_right heap (value.Long i ∷ []) h = record { name = codes "java/lang/Long"; is = refl; right = λ heap e. absurd (box_no_text set loaded (codes "java/lang/Long") 3 long_number long_above refl e) }
  long_box_right heap (value.Long i ∷ w ∷ more) h = absurd h.1
  long_box_right heap (_ ∷ more) h = absurd h.0
  long_box_right heap [] h = absurd h

  character_number : named_type set (codes "java/lang/Character") ≡ Some (record { class = 4; dimensions = 0 })
  unfolding built_ins
  character_number = refl

  character_above : superclass set 4 ≡ Some 0
  unfolding built_ins
  character_above = refl

  character_box_right : Rightly set native_is.CharacterValueOf (record { params = CharType ∷ []; result = Some (Reference (codes "java/lang/Character")) })
  unfolding native_effect
  character_box_right heap (value.Int i ∷ []) h = record { name = codes "java/lang/Character"; is = refl; right = λ heap e. absurd (box_no_text set loaded (codes "java/lang/Character") 4 character_number character_above refl e) }
  character_box_right heap (value.Int i ∷ w ∷ more) h = absurd h.1
  character_box_right heap (_ ∷ more) h = absurd h.0
  character_box_right heap [] h = absurd h

  boolean_number : named_type set (codes "java/lang/Boolean") ≡ Some (record { class = 5; dimensions = 0 })
  unfolding built_ins
  boolean_number = refl

  boolean_above : superclass set 5 ≡ Some 0
  unfolding built_ins
  boolean_above = refl

  boolean_box_right : Rightly set native_is.BooleanValueOf (record { params = BooleanType ∷ []; result = Some (Reference (codes "java/lang/Boolean")) })
  unfolding native_effect
  boolean_box_right heap (value.Int i ∷ []) h = record { name = codes "java/lang/Boolean"; is = refl; right = λ heap e. absurd (box_no_text set loaded (codes "java/lang/Boolean") 5 boolean_number boolean_above refl e) }
  boolean_box_right heap (value.Int i ∷ w ∷ more) h = absurd h.1
  boolean_box_right heap (_ ∷ more) h = absurd h.0
  boolean_box_right heap [] h = absurd h

  pub native_right : (id : NativeId) (s : Signature) → signature (descriptor_of id) ≡ Some s → Rightly set id s
  native_right native_is.TextsLength s e = subst (Rightly set native_is.TextsLength) (some_same _ s e) length_right
  native_right native_is.TextsCharAt s e = subst (Rightly set native_is.TextsCharAt) (some_same _ s e) char_right
  native_right native_is.TextsConcat s e = subst (Rightly set native_is.TextsConcat) (some_same _ s e) concat_right
  native_right native_is.TextsSubstring s e = subst (Rightly set native_is.TextsSubstring) (some_same _ s e) substring_right
  native_right native_is.TextsCompare s e = subst (Rightly set native_is.TextsCompare) (some_same _ s e) compare_right
  native_right native_is.TextsOfInt s e = subst (Rightly set native_is.TextsOfInt) (some_same _ s e) int_right
  native_right native_is.TextsOfLong s e = subst (Rightly set native_is.TextsOfLong) (some_same _ s e) long_right
  native_right native_is.TextsOfChar s e = subst (Rightly set native_is.TextsOfChar) (some_same _ s e) unit_right
  native_right native_is.TextsOfBoolean s e = subst (Rightly set native_is.TextsOfBoolean) (some_same _ s e) truth_right
  native_right native_is.ConsoleWrite s e = subst (Rightly set native_is.ConsoleWrite) (some_same _ s e) write_right
  native_right native_is.ConsoleReadLine s e = subst (Rightly set native_is.ConsoleReadLine) (some_same _ s e) read_right
  native_right native_is.IntegerValueOf s e = subst (Rightly set native_is.IntegerValueOf) (some_same _ s e) integer_box_right
  native_right native_is.LongValueOf s e = subst (Rightly set native_is.LongValueOf) (some_same _ s e) long_box_right
  native_right native_is.CharacterValueOf s e = subst (Rightly set native_is.CharacterValueOf) (some_same _ s e) character_box_right
  native_right native_is.BooleanValueOf s e = subst (Rightly set native_is.BooleanValueOf) (some_same _ s e) boolean_box_right
  native_right _ s e = absurd (none_is s e)
