-- The table of opcodes in parts.
use Rattle.std.proofs.Common.{◌≡◌, ℕ, Bool, true, false, cond, eqb, List, [], ◌∷◌, ◌++◌, drop, Option, Some, None, refl, sym, ap, ◌∙◌}
use Rattle.class_file.specs.Opcodes.{Form, Opcode, opcodes, find_form, form_of}
use Rattle.class_reader.specs.Forms.{part}

abbrev first_of : Option Form → Option Form → Option Form
first_of (Some f) more = Some f
first_of None more = more

find_in_parts : (code : ℕ) (front rest : List Opcode) → find_form code (front ++ rest) ≡ first_of (find_form code front) (find_form code rest)
find_in_parts code [] rest = refl
find_in_parts code (o ∷ front) rest = by (eqb o.code code) (find_in_parts code front rest)
  where
    by : (b : Bool) → find_form code (front ++ rest) ≡ first_of (find_form code front) (find_form code rest) → cond b (Some o.form) (find_form code (front ++ rest)) ≡ first_of (cond b (Some o.form) (find_form code front)) (find_form code rest)
    by true e = refl
    by false e = e

parts_0 : (code : ℕ) → find_form code (drop 0 opcodes) ≡ first_of (find_form code (part 0 16)) (find_form code (drop 16 opcodes))
unfolding opcodes
parts_0 code = find_in_parts code (part 0 16) (drop 16 opcodes)

parts_1 : (code : ℕ) → find_form code (drop 16 opcodes) ≡ first_of (find_form code (part 16 16)) (find_form code (drop 32 opcodes))
unfolding opcodes
parts_1 code = find_in_parts code (part 16 16) (drop 32 opcodes)

parts_2 : (code : ℕ) → find_form code (drop 32 opcodes) ≡ first_of (find_form code (part 32 16)) (find_form code (drop 48 opcodes))
unfolding opcodes
parts_2 code = find_in_parts code (part 32 16) (drop 48 opcodes)

parts_3 : (code : ℕ) → find_form code (drop 48 opcodes) ≡ first_of (find_form code (part 48 5)) (find_form code (drop 53 opcodes))
unfolding opcodes
parts_3 code = find_in_parts code (part 48 5) (drop 53 opcodes)

parts_4 : (code : ℕ) → find_form code (drop 53 opcodes) ≡ first_of (find_form code (part 53 12)) (find_form code (drop 65 opcodes))
unfolding opcodes
parts_4 code = find_in_parts code (part 53 12) (drop 65 opcodes)

parts_5 : (code : ℕ) → find_form code (drop 65 opcodes) ≡ first_of (find_form code (part 65 12)) (find_form code (drop 77 opcodes))
unfolding opcodes
parts_5 code = find_in_parts code (part 65 12) (drop 77 opcodes)

parts_6 : (code : ℕ) → find_form code (drop 77 opcodes) ≡ first_of (find_form code (part 77 5)) (find_form code (drop 82 opcodes))
unfolding opcodes
parts_6 code = find_in_parts code (part 77 5) (drop 82 opcodes)

parts_7 : (code : ℕ) → find_form code (drop 82 opcodes) ≡ first_of (find_form code (part 82 15)) (find_form code (drop 97 opcodes))
unfolding opcodes
parts_7 code = find_in_parts code (part 82 15) (drop 97 opcodes)

parts_8 : (code : ℕ) → find_form code (drop 97 opcodes) ≡ first_of (find_form code (part 97 12)) (find_form code (drop 109 opcodes))
unfolding opcodes
parts_8 code = find_in_parts code (part 97 12) (drop 109 opcodes)

all : (code : ℕ) → form_of code ≡ find_form code (drop 0 opcodes)
unfolding form_of
all code = refl

found : {o a : Option Form} {f : Form} (b : Option Form) → Some f ≡ a → o ≡ first_of a b → Some f ≡ o
found b e k = sym (k ∙ sym (ap (λ (x : Option Form). first_of x b) e))

passed : {o a : Option Form} (b : Option Form) → None ≡ a → o ≡ first_of a b → o ≡ b
passed b e k = k ∙ sym (ap (λ (x : Option Form). first_of x b) e)

pub left_0 : (code : ℕ) → form_of code ≡ find_form code (drop 0 opcodes)
left_0 code = all code

pub found_0 : (code : ℕ) (f : Form) → (Some f ≡ find_form code (part 0 16)) → Some f ≡ form_of code
found_0 code f h = found _ h (left_0 code ∙ parts_0 code)

pub left_1 : (code : ℕ) → (None ≡ find_form code (part 0 16)) → form_of code ≡ find_form code (drop 16 opcodes)
left_1 code n0 = left_0 code ∙ passed _ n0 (parts_0 code)

pub found_1 : (code : ℕ) (f : Form) → (None ≡ find_form code (part 0 16)) → (Some f ≡ find_form code (part 16 16)) → Some f ≡ form_of code
found_1 code f n0 h = found _ h (left_1 code n0 ∙ parts_1 code)

pub left_2 : (code : ℕ) → (None ≡ find_form code (part 0 16)) → (None ≡ find_form code (part 16 16)) → form_of code ≡ find_form code (drop 32 opcodes)
left_2 code n0 n1 = left_1 code n0 ∙ passed _ n1 (parts_1 code)

pub found_2 : (code : ℕ) (f : Form) → (None ≡ find_form code (part 0 16)) → (None ≡ find_form code (part 16 16)) → (Some f ≡ find_form code (part 32 16)) → Some f ≡ form_of code
found_2 code f n0 n1 h = found _ h (left_2 code n0 n1 ∙ parts_2 code)

pub left_3 : (code : ℕ) → (None ≡ find_form code (part 0 16)) → (None ≡ find_form code (part 16 16)) → (None ≡ find_form code (part 32 16)) → form_of code ≡ find_form code (drop 48 opcodes)
left_3 code n0 n1 n2 = left_2 code n0 n1 ∙ passed _ n2 (parts_2 code)

pub found_3 : (code : ℕ) (f : Form) → (None ≡ find_form code (part 0 16)) → (None ≡ find_form code (part 16 16)) → (None ≡ find_form code (part 32 16)) → (Some f ≡ find_form code (part 48 5)) → Some f ≡ form_of code
found_3 code f n0 n1 n2 h = found _ h (left_3 code n0 n1 n2 ∙ parts_3 code)

pub left_4 : (code : ℕ) → (None ≡ find_form code (part 0 16)) → (None ≡ find_form code (part 16 16)) → (None ≡ find_form code (part 32 16)) → (None ≡ find_form code (part 48 5)) → form_of code ≡ find_form code (drop 53 opcodes)
left_4 code n0 n1 n2 n3 = left_3 code n0 n1 n2 ∙ passed _ n3 (parts_3 code)

pub found_4 : (code : ℕ) (f : Form) → (None ≡ find_form code (part 0 16)) → (None ≡ find_form code (part 16 16)) → (None ≡ find_form code (part 32 16)) → (None ≡ find_form code (part 48 5)) → (Some f ≡ find_form code (part 53 12)) → Some f ≡ form_of code
found_4 code f n0 n1 n2 n3 h = found _ h (left_4 code n0 n1 n2 n3 ∙ parts_4 code)

pub left_5 : (code : ℕ) → (None ≡ find_form code (part 0 16)) → (None ≡ find_form code (part 16 16)) → (None ≡ find_form code (part 32 16)) → (None ≡ find_form code (part 48 5)) → (None ≡ find_form code (part 53 12)) → form_of code ≡ find_form code (drop 65 opcodes)
left_5 code n0 n1 n2 n3 n4 = left_4 code n0 n1 n2 n3 ∙ passed _ n4 (parts_4 code)

pub found_5 : (code : ℕ) (f : Form) → (None ≡ find_form code (part 0 16)) → (None ≡ find_form code (part 16 16)) → (None ≡ find_form code (part 32 16)) → (None ≡ find_form code (part 48 5)) → (None ≡ find_form code (part 53 12)) → (Some f ≡ find_form code (part 65 12)) → Some f ≡ form_of code
found_5 code f n0 n1 n2 n3 n4 h = found _ h (left_5 code n0 n1 n2 n3 n4 ∙ parts_5 code)

pub left_6 : (code : ℕ) → (None ≡ find_form code (part 0 16)) → (None ≡ find_form code (part 16 16)) → (None ≡ find_form code (part 32 16)) → (None ≡ find_form code (part 48 5)) → (None ≡ find_form code (part 53 12)) → (None ≡ find_form code (part 65 12)) → form_of code ≡ find_form code (drop 77 opcodes)
left_6 code n0 n1 n2 n3 n4 n5 = left_5 code n0 n1 n2 n3 n4 ∙ passed _ n5 (parts_5 code)

pub found_6 : (code : ℕ) (f : Form) → (None ≡ find_form code (part 0 16)) → (None ≡ find_form code (part 16 16)) → (None ≡ find_form code (part 32 16)) → (None ≡ find_form code (part 48 5)) → (None ≡ find_form code (part 53 12)) → (None ≡ find_form code (part 65 12)) → (Some f ≡ find_form code (part 77 5)) → Some f ≡ form_of code
found_6 code f n0 n1 n2 n3 n4 n5 h = found _ h (left_6 code n0 n1 n2 n3 n4 n5 ∙ parts_6 code)

pub left_7 : (code : ℕ) → (None ≡ find_form code (part 0 16)) → (None ≡ find_form code (part 16 16)) → (None ≡ find_form code (part 32 16)) → (None ≡ find_form code (part 48 5)) → (None ≡ find_form code (part 53 12)) → (None ≡ find_form code (part 65 12)) → (None ≡ find_form code (part 77 5)) → form_of code ≡ find_form code (drop 82 opcodes)
left_7 code n0 n1 n2 n3 n4 n5 n6 = left_6 code n0 n1 n2 n3 n4 n5 ∙ passed _ n6 (parts_6 code)

pub found_7 : (code : ℕ) (f : Form) → (None ≡ find_form code (part 0 16)) → (None ≡ find_form code (part 16 16)) → (None ≡ find_form code (part 32 16)) → (None ≡ find_form code (part 48 5)) → (None ≡ find_form code (part 53 12)) → (None ≡ find_form code (part 65 12)) → (None ≡ find_form code (part 77 5)) → (Some f ≡ find_form code (part 82 15)) → Some f ≡ form_of code
found_7 code f n0 n1 n2 n3 n4 n5 n6 h = found _ h (left_7 code n0 n1 n2 n3 n4 n5 n6 ∙ parts_7 code)

pub left_8 : (code : ℕ) → (None ≡ find_form code (part 0 16)) → (None ≡ find_form code (part 16 16)) → (None ≡ find_form code (part 32 16)) → (None ≡ find_form code (part 48 5)) → (None ≡ find_form code (part 53 12)) → (None ≡ find_form code (part 65 12)) → (None ≡ find_form code (part 77 5)) → (None ≡ find_form code (part 82 15)) → form_of code ≡ find_form code (drop 97 opcodes)
left_8 code n0 n1 n2 n3 n4 n5 n6 n7 = left_7 code n0 n1 n2 n3 n4 n5 n6 ∙ passed _ n7 (parts_7 code)

pub found_8 : (code : ℕ) (f : Form) → (None ≡ find_form code (part 0 16)) → (None ≡ find_form code (part 16 16)) → (None ≡ find_form code (part 32 16)) → (None ≡ find_form code (part 48 5)) → (None ≡ find_form code (part 53 12)) → (None ≡ find_form code (part 65 12)) → (None ≡ find_form code (part 77 5)) → (None ≡ find_form code (part 82 15)) → (Some f ≡ find_form code (part 97 12)) → Some f ≡ form_of code
found_8 code f n0 n1 n2 n3 n4 n5 n6 n7 h = found _ h (left_8 code n0 n1 n2 n3 n4 n5 n6 n7 ∙ parts_8 code)

pub left_9 : (code : ℕ) → (None ≡ find_form code (part 0 16)) → (None ≡ find_form code (part 16 16)) → (None ≡ find_form code (part 32 16)) → (None ≡ find_form code (part 48 5)) → (None ≡ find_form code (part 53 12)) → (None ≡ find_form code (part 65 12)) → (None ≡ find_form code (part 77 5)) → (None ≡ find_form code (part 82 15)) → (None ≡ find_form code (part 97 12)) → form_of code ≡ find_form code (drop 109 opcodes)
left_9 code n0 n1 n2 n3 n4 n5 n6 n7 n8 = left_8 code n0 n1 n2 n3 n4 n5 n6 n7 ∙ passed _ n8 (parts_8 code)

last_part : (code : ℕ) → find_form code (drop 109 opcodes) ≡ find_form code (part 109 8)
unfolding opcodes
last_part code = refl

pub rest_is : (code : ℕ) (o : Option Form) → (None ≡ find_form code (part 0 16)) → (None ≡ find_form code (part 16 16)) → (None ≡ find_form code (part 32 16)) → (None ≡ find_form code (part 48 5)) → (None ≡ find_form code (part 53 12)) → (None ≡ find_form code (part 65 12)) → (None ≡ find_form code (part 77 5)) → (None ≡ find_form code (part 82 15)) → (None ≡ find_form code (part 97 12)) → o ≡ find_form code (part 109 8) → o ≡ form_of code
rest_is code o n0 n1 n2 n3 n4 n5 n6 n7 n8 h = h ∙ sym (left_9 code n0 n1 n2 n3 n4 n5 n6 n7 n8 ∙ last_part code)
