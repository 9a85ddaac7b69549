-- What the bytes of a frame say of its numbers.
use Rattle.std.proofs.Common.{◌≡◌, ℕ, ◌<◌, ◌^◌, Bool, true, false, List, [], ◌∷◌, ◌++◌, length, Option, Some, None, cond, refl, sym, ap, subst, arith}
use Rattle.std.specs.List.{AllByRecursion, flat_map}
use Rattle.class_file.specs.declared.class.VType.{VType}
use Rattle.class_file.specs.declared.class.VType.TheVariants as type
use Rattle.class_file.specs.declared.class.Frame.{Frame}
use Rattle.class_file.specs.Pools.{Slots}
use Rattle.std.specs.Prelude.{map, codes}
use Rattle.class_file.specs.declared.class.Handler.{Handler}
use Rattle.class_file.specs.declared.class.Method.{Method}
use Rattle.class_file.specs.Pools.{is_text}
use Rattle.class_file.specs.Descriptors.{FieldType, IntType, CharType, BooleanType, LongType, Reference, Signature, signature}
use Rattle.class_file.specs.Classes.{is_static_flag}
use Rattle.class_file.specs.Members.{described, call_or_none, type_of_field}
use Rattle.class_file.specs.declared.class.Attribute.{Attribute}
use Rattle.class_file.specs.declared.instr.Instr.{Instr}
use Rattle.class_file.specs.InstrBytes.{u2, instr_bytes}
use Rattle.class_file.specs.ClassBytes.{Each, Table, AttributeIs, Among, code_name, stack_map_table, InstrsAre, CodeAttributesAre, with_frames, without_frames, HandlerIs, receiver, at_start, MethodAttributesAre, with_code, without_code, CodeIs, TypeIs, Before, FrameIs, FormIs, same, one_item, one_item_extended, chop, same_extended, append, full}
use Rattle.class_file.specs.WrittenClass.{attribute_bytes, code_bytes, frames_bytes}
use Rattle.class_spelling.proofs.Writes.{write_others}
use Rattle.class_spelling.proofs.WritesFrames.{write_stack_map}
use Rattle.class_spelling.proofs.Written.{write_instructions, write_code}
use Rattle.class_writer.specs.Fits.{IsSmall, AreSmall, FrameFits, IsBehind, HandlerFits}

small_type : (slots : Slots) (t : VType) (bytes : List ℕ) → TypeIs slots t bytes → IsSmall t
small_type slots type.Top bytes e = tt
small_type slots type.Integer bytes e = tt
small_type slots type.Long bytes e = tt
small_type slots type.Null bytes e = tt
small_type slots type.UninitializedThis bytes e = tt
small_type slots (type.Object name) bytes e = tt
small_type slots (type.Uninitialized at) bytes e = e.4.0

small_types : (slots : Slots) (ts : List VType) (bytes : List ℕ) → Each (TypeIs slots) ts bytes → AllByRecursion IsSmall ts
small_types slots [] bytes e = tt
small_types slots (t ∷ ts) bytes e = (small_type slots t e.0 e.3, small_types slots ts e.1 e.4)

small_append : (ts us : List VType) → AllByRecursion IsSmall ts → AllByRecursion IsSmall us → AllByRecursion IsSmall (ts ++ us)
small_append [] us a b = b
small_append (t ∷ ts) us a b = (a.0, small_append ts us a.1 b)

small_front : (ts us : List VType) → AllByRecursion IsSmall (ts ++ us) → AllByRecursion IsSmall ts
small_front [] us a = tt
small_front (t ∷ ts) us a = (a.0, small_front ts us a.1)

none_small : (stack : List VType) → stack ≡ [] → AreSmall stack
none_small stack e = subst AreSmall (sym e) (omega arith, tt)

one_small : (slots : Slots) (item : VType) (bytes : List ℕ) (stack : List VType) → TypeIs slots item bytes → stack ≡ item ∷ [] → AreSmall stack
one_small slots item bytes stack is e = subst AreSmall (sym e) (omega arith, (small_type slots item bytes is, tt))

-- a frame whose numbers fit, if those of the locals before did
form_fits : (slots : Slots) (before : Before) (f : Frame) (bytes : List ℕ) → length f.locals < 2 ^ 16 → AllByRecursion IsSmall before.locals → FormIs slots before f bytes → FrameFits f
form_fits slots before f bytes few all (same delta small stands locals stack is) =
    ((few, subst (AllByRecursion IsSmall) (sym locals) all), none_small f.stack stack)
form_fits slots before f bytes few all (one_item delta item small stands locals stack is) =
    ((few, subst (AllByRecursion IsSmall) (sym locals) all), one_small slots item is.1 f.stack is.4 stack)
form_fits slots before f bytes few all (one_item_extended delta item stands locals stack is) =
    ((few, subst (AllByRecursion IsSmall) (sym locals) all), one_small slots item is.4.1 f.stack is.4.4 stack)
form_fits slots before f bytes few all (chop delta gone some most stands locals stack is) =
    ((few, small_front f.locals gone (subst (AllByRecursion IsSmall) locals all)), none_small f.stack stack)
form_fits slots before f bytes few all (same_extended delta stands locals stack is) =
    ((few, subst (AllByRecursion IsSmall) (sym locals) all), none_small f.stack stack)
form_fits slots before f bytes few all (append delta more some most stands locals stack is) =
    ((few, subst (AllByRecursion IsSmall) (sym locals) (small_append before.locals more all (small_types slots more is.4.1 is.4.4))), none_small f.stack stack)
form_fits slots before f bytes few all (full delta stands is) =
    let locals = is.4.4.3 in let stack = is.4.4.4 in
    ((locals.3.0, small_types slots f.locals locals.1 locals.4), (stack.3.0, small_types slots f.stack stack.1 stack.4))

pub frame_fits : (slots : Slots) (before : Before) (f : Frame) (bytes : List ℕ) → AllByRecursion IsSmall before.locals → FrameIs slots before f bytes → FrameFits f
frame_fits slots before f bytes all e = form_fits slots before f bytes e.1 all e.2

form_behind : (slots : Slots) (before : Before) (f : Frame) (bytes : List ℕ) → FormIs slots before f bytes → IsBehind before.at f.at
form_behind slots before f bytes (same delta small stands locals stack is) = (delta, omega arith, stands)
form_behind slots before f bytes (one_item delta item small stands locals stack is) = (delta, omega arith, stands)
form_behind slots before f bytes (one_item_extended delta item stands locals stack is) = (delta, is.4.3.0, stands)
form_behind slots before f bytes (chop delta gone some most stands locals stack is) = (delta, is.4.0, stands)
form_behind slots before f bytes (same_extended delta stands locals stack is) = (delta, is.4.0, stands)
form_behind slots before f bytes (append delta more some most stands locals stack is) = (delta, is.4.3.0, stands)
form_behind slots before f bytes (full delta stands is) = (delta, is.4.3.0, stands)

pub frame_behind : (slots : Slots) (before : Before) (f : Frame) (bytes : List ℕ) → FrameIs slots before f bytes → IsBehind before.at f.at
frame_behind slots before f bytes e = form_behind slots before f bytes e.2

pub handlers_fit : (slots : Slots) (hs : List Handler) (bytes : List ℕ) → Each (HandlerIs slots) hs bytes → AllByRecursion HandlerFits hs
handlers_fit slots [] bytes e = tt
handlers_fit slots (h ∷ hs) bytes e = ((e.3.3.0, e.3.4.3.0, e.3.4.4.3.0), handlers_fit slots hs e.1 e.4)

small_field : (t : FieldType) → IsSmall (type_of_field t)
small_field IntType = tt
small_field CharType = tt
small_field BooleanType = tt
small_field LongType = tt
small_field (Reference name) = tt

small_fields : (ts : List FieldType) → AllByRecursion IsSmall (map type_of_field ts)
small_fields [] = tt
small_fields (t ∷ ts) = (small_field t, small_fields ts)

small_call : (s : Option Signature) → AllByRecursion IsSmall (call_or_none s).params
small_call None = tt
small_call (Some s) = small_fields s.params

small_receiver : (this name : List ℕ) (flags : ℕ) → AllByRecursion IsSmall (receiver this flags name)
small_receiver this name flags = by (is_static_flag flags) (is_text name (codes "<init>"))
  where
    by : (static constructor : Bool) → AllByRecursion IsSmall (cond static [] (cond constructor (type.UninitializedThis ∷ []) (type.Object this ∷ [])))
    by true constructor = tt
    by false true = (tt, tt)
    by false false = (tt, tt)

-- the locals that a method starts with
pub small_start : (this : List ℕ) (m : Method) → AllByRecursion IsSmall (at_start this m).locals
small_start this m = small_append (receiver this m.flags m.name) (described m.descriptor).params (small_receiver this m.name m.flags) (small_call (signature m.descriptor))

-- a method with instructions has bytes of its code
pub code_spelled : (slots : Slots) (this : List ℕ) (m : Method) (bytes : List ℕ) → 0 < length m.code → MethodAttributesAre slots this m bytes → (code : List ℕ) × CodeIs slots this m code
code_spelled slots this m bytes some (with_code flag among) = let sized = among.3.4.4.3.4 in (sized.0, sized.3)
code_spelled slots this m bytes some (without_code none others) = absurd (omega (arith, some, ap length none.no_instructions))

-- ---- attributes

pub attribute_short : (slots : Slots) (a : Attribute) (bytes : List ℕ) → AttributeIs slots a bytes → length a.bytes < 2 ^ 32
attribute_short slots a bytes e = let sized = e.4 in omega (arith, sized.1, ap length sized.3.1)

-- attributes among which one has a meaning are a table without that one
others_of : {P : List ℕ → Type 0} (slots : Slots) (name : List ℕ) (others : List Attribute) (bytes : List ℕ) → Among slots name P others bytes → (table : List ℕ) × Table (AttributeIs slots) others table
others_of slots name others bytes among =
    let o = write_others slots name others bytes among in let each = flat_map (attribute_bytes slots) others in (u2 (length others) ++ each, (u2 (length others), each, refl, (omega (arith, o.3), refl), o.2))

pub method_others : (slots : Slots) (this : List ℕ) (m : Method) (bytes : List ℕ) → MethodAttributesAre slots this m bytes → (table : List ℕ) × Table (AttributeIs slots) m.others table
method_others slots this m bytes (with_code flag among) = others_of slots code_name m.others bytes among
method_others slots this m bytes (without_code none others) = (bytes, others)

pub code_others : (slots : Slots) (before : Before) (frames : List Frame) (others : List Attribute) (bytes : List ℕ) → CodeAttributesAre slots before frames others bytes → (table : List ℕ) × Table (AttributeIs slots) others table
code_others slots before frames others bytes (with_frames among) = others_of slots stack_map_table others bytes among
code_others slots before frames others bytes (without_frames none all) = (bytes, all)

-- ---- lengths: what is written is no longer than what spells it

pub instrs_short : (slots : Slots) (code : List Instr) (bytes : List ℕ) → InstrsAre slots code bytes → length (flat_map instr_bytes code) < 2 ^ 16
instrs_short slots code bytes e = let le = ((write_instructions slots code).writes bytes e).1 in omega (arith, e.1)

pub code_short : (slots : Slots) (this : List ℕ) (m : Method) (bytes : List ℕ) → 0 < length m.code → MethodAttributesAre slots this m bytes → length (code_bytes slots this m) < 2 ^ 32
code_short slots this m bytes some (with_code flag among) = let sized = among.3.4.4.3.4 in let le = ((write_code slots this m).writes sized.0 sized.3).1 in omega (arith, sized.1)
code_short slots this m bytes some (without_code none others) = absurd (omega (arith, some, ap length none.no_instructions))

pub stack_map_short : (slots : Slots) (before : Before) (frames : List Frame) (others : List Attribute) (bytes : List ℕ) → 0 < length frames → CodeAttributesAre slots before frames others bytes → length (u2 (length frames) ++ frames_bytes slots before frames) < 2 ^ 32
stack_map_short slots before frames others bytes some (with_frames among) = let sized = among.3.4.4.3.4 in let le = ((write_stack_map slots before frames).writes sized.0 sized.3).1 in omega (arith, sized.1)
stack_map_short slots before frames others bytes some (without_frames none all) = absurd (omega (arith, some, ap length none))
