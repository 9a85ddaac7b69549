-- Where both recursions agree a question is decided.
use Rattle.std.specs.Prelude.{◌≡◌, ℕ, true}
use Rattle.kc_types.specs.Types.{Ty, Heads}
use Rattle.kc_types.specs.Subtype.{below, perhaps}
use Rattle.kc_types.specs.Formed.{Formed}
use Rattle.kc_types.specs.FormedSub.{FormedSub, ValidHeads}
use Rattle.kc_types.specs.Ending.{Ending}
use Rattle.kc_types.specs.Examples.{heads, ordered}
use Rattle.kc_types.specs.TypeOf.{heads_of}
use Rattle.kc_types.specs.BoxTrees.{box_trees}

-- at this height the recursion comes to the same answer, whatever is taken of questions beyond it
abbrev pub Decided : Heads → ℕ → Ty → Ty → Type 0
Decided h n a b = below n h a b ≡ perhaps n h a b

-- there the answer is the relation's
abbrev pub DecidedIsExact : Type 0
DecidedIsExact = (h : Heads) → ValidHeads h → (a b : Ty) → Formed h a → Formed h b → (n : ℕ) → Decided h n a b → (FormedSub h a b → below n h a b ≡ true) × (below n h a b ≡ true → FormedSub h a b)

-- so what is below by way of a third type is below
abbrev pub DecidedIsTransitive : Type 0
DecidedIsTransitive = (h : Heads) → ValidHeads h → (a b c : Ty) → Formed h a → Formed h b → Formed h c → (n m : ℕ) → below n h a b ≡ true → below m h b c ≡ true → (k : ℕ) → Decided h k a c → below k h a c ≡ true

-- over the hierarchies of `Ending` each question is decided at some height
abbrev pub QuestionsEnd : Type 0
QuestionsEnd = (h : Heads) → ValidHeads h → Ending h → (a b : Ty) → Formed h a → Formed h b → (n : ℕ) × Decided h n a b

-- so the relation and the recursion agree there, and the recursion is transitive
abbrev pub SubIsBelow : Type 0
SubIsBelow = (h : Heads) → ValidHeads h → Ending h → (a b : Ty) → Formed h a → Formed h b → FormedSub h a b → (n : ℕ) × (below n h a b ≡ true)

abbrev pub BelowIsTransitive : Type 0
BelowIsTransitive = (h : Heads) → ValidHeads h → Ending h → (a b c : Ty) → Formed h a → Formed h b → Formed h c → (n m : ℕ) → below n h a b ≡ true → below m h b c ≡ true → (k : ℕ) × (below k h a c ≡ true)

-- there are such heads, also with bounds that name their own parameter
abbrev pub HasEndingHeads : Type 0
HasEndingHeads = Ending heads × ValidHeads ordered × Ending ordered

-- also heads that trees stand for
abbrev pub HasEndingTrees : Type 0
HasEndingTrees = ValidHeads (heads_of box_trees) × Ending (heads_of box_trees)
