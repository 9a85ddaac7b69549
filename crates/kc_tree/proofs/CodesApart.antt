-- The code of a printed name, which shows that no two codes are printed alike.
use Rattle.std.proofs.Common.{◌≡◌, ℕ, List, [], ◌∷◌, nat_eq, if◌then◌else◌, refl, sym, ap, ◌∙◌}
use Rattle.std.specs.Cmp.Lexicographic.{pointwise}
use Rattle.kc_tree.specs.declared.fault.Code.{Code}
use Rattle.kc_tree.specs.declared.fault.Code.TheVariants as code
use Rattle.kc_tree.specs.CodeNames.{name_of, NamesDiffer}

-- the first of these codes that has this name, or else the last of all
abbrev code_in : List Code → List ℕ → Code
code_in [] name = code.ManyMain
code_in (c ∷ cs) name = if pointwise nat_eq (name_of c) name then c else code_in cs name

abbrev all : List Code
all =
    code.NotBuilt ∷ code.BadUtf8 ∷ code.BadChar ∷ code.BadNumber ∷ code.LiteralTooWide ∷ code.BadEscape ∷
    code.BadCharLiteral ∷ code.UnclosedString ∷ code.UnclosedComment ∷ code.Syntax ∷ code.Package ∷ code.Redeclaration ∷
    code.Unresolved ∷ code.WrongTypeArgs ∷ code.Modifier ∷ code.Private ∷ code.SuperCycle ∷ code.SuperKind ∷
    code.SuperArgument ∷ code.TwoInstances ∷ code.SealedOutside ∷ code.Variance ∷ code.OverrideMissing ∷
    code.OverrideNothing ∷ code.OverrideTypes ∷ code.AbstractMember ∷ code.TwoBodies ∷ code.Clash ∷ code.NeedsType ∷
    code.StaticInit ∷ code.InlineCycle ∷ code.Mismatch ∷ code.UnsafeCall ∷ code.Unstable ∷ code.ReadOnly ∷
    code.EqualityTypes ∷ code.IdentityTypes ∷ code.UncheckedCast ∷ code.NeedsElse ∷ code.Missing ∷ code.JumpTarget ∷
    code.ReturnPlace ∷ code.InlineUse ∷ code.ReifiedArgument ∷ code.AbstractNew ∷ code.LambdaShape ∷
    code.NoneApplicable ∷ code.Ambiguous ∷ code.Conflict ∷ code.NoBound ∷ code.BoundBroken ∷ code.MissingArg ∷
    code.TooMany ∷ code.UnknownName ∷ code.Doubled ∷ code.PositionalAfterNamed ∷ code.Unassigned ∷ code.Reassigned ∷
    code.MissingReturn ∷ code.EarlyThis ∷ code.NoMain ∷ code.ManyMain ∷ []

code_of-name_of : (c : Code) → code_in all (name_of c) ≡ c
code_of-name_of code.NotBuilt = refl
code_of-name_of code.BadUtf8 = refl
code_of-name_of code.BadChar = refl
code_of-name_of code.BadNumber = refl
code_of-name_of code.LiteralTooWide = refl
code_of-name_of code.BadEscape = refl
code_of-name_of code.BadCharLiteral = refl
code_of-name_of code.UnclosedString = refl
code_of-name_of code.UnclosedComment = refl
code_of-name_of code.Syntax = refl
code_of-name_of code.Package = refl
code_of-name_of code.Redeclaration = refl
code_of-name_of code.Unresolved = refl
code_of-name_of code.WrongTypeArgs = refl
code_of-name_of code.Modifier = refl
code_of-name_of code.Private = refl
code_of-name_of code.SuperCycle = refl
code_of-name_of code.SuperKind = refl
code_of-name_of code.SuperArgument = refl
code_of-name_of code.TwoInstances = refl
code_of-name_of code.SealedOutside = refl
code_of-name_of code.Variance = refl
code_of-name_of code.OverrideMissing = refl
code_of-name_of code.OverrideNothing = refl
code_of-name_of code.OverrideTypes = refl
code_of-name_of code.AbstractMember = refl
code_of-name_of code.TwoBodies = refl
code_of-name_of code.Clash = refl
code_of-name_of code.NeedsType = refl
code_of-name_of code.StaticInit = refl
code_of-name_of code.InlineCycle = refl
code_of-name_of code.Mismatch = refl
code_of-name_of code.UnsafeCall = refl
code_of-name_of code.Unstable = refl
code_of-name_of code.ReadOnly = refl
code_of-name_of code.EqualityTypes = refl
code_of-name_of code.IdentityTypes = refl
code_of-name_of code.UncheckedCast = refl
code_of-name_of code.NeedsElse = refl
code_of-name_of code.Missing = refl
code_of-name_of code.JumpTarget = refl
code_of-name_of code.ReturnPlace = refl
code_of-name_of code.InlineUse = refl
code_of-name_of code.ReifiedArgument = refl
code_of-name_of code.AbstractNew = refl
code_of-name_of code.LambdaShape = refl
code_of-name_of code.NoneApplicable = refl
code_of-name_of code.Ambiguous = refl
code_of-name_of code.Conflict = refl
code_of-name_of code.NoBound = refl
code_of-name_of code.BoundBroken = refl
code_of-name_of code.MissingArg = refl
code_of-name_of code.TooMany = refl
code_of-name_of code.UnknownName = refl
code_of-name_of code.Doubled = refl
code_of-name_of code.PositionalAfterNamed = refl
code_of-name_of code.Unassigned = refl
code_of-name_of code.Reassigned = refl
code_of-name_of code.MissingReturn = refl
code_of-name_of code.EarlyThis = refl
code_of-name_of code.NoMain = refl
code_of-name_of code.ManyMain = refl

pub names_differ : NamesDiffer
names_differ a b e = sym (code_of-name_of a) ∙ ap (code_in all) e ∙ code_of-name_of b
