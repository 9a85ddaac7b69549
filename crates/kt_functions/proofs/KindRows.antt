-- Which modifier a name is.
use Rattle.std.proofs.Common.{◌≡◌, ℕ, ◌-◌, nat_lt, false, if◌then◌else◌, Option, sym, ap, ◌∙◌, arith}
use Rattle.std.specs.Option.{option_map, unwrap_or}
use Rattle.std.specs.List.{slice_get}
use Rattle.std.proofs.lemmas.Option.{unwrap_or-slice_get}
use Rattle.std.specs.Slice.{IsItemAt}
use denote.Ref.{Bor}
use Rattle.kc_tree.specs.declared.types.ModKind.{ModKind}
use Rattle.kc_tree.specs.declared.types.ModKind.TheVariants as mod_kind
use Rattle.kt_lexer.specs.declared.token.TokenKind.TheVariants as kind
use Rattle.kt_grammar.specs.DeclarationsBuilt.{mod_kinds, mod_kind_of}

pub kind_is : (n : ℕ) (r : Option (Bor ModKind)) → nat_lt n 8 ≡ false → IsItemAt mod_kinds (n - 8) r → unwrap_or (option_map (λ (x : Bor ModKind). x.now) r) mod_kind.Out ≡ mod_kind_of (kind.Name n)
kind_is n r h k = k.4 (omega arith) mod_kind.Out ∙ sym (unwrap_or-slice_get mod_kinds (n - 8) mod_kind.Out) ∙ sym (ap (λ b. if b then mod_kind.Out else unwrap_or (slice_get mod_kinds (n - 8)) mod_kind.Out) h)
