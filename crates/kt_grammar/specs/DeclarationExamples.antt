-- What the grammar reads of small files.
use Rattle.std.specs.Prelude.{◌≡◌, ℕ, suc, true, false, List, [], ◌∷◌, ◌++◌, Option, Some, None}
use Rattle.grammars.specs.Grammar.{Cst, row}
use Rattle.grammars.specs.Runs.{read}
use Rattle.kt_lexer.specs.declared.token.Token.{Token}
use Rattle.kt_lexer.specs.declared.token.TokenKind.TheVariants as kind
use Rattle.kt_lexer.specs.declared.token.Keyword.TheVariants as keyword
use Rattle.kt_lexer.specs.declared.token.Operator.TheVariants as operator
use Rattle.kc_tree.specs.declared.types.Word.{Word}
use Rattle.kc_tree.specs.declared.types.ModKind.TheVariants as mod_kind
use Rattle.kc_tree.specs.declared.types.«Type».{«Type»}
use Rattle.kc_tree.specs.declared.types.TypeKind.TheVariants as type_kind
use Rattle.kc_tree.specs.declared.expr.ExprKind.TheVariants as e
use Rattle.kc_tree.specs.declared.decl.File.{File}
use Rattle.kc_tree.specs.declared.decl.DeclKind.TheVariants as decl_kind
use Rattle.kc_tree.specs.declared.decl.ClassForm.TheVariants as form
use Rattle.kc_tree.specs.declared.decl.MemberKind.TheVariants as member_kind
use Rattle.kc_tree.specs.declared.decl.FunBody.TheVariants as fun_body
use Rattle.kt_grammar.specs.Examples.{token, line, o, w, a, b, c, d, in_round, in_braces, left, placed, s, at}
use Rattle.kt_grammar.specs.DeclarationsBuilt.{file_of}
use Rattle.kt_grammar.specs.Rows.{grammar, file}

abbrev reserved : ℕ → Token
reserved n = token (kind.Name n)

abbrev get_word : Token
get_word = reserved 3

abbrev set_word : Token
set_word = reserved 4

abbrev init_word : Token
init_word = reserved 5

abbrev constructor_word : Token
constructor_word = reserved 6

abbrev import_word : Token
import_word = reserved 7

abbrev abstract_word : Token
abstract_word = reserved 13

abbrev data_word : Token
data_word = reserved 15

abbrev enum_word : Token
enum_word = reserved 16

abbrev colon : Token
colon = o operator.Colon

-- `fun a() { }`
abbrev function_a : List Token
function_a = w keyword.Fun ∷ a ∷ (in_round [] ++ in_braces [])

-- `get() = b`
abbrev getter_b : List Token
getter_b = get_word ∷ (in_round [] ++ (o operator.Assign ∷ b ∷ []))

-- lines, `;`, imports and the package
abbrev pub FilesRead : Type 0
FilesRead =
    (left file [] ≡ Some 0)
    × (left file (w keyword.Package ∷ a ∷ o operator.Dot ∷ b ∷ line import_word ∷ a ∷ o operator.Dot ∷ b ∷ o operator.Dot ∷ o operator.TimesBehindDot ∷ line import_word ∷ c ∷ line (w keyword.Class) ∷ a ∷ []) ≡ Some 0)
    × (left file (w keyword.Class ∷ a ∷ w keyword.Class ∷ b ∷ []) ≡ Some 2)
    × (left file (w keyword.Class ∷ a ∷ line (w keyword.Class) ∷ b ∷ []) ≡ Some 0)
    × (left file (w keyword.Class ∷ a ∷ o operator.Semicolon ∷ o operator.Semicolon ∷ w keyword.Class ∷ b ∷ []) ≡ Some 0)
    × (left file (o operator.Semicolon ∷ w keyword.Class ∷ b ∷ []) ≡ Some 3)

-- classes and what stands in them
abbrev pub ClassesRead : Type 0
ClassesRead =
    (left file (enum_word ∷ w keyword.Class ∷ a ∷ in_braces (b ∷ (in_round (d ∷ []) ++ (o operator.Comma ∷ c ∷ o operator.Comma ∷ o operator.Semicolon ∷ function_a)))) ≡ Some 0)
    × (left file (enum_word ∷ w keyword.Class ∷ a ∷ in_braces function_a) ≡ None)
    × (left file (w keyword.Class ∷ a ∷ in_braces (b ∷ [])) ≡ None)
    × (left file (w keyword.Class ∷ a ∷ (in_round (w keyword.Val ∷ b ∷ colon ∷ c ∷ o operator.Comma ∷ data_word ∷ colon ∷ c ∷ o operator.Comma ∷ [])
    ++ (colon ∷ c ∷ (in_round (d ∷ []) ++ (o operator.Comma ∷ d ∷ in_braces (init_word ∷ in_braces [])))))) ≡ Some 0)
    × (left file (w keyword.Class ∷ a ∷ constructor_word ∷ []) ≡ None)
    × (left file (w keyword.Class ∷ a ∷ colon ∷ b ∷ o operator.Comma ∷ line abstract_word ∷ w keyword.Class ∷ c ∷ []) ≡ Some 0)
    × (left file (w keyword.Class ∷ a ∷ colon ∷ b ∷ o operator.Comma ∷ abstract_word ∷ line (w keyword.Class) ∷ c ∷ []) ≡ Some 0)
    × (left file (enum_word ∷ w keyword.Class ∷ a ∷ in_braces (b ∷ o operator.Semicolon ∷ o operator.Semicolon ∷ [])) ≡ None)
    × (left file (w keyword.Interface ∷ a ∷ in_braces (init_word ∷ in_braces [])) ≡ None)
    × (left file (w keyword.Interface ∷ a ∷ in_braces (w keyword.Val ∷ b ∷ colon ∷ c ∷ [])) ≡ Some 0)
    × (left file (w keyword.Interface ∷ a ∷ in_braces (w keyword.Val ∷ b ∷ colon ∷ c ∷ o operator.Assign ∷ d ∷ [])) ≡ None)

-- receivers, parameters, accessors, and what `abstract` leaves out
abbrev pub MembersRead : Type 0
MembersRead =
    (left file (w keyword.Fun ∷ a ∷ o operator.Less ∷ b ∷ o operator.Greater ∷ o operator.SafeDot ∷ c ∷ in_round []) ≡ Some 0)
    × (left file (w keyword.Fun ∷ (in_round (a ∷ []) ++ (o operator.Dot ∷ c ∷ in_round []))) ≡ Some 0)
    × (left file (w keyword.Class ∷ a ∷ in_braces (w keyword.Fun ∷ a ∷ o operator.Dot ∷ c ∷ in_round [])) ≡ None)
    × (left file (w keyword.Fun ∷ a ∷ in_round (data_word ∷ colon ∷ b ∷ o operator.Comma ∷ data_word ∷ c ∷ colon ∷ b ∷ [])) ≡ Some 0)
    × (left file (abstract_word ∷ function_a) ≡ Some 2)
    × (left file (abstract_word ∷ w keyword.Val ∷ a ∷ colon ∷ b ∷ []) ≡ None)
    × (left file (w keyword.Val ∷ a ∷ colon ∷ b ∷ []) ≡ None)
    × (left file (w keyword.Val ∷ a ∷ getter_b) ≡ Some 0)
    × (left file (w keyword.Var ∷ a ∷ getter_b) ≡ None)
    × (left file (w keyword.Var ∷ a ∷ (getter_b ++ (set_word ∷ (in_round (c ∷ []) ++ in_braces [])))) ≡ None)
    × (left file (w keyword.Var ∷ a ∷ (getter_b ++ (line set_word ∷ (in_round (c ∷ []) ++ in_braces [])))) ≡ Some 0)

-- ---- trees with places

abbrev file_from : Option (Cst Token × List Token) → Option File
file_from None = None
file_from (Some k) = Some (file_of k.0)

abbrev file_at : List Token → Option File
file_at ts = file_from (read grammar 2000 (row file) (placed 0 ts))

abbrev word_at : ℕ → ℕ → ℕ → Word
word_at i j n = record { span = s i j; name = n }

abbrev type_at : ℕ → ℕ → «Type»
type_at i n = record { span = s i (suc i); kind = type_kind.Named (word_at i (suc i) n ∷ []) [] }

abbrev pub FilesBuilt : Type 0
FilesBuilt =
    (file_at (w keyword.Fun ∷ a ∷ o operator.SafeDot ∷ b ∷ (in_round (c ∷ colon ∷ d ∷ []) ++ (o operator.Assign ∷ c ∷ [])))
    ≡ Some (record {
      span = s 0 11;
      «package» = [];
      imports = [];
      decls = record {
        span = s 0 11;
        mods = [];
        kind = decl_kind.Fun (record {
          params = [];
          receiver = Some (record { span = s 1 3; kind = type_kind.Nullable (type_at 1 30) });
          name = word_at 3 4 31;
          values = record { span = s 5 8; mods = []; name = word_at 5 6 32; ty = type_at 7 33; default = None } ∷ [];
          result = None;
          body = Some (fun_body.Expr (at 10 11 (e.Name 32)));
        });
      } ∷ [];
    }))
    × (file_at (import_word ∷ a ∷ o operator.Dot ∷ o operator.TimesBehindDot ∷ enum_word ∷ w keyword.Class ∷ b ∷ in_braces (c ∷ []))
    ≡ Some (record {
      span = s 0 10;
      «package» = [];
      imports = record { span = s 0 4; path = word_at 1 2 30 ∷ []; star = true } ∷ [];
      decls = record {
        span = s 4 10;
        mods = record { span = s 4 5; kind = mod_kind.Enum } ∷ [];
        kind = decl_kind.Class (record {
          form = form.Class;
          name = word_at 6 7 31;
          params = [];
          primary = None;
          supers = [];
          constants = record { span = s 8 9; name = word_at 8 9 32; args = None } ∷ [];
          members = [];
        });
      } ∷ [];
    }))
    × (file_at (w keyword.Class ∷ a ∷ in_braces (w keyword.Val ∷ b ∷ getter_b))
    ≡ Some (record {
      span = s 0 11;
      «package» = [];
      imports = [];
      decls = record {
        span = s 0 11;
        mods = [];
        kind = decl_kind.Class (record {
          form = form.Class;
          name = word_at 1 2 30;
          params = [];
          primary = None;
          supers = [];
          constants = [];
          members = record {
            span = s 3 10;
            mods = [];
            kind = member_kind.Prop (record {
              is_var = false;
              name = word_at 4 5 31;
              ty = None;
              value = None;
              getter = Some (record { span = s 5 10; ty = None; body = fun_body.Expr (at 9 10 (e.Name 31)) });
              setter = None;
            });
          } ∷ [];
        });
      } ∷ [];
    }))
