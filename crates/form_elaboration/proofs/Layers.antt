-- One layer of a tree as it is written, mapped twice, is mapped once.
use Rattle.std.proofs.Common.{◌≡◌, List, [], ◌∷◌, map, Some, None, refl, ap}
use Rattle.form_parser.specs.declared.surface.ExpressionKind.TheOpen.{ExpressionKind-F}
use Rattle.form_parser.specs.declared.surface.ExpressionKind.TheFolds.{map-ExpressionKind}
use Rattle.form_parser.specs.declared.surface.Statement.TheOpen.{Statement-F}
use Rattle.form_parser.specs.declared.surface.Statement.TheFolds.{map-Statement}

pub map_twice : (A B C : Type 0) (f : B → C) (g : A → B) (es : List A) → map f (map g es) ≡ map (λ a. f (g a)) es
map_twice A B C f g [] = refl
map_twice A B C f g (e ∷ es) = ap (λ l. f (g e) ∷ l) (map_twice A B C f g es)

pub expression_twice : (A B K C X Y : Type 0) (p : A → K) (q : B → C) (f : K → X) (g : C → Y) (y : ExpressionKind-F A B)
    → map-ExpressionKind K C X Y f g (map-ExpressionKind A B K C p q y) ≡ map-ExpressionKind A B X Y (λ a. f (p a)) (λ b. g (q b)) y
expression_twice A B K C X Y p q f g (ExpressionKind-F.Number n) = refl
expression_twice A B K C X Y p q f g (ExpressionKind-F.Truth b) = refl
expression_twice A B K C X Y p q f g (ExpressionKind-F.Name n) = refl
expression_twice A B K C X Y p q f g (ExpressionKind-F.Negation x) = refl
expression_twice A B K C X Y p q f g (ExpressionKind-F.Not x) = refl
expression_twice A B K C X Y p q f g (ExpressionKind-F.Binary op x y) = refl
expression_twice A B K C X Y p q f g (ExpressionKind-F.Compare order x y) = refl
expression_twice A B K C X Y p q f g (ExpressionKind-F.Equality equal x y) = refl
expression_twice A B K C X Y p q f g (ExpressionKind-F.And x y) = refl
expression_twice A B K C X Y p q f g (ExpressionKind-F.Or x y) = refl

pub statement_twice : (A B K C X Y : Type 0) (p : A → K) (q : B → C) (f : K → X) (g : C → Y) (y : Statement-F A B)
    → map-Statement K C X Y f g (map-Statement A B K C p q y) ≡ map-Statement A B X Y (λ a. f (p a)) (λ b. g (q b)) y
statement_twice A B K C X Y p q f g (Statement-F.Declare place is_var name value) = refl
statement_twice A B K C X Y p q f g (Statement-F.Assign place name value) = refl
statement_twice A B K C X Y p q f g (Statement-F.Print place value) = refl
statement_twice A B K C X Y p q f g (Statement-F.If place test held None) = refl
statement_twice A B K C X Y p q f g (Statement-F.If place test held (Some failed)) = refl
statement_twice A B K C X Y p q f g (Statement-F.While place test body) = refl
