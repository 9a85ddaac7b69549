-- The laws of the core, over valid heads.
use Rattle.kc_types.specs.Core.{Ty, Class, Nullable, none, Heads, Valid, Below, put}
use Rattle.kc_types.specs.Laws.{CoreAgrees, CoreIsTransitive, CoreIsReflexive, CoreHasInstances, CoreKeepsPutting}
use Rattle.kc_types.proofs.CoreCut.{transitive}
use Rattle.kc_types.proofs.CoreLaws.{reflexive, instance_above, below_any, substituted}
use Rattle.kc_types.proofs.CoreBoth.{complete, sound}
use Rattle.kc_types.proofs.CoreHeads.{lawful, selfish, instance_kinded, put_kinded}

pub is_transitive : CoreIsTransitive
is_transitive h valid a b c d e = transitive h (lawful h valid) a b c d e

pub is_reflexive : CoreIsReflexive
is_reflexive h valid a k = reflexive h (selfish h valid) a k

everything : (h : Heads) → Valid h → (a : Ty) → Below h a (Nullable (Class h.any none))
everything h valid a = below_any h (λ c. valid.one c h.any none (valid.top c)) valid.plain a

pub agrees : CoreAgrees
agrees h valid a b ka kb =
    (λ d. complete h (lawful h valid) (selfish h valid) valid.found valid.one (instance_kinded h valid) (everything h valid) d, λ r. sound h valid.found (instance_kinded h valid) r.0 a b ka kb r.1)

pub has_instances : CoreHasInstances
has_instances h valid c d xs zs st k =
    let e = valid.one c d zs st in
    instance_above h (selfish h valid) c d xs zs e (instance_kinded h valid c d xs zs e k)

pub keeps_putting : CoreKeepsPutting
keeps_putting h valid s f a b ka kb d =
    let r = (agrees h valid a b ka kb).0 d in
    let q = substituted h s (λ k. reflexive h (selfish h valid) (s k) (f k)) (λ k. everything h valid (s k)) r.0 a b r.1 in
    (agrees h valid (put s a) (put s b) (put_kinded h s f a ka) (put_kinded h s f b kb)).1 q
