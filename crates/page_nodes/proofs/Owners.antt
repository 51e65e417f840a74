-- Owners are compared.
use Rattle.std.proofs.Common.{◌≡◌, Bool, true, refl, ap, arith, eqb-true, eq-eqb, ◌||◌, subst}
use Rattle.std.proofs.lemmas.Bool.{ltb-true}
use Rattle.code_units.specs.declared.owner.Owner.{Owner}
use Rattle.code_units.specs.declared.owner.Owner.TheVariants as owner
use Rattle.page_nodes.specs.Owners.{is_owner, same_owner, slot}

pub same_is : (o p : Owner) → same_owner o p ≡ true → o ≡ p
same_is owner.Host owner.Host h = refl
same_is owner.Host (owner.Widget w) h = cc
same_is (owner.Widget v) owner.Host h = cc
same_is (owner.Widget v) (owner.Widget w) h = ap owner.Widget (eqb-true v w h)

pub is_same : (o p : Owner) → o ≡ p → same_owner o p ≡ true
is_same o p e = subst (λ q. same_owner o q ≡ true) e (itself o)
  where
    itself : (q : Owner) → same_owner q q ≡ true
    itself owner.Host = refl
    itself (owner.Widget w) = eq-eqb w w refl

pub same_or : (o p : Owner) (b : Bool) → o ≡ p → (same_owner o p || b) ≡ true
same_or o p b e = ap (λ c. c || b) (is_same o p e)

-- owners of one place are one
pub slot_is : (o p : Owner) → is_owner o ≡ true → is_owner p ≡ true → slot o ≡ slot p → o ≡ p
slot_is owner.Host owner.Host i j e = refl
slot_is owner.Host (owner.Widget w) i j e = absurd (omega (arith, e, ltb-true w 32 j))
slot_is (owner.Widget v) owner.Host i j e = absurd (omega (arith, e, ltb-true v 32 i))
slot_is (owner.Widget v) (owner.Widget w) i j e = ap owner.Widget e
