-- What a pick of a slot says of the slot's lives, and of other slots.
use Rattle.std.proofs.Common.{◌≡◌, ◌≢◌, ℕ, List, [], ◌∷◌, ◌++◌, Bool, true, false, refl, sym, ap, ◌∙◌, arith, Some, None}
use Rattle.std.specs.Prelude.{slice_get, nat_eq, if◌then◌else◌}
use Rattle.std.proofs.lemmas.Bool.{ne_eqb}
use Rattle.life_laws.specs.Life.{Seen, Turn, first, or_else}
use Rattle.life_laws.specs.declared.entry.PickEntry.{PickEntry}
use Rattle.life_laws.specs.declared.entry.Picked.{Picked}
use Rattle.life_laws.specs.declared.entry.Picked.TheVariants as picked
use Rattle.life_laws.specs.Slots.{has, Each, IdleAt, first_in, first_along, PickedSlot}
use Rattle.life_laws.specs.Chains.{Chains, PickedIn}
use Rattle.life_laws.proofs.Chaining.{each_has, out_of}
use Rattle.life_laws.proofs.Housing.{chain_in}

past_ended : (old new : List Seen) (xs ys : List ℕ) → Each (IdleAt old new) xs → first_along old (xs ++ ys) ≡ first_along old ys
past_ended old new [] ys h = refl
past_ended old new (x ∷ xs) ys h = ap (λ t. or_else t (first_along old (xs ++ ys))) (ap first_in h.0.at ∙ h.0.idle.none) ∙ past_ended old new xs ys h.1

-- the turn that is picked is the first that the slot's lives begin
pub first_picked : (k : ℕ) (r : Picked) (lives : List ℕ) (old new : List Seen) (js ks : List PickEntry) (left : List ℕ) (t : Turn) → (p : PickedSlot k r lives old new js ks left) → first p.was ≡ Some t → first_along old lives ≡ Some t
first_picked k r lives old new js ks left t p e =
    ap (first_along old) p.are ∙ (past_ended old new p.ended (p.life ∷ p.waiting) p.passed ∙ ap (λ u. or_else u (first_along old p.waiting)) (ap first_in p.at ∙ e))

-- where a pick is idle none of them begins a turn
pub none_picked : (k : ℕ) (lives : List ℕ) (old new : List Seen) (js ks : List PickEntry) (left : List ℕ) → PickedSlot k picked.Idle lives old new js ks left → first_along old lives ≡ None
none_picked k lives old new js ks left p =
    ap (first_along old) p.are ∙ (past_ended old new p.ended (p.life ∷ p.waiting) p.passed ∙ (ap (λ u. or_else u (first_along old p.waiting)) (ap first_in p.at ∙ p.picks.none) ∙ ap (first_along old) (p.last refl)))

-- the lives of other slots stay
if_no : {A : Type 0} (b : Bool) (x y : A) → b ≡ false → (if b then x else y) ≡ y
if_no b x y e = rw e refl

not_home : (homes : List ℕ) (w u v : ℕ) (xs : List ℕ) → u ≢ w → slice_get homes v ≡ Some u → Each (λ x. slice_get homes x ≡ Some w) xs → has v xs ≡ false
not_home homes w u v [] o e h = refl
not_home homes w u v (x ∷ xs) o e h = if_no (nat_eq x v) true (has v xs) (ne_eqb x v (λ f. let g : Some w ≡ Some u = sym h.0 ∙ (ap (slice_get homes) f ∙ e) in o (let k : u ≡ w = cc in k))) ∙ not_home homes w u v xs o e h.1

pub other_slots : (homes : List ℕ) (born w u k v : ℕ) (r : Picked) (cs ds : List (List ℕ)) (c : List ℕ) (old new : List Seen) (js ks : List PickEntry) → Chains homes born 0 cs → PickedIn w k r cs ds old new js ks → u ≢ w → slice_get cs u ≡ Some c → has v c ≡ true → slice_get new v ≡ slice_get old v
other_slots homes born w u k v r cs ds c old new js ks h p o at has =
    let mine = chain_in homes born 0 w w cs p.lives (omega arith) p.at h in
    let its = chain_in homes born 0 u u cs c (omega arith) at h in
    p.slot.others v (out_of v p.lives p.slot.ended p.slot.life p.slot.waiting p.slot.are (not_home homes w u v p.lives o (each_has (λ x. slice_get homes x ≡ Some u) v c its.home has) mine.home))
