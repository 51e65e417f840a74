-- The lives of all slots.
use Rattle.std.proofs.Common.{◌≡◌, ◌≢◌, ℕ, zero, suc, ◌+◌, ◌<◌, ◌≤◌, List, [], ◌∷◌, ◌++◌, length, Bool, true, false, refl, sym, ap, ◌∙◌, subst, arith, Option, Some, None, ◌⊎◌, inl, inr}
use Rattle.std.specs.Prelude.{slice_get, slice_set, nat_eq, if◌then◌else◌, is_some, not}
use Rattle.std.proofs.lemmas.Bool.{ne_eqb}
use Rattle.std.proofs.lemmas.Bool.Decides.{eqb_tells}
use Rattle.life_laws.specs.Life.{Seen, Going, Work, ready, is_empty}
use Rattle.life_laws.specs.declared.entry.PickEntry.{PickEntry}
use Rattle.life_laws.specs.declared.entry.Picked.{Picked}
use Rattle.life_laws.proofs.Crowds.{same_some}
use Rattle.life_laws.specs.Slots.{has, Each, IdleAt, IsTail}
use Rattle.life_laws.specs.Chains.{IsChain, Chains, listed, Rest, PickedIn}
use Rattle.life_laws.proofs.Passing.{each_tail, rising_tail, has_append}

if_yes : {A : Type 0} (b : Bool) (x y : A) → b ≡ true → (if b then x else y) ≡ x
if_yes b x y e = rw e refl

if_no : {A : Type 0} (b : Bool) (x y : A) → b ≡ false → (if b then x else y) ≡ y
if_no b x y e = rw e refl

pub chain_set : (homes : List ℕ) (born v w i : ℕ) (cs : List (List ℕ)) (c : List ℕ) → w ≡ v + i → IsChain homes born w c → Chains homes born v cs → Chains homes born v (slice_set cs i c)
chain_set homes born v w i [] c e f h = tt
chain_set homes born v w zero (x ∷ cs) c e f h = (let Q : ℕ → Type 0 = λ u. IsChain homes born u c in subst Q (let k : w ≡ v = omega arith in k) f, h.1)
chain_set homes born v w (suc i) (x ∷ cs) c e f h = (h.0, chain_set homes born (v + 1) w i cs c (omega arith) f h.1)

pub chain_tail : (homes : List ℕ) (born w : ℕ) (old new : List ℕ) → IsTail old new → 0 < length new → IsChain homes born w old → IsChain homes born w new
chain_tail homes born w old new t some h =
    let P : List ℕ → Type 0 = λ xs. IsChain homes born w xs in
    let g = subst P t.are h in
    record { some = some; rising = rising_tail t.ended new g.rising; below = each_tail (λ v. v < born) t.ended new g.below; home = each_tail (λ v. slice_get homes v ≡ Some w) t.ended new g.home }

pub not_has : (born v : ℕ) (xs : List ℕ) → born ≤ v → Each (λ u. u < born) xs → has v xs ≡ false
not_has born v [] l h = refl
not_has born v (x ∷ xs) l h = if_no (nat_eq x v) true (has v xs) (ne_eqb x v (λ e. let m = h.0 in absurd (omega arith))) ∙ not_has born v xs l h.1

-- ## Those that are in no slot

both_no : (a b : Bool) → (if a then true else b) ≡ false → (a ≡ false) × (b ≡ false)
both_no true b e = cc
both_no false b e = (refl, e)

listed_back : (v : ℕ) (cs : List (List ℕ)) (w : ℕ) (lives left : List ℕ) → slice_get cs w ≡ Some lives → has v lives ≡ false → listed v (slice_set cs w left) ≡ false → listed v cs ≡ false
listed_back v [] w lives left e f g = cc
listed_back v (c ∷ cs) zero lives left e f g = let same : c ≡ lives = cc in if_no (has v c) true (listed v cs) (ap (has v) same ∙ f) ∙ (both_no (has v left) (listed v cs) g).1
listed_back v (c ∷ cs) (suc w) lives left e f g = let b = both_no (has v c) (listed v (slice_set cs w left)) g in if_no (has v c) true (listed v cs) b.0 ∙ listed_back v cs w lives left e f b.1

listed_at : (v : ℕ) (cs : List (List ℕ)) (w : ℕ) (lives left : List ℕ) → slice_get cs w ≡ Some lives → listed v (slice_set cs w left) ≡ false → has v left ≡ false
listed_at v [] w lives left e g = cc
listed_at v (c ∷ cs) zero lives left e g = (both_no (has v left) (listed v cs) g).0
listed_at v (c ∷ cs) (suc w) lives left e g = listed_at v cs w lives left e (both_no (has v c) (listed v (slice_set cs w left)) g).1

pub each_has : (P : ℕ → Type 0) (v : ℕ) (xs : List ℕ) → Each P xs → has v xs ≡ true → P v
each_has P v [] h e = cc
each_has P v (x ∷ xs) h e = by (eqb_tells x v) (each_has P v xs h.1)
  where
    by : ((nat_eq x v ≡ true) × (x ≡ v)) ⊎ ((nat_eq x v ≡ false) × (x ≢ v)) → (has v xs ≡ true → P v) → P v
    by (inl same) r = subst P same.1 h.0
    by (inr other) r = r (sym (if_no (nat_eq x v) true (has v xs) other.0) ∙ e)

idle_quiet : (g : Option Going) (q : List Work) → g ≡ None → q ≡ [] → (if is_some g then true else not (is_empty q)) ≡ false
idle_quiet g q e f = ap (λ x. if is_some x then true else not (is_empty q)) e ∙ ap (λ x. not (is_empty x)) f

yes_left : (a b : Bool) → (if a then true else b) ≡ true → b ≡ false → a ≡ true
yes_left true b e f = refl
yes_left false b e f = cc

-- the ended lives are in no slot, and have done all
pub rest_after : (w k : ℕ) (r : Picked) (cs ds : List (List ℕ)) (old new : List Seen) (js ks : List PickEntry) → PickedIn w k r cs ds old new js ks → Rest cs old → Rest ds new
rest_after w k r cs ds old new js ks p h = λ v s e f. by v s (let P : List (List ℕ) → Type 0 = λ xs. listed v xs ≡ false in subst P p.set e) f (has v p.lives) refl
  where
    by : (v : ℕ) (s : Seen) → listed v (slice_set cs w p.left) ≡ false → slice_get new v ≡ Some s → (b : Bool) → has v p.lives ≡ b → ready s ≡ false
    by v s e f true g =
        let none : has v (p.slot.life ∷ p.slot.waiting) ≡ false = ap (has v) (sym p.slot.left_is) ∙ listed_at v cs w p.lives p.left p.at e in
        let was : has v p.slot.ended ≡ true = yes_left (has v p.slot.ended) (has v (p.slot.life ∷ p.slot.waiting)) (sym (has_append v p.slot.ended (p.slot.life ∷ p.slot.waiting)) ∙ (ap (has v) (sym p.slot.are) ∙ g)) none in
        let i = each_has (IdleAt old new) v p.slot.ended p.slot.passed was in
        ap ready (same_some _ s i.is f i.now) ∙ idle_quiet i.is.going i.is.queue i.idle.going i.idle.queue
    by v s e f false g =
        let parts = both_no (has v p.slot.ended) (has v (p.slot.life ∷ p.slot.waiting)) (sym (has_append v p.slot.ended (p.slot.life ∷ p.slot.waiting)) ∙ (ap (has v) (sym p.slot.are) ∙ g)) in
        let one : has v (p.slot.life ∷ []) ≡ false = if_no (nat_eq p.slot.life v) true false (both_no (nat_eq p.slot.life v) (has v p.slot.waiting) parts.1).0 in
        let out : has v (p.slot.ended ++ p.slot.life ∷ []) ≡ false = has_append v p.slot.ended (p.slot.life ∷ []) ∙ (if_no (has v p.slot.ended) true _ parts.0 ∙ one) in
        h v s (listed_back v cs w p.lives p.left p.at g e) (sym (p.slot.others v out) ∙ f)

pub out_of : (v : ℕ) (lives ended : List ℕ) (life : ℕ) (waiting : List ℕ) → lives ≡ ended ++ life ∷ waiting → has v lives ≡ false → has v (ended ++ life ∷ []) ≡ false
out_of v lives ended life waiting e g =
    let parts = both_no (has v ended) (has v (life ∷ waiting)) (sym (has_append v ended (life ∷ waiting)) ∙ (ap (has v) (sym e) ∙ g)) in
    let one : has v (life ∷ []) ≡ false = if_no (nat_eq life v) true false (both_no (nat_eq life v) (has v waiting) parts.1).0 in
    has_append v ended (life ∷ []) ∙ (if_no (has v ended) true _ parts.0 ∙ one)
