-- The last lives of slots.
use Rattle.std.proofs.Common.{◌≡◌, ◌≢◌, ℕ, zero, suc, ◌+◌, ◌<◌, ◌≤◌, List, [], ◌∷◌, length, take, Bool, true, false, refl, sym, ap, ◌∙◌, subst, arith, Some, ne_eqb}
use Rattle.std.specs.Prelude.{slice_get, nat_eq, if◌then◌else◌, ◌||◌}
use Rattle.std.specs.List.{list_any}
use Rattle.life_laws.specs.Slots.{Each, has}
use Rattle.life_laws.specs.Chains.{Chains, IsChain, last_at, last_from, last_life, listed}
use Rattle.slot_picks.specs.declared.slots.Slot.{Slot}
use Rattle.slot_picks.specs.Lives.{chains_of}
use Rattle.widget_host.specs.declared.items.HostItem.{HostItem}
use Rattle.widget_host.specs.declared.items.HostItem.TheVariants as host
use Rattle.widget_host.specs.Housed.{IsItem, is_for}

pub some_is : {A : Type 0} (x y : A) → Some x ≡ Some y → x ≡ y
some_is x y e = cc

last_each_from : (P : ℕ → Type 0) (x : ℕ) (xs : List ℕ) → P x → Each P xs → P (last_from x xs)
last_each_from P x [] p ps = p
last_each_from P x (y ∷ ys) p ps = last_each_from P y ys ps.0 ps.1

-- what holds of each life of a slot holds of the last one
pub last_each : (P : ℕ → Type 0) (xs : List ℕ) → 0 < length xs → Each P xs → P (last_life xs)
last_each P [] some ps = absurd (omega (arith, some))
last_each P (x ∷ xs) some ps = last_each_from P x xs ps.0 ps.1

last_end_from : (y : ℕ) (ys : List ℕ) (n x : ℕ) → n + 1 ≡ length (y ∷ ys) → slice_get (y ∷ ys) n ≡ Some x → x ≡ last_from y ys
last_end_from y [] zero x e at = sym (some_is y x at)
last_end_from y [] (suc n) x e at = absurd (omega (arith, e))
last_end_from y (z ∷ zs) zero x e at = absurd (omega (arith, e))
last_end_from y (z ∷ zs) (suc n) x e at = last_end_from z zs n x (omega (arith, e)) at

-- the last life of a slot is the element at its end
pub last_end : (xs : List ℕ) (n x : ℕ) → n + 1 ≡ length xs → slice_get xs n ≡ Some x → x ≡ last_life xs
last_end [] n x e at = absurd (omega (arith, e))
last_end (y ∷ ys) n x e at = last_end_from y ys n x e at

-- a slot by its number
pub last_of_slot : (ss : List Slot) (w : ℕ) (s : Slot) → slice_get ss w ≡ Some s → last_at w (chains_of ss) ≡ last_life s.lives.items
last_of_slot [] w s at = cc
last_of_slot (t ∷ ss) zero s at = ap (λ (x : Slot). last_life x.lives.items) (some_is t s at)
last_of_slot (t ∷ ss) (suc w) s at = last_of_slot ss w s at

pub slot_chain : (homes : List ℕ) (born v w : ℕ) (ss : List Slot) (s : Slot) → slice_get ss w ≡ Some s → Chains homes born v (chains_of ss) → IsChain homes born (v + w) s.lives.items
slot_chain homes born v w [] s at h = cc
slot_chain homes born v zero (t ∷ ss) s at h = let e : v ≡ v + 0 = omega arith in subst (λ n. IsChain homes born n s.lives.items) e (subst (λ (x : Slot). IsChain homes born v x.lives.items) (some_is t s at) h.0)
slot_chain homes born v (suc w) (t ∷ ss) s at h = let e : (v + 1) + w ≡ v + suc w = omega arith in subst (λ n. IsChain homes born n s.lives.items) e (slot_chain homes born (v + 1) w ss s at h.1)

-- ## The last lives of all slots

-- a life of a slot is not the last one of a slot before it
pub no_last_before : (homes : List ℕ) (born k i v m : ℕ) (cs : List (List ℕ)) → Chains homes born k cs → slice_get homes v ≡ Some m → k + i ≤ m → list_any (λ c. nat_eq (last_life c) v) (take i cs) ≡ false
no_last_before homes born k zero v m cs h at past = refl
no_last_before homes born k (suc i) v m [] h at past = refl
no_last_before homes born k (suc i) v m (c ∷ cs) h at past =
    ap (λ b. b || list_any (λ d. nat_eq (last_life d) v) (take i cs)) (ne_eqb (last_life c) v other) ∙ no_last_before homes born (k + 1) i v m cs h.1 at (omega (arith, past))
  where
    other : last_life c ≢ v
    other e =
        let home : slice_get homes v ≡ Some k = subst (λ u. slice_get homes u ≡ Some k) e (last_each (λ u. slice_get homes u ≡ Some k) c h.0.some h.0.home) in
        let same : k ≡ m = some_is k m (sym home ∙ at) in
        absurd (omega (arith, same, past))

or_none : (b : Bool) → (b || false) ≡ b
or_none true = refl
or_none false = refl

or_assoc : (a b c : Bool) → (a || (b || c)) ≡ ((a || b) || c)
or_assoc true b c = refl
or_assoc false b c = refl

-- one slot more
pub last_step : (v i : ℕ) (ss : List Slot) (s : Slot) → slice_get ss i ≡ Some s
    → list_any (λ c. nat_eq (last_life c) v) (take (i + 1) (chains_of ss)) ≡ (list_any (λ c. nat_eq (last_life c) v) (take i (chains_of ss)) || nat_eq (last_life s.lives.items) v)
last_step v i [] s at = cc
last_step v zero (t ∷ ss) s at = or_none (nat_eq (last_life t.lives.items) v) ∙ ap (λ (x : Slot). nat_eq (last_life x.lives.items) v) (some_is t s at)
last_step v (suc i) (t ∷ ss) s at =
    let e : suc i + 1 ≡ suc (i + 1) = omega arith in
    ap (λ n. list_any (λ c. nat_eq (last_life c) v) (take n (chains_of (t ∷ ss)))) e
    ∙ ap (λ b. nat_eq (last_life t.lives.items) v || b) (last_step v i ss s at) ∙ or_assoc (nat_eq (last_life t.lives.items) v) (list_any (λ c. nat_eq (last_life c) v) (take i (chains_of ss))) (nat_eq (last_life s.lives.items) v)

-- ## Lives that are in no slot

both_no : (a b : Bool) → (if a then true else b) ≡ false → (a ≡ false) × (b ≡ false)
both_no true b e = cc
both_no false b e = (refl, e)

not_last_from : (v x : ℕ) (xs : List ℕ) → has v (x ∷ xs) ≡ false → nat_eq (last_from x xs) v ≡ false
not_last_from v x [] e = (both_no (nat_eq x v) false e).0
not_last_from v x (y ∷ ys) e = not_last_from v y ys (both_no (nat_eq x v) (has v (y ∷ ys)) e).1

not_last : (v : ℕ) (xs : List ℕ) → 0 < length xs → has v xs ≡ false → nat_eq (last_life xs) v ≡ false
not_last v [] some e = absurd (omega (arith, some))
not_last v (x ∷ xs) some e = not_last_from v x xs e

not_last_at : (homes : List ℕ) (born k v w : ℕ) (cs : List (List ℕ)) → Chains homes born k cs → w < length cs → listed v cs ≡ false → nat_eq (last_at w cs) v ≡ false
not_last_at homes born k v w [] h within out = absurd (omega (arith, within))
not_last_at homes born k v zero (c ∷ cs) h within out = not_last v c h.0.some (both_no (has v c) (listed v cs) out).0
not_last_at homes born k v (suc w) (c ∷ cs) h within out = not_last_at homes born (k + 1) v w cs h.1 (omega (arith, within)) (both_no (has v c) (listed v cs) out).1

pub not_last_any : (homes : List ℕ) (born k v : ℕ) (cs : List (List ℕ)) → Chains homes born k cs → listed v cs ≡ false → list_any (λ c. nat_eq (last_life c) v) cs ≡ false
not_last_any homes born k v [] h out = refl
not_last_any homes born k v (c ∷ cs) h out =
    let b = both_no (has v c) (listed v cs) out in
    ap (λ x. x || list_any (λ d. nat_eq (last_life d) v) cs) (not_last v c h.0.some b.0) ∙ not_last_any homes born (k + 1) v cs h.1 b.1

-- nothing is for one that is in no slot
pub not_for : (homes : List ℕ) (born v : ℕ) (cs : List (List ℕ)) (i : HostItem) → Chains homes born 0 cs → IsItem i (length cs) → listed v cs ≡ false → is_for cs i v ≡ false
not_for homes born v cs (host.Event to e) h shape out = not_last_at homes born 0 v to cs h shape out
not_for homes born v cs (host.Advance ms) h shape out = not_last_any homes born 0 v cs h out

-- the last life of a slot is one of all lives
pub last_there : (homes : List ℕ) (born w n : ℕ) (vs : List ℕ) → IsChain homes born w vs → born ≤ n → last_life vs < n
last_there homes born w n vs h few = let e = last_each (λ v. v < born) vs h.some h.below in omega (arith, e, few)
