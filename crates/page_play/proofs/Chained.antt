-- The lives of slots: the first ones of a page, with one more, and the last ones alone.
use Rattle.std.proofs.Common.{◌≡◌, ◌≢◌, ℕ, zero, suc, ◌+◌, ◌<◌, ◌≤◌, List, [], ◌∷◌, ◌++◌, map, length, Bool, true, false, refl, sym, ap, subst, ◌∙◌, arith, eq-eqb}
use Rattle.std.specs.Prelude.{nat_eq, if◌then◌else◌, ◌||◌}
use Rattle.life_laws.specs.Journal.{on_at}
use Rattle.life_laws.specs.Slots.{Each, has}
use Rattle.life_laws.specs.Chains.{Chains, joins, last_at, last_from, last_life, listed}
use Rattle.life_laws.proofs.Passing.{has_append}
use Rattle.widget_host.specs.Housed.{singles}
use Rattle.widget_host.specs.Rounds.{is_last}

if_yes : {A : Type 0} (b : Bool) (x y : A) → b ≡ true → (if b then x else y) ≡ x
if_yes b x y e = rw e refl

if_no : {A : Type 0} (b : Bool) (x y : A) → b ≡ false → (if b then x else y) ≡ y
if_no b x y e = rw e refl

both_no : (a b : Bool) → (if a then true else b) ≡ false → (a ≡ false) × (b ≡ false)
both_no true b e = absurd (let f = e in cc)
both_no false b e = (refl, e)

or_no : (a b : Bool) → (a || b) ≡ false → (a ≡ false) × (b ≡ false)
or_no true b e = absurd (let f = e in cc)
or_no false b e = (refl, e)

or_yes : (a b : Bool) → (a || b) ≡ true → a ≡ false → b ≡ true
or_yes true b e f = absurd (let g = f in cc)
or_yes false b e f = e

or_left : (a b : Bool) → (a || b) ≡ true → b ≡ false → a ≡ true
or_left true b e f = refl
or_left false true e f = absurd (let g = f in cc)
or_left false false e f = e

or_true : (a b : Bool) → b ≡ true → (a || b) ≡ true
or_true true b e = refl
or_true false b e = e

either_true : (a b : Bool) → b ≡ true → (if a then true else b) ≡ true
either_true true b e = refl
either_true false b e = e

-- ## The first lives

pub singles_length : (v n : ℕ) → length (singles v n) ≡ n
singles_length v zero = refl
singles_length v (suc n) = ap suc (singles_length (v + 1) n)

pub last_single : (v n w : ℕ) → w < n → last_at w (singles v n) ≡ v + w
last_single v zero w within = absurd (omega (arith, within))
last_single v (suc n) zero within = omega arith
last_single v (suc n) (suc w) within = let r = last_single (v + 1) n w (omega (arith, within)) in omega (arith, r)

-- each slot has its one life still
pub singles_lasts : (v n : ℕ) → map (λ c. last_life c ∷ []) (singles v n) ≡ singles v n
singles_lasts v zero = refl
singles_lasts v (suc n) = ap (λ cs. (v ∷ []) ∷ cs) (singles_lasts (v + 1) n)

pub beyond_singles : (k v n : ℕ) → listed (v + k) (singles v n) ≡ false → n ≤ k
beyond_singles k v zero out = omega arith
beyond_singles zero v (suc n) out =
    let here : nat_eq v (v + 0) ≡ true = eq-eqb v (v + 0) (omega arith) in
    absurd (let e : true ≡ false = sym (if_yes (has (v + 0) (v ∷ [])) true (listed (v + 0) (singles (v + 1) n)) (if_yes (nat_eq v (v + 0)) true false here)) ∙ out in cc)
beyond_singles (suc k) v (suc n) out =
    let b = both_no (has (v + suc k) (v ∷ [])) (listed (v + suc k) (singles (v + 1) n)) out in
    let e : v + suc k ≡ (v + 1) + k = omega arith in
    let r = beyond_singles k (v + 1) n (subst (λ u. listed u (singles (v + 1) n) ≡ false) e b.1) in
    omega (arith, r)

pub singles_last : (u v n : ℕ) → listed u (singles v n) ≡ true → is_last u (singles v n) ≡ false → ⊥
singles_last u v zero on off = let e = on in cc
singles_last u v (suc n) on off =
    let b = or_no (nat_eq v u) (is_last u (singles (v + 1) n)) off in
    let off_here : has u (v ∷ []) ≡ false = if_no (nat_eq v u) true false b.0 in
    singles_last u (v + 1) n (sym (if_no (has u (v ∷ [])) true (listed u (singles (v + 1) n)) off_here) ∙ on) b.1

-- ## One life more

pub joined_length : (to v : ℕ) (cs : List (List ℕ)) → length (on_at to (joins v) cs) ≡ length cs
joined_length to v [] = refl
joined_length zero v (c ∷ cs) = refl
joined_length (suc to) v (c ∷ cs) = ap suc (joined_length to v cs)

last_push_from : (x : ℕ) (xs : List ℕ) (v : ℕ) → last_from x (xs ++ v ∷ []) ≡ v
last_push_from x [] v = refl
last_push_from x (y ∷ xs) v = last_push_from y xs v

last_push : (xs : List ℕ) (v : ℕ) → last_life (xs ++ v ∷ []) ≡ v
last_push [] v = refl
last_push (x ∷ xs) v = last_push_from x xs v

pub last_joined : (to v : ℕ) (cs : List (List ℕ)) → to < length cs → last_at to (on_at to (joins v) cs) ≡ v
last_joined to v [] within = absurd (omega (arith, within))
last_joined zero v (c ∷ cs) within = last_push c v
last_joined (suc to) v (c ∷ cs) within = last_joined to v cs (omega (arith, within))

pub last_other : (to w v : ℕ) (cs : List (List ℕ)) → to ≢ w → last_at w (on_at to (joins v) cs) ≡ last_at w cs
last_other to w v [] other = refl
last_other zero zero v (c ∷ cs) other = absurd (other refl)
last_other zero (suc w) v (c ∷ cs) other = refl
last_other (suc to) zero v (c ∷ cs) other = refl
last_other (suc to) (suc w) v (c ∷ cs) other = last_other to w v cs (λ e. other (ap suc e))

-- it stands there
pub joined_listed : (u to v : ℕ) (cs : List (List ℕ)) → to < length cs → nat_eq v u ≡ true → listed u (on_at to (joins v) cs) ≡ true
joined_listed u to v [] within same = absurd (omega (arith, within))
joined_listed u zero v (c ∷ cs) within same =
    if_yes (has u (c ++ v ∷ [])) true (listed u cs) (has_append u c (v ∷ []) ∙ either_true (has u c) (has u (v ∷ [])) (if_yes (nat_eq v u) true false same))
joined_listed u (suc to) v (c ∷ cs) within same = either_true (has u c) (listed u (on_at to (joins v) cs)) (joined_listed u to v cs (omega (arith, within)) same)

pub joined_last : (u to v : ℕ) (cs : List (List ℕ)) → to < length cs → nat_eq v u ≡ true → is_last u (on_at to (joins v) cs) ≡ true
joined_last u to v [] within same = absurd (omega (arith, within))
joined_last u zero v (c ∷ cs) within same = ap (λ b. b || is_last u cs) (ap (λ x. nat_eq x u) (last_push c v) ∙ same)
joined_last u (suc to) v (c ∷ cs) within same = or_true (nat_eq (last_life c) u) (is_last u (on_at to (joins v) cs)) (joined_last u to v cs (omega (arith, within)) same)

-- and the others stand where they stood
pub others_listed : (u to v : ℕ) (cs : List (List ℕ)) → nat_eq v u ≡ false → listed u (on_at to (joins v) cs) ≡ listed u cs
others_listed u to v [] other = refl
others_listed u zero v (c ∷ cs) other =
    ap (λ b. if b then true else listed u cs) (has_append u c (v ∷ []) ∙ ap (λ b. if has u c then true else b) (if_no (nat_eq v u) true false other) ∙ same (has u c))
  where
    same : (b : Bool) → (if b then true else false) ≡ b
    same true = refl
    same false = refl
others_listed u (suc to) v (c ∷ cs) other = ap (λ b. if has u c then true else b) (others_listed u to v cs other)

-- one that was a last life and is none more was that of the slot
pub left_last : (u to v : ℕ) (cs : List (List ℕ)) → is_last u cs ≡ true → is_last u (on_at to (joins v) cs) ≡ false → nat_eq (last_at to cs) u ≡ true
left_last u to v [] on off = absurd (let e = on in cc)
left_last u zero v (c ∷ cs) on off =
    let b = or_no (nat_eq (last_life (c ++ v ∷ [])) u) (is_last u cs) off in
    or_left (nat_eq (last_life c) u) (is_last u cs) on b.1
left_last u (suc to) v (c ∷ cs) on off =
    let b = or_no (nat_eq (last_life c) u) (is_last u (on_at to (joins v) cs)) off in
    left_last u to v cs (or_yes (nat_eq (last_life c) u) (is_last u cs) on b.0) b.1

pub has_push : (u : ℕ) (vs : List ℕ) (v : ℕ) → has u vs ≡ true → has u (vs ++ v ∷ []) ≡ true
has_push u vs v on = has_append u vs (v ∷ []) ∙ if_yes (has u vs) true (has u (v ∷ [])) on

pub has_pushed : (u : ℕ) (vs : List ℕ) (v : ℕ) → nat_eq v u ≡ true → has u (vs ++ v ∷ []) ≡ true
has_pushed u vs v on = has_append u vs (v ∷ []) ∙ either_true (has u vs) (has u (v ∷ [])) (if_yes (nat_eq v u) true false on)

-- ## Lives are born

each_last_from : (P : ℕ → Type 0) (x : ℕ) (xs : List ℕ) → P x → Each P xs → P (last_from x xs)
each_last_from P x [] p ps = p
each_last_from P x (y ∷ ys) p ps = each_last_from P y ys ps.0 ps.1

each_last : (P : ℕ → Type 0) (xs : List ℕ) → 0 < length xs → Each P xs → P (last_life xs)
each_last P [] some ps = absurd (omega (arith, some))
each_last P (x ∷ xs) some ps = each_last_from P x xs ps.0 ps.1

pub last_below : (homes : List ℕ) (born v w : ℕ) (cs : List (List ℕ)) → Chains homes born v cs → w < length cs → last_at w cs < born
last_below homes born v w [] h within = absurd (omega (arith, within))
last_below homes born v zero (c ∷ cs) h within = each_last (λ u. u < born) c h.0.some h.0.below
last_below homes born v (suc w) (c ∷ cs) h within = last_below homes born (v + 1) w cs h.1 (omega (arith, within))

-- ## The last lives alone

pub last_alone : (w : ℕ) (cs : List (List ℕ)) → last_at w (map (λ c. last_life c ∷ []) cs) ≡ last_at w cs
last_alone w [] = refl
last_alone zero (c ∷ cs) = refl
last_alone (suc w) (c ∷ cs) = last_alone w cs

pub alone_listed : (u : ℕ) (cs : List (List ℕ)) → is_last u cs ≡ true → listed u (map (λ c. last_life c ∷ []) cs) ≡ true
alone_listed u [] on = on
alone_listed u (c ∷ cs) on = by (nat_eq (last_life c) u) refl (λ o. alone_listed u cs o) where
  by : (b : Bool) → nat_eq (last_life c) u ≡ b → (is_last u cs ≡ true → listed u (map (λ d. last_life d ∷ []) cs) ≡ true) → listed u ((last_life c ∷ []) ∷ map (λ d. last_life d ∷ []) cs) ≡ true
  by true e r = if_yes (has u (last_life c ∷ [])) true (listed u (map (λ d. last_life d ∷ []) cs)) (if_yes (nat_eq (last_life c) u) true false e)
  by false e r = either_true (has u (last_life c ∷ [])) (listed u (map (λ d. last_life d ∷ []) cs)) (r (or_yes (nat_eq (last_life c) u) (is_last u cs) on e))

-- they are those still
pub alone_twice : (cs : List (List ℕ)) → map (λ c. last_life c ∷ []) (map (λ c. last_life c ∷ []) cs) ≡ map (λ c. last_life c ∷ []) cs
alone_twice [] = refl
alone_twice (c ∷ cs) = ap (λ ds. (last_life c ∷ []) ∷ ds) (alone_twice cs)
