-- What holds of each host.
use Rattle.std.proofs.Common.{◌≡◌, ◌≢◌, ℕ, zero, suc, ◌+◌, ◌<◌, ◌≤◌, List, [], ◌∷◌, ◌++◌, map, length, Bool, true, false, refl, sym, ap, ◌∙◌, subst, arith, Option, Some, None, eq-eqb, ◌⊎◌, inl, inr}
use Rattle.std.specs.Prelude.{slice_get, slice_set, nat_eq, if◌then◌else◌}
use Rattle.std.proofs.lemmas.Bool.Decides.{eqb_tells}
use Rattle.widget_meaning.specs.OwnState.{OwnState}
use Rattle.life_laws.specs.Life.{Seen, image}
use Rattle.life_laws.specs.declared.entry.PickEntry.{PickEntry}
use Rattle.life_laws.specs.declared.entry.Picked.{Picked}
use Rattle.life_laws.specs.Journal.{Joined, AllJoined, on_at}
use Rattle.life_laws.proofs.Crowds.{same_some, get_set}
use Rattle.life_laws.specs.Slots.{has, IsTail}
use Rattle.life_laws.specs.Chains.{IsChain, Chains, listed, Rest, Unspent, PickedIn, joins}
use Rattle.life_laws.proofs.Passing.{get_other, has_append}
use Rattle.life_laws.proofs.Chaining.{chain_set, chain_tail, not_has, out_of}

if_yes : {A : Type 0} (b : Bool) (x y : A) → b ≡ true → (if b then x else y) ≡ x
if_yes b x y e = rw e refl

if_no : {A : Type 0} (b : Bool) (x y : A) → b ≡ false → (if b then x else y) ≡ y
if_no b x y e = rw e refl

both_no : (a b : Bool) → (if a then true else b) ≡ false → (a ≡ false) × (b ≡ false)
both_no true b e = cc
both_no false b e = (refl, e)

pub chain_in : (homes : List ℕ) (born v w i : ℕ) (cs : List (List ℕ)) (c : List ℕ) → w ≡ v + i → slice_get cs i ≡ Some c → Chains homes born v cs → IsChain homes born w c
chain_in homes born v w i [] c e f h = cc
chain_in homes born v w zero (x ∷ cs) c e f h = let same : x ≡ c = cc in let P : List ℕ → Type 0 = λ y. IsChain homes born w y in let Q : ℕ → Type 0 = λ u. IsChain homes born u x in subst P same (subst Q (let k : v ≡ w = omega arith in k) h.0)
chain_in homes born v w (suc i) (x ∷ cs) c e f h = chain_in homes born (v + 1) w i cs c (omega arith) f h.1

-- ## A pick

pub others_in : (homes : List ℕ) (born w k : ℕ) (r : Picked) (cs ds : List (List ℕ)) (old new : List Seen) (js ks : List PickEntry) → Chains homes born 0 cs → PickedIn w k r cs ds old new js ks → (v : ℕ) → born ≤ v → slice_get new v ≡ slice_get old v
others_in homes born w k r cs ds old new js ks h p v l =
    let c = chain_in homes born 0 w w cs p.lives (omega arith) p.at h in
    p.slot.others v (out_of v p.lives p.slot.ended p.slot.life p.slot.waiting p.slot.are (not_has born v p.lives l c.below))

pub unspent_picked : (homes : List ℕ) (born w k : ℕ) (r : Picked) (cs ds : List (List ℕ)) (old new : List Seen) (js ks : List PickEntry) → Chains homes born 0 cs → PickedIn w k r cs ds old new js ks → Unspent born old → Unspent born new
unspent_picked homes born w k r cs ds old new js ks h p u = λ v s l e. u v s l (sym (others_in homes born w k r cs ds old new js ks h p v l) ∙ e)

-- the lives of a slot are born and of no other slot after a pick too
pub chains_picked : (homes : List ℕ) (born w k : ℕ) (r : Picked) (cs ds : List (List ℕ)) (old new : List Seen) (js ks : List PickEntry) → Chains homes born 0 cs → PickedIn w k r cs ds old new js ks → Chains homes born 0 ds
chains_picked homes born w k r cs ds old new js ks h p =
    let P : List (List ℕ) → Type 0 = λ xs. Chains homes born 0 xs in
    let Q : List ℕ → Type 0 = λ xs. 0 < length xs in
    let tail : IsTail p.lives p.left = record { ended = p.slot.ended; are = p.slot.are ∙ ap (λ xs. p.slot.ended ++ xs) (sym p.slot.left_is) } in
    let some : 0 < length p.left = subst Q (sym p.slot.left_is) (omega arith) in
    subst P (sym p.set) (chain_set homes born 0 w w cs p.left (omega arith) (chain_tail homes born w p.lives p.left tail some (chain_in homes born 0 w w cs p.lives (omega arith) p.at h)) h)

-- ## An item

head_of : (x y : OwnState) (xs ys : List OwnState) → x ∷ xs ≡ y ∷ ys → x ≡ y
head_of x y xs ys e = cc

tail_of : (x y : OwnState) (xs ys : List OwnState) → x ∷ xs ≡ y ∷ ys → xs ≡ ys
tail_of x y xs ys e = cc

image_at : (ss ts : List Seen) (w : ℕ) (s : Seen) → map image ss ≡ map image ts → slice_get ss w ≡ Some s → (t : Seen) × (slice_get ts w ≡ Some t) × (image t ≡ image s)
image_at [] ts w s e f = cc
image_at (x ∷ ss) [] w s e f = cc
image_at (x ∷ ss) (y ∷ ts) zero s e f = let same : x ≡ s = cc in (y, refl, sym (head_of (image x) (image y) (map image ss) (map image ts) e) ∙ ap image same)
image_at (x ∷ ss) (y ∷ ts) (suc w) s e f = image_at ss ts w s (tail_of (image x) (image y) (map image ss) (map image ts) e) f

pub unspent_given : (born : ℕ) (old new : List Seen) → map image new ≡ map image old → Unspent born old → Unspent born new
unspent_given born old new e u = λ v s l f. (let t = image_at new old v s e f in ap (λ (o : OwnState). o.spent) (sym t.2) ∙ u v t.0 l t.1)

-- ## A swap

pub unspent_swap : (born : ℕ) (old : List Seen) (x : Seen) → Unspent born old → Unspent (born + 1) (slice_set old born x)
unspent_swap born old x u = λ v s l f. u v s (omega (arith, l)) (sym (get_other old born v x (λ g. absurd (omega (arith, g, l)))) ∙ f)

set_none : (ss : List Seen) (i : ℕ) (x : Seen) → slice_get ss i ≡ None → slice_get (slice_set ss i x) i ≡ None
set_none [] i x e = e
set_none (s ∷ ss) zero x e = cc
set_none (s ∷ ss) (suc i) x e = set_none ss i x e

pub joined_swap : (born : ℕ) (old new : List Seen) (x : Seen) (js : List PickEntry) → new ≡ slice_set old born x → (image x).spent ≡ 0 → Unspent born old → AllJoined js old → AllJoined js new
joined_swap born old new x js e z u j = λ v s f. by v s (sym (ap (λ ss. slice_get ss v) e) ∙ f) (eqb_tells born v)
  where
    here : (s : Seen) (o : Option Seen) → slice_get old born ≡ o → slice_get (slice_set old born x) born ≡ Some s → Joined born js (image s).spent
    here s None g f = let n : slice_get (slice_set old born x) born ≡ None = set_none old born x g in cc
    here s (Some t) g f =
        let same : x ≡ s = same_some _ x s (get_set old born t x g) f in
        let P : ℕ → Type 0 = λ n. Joined born js n in
        subst P (u born t (omega arith) g ∙ (sym z ∙ ap (λ (y : Seen). (image y).spent) same)) (j born t g)

    by : (v : ℕ) (s : Seen) → slice_get (slice_set old born x) v ≡ Some s → ((nat_eq born v ≡ true) × (born ≡ v)) ⊎ ((nat_eq born v ≡ false) × (born ≢ v)) → Joined v js (image s).spent
    by v s f (inl same) = let P : ℕ → Type 0 = λ u. slice_get (slice_set old born x) u ≡ Some s in let Q : ℕ → Type 0 = λ u. Joined u js (image s).spent in subst Q same.1 (here s (slice_get old born) refl (subst P (sym same.1) f))
    by v s f (inr other) = j v s (sym (get_other old born v x other.1) ∙ f)

listed_joined : (born to : ℕ) (cs : List (List ℕ)) → to < length cs → listed born (on_at to (joins born) cs) ≡ true
listed_joined born to [] l = absurd (omega arith)
listed_joined born zero (c ∷ cs) l = if_yes (has born (c ++ born ∷ [])) true _ (has_append born c (born ∷ []) ∙ by (has born c))
  where
    by : (b : Bool) → (if b then true else has born (born ∷ [])) ≡ true
    by true = refl
    by false = if_yes (nat_eq born born) true false (eq-eqb born born refl)
listed_joined born (suc to) (c ∷ cs) l = by (has born c) (listed_joined born to cs (omega arith))
  where
    by : (b : Bool) → listed born (on_at to (joins born) cs) ≡ true → (if b then true else listed born (on_at to (joins born) cs)) ≡ true
    by true e = refl
    by false e = e

unlisted_before : (born to v : ℕ) (cs : List (List ℕ)) → listed v (on_at to (joins born) cs) ≡ false → listed v cs ≡ false
unlisted_before born to v [] e = refl
unlisted_before born zero v (c ∷ cs) e =
    let b = both_no (has v (c ++ born ∷ [])) (listed v cs) e in
    let d = both_no (has v c) (has v (born ∷ [])) (sym (has_append v c (born ∷ [])) ∙ b.0) in
    if_no (has v c) true (listed v cs) d.0 ∙ b.1
unlisted_before born (suc to) v (c ∷ cs) e = let b = both_no (has v c) (listed v (on_at to (joins born) cs)) e in if_no (has v c) true (listed v cs) b.0 ∙ unlisted_before born to v cs b.1

pub rest_swap : (born to : ℕ) (cs ds : List (List ℕ)) (old new : List Seen) (x : Seen) → to < length cs → ds ≡ on_at to (joins born) cs → new ≡ slice_set old born x → Rest cs old → Rest ds new
rest_swap born to cs ds old new x l e f r = λ v s out at.
    (let o : listed v (on_at to (joins born) cs) ≡ false = ap (listed v) (sym e) ∙ out in
    let other : born ≢ v = λ same. (let t : listed v (on_at to (joins born) cs) ≡ true = ap (λ u. listed u (on_at to (joins born) cs)) (sym same) ∙ listed_joined born to cs l in cc) in
    r v s (unlisted_before born to v cs o) (sym (ap (λ ss. slice_get ss v) f ∙ get_other old born v x other) ∙ at))
