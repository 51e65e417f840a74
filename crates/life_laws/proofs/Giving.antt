-- Items and swaps that are given to slots.
use Rattle.std.proofs.Common.{◌≡◌, ◌≢◌, ℕ, zero, suc, ◌+◌, ◌<◌, List, [], ◌∷◌, ◌++◌, map, length, Bool, true, false, refl, sym, ap, ◌∙◌, arith, Some, eq-eqb}
use Rattle.std.specs.Prelude.{slice_get, slice_set, nat_eq, if◌then◌else◌}
use Rattle.life_laws.specs.Life as todo
use Rattle.life_laws.specs.Life.{Seen, due, image}
use Rattle.widget_meaning.specs.Items as items
use Rattle.widget_meaning.specs.Items.{Event}
use Rattle.life_laws.specs.Journal.{queued, on_at}
use Rattle.life_laws.proofs.Given.{dues_on, images_on}
use Rattle.life_laws.specs.Slots.{has, Each, Rising}
use Rattle.life_laws.specs.Chains.{IsChain, Chains, listed, last_from, last_life, last_at, queued_along, along, Gives, To, ToAll, joins}
use Rattle.life_laws.proofs.Passing.{each_both, each_map, each_more}

if_yes : {A : Type 0} (b : Bool) (x y : A) → b ≡ true → (if b then x else y) ≡ x
if_yes b x y e = rw e refl

both_no : (a b : Bool) → (if a then true else b) ≡ false → (a ≡ false) × (b ≡ false)
both_no true b e = cc
both_no false b e = (refl, e)

has_here : (v x : ℕ) (xs : List ℕ) → x ≡ v → has v (x ∷ xs) ≡ true
has_here v x xs e = if_yes (nat_eq x v) true (has v xs) (eq-eqb x v e)

has_later : (v x : ℕ) (xs : List ℕ) → has v xs ≡ true → has v (x ∷ xs) ≡ true
has_later v x xs e = by (nat_eq x v) e
  where
    by : (b : Bool) → has v xs ≡ true → (if b then true else has v xs) ≡ true
    by true e = refl
    by false e = e

has_last_from : (v : ℕ) (xs : List ℕ) → has (last_from v xs) (v ∷ xs) ≡ true
has_last_from v [] = has_here v v [] refl
has_last_from v (x ∷ xs) = has_later (last_from x xs) v (x ∷ xs) (has_last_from x xs)

has_last : (xs : List ℕ) → 0 < length xs → has (last_life xs) xs ≡ true
has_last [] l = absurd (omega arith)
has_last (v ∷ xs) l = has_last_from v xs

not_last : (u : ℕ) (xs : List ℕ) → 0 < length xs → has u xs ≡ false → last_life xs ≢ u
not_last u xs l e f = let g : has u xs ≡ true = ap (λ w. has w xs) (sym f) ∙ has_last xs l in cc

-- ## An item

on_other : (ss : List Seen) (i j : ℕ) (f : Seen → Seen) → i ≢ j → slice_get (on_at i f ss) j ≡ slice_get ss j
on_other [] i j f h = refl
on_other (x ∷ ss) zero zero f h = absurd (h refl)
on_other (x ∷ ss) zero (suc j) f h = refl
on_other (x ∷ ss) (suc i) zero f h = refl
on_other (x ∷ ss) (suc i) (suc j) f h = on_other ss i j f (λ e. h (ap suc e))

last_out : (homes : List ℕ) (born v w u : ℕ) (cs : List (List ℕ)) → Chains homes born v cs → w < length cs → listed u cs ≡ false → last_at w cs ≢ u
last_out homes born v w u [] h l e = absurd (omega arith)
last_out homes born v zero u (c ∷ cs) h l e = not_last u c h.0.some (both_no (has u c) (listed u cs) e).0
last_out homes born v (suc w) u (c ∷ cs) h l e = last_out homes born (v + 1) w u cs h.1 (omega arith) (both_no (has u c) (listed u cs) e).1

along_out : (homes : List ℕ) (born v u : ℕ) (cs : List (List ℕ)) (x : todo.Work) (ss : List Seen) → Chains homes born v cs → listed u cs ≡ false → slice_get (queued_along cs x ss) u ≡ slice_get ss u
along_out homes born v u [] x ss h e = refl
along_out homes born v u (c ∷ cs) x ss h e =
    let b = both_no (has u c) (listed u cs) e in
    along_out homes born (v + 1) u cs x (on_at (last_life c) (queued x) ss) h.1 b.1 ∙ on_other ss (last_life c) u (queued x) (not_last u c h.0.some b.0)

dues_along : (cs : List (List ℕ)) (x : todo.Work) (ss : List Seen) → map due (queued_along cs x ss) ≡ along cs x (map due ss)
dues_along [] x ss = refl
dues_along (c ∷ cs) x ss = dues_along cs x (on_at (last_life c) (queued x) ss) ∙ ap (along cs x) (dues_on (last_life c) x ss)

images_along : (cs : List (List ℕ)) (x : todo.Work) (ss : List Seen) → map image (queued_along cs x ss) ≡ map image ss
images_along [] x ss = refl
images_along (c ∷ cs) x ss = images_along cs x (on_at (last_life c) (queued x) ss) ∙ images_on (last_life c) x ss

pub gives_event : (homes : List ℕ) (born : ℕ) (cs : List (List ℕ)) (w : ℕ) (e : Event) (ss : List Seen) → Chains homes born 0 cs → w < length cs → Gives cs (To w e) ss (on_at (last_at w cs) (queued (todo.Given (items.Occurs e))) ss)
gives_event homes born cs w e ss h l =
    let x : todo.Work = todo.Given (items.Occurs e) in
    record {
      dues = dues_on (last_at w cs) x ss;
      images = images_on (last_at w cs) x ss;
      rest = λ r u s out at. r u s out (sym (on_other ss (last_at w cs) u (queued x) (last_out homes born 0 w u cs h l out)) ∙ at);
    }

pub gives_advance : (homes : List ℕ) (born : ℕ) (cs : List (List ℕ)) (d : ℕ) (ss : List Seen) → Chains homes born 0 cs → Gives cs (ToAll d) ss (queued_along cs (todo.Given (items.Advance d)) ss)
gives_advance homes born cs d ss h =
    let x : todo.Work = todo.Given (items.Advance d) in
    record {
      dues = dues_along cs x ss;
      images = images_along cs x ss;
      rest = λ r u s out at. r u s out (sym (along_out homes born 0 u cs x ss h out) ∙ at);
    }

-- ## A swap

home_other : (hs : List ℕ) (i j t : ℕ) → i ≢ j → slice_get (slice_set hs i t) j ≡ slice_get hs j
home_other [] i j t h = refl
home_other (x ∷ hs) zero zero t h = absurd (h refl)
home_other (x ∷ hs) zero (suc j) t h = refl
home_other (x ∷ hs) (suc i) zero t h = refl
home_other (x ∷ hs) (suc i) (suc j) t h = home_other hs i j t (λ e. h (ap suc e))

home_set : (hs : List ℕ) (i t : ℕ) → i < length hs → slice_get (slice_set hs i t) i ≡ Some t
home_set [] i t l = absurd (omega arith)
home_set (x ∷ hs) zero t l = refl
home_set (x ∷ hs) (suc i) t l = home_set hs i t (omega arith)

rising_more : (xs : List ℕ) (v : ℕ) → Rising xs → Each (λ u. u < v) xs → Rising (xs ++ v ∷ [])
rising_more [] v h g = (tt, tt)
rising_more (x ∷ xs) v h g = (each_more (λ y. x < y) xs v h.0 g.0, rising_more xs v h.1 g.1)

some_more : (xs : List ℕ) (v : ℕ) → 0 < length (xs ++ v ∷ [])
some_more [] v = omega arith
some_more (x ∷ xs) v = omega arith

module _ (homes : List ℕ) (born t : ℕ) where
  homes_still : (w : ℕ) (c : List ℕ) → Each (λ v. v < born) c → Each (λ v. slice_get homes v ≡ Some w) c → Each (λ v. slice_get (slice_set homes born t) v ≡ Some w) c
  homes_still w c below home = each_both (λ v. v < born) (λ v. slice_get homes v ≡ Some w) (λ v. slice_get (slice_set homes born t) v ≡ Some w) c (λ v l e. home_other homes born v t (λ f. absurd (omega arith)) ∙ e) below home

  below_more : (c : List ℕ) → Each (λ v. v < born) c → Each (λ v. v < born + 1) c
  below_more c h = each_map (λ v. v < born) (λ v. v < born + 1) c (λ v l. omega arith) h

  chain_grows : (w : ℕ) (c : List ℕ) → IsChain homes born w c → IsChain (slice_set homes born t) (born + 1) w c
  chain_grows w c h = record { some = h.some; rising = h.rising; below = below_more c h.below; home = homes_still w c h.below h.home }

  chains_grow : (w : ℕ) (cs : List (List ℕ)) → Chains homes born w cs → Chains (slice_set homes born t) (born + 1) w cs
  chains_grow w [] h = tt
  chains_grow w (c ∷ cs) h = (chain_grows w c h.0, chains_grow (w + 1) cs h.1)

  chain_joins : (w : ℕ) (c : List ℕ) → born < length homes → t ≡ w → IsChain homes born w c → IsChain (slice_set homes born t) (born + 1) w (joins born c)
  chain_joins w c l e h = record {
    some = some_more c born;
    rising = rising_more c born h.rising h.below;
    below = each_more (λ v. v < born + 1) c born (below_more c h.below) (omega arith);
    home = each_more (λ v. slice_get (slice_set homes born t) v ≡ Some w) c born (homes_still w c h.below h.home) (home_set homes born t l ∙ ap (λ n. Some n) e);
  }

  pub chains_join : (w i : ℕ) (cs : List (List ℕ)) → born < length homes → t ≡ w + i → Chains homes born w cs → Chains (slice_set homes born t) (born + 1) w (on_at i (joins born) cs)
  chains_join w i [] l e h = tt
  chains_join w zero (c ∷ cs) l e h = (chain_joins w c l (omega arith) h.0, chains_grow (w + 1) cs h.1)
  chains_join w (suc i) (c ∷ cs) l e h = (chain_grows w c h.0, chains_join (w + 1) i cs l (omega arith) h.1)
