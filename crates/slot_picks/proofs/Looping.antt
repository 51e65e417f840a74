-- Settling and rounds, one after the other.
use Rattle.std.proofs.Common.{◌≡◌, ℕ, zero, suc, Bool, true, false, List, [], ◌∷◌, ◌++◌, map, refl, sym, ap, ◌∙◌, arith, Option, Some, None}
use Rattle.std.specs.Prelude.{slice_get, nat_eq, if◌then◌else◌, ◌||◌}
use Rattle.std.specs.Option.{option_map}
use Rattle.life_laws.specs.Life.{Seen, due, image}
use Rattle.life_laws.specs.Chains.{last_life}
use Rattle.life_laws.specs.Fed.{Fed}
use Rattle.slot_picks.specs.Feeding.{AreFed, AreShown, IsLastFed, IsLastShown, events_for, gets, given_events, is_last, with_more}
use Rattle.slot_picks.proofs.More.{given_none, more_at, some_is}

-- what two lists show in the same way, by number
map_at : {A B : Type 0} (f g : A → B) (xs ys : List A) (v : ℕ) (y : A) → map f xs ≡ map g ys → slice_get ys v ≡ Some y → (x : A) × (slice_get xs v ≡ Some x) × (f x ≡ g y)
map_at f g xs [] v y e at = cc
map_at f g [] (z ∷ ys) v y e at = cc
map_at f g (x ∷ xs) (z ∷ ys) zero y e at = (x, refl, heads f g x z xs ys e ∙ ap g (some_is z y at))
  where
    heads : {A B : Type 0} (f g : A → B) (x z : A) (xs ys : List A) → map f (x ∷ xs) ≡ map g (z ∷ ys) → f x ≡ g z
    heads f g x z xs ys e = cc
map_at f g (x ∷ xs) (z ∷ ys) (suc v) y e at = map_at f g xs ys v y (tails f g x z xs ys e) at
  where
    tails : {A B : Type 0} (f g : A → B) (x z : A) (xs ys : List A) → map f (x ∷ xs) ≡ map g (z ∷ ys) → map f xs ≡ map g ys
    tails f g x z xs ys e = cc

-- a settled host shows what was to come
pub settled_shows : (ss ts : List Seen) → map image ts ≡ map due ss → map due ts ≡ map due ss → (v : ℕ) (s : Seen) → slice_get ts v ≡ Some s → image s ≡ due s
settled_shows ss ts images dues v s at =
    let x = map_at due image ss ts v s (sym images) at in
    let y = map_at due due ss ts v s (sym dues) at in
    let same : x.0 ≡ y.0 = some_is x.0 y.0 (sym x.1 ∙ y.1) in
    sym x.2 ∙ (ap due same ∙ y.2)

module _ (accepts accepts' : ℕ → Bool) (same : (v : ℕ) → accepts' v ≡ accepts v) (ss ts : List Seen) (told told' : List ℕ) (dues : map due ts ≡ map due ss) (taken : told' ≡ told) where
  last_stays : (v : ℕ) (f : Option Fed) → IsLastFed accepts ss told v f → IsLastFed accepts' ts told' v f
  last_stays v None h = same v ∙ h
  last_stays v (Some f) h = record {
    accepted = same v ∙ h.accepted;
    comes = λ t at. let s = map_at due due ss ts v t (sym dues) at in sym s.2 ∙ h.comes s.0 s.1;
    taken = ap (λ ns. slice_get ns v) taken ∙ h.taken;
  }

  -- where what is to come stays, lives were given the same
  pub fed_stays : (cs : List (List ℕ)) (fs : List (Option Fed)) → AreFed accepts ss told cs fs → AreFed accepts' ts told' cs fs
  fed_stays [] [] h = tt
  fed_stays [] (f ∷ fs) h = absurd h
  fed_stays (c ∷ cs) [] h = absurd h
  fed_stays (c ∷ cs) (f ∷ fs) h = (last_stays (last_life c) f h.0, fed_stays cs fs h.1)

-- the last lives alone are asked for
pub fed_lasts : (accepts : ℕ → Bool) (ss : List Seen) (told : List ℕ) (cs : List (List ℕ)) (fs : List (Option Fed)) → AreFed accepts ss told cs fs → AreFed accepts ss told (map (λ c. last_life c ∷ []) cs) fs
fed_lasts accepts ss told [] [] h = tt
fed_lasts accepts ss told [] (f ∷ fs) h = absurd h
fed_lasts accepts ss told (c ∷ cs) [] h = absurd h
fed_lasts accepts ss told (c ∷ cs) (f ∷ fs) h = (h.0, fed_lasts accepts ss told cs fs h.1)

-- ## What lives show

module _ (accepts : ℕ → Bool) (ss : List Seen) (told : List ℕ) (shown : (v : ℕ) (s : Seen) → slice_get ss v ≡ Some s → image s ≡ due s) where
  shown_is : (v : ℕ) (f : Option Fed) → IsLastFed accepts ss told v f → IsLastShown accepts ss v f
  shown_is v None h = h
  shown_is v (Some f) h = (h.accepted, λ s at. shown v s at ∙ h.comes s at)

  -- a life that has done all shows what it was given
  pub shown_all : (cs : List (List ℕ)) (fs : List (Option Fed)) → AreFed accepts ss told cs fs → AreShown accepts ss cs fs
  shown_all [] [] h = tt
  shown_all [] (f ∷ fs) h = absurd h
  shown_all (c ∷ cs) [] h = absurd h
  shown_all (c ∷ cs) (f ∷ fs) h = (shown_is (last_life c) f h.0, shown_all cs fs h.1)

-- ## Lives that are the last of no slot

no_left : (a b : Bool) → (a || b) ≡ false → (a ≡ false) × (b ≡ false)
no_left true b e = cc
no_left false b e = (refl, e)

no_events : (cs : List (List ℕ)) (es : List (List (List ℕ))) (v : ℕ) → is_last v cs ≡ false → events_for cs es v ≡ []
no_events [] es v out = refl
no_events (c ∷ cs) [] v out = refl
no_events (c ∷ cs) (e ∷ es) v out =
    let both = no_left (nat_eq (last_life c) v) (is_last v cs) out in
    ap (λ b. (if b then e else []) ++ events_for cs es v) both.0 ∙ no_events cs es v both.1

gets_none : (b : Bool) (vs : List (List ℕ)) → vs ≡ [] → (if b then vs else []) ≡ []
gets_none true vs e = e
gets_none false vs e = refl

-- what is none of theirs is not that of one slot
pub not_last : (v i : ℕ) (cs : List (List ℕ)) (c : List ℕ) → slice_get cs i ≡ Some c → is_last v cs ≡ false → nat_eq (last_life c) v ≡ false
not_last v i [] c at out = cc
not_last v zero (d ∷ cs) c at out = ap (λ x. nat_eq (last_life x) v) (sym (some_is d c at)) ∙ (no_left (nat_eq (last_life d) v) (is_last v cs) out).0
not_last v (suc i) (d ∷ cs) c at out = not_last v i cs c at (no_left (nat_eq (last_life d) v) (is_last v cs) out).1

-- one of these is as it was
pub others_stay : (accepts : ℕ → Bool) (cs : List (List ℕ)) (es : List (List (List ℕ))) (ss : List Seen) (v : ℕ) → is_last v cs ≡ false
    → slice_get (with_more (gets accepts cs es) 0 ss) v ≡ slice_get ss v
others_stay accepts cs es ss v out =
    more_at (gets accepts cs es) 0 v v ss (omega arith) ∙ (ap (λ vs. option_map (given_events vs) (slice_get ss v)) (gets_none (accepts v) (events_for cs es v) (no_events cs es v out)) ∙ nothing (slice_get ss v))
  where
    nothing : (o : Option Seen) → option_map (given_events []) o ≡ o
    nothing None = refl
    nothing (Some s) = ap Some (given_none s)

pub last_of_lasts : (v : ℕ) (cs : List (List ℕ)) → is_last v (map (λ c. last_life c ∷ []) cs) ≡ is_last v cs
last_of_lasts v [] = refl
last_of_lasts v (c ∷ cs) = ap (λ b. nat_eq (last_life c) v || b) (last_of_lasts v cs)
