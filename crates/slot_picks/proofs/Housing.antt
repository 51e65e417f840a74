-- What holds of lives and slots after a pick.
use Rattle.std.proofs.Common.{◌≡◌, ℕ, zero, suc, List, [], ◌∷◌, ◌++◌, length, map, refl, sym, ap, ◌∙◌, subst, arith, Some}
use Rattle.std.specs.Prelude.{slice_get, slice_set}
use Rattle.life_laws.specs.declared.entry.Picked.{Picked}
use Rattle.life_laws.specs.Chains.{Chains, PickedIn, last_from, last_life}
use Rattle.life_laws.proofs.Chaining.{rest_after}
use Rattle.life_laws.proofs.Housing.{chains_picked, unspent_picked}
use Rattle.slot_picks.specs.declared.lives.Lives.{Lives}
use Rattle.slot_picks.specs.declared.slots.Slot.{Slot}
use Rattle.slot_picks.specs.Lives.{AreHoused, FineLives, chains_of, seens_of}
use Rattle.slot_picks.specs.Places.{homes_of}
use Rattle.slot_picks.proofs.Chained.{chains_length}

set_length : (cs : List (List ℕ)) (w : ℕ) (c : List ℕ) → length (slice_set cs w c) ≡ length cs
set_length [] w c = refl
set_length (x ∷ cs) zero c = refl
set_length (x ∷ cs) (suc w) c = ap suc (set_length cs w c)

-- ## The last life of a slot

last_from_behind : (x : ℕ) (xs : List ℕ) (v : ℕ) (ys : List ℕ) → last_from x (xs ++ v ∷ ys) ≡ last_from v ys
last_from_behind x [] v ys = refl
last_from_behind x (y ∷ xs) v ys = last_from_behind y xs v ys

last_behind : (xs : List ℕ) (v : ℕ) (ys : List ℕ) → last_life (xs ++ v ∷ ys) ≡ last_life (v ∷ ys)
last_behind [] v ys = refl
last_behind (x ∷ xs) v ys = last_from_behind x xs v ys

lasts_set : (cs : List (List ℕ)) (w : ℕ) (lives left : List ℕ) → slice_get cs w ≡ Some lives → last_life left ≡ last_life lives → map last_life (slice_set cs w left) ≡ map last_life cs
lasts_set [] w lives left at e = refl
lasts_set (c ∷ cs) zero lives left at e = let same : c ≡ lives = cc in ap (λ v. v ∷ map last_life cs) (e ∙ ap last_life (sym same))
lasts_set (c ∷ cs) (suc w) lives left at e = ap (λ vs. last_life c ∷ vs) (lasts_set cs w lives left at e)

-- ## A pick

module _ (w k : ℕ) (r : Picked) (c d : Lives) (ss ts : List Slot) (p : PickedIn w k r (chains_of ss) (chains_of ts) (seens_of c) (seens_of d) c.journal.items d.journal.items) where
  slots_picked : length ts ≡ length ss
  slots_picked = sym (chains_length ts) ∙ (ap length p.set ∙ (set_length (chains_of ss) w p.left ∙ chains_length ss))

  pub housed_picked : (born : ℕ) → FineLives d → homes_of d.places.items ≡ homes_of c.places.items → AreHoused born c ss → AreHoused born d ts
  housed_picked born fine homes h = record {
    lives = fine;
    slots = omega (arith, slots_picked, h.slots);
    few = h.few;
    chains = subst (λ hs. Chains hs born 0 (chains_of ts)) (sym homes) (chains_picked (homes_of c.places.items) born w k r (chains_of ss) (chains_of ts) (seens_of c) (seens_of d) c.journal.items d.journal.items h.chains p);
    unspent = unspent_picked (homes_of c.places.items) born w k r (chains_of ss) (chains_of ts) (seens_of c) (seens_of d) c.journal.items d.journal.items h.chains p h.unspent;
    joined = p.slot.joined h.joined;
    rest = rest_after w k r (chains_of ss) (chains_of ts) (seens_of c) (seens_of d) c.journal.items d.journal.items p h.rest;
  }

  -- the last life of each slot stays
  pub lasts_picked : map last_life (chains_of ts) ≡ map last_life (chains_of ss)
  lasts_picked = ap (map last_life) p.set ∙ lasts_set (chains_of ss) w p.lives p.left p.at (ap last_life p.slot.left_is ∙ (sym (last_behind p.slot.ended p.slot.life p.slot.waiting) ∙ sym (ap last_life p.slot.are)))
