-- Slots of which none is ready.
use Rattle.std.proofs.Common.{◌≡◌, ℕ, ◌+◌, ◌<◌, Bool, true, false, if◌then◌else◌, List, [], ◌∷◌, map, refl, sym, ap, ◌∙◌, arith}
use Rattle.life_laws.specs.Life.{Seen, ready}
use Rattle.life_laws.specs.Journal.{ready_from}
use Rattle.life_laws.specs.Chains.{Chains, last_life}
use Rattle.life_laws.specs.Settled.{flag, slot_flags}
use Rattle.life_laws.specs.Slots.{slot_ready}

none_behind : (b : Bool) (v : ℕ) (vs : List ℕ) → (if ready (flag b) then v ∷ vs else vs) ≡ [] → vs ≡ []
none_behind true v vs e = cc
none_behind false v vs e = e

-- no swap waits
singles_of : (homes : List ℕ) (born w v : ℕ) (ss : List Seen) (cs : List (List ℕ)) → Chains homes born w cs → ready_from v (slot_flags ss cs) ≡ [] → cs ≡ map (λ c. last_life c ∷ []) cs
singles_of homes born w v ss [] h e = refl
singles_of homes born w v ss ([] ∷ cs) h e = let some : 0 < 0 = h.0.some in absurd (omega arith)
singles_of homes born w v ss ((x ∷ y ∷ xs) ∷ cs) h e = cc
singles_of homes born w v ss ((x ∷ []) ∷ cs) h e =
    ap (λ ds. (x ∷ []) ∷ ds) (singles_of homes born (w + 1) (v + 1) ss cs h.1 (none_behind (slot_ready ss (x ∷ [])) v (ready_from (v + 1) (slot_flags ss cs)) e))

singles_map : (cs : List (List ℕ)) → map (λ c. last_life c ∷ []) cs ≡ map (λ v. v ∷ []) (map last_life cs)
singles_map [] = refl
singles_map (c ∷ cs) = ap (λ ds. (last_life c ∷ []) ∷ ds) (singles_map cs)

-- each slot has the last of the lives that it had
pub only_lasts : (homes : List ℕ) (born : ℕ) (ss : List Seen) (cs ds : List (List ℕ)) → Chains homes born 0 ds → ready_from 0 (slot_flags ss ds) ≡ [] → map last_life ds ≡ map last_life cs → ds ≡ map (λ c. last_life c ∷ []) cs
only_lasts homes born ss cs ds h e lasts = singles_of homes born 0 0 ss ds h e ∙ (singles_map ds ∙ (ap (map (λ v. v ∷ [])) lasts ∙ sym (singles_map cs)))
