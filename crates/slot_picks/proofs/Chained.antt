-- The lives of slots, as the host has them.
use Rattle.std.proofs.Common.{◌≡◌, ℕ, zero, suc, List, [], ◌∷◌, length, refl, ap, arith, Some}
use Rattle.std.specs.Prelude.{slice_get, slice_set}
use Rattle.life_laws.specs.Chains.{Chains, IsChain}
use Rattle.life_laws.proofs.Housing.{chain_in}
use Rattle.slot_picks.specs.declared.slots.Slot.{Slot}
use Rattle.slot_picks.specs.Lives.{chains_of}

pub chains_length : (ss : List Slot) → length (chains_of ss) ≡ length ss
chains_length [] = refl
chains_length (s ∷ ss) = ap suc (chains_length ss)

pub chains_at : (ss : List Slot) (i : ℕ) (s : Slot) → slice_get ss i ≡ Some s → slice_get (chains_of ss) i ≡ Some s.lives.items
chains_at [] i s e = cc
chains_at (x ∷ ss) zero s e = let same : x ≡ s = cc in ap (λ (y : Slot). Some y.lives.items) same
chains_at (x ∷ ss) (suc i) s e = chains_at ss i s e

pub chains_set : (ss : List Slot) (i : ℕ) (s : Slot) → chains_of (slice_set ss i s) ≡ slice_set (chains_of ss) i s.lives.items
chains_set [] i s = refl
chains_set (x ∷ ss) zero s = refl
chains_set (x ∷ ss) (suc i) s = ap (λ cs. x.lives.items ∷ cs) (chains_set ss i s)

-- the chain of a slot
pub chain_of : (homes : List ℕ) (born i : ℕ) (ss : List Slot) (s : Slot) → slice_get ss i ≡ Some s → Chains homes born 0 (chains_of ss) → IsChain homes born i s.lives.items
chain_of homes born i ss s at all = chain_in homes born 0 i i (chains_of ss) s.lives.items (omega arith) (chains_at ss i s at) all
