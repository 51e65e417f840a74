-- The last lives of slots.
use Rattle.std.proofs.Common.{◌≡◌, ℕ, zero, suc, ◌+◌, ◌<◌, ◌≤◌, List, [], ◌∷◌, length, sym, ap, arith, Some}
use Rattle.std.specs.Prelude.{slice_get}
use Rattle.life_laws.specs.Chains.{Chains, last_from, last_life}
use Rattle.slot_picks.specs.declared.slots.Slot.{Slot}
use Rattle.slot_picks.specs.Lives.{chains_of}
use Rattle.slot_picks.proofs.More.{chain_at, last_each, some_is}

last_end_from : (y : ℕ) (ys : List ℕ) (n x : ℕ) → n + 1 ≡ length (y ∷ ys) → slice_get (y ∷ ys) n ≡ Some x → x ≡ last_from y ys
last_end_from y [] zero x e at = sym (some_is y x at)
last_end_from y [] (suc n) x e at = absurd (omega (arith, e))
last_end_from y (z ∷ zs) zero x e at = absurd (omega (arith, e))
last_end_from y (z ∷ zs) (suc n) x e at = last_end_from z zs n x (omega (arith, e)) at

-- the last life of a slot is the element at its end
pub last_end : (xs : List ℕ) (n x : ℕ) → n + 1 ≡ length xs → slice_get xs n ≡ Some x → x ≡ last_life xs
last_end [] n x e at = absurd (omega (arith, e))
last_end (y ∷ ys) n x e at = last_end_from y ys n x e at

pub chain_get : (ss : List Slot) (i : ℕ) (s : Slot) → slice_get ss i ≡ Some s → slice_get (chains_of ss) i ≡ Some s.lives.items
chain_get [] i s at = cc
chain_get (t ∷ ss) zero s at = ap (λ (x : Slot). Some x.lives.items) (some_is t s at)
chain_get (t ∷ ss) (suc i) s at = chain_get ss i s at

-- a slot by its number has lives
pub slot_some : (homes : List ℕ) (born i : ℕ) (ss : List Slot) (s : Slot) → Chains homes born 0 (chains_of ss) → slice_get ss i ≡ Some s → 0 < length s.lives.items
slot_some homes born i ss s h at = (chain_at homes born 0 i i (chains_of ss) s.lives.items (omega arith) h (chain_get ss i s at)).some

-- and the last of them is there
pub slot_there : (homes : List ℕ) (born n i : ℕ) (ss : List Slot) (s : Slot) → Chains homes born 0 (chains_of ss) → born ≤ n → slice_get ss i ≡ Some s → last_life s.lives.items < n
slot_there homes born n i ss s h few at =
    let chain = chain_at homes born 0 i i (chains_of ss) s.lives.items (omega arith) h (chain_get ss i s at) in
    let e = last_each (λ v. v < born) s.lives.items chain.some chain.below in
    omega (arith, e, few)
