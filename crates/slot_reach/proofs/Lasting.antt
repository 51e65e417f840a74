-- Own states of last lives, by what is seen of lives.
use Rattle.std.proofs.Common.{◌≡◌, ℕ, zero, suc, ◌+◌, List, [], ◌∷◌, refl, sym, ap, ◌∙◌, arith, true, false, Option, Some, None, if◌then◌else◌, slice_get}
use Rattle.std.specs.List.{zip}
use Rattle.std.specs.Option.{option_and_then}
use Rattle.store_cells.proofs.Lists.{none_some, some_same}
use Rattle.life_laws.specs.Life.{Seen, image}
use Rattle.life_laws.specs.Chains.{last_life}
use Rattle.life_laws.specs.Settled.{flag}
use Rattle.slot_picks.specs.declared.lives.Lives.{Lives}
use Rattle.slot_picks.specs.declared.lives.Place.{Place}
use Rattle.slot_picks.specs.declared.slots.Slot.{Slot}
use Rattle.native_image.specs.declared.handed.Shared.{Shared}
use Rattle.slot_picks.specs.Places.{is_accepted, lent, life_seen, seen_at, seens_from}
use Rattle.widget_meaning.specs.OwnState.{OwnState}
use Rattle.slot_reach.specs.Lasts.{AreLast, IsLast, names_of, state_at, states}

seen_of : (h : Shared) (w k : ℕ) (ps : List Place) (x : Seen) → slice_get (seens_from h w ps) k ≡ Some x → (p : Place) × (slice_get ps k ≡ Some p) × (seen_at h (w + k) p ≡ x)
seen_of h w k [] x e = absurd (none_some e)
seen_of h w zero (p ∷ ps) x e = let none : w + 0 ≡ w = omega arith in (p, refl, ap (λ n. seen_at h n p) none ∙ some_same (seen_at h w p) x e)
seen_of h w (suc k) (p ∷ ps) x e =
    let rest = seen_of h (w + 1) k ps x e in
    let place : w + suc k ≡ w + 1 + k = omega arith in
    (rest.0, rest.1, ap (λ n. seen_at h n rest.0) place ∙ rest.2)

accepted_at : (ps : List Place) (v : ℕ) (p : Place) → slice_get ps v ≡ Some p → is_accepted ps v ≡ p.life.accepted
accepted_at [] v p e = absurd (none_some e)
accepted_at (q ∷ ps) zero p e = ap (λ (x : Place). x.life.accepted) (some_same q p e)
accepted_at (q ∷ ps) (suc v) p e = accepted_at ps v p e

end_is : (c : Lives) (s : Slot) (end : Option OwnState) → IsLast c s end → option_and_then (state_at c.shared (last_life s.lives.items)) (slice_get c.places.items (last_life s.lives.items)) ≡ end
end_is c s None h = by (slice_get c.places.items (last_life s.lives.items)) refl
  where
    by : (x : Option Place) → slice_get c.places.items (last_life s.lives.items) ≡ x → option_and_then (state_at c.shared (last_life s.lives.items)) x ≡ None
    by None e = refl
    by (Some p) e = ap (λ b. if b then Some (image (life_seen (lent c.shared p) (last_life s.lives.items) p.life)) else None) (sym (accepted_at c.places.items (last_life s.lives.items) p e) ∙ h)
end_is c s (Some o) h =
    let v = last_life s.lives.items in
    let seen = seen_of c.shared 0 v c.places.items h.1.0 h.1.1 in
    let p = seen.0 in
    let none : 0 + v ≡ v = omega arith in
    let accepted : p.life.accepted ≡ true = sym (accepted_at c.places.items v p seen.1) ∙ h.0 in
    let same : life_seen (lent c.shared p) v p.life ≡ h.1.0 =
    sym (ap (λ b. if b then life_seen (lent c.shared p) v p.life else flag false) accepted) ∙ ap (λ n. seen_at c.shared n p) (sym none) ∙ seen.2 in
    ap (option_and_then (state_at c.shared v)) seen.1
    ∙ ap (λ b. if b then Some (image (life_seen (lent c.shared p) v p.life)) else None) accepted
    ∙ ap (λ x. Some (image x)) same ∙ ap Some h.1.2

pub ends_are : (c : Lives) (ss : List Slot) (ends : List (Option OwnState)) → AreLast c ss ends → states c ss ≡ zip (names_of ss) ends
unfolding states
ends_are c [] [] h = refl
ends_are c [] (e ∷ es) h = absurd h
ends_are c (s ∷ ss) [] h = absurd h
ends_are c (s ∷ ss) (e ∷ es) h = (λ j. (s.name, end_is c s e h.0 j) ∷ ends_are c ss es h.1 j)
