-- What stands in one slot of a host.
use Rattle.std.proofs.Common.{◌≡◌, ℕ, zero, suc, ◌+◌, ◌<◌, ◌≤◌, List, [], ◌∷◌, map, length, refl, sym, ap, ◌∙◌, subst, arith, Option, Some, None, get_or, if◌then◌else◌}
use Rattle.std.specs.Prelude.{slice_get, slice_index_or}
use Rattle.std.specs.Option.{option_map}
use Rattle.std.proofs.lemmas.List.{length-map}
use Rattle.std.proofs.lemmas.Option.{get_or_from_slice_get, slice_get-map, slice_get_read}
use Rattle.plain_tree.specs.Trees.{End, PlainTrees}
use Rattle.page_build.specs.Layout.{IsLot, lot_of}
use Rattle.page_plan.specs.Pages.{PagePiece, root_of, roots}
use Rattle.page_tree.specs.declared.page.Page.{Page}
use Rattle.page_nodes.specs.Entries.{body}
use Rattle.page_tree.specs.Pages.{nodes}
use Rattle.life_laws.specs.Chains.{IsChain}
use Rattle.life_laws.specs.Slots.{Each}
use Rattle.widget_meaning.specs.OwnState.{OwnState}
use Rattle.slot_picks.specs.declared.lives.Place.{Place}
use Rattle.slot_picks.specs.declared.slots.Slot.{Slot}
use Rattle.slot_picks.specs.Lives.{chains_of, present_of}
use Rattle.slot_picks.specs.Places.{homes_of, is_accepted, roots_of}
use Rattle.widget_host.specs.declared.host.Host.{Host}
use Rattle.widget_host.specs.Housed.{AreShown, IsApart, IsLaid, chains, names, rooted}
use Rattle.widget_host.proofs.Lasts.{slot_chain, some_is}
use Rattle.widget_host.proofs.Printed.{AreEnds, IsEnd}
use Rattle.widget_host.proofs.Shown.{ends_shown}
use Rattle.widget_host.proofs.Stands.{slot_lot}

-- ## Lists

first_each : (P : ℕ → Type 0) (v : ℕ) (vs : List ℕ) → slice_get vs 0 ≡ Some v → Each P vs → P v
first_each P v [] at ps = cc
first_each P v (u ∷ us) at ps = subst P (some_is u v at) ps.0

first_present : (v : ℕ) (vs : List ℕ) → slice_get vs 0 ≡ Some v → present_of vs ≡ v
first_present v [] at = cc
first_present v (u ∷ us) at = some_is u v at

-- of slots with these widgets, each shows the root of its own
root_at : (p : Page) (names : List (List ℕ)) (homes : List (Option ℕ)) (ends : List (Option OwnState)) (w : ℕ) (name : List ℕ) (home : Option ℕ) → AreEnds p homes ends → slice_get names w ≡ Some name → slice_get homes w ≡ Some home
    → (end : Option OwnState) × IsEnd p home end × (root_of name end ≡ slice_index_or (roots names ends) w End)
root_at p [] homes ends w name home are named at = cc
root_at p (n ∷ ns) [] ends w name home are named at = cc
root_at p (n ∷ ns) (k ∷ ks) [] w name home are named at = absurd are
root_at p (n ∷ ns) (k ∷ ks) (e ∷ es) zero name home are named at =
    (e, subst (λ h. IsEnd p h e) (some_is k home at) are.0, ap (λ m. root_of m e) (sym (some_is n name named)))
root_at p (n ∷ ns) (k ∷ ks) (e ∷ es) (suc w) name home are named at = root_at p ns ks es w name home are.1 named at

-- ## A slot

module _ (h : Host) (apart : IsApart h) (w : ℕ) (s : Slot) (there : w < length (chains h)) (is : s ≡ get_or h.slots.items w s) where
  slot_in : w < length h.slots.items
  unfolding chains
  slot_in = omega (arith, there, length-map h.slots.items (λ (x : Slot). x.lives.items))

  slot_here : slice_get h.slots.items w ≡ Some s
  slot_here = slice_get_read h.slots.items (length h.slots.items) w s refl slot_in is

  chain_here : IsChain (homes_of h.lives.places.items) apart.standing.born w s.lives.items
  chain_here =
      let none : 0 + w ≡ w = omega arith in
      subst (λ n. IsChain (homes_of h.lives.places.items) apart.standing.born n s.lives.items) none (slot_chain (homes_of h.lives.places.items) apart.standing.born 0 w h.slots.items s slot_here apart.standing.chains)

  -- it has a present life
  pub some_here : 0 < length s.lives.items
  some_here = chain_here.some

  module _ (v : ℕ) (first : slice_get s.lives.items 0 ≡ Some v) where
    born_here : v < apart.standing.born
    born_here = first_each (λ u. u < apart.standing.born) v s.lives.items first chain_here.below

    -- which is there
    pub life_here : v < length h.lives.places.items
    life_here = omega (arith, born_here, apart.standing.few)

    module _ (a : Place) (are : a ≡ get_or h.lives.places.items v a) where
      place_here : slice_get h.lives.places.items v ≡ Some a
      place_here = slice_get_read h.lives.places.items (length h.lives.places.items) v a refl life_here are

      present_here : slice_get (map present_of (chains_of h.slots.items)) w ≡ Some v
      present_here =
          slice_get-map present_of (chains_of h.slots.items) w
          ∙ ap (option_map present_of) (slice_get-map (λ (x : Slot). x.lives.items) h.slots.items w ∙ ap (option_map (λ (x : Slot). x.lives.items)) slot_here)
          ∙ ap Some (first_present v s.lives.items first)

      -- its node is one of the page
      pub node_here : a.root < length (nodes h.lives.shared.page)
      node_here = (apart.standing.stand w v a present_here place_here).is_in

      lot_here : IsLot h.lives.shared.page (lot_of s.name (if is_accepted h.lives.places.items v then Some v else None)) a.root
      lot_here =
          let node : slice_index_or (roots_of h.lives.places.items) v body ≡ a.root = get_or_from_slice_get (roots_of h.lives.places.items) v a.root body (slice_get-map (λ (p : Place). p.root) h.lives.places.items v ∙ ap (option_map (λ (p : Place). p.root)) place_here) in
          let most : apart.standing.born ≤ 32 = omega (arith, apart.standing.few, apart.twenty) in
          subst (IsLot h.lives.shared.page (lot_of s.name (if is_accepted h.lives.places.items v then Some v else None))) node
          (subst (λ u. IsLot h.lives.shared.page (lot_of s.name (if is_accepted h.lives.places.items u then Some u else None)) (slice_index_or (roots_of h.lives.places.items) u body)) (first_present v s.lives.items first)
          (slot_lot h.lives h.slots.items apart.standing w s slot_here chain_here most))

      home_here : slice_get (rooted (is_accepted h.lives.places.items) (chains_of h.slots.items)) w ≡ Some (if is_accepted h.lives.places.items v then Some v else None)
      home_here =
          slice_get-map (λ c. if is_accepted h.lives.places.items (present_of c) then Some (present_of c) else None) (chains_of h.slots.items) w
          ∙ ap (option_map (λ c. if is_accepted h.lives.places.items (present_of c) then Some (present_of c) else None)) (slice_get-map (λ (x : Slot). x.lives.items) h.slots.items w ∙ ap (option_map (λ (x : Slot). x.lives.items)) slot_here)
          ∙ ap (λ u. Some (if is_accepted h.lives.places.items u then Some u else None)) (first_present v s.lives.items first)

      -- what stands at this node is what the slot shows
      pub shown_here : (P : PlainTrees → Type 0) → ((name : List ℕ) (home : Option ℕ) (end : Option OwnState) → IsLot h.lives.shared.page (lot_of name home) a.root → IsEnd h.lives.shared.page home end → P (root_of name end))
          → (xs : List (List ℕ)) (pieces : List PagePiece) (ends : List (Option OwnState)) → IsLaid h xs pieces → AreShown h (chains h) ends → P (slice_index_or (roots xs ends) w End)
      unfolding IsLaid names chains
      shown_here P holds xs pieces ends laid shown =
          let named : slice_get xs w ≡ Some s.name = ap (λ ns. slice_get ns w) laid.0 ∙ slice_get-map (λ (x : Slot). x.name) h.slots.items w ∙ ap (option_map (λ (x : Slot). x.name)) slot_here in
          let r = root_at h.lives.shared.page xs (rooted (is_accepted h.lives.places.items) (chains_of h.slots.items)) ends w s.name (if is_accepted h.lives.places.items v then Some v else None) (ends_shown h (chains_of h.slots.items) ends shown) named home_here in
          subst P r.2 (holds s.name (if is_accepted h.lives.places.items v then Some v else None) r.0 lot_here r.1)
