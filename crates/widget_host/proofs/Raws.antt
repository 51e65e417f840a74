-- Each node of the page keeps its RawNode, and those that come have theirs.
use Rattle.std.proofs.Common.{◌≡◌, ℕ, ◌<◌, List, Bool, true, false, refl, ap, ◌∙◌, length, arith, eq-eqb}
use Rattle.code_units.specs.declared.owner.Owner.{Owner}
use Rattle.code_units.specs.declared.owner.Owner.TheVariants as owner
use Rattle.page_nodes.specs.Entries.{at}
use Rattle.page_nodes.specs.Owners.{same_owner}
use Rattle.page_tree.specs.Pages.{nodes}
use Rattle.page_image.specs.Image.{own, owns}
use Rattle.page_image.proofs.Looks.{number_low}
use Rattle.native_image.specs.Sound.{HasRaw}
use Rattle.page_build.specs.Homes.{HaveRaws}
use Rattle.slot_picks.specs.declared.lives.Lives.{Lives}
use Rattle.slot_picks.specs.declared.slots.Slot.{Slot}
use Rattle.slot_picks.specs.Lives.{FineLives, KeepsSlots}
use Rattle.widget_host.specs.declared.host.Host.{Host}
use Rattle.widget_host.specs.Housed.{IsApart, accepts}
use Rattle.widget_host.proofs.Shown.{fine_at, life_accepted}

module _ (h : Host) (apart : IsApart h) where
  -- a node is that of an accepted life
  pub owner_at : (v n : ℕ) → owns h.lives.shared.page v n ≡ true → accepts h v ≡ true
  owner_at v n owned = by (accepts h v) refl
    where
      by : (b : Bool) → accepts h v ≡ b → b ≡ true
      by true e = refl
      by false e =
          let low = number_low h.lives.shared.page v n owned in
          let none : length (own h.lives.shared.page v) ≡ 0 = ap length (apart.others v e).nodes in
          absurd (omega (arith, low, none))

  -- and has its RawNode, as that life is sound
  pub own_raws : FineLives h.lives → (v n : ℕ) → owns h.lives.shared.page v n ≡ true → HasRaw h.lives.shared.store.cells n
  unfolding accepts
  own_raws lives v n owned =
      let r = life_accepted h.lives.places.items v (owner_at v n owned) in
      (fine_at h.lives.shared 0 v v h.lives.places.items r.0 (omega arith) r.1 lives.fine r.2).sound.raws v n owned

-- those of the host were there before
module _ (c d : Lives) (ss ts : List Slot) (keeps : KeepsSlots c d ss ts) (mine : (v n : ℕ) → owns d.shared.page v n ≡ true → HasRaw d.shared.store.cells n) (h : HaveRaws c.shared.store c.shared.page) where
  raw_by : (n : ℕ) → n < length (nodes d.shared.page) → (o : Owner) → (at (nodes d.shared.page) n).owner ≡ o → HasRaw d.shared.store.cells n
  unfolding owns
  raw_by n lt owner.Host is = keeps.lives.raws n (h n (keeps.page.host.none_comes n lt is))
  raw_by n lt (owner.Widget v) is = mine v n (ap (λ o. same_owner o (owner.Widget v)) is ∙ eq-eqb v v refl)

  pub raws_stay : HaveRaws d.shared.store d.shared.page
  raws_stay = λ n lt. raw_by n lt (at (nodes d.shared.page) n).owner refl
