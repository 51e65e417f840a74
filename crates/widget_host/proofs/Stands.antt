-- What stands in the slots of a host.
use Rattle.std.proofs.Common.{◌≡◌, ◌≢◌, ℕ, zero, suc, ◌+◌, ◌<◌, ◌≤◌, List, [], ◌∷◌, map, length, Bool, true, false, refl, sym, ap, ◌∙◌, subst, arith, Some, None, eqb-true, if◌then◌else◌}
use Rattle.std.specs.Prelude.{slice_get, slice_index_or, nat_eq, ◌||◌}
use Rattle.std.specs.Option.{option_map}
use Rattle.std.proofs.lemmas.Option.{get_or_from_slice_get, slice_get-map}
use Rattle.life_laws.specs.Chains.{Chains, IsChain}
use Rattle.life_laws.specs.Slots.{Each}
use Rattle.code_units.specs.declared.owner.Owner.TheVariants as owner
use Rattle.page_tree.specs.declared.page.Page.{Page}
use Rattle.page_nodes.specs.Owners.{same_owner}
use Rattle.page_nodes.proofs.Owners.{same_is}
use Rattle.page_image.proofs.Pages.{is_widget}
use Rattle.page_nodes.specs.Entries.{at, body}
use Rattle.page_tree.specs.Pages.{nodes}
use Rattle.page_image.specs.Image.{root_of}
use Rattle.page_build.specs.Layout.{IsLot, lot_of}
use Rattle.page_build.specs.Layout as layout
use Rattle.page_build.specs.Standing.{AreLotsOf}
use Rattle.page_build.proofs.Pieces.{laid_by}
use Rattle.page_plan.specs.Pages.{PagePiece}
use Rattle.slot_picks.specs.declared.lives.Lives.{Lives}
use Rattle.slot_picks.specs.declared.lives.Place.{Place}
use Rattle.slot_picks.specs.declared.slots.Slot.{Slot}
use Rattle.slot_picks.specs.Lives.{AreStanding, chains_of, is_present, present_of, spots_of}
use Rattle.slot_picks.specs.Places.{homes_of, is_accepted, roots_of}
use Rattle.widget_host.specs.declared.host.Host.{Host}
use Rattle.widget_host.specs.Housed.{IsApart, IsLaid, accepts, chains, names, rooted, spots}
use Rattle.widget_host.proofs.Shown.{accepts_at}

none_some : {A : Type 0} {a : A} → None ≡ Some a → ⊥
none_some e = cc

no_true : false ≡ true → ⊥
no_true e = cc

some_is : {A : Type 0} (x y : A) → Some x ≡ Some y → x ≡ y
some_is x y e = cc

within : {X : Type 0} (xs : List X) (n : ℕ) (x : X) → slice_get xs n ≡ Some x → n < length xs
within [] n x at = absurd (none_some at)
within (y ∷ xs) zero x at = omega arith
within (y ∷ xs) (suc n) x at = omega (arith, within xs n x at)

there : {X : Type 0} (xs : List X) (n : ℕ) → n < length xs → (x : X) × (slice_get xs n ≡ Some x)
there [] n lt = absurd (omega (arith, lt))
there (x ∷ xs) zero lt = (x, refl)
there (x ∷ xs) (suc n) lt = there xs n (omega (arith, lt))

-- the root of a life is not `body`, which is the host's
never : (p : Page) (v n : ℕ) → v < 32 → root_of p v ≡ Some n → n ≡ body → ⊥
unfolding root_of
never p v n low is e =
    let own : same_owner (at (nodes p) body).owner (owner.Widget v) ≡ true = ap (λ m. same_owner (at (nodes p) m).owner (owner.Widget v)) (sym e) ∙ p.rooted.own (owner.Widget v) n (is_widget v low) is in
    no_true (ap (λ o. same_owner o (owner.Widget v)) (sym (same_is (at (nodes p) body).owner owner.Host p.arena.sound.host)) ∙ own)

-- the present life of a slot is one of its lives
present_each : (P : ℕ → Type 0) (c : List ℕ) → 0 < length c → Each P c → P (present_of c)
present_each P [] some ps = absurd (omega (arith, some))
present_each P (v ∷ vs) some ps = ps.0

module _ (c : Lives) (ss : List Slot) (st : AreStanding c ss) where
  abbrev page : Page
  page = c.shared.page

  -- what stands for a life that is there
  lot_at : (v : ℕ) (a : Place) (s : Slot) → v < 32 → slice_get c.places.items v ≡ Some a → (a.life.accepted ≡ false → a.root ≢ body) → slice_get ss a.life.slot ≡ Some s
      → IsLot page (lot_of s.name (if is_accepted c.places.items v then Some v else None)) a.root
  lot_at v a s low at below here = by a.life.accepted refl
    where
      flag : (b : Bool) → a.life.accepted ≡ b → is_accepted c.places.items v ≡ b
      flag b is = accepts_at c.places.items v a at ∙ is

      by : (b : Bool) → a.life.accepted ≡ b → IsLot page (lot_of s.name (if is_accepted c.places.items v then Some v else None)) a.root
      by true is = subst (λ (f : Bool). IsLot page (lot_of s.name (if f then Some v else None)) a.root) (sym (flag true is)) (low, st.roots v a at is)
      by false is = subst (λ (f : Bool). IsLot page (lot_of s.name (if f then Some v else None)) a.root) (sym (flag false is)) (st.divs v a s at is (below is) here)

  pub slot_lot : (w : ℕ) (s : Slot) → slice_get ss w ≡ Some s → IsChain (homes_of c.places.items) st.born w s.lives.items → st.born ≤ 32
      → IsLot page (lot_of s.name (if is_accepted c.places.items (present_of s.lives.items) then Some (present_of s.lives.items) else None)) (slice_index_or (roots_of c.places.items) (present_of s.lives.items) body)
  slot_lot w s here chain most =
      let v = present_of s.lives.items in
      let low : v < st.born = present_each (λ u. u < st.born) s.lives.items chain.some chain.below in
      let home : slice_get (homes_of c.places.items) v ≡ Some w = present_each (λ u. slice_get (homes_of c.places.items) u ≡ Some w) s.lives.items chain.some chain.home in
      let a = there c.places.items v (omega (arith, low, st.few)) in
      let mine : a.0.life.slot ≡ w = some_is a.0.life.slot w (sym (slice_get-map (λ (p : Place). p.life.slot) c.places.items v ∙ ap (option_map (λ (p : Place). p.life.slot)) a.1) ∙ home) in
      let node : slice_index_or (roots_of c.places.items) v body ≡ a.0.root = get_or_from_slice_get (roots_of c.places.items) v a.0.root body (slice_get-map (λ (p : Place). p.root) c.places.items v ∙ ap (option_map (λ (p : Place). p.root)) a.1) in
      let stands = st.stand w v a.0 (present_at w s here) a.1 in
      subst (IsLot page (lot_of s.name (if is_accepted c.places.items v then Some v else None))) (sym node)
      (lot_at v a.0 s (omega (arith, low, most)) a.1 (λ _ e. not_body (subst (λ n. (at (nodes page) n).parent ≡ Some body) e stands.under)) (ap (slice_get ss) mine ∙ here))
    where
      present_at : (w : ℕ) (s : Slot) → slice_get ss w ≡ Some s → slice_get (map present_of (chains_of ss)) w ≡ Some (present_of s.lives.items)
      present_at w s at =
          slice_get-map present_of (chains_of ss) w
          ∙ ap (option_map present_of) (slice_get-map (λ (x : Slot). x.lives.items) ss w ∙ ap (option_map (λ (x : Slot). x.lives.items)) at)

      not_body : (at (nodes page) body).parent ≡ Some body → ⊥
      not_body e = none_some (sym page.arena.sound.top ∙ e)

  -- so it is with all slots from a number on
  lots_from : st.born ≤ 32 → (w : ℕ) (ts : List Slot) → ((i : ℕ) (s : Slot) → slice_get ts i ≡ Some s → (u : ℕ) → u ≡ w + i → slice_get ss u ≡ Some s) → Chains (homes_of c.places.items) st.born w (chains_of ts)
      → AreLotsOf page (map (λ (s : Slot). s.name) ts) (rooted (is_accepted c.places.items) (chains_of ts)) (map (λ lives. slice_index_or (roots_of c.places.items) (present_of lives) body) (chains_of ts))
  lots_from most w [] f h = tt
  lots_from most w (s ∷ ts) f h = (slot_lot w s (f 0 s refl w (omega arith)) h.0 most, lots_from most (w + 1) ts (λ i t at u e. f (suc i) t at u (omega (arith, e))) h.1)

  pub lots_stand : st.born ≤ 32 → AreLotsOf page (map (λ (s : Slot). s.name) ss) (rooted (is_accepted c.places.items) (chains_of ss)) (spots_of c ss)
  lots_stand most = lots_from most 0 ss (λ i s at u e. ap (slice_get ss) (let g : u ≡ i = omega (arith, e) in g) ∙ at) st.chains

  -- a life that is present stands somewhere
  present_somewhere : (v : ℕ) (cs : List (List ℕ)) → is_present v cs ≡ true → (w : ℕ) × (slice_get (map present_of cs) w ≡ Some v)
  present_somewhere v [] e = absurd (let f = e in cc)
  present_somewhere v (x ∷ cs) e = by (nat_eq (present_of x) v) refl e (present_somewhere v cs)
    where
      by : (b : Bool) → nat_eq (present_of x) v ≡ b → (b || is_present v cs) ≡ true → (is_present v cs ≡ true → (w : ℕ) × (slice_get (map present_of cs) w ≡ Some v)) → (w : ℕ) × (slice_get (map present_of (x ∷ cs)) w ≡ Some v)
      by true f g more = (0, ap Some (eqb-true (present_of x) v f))
      by false f g more = let r = more g in (suc r.0, r.1)

  -- the root of an accepted life stands under `body` where it is present, and else under nothing
  pub parent_at : (v : ℕ) (a : Place) → v < 32 → slice_get c.places.items v ≡ Some a → a.life.accepted ≡ true → (at (nodes page) a.root).parent ≡ (if is_present v (chains_of ss) then Some body else None)
  parent_at v a low here is = by (is_present v (chains_of ss)) refl
    where
      below : a.root ≢ body
      below e = never page v a.root low (st.roots v a here is) e

      by : (b : Bool) → is_present v (chains_of ss) ≡ b → (at (nodes page) a.root).parent ≡ (if b then Some body else None)
      by true e = let r = present_somewhere v (chains_of ss) e in (st.stand r.0 v a r.1 here).under
      by false e = (st.spare v a here below e).top

module _ (h : Host) (apart : IsApart h) where
  pub laid_rooted : (xs : List (List ℕ)) (pieces : List PagePiece) → IsLaid h xs pieces → layout.IsLaid h.lives.shared.page xs (rooted (accepts h) (chains h)) pieces
  unfolding IsLaid accepts chains names spots
  laid_rooted xs pieces laid =
      laid_by h.lives.shared.page xs (rooted (is_accepted h.lives.places.items) (chains_of h.slots.items)) pieces (spots_of h.lives h.slots.items) laid.2
      (subst (λ ns. AreLotsOf h.lives.shared.page ns (rooted (is_accepted h.lives.places.items) (chains_of h.slots.items)) (spots_of h.lives h.slots.items)) (sym laid.0)
      (lots_stand h.lives h.slots.items apart.standing (let few = apart.standing.few in omega (arith, few, apart.twenty))))

  pub parent_of : (v : ℕ) (a : Place) → slice_get h.lives.places.items v ≡ Some a → a.life.accepted ≡ true → (at (nodes h.lives.shared.page) a.root).parent ≡ (if is_present v (chains h) then Some body else None)
  unfolding chains
  parent_of v a here is = parent_at h.lives h.slots.items apart.standing v a (let lt = within h.lives.places.items v a here in omega (arith, lt, apart.twenty)) here is
