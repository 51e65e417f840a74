-- What stays of a page passes from step to step.
use Rattle.std.proofs.Common.{◌≡◌, ℕ, ◌<◌, List, [], ◌∷◌, true, false, refl, sym, ap, ◌∙◌, length, set, get_or, cond, eqb, eqb-true, eq-eqb, ne_eqb, not, arith, Some}
use Rattle.std.specs.Prelude.{slice_get, slice_set}
use Rattle.std.proofs.lemmas.Bool.{and_parts}
use Rattle.std.proofs.lemmas.List.{get_or-set_other, get_or-set_same, length-set}
use Rattle.std.proofs.lemmas.Option.{get_or_from_slice_get, slice_get_within}
use Rattle.tree_ops.proofs.Tests.{cases, or_left, or_none, or_right}
use Rattle.page_nodes.specs.Entries.{Entry, at, body, distinct, listed}
use Rattle.page_tree.specs.declared.page.Page.{Page}
use Rattle.page_tree.specs.Pages.{nodes}
use Rattle.page_image.specs.Stays.{HostStays, KeepsNodes}
use Rattle.page_image.proofs.Hosting.{host_same}
use Rattle.page_build.specs.Standing.{AreSpots, Child, Exchanges, Fixed, HasSlots, HostPasses, InSlot, PagePasses, exchanged, filled, has_slot}
use Rattle.page_build.proofs.Swapped.{exchanged_off, not_true}

no_true : false ≡ true → ⊥
no_true e = cc

-- ## Where no slot changes

pub passes_here : (p q : Page) → HostStays p q → (ns : List ℕ) → HostPasses p q ns ns
passes_here p q h ns = record {
  slots = refl;
  made = h.made;
  owners = h.owners;
  label = ap (λ (e : Entry). e.label) h.top;
  order = λ cs has is. ap (λ (e : Entry). e.children) h.top ∙ is;
  trees = h.trees;
  none_comes = h.none_comes;
}

pub pages_here : (p : Page) (ns : List ℕ) → PagePasses p p ns ns
pages_here p ns = record { host = passes_here p p (host_same p p refl) ns; owners = λ v n h. h; numbers = λ v n h. refl; roots = λ v lt. refl }

-- ## One after the other

pub passes_then : (p q r : Page) (a b c : List ℕ) → HostPasses p q a b → HostPasses q r b c → HostPasses p r a c
passes_then p q r a b c f g = record {
  slots = g.slots ∙ f.slots;
  made = omega (arith, f.made, g.made);
  owners = λ n lt. g.owners n (omega (arith, lt, f.made)) ∙ f.owners n lt;
  label = g.label ∙ f.label;
  order = λ cs has is. g.order cs (λ w lt. has w (omega (arith, lt, f.slots))) (f.order cs has is);
  trees = λ n lt ne h. g.trees n (omega (arith, lt, f.made)) ne (f.owners n lt ∙ h) ∙ f.trees n lt ne h;
  none_comes = λ n lt h. (let low = g.none_comes n lt h in f.none_comes n low (sym (g.owners n low) ∙ h));
}

pub pages_then : (p q r : Page) (a b c : List ℕ) → PagePasses p q a b → PagePasses q r b c → PagePasses p r a c
pages_then p q r a b c f g = record {
  host = passes_then p q r a b c f.host g.host;
  owners = λ v n h. g.owners v n (f.owners v n h);
  numbers = λ v n h. g.numbers v n (f.owners v n h) ∙ f.numbers v n h;
  roots = λ v lt. g.roots v lt ∙ f.roots v lt;
}

pub spots_pass : (p q : Page) (old new : List ℕ) → AreSpots p old → HostPasses p q old new → AreSpots q new
spots_pass p q old new s h = record {
  children = s.children;
  slots = λ w lt. s.slots w (omega (arith, lt, h.slots));
  are = h.order s.children s.slots s.are;
}

-- ## A node is exchanged

module _ (spots : List ℕ) (w n m : ℕ) (lt : w < length spots) (is : get_or spots w body ≡ n) where
  -- what stands in a slot is a child
  slot_listed : (cs : List Child) → has_slot w cs ≡ true → listed n (filled cs spots) ≡ true
  slot_listed [] h = absurd (no_true h)
  slot_listed (Fixed x ∷ cs) h = or_right (eqb x n) (listed n (filled cs spots)) (slot_listed cs h)
  slot_listed (InSlot u ∷ cs) h0 =
      cases (λ b. cond b true (has_slot w cs) ≡ true → listed n (filled (InSlot u ∷ cs) spots) ≡ true) (eqb u w)
      (λ e h. or_left (eqb (get_or spots u body) n) (listed n (filled cs spots)) (eq-eqb (get_or spots u body) n (ap (λ x. get_or spots x body) (eqb-true u w e) ∙ is)))
      (λ e h. or_right (eqb (get_or spots u body) n) (listed n (filled cs spots)) (slot_listed cs h))
      h0

  -- another slot stays
  other_slot : (u : ℕ) → eqb u w ≡ false → get_or (set spots w m) u body ≡ get_or spots u body
  other_slot u e = get_or-set_other spots w u m body (λ g. no_true (sym e ∙ eq-eqb u w g))

  -- the node is none of these
  filled_off : (cs : List Child) → listed n (filled cs spots) ≡ false → filled cs (set spots w m) ≡ filled cs spots
  filled_off [] h = refl
  filled_off (Fixed x ∷ cs) h = ap (λ l. x ∷ l) (filled_off cs ((or_none (eqb x n) (listed n (filled cs spots)) h).1))
  filled_off (InSlot u ∷ cs) h =
      let o = or_none (eqb (get_or spots u body) n) (listed n (filled cs spots)) h in
      let e : eqb u w ≡ false = cases (λ b. eqb u w ≡ b → eqb u w ≡ false) (eqb u w) (λ t _. absurd (no_true (sym o.0 ∙ eq-eqb (get_or spots u body) n (ap (λ x. get_or spots x body) (eqb-true u w t) ∙ is)))) (λ f _. f) refl in
      (λ j. other_slot u e j ∷ filled_off cs o.1 j)

  -- the node stands once, in the slot
  filled_exchanged : (cs : List Child) → has_slot w cs ≡ true → distinct (filled cs spots) ≡ true → exchanged n m (filled cs spots) ≡ filled cs (set spots w m)
  filled_exchanged [] h d = absurd (no_true h)
  filled_exchanged (Fixed x ∷ cs) h d =
      let a = and_parts (not (listed x (filled cs spots))) (distinct (filled cs spots)) d in
      let other : eqb x n ≡ false = ne_eqb x n (λ e. no_true (sym (not_true (listed x (filled cs spots)) a.0) ∙ ap (λ y. listed y (filled cs spots)) e ∙ slot_listed cs h)) in
      ap (λ b. cond b m x ∷ exchanged n m (filled cs spots)) other ∙ ap (λ l. x ∷ l) (filled_exchanged cs h a.1)
  filled_exchanged (InSlot u ∷ cs) h0 d =
      let x = get_or spots u body in
      let a = and_parts (not (listed x (filled cs spots))) (distinct (filled cs spots)) d in
      cases (λ b. cond b true (has_slot w cs) ≡ true → exchanged n m (filled (InSlot u ∷ cs) spots) ≡ filled (InSlot u ∷ cs) (set spots w m)) (eqb u w)
      (λ e h.
      let same : x ≡ n = ap (λ y. get_or spots y body) (eqb-true u w e) ∙ is in
      let off : listed n (filled cs spots) ≡ false = ap (λ y. listed y (filled cs spots)) (sym same) ∙ not_true (listed x (filled cs spots)) a.0 in
      let now : get_or (set spots w m) u body ≡ m = ap (λ y. get_or (set spots w m) y body) (eqb-true u w e) ∙ get_or-set_same spots w m body lt in
      ap (λ b. cond b m x ∷ exchanged n m (filled cs spots)) (eq-eqb x n same) ∙ (λ j. sym now j ∷ (exchanged_off n m (filled cs spots) off ∙ sym (filled_off cs off)) j))
      (λ e h.
      let other : eqb x n ≡ false = ne_eqb x n (λ g. no_true (sym (not_true (listed x (filled cs spots)) a.0) ∙ ap (λ y. listed y (filled cs spots)) g ∙ slot_listed cs h)) in
      ap (λ b. cond b m x ∷ exchanged n m (filled cs spots)) other ∙ (λ j. sym (other_slot u e) j ∷ filled_exchanged cs h a.1 j))
      h0

module _ (p q : Page) (n m w : ℕ) (spots : List ℕ) (c : Exchanges p q n m) (is : slice_get spots w ≡ Some n) where
  within : w < length spots
  within = slice_get_within spots w n is

  order_exchanged : (cs : List Child) → HasSlots (length spots) cs → (at (nodes p) body).children ≡ filled cs spots → (at (nodes q) body).children ≡ filled cs (slice_set spots w m)
  order_exchanged cs has are =
      c.children ∙ ap (exchanged n m) are
      ∙ filled_exchanged spots w n m within (get_or_from_slice_get spots w n body is) cs (has w within) (sym (ap distinct are) ∙ p.arena.sound.once body)

  pub passes_exchanged : HostPasses p q spots (slice_set spots w m)
  passes_exchanged = record {
    slots = length-set spots w m;
    made = omega (arith, c.made);
    owners = λ x lt. c.owners x;
    label = c.label;
    order = order_exchanged;
    trees = λ x lt ne h. c.trees x ne;
    none_comes = λ x lt h. omega (arith, lt, c.made);
  }

  pub pages_exchanged : KeepsNodes p q → PagePasses p q spots (slice_set spots w m)
  pages_exchanged k = record { host = passes_exchanged; owners = λ v x h. k.owners v x ∙ h; numbers = λ v x h. k.numbers v x; roots = k.roots }

  pub spots_exchanged : AreSpots p spots → AreSpots q (slice_set spots w m)
  spots_exchanged s = spots_pass p q spots (slice_set spots w m) s passes_exchanged
