-- A swap is taken.
use Rattle.std.proofs.Common.{◌≡◌, ◌≢◌, ℕ, zero, suc, ◌<◌, ◌≤◌, List, [], ◌∷◌, drop, length, map, refl, sym, ap, ◌∙◌, subst, arith, Some, None}
use Rattle.std.specs.Prelude.{slice_get, slice_index_or, slice_set}
use Rattle.js_names.specs.Code.{trees_of}
use Rattle.page_tree.specs.declared.page.Page.{Page}
use Rattle.page_image.specs.Image.{forest}
use Rattle.page_image.specs.Stays.{KeepsNodes}
use Rattle.native_image.specs.Sound.{KeepsPage}
use Rattle.native_image.proofs.Keeping.{page_keeps}
use Rattle.page_build.specs.Standing.{Exchanges, IsSpare, IsStanding}
use Rattle.life_laws.specs.Journal.{on_at}
use Rattle.life_laws.proofs.Housing.{chain_in}
use Rattle.life_queue.specs.Fine.{KeepsCells}
use Rattle.life_queue.proofs.Keeps.{cells_same}
use Rattle.slot_picks.specs.declared.lives.Lives.{Lives}
use Rattle.slot_picks.specs.declared.lives.Place.{Place}
use Rattle.slot_picks.specs.declared.slots.Slot.{Slot}
use Rattle.slot_picks.specs.Lives.{AreStanding, FewLives, FineLives, KeepsLives, KeepsSlots, chains_of, seens_of}
use Rattle.slot_picks.specs.Places.{homes_of}
use Rattle.slot_picks.proofs.Chained.{chains_at, chains_set}
use Rattle.slot_picks.proofs.Others.{AllHaveCells, IsOff, fews_stay, fines_stay, seens_stay}
use Rattle.slot_picks.proofs.Owning.{owns_stay}
use Rattle.slot_picks.proofs.Stands.{new_spare, old_stands, pages_swap, standing_swap}

-- ## The page changes for no life

module _ (c : Lives) (q : Page) (nodes : KeepsNodes c.shared.page q) (trees : (v : ℕ) → v < 32 → forest q v ≡ forest c.shared.page v) (fine : FineLives c) where
  abbrev d : Lives
  d = record c { shared = record c.shared { page = q } }

  cells : KeepsCells (trees_of []) 31 c.shared.store c.shared.store
  cells = cells_same (trees_of []) 31 c.shared.store

  page : KeepsPage 31 c.shared.page q
  page = page_keeps 31 c.shared.page q nodes (λ v lt ne. trees v lt)

  raws : AllHaveCells c.shared → AllHaveCells d.shared
  raws h = λ v n e. h v n (sym (nodes.owners v n) ∙ e)

  off : IsOff 31 0 c.places.items
  off = λ i lt e. absurd (omega (arith, lt, e, fine.places))

  pub swap_seens : seens_of d ≡ seens_of c
  swap_seens = seens_stay 31 [] c.shared d.shared cells page 0 c.places.items off (omega (arith, fine.places)) fine.fine

  pub swap_fine : FineLives d
  swap_fine = record { places = fine.places; fine = fines_stay 31 [] c.shared d.shared cells page raws 0 c.places.items off (omega (arith, fine.places)) fine.fine; short = fine.short }

  pub swap_few : (n : ℕ) → FewLives n c → FewLives n d
  swap_few n few = fews_stay 31 [] c.shared d.shared cells page raws n 0 c.places.items off (omega (arith, fine.places)) fine.fine few

  pub swap_lives : KeepsLives c d
  swap_lives = record {
    homes = refl;
    roots = refl;
    told = refl;
    accepts = refl;
    codes = refl;
    holds = owns_stay 31 [] c.shared d.shared cells page 0 c.places.items off (omega (arith, fine.places));
    rest = refl;
    raws = λ n h. h;
    cells = λ v none. refl;
    nodes = λ v none. nodes.nodes v;
  }

-- ## The slot has a life less

two_lives : (xs ys : List ℕ) (v u : ℕ) → slice_get xs 0 ≡ Some v → ys ≡ drop 1 xs → slice_get ys 0 ≡ Some u → xs ≡ v ∷ u ∷ drop 2 xs
two_lives [] ys v u e f g = cc
two_lives (x ∷ []) ys v u e f g = let none : slice_get ys 0 ≡ None = ap (λ (zs : List ℕ). slice_get zs 0) f in cc
two_lives (x ∷ y ∷ xs) ys v u e f g =
    let one : x ≡ v = cc in
    let there : slice_get ys 0 ≡ Some y = ap (λ zs. slice_get zs 0) f in
    let two : y ≡ u = cc in
    λ j. one j ∷ two j ∷ xs

on_set : (cs : List (List ℕ)) (w : ℕ) (c : List ℕ) → slice_get cs w ≡ Some c → slice_set cs w (drop 1 c) ≡ on_at w (drop 1) cs
on_set [] w c e = refl
on_set (x ∷ cs) zero c e = let same : c ≡ x = cc in ap (λ y. drop 1 y ∷ cs) same
on_set (x ∷ cs) (suc w) c e = ap (λ ds. x ∷ ds) (on_set cs w c e)

set_same : {B : Type 0} (f : Slot → B) (ss : List Slot) (w : ℕ) (s t : Slot) → slice_get ss w ≡ Some s → f t ≡ f s → map f (slice_set ss w t) ≡ map f ss
set_same f [] w s t at e = refl
set_same f (x ∷ ss) zero s t at e = let same : s ≡ x = cc in ap (λ y. y ∷ map f ss) (e ∙ ap f same)
set_same f (x ∷ ss) (suc w) s t at e = ap (λ ys. f x ∷ ys) (set_same f ss w s t at e)

set_read : (ss : List Slot) (w : ℕ) (s t x : Slot) → slice_get ss w ≡ Some s → x ≡ slice_index_or (slice_set ss w t) w x → x ≡ t
set_read [] w s t x here e = cc
set_read (y ∷ ss) zero s t x here e = e
set_read (y ∷ ss) (suc w) s t x here e = set_read ss w s t x here e

-- what the slot is read as then
module _ (ss : List Slot) (w : ℕ) (s t x : Slot) (ds : List ℕ) (here : slice_get ss w ≡ Some s) (read : x ≡ slice_index_or (slice_set ss w t) w x) (lent : ds ≡ x.lives.items) where
  lent_is : ds ≡ t.lives.items
  lent_is = lent ∙ ap (λ (y : Slot). y.lives.items) (set_read ss w s t x here read)

  pub next_at : (u : ℕ) → slice_get ds 0 ≡ Some u → slice_get t.lives.items 0 ≡ Some u
  next_at u e = ap (λ (xs : List ℕ). slice_get xs 0) (sym lent_is) ∙ e

  pub next_some : t.lives.items ≡ drop 1 s.lives.items → 1 < length s.lives.items → 0 < length ds
  next_some lives waits = subst (λ (xs : List ℕ). 0 < length xs) (sym (lent_is ∙ lives)) (behind s.lives.items waits)
    where
      behind : (xs : List ℕ) → 1 < length xs → 0 < length (drop 1 xs)
      behind [] lt = absurd (omega (arith, lt))
      behind (y ∷ []) lt = absurd (omega (arith, lt))
      behind (y ∷ z ∷ xs) lt = omega arith

module _ (c : Lives) (ss : List Slot) (w v u : ℕ) (s t : Slot) (here : slice_get ss w ≡ Some s)
    (ended : slice_get s.lives.items 0 ≡ Some v) (lives : t.lives.items ≡ drop 1 s.lives.items) (next : slice_get t.lives.items 0 ≡ Some u) (name : t.name ≡ s.name) (fuel : t.fuel ≡ s.fuel) where
  abbrev vs : List ℕ
  vs = drop 2 s.lives.items

  abbrev ts : List Slot
  ts = slice_set ss w t

  two : s.lives.items ≡ v ∷ u ∷ vs
  two = two_lives s.lives.items t.lives.items v u ended lives next

  at : slice_get (chains_of ss) w ≡ Some (v ∷ u ∷ vs)
  at = chains_at ss w s here ∙ ap Some two

  set : chains_of ts ≡ slice_set (chains_of ss) w (u ∷ vs)
  set = chains_set ss w t ∙ ap (slice_set (chains_of ss) w) (lives ∙ ap (drop 1) two)

  names : map (λ (x : Slot). x.name) ts ≡ map (λ (x : Slot). x.name) ss
  names = set_same (λ (x : Slot). x.name) ss w s t here name

  pub chains_on : chains_of ts ≡ on_at w (drop 1) (chains_of ss)
  chains_on = set ∙ on_set (chains_of ss) w (v ∷ u ∷ vs) at

  pub both_below : AreStanding c ss → (v < length c.places.items) × (u < length c.places.items)
  both_below h =
      let chain = chain_in (homes_of c.places.items) h.born 0 w w (chains_of ss) (v ∷ u ∷ vs) (omega arith) at h.chains in
      (omega (arith, chain.below.0, h.few), omega (arith, chain.below.1.0, h.few))

  module _ (a b : Place) (ends : slice_get c.places.items v ≡ Some a) (comes : slice_get c.places.items u ≡ Some b) (fine : FineLives c) (standing : AreStanding c ss) where
    few : length c.places.items ≤ 32
    few = omega (arith, fine.places)

    pub ended_stands : IsStanding c.shared.page a.root
    ended_stands = old_stands c c.shared.page ss ts w v u vs a b at set names ends comes few standing

    pub next_spare : IsSpare c.shared.page b.root
    next_spare = new_spare c c.shared.page ss ts w v u vs a b at set names ends comes few standing

    pub swap_keeps : (q : Page) → Exchanges c.shared.page q a.root b.root → KeepsNodes c.shared.page q → ((x : ℕ) → x < 32 → forest q x ≡ forest c.shared.page x) → IsStanding q b.root → IsSpare q a.root
        → ((x : ℕ) → x ≢ a.root → IsStanding c.shared.page x → IsStanding q x) → ((x : ℕ) → x ≢ b.root → IsSpare c.shared.page x → IsSpare q x) → KeepsSlots c (record c { shared = record c.shared { page = q } }) ss ts
    swap_keeps q ex nodes trees stands spare others_stand others_spare = record {
      lives = swap_lives c q nodes trees fine;
      names = names;
      fuels = set_same (λ (x : Slot). x.fuel) ss w s t here fuel;
      page = pages_swap c q ss ts w v u vs a b at set names ends comes few standing ex nodes;
      standing = λ h. standing_swap c q ss ts w v u vs a b at set names ends comes few h ex nodes stands spare others_stand others_spare;
    }
