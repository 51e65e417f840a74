-- What lives hold stays their own where a call for another changed store and page, also after want of memory.
use Rattle.std.proofs.Common.{◌≡◌, ℕ, zero, suc, ◌+◌, ◌<◌, ◌≤◌, List, [], ◌∷◌, length, sym, ap, ◌∙◌, subst, arith, Some}
use Rattle.std.specs.Prelude.{IfSome, slice_get, slice_set}
use Rattle.std.specs.declared.alloc.Global.{Global}
use Rattle.std.specs.declared.vec.Vec.{Vec}
use Rattle.js_image.specs.Held.{IsConfined}
use Rattle.native_image.specs.Sound.{KeepsPage}
use Rattle.js_names.specs.declared.code.Code.{Code}
use Rattle.js_names.specs.Code.{trees_of}
use Rattle.native_image.specs.declared.handed.Shared.{Shared}
use Rattle.life_queue.specs.Fine.{FineTurn, KeepsCells, KeepsLife}
use Rattle.life_queue.proofs.Apart.{holds_apart, turn_apart}
use Rattle.slot_picks.specs.declared.lives.Place.{Place}
use Rattle.slot_picks.specs.Places.{FinePlaces, OwnPlace, OwnPlaces, lent}
use Rattle.slot_picks.proofs.Others.{IsOff, off_behind, off_here, off_next}

-- a call for one number of a widget changed store and page
module _ (w : ℕ) (codes : List Code) (h m : Shared) (cells : KeepsCells (trees_of codes) w h.store m.store) (page : KeepsPage w h.page m.page) where
  own_other : (v : ℕ) → (w ≡ v → ⊥) → v < 32 → (l : Place) → OwnPlace h v l → OwnPlace m v l
  own_other v ne lt l was = λ e. let own = was e in record {
    confined = cells.others_confined (trees_of l.codes.items) v ne own.confined;
    holds = holds_apart w v ne lt (trees_of codes) h.store m.store h.page m.page cells page l.life.widget.around own.holds;
    turn = turn_apart w v ne (trees_of codes) h.store m.store h.page m.page cells page (trees_of l.codes.items) l.life.grant l.life.turn own.turn;
  }

  pub owns_stay : (v : ℕ) (ls : List Place) → IsOff w v ls → v + length ls ≤ 32 → OwnPlaces h v ls → OwnPlaces m v ls
  owns_stay v [] off few t = tt
  owns_stay v (l ∷ ls) off few t =
      (own_other v (off_here w v l ls off) (omega (arith, few)) l t.0, owns_stay (v + 1) ls (off_next w v l ls off) (omega (arith, few)) t.1)

  pub owns_set : (a b : Place) → (OwnPlace h w a → OwnPlace m w b) → (v i : ℕ) (ls : List Place) → w ≡ v + i → slice_get ls i ≡ Some a → v + length ls ≤ 32 → OwnPlaces h v ls → OwnPlaces m v (slice_set ls i b)
  owns_set a b own v i [] e at few t = tt
  owns_set a b own v zero (l ∷ ls) e at few t =
      let same : l ≡ a = cc in
      let here : v ≡ w = omega (arith, e) in
      let was : OwnPlace h w a = subst (λ u. OwnPlace h u a) here (subst (λ (x : Place). OwnPlace h v x) same t.0) in
      (subst (λ u. OwnPlace m u b) (sym here) (own was), owns_stay (v + 1) ls (off_behind w v ls (sym here)) (omega (arith, few)) t.1)
  owns_set a b own v (suc i) (l ∷ ls) e at few t =
      (own_other v (λ g. absurd (omega (arith, e, g))) (omega (arith, few)) l t.0, owns_set a b own (v + 1) i ls (omega (arith, e)) at (omega (arith, few)) t.1)

-- the life that is picked
pub own_here : (w : ℕ) (h m : Shared) (a b : Place) → KeepsLife w (lent h a) (lent m b) a.life b.life → IfSome b.life.turn (FineTurn (trees_of b.codes.items) w m.store m.page b.life.grant) → OwnPlace h w a → OwnPlace m w b
own_here w h m a b keeps turn was = λ e. record {
  confined = subst (λ fs. IsConfined fs w m.store) (ap (λ (cs : Vec Code Global). trees_of cs.items) (sym keeps.codes)) (keeps.cells.confined (was (sym keeps.accepted ∙ e)).confined);
  holds = keeps.holds;
  turn = turn;
}

-- a life that is sound holds its own
pub owns_fine : (h : Shared) (v : ℕ) (ls : List Place) → FinePlaces h v ls → OwnPlaces h v ls
owns_fine h v [] f = tt
owns_fine h v (l ∷ ls) f = (λ e. let fine = f.0 e in record { confined = fine.confined; holds = fine.sound.holds; turn = fine.turn }, owns_fine h (v + 1) ls f.1)
