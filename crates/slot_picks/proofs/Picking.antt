-- A life in its place is picked.
use Rattle.std.proofs.Common.{◌≡◌, ◌≢◌, ℕ, zero, suc, ◌+◌, ◌<◌, ◌≤◌, true, List, [], ◌∷◌, length, refl, sym, ap, ◌∙◌, subst, arith, Option, None, Some, Ok, Err}
use Rattle.std.specs.Prelude.{IfOk, IfSome, OnErr, OnOk, Result, slice_get, slice_set}
use Rattle.std.specs.declared.alloc.Global.{Global}
use Rattle.std.specs.declared.vec.Vec.{Vec}
use Rattle.js_names.specs.declared.code.Code.{Code}
use Rattle.life_laws.specs.Life.{Seen, ready, weight}
use Rattle.life_laws.specs.declared.entry.Picked.{Picked}
use Rattle.life_laws.specs.Picks.{Picks}
use Rattle.life_laws.specs.Journal.{PickedAt}
use Rattle.native_image.specs.declared.handed.Shared.{Shared}
use Rattle.life_queue.specs.Turn.{Turn}
use Rattle.life_queue.specs.declared.life.Life.{Life}
use Rattle.life_queue.specs.Lives.{life_seen, trees_in}
use Rattle.life_queue.specs.Fine.{FineLife, FineTurn, KeepsLife, tally}
use Rattle.life_picks.specs.Picking.{PicksLife}
use Rattle.life_laws.proofs.Passing.{get_other}
use Rattle.slot_picks.specs.declared.lives.Place.{Place}
use Rattle.slot_picks.specs.Places.{FewPlaces, FinePlaces, lent, seen_at, seens_from}
use Rattle.slot_picks.proofs.Others.{few_at, fews_set, fines_at, fines_set, seen_life, seens_at, seens_set}

pub length_set : (ls : List Place) (i : ℕ) (l : Place) → length (slice_set ls i l) ≡ length ls
length_set [] i l = refl
length_set (x ∷ ls) zero l = refl
length_set (x ∷ ls) (suc i) l = ap suc (length_set ls i l)

pub set_there : (ls : List Place) (i : ℕ) (a b c : Place) → slice_get ls i ≡ Some a → slice_get (slice_set ls i b) i ≡ Some c → b ≡ c
set_there [] i a b c e f = cc
set_there (x ∷ ls) zero a b c e f = cc
set_there (x ∷ ls) (suc i) a b c e f = set_there ls i a b c e f

pub same_accepted : (o : Option Place) (a l : Place) → o ≡ Some a → o ≡ Some l → a.life.accepted ≡ true → l.life.accepted ≡ true
same_accepted o a l e f g = let same : a ≡ l = (let h : Some a ≡ Some l = sym e ∙ f in cc) in ap (λ (x : Place). x.life.accepted) (sym same) ∙ g

pub on_ok : {T E : Type 0} (P : T → Type 0) (Q : Type 0) (r : Result T E) → ((x : T) → P x → Q) → IfOk r P → OnOk r Q
on_ok P Q (Ok x) f h = f x h
on_ok P Q (Err e) f h = tt

pub on_err : {T E P : Type 0} (r : Result T E) → P → OnErr r P
on_err (Ok x) p = tt
on_err (Err e) p = p

-- the turn in progress holds its own, and after want of memory there is none
pub turn_after : {E : Type 0} (h m : Shared) (w k : ℕ) (a b : Life) (r : Result Picked E) → IfOk r (λ x. PicksLife h m w k x a b) → OnErr r (b.turn ≡ None) → IfSome b.turn (FineTurn (trees_in m) w m.store m.page b.grant)
turn_after h m w k a b (Ok x) picks none = picks.fine.turn
turn_after h m w k a b (Err e) picks none = subst (λ (o : Option Turn). IfSome o (FineTurn (trees_in m) w m.store m.page b.grant)) (sym none) tt

-- the trees of a life go where they were lent, and come back
module _ (w : ℕ) (s m : Shared) (p : Place) (b : Life) (lentto back came : Vec Code Global) (there : lentto ≡ p.codes) (here : came ≡ m.codes) where
  pub kept_lent : KeepsLife w (record s { codes = lentto }) m p.life b → KeepsLife w (lent s p) (lent (record m { codes = back }) (record { life = b; codes = came; root = p.root; told = p.told })) p.life b
  kept_lent k = subst (λ cs. KeepsLife w (lent s p) (record m { codes = cs }) p.life b) (sym here) (subst (λ cs. KeepsLife w (record s { codes = cs }) m p.life b) there k)

  pub picks_lent : (k : ℕ) (r : Picked) → PicksLife (record s { codes = lentto }) m w k r p.life b → PicksLife (lent s p) (lent (record m { codes = back }) (record { life = b; codes = came; root = p.root; told = p.told })) w k r p.life b
  picks_lent k r h = subst (λ cs. PicksLife (lent s p) (record m { codes = cs }) w k r p.life b) (sym here) (subst (λ cs. PicksLife (record s { codes = cs }) m w k r p.life b) there h)

module _ (h : Shared) (v : ℕ) (ls : List Place) (a : Place) (at : slice_get ls v ≡ Some a) (accepted : a.life.accepted ≡ true) (all : FinePlaces h 0 ls) where
  pub fine_here : FineLife (lent h a) v a.life
  fine_here = fines_at h 0 v v ls a (omega arith) at all accepted

  -- its number is its place
  pub number_here : a.life.widget.id.index ≡ v
  number_here = fine_here.number

  pub fine_number : FineLife (lent h a) a.life.widget.id.index a.life
  fine_number = subst (λ i. FineLife (lent h a) i a.life) (sym number_here) fine_here

  module _ (m : Shared) (b : Place) (within : v < length ls) (few : length ls ≤ 32) (kept : KeepsLife a.life.widget.id.index (lent h a) (lent m b) a.life b.life) where
    room : 0 + length ls ≤ 32
    room = omega (arith, few)

    keeps : KeepsLife v (lent h a) (lent m b) a.life b.life
    keeps = subst (λ i. KeepsLife i (lent h a) (lent m b) a.life b.life) number_here kept

    seens_here : seens_from m 0 (slice_set ls v b) ≡ slice_set (seens_from h 0 ls) v (seen_at m v b)
    seens_here = seens_set v a.codes.items h m keeps.cells keeps.page b 0 v ls (omega arith) within room all

    -- what is seen of others stays, also after want of memory
    pub others_seen : (u : ℕ) → u ≢ v → slice_get (seens_from m 0 (slice_set ls v b)) u ≡ slice_get (seens_from h 0 ls) u
    others_seen u ne = ap (λ ss. slice_get ss u) seens_here ∙ get_other (seens_from h 0 ls) v u (seen_at m v b) (λ e. ne (sym e))

  module _ (m : Shared) (k : ℕ) (b : Place) (within : v < length ls) (few : length ls ≤ 32) (r : Picked) (kept : KeepsLife a.life.widget.id.index (lent h a) (lent m b) a.life b.life) (picks : PicksLife (lent h a) (lent m b) a.life.widget.id.index k r a.life b.life) where
    keeps_at : KeepsLife v (lent h a) (lent m b) a.life b.life
    keeps_at = keeps m b within few kept

    room_at : 0 + length ls ≤ 32
    room_at = room m b within few kept

    picked : PicksLife (lent h a) (lent m b) v k r a.life b.life
    picked = subst (λ i. PicksLife (lent h a) (lent m b) i k r a.life b.life) number_here picks

    there : b.life.accepted ≡ true
    there = keeps_at.accepted ∙ accepted

    was_is : seen_at h v a ≡ life_seen (lent h a) v a.life
    was_is = seen_life h v a accepted

    is_is : seen_at m v b ≡ life_seen (lent m b) v b.life
    is_is = seen_life m v b there

    pub picked_at : PickedAt v k r (seens_from h 0 ls) (seens_from m 0 (slice_set ls v b))
    picked_at = record {
      was = seen_at h v a;
      is = seen_at m v b;
      at = seens_at h 0 v v ls a (omega arith) at;
      set = seens_here m b within few kept;
      picks = subst (λ (s : Seen). Picks k r s (seen_at m v b)) (sym was_is) (subst (λ (s : Seen). Picks k r (life_seen (lent h a) v a.life) s) (sym is_is) picked.picks);
      lighter = λ e. subst (λ (s : Seen). weight (seen_at m v b) < weight s) (sym was_is) (subst (λ (s : Seen). weight s < weight (life_seen (lent h a) v a.life)) (sym is_is) (picked.lighter (ap ready (sym was_is) ∙ e)));
    }

    pub fews_here : (n : ℕ) → FewPlaces h n 0 ls → FewPlaces m n 0 (slice_set ls v b)
    fews_here n was =
        let before : tally (lent h a) v a.life ≤ n = few_at h n 0 v v ls a (omega arith) at was accepted in
        let after : tally (lent m b) v b.life ≤ tally (lent h a) v a.life = picked.counted in
        fews_set v a.codes.items h m keeps_at.cells keeps_at.page (λ _. picked.fine.sound.raws) b n 0 v ls (omega arith) room_at all was (omega (arith, before, after))

    pub fines_here : FinePlaces m 0 (slice_set ls v b)
    fines_here = fines_set v a.codes.items h m keeps_at.cells keeps_at.page (λ _. picked.fine.sound.raws) b 0 v ls (omega arith) room_at all picked.fine
