-- What a life has spent, and the entry of a pick.
use Rattle.std.proofs.Common.{◌≡◌, ℕ, zero, suc, ◌+◌, ◌-◌, ◌*◌, ◌<◌, ◌≤◌, ◌^◌, false, List, [], ◌∷◌, refl, sym, ap, ◌∙◌, subst, arith, Option, Some, None, option_map}
use Rattle.std.specs.Prelude.{IfSome, slice_get, slice_set}
use Rattle.life_laws.specs.Life.{Seen, image, shown}
use Rattle.life_laws.specs.declared.entry.PickEntry.{PickEntry}
use Rattle.life_laws.specs.declared.entry.Picked.{Picked}
use Rattle.life_laws.specs.declared.entry.Picked.TheVariants as picked
use Rattle.life_laws.specs.Journal.{Kept, PickedAt, entry_of, journal_after}
use Rattle.life_laws.specs.Settled.{flag}
use Rattle.native_image.specs.declared.handed.Shared.{Shared}
use Rattle.life_queue.specs.Turn.{Turn}
use Rattle.life_queue.specs.declared.life.Life.{Life}
use Rattle.life_queue.specs.Lives.{going_of, life_seen, own_of, trees_in}
use Rattle.life_queue.specs.Fine.{FineLife, FineTurn, held_back}
use Rattle.slot_picks.specs.declared.lives.Place.{Place}
use Rattle.slot_picks.specs.Places.{seens_from}
use Rattle.slot_picks.proofs.Others.{seen_none, seens_at}

-- between turns, and in one
pub spent_none : (h : Shared) (w : ℕ) (l : Life) → l.turn ≡ None → l.records.spent ≡ (image (life_seen h w l)).spent
spent_none h w l e = sym (ap (λ (o : Option Turn). (shown (option_map (going_of h w l) o) (own_of h w l)).spent) e)

pub spent_some : (h : Shared) (w : ℕ) (l : Life) (t : Turn) → l.turn ≡ Some t → l.records.spent + (l.grant - t.left) ≡ (image (life_seen h w l)).spent
spent_some h w l t e = sym (ap (λ (o : Option Turn). (shown (option_map (going_of h w l) o) (own_of h w l)).spent) e)

-- a turn has no more left than was granted
pub left_within : (h : Shared) (w : ℕ) (l : Life) (t : Turn) → l.turn ≡ Some t → FineLife h w l → t.left ≤ l.grant
left_within h w l t e fine =
    let P : Option Turn → Type 0 = λ o. IfSome o (FineTurn (trees_in h) w h.store h.page l.grant) in
    let f : FineTurn (trees_in h) w h.store h.page l.grant t = subst P e fine.turn in
    f.left

-- and what it may spend has room
pub spent_fits : (h : Shared) (w : ℕ) (l : Life) (t : Turn) → l.turn ≡ Some t → FineLife h w l → l.records.spent + (l.grant - t.left) < 2 ^ 64
spent_fits h w l t e fine =
    let back : held_back l.turn ≡ 1000000 = ap held_back e in
    let spent : l.records.spent + held_back l.turn ≤ l.records.turns * 1000000 = fine.counts.spent in
    let grant : l.grant ≤ 1000000 = fine.counts.grant in
    let room = fine.counts.room in
    omega (arith, back, spent, grant, room)

-- ## The entry of a pick

set_same : (ss : List Seen) (i : ℕ) (s : Seen) → slice_get ss i ≡ Some s → ss ≡ slice_set ss i s
set_same [] i s e = refl
set_same (x ∷ ss) zero s e = let same : x ≡ s = cc in ap (λ y. y ∷ ss) same
set_same (x ∷ ss) (suc i) s e = ap (λ ys. x ∷ ys) (set_same ss i s e)

-- where no file was accepted
pub idle_kept : (h : Shared) (v k : ℕ) (ls : List Place) (a : Place) (js : List PickEntry) → slice_get ls v ≡ Some a → a.life.accepted ≡ false → Kept v k picked.Idle (seens_from h 0 ls) (seens_from h 0 ls) js js
idle_kept h v k ls a js at refused =
    let here : slice_get (seens_from h 0 ls) v ≡ Some (flag false) = seens_at h 0 v v ls a (omega arith) at ∙ ap Some (seen_none h v a refused) in
    record {
      picked = record {
        was = flag false;
        is = flag false;
        at = here;
        set = set_same (seens_from h 0 ls) v (flag false) here;
        picks = record { none = refl; going = refl; queue = refl; due = refl; spent = refl };
        lighter = λ e. cc;
      };
      journal = refl;
    }

-- a pick that is idle has no entry
pub kept_idle : (v k : ℕ) (r : Picked) (old new : List Seen) (js ks : List PickEntry) → (p : PickedAt v k r old new) → r ≡ picked.Idle → ks ≡ js → Kept v k r old new js ks
kept_idle v k r old new js ks p i same = record {
  picked = p;
  journal = same ∙ sym (ap (λ x. journal_after x (entry_of v k p.was p.is) js) i);
}
