-- The picks of a settle, as a host has them.
use Rattle.std.proofs.Common.{◌≡◌, ℕ, Bool, false, true, [], refl, ap, ◌∙◌, arith}
use Rattle.std.specs.Prelude.{Err, IsErr, Ok, Result, is_ok}
use Rattle.std.specs.declared.alloc.Global.{Global}
use Rattle.std.specs.declared.vec.Vec.{Vec}
use Rattle.slot_picks.specs.declared.lives.Lives.{Lives}
use Rattle.slot_picks.specs.declared.slots.Slot.{Slot}
use Rattle.slot_picks.specs.Lives as picking
use Rattle.slot_picks.specs.Lives.{OwnLives, PicksOn, PicksUntil}
use Rattle.widget_host.specs.declared.host.Host.{Host}
use Rattle.widget_host.specs.Housed.{HoldAll, KeepsBeside, Passes, PassesUntil, WantsMemory, chains, journal, no_pick, one_pick, places, seens, shared}
use Rattle.widget_host.proofs.Shown.{own_at}

-- a host with these lives and slots
abbrev pub with : Host → Lives → Vec Slot Global → Host
with h c ss = record h { lives = c; slots = ss }

-- each holds its own
pub holds_all : (h : Host) → OwnLives h.lives → HoldAll h
unfolding places shared
holds_all h own v p at is = own_at h.lives.shared 0 v v h.lives.places.items p (omega arith) at own is

-- what stays beside a slot
pub beside_kept : (w : ℕ) (old new : Host) → picking.KeepsBeside w old.lives new.lives old.slots.items new.slots.items → KeepsBeside w old new
unfolding chains seens
beside_kept w old new b = record { slots = b.slots; own = b.own; lives = b.lives }

pub beside_here : (w : ℕ) (h : Host) → KeepsBeside w h h
beside_here w h = record { slots = λ u ne. refl; own = record { ended = []; are = refl }; lives = λ v out. refl }

pub wants_here : (h : Host) → WantsMemory h h
wants_here h = record { slot = 0; journal = refl; beside = beside_here 0 h }

module _ (k : ℕ) (h : Host) where
  passes_on : {d : Lives} {ts : Vec Slot Global} → PicksOn k h.lives h.slots d ts → Passes k h (with h d ts)
  unfolding chains journal seens
  passes_on picking.no_pick = no_pick
  passes_on (picking.one_pick {e = e} {us = us} picks one own) = one_pick (passes_on picks) one (holds_all (with h e us) own)

  pub passes_until : (ended : Bool) (new : Host) → (ended ≡ true → new ≡ with h new.lives new.slots) → PicksUntil k h.lives h.slots ended new.lives new.slots → PassesUntil k h ended new
  unfolding journal
  passes_until ended new is p = record {
    last = with h p.lives p.slots;
    picks = passes_on p.picks;
    is = λ e. is e ∙ ap (λ c. with h c new.slots) (p.lives_is e) ∙ ap (with h p.lives) (p.slots_are e);
    wanted = λ e. let w = p.wanted e in record { slot = w.slot; journal = w.journal; beside = beside_kept w.slot (with h p.lives p.slots) new w.beside };
  }

-- what was refused is not Ok
pub err_not_ok : {T E : Type 0} (r : Result T E) → IsErr r → is_ok r ≡ false
err_not_ok (Ok x) err = absurd (let both : false ≡ true = err in cc)
err_not_ok (Err x) err = refl
