-- A host is whole after picks.
use Rattle.std.proofs.Common.{◌≡◌, ◌≤◌, ℕ, ◌+◌, ◌*◌, List, [], ◌∷◌, false, length, suc, refl, sym, ap, ◌∙◌, subst, arith, Some}
use Rattle.std.specs.Prelude.{slice_get, slice_index_or}
use Rattle.page_nodes.specs.Entries.{body}
use Rattle.slot_picks.specs.Lives.{AreHoused, FewLives, KeepsSlots}
use Rattle.slot_picks.specs.Places.{told_of}
use Rattle.slot_picks.specs.Feeding.{sum_of}
use Rattle.widget_host.specs.declared.host.Host.{Host}
use Rattle.widget_host.specs.Housed.{IsApart, IsWhole, accepts, ends, fuels, most_after, swaps, told}
use Rattle.widget_host.proofs.Raws.{own_raws, raws_stay}

-- so many numbers, each small
pub sum_few : (ns : List ℕ) → ((v n : ℕ) → slice_get ns v ≡ Some n → n ≤ 256) → sum_of ns ≤ length ns * 256
sum_few [] few = omega arith
sum_few (n ∷ ns) few = let here = few 0 n refl in let more = sum_few ns (λ v m at. few (suc v) m at) in omega (arith, here, more)

-- after picks of its slots
module _ (old new : Host) (k : KeepsSlots old.lives new.lives old.slots.items new.slots.items) (apart : IsApart new) (over : new.ends ≡ old.ends) (counted : new.given ≡ old.given)
    (slots : AreHoused (16 + swaps old) new.lives new.slots.items) (few : (n : ℕ) → FewLives n old.lives → FewLives n new.lives) (whole : IsWhole old) where
  many : swaps new ≡ swaps old
  unfolding ends
  many = ap (λ e. length e.items) over

  bound : most_after old.given + sum_of (told_of old.lives.places.items) ≡ most_after new.given + sum_of (told_of new.lives.places.items)
  bound = ap (λ n. most_after n + sum_of (told_of old.lives.places.items)) (sym counted) ∙ ap (λ ns. most_after new.given + sum_of ns) (sym k.lives.told)

  pub whole_stays : IsWhole new
  unfolding accepts fuels told
  whole_stays = record {
    slots = subst (λ n. AreHoused (16 + n) new.lives new.slots.items) (sym many) slots;
    room = subst (λ n. FewLives n new.lives) bound (few (most_after old.given + sum_of (told_of old.lives.places.items)) whole.room);
    told = λ v n at. whole.told v n (ap (λ ns. slice_get ns v) (sym k.lives.told) ∙ at);
    raws = raws_stay old.lives new.lives old.slots.items new.slots.items k (own_raws new apart slots.lives) whole.raws;
    given = subst (λ n. n ≤ 4096) (sym counted) whole.given;
    swaps = subst (λ n. n ≤ 4) (sym many) whole.swaps;
    fuels = λ w n at. whole.fuels w n (ap (λ ns. slice_get ns w) (sym k.fuels) ∙ at);
    free = λ v past.
        let f = whole.free v (subst (λ n. 16 + n ≤ v) many past) in
        (ap (λ flags. slice_index_or flags v false) k.lives.accepts ∙ f.0, ap (λ ns. slice_index_or ns v body) k.lives.roots ∙ f.1, ap (λ ns. slice_index_or ns v 0) k.lives.told ∙ f.2);
  }
