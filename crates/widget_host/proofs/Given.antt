-- What a host is after an item was given.
use Rattle.std.proofs.Common.{◌≡◌, ℕ, ◌+◌, ◌/◌, ◌<◌, ◌≤◌, List, map, length, Bool, false, refl, sym, ap, ◌∙◌, subst, arith, Some}
use Rattle.std.specs.Prelude.{slice_get, slice_index_or, ◌&&◌}
use Rattle.std.proofs.Math.Nat.{div-le_of_le-mul}
use Rattle.js_tree.specs.Forest.{Forest}
use Rattle.life_laws.specs.Life as todo
use Rattle.life_laws.specs.Life.{Seen, due, image, potential}
use Rattle.life_laws.specs.Journal.{AllJoined}
use Rattle.life_laws.proofs.Given.{joined_given}
use Rattle.life_laws.specs.Chains.{Chains, Rest, Unspent}
use Rattle.life_laws.proofs.Housing.{unspent_given}
use Rattle.native_image.specs.declared.handed.Shared.{Shared}
use Rattle.slot_picks.specs.declared.lives.Place.{Place}
use Rattle.slot_picks.specs.QueueLives as queue
use Rattle.slot_picks.specs.Fine.{FineWork}
use Rattle.page_build.specs.Homes.{HaveRaws}
use Rattle.page_nodes.specs.Entries.{body}
use Rattle.slot_picks.specs.Places.{FewPlaces, FinePlaces, homes_of, seens_from, told_of}
use Rattle.slot_picks.specs.declared.slots.Slot.{Slot}
use Rattle.slot_picks.specs.Lives.{FewLives, FineLives, KeepsSlots, chains_of, seens_of}
use Rattle.slot_picks.specs.Feeding.{sum_of}
use Rattle.widget_host.specs.declared.host.Host.{Host}
use Rattle.widget_host.specs.declared.items.HostItem.{HostItem}
use Rattle.widget_host.specs.declared.items.HostItem.TheVariants as host
use Rattle.widget_host.specs.Housed.{GivesItem, IsItem, IsWhole, accepts, chains, ends, fuels, given, is_for, item_of, journal, most_after, reaches, seens, shared, swaps, told}
use Rattle.widget_host.specs.Feeding.{AreFed, AreSame, work_of}
use Rattle.widget_host.proofs.Lasts.{not_for}
use Rattle.widget_host.proofs.Fed.{counts_fed, dues_fed, images_fed, length_fed, other_fed, places_fed, told_same}
use Rattle.widget_host.proofs.Alike.{accepts_alike, are_alike, homes_alike, roots_alike}
use Rattle.widget_host.proofs.Same.{slots_same}
use Rattle.widget_host.proofs.Shown.{accepts_at}
use Rattle.widget_host.proofs.Staying.{host_stays}

-- an item as its meaning has it
pub work_is : (i : HostItem) (fs : List Forest) → queue.work_of fs (work_of i) ≡ todo.Given (item_of i)
work_is (host.Event to e) fs = refl
work_is (host.Advance ms) fs = refl

script_is : (i : HostItem) (fs : List Forest) → FineWork fs (work_of i)
script_is (host.Event to e) fs = tt
script_is (host.Advance ms) fs = tt

-- how much an item may make
small : (i : HostItem) (n : ℕ) → IsItem i n → (fs : List Forest) → potential (queue.work_of fs (work_of i)) ≤ 400000
small (host.Event to e) n shape fs = omega arith
small (host.Advance ms) n shape fs = let most : ms / 10 ≤ 6000 = div-le_of_le-mul 10 (omega (arith, shape)) in omega (arith, most)

-- A host whose lives are as they were but for their queues keeps what picks keep.
module _ (old new : Host) (all : new.lives.shared ≡ old.lives.shared) (same : AreSame old.lives.places.items new.lives.places.items) (slots : new.slots ≡ old.slots) where
  pub gives_slots : KeepsSlots old.lives new.lives old.slots.items new.slots.items
  gives_slots = subst (λ s. KeepsSlots old.lives new.lives old.slots.items s.items) (sym slots) (slots_same old.lives new.lives all (are_alike old.lives.places.items new.lives.places.items same) old.slots.items (told_same old.lives.places.items new.lives.places.items same))

-- A host whose lives have the item, and that has counted it.
module _ (i : HostItem) (old new : Host)
    (all : new.lives.shared ≡ old.lives.shared)
    (same_journal : new.lives.journal ≡ old.lives.journal)
    (slots : new.slots ≡ old.slots)
    (over : new.ends ≡ old.ends)
    (libs : new.libs ≡ old.libs)
    (pairs : new.channels ≡ old.channels)
    (counted : new.given ≡ old.given + 1)
    (fed : AreFed (is_for (chains_of old.slots.items) i) (work_of i) 0 old.lives.places.items new.lives.places.items)
    (but_queues : AreSame old.lives.places.items new.lives.places.items)
  where
    seens_new : seens_of new.lives ≡ seens_from old.lives.shared 0 new.lives.places.items
    seens_new = ap (λ (h : Shared). seens_from h 0 new.lives.places.items) all

    images : map image (seens_of new.lives) ≡ map image (seens_of old.lives)
    images = ap (map image) seens_new ∙ images_fed (is_for (chains_of old.slots.items) i) (work_of i) old.lives.shared 0 old.lives.places.items new.lives.places.items fed

    housed_at : homes_of new.lives.places.items ≡ homes_of old.lives.places.items
    housed_at = homes_alike old.lives.places.items new.lives.places.items (are_alike old.lives.places.items new.lives.places.items but_queues)

    pub gives_item : GivesItem i old new
    unfolding seens chains accepts given journal shared told
    gives_item = record {
      dues = ap (map due) seens_new ∙ dues_fed (is_for (chains_of old.slots.items) i) (work_of i) old.lives.shared old i 0 old.lives.places.items new.lives.places.items (work_is i) for_it fed;
      images = images;
      told = told_same old.lives.places.items new.lives.places.items but_queues;
      chains = ap chains_of (ap (λ s. s.items) slots);
      given = counted;
      journal = ap (λ j. j.items) same_journal;
      same = all;
      stays = host_stays old new (gives_slots old new all but_queues slots) pairs libs over;
    }
      where
        for_it : (k : ℕ) (l : Place) → slice_get old.lives.places.items k ≡ Some l → reaches old i (0 + k) ≡ (l.life.accepted && is_for (chains_of old.slots.items) i (0 + k))
        for_it k l at =
            let e : k ≡ 0 + k = omega arith in
            subst (λ (n : ℕ). reaches old i n ≡ (l.life.accepted && is_for (chains_of old.slots.items) i n)) e (ap (λ (b : Bool). b && is_for (chains_of old.slots.items) i k) (accepts_at old.lives.places.items k l at))

    module _ (whole : IsWhole old) (few_told : sum_of (told_of old.lives.places.items) ≤ 5120) (room : old.given < 4096) (shape : IsItem i (length (chains_of old.slots.items))) where
      many : swaps new ≡ swaps old
      unfolding ends
      many = ap (λ e. length e.items) over

      told_here : sum_of (told_of new.lives.places.items) ≡ sum_of (told_of old.lives.places.items)
      told_here = ap sum_of (told_same old.lives.places.items new.lives.places.items but_queues)

      rest_still : Rest (chains_of old.slots.items) (seens_of new.lives)
      rest_still v s out at =
          let e : v ≡ 0 + v = omega arith in
          let none : is_for (chains_of old.slots.items) i (0 + v) ≡ false = subst (λ (n : ℕ). is_for (chains_of old.slots.items) i n ≡ false) e (not_for (homes_of old.lives.places.items) (16 + swaps old) v (chains_of old.slots.items) i whole.slots.chains shape out) in
          whole.slots.rest v s out (sym (other_fed (is_for (chains_of old.slots.items) i) (work_of i) old.lives.shared 0 v old.lives.places.items new.lives.places.items fed none) ∙ (sym (ap (λ (ss : List Seen). slice_get ss v) seens_new) ∙ at))

      lives_still : FineLives new.lives
      unfolding told
      lives_still =
          let much = small i (length (chains_of old.slots.items)) shape in
          record {
            places = length_fed (is_for (chains_of old.slots.items) i) (work_of i) 0 old.lives.places.items new.lives.places.items fed ∙ whole.slots.lives.places;
            fine = subst (λ (h : Shared). FinePlaces h 0 new.lives.places.items) (sym all)
                (places_fed (is_for (chains_of old.slots.items) i) (work_of i) old.lives.shared 0 (most_after old.given + sum_of (told_of old.lives.places.items)) old.lives.places.items new.lives.places.items (script_is i) (λ fs. let e = much fs in omega (arith, e, room, few_told)) fed whole.room whole.slots.lives.fine);
            short = subst (λ j. length j.items ≤ 65536) (sym same_journal) whole.slots.lives.short;
          }

      room_still : FewLives (most_after new.given + sum_of (told_of new.lives.places.items)) new.lives
      unfolding told
      room_still =
          let much = small i (length (chains_of old.slots.items)) shape in
          let after : ℕ = most_after new.given + sum_of (told_of new.lives.places.items) in
          subst (λ (h : Shared). FewPlaces h after 0 new.lives.places.items) (sym all)
          (counts_fed (is_for (chains_of old.slots.items) i) (work_of i) old.lives.shared 0 (most_after old.given + sum_of (told_of old.lives.places.items)) after old.lives.places.items new.lives.places.items (λ fs. let e = much fs in omega (arith, e, counted, told_here)) fed whole.room)

      pub gives_whole : IsWhole new
      unfolding accepts ends fuels told
      gives_whole = record {
        slots = record {
          lives = lives_still;
          slots = subst (λ s. length s.items ≤ 16) (sym slots) whole.slots.slots;
          few = subst (λ n. 16 + n ≤ 20) (sym many) whole.slots.few;
          chains = subst (λ s. Chains (homes_of new.lives.places.items) (16 + swaps new) 0 (chains_of s.items)) (sym slots)
              (subst (λ hs. Chains hs (16 + swaps new) 0 (chains_of old.slots.items)) (sym housed_at)
              (subst (λ n. Chains (homes_of old.lives.places.items) (16 + n) 0 (chains_of old.slots.items)) (sym many) whole.slots.chains));
          unspent = subst (λ n. Unspent (16 + n) (seens_of new.lives)) (sym many) (unspent_given (16 + swaps old) (seens_of old.lives) (seens_of new.lives) images whole.slots.unspent);
          joined = subst (λ j. AllJoined j.items (seens_of new.lives)) (sym same_journal) (joined_given old.lives.journal.items (seens_of old.lives) (seens_of new.lives) images whole.slots.joined);
          rest = subst (λ s. Rest (chains_of s.items) (seens_of new.lives)) (sym slots) rest_still;
        };
        room = room_still;
        raws = subst (λ (h : Shared). HaveRaws h.store h.page) (sym all) whole.raws;
        told = λ v n at. whole.told v n (ap (λ ns. slice_get ns v) (sym (told_same old.lives.places.items new.lives.places.items but_queues)) ∙ at);
        given = omega (arith, counted, room);
        swaps = subst (λ n. n ≤ 4) (sym many) whole.swaps;
        fuels = λ w n at. whole.fuels w n (ap (λ ns. slice_get ns w) (ap (λ s. map (λ (x : Slot). x.fuel) s.items) (sym slots)) ∙ at);
        free = λ v past.
            let f = whole.free v (subst (λ n. 16 + n ≤ v) many past) in
            (ap (λ flags. slice_index_or flags v false) (accepts_alike old.lives.places.items new.lives.places.items (are_alike old.lives.places.items new.lives.places.items but_queues)) ∙ f.0, ap (λ ns. slice_index_or ns v body) (roots_alike old.lives.places.items new.lives.places.items (are_alike old.lives.places.items new.lives.places.items but_queues)) ∙ f.1, ap (λ ns. slice_index_or ns v 0) (told_same old.lives.places.items new.lives.places.items but_queues) ∙ f.2);
      }
