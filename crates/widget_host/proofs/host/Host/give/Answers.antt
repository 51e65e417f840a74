use Rattle.std.proofs.Common.{◌≡◌, ◌≤◌, ◌+◌, ◌∙◌, ℕ, List, ap, arith, false, length, refl, subst, sym, true}
use Rattle.std.proofs.lemmas.List.{length-map}
use Rattle.life_laws.specs.Chains.{Chains}
use Rattle.slot_picks.specs.declared.slots.Slot.{Slot}
use Rattle.slot_picks.specs.Lives.{chains_of}
use Rattle.slot_picks.specs.declared.lives.Place.{Place}
use Rattle.slot_picks.specs.Places.{homes_of, told_of}
use Rattle.slot_picks.specs.Feeding.{sum_of}
use Rattle.slot_picks.proofs.Seen.{images_alike}
use Rattle.widget_host.specs.declared.host.Host.{Host}
use Rattle.widget_host.specs.Feeding.{AreFed, work_of}
use Rattle.widget_host.specs.Housed.{IsHoused, IsItem, IsWhole, chains, given, is_for, journal, marked, seens, shared, swaps, told}
use Rattle.widget_host.proofs.Alike.{are_alike}
use Rattle.widget_host.proofs.Fed.{told_same}
use Rattle.widget_host.proofs.Given.{gives_item, gives_slots, gives_whole}
use Rattle.widget_host.proofs.Staying.{apart_stays, host_here, host_stays}
use Rattle.widget_host.proofs.Whole.{sum_few}
use Rattle.widget_host.proofs.host.Host.give.Goals as goal

pub returns-then-self-clause-mark : goal.returns-then-self-clause-mark
unfolding marked
returns-then-self-clause-mark c = c.if-self.true

pub returns-then-self-clause-stays : goal.returns-then-self-clause-stays
returns-then-self-clause-stays c = host_here c.args.self.now

pub feed_item-requires-clause-shape : goal.feed_item-requires-clause-shape
unfolding chains
feed_item-requires-clause-shape c =
    let same : length (chains_of c.args.self.now.slots.items) ≡ length c.deref.result.now = length-map c.args.self.now.slots.items (λ (s : Slot). s.lives.items) ∙ ap length (sym c.deref.ensures.value) in
    subst (λ (n : ℕ). IsItem c.args.item n) same c.requires.shape

pub feed_item-requires-clause-born : goal.feed_item-requires-clause-born
unfolding IsHoused marked
feed_item-requires-clause-born c =
    let whole : IsWhole c.args.self.now = c.requires.housed.1 c.if-self.false in (
      16 + swaps c.args.self.now,
      omega (arith, whole.slots.few, whole.slots.lives.places),
      subst (λ (ss : List Slot). Chains (homes_of c.args.self.now.lives.places.items) (16 + swaps c.args.self.now) 0 (chains_of ss)) (sym c.deref.ensures.value) whole.slots.chains,
    )

pub overflow_add-self : goal.overflow_add-self
unfolding given
overflow_add-self c = omega (arith, c.requires.room)

pub returns-in-Ok-clause-gives : goal.returns-in-Ok-clause-gives
returns-in-Ok-clause-gives c =
    let old = c.args.self.now in
    gives_item c.args.item old _ refl refl refl refl refl refl refl
    (subst (λ (ss : List Slot). AreFed (is_for (chains_of ss) c.args.item) (work_of c.args.item) 0 old.lives.places.items c.feed_item.new.places.items) c.deref.ensures.value c.in-Ok.ensures.fed) c.in-Ok.ensures.same

pub returns-in-Ok-clause-stays : goal.returns-in-Ok-clause-stays
returns-in-Ok-clause-stays c =
    let old = c.args.self.now in
    let new : Host = record old { lives = record old.lives { places = c.feed_item.new.places }; given = old.given + 1 } in
    host_stays old new (gives_slots old new refl c.in-Ok.ensures.same refl) refl refl refl

pub returns-in-Ok-clause-housed : goal.returns-in-Ok-clause-housed
unfolding IsHoused marked chains given told
returns-in-Ok-clause-housed c =
    let old = c.args.self.now in
    let new : Host = record old { lives = record old.lives { places = c.feed_item.new.places }; given = old.given + 1 } in
    let whole : IsWhole old = c.requires.housed.1 c.if-self.false in
    let twenty : length (told_of old.lives.places.items) ≡ 20 = length-map old.lives.places.items (λ (p : Place). p.told) ∙ whole.slots.lives.places in
    let sum = sum_few (told_of old.lives.places.items) whole.told in
    let few_told : sum_of (told_of old.lives.places.items) ≤ 5120 = omega (arith, twenty, sum) in (
      apart_stays old new (gives_slots old new refl c.in-Ok.ensures.same refl) c.requires.housed.0,
      λ unmarked. gives_whole c.args.item old new refl refl refl refl refl refl refl
          (subst (λ (ss : List Slot). AreFed (is_for (chains_of ss) c.args.item) (work_of c.args.item) 0 old.lives.places.items c.feed_item.new.places.items) c.deref.ensures.value c.in-Ok.ensures.fed) c.in-Ok.ensures.same
          whole few_told c.requires.room c.requires.shape,
    )

pub returns-in-Ok-clause-marked : goal.returns-in-Ok-clause-marked
unfolding marked
returns-in-Ok-clause-marked c = λ is. absurd (let both : true ≡ false = sym is ∙ c.if-self.false in cc)

pub returns-in-Ok-clause-unmarked : goal.returns-in-Ok-clause-unmarked
unfolding marked
returns-in-Ok-clause-unmarked c = c.if-self.false

pub returns-in-Err-clause-stays : goal.returns-in-Err-clause-stays
returns-in-Err-clause-stays c =
    let old = c.args.self.now in
    let new : Host = record old { lives = record old.lives { places = c.feed_item.new.places }; marked = true } in
    host_stays old new (gives_slots old new refl c.feed_item.ensures.same refl) refl refl refl

pub returns-in-Err-clause-housed : goal.returns-in-Err-clause-housed
unfolding IsHoused marked
returns-in-Err-clause-housed c =
    let old = c.args.self.now in
    let new : Host = record old { lives = record old.lives { places = c.feed_item.new.places }; marked = true } in (
      apart_stays old new (gives_slots old new refl c.feed_item.ensures.same refl) c.requires.housed.0,
      λ unmarked. absurd (let both : true ≡ false = unmarked in cc),
    )

pub returns-in-Err-clause-marked : goal.returns-in-Err-clause-marked
unfolding marked
returns-in-Err-clause-marked c = λ is. absurd (let both : true ≡ false = sym is ∙ c.if-self.false in cc)

pub returns-in-Err-clause-mark : goal.returns-in-Err-clause-mark
unfolding marked
returns-in-Err-clause-mark c = refl

pub returns-in-Ok-clause-images : goal.returns-in-Ok-clause-images
unfolding seens
returns-in-Ok-clause-images c = images_alike c.args.self.now.lives.shared 0 c.args.self.now.lives.places.items c.feed_item.new.places.items (are_alike c.args.self.now.lives.places.items c.feed_item.new.places.items c.in-Ok.ensures.same)

pub returns-in-Ok-clause-told : goal.returns-in-Ok-clause-told
unfolding told
returns-in-Ok-clause-told c = told_same c.args.self.now.lives.places.items c.feed_item.new.places.items c.in-Ok.ensures.same

pub returns-in-Ok-clause-chains : goal.returns-in-Ok-clause-chains
unfolding chains
returns-in-Ok-clause-chains c = refl

pub returns-in-Ok-clause-journal : goal.returns-in-Ok-clause-journal
unfolding journal
returns-in-Ok-clause-journal c = refl

pub returns-in-Ok-clause-same : goal.returns-in-Ok-clause-same
unfolding shared
returns-in-Ok-clause-same c = refl

pub returns-in-Err-clause-images : goal.returns-in-Err-clause-images
unfolding seens
returns-in-Err-clause-images c = images_alike c.args.self.now.lives.shared 0 c.args.self.now.lives.places.items c.feed_item.new.places.items (are_alike c.args.self.now.lives.places.items c.feed_item.new.places.items c.feed_item.ensures.same)

pub returns-in-Err-clause-told : goal.returns-in-Err-clause-told
unfolding told
returns-in-Err-clause-told c = told_same c.args.self.now.lives.places.items c.feed_item.new.places.items c.feed_item.ensures.same

pub returns-in-Err-clause-chains : goal.returns-in-Err-clause-chains
unfolding chains
returns-in-Err-clause-chains c = refl

pub returns-in-Err-clause-journal : goal.returns-in-Err-clause-journal
unfolding journal
returns-in-Err-clause-journal c = refl

pub returns-in-Err-clause-same : goal.returns-in-Err-clause-same
unfolding shared
returns-in-Err-clause-same c = refl
