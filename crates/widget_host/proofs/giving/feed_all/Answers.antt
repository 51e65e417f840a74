use Rattle.std.proofs.Common.{◌≡◌, ◌+◌, ◌<◌, ℕ, List, Some, arith, length, nat_eq, refl, subst, sym, take}
use Rattle.std.specs.Prelude.{slice_get}
use Rattle.std.specs.List.{list_any}
use Rattle.std.proofs.lemmas.Option.{slice_get_read}
use Rattle.slot_picks.specs.life.Work.TheVariants as work
use Rattle.life_laws.specs.Chains.{last_life}
use Rattle.slot_picks.specs.Lives.{chains_of}
use Rattle.slot_picks.specs.Places.{homes_of}
use Rattle.widget_host.specs.Feeding.{AreFed}
use Rattle.widget_host.proofs.Fed.{all_fed, length_fed, no_slot_fed, same_here, same_then, slot_fed}
use Rattle.widget_host.proofs.Lasts.{last_there, slot_chain}
use Rattle.widget_host.proofs.giving.feed_all.Goals as goal

pub slots-init : goal.slots-init
slots-init c = record { fed = no_slot_fed (work.Advance c.args.ms) c.args.slots.now c.args.places.now.items; same = same_here c.args.places.now.items }

pub feed_last-requires-clause-some : goal.feed_last-requires-clause-some
feed_last-requires-clause-some c =
    let at : slice_get c.args.slots.now c.slots.slot-index ≡ Some c.slot-item.result = slice_get_read c.args.slots.now (length c.args.slots.now) c.slots.slot-index c.slot-item.result refl c.slots-test.true c.slot-item.is in
    subst (λ (vs : List ℕ). 0 < length vs) (sym c.deref.ensures.value)
    (slot_chain (homes_of c.args.places.now.items) c.requires.born.0 0 c.slots.slot-index c.args.slots.now c.slot-item.result at c.requires.born.2).some

pub feed_last-requires-clause-there : goal.feed_last-requires-clause-there
feed_last-requires-clause-there c =
    let at : slice_get c.args.slots.now c.slots.slot-index ≡ Some c.slot-item.result = slice_get_read c.args.slots.now (length c.args.slots.now) c.slots.slot-index c.slot-item.result refl c.slots-test.true c.slot-item.is in
    let chain = slot_chain (homes_of c.args.places.now.items) c.requires.born.0 0 c.slots.slot-index c.args.slots.now c.slot-item.result at c.requires.born.2 in
    let long : length c.slots.places.items ≡ length c.args.places.now.items = length_fed (λ v. list_any (λ c'. nat_eq (last_life c') v) (take c.slots.slot-index (chains_of c.args.slots.now))) (work.Advance c.args.ms) 0 c.args.places.now.items c.slots.places.items c.slots.invariant.fed in
    subst (λ (vs : List ℕ). last_life vs < length c.slots.places.items) (sym c.deref.ensures.value)
    (last_there (homes_of c.args.places.now.items) c.requires.born.0 (0 + c.slots.slot-index) (length c.slots.places.items) c.slot-item.result.lives.items chain (omega (arith, long, c.requires.born.1)))

pub slots-preserved : goal.slots-preserved
slots-preserved c =
    let at : slice_get c.args.slots.now c.slots.slot-index ≡ Some c.slot-item.result = slice_get_read c.args.slots.now (length c.args.slots.now) c.slots.slot-index c.slot-item.result refl c.slots-test.true c.slot-item.is in
    record {
      fed = slot_fed (work.Advance c.args.ms) (homes_of c.args.places.now.items) c.requires.born.0 c.slots.slot-index c.args.slots.now c.slot-item.result c.args.places.now.items c.slots.places.items c.feed_last.new.places.items at c.requires.born.2 c.slots.invariant.fed
          (subst (λ (vs : List ℕ). AreFed (nat_eq (last_life vs)) (work.Advance c.args.ms) 0 c.slots.places.items c.feed_last.new.places.items) c.deref.ensures.value c.in_ok-feed_last.ensures.fed);
      same = same_then c.args.places.now.items c.slots.places.items c.feed_last.new.places.items c.slots.invariant.same c.feed_last.ensures.same;
    }

pub returns-in_err-feed_last-clause-same : goal.returns-in_err-feed_last-clause-same
returns-in_err-feed_last-clause-same c = same_then c.args.places.now.items c.slots.places.items c.feed_last.new.places.items c.slots.invariant.same c.feed_last.ensures.same

pub returns-clause-fed : goal.returns-clause-fed
returns-clause-fed c = all_fed (work.Advance c.args.ms) c.slots.slot-index c.args.slots.now c.args.places.now.items c.slots.places.items (omega (arith, c.slots-test.false)) c.slots.invariant.fed
