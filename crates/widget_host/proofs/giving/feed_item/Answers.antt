use Rattle.std.proofs.Common.{◌≡◌, ◌+◌, ◌<◌, ◌∙◌, ℕ, List, Some, ap, length, nat_eq, refl, subst, sym}
use Rattle.std.specs.Prelude.{slice_get}
use Rattle.std.proofs.lemmas.Option.{slice_get_read}
use Rattle.std.proofs.lemmas.Result.{on_ok_weaker}
use Rattle.slot_picks.specs.life.Work.TheVariants as work
use Rattle.life_laws.specs.Chains.{last_life}
use Rattle.slot_picks.specs.declared.slots.Slot.{Slot}
use Rattle.slot_picks.specs.Lives.{chains_of}
use Rattle.slot_picks.specs.Places.{homes_of}
use Rattle.widget_host.specs.declared.items.HostItem.{HostItem}
use Rattle.widget_host.specs.Feeding.{AreFed, work_of}
use Rattle.widget_host.specs.Housed.{IsItem, is_for}
use Rattle.widget_host.proofs.Lasts.{last_of_slot, last_there, slot_chain}
use Rattle.widget_host.proofs.giving.feed_item.Goals as goal

pub feed_last-requires-clause-some : goal.feed_last-requires-clause-some
feed_last-requires-clause-some c =
    let ss = c.args.slots.now in
    let within : c.in-Event.to < length ss = subst (λ (i : HostItem). IsItem i (length ss)) c.in-Event.is c.requires.shape in
    let at : slice_get ss c.in-Event.to ≡ Some c.index-slots-to.result = slice_get_read ss (length ss) c.in-Event.to c.index-slots-to.result refl within c.index-slots-to.is in
    subst (λ (vs : List ℕ). 0 < length vs) (sym (c.deref.ensures.value ∙ ap (λ (s : Slot). s.lives.items) (sym c.index-slots-to.is)))
    (slot_chain (homes_of c.args.places.now.items) c.requires.born.0 0 c.in-Event.to ss c.index-slots-to.result at c.requires.born.2).some

pub feed_last-requires-clause-there : goal.feed_last-requires-clause-there
feed_last-requires-clause-there c =
    let ss = c.args.slots.now in
    let within : c.in-Event.to < length ss = subst (λ (i : HostItem). IsItem i (length ss)) c.in-Event.is c.requires.shape in
    let at : slice_get ss c.in-Event.to ≡ Some c.index-slots-to.result = slice_get_read ss (length ss) c.in-Event.to c.index-slots-to.result refl within c.index-slots-to.is in
    let chain = slot_chain (homes_of c.args.places.now.items) c.requires.born.0 0 c.in-Event.to ss c.index-slots-to.result at c.requires.born.2 in
    subst (λ (vs : List ℕ). last_life vs < length c.args.places.now.items) (sym (c.deref.ensures.value ∙ ap (λ (s : Slot). s.lives.items) (sym c.index-slots-to.is)))
    (last_there (homes_of c.args.places.now.items) c.requires.born.0 (0 + c.in-Event.to) (length c.args.places.now.items) c.index-slots-to.result.lives.items chain c.requires.born.1)

pub returns-in-Event-clause-fed : goal.returns-in-Event-clause-fed
returns-in-Event-clause-fed c =
    let ss = c.args.slots.now in
    let ls = c.args.places.now.items in
    let ms = c.feed_last.new.places.items in
    let within : c.in-Event.to < length ss = subst (λ (i : HostItem). IsItem i (length ss)) c.in-Event.is c.requires.shape in
    let at : slice_get ss c.in-Event.to ≡ Some c.index-slots-to.result = slice_get_read ss (length ss) c.in-Event.to c.index-slots-to.result refl within c.index-slots-to.is in
    let last = ap last_life (c.deref.ensures.value ∙ ap (λ (s : Slot). s.lives.items) (sym c.index-slots-to.is)) ∙ sym (last_of_slot ss c.in-Event.to c.index-slots-to.result at) in
    on_ok_weaker c.feed_last.result (λ f.
    subst (λ (i : HostItem). AreFed (is_for (chains_of ss) i) (work_of i) 0 ls ms) (sym c.in-Event.is)
    (subst (λ (v : ℕ). AreFed (nat_eq v) (work.Event c.in-Event.event) 0 ls ms) last f)) c.feed_last.ensures.fed

pub returns-in-Advance-clause-fed : goal.returns-in-Advance-clause-fed
returns-in-Advance-clause-fed c =
    on_ok_weaker c.feed_all.result (λ f.
    subst (λ (i : HostItem). AreFed (is_for (chains_of c.args.slots.now) i) (work_of i) 0 c.args.places.now.items c.feed_all.new.places.items) (sym c.in-Advance.is) f) c.feed_all.ensures.fed
