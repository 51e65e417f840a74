use Rattle.std.proofs.Common.{[]}
use Rattle.js_image.proofs.Grown.{held_stays}
use Rattle.native_image.proofs.Joint.{keeps_of, sound_stays}
use Rattle.turn_dispatch.proofs.Evented.{all_kept, all_sound, event_held, event_made, event_next}
use Rattle.native_image.proofs.Keeping.{store_same, store_then}
use Rattle.turn_dispatch.proofs.events.make_event.Goals as goal

pub returns-in_err-first-clause-kept : goal.returns-in_err-first-clause-kept
returns-in_err-first-clause-kept c = store_same c.args.w.index c.args.store.now

pub returns-in_err-second-clause-kept : goal.returns-in_err-second-clause-kept
returns-in_err-second-clause-kept c = store_same c.args.w.index c.args.store.now

pub returns-in_err-event-clause-sound : goal.returns-in_err-event-clause-sound
returns-in_err-event-clause-sound c = λ l h. sound_stays c.args.w.index c.args.store.now c.make_object.new.store c.args.page.now l h (c.make_object.ensures.kept [])

pub returns-in_err-event-clause-kept : goal.returns-in_err-event-clause-kept
returns-in_err-event-clause-kept c = keeps_of c.args.w.index c.args.store.now c.make_object.new.store (λ fs. c.make_object.ensures.kept fs)

pub returns-in_err-target-clause-sound : goal.returns-in_err-target-clause-sound
returns-in_err-target-clause-sound c = λ l h. c.make_bunch_of.ensures.sound l (sound_stays c.args.w.index c.args.store.now c.make_object.new.store c.args.page.now l h (c.make_object.ensures.kept []))

pub returns-in_err-target-clause-kept : goal.returns-in_err-target-clause-kept
returns-in_err-target-clause-kept c = store_then c.args.w.index c.args.store.now c.make_object.new.store c.make_bunch_of.new.store (keeps_of c.args.w.index c.args.store.now c.make_object.new.store (λ fs. c.make_object.ensures.kept fs)) c.make_bunch_of.ensures.kept

pub returns-in_err-that-clause-sound : goal.returns-in_err-that-clause-sound
returns-in_err-that-clause-sound c = λ l h. c.make_bunch_of-2.ensures.sound l (c.make_bunch_of.ensures.sound l (sound_stays c.args.w.index c.args.store.now c.make_object.new.store c.args.page.now l h (c.make_object.ensures.kept [])))

pub returns-in_err-that-clause-kept : goal.returns-in_err-that-clause-kept
returns-in_err-that-clause-kept c = store_then c.args.w.index c.args.store.now c.make_bunch_of.new.store c.make_bunch_of-2.new.store (store_then c.args.w.index c.args.store.now c.make_object.new.store c.make_bunch_of.new.store (keeps_of c.args.w.index c.args.store.now c.make_object.new.store (λ fs. c.make_object.ensures.kept fs)) c.make_bunch_of.ensures.kept) c.make_bunch_of-2.ensures.kept

pub returns-in_err-fill-clause-sound : goal.returns-in_err-fill-clause-sound
returns-in_err-fill-clause-sound c = λ l h. sound_stays c.args.w.index c.make_bunch_of-2.new.store c.fill.new.store c.args.page.now l (c.make_bunch_of-2.ensures.sound l (c.make_bunch_of.ensures.sound l (sound_stays c.args.w.index c.args.store.now c.make_object.new.store c.args.page.now l h (c.make_object.ensures.kept [])))) (c.fill.ensures.kept [])

pub returns-in_err-fill-clause-kept : goal.returns-in_err-fill-clause-kept
returns-in_err-fill-clause-kept c = store_then c.args.w.index c.args.store.now c.make_bunch_of-2.new.store c.fill.new.store (store_then c.args.w.index c.args.store.now c.make_bunch_of.new.store c.make_bunch_of-2.new.store (store_then c.args.w.index c.args.store.now c.make_object.new.store c.make_bunch_of.new.store (keeps_of c.args.w.index c.args.store.now c.make_object.new.store (λ fs. c.make_object.ensures.kept fs)) c.make_bunch_of.ensures.kept) c.make_bunch_of-2.ensures.kept) (keeps_of c.args.w.index c.make_bunch_of-2.new.store c.fill.new.store (λ fs. c.fill.ensures.kept fs))

pub returns-in_err-fill-2-clause-sound : goal.returns-in_err-fill-2-clause-sound
returns-in_err-fill-2-clause-sound c = λ l h. sound_stays c.args.w.index c.fill.new.store c.fill-2.new.store c.args.page.now l (sound_stays c.args.w.index c.make_bunch_of-2.new.store c.fill.new.store c.args.page.now l (c.make_bunch_of-2.ensures.sound l (c.make_bunch_of.ensures.sound l (sound_stays c.args.w.index c.args.store.now c.make_object.new.store c.args.page.now l h (c.make_object.ensures.kept [])))) (c.fill.ensures.kept [])) (c.fill-2.ensures.kept [])

pub returns-in_err-fill-2-clause-kept : goal.returns-in_err-fill-2-clause-kept
returns-in_err-fill-2-clause-kept c = store_then c.args.w.index c.args.store.now c.fill.new.store c.fill-2.new.store (store_then c.args.w.index c.args.store.now c.make_bunch_of-2.new.store c.fill.new.store (store_then c.args.w.index c.args.store.now c.make_bunch_of.new.store c.make_bunch_of-2.new.store (store_then c.args.w.index c.args.store.now c.make_object.new.store c.make_bunch_of.new.store (keeps_of c.args.w.index c.args.store.now c.make_object.new.store (λ fs. c.make_object.ensures.kept fs)) c.make_bunch_of.ensures.kept) c.make_bunch_of-2.ensures.kept) (keeps_of c.args.w.index c.make_bunch_of-2.new.store c.fill.new.store (λ fs. c.fill.ensures.kept fs))) (keeps_of c.args.w.index c.fill.new.store c.fill-2.new.store (λ fs. c.fill-2.ensures.kept fs))

pub make_bunch_of-requires-clause-sound : goal.make_bunch_of-requires-clause-sound
make_bunch_of-requires-clause-sound c = (c.requires.sound.0, sound_stays c.args.w.index c.args.store.now c.make_object.new.store c.args.page.now c.requires.sound.0 c.requires.sound.1 (c.make_object.ensures.kept []))

pub make_bunch_of-requires-2-clause-sound : goal.make_bunch_of-requires-2-clause-sound
make_bunch_of-requires-2-clause-sound c = (c.requires.sound.0, c.make_bunch_of.ensures.sound c.requires.sound.0 (sound_stays c.args.w.index c.args.store.now c.make_object.new.store c.args.page.now c.requires.sound.0 c.requires.sound.1 (c.make_object.ensures.kept [])))

pub fill-requires-clause-event : goal.fill-requires-clause-event
fill-requires-clause-event c = held_stays c.args.w.index c.make_bunch_of.new.store.cells c.make_bunch_of-2.new.store.cells c.make_bunch_of-2.ensures.kept.grows c.in_ok-event.event (held_stays c.args.w.index c.make_object.new.store.cells c.make_bunch_of.new.store.cells c.make_bunch_of.ensures.kept.grows c.in_ok-event.event c.in_ok-event.ensures.held)

pub fill-requires-clause-bunch : goal.fill-requires-clause-bunch
fill-requires-clause-bunch c = held_stays c.args.w.index c.make_bunch_of.new.store.cells c.make_bunch_of-2.new.store.cells c.make_bunch_of-2.ensures.kept.grows c.in_ok-target.target c.in_ok-target.ensures.held

pub fill-requires-2-clause-event : goal.fill-requires-2-clause-event
fill-requires-2-clause-event c = held_stays c.args.w.index c.make_bunch_of-2.new.store.cells c.fill.new.store.cells (c.fill.ensures.kept []).grows c.in_ok-event.event (held_stays c.args.w.index c.make_bunch_of.new.store.cells c.make_bunch_of-2.new.store.cells c.make_bunch_of-2.ensures.kept.grows c.in_ok-event.event (held_stays c.args.w.index c.make_object.new.store.cells c.make_bunch_of.new.store.cells c.make_bunch_of.ensures.kept.grows c.in_ok-event.event c.in_ok-event.ensures.held))

pub fill-requires-2-clause-bunch : goal.fill-requires-2-clause-bunch
fill-requires-2-clause-bunch c = held_stays c.args.w.index c.make_bunch_of-2.new.store.cells c.fill.new.store.cells (c.fill.ensures.kept []).grows c.in_ok-that.that c.in_ok-that.ensures.held

pub returns-clause-kept : goal.returns-clause-kept
returns-clause-kept c = all_kept c.args.w.index c.args.page.now c.args.dispatch.now.kind c.args.dispatch.now.target c.args.node c.args.dispatch.now.value c.args.store.now c.make_object.new.store c.make_bunch_of.new.store c.make_bunch_of-2.new.store c.fill.new.store c.fill-2.new.store c.in_ok-event.event c.in_ok-target.target c.in_ok-that.that (λ fs. c.make_object.ensures.kept fs) c.make_bunch_of.ensures.kept (λ l h. c.make_bunch_of.ensures.sound l h) c.make_bunch_of-2.ensures.kept (λ l h. c.make_bunch_of-2.ensures.sound l h) (λ fs. c.fill.ensures.kept fs) (λ fs. c.fill-2.ensures.kept fs)

pub returns-clause-sound : goal.returns-clause-sound
returns-clause-sound c = λ l h. all_sound c.args.w.index c.args.page.now c.args.dispatch.now.kind c.args.dispatch.now.target c.args.node c.args.dispatch.now.value c.args.store.now c.make_object.new.store c.make_bunch_of.new.store c.make_bunch_of-2.new.store c.fill.new.store c.fill-2.new.store c.in_ok-event.event c.in_ok-target.target c.in_ok-that.that (λ fs. c.make_object.ensures.kept fs) c.make_bunch_of.ensures.kept (λ l h. c.make_bunch_of.ensures.sound l h) c.make_bunch_of-2.ensures.kept (λ l h. c.make_bunch_of-2.ensures.sound l h) (λ fs. c.fill.ensures.kept fs) (λ fs. c.fill-2.ensures.kept fs) l h

pub returns-clause-held : goal.returns-clause-held
returns-clause-held c = event_held c.args.w.index c.args.page.now c.args.dispatch.now.kind c.args.dispatch.now.target c.args.node c.args.dispatch.now.value c.args.store.now c.make_object.new.store c.make_bunch_of.new.store c.make_bunch_of-2.new.store c.fill.new.store c.fill-2.new.store c.in_ok-event.event c.in_ok-target.target c.in_ok-that.that (λ fs. c.make_object.ensures.kept fs) c.make_bunch_of.ensures.kept (λ l h. c.make_bunch_of.ensures.sound l h) c.make_bunch_of-2.ensures.kept (λ l h. c.make_bunch_of-2.ensures.sound l h) (λ fs. c.fill.ensures.kept fs) (λ fs. c.fill-2.ensures.kept fs) c.in_ok-event.ensures.held

pub returns-clause-next : goal.returns-clause-next
returns-clause-next c = event_next c.args.w.index c.args.page.now c.args.dispatch.now.kind c.args.dispatch.now.target c.args.node c.args.dispatch.now.value c.args.store.now c.make_object.new.store c.make_bunch_of.new.store c.make_bunch_of-2.new.store c.fill.new.store c.fill-2.new.store c.in_ok-event.event c.in_ok-target.target c.in_ok-that.that (λ fs. c.make_object.ensures.kept fs) c.make_bunch_of.ensures.kept (λ l h. c.make_bunch_of.ensures.sound l h) c.make_bunch_of-2.ensures.kept (λ l h. c.make_bunch_of-2.ensures.sound l h) (λ fs. c.fill.ensures.kept fs) (λ fs. c.fill-2.ensures.kept fs) c.in_ok-event.ensures.held (λ q. c.in_ok-event.ensures.next q)

pub returns-clause-born : goal.returns-clause-born
returns-clause-born c = event_made c.args.w.index c.args.page.now c.args.dispatch.now.kind c.args.dispatch.now.target c.args.node c.args.dispatch.now.value c.args.store.now c.make_object.new.store c.make_bunch_of.new.store c.make_bunch_of-2.new.store c.fill.new.store c.fill-2.new.store c.in_ok-event.event c.in_ok-target.target c.in_ok-that.that (λ fs. c.make_object.ensures.kept fs) c.make_bunch_of.ensures.kept (λ l h. c.make_bunch_of.ensures.sound l h) c.make_bunch_of-2.ensures.kept (λ l h. c.make_bunch_of-2.ensures.sound l h) (λ fs. c.fill.ensures.kept fs) (λ fs. c.fill-2.ensures.kept fs) c.in_ok-event.ensures.held (λ q. c.in_ok-event.ensures.next q) (λ q. c.in_ok-event.ensures.born q) c.in_ok-target.ensures.held c.in_ok-target.ensures.next c.in_ok-target.ensures.born c.in_ok-that.ensures.held c.in_ok-that.ensures.next c.in_ok-that.ensures.born c.in_ok-first.first c.in_ok-second.second c.in_ok-first.ensures c.in_ok-second.ensures (λ q fs x l b n ps. c.in_ok-fill.ensures.filled q fs x l b n ps) (λ q fs x l b n ps. c.in_ok-fill-2.ensures.filled q fs x l b n ps)
