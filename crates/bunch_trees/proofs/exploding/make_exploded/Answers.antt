use Rattle.std.proofs.Common.{[], map, length, subst, sym, ap, arith}
use Rattle.std.proofs.lemmas.List.{length-map}
use Rattle.js_image.specs.Held.{AreFine}
use Rattle.js_image.proofs.Grown.{held_stays}
use Rattle.page_image.specs.Image.{number}
use Rattle.native_image.proofs.Joint.{keeps_of, sound_stays}
use Rattle.native_image.proofs.Keeping.{store_then}
use Rattle.native_image.proofs.Meeting.{no_outside}
use Rattle.native_image.specs.Made.{AreBunches}
use Rattle.std.specs.Prelude.{None}
use Rattle.bunch_trees.proofs.Exploded.{as_many, exploded_by, held_by}
use Rattle.bunch_trees.proofs.exploding.make_exploded.Goals as goal

pub make_bunches-requires-clause-sound : goal.make_bunches-requires-clause-sound
make_bunches-requires-clause-sound c = (c.requires.sound.0, sound_stays c.args.w.index c.args.store.now c.empty_array.new.store c.args.page.now c.requires.sound.0 c.requires.sound.1 (c.empty_array.ensures.kept []))

pub make_bunches-requires-clause-own : goal.make_bunches-requires-clause-own
make_bunches-requires-clause-own c = c.requires.nodes.own

pub put_all-requires-clause-held : goal.put_all-requires-clause-held
put_all-requires-clause-held c = held_stays c.args.w.index c.empty_array.new.store.cells c.make_bunches.new.store.cells c.make_bunches.ensures.kept.grows c.in_ok-array.array c.in_ok-array.ensures.held

pub put_all-requires-clause-values : goal.put_all-requires-clause-values
put_all-requires-clause-values c =
    let l = c.requires.sound.0 in
    let held = held_by c.args.w.index c.args.store.now c.empty_array.new.store c.args.page.now l (c.empty_array.ensures.kept []) c.requires.sound.1.holds in
    subst (AreFine c.args.w.index c.make_bunches.new.store.cells) (sym c.deref.ensures.value) (c.in_ok-bunches.ensures.made l held).fine

pub put_all-requires-clause-few : goal.put_all-requires-clause-few
put_all-requires-clause-few c =
    let l = c.requires.sound.0 in
    let w = c.args.w.index in
    let held = held_by w c.args.store.now c.empty_array.new.store c.args.page.now l (c.empty_array.ensures.kept []) c.requires.sound.1.holds in
    let many = as_many w c.make_bunches.new.store.cells c.in_ok-bunches.bunches.items _ (map (number c.args.page.now w) c.args.nodes.now) ((c.in_ok-bunches.ensures.made l held).values [] no_outside None) in
    omega (arith, ap length c.deref.ensures.value, many, length-map c.args.nodes.now (number c.args.page.now w), c.requires.nodes.few)

pub returns-clause-made : goal.returns-clause-made
returns-clause-made c = λ l sound.
    let w = c.args.w.index in
    let p = c.args.page.now in
    let s0 = c.args.store.now in
    let s1 = c.empty_array.new.store in
    let s2 = c.make_bunches.new.store in
    let s3 = c.put_all.new.store in
    let s4 = c.pay_judged_slots.new.store in
    let ns = map (number p w) c.args.nodes.now in
    let held1 = held_by w s0 s1 p l (c.empty_array.ensures.kept []) sound.holds in
    let one = sound_stays w s0 s1 p l sound (c.empty_array.ensures.kept []) in
    let vs = c.deref.result.now in
    let bunches = subst (λ vs. AreBunches w s1 s2 p l ns vs) (sym c.deref.ensures.value) (c.in_ok-bunches.ensures.made l held1) in
    exploded_by w c.args.w.small s0 s1 s2 s3 s4 p l ns c.in_ok-array.array vs sound.holds (c.make_bunches.ensures.sound l one).holds (c.empty_array.ensures.kept []) c.in_ok-array.ensures.made c.in_ok-array.ensures.number c.in_ok-array.ensures.held
    c.make_bunches.ensures.kept bunches (c.put_all.ensures.kept []) c.in_ok-put_all.ensures.done (c.pay_judged_slots.ensures.kept []) c.in_ok-pay_judged_slots.ensures.paid

pub returns-clause-sound : goal.returns-clause-sound
returns-clause-sound c = λ l sound.
    let w = c.args.w.index in
    let p = c.args.page.now in
    let one = sound_stays w c.args.store.now c.empty_array.new.store p l sound (c.empty_array.ensures.kept []) in
    let two = c.make_bunches.ensures.sound l one in
    let three = sound_stays w c.make_bunches.new.store c.put_all.new.store p l two (c.put_all.ensures.kept []) in
    sound_stays w c.put_all.new.store c.pay_judged_slots.new.store p l three (c.pay_judged_slots.ensures.kept [])

pub returns-clause-kept : goal.returns-clause-kept
returns-clause-kept c =
    let w = c.args.w.index in
    let s0 = c.args.store.now in
    let s1 = c.empty_array.new.store in
    let s2 = c.make_bunches.new.store in
    let s3 = c.put_all.new.store in
    let s4 = c.pay_judged_slots.new.store in
    store_then w s0 s3 s4 (store_then w s0 s2 s3 (store_then w s0 s1 s2 (keeps_of w s0 s1 c.empty_array.ensures.kept) c.make_bunches.ensures.kept) (keeps_of w s2 s3 c.put_all.ensures.kept)) (keeps_of w s3 s4 c.pay_judged_slots.ensures.kept)

pub returns-in_err-pay_judged_slots-clause-sound : goal.returns-in_err-pay_judged_slots-clause-sound
returns-in_err-pay_judged_slots-clause-sound c = λ l sound.
    let w = c.args.w.index in
    let p = c.args.page.now in
    let one = sound_stays w c.args.store.now c.empty_array.new.store p l sound (c.empty_array.ensures.kept []) in
    let two = c.make_bunches.ensures.sound l one in
    let three = sound_stays w c.make_bunches.new.store c.put_all.new.store p l two (c.put_all.ensures.kept []) in
    sound_stays w c.put_all.new.store c.pay_judged_slots.new.store p l three (c.pay_judged_slots.ensures.kept [])

pub returns-in_err-pay_judged_slots-clause-kept : goal.returns-in_err-pay_judged_slots-clause-kept
returns-in_err-pay_judged_slots-clause-kept c =
    let w = c.args.w.index in
    let s0 = c.args.store.now in
    let s1 = c.empty_array.new.store in
    let s2 = c.make_bunches.new.store in
    let s3 = c.put_all.new.store in
    let s4 = c.pay_judged_slots.new.store in
    store_then w s0 s3 s4 (store_then w s0 s2 s3 (store_then w s0 s1 s2 (keeps_of w s0 s1 c.empty_array.ensures.kept) c.make_bunches.ensures.kept) (keeps_of w s2 s3 c.put_all.ensures.kept)) (keeps_of w s3 s4 c.pay_judged_slots.ensures.kept)

pub returns-in_err-put_all-clause-sound : goal.returns-in_err-put_all-clause-sound
returns-in_err-put_all-clause-sound c = λ l sound.
    let w = c.args.w.index in
    let p = c.args.page.now in
    let one = sound_stays w c.args.store.now c.empty_array.new.store p l sound (c.empty_array.ensures.kept []) in
    sound_stays w c.make_bunches.new.store c.put_all.new.store p l (c.make_bunches.ensures.sound l one) (c.put_all.ensures.kept [])

pub returns-in_err-put_all-clause-kept : goal.returns-in_err-put_all-clause-kept
returns-in_err-put_all-clause-kept c =
    let w = c.args.w.index in
    let s0 = c.args.store.now in
    let s1 = c.empty_array.new.store in
    let s2 = c.make_bunches.new.store in
    let s3 = c.put_all.new.store in
    store_then w s0 s2 s3 (store_then w s0 s1 s2 (keeps_of w s0 s1 c.empty_array.ensures.kept) c.make_bunches.ensures.kept) (keeps_of w s2 s3 c.put_all.ensures.kept)

pub returns-in_err-bunches-clause-sound : goal.returns-in_err-bunches-clause-sound
returns-in_err-bunches-clause-sound c = λ l sound. c.make_bunches.ensures.sound l (sound_stays c.args.w.index c.args.store.now c.empty_array.new.store c.args.page.now l sound (c.empty_array.ensures.kept []))

pub returns-in_err-bunches-clause-kept : goal.returns-in_err-bunches-clause-kept
returns-in_err-bunches-clause-kept c = store_then c.args.w.index c.args.store.now c.empty_array.new.store c.make_bunches.new.store (keeps_of c.args.w.index c.args.store.now c.empty_array.new.store c.empty_array.ensures.kept) c.make_bunches.ensures.kept

pub returns-in_err-array-clause-sound : goal.returns-in_err-array-clause-sound
returns-in_err-array-clause-sound c = λ l sound. sound_stays c.args.w.index c.args.store.now c.empty_array.new.store c.args.page.now l sound (c.empty_array.ensures.kept [])

pub returns-in_err-array-clause-kept : goal.returns-in_err-array-clause-kept
returns-in_err-array-clause-kept c = keeps_of c.args.w.index c.args.store.now c.empty_array.new.store c.empty_array.ensures.kept
