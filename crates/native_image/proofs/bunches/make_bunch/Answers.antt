use Rattle.native_image.proofs.Nodes.{bunch_kept, bunch_made, bunch_refused, bunch_sound, is_new, same_kept, same_sound}
use Rattle.js_image.proofs.Makes.{makeable, new_held}
use Rattle.object_store.specs.declared.store.NewCell.TheVariants as fresh
use Rattle.native_image.proofs.bunches.make_bunch.Goals as goal

pub make-requires-clause-fit : goal.make-requires-clause-fit
make-requires-clause-fit c = makeable c.args.w.index c.args.store.now.cells (fresh.Bunch c.args.nodes) (is_new c.args.w.index c.args.store.now c.args.page.now c.requires.sound.0 c.requires.sound.1 c.args.nodes c.requires.own c.requires.apart)

pub returns-in-Ok-clause-plan : goal.returns-in-Ok-clause-plan
returns-in-Ok-clause-plan c =
    bunch_made c.args.w.index c.args.w.small c.args.store.now c.make.new.self c.args.page.now c.args.nodes c.requires.own
    (is_new c.args.w.index c.args.store.now c.args.page.now c.requires.sound.0 c.requires.sound.1 c.args.nodes c.requires.own c.requires.apart)
    c.counts-paid.result c.counts-paid.ensures.paid c.counts-paid.ensures.units (c.in-Ok.ensures.grows c.args.w.index) c.in-Ok.id c.in-Ok.ensures.ok c.in-Ok.ensures.own

pub returns-in-Ok-clause-fine : goal.returns-in-Ok-clause-fine
returns-in-Ok-clause-fine c =
    new_held c.args.w.index c.args.store.now c.make.new.self (fresh.Bunch c.args.nodes)
    (is_new c.args.w.index c.args.store.now c.args.page.now c.requires.sound.0 c.requires.sound.1 c.args.nodes c.requires.own c.requires.apart)
    c.in-Ok.id c.in-Ok.ensures.ok

pub returns-in-Ok-clause-sound : goal.returns-in-Ok-clause-sound
returns-in-Ok-clause-sound c =
    bunch_sound c.args.w.index c.args.w.small c.args.store.now c.make.new.self c.args.page.now c.args.nodes c.requires.own
    (is_new c.args.w.index c.args.store.now c.args.page.now c.requires.sound.0 c.requires.sound.1 c.args.nodes c.requires.own c.requires.apart)
    c.in-Ok.id c.in-Ok.ensures.own (c.in-Ok.ensures.grows c.args.w.index)

pub returns-in-Ok-clause-kept : goal.returns-in-Ok-clause-kept
returns-in-Ok-clause-kept c =
    bunch_kept c.args.w.index c.args.w.small c.args.store.now c.make.new.self c.args.page.now c.args.nodes c.requires.own
    (is_new c.args.w.index c.args.store.now c.args.page.now c.requires.sound.0 c.requires.sound.1 c.args.nodes c.requires.own c.requires.apart)
    c.in-Ok.id c.host_stays.ensures.enough c.in-Ok.ensures.ok c.in-Ok.ensures.own c.in-Ok.ensures.grows c.in-Ok.ensures.others

pub returns-in_ok-stop_of-in-Err-clause-plan : goal.returns-in_ok-stop_of-in-Err-clause-plan
returns-in_ok-stop_of-in-Err-clause-plan c =
    bunch_refused c.args.w.index c.args.w.small c.args.store.now c.make.new.self c.args.page.now c.args.nodes c.requires.own
    (is_new c.args.w.index c.args.store.now c.args.page.now c.requires.sound.0 c.requires.sound.1 c.args.nodes c.requires.own c.requires.apart)
    c.counts-paid.result c.counts-paid.ensures.paid c.counts-paid.ensures.units (c.in-Err.ensures.grows c.args.w.index) c.in-Err.fault _ c.in_ok-stop_of-in-Err.ensures c.in-Err.ensures.err c.in-Err.ensures.same

pub returns-in_ok-stop_of-in-Err-clause-sound : goal.returns-in_ok-stop_of-in-Err-clause-sound
returns-in_ok-stop_of-in-Err-clause-sound c = same_sound c.args.w.index c.args.store.now c.make.new.self c.args.page.now c.in-Err.ensures.same

pub returns-in_ok-stop_of-in-Err-clause-kept : goal.returns-in_ok-stop_of-in-Err-clause-kept
returns-in_ok-stop_of-in-Err-clause-kept c = same_kept c.args.w.index c.args.store.now c.make.new.self c.in-Err.ensures.same

pub returns-in_err-stop_of-in-Err-clause-sound : goal.returns-in_err-stop_of-in-Err-clause-sound
returns-in_err-stop_of-in-Err-clause-sound c = same_sound c.args.w.index c.args.store.now c.make.new.self c.args.page.now c.in-Err.ensures.same

pub returns-in_err-stop_of-in-Err-clause-kept : goal.returns-in_err-stop_of-in-Err-clause-kept
returns-in_err-stop_of-in-Err-clause-kept c = same_kept c.args.w.index c.args.store.now c.make.new.self c.in-Err.ensures.same
