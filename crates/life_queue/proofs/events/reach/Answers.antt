use Rattle.std.proofs.Common.{◌∙◌, arith, true, length, ◌<◌, ◌≡◌}
use Rattle.std.specs.List.{AllByRecursion}
use Rattle.widget_meaning.specs.Dispatch.{dispatch}
use Rattle.widget_meaning.specs.Items.{event_value}
use Rattle.page_image.specs.Image.{number, owns}
use Rattle.native_image.specs.Sound.{IsOwnCell}
use Rattle.life_queue.specs.declared.life.Work.TheVariants as work
use Rattle.life_queue.proofs.Keeps.{fine_paged, keeps_both, keeps_paged, same_life}
use Rattle.life_queue.proofs.Passing.{takes_passed, takes_start}
use Rattle.life_queue.proofs.Rests.{on_ok}
use Rattle.life_queue.proofs.Reached.{at_some, found_near, heard, unheard}
use Rattle.life_queue.proofs.events.reach.Goals as goal

pub set_value-requires-clause-home : goal.set_value-requires-clause-home
set_value-requires-clause-home c = c.requires.fine.sound.holds.home

pub set_value-requires-clause-own : goal.set_value-requires-clause-own
set_value-requires-clause-own c = c.requires.own

pub returns-in_err-set_value-clause-kept : goal.returns-in_err-set_value-clause-kept
returns-in_err-set_value-clause-kept c = keeps_paged c.args.id.index c.args.id.small c.args.shared.now c.set_value.new.page c.args.life.now c.args.life.now c.requires.fine.sound.holds c.set_value.ensures.kept c.set_value.ensures.others c.set_value.ensures.host (same_life c.args.life.now)

pub listeners-requires-clause-home : goal.listeners-requires-clause-home
listeners-requires-clause-home c = (fine_paged c.args.id.index c.args.id.small c.args.shared.now c.set_value.new.page c.args.life.now c.requires.rests c.requires.fine c.set_value.ensures.kept c.set_value.ensures.others).sound.holds.home

pub listeners-requires-clause-own : goal.listeners-requires-clause-own
listeners-requires-clause-own c = c.set_value.ensures.kept.owners c.args.id.index c.args.event.1 ∙ c.requires.own

pub returns-in_err-listeners-clause-kept : goal.returns-in_err-listeners-clause-kept
returns-in_err-listeners-clause-kept c = keeps_paged c.args.id.index c.args.id.small c.args.shared.now c.set_value.new.page c.args.life.now c.args.life.now c.requires.fine.sound.holds c.set_value.ensures.kept c.set_value.ensures.others c.set_value.ensures.host (same_life c.args.life.now)

pub hear_event-requires-clause-fine : goal.hear_event-requires-clause-fine
hear_event-requires-clause-fine c = fine_paged c.args.id.index c.args.id.small c.args.shared.now c.set_value.new.page c.args.life.now c.requires.rests c.requires.fine c.set_value.ensures.kept c.set_value.ensures.others

pub hear_event-requires-clause-own : goal.hear_event-requires-clause-own
hear_event-requires-clause-own c = c.set_value.ensures.kept.owners c.args.id.index c.args.event.1 ∙ c.requires.own

pub hear_event-requires-clause-near : goal.hear_event-requires-clause-near
hear_event-requires-clause-near c =
    let fine = fine_paged c.args.id.index c.args.id.small c.args.shared.now c.set_value.new.page c.args.life.now c.requires.rests c.requires.fine c.set_value.ensures.kept c.set_value.ensures.others in
    found_near c.args.shared.now c.args.id.index c.set_value.new.page c.args.life.now c.set_value.ensures.kept c.args.event.0 c.args.event.1 c.in_ok-set_value.ensures.image
    fine.sound.holds c.requires.live c.requires.leads _ c.in_ok-listeners.ensures.image c.in-Some.at c.in-Some.is

pub hear_event-requires-clause-node : goal.hear_event-requires-clause-node
hear_event-requires-clause-node c =
    let fine = fine_paged c.args.id.index c.args.id.small c.args.shared.now c.set_value.new.page c.args.life.now c.requires.rests c.requires.fine c.set_value.ensures.kept c.set_value.ensures.others in
    (at_some (λ at. (owns c.set_value.new.page c.args.id.index at.0 ≡ true) × AllByRecursion (IsOwnCell c.args.id.index c.args.shared.now.store.cells) at.1.items × (0 < length at.1.items)) _ c.in-Some.at c.in-Some.is (c.in_ok-listeners.ensures.own c.args.shared.now.store fine.sound.holds)).0

pub hear_event-requires-clause-functions : goal.hear_event-requires-clause-functions
hear_event-requires-clause-functions c =
    let fine = fine_paged c.args.id.index c.args.id.small c.args.shared.now c.set_value.new.page c.args.life.now c.requires.rests c.requires.fine c.set_value.ensures.kept c.set_value.ensures.others in
    (at_some (λ at. (owns c.set_value.new.page c.args.id.index at.0 ≡ true) × AllByRecursion (IsOwnCell c.args.id.index c.args.shared.now.store.cells) at.1.items × (0 < length at.1.items)) _ c.in-Some.at c.in-Some.is (c.in_ok-listeners.ensures.own c.args.shared.now.store fine.sound.holds)).1

pub hear_event-requires-clause-some : goal.hear_event-requires-clause-some
hear_event-requires-clause-some c =
    let fine = fine_paged c.args.id.index c.args.id.small c.args.shared.now c.set_value.new.page c.args.life.now c.requires.rests c.requires.fine c.set_value.ensures.kept c.set_value.ensures.others in
    (at_some (λ at. (owns c.set_value.new.page c.args.id.index at.0 ≡ true) × AllByRecursion (IsOwnCell c.args.id.index c.args.shared.now.store.cells) at.1.items × (0 < length at.1.items)) _ c.in-Some.at c.in-Some.is (c.in_ok-listeners.ensures.own c.args.shared.now.store fine.sound.holds)).2

pub returns-in-None-clause-kept : goal.returns-in-None-clause-kept
returns-in-None-clause-kept c = keeps_paged c.args.id.index c.args.id.small c.args.shared.now c.set_value.new.page c.args.life.now c.args.life.now c.requires.fine.sound.holds c.set_value.ensures.kept c.set_value.ensures.others c.set_value.ensures.host (same_life c.args.life.now)

pub returns-in-None-clause-taken : goal.returns-in-None-clause-taken
returns-in-None-clause-taken c =
    let h = c.args.shared.now in
    let a = c.args.life.now in
    let q = c.set_value.new.page in
    let fine = fine_paged c.args.id.index c.args.id.small h q a c.requires.rests c.requires.fine c.set_value.ensures.kept c.set_value.ensures.others in
    takes_passed h (record h { page = q }) c.args.id.index (work.Event c.args.event.0) a a c.requires.rests
    (unheard h c.args.id.index q a c.set_value.ensures.kept c.args.event.0 c.args.event.1 c.in_ok-set_value.ensures.image fine.sound.holds c.requires.live c.requires.leads _ c.in_ok-listeners.ensures.image c.in-None.is)
    fine (omega arith) (omega arith)

pub returns-in-Some-clause-kept : goal.returns-in-Some-clause-kept
returns-in-Some-clause-kept c =
    keeps_both c.args.id.index c.args.shared.now (record c.args.shared.now { page = c.set_value.new.page }) _ c.args.life.now c.args.life.now _
    (keeps_paged c.args.id.index c.args.id.small c.args.shared.now c.set_value.new.page c.args.life.now c.args.life.now c.requires.fine.sound.holds c.set_value.ensures.kept c.set_value.ensures.others c.set_value.ensures.host (same_life c.args.life.now))
    c.hear_event.ensures.kept

pub returns-in-Some-clause-taken : goal.returns-in-Some-clause-taken
returns-in-Some-clause-taken c =
    let h = c.args.shared.now in
    let a = c.args.life.now in
    let q = c.set_value.new.page in
    let fine = fine_paged c.args.id.index c.args.id.small h q a c.requires.rests c.requires.fine c.set_value.ensures.kept c.set_value.ensures.others in
    on_ok c.hear_event.result _ _
    (λ st. takes_start h (record h { page = q }) c.hear_event.new.shared c.args.id.index (work.Event c.args.event.0)
    (dispatch c.args.event.0.kind (number q c.args.id.index c.args.event.1) (event_value c.args.event.0.value) 0) a a c.hear_event.new.life
    (heard h c.args.id.index q a c.set_value.ensures.kept c.args.event.0 c.args.event.1 c.in_ok-set_value.ensures.image fine.sound.holds c.requires.live c.requires.leads _ c.in_ok-listeners.ensures.image c.in-Some.at c.in-Some.is)
    st (omega arith) (omega arith))
    c.hear_event.ensures.starts
