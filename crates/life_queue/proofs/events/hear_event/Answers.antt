use Rattle.std.proofs.Common.{refl, sym, ◌∙◌, subst}
use Rattle.widget_meaning.specs.Dispatch.{dispatch}
use Rattle.widget_meaning.specs.Items.{event_value}
use Rattle.page_image.specs.Image.{number}
use Rattle.native_image.proofs.Keeping.{host_here, page_same}
use Rattle.life_queue.specs.declared.life.Life.{Life}
use Rattle.life_queue.specs.Lives.{trees_in}
use Rattle.life_queue.specs.Fine.{KeepsLife}
use Rattle.life_queue.specs.Taken.{Starts}
use Rattle.life_queue.proofs.Heard.{heard_so}
use Rattle.life_queue.proofs.Keeps.{cells_stored, keeps_by, keeps_life, same_life}
use Rattle.life_queue.proofs.Passing.{counted, starts}
use Rattle.life_queue.proofs.Scripts.{rested_by}
use Rattle.life_queue.proofs.events.hear_event.Goals as goal

pub returns-in_err-seen_value-clause-kept : goal.returns-in_err-seen_value-clause-kept
returns-in_err-seen_value-clause-kept c = keeps_life c.args.id.index c.args.shared.now c.args.life.now c.args.life.now c.requires.fine.sound.holds (same_life c.args.life.now)

pub hear-requires-clause-sound : goal.hear-requires-clause-sound
hear-requires-clause-sound c = (c.args.life.now.widget.around, c.requires.fine.sound)

pub hear-requires-clause-dispatch : goal.hear-requires-clause-dispatch
hear-requires-clause-dispatch c = record { target = c.requires.own; value = (c.in_ok-seen_value.ensures c.args.id.index c.args.shared.now.store.cells).1 }

pub returns-in_err-heard-clause-kept : goal.returns-in_err-heard-clause-kept
returns-in_err-heard-clause-kept c =
    let h = c.args.shared.now in
    keeps_by c.args.id.index h c.hear.new.store h.page c.args.life.now c.args.life.now (cells_stored (trees_in h) c.args.id.index h.store c.hear.new.store c.hear.ensures.kept) (page_same c.args.id.index h.page) (host_here h.page)
    (c.hear.ensures.sound c.args.life.now.widget.around c.requires.fine.sound).holds (same_life c.args.life.now)

pub returns-in_err-doing-clause-kept : goal.returns-in_err-doing-clause-kept
returns-in_err-doing-clause-kept c =
    let h = c.args.shared.now in
    keeps_by c.args.id.index h c.hear.new.store h.page c.args.life.now c.args.life.now (cells_stored (trees_in h) c.args.id.index h.store c.hear.new.store c.hear.ensures.kept) (page_same c.args.id.index h.page) (host_here h.page)
    (c.hear.ensures.sound c.args.life.now.widget.around c.requires.fine.sound).holds (same_life c.args.life.now)

pub returns-clause-kept : goal.returns-clause-kept
returns-clause-kept c =
    let h = c.args.shared.now in
    subst (λ (b : Life). KeepsLife c.args.id.index h (record h { store = c.hear.new.store }) c.args.life.now b) (sym c.begin.ensures)
    (keeps_by c.args.id.index h c.hear.new.store h.page c.args.life.now _ (cells_stored (trees_in h) c.args.id.index h.store c.hear.new.store c.hear.ensures.kept) (page_same c.args.id.index h.page) (host_here h.page)
    (c.hear.ensures.sound c.args.life.now.widget.around c.requires.fine.sound).holds (record { widget = refl; slot = refl; accepted = refl }))

pub returns-clause-starts : goal.returns-clause-starts
returns-clause-starts c =
    let w = c.args.id.index in
    let h = c.args.shared.now in
    let a = c.args.life.now in
    let new = c.hear.new.store in
    let f = dispatch c.args.event.0.kind (number h.page w c.args.event.1) (event_value c.args.event.0.value) 0 in
    let value = c.in_ok-seen_value.ensures w h.store.cells in
    let opened = c.in_ok-doing.ensures in
    let held = opened.fine (trees_in h) w new h.page c.in_ok-heard.ensures.fine in
    subst (λ (b : Life). Starts h (record h { store = new }) w f a b) (sym c.begin.ensures)
    (starts h w a new h.page f _ _ _ _ refl refl
    (rested_by h w a new c.requires.rests c.requires.fine c.hear.ensures.kept (c.hear.ensures.sound a.widget.around c.requires.fine.sound)) c.requires.room
    (heard_so h w a new c.requires.fine.sound c.args.event.0.kind (number h.page w c.args.event.1) (event_value c.args.event.0.value) _ (number h.page w c.args.at.0) _ c.requires.near value.0 _ c.in_ok-heard.ensures.plan
    ∙ opened.plan (trees_in h) (counted h w a new h.page) w new h.page a.widget.around)
    held.0 held.1)
