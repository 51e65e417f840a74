use Rattle.std.proofs.Common.{◌≡◌, ◌<◌, ap, length, map, subst, sym, ◌∙◌}
use Rattle.reach_cert.specs.Certs.{cert_lines, slot_of}
use Rattle.reach_cert.specs.Shape.{IsCert, slot_name}
use Rattle.reach_cert.specs.Walks.{IsConfined}
use Rattle.slot_reach.specs.Lasts.{reached}
use Rattle.slot_reach.proofs.Confining.{read_is, slots_are, slots_stay}
use Rattle.slot_reach.proofs.Counting.{few_lines, names_are, shaped}
use Rattle.slot_reach.proofs.slots.reach.Goals as goal

pub returns-clause-read : goal.returns-clause-read
returns-clause-read c =
    read_is c.args.lives.now c.args.slots.now _ _ _ _ c.in_ok-blocks.ensures c.deref.ensures.value c.in_ok-names.ensures c.in_ok-count.ensures

pub returns-clause-states : goal.returns-clause-states
returns-clause-states c own stand =
    let lives = c.args.lives.now in
    let slots = c.args.slots.now in
    let read : map slot_of c.in_ok-blocks.blocks.items ≡ reached lives slots =
    read_is lives slots _ _ _ _ c.in_ok-blocks.ensures c.deref.ensures.value c.in_ok-names.ensures c.in_ok-count.ensures in
    read ∙ slots_are lives slots c.own_stays.ensures own stand c.states_are_read.ensures c.in_ok-names_all_differ.ensures

pub returns-clause-confined : goal.returns-clause-confined
returns-clause-confined c own stand =
    let lives = c.args.lives.now in
    let slots = c.args.slots.now in
    let read : map slot_of c.in_ok-blocks.blocks.items ≡ reached lives slots =
    read_is lives slots _ _ _ _ c.in_ok-blocks.ensures c.deref.ensures.value c.in_ok-names.ensures c.in_ok-count.ensures in
    subst IsConfined (sym read) ((c.each_slot_keeps_in.ensures (reached lives slots)).1 (slots_stay lives slots c.own_stays.ensures own stand))

pub returns-clause-names : goal.returns-clause-names
returns-clause-names c =
    let lives = c.args.lives.now in
    let slots = c.args.slots.now in
    let read : map slot_of c.in_ok-blocks.blocks.items ≡ reached lives slots =
    read_is lives slots _ _ _ _ c.in_ok-blocks.ensures c.deref.ensures.value c.in_ok-names.ensures c.in_ok-count.ensures in
    ap (map slot_name) read ∙ names_are lives slots

pub returns-clause-few : goal.returns-clause-few
returns-clause-few c stand few =
    let lives = c.args.lives.now in
    let slots = c.args.slots.now in
    let read : map slot_of c.in_ok-blocks.blocks.items ≡ reached lives slots =
    read_is lives slots _ _ _ _ c.in_ok-blocks.ensures c.deref.ensures.value c.in_ok-names.ensures c.in_ok-count.ensures in
    subst (λ cert. length (cert_lines cert) < 4294967295) (sym read) (few_lines lives slots c.cells_are_few.ensures stand few)

pub returns-clause-shape : goal.returns-clause-shape
returns-clause-shape c own stand few named =
    let lives = c.args.lives.now in
    let slots = c.args.slots.now in
    let read : map slot_of c.in_ok-blocks.blocks.items ≡ reached lives slots =
    read_is lives slots _ _ _ _ c.in_ok-blocks.ensures c.deref.ensures.value c.in_ok-names.ensures c.in_ok-count.ensures in
    let confined = (c.each_slot_keeps_in.ensures (reached lives slots)).1 (slots_stay lives slots c.own_stays.ensures own stand) in
    subst IsCert (sym read) (shaped lives slots c.confined_has_shape.ensures confined (few_lines lives slots c.cells_are_few.ensures stand few) few named)
