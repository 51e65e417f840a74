use Rattle.std.proofs.Common.{◌≡◌, ◌∙◌, refl, sym, ap, length, map}
use Rattle.std.proofs.lemmas.List.{length-map}
use Rattle.manifest_reader.specs.Page.{part_of}
use Rattle.slot_check.specs.Verdicts.{source_of, sources_of}
use Rattle.page_check.specs.declared.page.JudgedPage.{JudgedPage}
use Rattle.page_check.specs.Runs.{slots_named}
use Rattle.page_check.specs.Judged.{JudgesOver, name_of}
use Rattle.page_check.proofs.Loads.{whole_page, whole_loadable, swaps_loadable, there_within}
use Rattle.page_check.proofs.page.judge_page.Goals as goal

pub judge_slots-requires-clause-paired : goal.judge_slots-requires-clause-paired
judge_slots-requires-clause-paired c = ap (λ es. length (slots_named (map part_of es))) c.deref.ensures.value ∙ c.requires.paired

pub judge_slots-requires-clause-over : goal.judge_slots-requires-clause-over
judge_slots-requires-clause-over c = (c.in_ok-all.all.accepted.items, record { judged = c.in_ok-all.ensures.judged; kept = c.in_ok-all.ensures.kept })

pub judge_swaps-requires-clause-there : goal.judge_swaps-requires-clause-there
judge_swaps-requires-clause-there c =
    let named : map name_of c.in_ok-slots.slots.slots.items ≡ slots_named (map part_of c.args.manifest.entries.items) = c.in_ok-slots.ensures.names ∙ ap (λ es. slots_named (map part_of es)) c.deref.ensures.value in
    let many : length c.args.files.now ≡ length c.deref-2.result.now = sym c.requires.paired ∙ sym (ap length named) ∙ length-map c.in_ok-slots.slots.slots.items name_of ∙ sym (ap length c.deref-2.ensures.value) in
    there_within c.args.swap_slots.now (length c.args.files.now) (length c.deref-2.result.now) many c.requires.there

pub judge_swaps-requires-clause-over : goal.judge_swaps-requires-clause-over
judge_swaps-requires-clause-over c =
    let scripts = c.in_ok-all.all.accepted.items in
    let over : JudgesOver (sources_of c.args.libs.now) scripts c.in_ok-all.all.later = record { judged = c.in_ok-all.ensures.judged; kept = c.in_ok-all.ensures.kept } in
    (scripts, c.in_ok-slots.ensures.stays scripts over)

pub returns-clause-page : goal.returns-clause-page
returns-clause-page c =
    let scripts = c.in_ok-all.all.accepted.items in
    let over : JudgesOver (sources_of c.args.libs.now) scripts c.in_ok-all.all.later = record { judged = c.in_ok-all.ensures.judged; kept = c.in_ok-all.ensures.kept } in
    whole_page c.args.manifest (sources_of c.args.libs.now) (sources_of c.args.files.now) scripts _ c.in_ok-slots.slots.slots.items (c.in_ok-slots.ensures.names ∙ ap (λ es. slots_named (map part_of es)) c.deref.ensures.value) c.requires.fit (c.requires.paired ∙ sym (length-map c.args.files.now source_of)) over.kept.clean refl refl (c.in_ok-slots.ensures.slots scripts over) (c.in_ok-slots.ensures.loadable scripts over) c.in_ok-pieces_of.ensures
    c.args.swap_slots.now (sources_of c.args.swap_files.now) (rw c.deref-2.ensures.value at (c.in_ok-swaps.ensures.judged scripts (c.in_ok-slots.ensures.stays scripts over)))

pub returns-clause-loadable : goal.returns-clause-loadable
returns-clause-loadable c =
    let scripts = c.in_ok-all.all.accepted.items in
    let over : JudgesOver (sources_of c.args.libs.now) scripts c.in_ok-all.all.later = record { judged = c.in_ok-all.ensures.judged; kept = c.in_ok-all.ensures.kept } in
    let page : JudgedPage = record { spec = record { pieces = c.in_ok-pieces_of.field-0; libs = c.in_ok-all.all.accepted; slots = c.in_ok-slots.slots.slots; channels = c.args.manifest.channels }; refusals = c.in_ok-slots.slots.refusals; swaps = c.in_ok-swaps.swaps; later = c.judge_swaps.new.later } in
    whole_loadable c.args.manifest (sources_of c.args.libs.now) (sources_of c.args.files.now) scripts page c.in_ok-slots.slots.slots.items (c.in_ok-slots.ensures.names ∙ ap (λ es. slots_named (map part_of es)) c.deref.ensures.value) c.requires.fit (c.requires.paired ∙ sym (length-map c.args.files.now source_of)) over.kept.clean refl refl (c.in_ok-slots.ensures.slots scripts over) (c.in_ok-slots.ensures.loadable scripts over) c.in_ok-pieces_of.ensures

pub returns-clause-swaps : goal.returns-clause-swaps
returns-clause-swaps c =
    let scripts = c.in_ok-all.all.accepted.items in
    let over : JudgesOver (sources_of c.args.libs.now) scripts c.in_ok-all.all.later = record { judged = c.in_ok-all.ensures.judged; kept = c.in_ok-all.ensures.kept } in
    let page : JudgedPage = record { spec = record { pieces = c.in_ok-pieces_of.field-0; libs = c.in_ok-all.all.accepted; slots = c.in_ok-slots.slots.slots; channels = c.args.manifest.channels }; refusals = c.in_ok-slots.slots.refusals; swaps = c.in_ok-swaps.swaps; later = c.judge_swaps.new.later } in
    swaps_loadable c.args.manifest (sources_of c.args.libs.now) (sources_of c.args.files.now) scripts page c.in_ok-slots.slots.slots.items (c.in_ok-slots.ensures.names ∙ ap (λ es. slots_named (map part_of es)) c.deref.ensures.value) c.requires.fit (c.requires.paired ∙ sym (length-map c.args.files.now source_of)) over.kept.clean refl refl (c.in_ok-slots.ensures.slots scripts over) (c.in_ok-slots.ensures.loadable scripts over) c.in_ok-pieces_of.ensures
    c.args.swap_slots.now (rw c.deref-2.ensures.value at (c.in_ok-swaps.ensures.loadable scripts (c.in_ok-slots.ensures.stays scripts over)))

pub returns-clause-later : goal.returns-clause-later
returns-clause-later c =
    let scripts = c.in_ok-all.all.accepted.items in
    c.in_ok-swaps.ensures.stays scripts (c.in_ok-slots.ensures.stays scripts (record { judged = c.in_ok-all.ensures.judged; kept = c.in_ok-all.ensures.kept }))
