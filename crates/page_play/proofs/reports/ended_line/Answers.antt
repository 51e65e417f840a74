use Rattle.std.proofs.Common.{◌≡◌, [], Some, sym, ap, ◌∙◌, arith}
use Rattle.std.specs.Prelude.{slice_index_or}
use Rattle.std.proofs.lemmas.Result.{IfOk-weaker}
use Rattle.trace_text.specs.Report.{line_text, ran_life}
use Rattle.widget_host.specs.Housed.{ends}
use Rattle.page_play.specs.Findings.{found_after, line_of}
use Rattle.page_play.proofs.Telling.{as_read, slot_swapped, end_taken, end_accepted, end_kind, end_retired, read_at, index_read, refused_told, line_told}
use Rattle.page_play.proofs.reports.ended_line.Goals as goal

pub after-requires-clause-even : goal.after-requires-clause-even
after-requires-clause-even c = c.requires.told.2.even

pub retired-requires-clause-housed : goal.retired-requires-clause-housed
retired-requires-clause-housed c = c.requires.told.2.housed

pub retired-requires-clause-given : goal.retired-requires-clause-given
retired-requires-clause-given c = omega (arith, c.requires.there, c.requires.told.2.swaps)

pub retired-requires-clause-taken : goal.retired-requires-clause-taken
retired-requires-clause-taken c = end_taken c.args.findings.now c.args.host.now c.requires.told.0 c.requires.told.1 c.requires.told.2 c.args.i c.requires.there

pub retired-requires-clause-accepted : goal.retired-requires-clause-accepted
retired-requires-clause-accepted c =
    let f = c.args.findings.now in
    let at = read_at f.swaps.slots.items c.args.i c.index-to.result.now c.requires.there c.index-to.ensures in
    end_accepted f c.args.host.now c.requires.told.0 c.requires.told.1 c.requires.told.2 c.args.i c.index-to.result.now at (sym c.after.ensures ∙ c.in-None.is)

pub index-name-requires : goal.index-name-requires
index-name-requires c =
    let f = c.args.findings.now in
    let at = read_at f.swaps.slots.items c.args.i c.index-to.result.now c.requires.there c.index-to.ensures in
    let less = slot_swapped f c.args.host.now c.requires.told.0 c.requires.told.1 c.requires.told.2 c.args.i c.index-to.result.now at in
    omega (arith, less)

pub index-requires : goal.index-requires
index-requires c = omega (arith, c.requires.there, c.requires.told.2.even.positions)

pub after-requires-clause-slot : goal.after-requires-clause-slot
after-requires-clause-slot c =
    let f = c.args.findings.now in
    let at = read_at f.swaps.slots.items c.args.i c.index-to.result.now c.requires.there c.index-to.ensures in
    slot_swapped f c.args.host.now c.requires.told.0 c.requires.told.1 c.requires.told.2 c.args.i c.index-to.result.now at

pub returns-in-Some : goal.returns-in-Some
returns-in-Some c =
    let f = c.args.findings.now in
    let i = c.args.i in
    let to = c.index-to.result.now in
    let here = read_at f.swaps.slots.items i to c.requires.there c.index-to.ensures in
    let less = slot_swapped f c.args.host.now c.requires.told.0 c.requires.told.1 c.requires.told.2 i to here in
    let name = sym (index_read f.names.items to c.index-name.result.now [] less c.index-name.ensures) in
    let until = ap Some (sym (index_read f.swaps.positions.items i c.index.result.now 0 (omega (arith, c.requires.there, c.requires.told.2.even.positions)) c.index.ensures)) in
    IfOk-weaker c.refused_line.result _ _ (λ line e owns before slot own told at is.
    as_read (λ n. line_text line ≡ line_of (slice_index_or f.names.items n []) (Some (slice_index_or f.swaps.positions.items i 0)) (found_after f n i) own) f.swaps.slots.items i to slot here at
    (refused_told (slice_index_or f.names.items to []) c.index-name.result.now (Some (slice_index_or f.swaps.positions.items i 0)) (Some c.index.result.now) (found_after f to i) c.in-Some.refusal own (line_text line) name until (sym c.after.ensures ∙ c.in-Some.is) e)) c.refused_line.ensures

pub returns-in_ok-share-in-None : goal.returns-in_ok-share-in-None
returns-in_ok-share-in-None c = λ owns before slot own told at is.
    let f = c.args.findings.now in
    let h = c.args.host.now in
    let i = c.args.i in
    let to = c.index-to.result.now in
    let here = read_at f.swaps.slots.items i to c.requires.there c.index-to.ensures in
    let less = slot_swapped f h owns before told i to here in
    let name = sym (index_read f.names.items to c.index-name.result.now [] less c.index-name.ensures) in
    let until = ap Some (sym (index_read f.swaps.positions.items i c.index.result.now 0 (omega (arith, c.requires.there, told.even.positions)) c.index.ensures)) in
    as_read (λ n. ran_life c.run_text.result ≡ line_of (slice_index_or f.names.items n []) (Some (slice_index_or f.swaps.positions.items i 0)) (found_after f n i) own) f.swaps.slots.items i to slot here at
    (line_told (slice_index_or f.names.items to []) c.in_ok-share-in-None.field-0 (Some (slice_index_or f.swaps.positions.items i 0)) (Some c.index.result.now) (found_after f to i) own (ran_life c.run_text.result) h (slice_index_or (ends h) i 0) c.in_ok-line-in-None.line
    (c.in_ok-share-in-None.ensures ∙ name) until (sym c.after.ensures ∙ c.in-None.is) (end_kind f h owns before told i to own here is) (end_retired f h owns before told i own is).shown
    c.in_ok-line-in-None.ensures.line c.run_text.ensures.whole)
