use Rattle.std.proofs.Common.{[], None, length, refl, sym, ◌∙◌}
use Rattle.std.specs.Prelude.{slice_index_or}
use Rattle.std.proofs.lemmas.Result.{IfOk-weaker}
use Rattle.trace_text.specs.Report.{line_text}
use Rattle.widget_host.specs.Housed.{chains, present}
use Rattle.page_play.specs.Findings.{found_after}
use Rattle.page_play.proofs.Telling.{last_there, last_accepted, last_kind, last_shown, index_read, refused_told, line_told}
use Rattle.page_play.proofs.reports.last_line.Goals as goal

pub last-requires-clause-even : goal.last-requires-clause-even
last-requires-clause-even c = c.requires.told.2.even

pub line-requires-clause-housed : goal.line-requires-clause-housed
line-requires-clause-housed c = c.requires.told.2.housed

pub line-requires-clause-there : goal.line-requires-clause-there
line-requires-clause-there c = last_there c.args.findings.now c.args.host.now c.requires.told.0 c.requires.told.1 c.requires.told.2 c.args.w c.requires.there

pub line-requires-clause-accepted : goal.line-requires-clause-accepted
line-requires-clause-accepted c = last_accepted c.args.findings.now c.args.host.now c.requires.told.0 c.requires.told.1 c.requires.told.2 c.args.w c.requires.there (sym c.last.ensures ∙ c.in-None.is)

pub returns-in-Some : goal.returns-in-Some
returns-in-Some c =
    let f = c.args.findings.now in
    let name = sym (index_read f.names.items c.args.w c.index-name.result.now [] c.requires.there c.index-name.ensures) in
    IfOk-weaker c.refused_line.result _ _ (λ line e owns before own told at.
    refused_told (slice_index_or f.names.items c.args.w []) c.index-name.result.now None None (found_after f c.args.w (length f.swaps.slots.items)) c.in-Some.refusal own (line_text line) name refl (sym c.last.ensures ∙ c.in-Some.is) e) c.refused_line.ensures

pub returns-in_ok-share-in-None : goal.returns-in_ok-share-in-None
returns-in_ok-share-in-None c = λ owns before own told at.
    let f = c.args.findings.now in
    let h = c.args.host.now in
    let w = c.args.w in
    let name = sym (index_read f.names.items w c.index-name.result.now [] c.requires.there c.index-name.ensures) in
    line_told (slice_index_or f.names.items w []) c.in_ok-share-in-None.field-0 None None (found_after f w (length f.swaps.slots.items)) own _ h (present w (chains h)) c.in_ok-line-in-None.line
    (c.in_ok-share-in-None.ensures ∙ name) refl (sym c.last.ensures ∙ c.in-None.is) (last_kind f h owns before told w own c.requires.there at) (last_shown f h owns before told w own at)
    c.in_ok-line-in-None.ensures.line c.run_text.ensures.whole
