use Rattle.std.proofs.Common.{sym, ◌∙◌}
use Rattle.live_text.specs.declared.entry.Entry.{Entry}
use Rattle.page_live.specs.Page.{told_at}
use Rattle.page_live.proofs.Entering.{kept_line, renewed_by}
use Rattle.page_live.proofs.entries.renew_one.Goals as goal

pub returns-then-same : goal.returns-then-same
returns-then-same c = λ pieces owns own shows at.
    kept_line (told_at c.args.page.now.findings c.args.w) own c.args.looks c.args.entry.now c.in_ok-line.line.items c.if-not-looks.true
    (sym c.deref.ensures.value ∙ c.same.ensures.yes c.if-same.true ∙ c.deref-then-not-looks.ensures.value) (c.in_ok-line.ensures pieces owns own shows at)

pub returns : goal.returns
returns c = λ pieces owns own shows at.
    let new : Entry = record { line = c.in_ok-line.line; root = c.in_ok-root.root } in
    renewed_by (told_at c.args.page.now.findings c.args.w) own c.args.looks c.args.entry.now new c.replace.new.old c.replace.result
    (record { line = c.in_ok-line.ensures pieces owns own shows at; root = c.in_ok-root.ensures pieces owns own shows at }) c.replace.ensures.other c.replace.ensures.same
