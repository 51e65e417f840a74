use Rattle.std.proofs.lemmas.Result.{IfOk-weaker}
use Rattle.page_live.specs.Page.{told_at}
use Rattle.page_live.proofs.Entering.{line_entry}
use Rattle.page_live.proofs.entries.entry_line.Goals as goal

pub last_line-requires-clause-told : goal.last_line-requires-clause-told
last_line-requires-clause-told c = let s = c.requires.showing in (s.owns, s.shows.before, s.shows.told)

pub returns : goal.returns
returns c = IfOk-weaker c.line_object.result _ _ (λ bytes is pieces owns own shows at.
    line_entry (told_at c.args.page.now.findings c.args.w) own c.in_ok-line.line bytes.items is (c.object_of_line.ensures c.in_ok-line.line) (c.in_ok-line.ensures owns shows.before own shows.told at)) c.line_object.ensures
