use Rattle.std.proofs.Common.{◌++◌, ap, ◌∙◌}
use Rattle.trace_text.specs.Report.{page_line}
use Rattle.page_play.specs.Findings.{lasts_told, ended_told, lines_of}
use Rattle.page_play.proofs.reports.report_of.Goals as goal

pub push_lasts-requires : goal.push_lasts-requires
push_lasts-requires c = c.requires

pub push_ended-requires : goal.push_ended-requires
push_ended-requires c = c.requires

pub push_page-requires : goal.push_page-requires
push_page-requires c = c.requires.told.2.housed

pub returns : goal.returns
returns c = λ owns before names pieces told laid.
    let f = c.args.findings.now in
    let p = c.in_ok-push_page.ensures names pieces owns laid told.shown in
    record {
      text = p.text;
      printed = p.printed;
      whole = p.appended ∙ ap (λ l. l ++ page_line p.text) (c.in_ok-push_ended.ensures owns before told
          ∙ ap (λ l. l ++ lines_of (ended_told f) before) (c.in_ok-push_lasts.ensures owns before told ∙ ap (λ l. l ++ lines_of (lasts_told f) owns) c.new-bytes.ensures.items));
    }
