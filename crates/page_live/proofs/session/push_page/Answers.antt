use Rattle.std.proofs.Common.{List, ℕ, subst}
use Rattle.page_output.specs.Printing.{Prints}
use Rattle.page_plan.specs.Pages.{page_of, roots}
use Rattle.page_live.proofs.session.push_page.Goals as goal

pub returns : goal.returns
returns c = λ pieces owns shows. record {
  text = c.print_page.new.out.items;
  printed =
      subst (λ (xs : List ℕ). Prints (page_of pieces (roots c.args.page.now.findings.names.items owns)) xs c.print_page.new.out.items) c.new-text.ensures.items
      (c.in_ok-print_page.ensures.ok shows.told.housed c.args.page.now.findings.names.items pieces owns shows.laid shows.told.shown);
  appended = c.in_ok-report_line.ensures.ok;
}
