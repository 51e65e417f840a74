use Rattle.std.proofs.Common.{subst}
use Rattle.std.proofs.lemmas.Result.{on_err_weaker, on_ok_weaker}
use Rattle.page_output.specs.Printing.{Prints, PrintsPart}
use Rattle.widget_host.specs.Housed.{IsHoused, accepts, chains, rooted}
use Rattle.widget_host.proofs.Printed.{laid_shows}
use Rattle.widget_host.proofs.Shown.{ends_shown}
use Rattle.widget_host.proofs.Stands.{laid_rooted}
use Rattle.widget_host.proofs.host.Host.print_page.Goals as goal

pub print-requires : goal.print-requires
print-requires c = c.args.self.now.lives.shared.page.arena.sound.some

pub returns-clause-ok : goal.returns-clause-ok
unfolding IsHoused accepts chains
returns-clause-ok c =
    let h = c.args.self.now in
    on_ok_weaker c.print.result (λ printed housed names pieces ends laid shown.
    subst (λ t. Prints t c.args.out.now.items c.print.new.out.items)
    (laid_shows h.lives.shared.page names (rooted (accepts h) (chains h)) pieces ends (laid_rooted h housed.0 names pieces laid) (ends_shown h (chains h) ends shown)) printed) c.print.ensures.ok

pub returns-clause-part : goal.returns-clause-part
unfolding IsHoused accepts chains
returns-clause-part c =
    let h = c.args.self.now in
    on_err_weaker c.print.result (λ printed housed names pieces ends laid shown.
    subst (λ t. PrintsPart t c.args.out.now.items c.print.new.out.items)
    (laid_shows h.lives.shared.page names (rooted (accepts h) (chains h)) pieces ends (laid_rooted h housed.0 names pieces laid) (ends_shown h (chains h) ends shown)) printed) c.print.ensures.part
