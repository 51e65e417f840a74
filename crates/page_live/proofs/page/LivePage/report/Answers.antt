use Rattle.std.proofs.Common.{[], map}
use Rattle.page_live.proofs.Showing.{alive_told, live_laid, live_report, live_told, reported_as}
use Rattle.slot_lives.specs.Ends.{end_of}
use Rattle.page_live.proofs.page.LivePage.report.Goals as goal

pub report_of-requires : goal.report_of-requires
report_of-requires c = record { told = alive_told c.args.self.now c.requires.alive }

pub returns-clause-live : goal.returns-clause-live
returns-clause-live c = λ parts pairs runs files items l.
    live_report parts pairs runs files items c.args.self.now l c.in_ok-bytes.bytes.items
    (c.in_ok-bytes.ensures (map end_of l.live.fed) (map end_of l.live.out) _ _ (live_told parts pairs runs files items c.args.self.now l) (live_laid parts pairs runs files items c.args.self.now l))

pub returns-clause-replayed : goal.returns-clause-replayed
returns-clause-replayed c = λ parts runs files items l.
    reported_as parts runs files items c.args.self.now l c.in_ok-bytes.bytes.items
    (c.in_ok-bytes.ensures (map end_of l.live.fed) (map end_of l.live.out) _ _ (live_told parts [] runs files items c.args.self.now l) (live_laid parts [] runs files items c.args.self.now l))
