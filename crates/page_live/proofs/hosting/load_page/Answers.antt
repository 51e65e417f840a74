use Rattle.std.proofs.Common.{[]}
use Rattle.page_play.specs.Given.{begun}
use Rattle.page_live.specs.Living.{loaded}
use Rattle.page_live.proofs.Stirred.{stirred_loaded}
use Rattle.page_live.proofs.Rested.{rested}
use Rattle.page_live.proofs.hosting.load_page.Goals as goal

pub returns : goal.returns
returns c =
    let spec = c.args.spec in
    let old = c.in_ok-host.host in
    let new = c.rounds.new.self in
    let laws = c.loaded_lives.ensures in
    let loads = c.in_ok-host.ensures in
    let st = stirred_loaded spec old loads (laws.last spec old loads) (laws.ended spec old loads) in
    let e = c.in_ok-rounds.ensures in
    let r = e.rounds (begun spec.libs.items spec.slots.items) st.lasts in
    rested spec [] [] old new (begun spec.libs.items spec.slots.items) [] [] st e.chains e.stays r.0 r.1 (λ rounds. loaded rounds) r.2 r.3 (e.retired [] st.ended) e.given e.quiet e.housed e.unmarked
