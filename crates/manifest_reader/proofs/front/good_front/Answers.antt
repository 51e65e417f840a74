use Rattle.std.proofs.Common.{rules}
use Rattle.std.specs.Result.{IsErrOf}
use Rattle.manifest_reader.specs.declared.html.HtmlFault.TheVariants as fault
use Rattle.manifest_reader.proofs.HtmlLemmas.{no_html_yet}
use Rattle.manifest_reader.proofs.LoopLemmas.{texts, value_more, value_stops}
use Rattle.manifest_reader.proofs.front.good_front.Goals as goal

pub page-init : goal.page-init
page-init c = no_html_yet (texts c.args.page.now)

pub returns-in-Err-Bad : goal.returns-in-Err-Bad
returns-in-Err-Bad c =
    let here : IsErrOf c.room_behind.result fault.Bad = search rules in
    value_stops c.args.page.now c.page.place c.index-page-place.result c.page.room c.page-test.true c.index-page-place.is c.page.invariant (c.room_behind.ensures.bad here)

pub page-preserved : goal.page-preserved
page-preserved c =
    value_more c.args.page.now c.page.place c.index-page-place.result c.page.room c.in-Ok.left c.page-test.true c.index-page-place.is c.page.invariant c.in-Ok.ensures.room
