use Rattle.page_check.proofs.Slotted.{runs_content, widget_loadable}
use Rattle.page_check.proofs.contents.runs.Goals as goal

pub returns-clause-content : goal.returns-clause-content
returns-clause-content c scripts = runs_content scripts c.args.later.now.places.items c.args.widget c.in_ok-libs.libs.items c.deref.result.now c.deref-2.result.now c.in_ok-libs.ensures.places c.deref.ensures.value c.deref-2.ensures.value

pub returns-clause-loadable : goal.returns-clause-loadable
returns-clause-loadable c slot scripts keeps is = widget_loadable scripts c.args.later.now.places.items slot c.args.widget keeps is c.in_ok-libs.libs.items c.deref.result.now c.deref-2.result.now c.in_ok-libs.ensures.places c.deref.ensures.value c.deref-2.ensures.value c.in_ok-libs.ensures.few
