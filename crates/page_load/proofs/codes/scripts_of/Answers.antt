use Rattle.std.proofs.Common.{map, subst}
use Rattle.js_names.specs.Code.{tree_in}
use Rattle.page_load.specs.Starts.{AreScriptsAt}
use Rattle.page_load.proofs.Growing.{no_scripts, scripts_are}
use Rattle.page_load.proofs.codes.scripts_of.Goals as goal

pub returns-in-Runs : goal.returns-in-Runs
returns-in-Runs c =
    let ts = map tree_in c.args.libs.now in
    let s = c.in_ok-scripts-in-Runs.scripts in
    scripts_are ts c.args.content c.in-Runs.body c.in-Runs.places c.in-Runs.script s c.in-Runs.is
    (subst (λ ns. AreScriptsAt ts ns c.in-Runs.script s) c.deref.ensures.value c.in_ok-scripts-in-Runs.ensures)

pub returns : goal.returns
returns c = no_scripts (map tree_in c.args.libs.now) c.args.content c.in-Refused.is
