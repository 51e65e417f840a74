use Rattle.std.proofs.Common.{refl, map, subst}
use Rattle.js_names.specs.Code.{tree_in}
use Rattle.slot_picks.specs.declared.lives.Place.{Place}
use Rattle.page_load.specs.Starts.{AreScriptsAt}
use Rattle.page_load.proofs.Arriving.{comes_div, comes_life, comes_ok, ready_in, rest_here, seat_none}
use Rattle.page_load.proofs.joining.add_life.Goals as goal

pub returns-in_err-scripts-in-Runs-clause-keeps : goal.returns-in_err-scripts-in-Runs-clause-keeps
returns-in_err-scripts-in-Runs-clause-keeps c = rest_here c.args.coming.v c.args.lives.now c.requires.number c.requires.fine c.requires.free c.requires.raws

pub returns-in_err-place-in-Runs-clause-keeps : goal.returns-in_err-place-in-Runs-clause-keeps
returns-in_err-place-in-Runs-clause-keeps c = rest_here c.args.coming.v c.args.lives.now c.requires.number c.requires.fine c.requires.free c.requires.raws

pub add_accepted-requires-clause-ready : goal.add_accepted-requires-clause-ready
add_accepted-requires-clause-ready c =
    let s = c.in_ok-scripts-in-Runs.scripts in
    (c.args.slot.now.fuel, s, c.requires.fuel, ready_in c.args.coming.v c.args.slot.now.fuel c.args.coming.to s c.in_ok-place-in-Runs.place c.in_ok-place-in-Runs.ensures.ready)

pub returns-in_ok-place-in-Runs-clause-comes : goal.returns-in_ok-place-in-Runs-clause-comes
returns-in_ok-place-in-Runs-clause-comes c =
    let ts = map tree_in c.args.libs.now in
    let s = c.in_ok-scripts-in-Runs.scripts in
    let a = c.in_ok-place-in-Runs.place in
    let b : Place = record a { life = record a.life { slot = c.args.coming.to } } in
    comes_ok c.add_accepted.result
    (comes_life ts c.args.slot.now c.args.coming c.args.lives.now _ c.in-Runs.body c.in-Runs.places c.in-Runs.script s b c.in-Runs.is
    (subst (λ ns. AreScriptsAt ts ns c.in-Runs.script s) c.deref.ensures.value c.in_ok-scripts-in-Runs.ensures)
    (ready_in c.args.coming.v c.args.slot.now.fuel c.args.coming.to s a c.in_ok-place-in-Runs.ensures.ready) (record { slot = refl; told = c.in_ok-place-in-Runs.ensures.slot.told }))
    c.add_accepted.ensures.comes

pub returns-in-Refused-clause-comes : goal.returns-in-Refused-clause-comes
returns-in-Refused-clause-comes c =
    comes_ok c.add_refused.result (comes_div (map tree_in c.args.libs.now) c.args.slot.now c.args.coming c.args.lives.now _ c.in-Refused.is) c.add_refused.ensures.comes

pub returns-in_err-scripts-in-Runs-clause-seat : goal.returns-in_err-scripts-in-Runs-clause-seat
returns-in_err-scripts-in-Runs-clause-seat c = seat_none c.from_residual.result c.args.coming.v c.args.lives.now _ refl

pub returns-in_err-place-in-Runs-clause-seat : goal.returns-in_err-place-in-Runs-clause-seat
returns-in_err-place-in-Runs-clause-seat c = seat_none c.from_residual-in_err-place-in-Runs.result c.args.coming.v c.args.lives.now _ refl
