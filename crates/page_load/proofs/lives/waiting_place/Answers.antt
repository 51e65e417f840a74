use Rattle.std.proofs.Common.{◌∙◌, ap, arith, length, refl}
use Rattle.std.proofs.lemmas.List.{length_push}
use Rattle.js_names.specs.declared.code.Code.{Code}
use Rattle.page_load.proofs.Growing.{place_ready}
use Rattle.page_load.proofs.lives.waiting_place.Goals as goal

pub load_turns-requires : goal.load_turns-requires
load_turns-requires c =
    let long = length_push c.args.scripts.libs.items c.args.scripts.script in
    omega (arith, ap (length {A = Code}) (c.deref.ensures.value ∙ c.in_ok-codes.ensures), long)

pub returns-clause-slot : goal.returns-clause-slot
returns-clause-slot c = record { slot = c.in_ok-life.ensures.slot; told = refl }

pub returns-clause-ready : goal.returns-clause-ready
returns-clause-ready c =
    place_ready c.args.w c.args.fuel c.args.scripts c.in_ok-codes.codes c.deref.result.now c.deref.ensures.value c.in_ok-codes.ensures c.in_ok-queue.ensures.few c.in_ok-queue.queue.items c.in_ok-queue.ensures.queued c.in_ok-life.life c.in_ok-life.ensures.new c.in_ok-life.ensures.queue 0 0
