use Rattle.std.proofs.Common.{sym, ◌∙◌, arith}
use Rattle.std.proofs.lemmas.List.{length-map}
use Rattle.slot_check.specs.Verdicts.{source_of, sources_of}
use Rattle.slot_check.proofs.Named.{no_place, none_named, place_within, clean_more, broken_here}
use Rattle.slot_check.proofs.parts.judge_named.Goals as goal

pub names-init : goal.names-init
names-init c = record { clean = none_named (sources_of c.args.libs.now) c.new-places.result.items c.new-places.ensures.items; judged = c.requires.judged }

pub unreachable-requires : goal.unreachable-requires
unreachable-requires c = no_place c.args.names.now c.args.judged.now.keys.items c.names.judged.keys.items c.names.name-index c.name-item.result c.place.result c.requires.listed c.names-test.true c.name-item.is (c.names.invariant.judged.keyed ∙ sym c.requires.judged.keyed) c.place.ensures c.in_default.is

pub judge-requires-clause-inside : goal.judge-requires-clause-inside
judge-requires-clause-inside c =
    let within = place_within (sources_of c.args.libs.now) c.names.judged.keys.items c.names.invariant.judged.keyed c.name-item.result c.in-Some.place (sym c.place.ensures ∙ c.in-Some.is) in
    omega (arith, within, length-map c.args.libs.now source_of)

pub returns-in_err-judge-clause-broken : goal.returns-in_err-judge-clause-broken
returns-in_err-judge-clause-broken c = broken_here (sources_of c.args.libs.now) c.names.judged.keys.items c.names.invariant.judged.keyed c.name-item.result c.in-Some.place (sym c.place.ensures ∙ c.in-Some.is) c.args.names.now c.names.name-index c.names.places.items c.from_residual.result c.in_err-judge.field-0.0 c.names-test.true c.name-item.is c.names.invariant.clean c.from_residual.ensures.1 c.in_err-judge.ensures.broken

pub names-preserved : goal.names-preserved
names-preserved c = record {
  clean = clean_more (sources_of c.args.libs.now) c.names.judged.keys.items c.names.invariant.judged.keyed c.name-item.result c.in-Some.place (sym c.place.ensures ∙ c.in-Some.is) c.args.names.now c.names.name-index c.names.places.items c.push.new.self.items c.names-test.true c.name-item.is c.in_ok-judge.ensures.clean c.names.invariant.clean c.in_ok-push.ensures.items;
  judged = c.in_ok-judge.ensures.judged;
}
