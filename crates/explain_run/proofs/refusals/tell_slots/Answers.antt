use Rattle.slot_check.specs.Verdicts.{sources_of}
use Rattle.explain_run.proofs.Telling.{no_texts, texts_next, texts_all}
use Rattle.explain_run.proofs.refusals.tell_slots.Goals as goal

pub slots-init : goal.slots-init
slots-init c = record { texts = no_texts c.new-bytes.result.items c.new-bytes.ensures.items; judged = c.in_ok-judged.ensures }

pub slots-preserved : goal.slots-preserved
slots-preserved c = record {
  texts = texts_next (sources_of c.args.libs.now) c.args.names.now c.args.files.now c.requires.paired c.slots.i c.index-names-i.result c.index-files-i.result c.slots.refused c.in_ok-broken.broken c.either-refused.result c.slots.bytes.items c.tell_slot.new.out.items c.slots-test.true c.index-names-i.is c.index-files-i.is c.slots.invariant.texts c.in_ok-broken.ensures.text c.either-refused.ensures;
  judged = c.in_ok-broken.ensures.judged;
}

pub returns : goal.returns
returns c = record {
  text = c.slots.bytes.items;
  are = texts_all (sources_of c.args.libs.now) c.args.names.now c.args.files.now c.requires.paired c.slots.i c.slots.refused c.slots.bytes.items c.slots-test.false c.slots.invariant.texts;
  whole = c.in_ok-push_last.ensures;
}
