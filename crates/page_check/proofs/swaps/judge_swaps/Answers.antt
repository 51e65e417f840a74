use Rattle.std.proofs.Common.{◌<◌, length, get_or, refl}
use Rattle.slot_check.specs.Verdicts.{sources_of}
use Rattle.page_check.proofs.Swapped.{no_swaps, none_fit, swaps_more, fit_more, swaps_all, fit_all}
use Rattle.page_check.proofs.swaps.judge_swaps.Goals as goal

pub swaps-init : goal.swaps-init
swaps-init c = record {
  swaps = λ scripts over. no_swaps scripts (sources_of c.args.libs.now) c.args.specs.now c.new-contents.result.items c.new-refusals.result.items c.new-contents.ensures.items c.new-refusals.ensures.items;
  loadable = λ scripts over. none_fit (length scripts) c.args.specs.now c.new-contents.result.items c.new-contents.ensures.items;
  stays = λ scripts over. over;
}

pub judge-requires-clause-over : goal.judge-requires-clause-over
judge-requires-clause-over c = (c.requires.over.0, c.swaps.invariant.stays c.requires.over.0 c.requires.over.1)

pub swaps-preserved : goal.swaps-preserved
swaps-preserved c =
    let i = c.swaps.i in
    let to = get_or c.args.slots.now i 0 in
    let there : to < length c.args.specs.now = c.requires.there i 0 c.swaps-test.true in
    record {
      swaps = λ scripts over. swaps_more c.args.libs.now c.args.specs.now c.args.slots.now c.args.files.now i to c.index-specs-to.result c.index-files-i.result c.requires.paired c.swaps-test.true there refl c.index-specs-to.is c.index-files-i.is scripts c.swaps.contents.items c.push.new.self.items c.swaps.refusals.items c.push-in-swaps.new.self.items c.in_ok-one.one.content c.in_ok-one.one.refusal (c.swaps.invariant.swaps scripts over) (c.in_ok-one.ensures.is scripts (c.swaps.invariant.stays scripts over)) c.in_ok-push.ensures.items c.in_ok-push-2.ensures.items;
      loadable = λ scripts over. fit_more c.args.libs.now c.args.specs.now c.args.slots.now c.args.files.now i to c.index-specs-to.result c.index-files-i.result c.requires.paired c.swaps-test.true there refl c.index-specs-to.is c.index-files-i.is (length scripts) c.swaps.contents.items c.push.new.self.items c.in_ok-one.one.content (c.swaps.invariant.loadable scripts over) (c.in_ok-one.ensures.loadable scripts (c.swaps.invariant.stays scripts over)) c.in_ok-push.ensures.items;
      stays = λ scripts over. c.in_ok-one.ensures.stays scripts (c.swaps.invariant.stays scripts over);
    }

pub returns-clause-judged : goal.returns-clause-judged
returns-clause-judged c = λ scripts over. swaps_all scripts (sources_of c.args.libs.now) c.args.specs.now c.args.slots.now c.args.files.now c.swaps.i c.swaps.contents.items c.swaps.refusals.items c.requires.paired c.swaps-test.false (c.swaps.invariant.swaps scripts over)

pub returns-clause-loadable : goal.returns-clause-loadable
returns-clause-loadable c = λ scripts over. fit_all (length scripts) c.args.specs.now c.args.slots.now c.swaps.i c.swaps.contents.items c.swaps-test.false (c.swaps.invariant.loadable scripts over)

pub returns-clause-stays : goal.returns-clause-stays
returns-clause-stays c = c.swaps.invariant.stays
