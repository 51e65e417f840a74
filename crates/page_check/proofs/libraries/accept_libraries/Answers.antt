use Rattle.std.proofs.Common.{◌≡◌, length, arith}
use Rattle.slot_check.specs.Verdicts.{sources_of}
use Rattle.page_check.proofs.Libs.{kept_all, kept_more, none_clean, none_kept}
use Rattle.page_check.proofs.libraries.accept_libraries.Goals as goal

pub libs-init : goal.libs-init
libs-init c = record {
  judged = c.in_ok-judged.ensures;
  kept = none_kept c.new-accepted.result.items c.new-places.result.items c.new-places.ensures.items;
  clean = none_clean c.new-accepted.result.items c.new-accepted.ensures.items;
}

pub libs-preserved : goal.libs-preserved
libs-preserved c =
    let inv = c.libs.invariant in
    let is = c.in_ok-one.ensures.accepted in
    let place : c.len-in-libs.result ≡ length c.libs.accepted.items = omega (arith, c.len-in-libs.ensures, c.libs.accepted.ok.0) in
    record {
      judged = c.in_ok-one.ensures.judged;
      kept = kept_more (sources_of c.args.libs.now) c.libs.at c.in_ok-one.one c.libs.accepted.items c.keep.new.accepted.items c.libs.places.items c.push.new.self.items c.len-in-libs.result is inv.kept c.in_ok-keep.ensures place c.in_ok-push.ensures.items;
      clean = (c.in_ok-keep.ensures is.lib.bytes is.is).clean inv.clean;
    }

pub returns-clause-kept : goal.returns-clause-kept
returns-clause-kept c = record {
  each = kept_all c.libs.accepted.items c.args.libs.now c.libs.at c.libs.places.items (omega (arith, c.libs-test.false)) c.libs.invariant.kept;
  clean = c.libs.invariant.clean;
}
