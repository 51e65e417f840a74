use Rattle.std.proofs.Common.{ap, ◌∙◌}
use Rattle.code_units.specs.Utf8.{units_of}
use Rattle.slot_check.proofs.Judging.{none_known, keys_more, known_more}
use Rattle.slot_check.proofs.libraries.Libraries.new.Goals as goal

pub libs-init : goal.libs-init
libs-init c = record { keyed = c.new-keys.ensures.items; known = none_known c.new-known.result.items c.new-known.ensures.items }

pub libs-preserved : goal.libs-preserved
libs-preserved c = record {
  keyed = keys_more c.args.libs.now c.libs.lib-index c.lib-item.result c.libs.keys.items c.push.new.self.items c.in_ok-from_str.field-0 c.libs-test.true c.lib-item.is c.libs.invariant.keyed (c.in_ok-from_str.ensures ∙ ap units_of c.as_str.ensures.value) c.in_ok-push.ensures.items;
  known = known_more c.args.libs.now c.libs.lib-index c.lib-item.result c.libs.known.items c.push-in-libs.new.self.items c.libs-test.true c.lib-item.is c.libs.invariant.known c.in_ok-push-2.ensures.items;
}
