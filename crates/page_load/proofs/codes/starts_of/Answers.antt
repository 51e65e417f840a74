use Rattle.std.proofs.Common.{map}
use Rattle.js_names.specs.Code.{tree_in}
use Rattle.page_load.proofs.Growing.{starts_more, starts_none}
use Rattle.page_load.proofs.codes.starts_of.Goals as goal

pub slots-init : goal.slots-init
slots-init c = starts_none (map tree_in c.args.libs.now) c.new-starts.result.items c.new-starts.ensures.items

pub slots-preserved : goal.slots-preserved
slots-preserved c = starts_more (map tree_in c.args.libs.now) c.slots.yielded c.slots.starts.items c.push_back.new.self.items c.in-Some.slot c.in_ok-start_of.field-0 c.slots.invariant c.in_ok-start_of.ensures c.in_ok-push_back.ensures.items
