use Rattle.std.proofs.Common.{◌∙◌}
use Rattle.js_image.proofs.Called.{callee_parts}
use Rattle.js_image.proofs.calling.callee_at.Goals as goal

pub returns : goal.returns
returns c = c.callee_by.ensures ∙ callee_parts c.args.store.now.cells c.args.cell c.requires c.function_of-parts.result c.native_of-native.result c.function_of-parts.ensures c.native_of-native.ensures
