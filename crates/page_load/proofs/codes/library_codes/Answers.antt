use Rattle.page_load.proofs.Growing.{trees_more}
use Rattle.page_load.proofs.codes.library_codes.Goals as goal

pub libs-preserved : goal.libs-preserved
libs-preserved c = trees_more c.libs.yielded c.libs.codes.items c.push.new.self.items c.in-Some.lib c.in_ok-code_of.field-0 c.libs.invariant c.in_ok-code_of.ensures c.in_ok-push.ensures.items
