use Rattle.std.proofs.Common.{map}
use Rattle.js_names.specs.Code.{tree_in}
use Rattle.page_load.proofs.Growing.{libraries_all, libraries_step}
use Rattle.page_load.proofs.codes.libraries_at.Goals as goal

pub places-preserved : goal.places-preserved
places-preserved c = libraries_step (map tree_in c.args.libs.now) c.args.places.now c.places.place-index _ c.places.codes.items c.push.new.self.items c.in_ok-library_at.field-0 c.places-test.true c.places.invariant c.in_ok-library_at.ensures c.in_ok-push.ensures.items

pub returns : goal.returns
returns c = libraries_all (map tree_in c.args.libs.now) c.args.places.now c.places.place-index c.places.codes.items c.places-test.false c.places.invariant
