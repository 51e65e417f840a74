use Rattle.js_names.proofs.Placed.{place_more}
use Rattle.js_names.proofs.gathering.last_places.Goals as goal

pub params-preserved : goal.params-preserved
params-preserved c = λ x.
    place_more c.args.params.now c.params.i c.index-params-i.result c.in_ok-share.field-0 x _ _ c.params-test.true c.index-params-i.is c.in_ok-share.ensures (c.params.invariant x) (c.in_ok-insert.ensures.updates.0 x)
