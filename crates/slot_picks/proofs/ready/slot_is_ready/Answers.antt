use Rattle.std.proofs.Common.{◌≡◌, ◌<◌, length, refl, Some, arith}
use Rattle.std.specs.Prelude.{slice_get}
use Rattle.std.proofs.lemmas.Option.{slice_get_read}
use Rattle.slot_picks.specs.Places.{seen_at, seens_from}
use Rattle.slot_picks.proofs.Others.{seens_at}
use Rattle.slot_picks.proofs.Settles.{head_each, many_ready, single_ready}
use Rattle.slot_picks.proofs.ready.slot_is_ready.Goals as goal

pub bounds-places-v : goal.bounds-places-v
bounds-places-v c = head_each (λ u. u < length c.args.places.now) c.args.slot.now c.present-v.result c.present-v.ensures c.requires.there

pub returns-then-slot-gt1 : goal.returns-then-slot-gt1
returns-then-slot-gt1 c = λ h. many_ready (seens_from h 0 c.args.places.now) c.args.slot.now c.if-slot-gt1.true

pub returns : goal.returns
returns c = λ h.
    let ls = c.args.places.now in
    let v = c.present-v.result in
    let within : v < length ls = head_each (λ u. u < length ls) c.args.slot.now v c.present-v.ensures c.requires.there in
    let at : slice_get ls v ≡ Some c.index-places-v.result = slice_get_read ls (length ls) v c.index-places-v.result refl within c.index-places-v.is in
    single_ready (seens_from h 0 ls) c.args.slot.now v (seen_at h v c.index-places-v.result) c.is_ready.result c.present-v.ensures (omega (arith, c.if-slot-gt1.false)) (seens_at h 0 v v ls c.index-places-v.result (omega arith) at) (c.is_ready.ensures h v)
