use Rattle.js_image.specs.Plans.{meant_fault}
use Rattle.js_image.proofs.Faults.{fault_new}
use Rattle.js_image.proofs.making.make_fault.Goals as goal

pub make-requires-clause-held : goal.make-requires-clause-held
make-requires-clause-held c =
    let h = c.host-proto.ensures in
    fault_new c.args.w c.args.store.now.cells c.lawful.ensures c.host-proto.result h.place h.within h.object h.unbunched h.chain h.born (meant_fault c.args.fault) c.in_ok-pairs.pairs.items c.in_ok-pairs.ensures

pub returns-clause-kept : goal.returns-clause-kept
returns-clause-kept c = λ fs. c.make.ensures.kept fs tt
