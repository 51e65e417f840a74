use Rattle.page_load.proofs.Objects.{is_prototype, lib_is, lib_kept, one_is}
use Rattle.page_load.proofs.lives.make_lib.Goals as goal

pub make-requires-clause-fit : goal.make-requires-clause-fit
make-requires-clause-fit c = is_prototype c.args.store.now.cells c.host-proto.result c.host-proto.ensures.object c.host-proto.ensures.unbunched c.host-proto.ensures.chain c.host-proto.ensures.born

pub returns-in-Ok-clause-lib : goal.returns-in-Ok-clause-lib
returns-in-Ok-clause-lib c =
    let p = c.host-proto.ensures in
    lib_is c.args.w c.args.store.now c.make.new.self c.lawful.ensures c.host-proto.result c.in-Ok.cell p.place p.within (is_prototype c.args.store.now.cells c.host-proto.result p.object p.unbunched p.chain p.born) c.requires.nothing c.in-Ok.ensures.ok c.in-Ok.ensures.own

pub returns-in-Ok-clause-one : goal.returns-in-Ok-clause-one
returns-in-Ok-clause-one c =
    let p = c.host-proto.ensures in
    one_is c.args.w c.args.store.now c.make.new.self c.lawful.ensures c.host-proto.result c.in-Ok.cell p.place p.within (is_prototype c.args.store.now.cells c.host-proto.result p.object p.unbunched p.chain p.born) c.requires.nothing c.in-Ok.ensures.ok c.in-Ok.ensures.own

pub returns-in-Ok-clause-kept : goal.returns-in-Ok-clause-kept
returns-in-Ok-clause-kept c =
    let p = c.host-proto.ensures in
    lib_kept c.args.w c.args.store.now c.make.new.self c.lawful.ensures c.host-proto.result c.in-Ok.cell p.place p.within (is_prototype c.args.store.now.cells c.host-proto.result p.object p.unbunched p.chain p.born) c.requires.nothing c.in-Ok.ensures.ok c.in-Ok.ensures.own c.in-Ok.ensures.grows c.in-Ok.ensures.others
