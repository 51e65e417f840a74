use Rattle.std.proofs.Common.{sym, ap, subst, arith}
use Rattle.std.specs.Prelude.{OnOk}
use Rattle.life_laws.specs.Life.{potential}
use Rattle.life_queue.specs.declared.life.Work.{Work}
use Rattle.life_queue.specs.Lives.{trees_in, work_of}
use Rattle.life_queue.specs.Fine.{FineWork}
use Rattle.life_queue.specs.Taken.{Takes}
use Rattle.life_queue.proofs.queue.take_work.Goals as goal

pub take_library-requires-clause-script : goal.take_library-requires-clause-script
take_library-requires-clause-script c = subst (FineWork (trees_in c.args.shared.now)) c.in-Library.is c.requires.script

pub take_library-requires-clause-room : goal.take_library-requires-clause-room
take_library-requires-clause-room c =
    let e = ap (λ (i : Work). potential (work_of (trees_in c.args.shared.now) i)) c.in-Library.is in
    omega (arith, e, c.requires.room)

pub returns-in-Library-clause-taken : goal.returns-in-Library-clause-taken
returns-in-Library-clause-taken c =
    subst (λ (i : Work). OnOk c.take_library.result (Takes c.args.shared.now c.take_library.new.shared c.args.id.index i c.args.life.now c.take_library.new.life)) (sym c.in-Library.is) c.take_library.ensures.taken

pub take_go-requires-clause-script : goal.take_go-requires-clause-script
take_go-requires-clause-script c = subst (FineWork (trees_in c.args.shared.now)) c.in-Go.is c.requires.script

pub take_go-requires-clause-room : goal.take_go-requires-clause-room
take_go-requires-clause-room c =
    let e = ap (λ (i : Work). potential (work_of (trees_in c.args.shared.now) i)) c.in-Go.is in
    omega (arith, e, c.requires.room)

pub returns-in-Go-clause-taken : goal.returns-in-Go-clause-taken
returns-in-Go-clause-taken c =
    subst (λ (i : Work). OnOk c.take_go.result (Takes c.args.shared.now c.take_go.new.shared c.args.id.index i c.args.life.now c.take_go.new.life)) (sym c.in-Go.is) c.take_go.ensures.taken

pub take_event-requires-clause-room : goal.take_event-requires-clause-room
take_event-requires-clause-room c =
    let e = ap (λ (i : Work). potential (work_of (trees_in c.args.shared.now) i)) c.in-Event.is in
    omega (arith, e, c.requires.room)

pub returns-in-Event-clause-taken : goal.returns-in-Event-clause-taken
returns-in-Event-clause-taken c =
    subst (λ (i : Work). OnOk c.take_event.result (Takes c.args.shared.now c.take_event.new.shared c.args.id.index i c.args.life.now c.take_event.new.life)) (sym c.in-Event.is) c.take_event.ensures.taken

pub take_advance-requires-clause-room : goal.take_advance-requires-clause-room
take_advance-requires-clause-room c =
    let e = ap (λ (i : Work). potential (work_of (trees_in c.args.shared.now) i)) c.in-Advance.is in
    omega (arith, e, c.requires.room)

pub returns-in-Advance-clause-taken : goal.returns-in-Advance-clause-taken
returns-in-Advance-clause-taken c =
    subst (λ (i : Work). OnOk c.take_advance.result (Takes c.args.shared.now c.args.shared.now c.args.id.index i c.args.life.now c.take_advance.new.life)) (sym c.in-Advance.is) c.take_advance.ensures.taken

pub take_until-requires-clause-room : goal.take_until-requires-clause-room
take_until-requires-clause-room c =
    let e = ap (λ (i : Work). potential (work_of (trees_in c.args.shared.now) i)) c.in-Until.is in
    omega (arith, e, c.requires.room)

pub returns-in-Until-clause-taken : goal.returns-in-Until-clause-taken
returns-in-Until-clause-taken c =
    subst (λ (i : Work). OnOk c.take_until.result (Takes c.args.shared.now c.args.shared.now c.args.id.index i c.args.life.now c.take_until.new.life)) (sym c.in-Until.is) c.take_until.ensures.taken
