use Rattle.std.proofs.Common.{refl, arith}
use Rattle.live_lines.proofs.Beginning.{first_room, ran_cut, ran_on, ran_small, says_first, stands_first}
use Rattle.live_lines.proofs.Endings.{ends_after, ends_small, ends_unwritten}
use Rattle.live_lines.proofs.living.run.Goals as goal

pub begin-requires : goal.begin-requires
begin-requires g c = record { alive = c.requires.alive }

pub returns-in_default-clause-ran : goal.returns-in_default-clause-ran
returns-in_default-clause-ran g c = ran_small g.F.Files.told g.F.Files.calm g.F.Files.faults (g.L.Lines.left c.args.lines.now) c.args.page c.args.files.now c.args.files.now (g.S.Sink.held c.args.sink.now)

pub returns-in_default-clause-ends : goal.returns-in_default-clause-ends
returns-in_default-clause-ends g c = ends_small _ _ _ _ _ (omega arith)

pub returns-in_default-clause-told : goal.returns-in_default-clause-told
returns-in_default-clause-told g c = refl

pub returns-in_default-write_whole-clause-ran : goal.returns-in_default-write_whole-clause-ran
returns-in_default-write_whole-clause-ran g c =
    ran_cut g.F.Files.told g.F.Files.calm g.F.Files.faults c.args.page c.in-Ok.session c.deref.result.now (says_first c.args.page c.in-Ok.session _ _ _ c.new-out.ensures.items c.deref.ensures.value c.in-Ok.ensures.first)
    (g.L.Lines.left c.args.lines.now) c.args.files.now c.args.files.now (g.S.Sink.held c.args.sink.now) _ c.in_default-write_whole.ensures.part

pub returns-in_default-write_whole-clause-ends : goal.returns-in_default-write_whole-clause-ends
returns-in_default-write_whole-clause-ends g c = ends_unwritten _ _ _ _ _ c.write_whole.ensures.count c.in_default-write_whole.ensures.cause

pub returns-in_default-write_whole-clause-told : goal.returns-in_default-write_whole-clause-told
returns-in_default-write_whole-clause-told g c = refl

pub serve-requires-clause-stands : goal.serve-requires-clause-stands
serve-requires-clause-stands g c = stands_first c.args.page c.in-Ok.session c.requires.alive c.in-Ok.ensures.page c.in-Ok.ensures.many

pub serve-requires-clause-room : goal.serve-requires-clause-room
serve-requires-clause-room g c = let e = first_room c.args.page c.in-Ok.session c.in-Ok.ensures.page c.requires.first in omega (arith, e)

pub returns-clause-ran : goal.returns-clause-ran
returns-clause-ran g c =
    ran_on g.F.Files.told g.F.Files.calm g.F.Files.faults c.args.page c.in-Ok.session c.deref.result.now (says_first c.args.page c.in-Ok.session _ _ _ c.new-out.ensures.items c.deref.ensures.value c.in-Ok.ensures.first) c.in-Ok.ensures.page c.in-Ok.ensures.many
    (g.L.Lines.left c.args.lines.now) c.args.files.now c.serve.new.files (g.S.Sink.held c.args.sink.now) (g.S.Sink.held c.write_whole.new.sink) _ c.serve.result c.in-Ok-write_whole.ensures.whole c.serve.ensures.served

pub returns-clause-ends : goal.returns-clause-ends
returns-clause-ends g c = ends_after _ _ _ _ _ _ c.serve.result c.write_whole.ensures.count c.serve.ensures.ends

pub returns-clause-told : goal.returns-clause-told
returns-clause-told g c = c.serve.ensures.told
