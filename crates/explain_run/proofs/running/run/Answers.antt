use Rattle.run_steps.specs.Page.{texts}
use Rattle.explain_run.proofs.Answering.{wrote, not_written, not_memory}
use Rattle.explain_run.proofs.running.run.Goals as goal

pub returns-in-Ok-write_whole-clause-answer : goal.returns-in-Ok-write_whole-clause-answer
returns-in-Ok-write_whole-clause-answer g c = λ is. wrote (texts c.args.words.now) (g.F.Files.told c.args.files.now) c.in-Ok.text.status c.in-Ok.text.bytes.items c.deref.result.now (g.S.Sink.held c.args.sink.now) (g.S.Sink.held c.write_whole.new.sink) c.deref.ensures.value is c.in-Ok.ensures.answer c.in-Ok-write_whole.ensures.whole

pub returns-in-Ok-write_whole-clause-write : goal.returns-in-Ok-write_whole-clause-write
returns-in-Ok-write_whole-clause-write g c = λ is. absurd (not_written c.in-Ok.text.status c.in-Ok.ensures.kept is)

pub returns-in-Ok-write_whole-clause-still : goal.returns-in-Ok-write_whole-clause-still
returns-in-Ok-write_whole-clause-still g c = λ is. absurd (not_memory c.in-Ok.text.status c.in-Ok.ensures.kept is)
