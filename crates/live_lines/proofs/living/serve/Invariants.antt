use Rattle.std.proofs.Common.{◌≡◌, ◌≤◌, ◌<◌}
use Rattle.live_lines.specs.Transcript.{Stands}
use Rattle.live_lines.proofs.Serving.{GoingOn}
use Rattle.live_lines.proofs.living.serve.Given as goal

abbrev pub invariant-lines : goal.invariant-lines
invariant-lines g l = record {
  stands : Stands l.session;
  room : l.session.page.taken < 4096;
  told : g.F.Files.told l.files ≡ g.F.Files.told l.fn.files;
  going : GoingOn g.F.Files.told g.F.Files.calm g.F.Files.faults (g.F.Files.told l.fn.files) (g.L.Lines.left l.fn.lines) l.fn.session l.fn.files l.files (g.S.Sink.held l.fn.sink) (g.S.Sink.held l.sink) (g.L.Lines.left l.lines) l.session;
  reads : g.L.Lines.faults l.fn.lines ≤ g.L.Lines.faults l.lines;
  writes : g.S.Sink.faults l.fn.sink ≤ g.S.Sink.faults l.sink;
  calm : g.L.Lines.calm l.fn.lines → g.L.Lines.calm l.lines;
}
