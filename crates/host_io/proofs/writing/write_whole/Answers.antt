use Rattle.std.proofs.Common.{◌-◌, ◌<◌, ◌∙◌, length, arith}
use Rattle.host_io.proofs.Pieces.{piece_more, piece_len}
use Rattle.host_io.proofs.writing.write_whole.Goals as goal

pub pieces-preserved : goal.pieces-preserved
pieces-preserved g c =
    let xs = c.args.bytes.now in
    let e = c.in-Ok.ensures in
    let i = c.pieces.invariant in
    let left = piece_len c.pieces.at xs in
    let some : 0 < length xs - c.pieces.at = omega (arith, c.pieces-test.true) in
    record {
      within = omega (arith, i.within, e.bound, left);
      written = piece_more (g.S.Sink.held c.args.sink.now) (g.S.Sink.held c.pieces.sink) (g.S.Sink.held c.write.new.self) c.pieces.at c.in-Ok.count xs i.written e.appended;
      count = omega (arith, i.count, e.count);
      room = λ fits. let r = e.room (omega (arith, left, some)) (omega (arith, left, i.room fits)) in omega (arith, i.room fits, r.1);
      room_count = λ fits. e.room_count (omega (arith, left, some)) (omega (arith, left, i.room fits)) ∙ i.room_count fits;
    }
