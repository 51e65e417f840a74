use Rattle.std.proofs.Common.{◌≤◌, Err, refl, ap, ◌∙◌, arith}
use Rattle.page_live.specs.Findings.{found_refused}
use Rattle.live_lines.proofs.Serving.{going_on_first, going_on_next, line_answered, none_read, served_closed, served_cut, served_end, served_small, served_unread, some_read}
use Rattle.live_lines.proofs.Endings.{ends_closed, ends_ending, ends_small, ends_unread, ends_unwritten, rose_later}
use Rattle.live_lines.proofs.living.serve.Goals as goal

pub lines-init : goal.lines-init
lines-init g c = record {
  stands = c.requires.stands;
  room = c.requires.room;
  told = refl;
  going = going_on_first g.F.Files.told g.F.Files.calm g.F.Files.faults (g.F.Files.told c.args.files.now) (g.L.Lines.left c.args.lines.now) c.args.session.now c.args.files.now (g.S.Sink.held c.args.sink.now);
  reads = omega arith;
  writes = omega arith;
  calm = λ is. is;
}

-- there is no line left
pub ending-requires : goal.ending-requires
ending-requires g c = record { stands = c.lines.invariant.stands }

pub returns-in-Ok-None-clause-served : goal.returns-in-Ok-None-clause-served
returns-in-Ok-None-clause-served g c =
    served_end g.F.Files.told g.F.Files.calm g.F.Files.faults (g.F.Files.told c.args.files.now) (g.L.Lines.left c.args.lines.now) c.args.session.now c.args.files.now c.lines.files (g.S.Sink.held c.args.sink.now) (g.S.Sink.held c.lines.sink) (g.L.Lines.left c.lines.lines) c.lines.session c.ending.result
    (none_read (g.L.Lines.left c.lines.lines) c.in-Ok-None.field-0 c.in-Ok-None.field-0-is c.in-Ok-None.ensures.line) c.lines.invariant.room c.ending.ensures c.lines.invariant.going

pub returns-in-Ok-None-clause-ends : goal.returns-in-Ok-None-clause-ends
returns-in-Ok-None-clause-ends g c = ends_ending _ _ _ _ _ c.lines.invariant.writes (found_refused c.lines.session.page.findings) c.ending.result c.ending.ensures

pub returns-in-Ok-None-clause-told : goal.returns-in-Ok-None-clause-told
returns-in-Ok-None-clause-told g c = c.lines.invariant.told

-- it could not be read
pub returns-in-Err-Failed-clause-served : goal.returns-in-Err-Failed-clause-served
returns-in-Err-Failed-clause-served g c =
    served_unread g.F.Files.told g.F.Files.calm g.F.Files.faults (g.F.Files.told c.args.files.now) (g.L.Lines.left c.args.lines.now) c.args.session.now c.args.files.now c.lines.files (g.S.Sink.held c.args.sink.now) (g.S.Sink.held c.lines.sink) (g.L.Lines.left c.lines.lines) c.lines.session c.lines.invariant.going

pub returns-in-Err-Failed-clause-ends : goal.returns-in-Err-Failed-clause-ends
returns-in-Err-Failed-clause-ends g c =
    let failed = ap Err c.in-Err-Failed.field-0-is in
    ends_unread _ _ _ _ _ c.lines.invariant.writes (rose_later (g.L.Lines.faults c.args.lines.now) (g.L.Lines.faults c.lines.lines) (g.L.Lines.faults c.next_line.new.self) c.lines.invariant.reads c.next_line.ensures.count (c.in-Err-Failed.ensures.cause failed))
    (λ calm. c.in-Err-Failed.ensures.calm_reads (c.lines.invariant.calm calm) failed)

pub returns-in-Err-Failed-clause-told : goal.returns-in-Err-Failed-clause-told
returns-in-Err-Failed-clause-told g c = c.lines.invariant.told

-- there was no memory for it
pub returns-in-Err-Memory-clause-served : goal.returns-in-Err-Memory-clause-served
returns-in-Err-Memory-clause-served g c =
    served_small g.F.Files.told g.F.Files.calm g.F.Files.faults (g.F.Files.told c.args.files.now) (g.L.Lines.left c.args.lines.now) c.args.session.now c.args.files.now c.lines.files c.lines.files (g.S.Sink.held c.args.sink.now) (g.S.Sink.held c.lines.sink) (g.L.Lines.left c.lines.lines) c.lines.session c.lines.invariant.going

pub returns-in-Err-Memory-clause-ends : goal.returns-in-Err-Memory-clause-ends
returns-in-Err-Memory-clause-ends g c = ends_small _ _ _ _ _ c.lines.invariant.writes

pub returns-in-Err-Memory-clause-told : goal.returns-in-Err-Memory-clause-told
returns-in-Err-Memory-clause-told g c = c.lines.invariant.told

-- the answer to it
pub answer_line-requires-clause-stands : goal.answer_line-requires-clause-stands
answer_line-requires-clause-stands g c = c.lines.invariant.stands

pub answer_line-requires-clause-room : goal.answer_line-requires-clause-room
answer_line-requires-clause-room g c = c.lines.invariant.room

pub returns-in_default-clause-served : goal.returns-in_default-clause-served
returns-in_default-clause-served g c =
    served_small g.F.Files.told g.F.Files.calm g.F.Files.faults (g.F.Files.told c.args.files.now) (g.L.Lines.left c.args.lines.now) c.args.session.now c.args.files.now c.lines.files c.answer_line.new.files (g.S.Sink.held c.args.sink.now) (g.S.Sink.held c.lines.sink) (g.L.Lines.left c.lines.lines) c.lines.session c.lines.invariant.going

pub returns-in_default-clause-ends : goal.returns-in_default-clause-ends
returns-in_default-clause-ends g c = ends_small _ _ _ _ _ c.lines.invariant.writes

pub returns-in_default-clause-told : goal.returns-in_default-clause-told
returns-in_default-clause-told g c = c.answer_line.ensures.told ∙ c.lines.invariant.told

pub returns-in_default-write_whole-clause-served : goal.returns-in_default-write_whole-clause-served
returns-in_default-write_whole-clause-served g c =
    served_cut g.F.Files.told g.F.Files.calm g.F.Files.faults (g.F.Files.told c.args.files.now) (g.L.Lines.left c.args.lines.now) c.args.session.now c.args.files.now c.lines.files c.answer_line.new.files (g.S.Sink.held c.args.sink.now) (g.S.Sink.held c.lines.sink) (g.S.Sink.held c.write_whole.new.sink) (g.L.Lines.left c.lines.lines) c.lines.session c.answer_line.new.session
    c.deref.result.now c.deref-in-lines.result.now (some_read (g.L.Lines.left c.lines.lines) c.in-Ok-Some.field-0 c.in-Ok-Some.line c.deref.result.now c.in-Ok-Some.field-0-is c.deref.ensures.value c.in-Ok-Some.ensures.line)
    (line_answered g.F.Files.told g.F.Files.calm g.F.Files.faults (g.F.Files.told c.lines.files) (g.F.Files.told c.args.files.now) c.deref.result.now c.lines.session c.answer_line.new.session c.lines.files c.answer_line.new.files _ _ c.deref-in-lines.result.now c.lines.invariant.told c.new-out.ensures.items c.deref-in-lines.ensures.value c.in-Ok.ensures.answered)
    c.lines.invariant.room c.in_default-write_whole.ensures.part c.lines.invariant.going

pub returns-in_default-write_whole-clause-ends : goal.returns-in_default-write_whole-clause-ends
returns-in_default-write_whole-clause-ends g c =
    ends_unwritten _ _ _ _ _ (omega (arith, c.lines.invariant.writes, c.write_whole.ensures.count))
    (rose_later (g.S.Sink.faults c.args.sink.now) (g.S.Sink.faults c.lines.sink) (g.S.Sink.faults c.write_whole.new.sink) c.lines.invariant.writes c.write_whole.ensures.count c.in_default-write_whole.ensures.cause)

pub returns-in_default-write_whole-clause-told : goal.returns-in_default-write_whole-clause-told
returns-in_default-write_whole-clause-told g c = c.answer_line.ensures.told ∙ c.lines.invariant.told

-- as many items were taken as a page may take
pub close-requires : goal.close-requires
close-requires g c = record { stands = c.in-Ok.ensures.answered.stands }

pub returns-then-session-ge-MOST_ITEMS-clause-served : goal.returns-then-session-ge-MOST_ITEMS-clause-served
returns-then-session-ge-MOST_ITEMS-clause-served g c =
    let more = c.in-Ok.ensures.answered.one_more in
    served_closed g.F.Files.told g.F.Files.calm g.F.Files.faults (g.F.Files.told c.args.files.now) (g.L.Lines.left c.args.lines.now) c.args.session.now c.args.files.now c.answer_line.new.files (g.S.Sink.held c.args.sink.now) (g.S.Sink.held c.write_whole.new.sink) (g.S.Sink.held c.close.new.sink) (g.L.Lines.left c.next_line.new.self) c.answer_line.new.session c.close.result
    (omega (arith, more, c.lines.invariant.room, c.if-session-ge-MOST_ITEMS.true)) c.close.ensures.closed
    (going_on_next g.F.Files.told g.F.Files.calm g.F.Files.faults (g.F.Files.told c.args.files.now) (g.L.Lines.left c.args.lines.now) c.args.session.now c.args.files.now c.lines.files c.answer_line.new.files (g.S.Sink.held c.args.sink.now) (g.S.Sink.held c.lines.sink) (g.S.Sink.held c.write_whole.new.sink) (g.L.Lines.left c.lines.lines) (g.L.Lines.left c.next_line.new.self) c.lines.session c.answer_line.new.session
    c.deref.result.now c.deref-in-lines.result.now (some_read (g.L.Lines.left c.lines.lines) c.in-Ok-Some.field-0 c.in-Ok-Some.line c.deref.result.now c.in-Ok-Some.field-0-is c.deref.ensures.value c.in-Ok-Some.ensures.line) c.in-Ok-Some.ensures.rest
    (line_answered g.F.Files.told g.F.Files.calm g.F.Files.faults (g.F.Files.told c.lines.files) (g.F.Files.told c.args.files.now) c.deref.result.now c.lines.session c.answer_line.new.session c.lines.files c.answer_line.new.files _ _ c.deref-in-lines.result.now c.lines.invariant.told c.new-out.ensures.items c.deref-in-lines.ensures.value c.in-Ok.ensures.answered)
    c.lines.invariant.room c.in-Ok-write_whole.ensures.whole c.lines.invariant.going)

pub returns-then-session-ge-MOST_ITEMS-clause-ends : goal.returns-then-session-ge-MOST_ITEMS-clause-ends
returns-then-session-ge-MOST_ITEMS-clause-ends g c =
    let before : g.S.Sink.faults c.args.sink.now ≤ g.S.Sink.faults c.write_whole.new.sink = omega (arith, c.lines.invariant.writes, c.write_whole.ensures.count) in
    ends_closed _ _ _ _ _ (omega (arith, before, c.close.ensures.count)) c.answer_line.new.session.page.findings (g.S.Sink.held c.write_whole.new.sink) (g.S.Sink.held c.close.new.sink) c.close.result c.close.ensures.closed
    (λ is. rose_later (g.S.Sink.faults c.args.sink.now) (g.S.Sink.faults c.write_whole.new.sink) (g.S.Sink.faults c.close.new.sink) before c.close.ensures.count (c.close.ensures.cause is))

pub returns-then-session-ge-MOST_ITEMS-clause-told : goal.returns-then-session-ge-MOST_ITEMS-clause-told
returns-then-session-ge-MOST_ITEMS-clause-told g c = c.answer_line.ensures.told ∙ c.lines.invariant.told

-- and on to the next line
pub lines-preserved : goal.lines-preserved
lines-preserved g c = record {
  stands = c.in-Ok.ensures.answered.stands;
  room = c.if-session-ge-MOST_ITEMS.false;
  told = c.answer_line.ensures.told ∙ c.lines.invariant.told;
  going =
      going_on_next g.F.Files.told g.F.Files.calm g.F.Files.faults (g.F.Files.told c.args.files.now) (g.L.Lines.left c.args.lines.now) c.args.session.now c.args.files.now c.lines.files c.answer_line.new.files (g.S.Sink.held c.args.sink.now) (g.S.Sink.held c.lines.sink) (g.S.Sink.held c.write_whole.new.sink) (g.L.Lines.left c.lines.lines) (g.L.Lines.left c.next_line.new.self) c.lines.session c.answer_line.new.session
      c.deref.result.now c.deref-in-lines.result.now (some_read (g.L.Lines.left c.lines.lines) c.in-Ok-Some.field-0 c.in-Ok-Some.line c.deref.result.now c.in-Ok-Some.field-0-is c.deref.ensures.value c.in-Ok-Some.ensures.line) c.in-Ok-Some.ensures.rest
      (line_answered g.F.Files.told g.F.Files.calm g.F.Files.faults (g.F.Files.told c.lines.files) (g.F.Files.told c.args.files.now) c.deref.result.now c.lines.session c.answer_line.new.session c.lines.files c.answer_line.new.files _ _ c.deref-in-lines.result.now c.lines.invariant.told c.new-out.ensures.items c.deref-in-lines.ensures.value c.in-Ok.ensures.answered)
      c.lines.invariant.room c.in-Ok-write_whole.ensures.whole c.lines.invariant.going;
  reads = omega (arith, c.lines.invariant.reads, c.next_line.ensures.count);
  writes = omega (arith, c.lines.invariant.writes, c.write_whole.ensures.count);
  calm = λ is. c.next_line.ensures.calm (c.lines.invariant.calm is);
}

-- no more lines are read
pub returns-clause-served : goal.returns-clause-served
returns-clause-served g c =
    served_small g.F.Files.told g.F.Files.calm g.F.Files.faults (g.F.Files.told c.args.files.now) (g.L.Lines.left c.args.lines.now) c.args.session.now c.args.files.now c.lines.files c.lines.files (g.S.Sink.held c.args.sink.now) (g.S.Sink.held c.lines.sink) (g.L.Lines.left c.lines.lines) c.lines.session c.lines.invariant.going

pub returns-clause-ends : goal.returns-clause-ends
returns-clause-ends g c = ends_small _ _ _ _ _ c.lines.invariant.writes

pub returns-clause-told : goal.returns-clause-told
returns-clause-told g c = c.lines.invariant.told
