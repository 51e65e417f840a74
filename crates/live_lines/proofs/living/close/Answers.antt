use Rattle.std.proofs.Common.{◌++◌, ap, refl, arith, ◌∙◌}
use Rattle.live_text.specs.Answer.{full_text}
use Rattle.page_live.specs.Findings.{found_refused}
use Rattle.live_lines.specs.Transcript.{no_room}
use Rattle.live_lines.proofs.Endings.{closed_cut, closed_shut, ending_written}
use Rattle.live_lines.proofs.living.close.Goals as goal

pub returns-in_default-clause-closed : goal.returns-in_default-clause-closed
returns-in_default-clause-closed g c = no_room refl

pub returns-in_default-clause-count : goal.returns-in_default-clause-count
returns-in_default-clause-count g c = omega arith

pub returns-in_default-clause-cause : goal.returns-in_default-clause-cause
returns-in_default-clause-cause g c = λ is. absurd (let e = is in cc)

pub ending-requires : goal.ending-requires
ending-requires g c = record { stands = c.requires.stands }

pub returns-in-Ok-write_whole-clause-closed : goal.returns-in-Ok-write_whole-clause-closed
returns-in-Ok-write_whole-clause-closed g c =
    closed_shut c.args.session.now.page.findings (g.S.Sink.held c.args.sink.now) (g.S.Sink.held c.write_whole.new.sink) c.deref.result.now
    (c.deref.ensures.value ∙ c.in-Ok.ensures ∙ ap (λ xs. xs ++ full_text) c.new-out.ensures.items) c.ending.result c.ending.ensures c.in-Ok-write_whole.ensures.whole

pub returns-in-Ok-write_whole-clause-count : goal.returns-in-Ok-write_whole-clause-count
returns-in-Ok-write_whole-clause-count g c = c.write_whole.ensures.count

pub returns-in-Ok-write_whole-clause-cause : goal.returns-in-Ok-write_whole-clause-cause
returns-in-Ok-write_whole-clause-cause g c = λ is. absurd (ending_written (found_refused c.args.session.now.page.findings) c.ending.result c.ending.ensures is)

pub returns-clause-closed : goal.returns-clause-closed
returns-clause-closed g c =
    closed_cut c.args.session.now.page.findings (g.S.Sink.held c.args.sink.now) (g.S.Sink.held c.write_whole.new.sink) c.deref.result.now
    (c.deref.ensures.value ∙ c.in-Ok.ensures ∙ ap (λ xs. xs ++ full_text) c.new-out.ensures.items) c.in-Err.ensures.part

pub returns-clause-count : goal.returns-clause-count
returns-clause-count g c = c.write_whole.ensures.count

pub returns-clause-cause : goal.returns-clause-cause
returns-clause-cause g c = λ is. c.in-Err.ensures.cause
