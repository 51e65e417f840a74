use Rattle.std.proofs.Common.{ap, subst}
use Rattle.trace_reader.specs.Said.{said}
use Rattle.page_live.specs.HostItem.TheVariants as host
use Rattle.live_lines.specs.Transcript.{ReadFailed}
use Rattle.live_lines.proofs.Causes.{advance_no_swap, event_no_swap, same_file}
use Rattle.live_lines.proofs.Replying.{advance_for, alive_of, event_for, item_answered, on_one, on_three, swap_for, swap_reply}
use Rattle.live_lines.proofs.answering.answer_item.Goals as goal

pub take-requires-clause-alive : goal.take-requires-clause-alive
take-requires-clause-alive g c = alive_of c.args.session.now c.requires.stands

pub take-requires-clause-many : goal.take-requires-clause-many
take-requires-clause-many g c = c.requires.stands.at.many

pub take-requires-clause-shape : goal.take-requires-clause-shape
take-requires-clause-shape g c = event_for _ (said c.args.item) c.in-Event.to c.in-Event.event.kind c.in-Event.event.path.items c.in-Event.event.value (ap said c.in-Event.is) c.requires.shape

pub take-requires-in-Advance-clause-alive : goal.take-requires-in-Advance-clause-alive
take-requires-in-Advance-clause-alive g c = alive_of c.args.session.now c.requires.stands

pub take-requires-in-Advance-clause-many : goal.take-requires-in-Advance-clause-many
take-requires-in-Advance-clause-many g c = c.requires.stands.at.many

pub take-requires-in-Advance-clause-shape : goal.take-requires-in-Advance-clause-shape
take-requires-in-Advance-clause-shape g c = advance_for _ (said c.args.item) c.in-Advance.ms (ap said c.in-Advance.is) c.requires.shape

pub returns-in-Event-clause-answered : goal.returns-in-Event-clause-answered
returns-in-Event-clause-answered g c =
    let i = host.Event c.in-Event.to (record { kind = c.in-Event.event.kind; path = c.in-Event.event.path; value = c.in-Event.event.value }) in
    on_three c.take.result _ _ _ _ (λ lives answer many. item_answered g.F.Files.told g.F.Files.calm g.F.Files.faults (said c.args.item) i c.args.session.now c.take.new.self _ _ c.args.files.now c.requires.stands (ap said c.in-Event.is) lives answer many)
    c.take.ensures.lives c.take.ensures.answer c.take.ensures.many

pub returns-in-Advance-clause-answered : goal.returns-in-Advance-clause-answered
returns-in-Advance-clause-answered g c =
    on_three c.take-in-Advance.result _ _ _ _ (λ lives answer many. item_answered g.F.Files.told g.F.Files.calm g.F.Files.faults (said c.args.item) (host.Advance c.in-Advance.ms) c.args.session.now c.take-in-Advance.new.self _ _ c.args.files.now c.requires.stands (ap said c.in-Advance.is) lives answer many)
    c.take-in-Advance.ensures.lives c.take-in-Advance.ensures.answer c.take-in-Advance.ensures.many

pub answer_swap-requires-clause-there : goal.answer_swap-requires-clause-there
answer_swap-requires-clause-there g c = swap_for _ (said c.args.item) c.in-Swap.to _ (ap said c.in-Swap.is) c.requires.shape

pub returns-in-Swap-clause-answered : goal.returns-in-Swap-clause-answered
returns-in-Swap-clause-answered g c = swap_reply g.F.Files.told g.F.Files.calm g.F.Files.faults c.answer_swap.result (said c.args.item) c.in-Swap.to _ _ _ _ _ c.args.files.now c.answer_swap.new.files (ap said c.in-Swap.is) c.answer_swap.ensures.answered

pub returns-in-Event-clause-no_file : goal.returns-in-Event-clause-no_file
returns-in-Event-clause-no_file g c = λ to file is. event_no_swap (said c.args.item) c.in-Event.to to c.in-Event.event.kind c.in-Event.event.path.items file c.in-Event.event.value (ap said c.in-Event.is) is

pub returns-in-Advance-clause-no_file : goal.returns-in-Advance-clause-no_file
returns-in-Advance-clause-no_file g c = λ to file is. advance_no_swap (said c.args.item) c.in-Advance.ms to file (ap said c.in-Advance.is) is

pub returns-in-Swap-clause-no_file : goal.returns-in-Swap-clause-no_file
returns-in-Swap-clause-no_file g c = λ to file is. on_one c.answer_swap.result _ _
    (λ given same. subst (λ n. ReadFailed g.F.Files.told g.F.Files.calm g.F.Files.faults c.args.files.now c.answer_swap.new.files n) (same_file (said c.args.item) c.in-Swap.to to _ file (ap said c.in-Swap.is) is) (given same)) c.answer_swap.ensures.no_file
