use Rattle.std.proofs.Common.{inl, inr, refl, ◌∙◌}
use Rattle.run_steps.specs.Page.{texts}
use Rattle.run_steps.proofs.ReadsLemmas.{reads_as}
use Rattle.run_steps.proofs.Stepping.{stop_read, stop_write}
use Rattle.live_lines.proofs.Calm.{calm_outcome}
use Rattle.live_lines.proofs.Deciding.{late_still, late_usage, other_words, page_files, ran_outcome, stop_never, stopped_outcome}
use Rattle.live_lines.proofs.living.live.Goals as goal

pub open-requires : goal.open-requires
open-requires g c = record { some = c.in-Some.ensures.slice }

pub run-requires-clause-alive : goal.run-requires-clause-alive
run-requires-clause-alive g c = c.in-Ok.ensures.alive

pub run-requires-clause-first : goal.run-requires-clause-first
run-requires-clause-first g c = c.in-Ok.ensures.first

-- the words are of no form
pub returns-in_default-clause-outcome : goal.returns-in_default-clause-outcome
returns-in_default-clause-outcome g c = other_words g.F.Files.told g.F.Files.calm g.F.Files.faults (texts c.args.words.now) c.args.files.now c.args.files.now (g.S.Sink.held c.args.sink.now) (g.F.Files.told c.args.files.now) (g.L.Lines.left c.args.lines.now) c.in_default.ensures.none

pub returns-in_default-clause-usage : goal.returns-in_default-clause-usage
returns-in_default-clause-usage g c = (λ is. c.in_default.ensures.none, λ none. refl)

pub returns-in_default-clause-still : goal.returns-in_default-clause-still
returns-in_default-clause-still g c = λ early. refl

pub returns-in_default-clause-unread : goal.returns-in_default-clause-unread
returns-in_default-clause-unread g c = λ is. absurd (let e = is in cc)

pub returns-in_default-clause-unwritten : goal.returns-in_default-clause-unwritten
returns-in_default-clause-unwritten g c = λ is. absurd (let e = is in cc)

pub returns-in_default-clause-calm : goal.returns-in_default-clause-calm
returns-in_default-clause-calm g c = λ calm steady has is. (let e = is in cc)

pub returns-in_default-clause-calm_swaps : goal.returns-in_default-clause-calm_swaps
returns-in_default-clause-calm_swaps g c = λ calm. calm_outcome g.F.Files.told g.F.Files.calm g.F.Files.faults (texts c.args.words.now) c.args.files.now c.args.files.now (g.F.Files.told c.args.files.now) (g.L.Lines.left c.args.lines.now) _ _ _ refl calm (returns-in_default-clause-outcome g c)

pub returns-in_default-clause-told : goal.returns-in_default-clause-told
returns-in_default-clause-told g c = refl

-- the page was loaded
pub returns-in-Ok-clause-outcome : goal.returns-in-Ok-clause-outcome
returns-in-Ok-clause-outcome g c =
    ran_outcome g.F.Files.told g.F.Files.calm g.F.Files.faults (texts c.args.words.now) c.args.files.now c.run.new.files (g.S.Sink.held c.args.sink.now) c.in-Some.asked.manifest.now c.in-Some.ensures.some c.open.new.files (g.L.Lines.left c.args.lines.now) c.in-Ok.page _ c.run.result
    c.in-Ok.ensures.step.reads.same c.in-Ok.ensures.step.gives (reads_as g.F.Files.told g.F.Files.calm g.F.Files.faults c.in-Ok.ensures.step.reads (λ never. absurd never) (λ all. all)) c.run.ensures.ran

pub returns-in-Ok-clause-usage : goal.returns-in-Ok-clause-usage
returns-in-Ok-clause-usage g c = late_usage (texts c.args.words.now) c.in-Some.asked.manifest.now c.in-Some.ensures.some c.run.result c.run.ensures.ends.late

pub returns-in-Ok-clause-still : goal.returns-in-Ok-clause-still
returns-in-Ok-clause-still g c = late_still c.run.result c.run.ensures.ends.late

pub returns-in-Ok-clause-unread : goal.returns-in-Ok-clause-unread
returns-in-Ok-clause-unread g c = λ is. inr (c.run.ensures.ends.unread is)

pub returns-in-Ok-clause-unwritten : goal.returns-in-Ok-clause-unwritten
returns-in-Ok-clause-unwritten g c = λ is. c.run.ensures.ends.unwritten is

pub returns-in-Ok-clause-calm : goal.returns-in-Ok-clause-calm
returns-in-Ok-clause-calm g c = λ calm steady has. c.run.ensures.ends.calm steady

pub returns-in-Ok-clause-calm_swaps : goal.returns-in-Ok-clause-calm_swaps
returns-in-Ok-clause-calm_swaps g c = λ calm. calm_outcome g.F.Files.told g.F.Files.calm g.F.Files.faults (texts c.args.words.now) c.args.files.now c.run.new.files (g.F.Files.told c.args.files.now) (g.L.Lines.left c.args.lines.now) _ _ _ refl calm (returns-in-Ok-clause-outcome g c)

pub returns-in-Ok-clause-told : goal.returns-in-Ok-clause-told
returns-in-Ok-clause-told g c = c.run.ensures.told ∙ c.in-Ok.ensures.step.reads.same

-- it was not
pub returns-in-Err-clause-outcome : goal.returns-in-Err-clause-outcome
returns-in-Err-clause-outcome g c = rw c.status_of.ensures (stopped_outcome g.F.Files.told g.F.Files.calm g.F.Files.faults (texts c.args.words.now) c.args.files.now c.open.new.files (g.S.Sink.held c.args.sink.now) c.in-Some.asked.manifest.now c.in-Some.ensures.some (g.F.Files.told c.args.files.now) (g.L.Lines.left c.args.lines.now) c.in-Err.stop c.in-Err.ensures.step.stops)

pub returns-in-Err-clause-usage : goal.returns-in-Err-clause-usage
returns-in-Err-clause-usage g c = rw c.status_of.ensures (stop_never (texts c.args.words.now) c.in-Some.asked.manifest.now c.in-Some.ensures.some c.in-Err.stop)

pub returns-in-Err-clause-still : goal.returns-in-Err-clause-still
returns-in-Err-clause-still g c = λ early. refl

pub returns-in-Err-clause-unread : goal.returns-in-Err-clause-unread
returns-in-Err-clause-unread g c = rw c.status_of.ensures (λ is. inl (c.in-Err.ensures.step.reads.cause (stop_read c.in-Err.stop is)))

pub returns-in-Err-clause-unwritten : goal.returns-in-Err-clause-unwritten
returns-in-Err-clause-unwritten g c = rw c.status_of.ensures (λ is. absurd (stop_write c.in-Err.stop is))

pub returns-in-Err-clause-calm : goal.returns-in-Err-clause-calm
returns-in-Err-clause-calm g c = rw c.status_of.ensures (λ calm steady has is. c.in-Err.ensures.step.reads.no_fault calm (page_files (texts c.args.words.now) c.in-Some.asked.manifest.now c.in-Some.ensures.some (g.F.Files.told c.args.files.now) has) (stop_read c.in-Err.stop is))

pub returns-in-Err-clause-calm_swaps : goal.returns-in-Err-clause-calm_swaps
returns-in-Err-clause-calm_swaps g c = λ calm. calm_outcome g.F.Files.told g.F.Files.calm g.F.Files.faults (texts c.args.words.now) c.args.files.now c.open.new.files (g.F.Files.told c.args.files.now) (g.L.Lines.left c.args.lines.now) _ _ _ refl calm (returns-in-Err-clause-outcome g c)

pub returns-in-Err-clause-told : goal.returns-in-Err-clause-told
returns-in-Err-clause-told g c = c.in-Err.ensures.step.reads.same
