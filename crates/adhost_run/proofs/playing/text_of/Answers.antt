use Rattle.std.proofs.Common.{◌≡◌, ◌∙◌, map, sym}
use Rattle.trace_reader.specs.Said.{said}
use Rattle.page_play.specs.Findings.{found_refused}
use Rattle.run_steps.specs.Page.{parts}
use Rattle.adhost_run.specs.declared.playing.Writes.TheVariants as writes
use Rattle.adhost_run.specs.Page.{runs_of}
use Rattle.adhost_run.proofs.Plays.{found_ran, reported_ran}
use Rattle.adhost_run.proofs.playing.text_of.Goals as goal

pub report-requires : goal.report-requires
report-requires c = let r = c.requires in found_ran r.manifest r.sources r.items r.files r.slice c.args.ran.now r.is

pub returns-in_ok-report-in-Report-clause-answer : goal.returns-in_ok-report-in-Report-clause-answer
returns-in_ok-report-in-Report-clause-answer c = rw c.in-Report.is (λ m ss xs fs k is. reported_ran m ss xs fs k c.args.ran.now is (found_refused c.args.ran.now.findings) c.in_ok-report-in-Report.field-0.items
    (c.in_ok-report-in-Report.ensures is.spec is.swaps (map said xs) (runs_of m ss) fs (parts m) is.played is.found is.laid))

pub returns-in_ok-report-in-Report-clause-confined : goal.returns-in_ok-report-in-Report-clause-confined
returns-in_ok-report-in-Report-clause-confined c = λ what. (let e : writes.Report ≡ writes.Certificate = sym c.in-Report.is ∙ what in cc)

pub returns-in-Certificate-clause-answer : goal.returns-in-Certificate-clause-answer
returns-in-Certificate-clause-answer c = rw c.in-Certificate.is c.certificate_of.ensures.answer

pub returns-in-Certificate-clause-confined : goal.returns-in-Certificate-clause-confined
returns-in-Certificate-clause-confined c = λ what. c.certificate_of.ensures.confined

pub returns-in-Certificate-clause-stop : goal.returns-in-Certificate-clause-stop
returns-in-Certificate-clause-stop c = rw c.in-Certificate.is c.certificate_of.ensures.stop
