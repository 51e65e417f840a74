use Rattle.std.proofs.Common.{map, sym, subst}
use Rattle.std.proofs.lemmas.Result.{err_from_is_err_and}
use Rattle.trace_reader.specs.Said.{said}
use Rattle.adhost_run.specs.Page.{runs_of}
use Rattle.adhost_run.specs.Answer.{ending, PlayAnswer}
use Rattle.adhost_run.proofs.playing.report_ran.Goals as goal

pub some_refused-refused-requires : goal.some_refused-refused-requires
some_refused-refused-requires c =
    let r = c.requires in
    c.plays_come_to.ensures.even r.is.spec r.is.swaps (map said r.items) (runs_of r.manifest r.sources) r.files c.args.ran.findings c.args.ran.host r.is.played r.is.found

pub returns-in_err-bytes-clause-stop : goal.returns-in_err-bytes-clause-stop
returns-in_err-bytes-clause-stop c =
    let p = err_from_is_err_and c.from_residual.result c.from_residual.ensures.1 in
    rw (p.1, p.2) c.in_err-bytes.ensures.stop

pub returns-clause-answer : goal.returns-clause-answer
returns-clause-answer c = λ m ss xs fs k is. subst (λ b. PlayAnswer c.args.writes m ss xs fs (ending b) c.in_ok-bytes.bytes.items) (sym c.some_refused-refused.ensures) (c.in_ok-bytes.ensures.answer m ss xs fs k is)
