use Rattle.std.proofs.Common.{None}
use Rattle.std.proofs.lemmas.Result.{err_from_is_err_and}
use Rattle.adhost_run.proofs.Reported.{no_library, library_unjudged, library_text}
use Rattle.adhost_run.proofs.reports.report_library.Goals as goal

pub returns-in_err-bytes-clause-answered : goal.returns-in_err-bytes-clause-answered
returns-in_err-bytes-clause-answered g c =
    let p = err_from_is_err_and c.from_residual.result c.from_residual.ensures.1 in
    rw (p.1, p.2) (no_library g.F.Files.told g.F.Files.calm g.F.Files.faults c.args.asked c.args.name.now c.in_err-bytes.ensures.stops c.in_err-bytes.ensures.large c.in_err-bytes.ensures.reads)

pub returns-in_err-text-clause-answered : goal.returns-in_err-text-clause-answered
returns-in_err-text-clause-answered g c =
    let p = err_from_is_err_and c.from_residual-in_err-text.result c.from_residual-in_err-text.ensures.1 in
    rw (p.1, p.2) (library_unjudged g.F.Files.told g.F.Files.calm g.F.Files.faults c.args.asked c.args.name.now c.in_ok-bytes.ensures.reads)

pub returns-clause-answered : goal.returns-clause-answered
returns-clause-answered g c = library_text g.F.Files.told g.F.Files.calm g.F.Files.faults c.args.asked c.args.name.now (record { refused = c.in_ok-text.text.refused; bytes = c.in_ok-text.text.bytes; host = None }) c.in_ok-bytes.bytes.items c.deref.result.now c.in_ok-bytes.ensures.reads c.in_ok-bytes.ensures.ok c.in_ok-bytes.ensures.within c.deref.ensures.value c.in_ok-text.ensures
