use Rattle.std.proofs.Common.{subst}
use Rattle.slot_check.specs.Verdicts.{sources_of, IsVerdictAt}
use Rattle.slot_check.proofs.Judging.{clean_at}
use Rattle.slot_check.proofs.Refusals.{small_at, library_refused}
use Rattle.slot_check.proofs.libraries.Libraries.judge.Goals as goal

pub broken_in-requires : goal.broken_in-requires
broken_in-requires c = small_at c.args.libs.now c.args.place c.index-libs-place.result c.requires.small c.requires.inside c.index-libs-place.is

pub returns-in-Some-clause-broken : goal.returns-in-Some-clause-broken
returns-in-Some-clause-broken c = library_refused c.args.libs.now c.args.place c.index-libs-place.result c.in-Some.breach c.broken_in.result (subst (IsVerdictAt (sources_of c.args.libs.now) c.args.place) c.in-Some.is c.in_ok-breach.ensures.verdict) c.requires.inside c.index-libs-place.is c.broken_in.ensures

pub returns-in-None-clause-clean : goal.returns-in-None-clause-clean
returns-in-None-clause-clean c = clean_at (sources_of c.args.libs.now) c.args.place (subst (IsVerdictAt (sources_of c.args.libs.now) c.args.place) c.in-None.is c.in_ok-breach.ensures.verdict)
