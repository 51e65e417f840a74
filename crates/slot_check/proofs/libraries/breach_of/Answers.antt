use Rattle.std.proofs.Common.{subst}
use Rattle.adsafe_rules.specs.declared.scope.Scope.TheVariants as scope
use Rattle.slot_check.specs.Verdicts.{IsLibraryJudged}
use Rattle.slot_check.proofs.Accepting.{clean_script}
use Rattle.slot_check.proofs.libraries.breach_of.Goals as goal

pub returns-in-Ok : goal.returns-in-Ok
returns-in-Ok c = λ library is. clean_script library scope.Lib c.in-Ok.accepted (subst (IsLibraryJudged library) c.in-Ok.is is)

pub returns-in-Err : goal.returns-in-Err
returns-in-Err c = λ library is. subst (IsLibraryJudged library) c.in-Err.is is
