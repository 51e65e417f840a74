use Rattle.std.proofs.Common.{refl, subst}
use Rattle.slot_check.specs.Verdicts.{IsLibraryJudged}
use Rattle.page_check.proofs.Libs.{keeps_none, keeps_one}
use Rattle.page_check.proofs.libraries.keep.Goals as goal

pub returns-in_ok-push-in-Ok : goal.returns-in_ok-push-in-Ok
returns-in_ok-push-in-Ok c = λ library is. keeps_one library c.args.accepted.now.items c.push.new.self.items c.in-Ok.script (subst (IsLibraryJudged library) c.in-Ok.is is) c.in_ok-push-in-Ok.ensures.items

pub returns-in-Err : goal.returns-in-Err
returns-in-Err c = λ library is.
    let b = c.in-Err.field-0 in
    keeps_none library c.args.accepted.now.items c.args.accepted.now.items b.rule b.at (subst (IsLibraryJudged library) c.in-Err.is is) refl
