use Rattle.std.proofs.Common.{subst, sym}
use Rattle.std.proofs.lemmas.Result.{IfOk-weaker}
use Rattle.js_names.specs.Code.{trees_of}
use Rattle.js_flow.specs.declared.frame.StatementFrame.{StatementFrame}
use Rattle.js_flow.specs.Fine.{FineCompletion, FineStatement}
use Rattle.js_statements.proofs.given.take_other.Goals as goal

pub returns-in-SwitchEnd-clause-fine : goal.returns-in-SwitchEnd-clause-fine
returns-in-SwitchEnd-clause-fine c = IfOk-weaker c.pass_on.result _ _ (λ k e. rw e (tt, c.after_switch.ensures.fine c.args.w c.args.store.now.cells c.requires.how)) c.pass_on.ensures

pub returns-in-LastEnd-clause-fine : goal.returns-in-LastEnd-clause-fine
returns-in-LastEnd-clause-fine c =
    let fs = trees_of c.args.codes.now.items in
    let cells = c.args.store.now.cells in
    let before = subst (λ (q : StatementFrame). FineStatement fs c.args.w cells q) c.in-LastEnd.is c.requires.frame in
    IfOk-weaker c.pass_on-in-LastEnd.result _ _
    (λ k e. rw e (tt, c.after_finally.ensures.fine c.args.w cells (subst (FineCompletion c.args.w cells) (sym c.into_inner.ensures) before) c.requires.how))
    c.pass_on-in-LastEnd.ensures
