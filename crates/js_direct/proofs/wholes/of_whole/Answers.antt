use Rattle.js_direct.proofs.wholes.of_whole.Goals as goal

pub returns-in-Plus-clause-gives : goal.returns-in-Plus-clause-gives
returns-in-Plus-clause-gives c = rw c.in-Plus.is c.same_number.ensures.gives

pub returns-in-Not-clause-gives : goal.returns-in-Not-clause-gives
returns-in-Not-clause-gives c = rw c.in-Not.is c.other_truth.ensures.gives
