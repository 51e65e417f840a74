use Rattle.std.proofs.lemmas.Result.{IfOk-weaker}
use Rattle.js_expressions.proofs.evaluating.simple.Goals as goal

pub returns-in-Num-clause-fine : goal.returns-in-Num-clause-fine
returns-in-Num-clause-fine c = IfOk-weaker c.give.result _ _ (λ k e. rw e (λ w cells fs h l. (tt, c.number.ensures.fine w cells))) c.give.ensures

pub returns-in-Word-clause-fine : goal.returns-in-Word-clause-fine
returns-in-Word-clause-fine c = IfOk-weaker c.give-in-Word.result _ _ (λ k e. rw e (λ w cells fs h l. (tt, c.word_value.ensures.fine w cells))) c.give-in-Word.ensures
