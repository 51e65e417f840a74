use Rattle.std.proofs.Common.{subst, arith}
use Rattle.js_cursor.specs.Reads.{Next}
use Rattle.js_cursor.proofs.Input.{token_next, token_no_end}
use Rattle.js_cursor.proofs.script.Script.peek.Goals as goal

pub returns-then-at-len-clause-here : goal.returns-then-at-len-clause-here
returns-then-at-len-clause-here c = subst (λ ts. Next ts c.args.at c.index.result.now) c.self.view_is (token_next _ _ _ _ _ c.self.invariant.0 (omega arith) c.index.ensures)

pub returns-then-at-len-clause-end : goal.returns-then-at-len-clause-end
returns-then-at-len-clause-end c = λ e. absurd (token_no_end _ _ _ _ _ c.self.invariant.0 (omega arith) c.index.ensures e)
