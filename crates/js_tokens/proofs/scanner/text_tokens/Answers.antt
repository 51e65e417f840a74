use Rattle.js_tokens.proofs.Turns.{at_blanks, at_end, at_gap, at_token, at_bad}
use Rattle.js_tokens.proofs.scanner.text_tokens.Goals as goal

pub returns-in-End-clause-found : goal.returns-in-End-clause-found
returns-in-End-clause-found c = at_end _ _ _ c.in-End.ensures (at_blanks _ _ _ _ c.run_end-from.ensures c.text.invariant)

pub text-preserved-in-Gap : goal.text-preserved-in-Gap
text-preserved-in-Gap c = at_gap _ _ _ _ c.in-Gap.ensures.0 c.in-Gap.ensures.2 (at_blanks _ _ _ _ c.run_end-from.ensures c.text.invariant)

pub text-preserved : goal.text-preserved
text-preserved c =
    rw c.in_ok-push-in-Token.ensures.items (at_token _ _ _ _ _ c.in-Token.ensures.0 c.in-Token.ensures.2 (at_blanks _ _ _ _ c.run_end-from.ensures c.text.invariant))

pub returns-in-Bad-clause-place : goal.returns-in-Bad-clause-place
returns-in-Bad-clause-place c = (c.in-Bad.ensures.1, at_bad _ _ _ _ c.in-Bad.ensures.0 (at_blanks _ _ _ _ c.run_end-from.ensures c.text.invariant))
