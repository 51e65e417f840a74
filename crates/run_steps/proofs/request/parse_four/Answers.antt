use Rattle.std.proofs.Common.{◌∙◌, sym}
use Rattle.run_steps.proofs.Asking.{asks_replay, asks_audit}
use Rattle.run_steps.proofs.request.parse_four.Goals as goal

pub returns-then-eq-clause-some : goal.returns-then-eq-clause-some
returns-then-eq-clause-some c = asks_replay c.args.form.now c.args.manifest.now c.args.trace.now c.args.word.now c.in-Some.slice (sym c.eq.ensures ∙ c.if-eq.true) c.in-Some.ensures.some

pub returns-then-eq-2-clause-some : goal.returns-then-eq-2-clause-some
returns-then-eq-2-clause-some c = asks_audit c.args.form.now c.args.manifest.now c.args.trace.now c.args.word.now c.in-Some.slice (sym c.eq-2.ensures ∙ c.if-eq-2.true) c.in-Some.ensures.some
