use Rattle.std.proofs.Common.{◌≡◌, ◌∙◌, sym, codes, true, bytes_eq, arith}
use Rattle.std.proofs.lemmas.Grind.{common_steps}
use Rattle.run_steps.proofs.Asking.{asks_check, asks_check_lib, asks_tidy, asks_render, asks_check_audit, asks_demo}
use Rattle.run_steps.proofs.request.parse_two.Goals as goal

pub returns-then-eq-clause-some : goal.returns-then-eq-clause-some
returns-then-eq-clause-some c = asks_check c.args.form.now c.args.one.now (sym c.eq.ensures ∙ c.if-eq.true)

pub returns-then-eq-2-clause-some : goal.returns-then-eq-2-clause-some
returns-then-eq-2-clause-some c = asks_check_lib c.args.form.now c.args.one.now (sym c.eq-2.ensures ∙ c.if-eq-2.true)

pub returns-then-eq-3-clause-some : goal.returns-then-eq-3-clause-some
returns-then-eq-3-clause-some c = asks_tidy c.args.form.now c.args.one.now (sym c.eq-3.ensures ∙ c.if-eq-3.true)

pub returns-then-eq-4-clause-some : goal.returns-then-eq-4-clause-some
returns-then-eq-4-clause-some c = asks_render c.args.form.now c.args.one.now (sym c.eq-4.ensures ∙ c.if-eq-4.true)

pub returns-then-eq-5-clause-some : goal.returns-then-eq-5-clause-some
returns-then-eq-5-clause-some c = asks_check_audit c.args.form.now c.args.one.now (sym c.eq-5.ensures ∙ c.if-eq-5.true)

pub returns-clause-some : goal.returns-clause-some
returns-clause-some c = let is : bytes_eq c.args.form.now (codes "demo") ≡ true = grind (arith, common_steps) in asks_demo c.args.form.now c.args.one.now c.in-Some.count is c.in-Some.ensures.some
