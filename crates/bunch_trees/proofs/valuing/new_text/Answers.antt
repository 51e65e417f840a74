use Rattle.std.proofs.Common.{cond, sym, ap, ◌∙◌}
use Rattle.bunch_trees.proofs.valuing.new_text.Goals as goal

pub returns-then-gets_text-clause-one : goal.returns-then-gets_text-clause-one
returns-then-gets_text-clause-one c = λ s there. ap (λ b. cond b 1 0) (sym c.if-gets_text.true ∙ c.gets_text.ensures s there)

pub returns-else-gets_text-clause-one : goal.returns-else-gets_text-clause-one
returns-else-gets_text-clause-one c = λ s there. ap (λ b. cond b 1 0) (sym c.if-gets_text.false ∙ c.gets_text.ensures s there)
