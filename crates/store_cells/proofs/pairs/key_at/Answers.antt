use Rattle.std.proofs.Common.{◌≡◌, List, Option, subst, ℕ}
use Rattle.std.specs.Prelude.{IfOk}
use Rattle.store_cells.proofs.pairs.key_at.Goals as goal

pub returns-in-Some : goal.returns-in-Some
returns-in-Some c = subst (λ (o : Option (List ℕ)). IfOk c.text.result (λ key. key ≡ o)) c.in-Some.ensures.name c.text.ensures
