use Rattle.object_store.proofs.Stands.{cell_at, scope_at}
use Rattle.object_store.proofs.store.own_numbers.Goals as goal

pub returns-clause-cells : goal.returns-clause-cells
returns-clause-cells c = cell_at

pub returns-clause-scopes : goal.returns-clause-scopes
returns-clause-scopes c = scope_at
