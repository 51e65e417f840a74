use Rattle.std.proofs.Common.{ap, false, nat_lt, sym, ◌∙◌, ℕ, Option}
use Rattle.std.specs.Option.{option_map_or}
use Rattle.store_cells.proofs.Live.{index_by}
use Rattle.store_cells.proofs.pairs.is_index_below.Goals as goal

pub returns-in-None : goal.returns-in-None
returns-in-None c = ap (λ (o : Option ℕ). option_map_or (λ i. nat_lt i c.args.n) o false) (sym c.in-None.is ∙ c.index.ensures ∙ index_by c.args.names.now c.args.k)

pub returns-in-Some : goal.returns-in-Some
returns-in-Some c = ap (λ (o : Option ℕ). option_map_or (λ i. nat_lt i c.args.n) o false) (sym c.in-Some.is ∙ c.index.ensures ∙ index_by c.args.names.now c.args.k)
