use Rattle.std.proofs.Common.{◌∙◌, ℕ, Option, [], ap}
use Rattle.std.specs.Prelude.{option_copied}
use Rattle.std.specs.Option.{option_map_or}
use Rattle.store_cells.specs.Cells.{chain, first_own}
use Rattle.std.specs.Fmt.{decimal}
use Rattle.object_store.proofs.Chains.{along_first}
use Rattle.object_store.proofs.store.Store.get_index.Goals as goal

pub returns-in_err-from : goal.returns-in_err-from
returns-in_err-from c = ap option_copied c.from_residual.ensures ∙ ap (λ (o : Option ℕ). first_own (decimal c.args.i) (option_map_or (chain c.args.self.now.cells) o [])) c.in_err-from.ensures.start

pub returns : goal.returns
returns c = c.index_along.ensures ∙ along_first c.args.self.now.cells c.in_ok-from.from (decimal c.args.i) ∙ ap (λ (o : Option ℕ). first_own (decimal c.args.i) (option_map_or (chain c.args.self.now.cells) o [])) c.in_ok-from.ensures.start
