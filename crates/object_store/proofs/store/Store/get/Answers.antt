use Rattle.std.proofs.Common.{◌∙◌, ℕ, Option, [], ap}
use Rattle.std.specs.Prelude.{option_copied}
use Rattle.std.specs.Option.{option_map_or}
use Rattle.store_cells.specs.Cells.{chain, first_own}
use Rattle.object_store.proofs.Chains.{along_first}
use Rattle.object_store.proofs.store.Store.get.Goals as goal

pub returns-in_err-from : goal.returns-in_err-from
returns-in_err-from c = ap option_copied c.from_residual.ensures ∙ ap (λ (o : Option ℕ). first_own c.args.name.now (option_map_or (chain c.args.self.now.cells) o [])) c.in_err-from.ensures.start

pub returns : goal.returns
returns c = c.get_along.ensures ∙ along_first c.args.self.now.cells c.in_ok-from.from c.args.name.now ∙ ap (λ (o : Option ℕ). first_own c.args.name.now (option_map_or (chain c.args.self.now.cells) o [])) c.in_ok-from.ensures.start
