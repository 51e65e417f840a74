use Rattle.std.proofs.Common.{ap, arith}
use Rattle.std.specs.Fmt.{decimal}
use Rattle.std.specs.Prelude.{unwrap_or}
use Rattle.store_cells.specs.declared.value.Value.TheVariants as value
use Rattle.js_image.proofs.Found.{read_found}
use Rattle.js_image.proofs.reading.indexed_at.Goals as goal

pub returns-clause-found : goal.returns-clause-found
returns-clause-found c = λ fs r w confined held. (read_found fs w c.args.store.now confined c.lawful.ensures (decimal c.args.i) (value.Ref c.args.cell) held (omega (arith, c.chain-links.ensures.count, c.chain-links.ensures.few)) _ (ap (λ o. unwrap_or o value.Undefined) c.get_index.ensures)).0 r

pub returns-clause-fine : goal.returns-clause-fine
returns-clause-fine c = λ fs w confined held. (read_found fs w c.args.store.now confined c.lawful.ensures (decimal c.args.i) (value.Ref c.args.cell) held (omega (arith, c.chain-links.ensures.count, c.chain-links.ensures.few)) _ (ap (λ o. unwrap_or o value.Undefined) c.get_index.ensures)).1
