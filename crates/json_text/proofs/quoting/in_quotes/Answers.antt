use Rattle.std.proofs.Common.{arith}
use Rattle.json_text.proofs.Quoted.{quoted_is}
use Rattle.json_text.proofs.quoting.in_quotes.Goals as goal

pub returns : goal.returns
returns c = quoted_is c.args.units.now (λ i. omega (arith, c.type_inv.units i))
