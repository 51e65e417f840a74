use Rattle.std.proofs.Common.{◌<◌, length, arith}
use Rattle.std.specs.Prelude.{map}
use Rattle.first_breach.specs.Breaches.{Nothing, Each}
use Rattle.first_breach.specs.Narrowing.{Narrows}
use Rattle.first_breach.proofs.Narrowing.{each_none}
use Rattle.node_rules.specs.Names.{placed}
use Rattle.node_rules.specs.Sets.{PropertyRow}
use Rattle.node_rules.proofs.Placing.{placed_step, all_taken, firsts_at, firsts_length}
use Rattle.node_rules.proofs.rows.key_names.Goals as goal

pub keys-init : goal.keys-init
keys-init c = each_none PropertyRow c.args.best

pub keys-preserved : goal.keys-preserved
keys-preserved c =
    let xs = c.args.list.now in
    let x = c.index-list-i.result in
    let lt : c.keys.i < length (map (λ p. p.0) xs) = omega (arith, c.keys-test.true, firsts_length xs) in
    placed_step PropertyRow _ _ _ c.args.at c.args.places.now (map (λ p. p.0) xs) c.keys.i _ x.0 lt (firsts_at xs c.keys.i x c.index-list-i.is c.keys-test.true) c.place_at.ensures c.keys.invariant c.property-least.ensures

pub returns : goal.returns
returns c = all_taken (λ l. Narrows (Each PropertyRow (placed c.args.at c.args.places.now l)) c.args.best Nothing c.keys.least) (map (λ p. p.0) c.args.list.now) c.keys.i (omega (arith, c.keys-test.false, firsts_length c.args.list.now)) c.keys.invariant
