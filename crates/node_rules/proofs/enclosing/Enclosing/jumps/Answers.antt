use Rattle.std.proofs.Common.{◌≡◌, suc, ◌-◌, length, arith}
use Rattle.node_rules.specs.Binding.{no_jumps}
use Rattle.node_rules.proofs.Open.{jumps_last}
use Rattle.node_rules.proofs.enclosing.Enclosing.jumps.Goals as goal

pub returns : goal.returns
returns c =
    let os = c.args.self.now.stack.items in
    let n = c.len-n.result in
    let e : length os ≡ suc (n - 1) = omega arith in
    jumps_last no_jumps os (n - 1) c.index.result.now e c.index.ensures
