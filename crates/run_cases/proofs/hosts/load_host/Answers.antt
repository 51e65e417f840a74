use Rattle.std.proofs.Common.{refl, rules}
use Rattle.run_cases.proofs.Staying.{ready_loaded}
use Rattle.run_cases.proofs.hosts.load_host.Goals as goal

pub slice_bounds-of_files-end : goal.slice_bounds-of_files-end
slice_bounds-of_files-end c = refl

pub returns : goal.returns
returns c = ready_loaded c.args.to c.in_ok-slots.slots c.args.loading c.in-Ok.host c.requires c.in-Ok.ensures (search rules)
