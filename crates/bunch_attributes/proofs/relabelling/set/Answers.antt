use Rattle.native_image.proofs.Keeping.{host_here}
use Rattle.bunch_attributes.proofs.relabelling.set.Goals as goal

pub returns-in_err-value-clause-host : goal.returns-in_err-value-clause-host
returns-in_err-value-clause-host c = host_here c.args.page.now
