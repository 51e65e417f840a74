use Rattle.turn_dispatch.proofs.Taken.{popped}
use Rattle.turn_dispatch.proofs.giving.close.Goals as goal

pub returns-in-Some : goal.returns-in-Some
returns-in-Some c = λ fs x w s p l. popped fs x w s p l c.pop.new.self.items c.args.dispatches.now.items c.in-Some.bubbled c.in-Some.ensures.items
