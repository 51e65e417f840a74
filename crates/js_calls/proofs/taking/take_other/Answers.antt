use Rattle.js_calls.proofs.taking.take_other.Goals as goal

pub returns-in-CallEnd-clause-fine : goal.returns-in-CallEnd-clause-fine
returns-in-CallEnd-clause-fine c = rw c.give.ensures (tt, c.call_end.ensures.fine c.args.w c.args.store.now.cells c.requires.held.1)
