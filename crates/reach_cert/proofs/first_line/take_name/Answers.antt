use Rattle.std.proofs.Common.{sym, ap, ◌∙◌}
use Rattle.reach_cert.specs.Blocks.{words_of}
use Rattle.reach_cert.proofs.Blocks.{not_allowed}
use Rattle.reach_cert.proofs.first_line.take_name.Goals as goal

pub returns-then-not-is_free-clause-fault : goal.returns-then-not-is_free-clause-fault
returns-then-not-is_free-clause-fault c =
    λ slots next same is.
    rw c.fault.ensures (not_allowed slots c.args.word.now next c.args.lines.now (sym (c.is_free.ensures slots (ap words_of c.deref.ensures.value ∙ same)) ∙ c.if-not-is_free.true) is)
