use Rattle.std.proofs.Common.{sym}
use Rattle.reach_cert.specs.Certs.{cert_text}
use Rattle.reach_cert.proofs.Exact.{spells, only_cert, same_line, not_both}
use Rattle.reach_cert.proofs.laws.one_answer.Goals as goal

pub returns-clause-one_cert : goal.returns-clause-one_cert
returns-clause-one_cert c = λ slots others a b is. only_cert (cert_text slots) others slots b (sym is) (spells slots a)

pub returns-clause-one_line : goal.returns-clause-one_line
returns-clause-one_line c = same_line

pub returns-clause-no_cert : goal.returns-clause-no_cert
returns-clause-no_cert c = not_both
