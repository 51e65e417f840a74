use Rattle.json_judge.proofs.Kept.{has_refused}
use Rattle.json_judge.proofs.members.is_held.Goals as goal

pub returns-in-Some : goal.returns-in-Some
returns-in-Some c = λ found are yes. has_refused c.in-Some.field-0.now.now found (are c.in-Some.field-0.now c.in-Some.ensures.member)
