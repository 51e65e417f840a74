use Rattle.bunch_write.proofs.Bubbled.{is_marked, none_open}
use Rattle.bunch_write.proofs.each.bubble.Goals as goal

pub returns-in-None : goal.returns-in-None
returns-in-None c = λ w s p l f sound. none_open w s p l f sound c.args.bubbled.now c.in-None.is

pub returns-in-Some : goal.returns-in-Some
returns-in-Some c = λ w s p l f sound. is_marked w s p l f sound c.args.bubbled.now c.in-Some.field-0 c.in-Some.is
