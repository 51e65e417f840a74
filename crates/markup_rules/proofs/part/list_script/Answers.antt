use Rattle.std.proofs.Common.{sym}
use Rattle.markup_rules.proofs.Nodes.{script_listed}
use Rattle.markup_rules.proofs.part.list_script.Goals as goal

pub returns-in_ok-push-in-Some : goal.returns-in_ok-push-in-Some
returns-in_ok-push-in-Some c = script_listed c.in-Some.part _ c.args.found.now.items c.push.new.self.items c.in-Some.ensures (sym c.if-is_word.ensures) c.in_ok-push-in-Some.ensures.items
