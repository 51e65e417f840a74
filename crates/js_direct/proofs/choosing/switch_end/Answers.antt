use Rattle.std.proofs.Common.{ap, sym}
use Rattle.js_flow.specs.Views.{completion_of}
use Rattle.js_direct.specs.declared.run.Ended.{Ended}
use Rattle.js_direct.specs.Comes.{ended_as}
use Rattle.widget_meaning.specs.Statements.{switch_end}
use Rattle.js_direct.proofs.Rarer.{switch_passes}
use Rattle.js_direct.proofs.choosing.switch_end.Goals as goal

pub returns-in-Break-clause-plan : goal.returns-in-Break-clause-plan
returns-in-Break-clause-plan c = λ w cells v s. ap (λ (e : Ended). switch_end (completion_of w cells (ended_as e v)) s) (sym c.in-Break.is)

pub returns-in_default-clause-plan : goal.returns-in_default-clause-plan
returns-in_default-clause-plan c = λ w cells v s. switch_passes w cells v s c.args.how c.in_default.not-Break

pub returns-in_default-clause-end : goal.returns-in_default-clause-end
returns-in_default-clause-end c = c.requires

pub returns-in_default-clause-fine : goal.returns-in_default-clause-fine
returns-in_default-clause-fine c = λ w cells v h. h
