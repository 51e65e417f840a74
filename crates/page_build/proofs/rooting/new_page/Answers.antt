use Rattle.std.proofs.lemmas.Result.{IfOk-weaker}
use Rattle.page_build.proofs.Homes.{both_ok, all_away, first_raws}
use Rattle.page_build.proofs.Laid.{laid_none}
use Rattle.page_build.proofs.rooting.new_page.Goals as goal

pub returns-clause-away : goal.returns-clause-away
returns-clause-away c = both_ok c.new.result (λ p e roots w lt. all_away p e w (roots w lt)) c.new.ensures.nodes c.new.ensures.roots

pub returns-clause-raws : goal.returns-clause-raws
returns-clause-raws c = IfOk-weaker c.new.result _ _ (λ p e. first_raws p e) c.new.ensures.nodes

pub returns-clause-laid : goal.returns-clause-laid
returns-clause-laid c = IfOk-weaker c.new.result _ _ (λ p e. laid_none p e) c.new.ensures.nodes
