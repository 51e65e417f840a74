use Rattle.std.proofs.Common.{sym, ◌∙◌}
use Rattle.query_walks.proofs.Thinned.{leaves_alike, leaves_others}
use Rattle.query_walks.proofs.once.behind_alike.Goals as goal

pub alike_end-requires-clause-order : goal.alike_end-requires-clause-order
alike_end-requires-clause-order c = c.requires.first.later

pub alike_end-requires-clause-inside : goal.alike_end-requires-clause-inside
alike_end-requires-clause-inside c = c.requires.first.inside

pub behind-requires : goal.behind-requires
behind-requires c = (c.alike_end.ensures _ c.requires.spelled).inside

pub returns-then-keeps_again : goal.returns-then-keeps_again
returns-then-keeps_again c = leaves_alike _ _ _ _ _ c.requires.first _ (c.alike_end.ensures _ c.requires.spelled) (sym c.keeps_again.ensures ∙ c.if-keeps_again.true) c.behind.ensures

pub returns : goal.returns
returns c = leaves_others _ _ _ _ _ c.requires.first c.behind-2.ensures
