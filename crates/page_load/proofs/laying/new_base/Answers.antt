use Rattle.std.proofs.Common.{sym, subst}
use Rattle.store_cells.specs.Cells.{Cells}
use Rattle.page_nodes.specs.Entries.{body}
use Rattle.native_image.specs.Sound.{HasRaw}
use Rattle.page_load.specs.Laying.{IsBare, IsUnused}
use Rattle.page_load.proofs.Fresh.{first_bare, first_body, first_unused}
use Rattle.page_load.proofs.Lots.{laid_none, lays_none}
use Rattle.page_load.proofs.laying.new_base.Goals as goal

pub returns-clause-laid : goal.returns-clause-laid
returns-clause-laid c =
    laid_none c.args.slots.now c.new-roots.result.items c.in_ok-store.store c.in_ok-page.page c.new-roots.ensures.items c.in_ok-page.ensures.away (c.in_ok-page.ensures.raws c.in_ok-store.store (subst (λ (s : Cells). HasRaw s.cells body) (sym c.in_ok-store.ensures) first_body)) (subst (λ s. IsUnused s 0) (sym c.in_ok-store.ensures) first_unused)
    (λ w. subst (IsBare w) (sym c.in_ok-store.ensures) (first_bare w))

pub returns-clause-lays : goal.returns-clause-lays
returns-clause-lays c = lays_none c.in_ok-page.page c.new-roots.result.items c.new-roots.ensures.items c.in_ok-page.ensures.laid
