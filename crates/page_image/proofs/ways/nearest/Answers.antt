use Rattle.std.proofs.Common.{◌≡◌, ap, ◌∙◌}
use Rattle.page_tree.specs.Pages.{nodes}
use Rattle.page_image.specs.Image.{number}
use Rattle.page_image.proofs.Results.{if_ok_then}
use Rattle.query_grammar.specs.Renumbering.{renumbered}
use Rattle.std.proofs.Common.{sym}
use Rattle.widget_meaning.specs.Dispatch as meaning
use Rattle.event_loop.specs.Deliveries.{nearest, most, found_of}
use Rattle.page_image.specs.Around.{own_found}
use Rattle.page_image.proofs.Going.{is_one, found_image}
use Rattle.page_image.proofs.ways.nearest.Goals as goal

pub nearest-requires : goal.nearest-requires
nearest-requires c = is_one c.args.page.now c.args.widget c.args.node c.requires.own

pub returns : goal.returns
returns c =
    let p = c.args.page.now in
    let w = c.args.widget in
    let l = c.args.around.now in
    λ g s shows. if_ok_then c.nearest.result (λ found. found_of found ≡ nearest most (nodes p) c.root_of.result l c.args.node c.args.kind.now) (λ found. own_found (number p w) g (found_of found) ≡ meaning.nearest s (renumbered (number p w) c.args.node) c.args.kind.now)
    (λ found e. ap (own_found (number p w) g) e ∙ sym (found_image p w c.root_of.result g l s c.requires.widget c.root_of.ensures shows c.args.node c.args.kind.now c.requires.own))
    c.nearest.ensures
