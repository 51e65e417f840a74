use Rattle.std.proofs.Common.{◌≡◌, ap, sym, ◌∙◌}
use Rattle.page_tree.specs.Pages.{nodes}
use Rattle.page_image.specs.Image.{number}
use Rattle.page_image.proofs.Results.{if_ok_then}
use Rattle.event_loop.specs.Deliveries.{found_of, most, nearest}
use Rattle.page_image.specs.Around.{own_found}
use Rattle.page_image.proofs.Going.{found_image, is_one}
use Rattle.turn_dispatch.proofs.Listening.{all_own}
use Rattle.turn_dispatch.proofs.searching.listeners.Goals as goal

pub nearest-requires : goal.nearest-requires
nearest-requires c = is_one c.args.page.now c.args.w.index c.args.node c.requires.own

pub returns-clause-image : goal.returns-clause-image
returns-clause-image c =
    let p = c.args.page.now in
    let w = c.args.w.index in
    let l = c.args.around.now in
    if_ok_then c.nearest.result (λ found. found_of found ≡ nearest most (nodes p) c.root_of.result l c.args.node c.args.kind.now) _
    (λ found e. λ g s shows. ap (own_found (number p w) g) e ∙ sym (found_image p w c.root_of.result g l s c.args.w.small c.root_of.ensures shows c.args.node c.args.kind.now c.requires.own))
    c.nearest.ensures

pub returns-clause-own : goal.returns-clause-own
returns-clause-own c =
    let p = c.args.page.now in
    let l = c.args.around.now in
    if_ok_then c.nearest.result (λ found. found_of found ≡ nearest most (nodes p) c.root_of.result l c.args.node c.args.kind.now) _
    (λ found e. λ s holds. all_own most (nodes p) c.root_of.result c.args.node c.args.kind.now c.args.w.index s p l holds found e)
    c.nearest.ensures
