use Rattle.std.proofs.Common.{◌≡◌, ap, ◌∙◌}
use Rattle.page_tree.specs.Pages.{nodes}
use Rattle.page_image.specs.Image.{number}
use Rattle.page_image.proofs.Results.{if_ok_then}
use Rattle.event_loop.specs.Deliveries.{delivered, delivered_of}
use Rattle.page_image.specs.Around.{own_goes, goes}
use Rattle.page_image.proofs.Going.{root_is_one, goes_image}
use Rattle.page_image.proofs.ways.deliver.Goals as goal

pub deliver-requires : goal.deliver-requires
deliver-requires c = root_is_one c.args.page.now c.args.widget c.root_of.result c.requires.widget c.root_of.ensures

pub returns : goal.returns
returns c =
    let p = c.args.page.now in
    let w = c.args.widget in
    let l = c.args.around.now in
    let event = c.args.event.now in
    λ g s shows. if_ok_then c.deliver.result (λ d. delivered_of d ≡ delivered (nodes p) c.root_of.result l c.args.stopped event.path.items event.kind) (λ d. own_goes (number p w) g (delivered_of d) ≡ goes s c.args.stopped event.path.items event.kind)
    (λ d e. ap (own_goes (number p w) g) e ∙ goes_image p w c.root_of.result g l s c.requires.widget c.root_of.ensures shows c.args.stopped event.path.items event.kind)
    c.deliver.ensures
