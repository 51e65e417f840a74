use Rattle.std.proofs.Common.{◌≡◌, ◌+◌, arith}
use Rattle.widget_meaning.specs.Trees.{depth_of}
use Rattle.page_image.specs.Image.{number, forest}
use Rattle.page_image.proofs.Looks.{depth_told}
use Rattle.page_image.proofs.Pages.{is_node}
use Rattle.page_image.proofs.reads.depth.Goals as goal

pub depth-requires : goal.depth-requires
depth-requires c = is_node c.args.page.now c.args.widget c.args.node c.requires

pub overflow_sub-result : goal.overflow_sub-result
overflow_sub-result c =
    let e : depth_of (number c.args.page.now c.args.widget c.args.node) (forest c.args.page.now c.args.widget) + 1 ≡ c.depth.result = depth_told c.args.page.now c.args.widget c.args.node c.requires c.depth.result c.depth.ensures in
    omega (arith, e)

pub returns : goal.returns
returns c =
    let e : depth_of (number c.args.page.now c.args.widget c.args.node) (forest c.args.page.now c.args.widget) + 1 ≡ c.depth.result = depth_told c.args.page.now c.args.widget c.args.node c.requires c.depth.result c.depth.ensures in
    omega (arith, e)
