use Rattle.std.proofs.Common.{◌≡◌, None}
use Rattle.plain_tree.specs.Trees.{beside}
use Rattle.tree_ops.specs.Trees.{subtree, without}
use Rattle.page_nodes.specs.Entries.{body}
use Rattle.page_nodes.specs.Moves.{IsLinked}
use Rattle.page_tree.specs.Pages.{BecomesRoot, nodes}
use Rattle.page_image.specs.Image.{forest, number}
use Rattle.page_image.specs.Stays.{GetsRoot, OthersStay}
use Rattle.page_image.proofs.Adopting.{gets_root, has_none, linked_root, root_image, root_others, top_alone}
use Rattle.page_image.proofs.Looks.{not_the_body}
use Rattle.page_image.proofs.Pages.{is_node}
use Rattle.page_image.proofs.Results.{ok_both, ok_then}
use Rattle.page_build.proofs.rooting.adopt.Goals as goal

pub adopt-requires-clause-node : goal.adopt-requires-clause-node
adopt-requires-clause-node c = is_node c.args.page.now c.args.w c.args.node c.requires.own

pub adopt-requires-clause-other : goal.adopt-requires-clause-other
adopt-requires-clause-other c = not_the_body c.args.page.now c.args.w c.args.node c.requires.own

pub adopt-requires-clause-top : goal.adopt-requires-clause-top
adopt-requires-clause-top c = top_alone c.args.page.now c.args.w c.args.node c.requires.own c.requires.free c.requires.top

pub adopt-requires-clause-free : goal.adopt-requires-clause-free
adopt-requires-clause-free c = has_none c.args.page.now c.args.w c.args.node c.requires.own c.requires.free

pub returns-clause-image : goal.returns-clause-image
returns-clause-image c =
    let old = c.args.page.now in
    let new = c.adopt.new.self in
    let w = c.args.w in
    let n = c.args.node in
    ok_both c.adopt.result (IsLinked (nodes old) (nodes new) body None n) (BecomesRoot old new n) (forest new w ≡ beside (subtree (number old w n) (forest old w)) (without (number old w n) (forest old w)))
    (λ a b. root_image old new w n c.requires.own c.requires.free (linked_root old new w n a b) c.requires.top) c.adopt.ensures.done c.adopt.ensures.becomes

pub returns-clause-becomes : goal.returns-clause-becomes
returns-clause-becomes c =
    let old = c.args.page.now in
    let new = c.adopt.new.self in
    let w = c.args.w in
    let n = c.args.node in
    ok_both c.adopt.result (IsLinked (nodes old) (nodes new) body None n) (BecomesRoot old new n) (GetsRoot old new w n)
    (λ a b. gets_root old new w n c.requires.own c.requires.free (linked_root old new w n a b)) c.adopt.ensures.done c.adopt.ensures.becomes

pub returns-clause-others : goal.returns-clause-others
returns-clause-others c =
    let old = c.args.page.now in
    let new = c.adopt.new.self in
    let w = c.args.w in
    let n = c.args.node in
    ok_both c.adopt.result (IsLinked (nodes old) (nodes new) body None n) (BecomesRoot old new n) (OthersStay old new w)
    (λ a b. root_others old new w n c.requires.own c.requires.free (linked_root old new w n a b)) c.adopt.ensures.done c.adopt.ensures.becomes

pub returns-clause-many : goal.returns-clause-many
returns-clause-many c = ok_then c.adopt.result _ _ (λ d. d.kept.made) c.adopt.ensures.done
