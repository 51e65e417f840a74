use Rattle.std.proofs.Common.{◌≡◌, None, true}
use Rattle.plain_tree.specs.Trees.{beside}
use Rattle.tree_ops.specs.Trees.{subtree, without}
use Rattle.page_nodes.specs.Entries.{body}
use Rattle.page_nodes.specs.Moves.{IsLinked}
use Rattle.page_tree.specs.Pages.{nodes, BecomesRoot, SameRoots}
use Rattle.page_image.specs.Image.{number, forest, is_shown}
use Rattle.page_image.specs.Stays.{KeepsNodes, GetsRoot, OthersStay}
use Rattle.page_image.proofs.Adopting.{top_alone, has_none, linked_root, linked_shown, root_image, gets_root, root_others}
use Rattle.page_image.proofs.Looks.{not_the_body}
use Rattle.page_image.proofs.Pages.{is_node, all_keep, all_stay, below_32}
use Rattle.page_image.proofs.Results.{ok_then, ok_both, err_both, either}
use Rattle.page_image.proofs.roots.adopt.Goals as goal

pub adopt-requires-clause-node : goal.adopt-requires-clause-node
adopt-requires-clause-node c = is_node c.args.page.now c.args.widget c.args.node c.requires.own

pub adopt-requires-clause-other : goal.adopt-requires-clause-other
adopt-requires-clause-other c = not_the_body c.args.page.now c.args.widget c.args.node c.requires.own

pub adopt-requires-clause-top : goal.adopt-requires-clause-top
adopt-requires-clause-top c = top_alone c.args.page.now c.args.widget c.args.node c.requires.own c.requires.free c.requires.top

pub adopt-requires-clause-free : goal.adopt-requires-clause-free
adopt-requires-clause-free c = has_none c.args.page.now c.args.widget c.args.node c.requires.own c.requires.free

pub returns-clause-image : goal.returns-clause-image
returns-clause-image c =
    let old = c.args.page.now in
    let new = c.adopt.new.self in
    let w = c.args.widget in
    let n = c.args.node in
    ok_both c.adopt.result (IsLinked (nodes old) (nodes new) body None n) (BecomesRoot old new n) (forest new w ≡ beside (subtree (number old w n) (forest old w)) (without (number old w n) (forest old w)))
    (λ a b. root_image old new w n c.requires.own c.requires.free (linked_root old new w n a b) c.requires.top) c.adopt.ensures.done c.adopt.ensures.becomes

pub returns-clause-becomes : goal.returns-clause-becomes
returns-clause-becomes c =
    let old = c.args.page.now in
    let new = c.adopt.new.self in
    let w = c.args.widget in
    let n = c.args.node in
    ok_both c.adopt.result (IsLinked (nodes old) (nodes new) body None n) (BecomesRoot old new n) (GetsRoot old new w n)
    (λ a b. gets_root old new w n c.requires.own c.requires.free (linked_root old new w n a b)) c.adopt.ensures.done c.adopt.ensures.becomes

pub returns-clause-shown : goal.returns-clause-shown
returns-clause-shown c =
    let old = c.args.page.now in
    let new = c.adopt.new.self in
    ok_then c.adopt.result (IsLinked (nodes old) (nodes new) body None c.args.node) (is_shown new c.args.node ≡ true) (linked_shown old new c.args.node) c.adopt.ensures.done

pub returns-clause-unchanged : goal.returns-clause-unchanged
returns-clause-unchanged c =
    let old = c.args.page.now in
    let new = c.adopt.new.self in
    let w = c.args.widget in
    err_both c.adopt.result (nodes new ≡ nodes old) (SameRoots old new) (forest new w ≡ forest old w) (λ e s. all_stay old new s e w (below_32 old w c.args.node c.requires.own)) c.adopt.ensures.unchanged c.adopt.ensures.same_roots

pub returns-clause-kept : goal.returns-clause-kept
returns-clause-kept c =
    let old = c.args.page.now in
    let new = c.adopt.new.self in
    err_both c.adopt.result (nodes new ≡ nodes old) (SameRoots old new) (KeepsNodes old new) (λ e s. all_keep old new s e) c.adopt.ensures.unchanged c.adopt.ensures.same_roots

pub returns-clause-others : goal.returns-clause-others
returns-clause-others c =
    let old = c.args.page.now in
    let new = c.adopt.new.self in
    let w = c.args.widget in
    let n = c.args.node in
    either c.adopt.result (OthersStay old new w) (OthersStay old new w) (OthersStay old new w) (λ e. e) (λ e. e)
    (ok_both c.adopt.result (IsLinked (nodes old) (nodes new) body None n) (BecomesRoot old new n) (OthersStay old new w) (λ a b. root_others old new w n c.requires.own c.requires.free (linked_root old new w n a b)) c.adopt.ensures.done c.adopt.ensures.becomes)
    (err_both c.adopt.result (nodes new ≡ nodes old) (SameRoots old new) (OthersStay old new w) (λ e s v lt ne. all_stay old new s e v lt) c.adopt.ensures.unchanged c.adopt.ensures.same_roots)
