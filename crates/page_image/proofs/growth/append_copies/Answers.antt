use Rattle.std.proofs.Common.{◌≡◌, None, true, false, map, length, ap, ◌∙◌, ◌⊎◌}
use Rattle.std.specs.List.{fold}
use Rattle.page_tree.specs.declared.fault.PageFault.TheVariants as fault
use Rattle.plain_tree.specs.Trees.{size}
use Rattle.tree_ops.specs.Trees.{grafted}
use Rattle.widget_meaning.specs.Trees.{moved}
use Rattle.page_image.specs.Copies.{SomeCopied, trees_at, copies_of}
use Rattle.page_image.specs.Image.{number, own, forest}
use Rattle.page_image.specs.Refusals.{RefusesCopies}
use Rattle.page_image.specs.Targets.{takes}
use Rattle.page_image.proofs.Copies.{still_root, copies_put, all_kept}
use Rattle.page_image.proofs.Looks.{root_owned}
use Rattle.page_image.proofs.Pages.{owner_is, below_32}
use Rattle.page_image.proofs.Refusing.{copies_refused}
use Rattle.page_image.proofs.Results.{ok_then, err_then, if_err_then}
use Rattle.page_image.proofs.Hosting.{host_then}
use Rattle.page_image.proofs.growth.append_copies.Goals as goal

pub append-requires-clause-home : goal.append-requires-clause-home
append-requires-clause-home c =
    let old = c.args.page.now in
    let w = c.args.widget in
    let g = c.in_ok-ids.ensures.copied.grown in
    still_root old c.copy_all.new.page w (g.0) (below_32 old w c.args.target c.requires.target) (g.2) c.requires.home (root_owned old w c.requires.home (owner_is old w c.args.target c.requires.target))

pub returns-clause-image : goal.returns-clause-image
returns-clause-image c =
    let old = c.args.page.now in
    let mid = c.copy_all.new.page in
    let new = c.append.new.page in
    let w = c.args.widget in
    let t = c.args.target in
    ok_then c.append.result (forest new w ≡ fold (moved (number mid w t) None) (forest mid w) (map (number mid w) c.deref.result.now)) (forest new w ≡ grafted (number old w t) None (copies_of old w c.args.nodes.now) (forest old w))
    (λ e. copies_put old mid new w t c.args.nodes.now c.in_ok-ids.ids.items c.in_ok-ids.ensures.copied c.requires.target (e ∙ ap (λ l. fold (moved (number mid w t) None) (forest mid w) (map (number mid w) l)) c.deref.ensures.value)) c.append.ensures.image

pub returns-clause-refused : goal.returns-clause-refused
returns-clause-refused c =
    let old = c.args.page.now in
    let mid = c.copy_all.new.page in
    let w = c.args.widget in
    let t = c.args.target in
    let ns = c.args.nodes.now in
    if_err_then c.append.result (λ f. (f ≡ fault.Memory) ⊎ (takes (forest mid w) (map (number mid w) c.deref.result.now) (number mid w t) ≡ false)) (λ f. takes (forest old w) (map (number old w) ns) (number old w t) ≡ true → RefusesCopies (length (own old w)) (size (trees_at old w ns)) f)
    (copies_refused old mid w t ns c.in_ok-ids.ids.items c.in_ok-ids.ensures.copied c.requires.target c.requires.nodes c.deref.result.now c.deref.ensures.value) c.append.ensures.refused

pub returns-clause-left : goal.returns-clause-left
returns-clause-left c =
    let old = c.args.page.now in
    let mid = c.copy_all.new.page in
    let new = c.append.new.page in
    let w = c.args.widget in
    err_then c.append.result (forest new w ≡ forest mid w) (SomeCopied old new w c.args.nodes.now)
    (all_kept old mid new w c.args.nodes.now c.in_ok-ids.ids.items c.in_ok-ids.ensures.copied c.append.ensures.kept) c.append.ensures.unchanged

pub returns-clause-host : goal.returns-clause-host
returns-clause-host c = host_then c.args.page.now c.copy_all.new.page c.append.new.page c.copy_all.ensures.host c.append.ensures.host
