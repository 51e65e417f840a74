use Rattle.std.proofs.Common.{[], ◌∷◌, ◌++◌, ◌+◌, length, refl, sym, subst, take}
use Rattle.page_tree.specs.declared.fault.PageFault.TheVariants as fault
use Rattle.plain_tree.specs.Trees.{size}
use Rattle.page_image.specs.Copies.{AreCopied, SomeCopied, trees_at}
use Rattle.page_image.specs.Image.{own}
use Rattle.page_image.specs.Refusals.{RefusesCopies}
use Rattle.page_image.proofs.Refusing.{copy_too_many}
use Rattle.page_image.proofs.Results.{handed_on, err_holds}
use Rattle.page_image.proofs.Copies.{copied_none, copied_at, copied_all, some_copied, some_kept, still_owned}
use Rattle.page_image.proofs.Hosting.{host_same, host_then}
use Rattle.page_image.proofs.growth.copy_all.Goals as goal

pub each-init : goal.each-init
each-init c = (subst (λ l. AreCopied c.args.page.now c.args.page.now c.args.widget [] l) (sym c.new-ids.ensures.items) (copied_none c.args.page.now c.args.widget), host_same c.args.page.now c.args.page.now refl)

pub copy-requires : goal.copy-requires
copy-requires c = still_owned c.args.page.now c.each.page c.args.widget c.each.node-index c.args.nodes.now (take c.each.node-index c.args.nodes.now) c.each.ids.items c.each-test.true c.requires c.each.invariant.0

pub each-preserved : goal.each-preserved
each-preserved c = (copied_at c.args.page.now c.each.page c.copy.new.page c.args.widget c.each.node-index c.args.nodes.now c.each.ids.items c.keep.new.list.items c.in_ok-id.id c.each-test.true c.requires c.each.invariant.0 c.in_ok-keep.ensures c.in_ok-id.ensures.image c.in_ok-id.ensures.number c.in_ok-id.ensures.own c.in_ok-id.ensures.grows c.in_ok-id.ensures.others, host_then c.args.page.now c.each.page c.copy.new.page c.each.invariant.1 c.copy.ensures.host)

pub returns-clause-copied : goal.returns-clause-copied
returns-clause-copied c = copied_all c.args.page.now c.each.page c.args.widget c.each.node-index c.args.nodes.now c.each.ids.items c.each-test.false c.each.invariant.0

pub returns-in_err-id-clause-refused : goal.returns-in_err-id-clause-refused
returns-in_err-id-clause-refused c =
    let old = c.args.page.now in
    let w = c.args.widget in
    let ns = c.args.nodes.now in
    handed_on c.from_residual.result c.in_err-id.field-0.0 (RefusesCopies (length (own old w)) (size (trees_at old w ns))) c.from_residual.ensures.1
    (copy_too_many old c.each.page w c.each.node-index ns c.each.ids.items c.each-test.true c.requires c.each.invariant.0 c.in_err-id.field-0.0 c.in_err-id.ensures.refused)

pub returns-in_err-id-clause-left : goal.returns-in_err-id-clause-left
returns-in_err-id-clause-left c =
    let old = c.args.page.now in
    let w = c.args.widget in
    let ns = c.args.nodes.now in
    err_holds c.from_residual.result c.in_err-id.field-0.0 (SomeCopied old c.copy.new.page w ns) c.from_residual.ensures.1
    (some_kept old c.each.page c.copy.new.page w c.each.node-index ns c.each.ids.items c.each.invariant.0 c.in_err-id.ensures.unchanged c.in_err-id.ensures.kept)

pub returns-in_err-keep-clause-left : goal.returns-in_err-keep-clause-left
returns-in_err-keep-clause-left c =
    let old = c.args.page.now in
    let w = c.args.widget in
    let ns = c.args.nodes.now in
    let i = c.each.node-index in
    let id = c.in_ok-id.id in
    err_holds c.from_residual-in_err-keep.result fault.Memory (SomeCopied old c.copy.new.page w ns) c.from_residual-in_err-keep.ensures.1
    (some_copied old c.copy.new.page w (i + 1) ns (c.each.ids.items ++ id ∷ []) (copied_at old c.each.page c.copy.new.page w i ns c.each.ids.items (c.each.ids.items ++ id ∷ []) id c.each-test.true c.requires c.each.invariant.0 refl c.in_ok-id.ensures.image c.in_ok-id.ensures.number c.in_ok-id.ensures.own c.in_ok-id.ensures.grows c.in_ok-id.ensures.others))

pub returns-clause-host : goal.returns-clause-host
returns-clause-host c = c.each.invariant.1

pub returns-in_err-id-clause-host : goal.returns-in_err-id-clause-host
returns-in_err-id-clause-host c = host_then c.args.page.now c.each.page c.copy.new.page c.each.invariant.1 c.copy.ensures.host

pub returns-in_err-keep-clause-host : goal.returns-in_err-keep-clause-host
returns-in_err-keep-clause-host c = host_then c.args.page.now c.each.page c.copy.new.page c.each.invariant.1 c.copy.ensures.host
