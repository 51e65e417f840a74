use Rattle.std.proofs.Common.{[], refl, sym, subst, ◌∙◌, take}
use Rattle.js_image.proofs.Grown.{kept_same}
use Rattle.js_image.proofs.Units.{kept_then}
use Rattle.page_image.specs.Copies.{AreCopied}
use Rattle.page_image.proofs.Copies.{copied_all, copied_at, copied_none, still_owned}
use Rattle.native_image.proofs.Keeping.{keeps_here, keeps_then}
use Rattle.bunch_trees.proofs.copying.copy_all.Goals as goal

pub each-init : goal.each-init
each-init c =
    let w = c.args.w.index in
    let p = c.args.page.now in
    let s = c.args.store.now in
    record {
      copied = subst (λ l. AreCopied p p w [] l) (sym c.new-ids.ensures.items) (copied_none p w);
      sound = λ k h. h;
      same = λ v. refl;
      store = λ fs. kept_same fs w s s refl;
      kept = λ k h. keeps_here w s p k h;
    }

pub copy_tree-requires : goal.copy_tree-requires
copy_tree-requires c = still_owned c.args.page.now c.each.page c.args.w.index c.each.node-index c.args.news.now (take c.each.node-index c.args.news.now) c.each.ids.items c.each-test.true c.requires c.each.invariant.copied

pub each-preserved : goal.each-preserved
each-preserved c =
    let w = c.args.w.index in
    let p = c.args.page.now in
    let s = c.args.store.now in
    let m = c.each.store in
    let r = c.each.page in
    let t = c.copy_tree.new.store in
    let q = c.copy_tree.new.page in
    let before = c.each.invariant in
    let g = c.in_ok-id.ensures.grown in
    record {
      copied = copied_at p r q w c.each.node-index c.args.news.now c.each.ids.items c.keep.new.ids.items c.in_ok-id.id c.each-test.true c.requires before.copied c.in_ok-keep.ensures g.trees g.first g.mine g.grows g.others;
      sound = λ k h. c.in_ok-id.ensures.sound k (before.sound k h);
      same = λ v. c.copy_tree.ensures.same v ∙ before.same v;
      store = λ fs. kept_then fs w s m t (before.store fs) (c.copy_tree.ensures.store fs);
      kept = λ k h. keeps_then w s m t p r q k k (before.kept k h) (c.copy_tree.ensures.kept k (before.kept k h).holds);
    }

pub returns-clause-copied : goal.returns-clause-copied
returns-clause-copied c = copied_all c.args.page.now c.each.page c.args.w.index c.each.node-index c.args.news.now c.each.ids.items c.each-test.false c.each.invariant.copied

pub returns-clause-sound : goal.returns-clause-sound
returns-clause-sound c = c.each.invariant.sound

pub returns-clause-kept : goal.returns-clause-kept
returns-clause-kept c = c.each.invariant.kept

pub returns-in_err-id-clause-same : goal.returns-in_err-id-clause-same
returns-in_err-id-clause-same c = λ v. c.copy_tree.ensures.same v ∙ c.each.invariant.same v

pub returns-in_err-id-clause-store : goal.returns-in_err-id-clause-store
returns-in_err-id-clause-store c = λ fs. kept_then fs c.args.w.index c.args.store.now c.each.store c.copy_tree.new.store (c.each.invariant.store fs) (c.copy_tree.ensures.store fs)

pub returns-in_err-id-clause-kept : goal.returns-in_err-id-clause-kept
returns-in_err-id-clause-kept c = λ k h. keeps_then c.args.w.index c.args.store.now c.each.store c.copy_tree.new.store c.args.page.now c.each.page c.copy_tree.new.page k k (c.each.invariant.kept k h) (c.copy_tree.ensures.kept k (c.each.invariant.kept k h).holds)

pub returns-in_err-keep-clause-same : goal.returns-in_err-keep-clause-same
returns-in_err-keep-clause-same c = λ v. c.copy_tree.ensures.same v ∙ c.each.invariant.same v

pub returns-in_err-keep-clause-store : goal.returns-in_err-keep-clause-store
returns-in_err-keep-clause-store c = λ fs. kept_then fs c.args.w.index c.args.store.now c.each.store c.copy_tree.new.store (c.each.invariant.store fs) (c.copy_tree.ensures.store fs)

pub returns-in_err-keep-clause-kept : goal.returns-in_err-keep-clause-kept
returns-in_err-keep-clause-kept c = λ k h. keeps_then c.args.w.index c.args.store.now c.each.store c.copy_tree.new.store c.args.page.now c.each.page c.copy_tree.new.page k k (c.each.invariant.kept k h) (c.copy_tree.ensures.kept k (c.each.invariant.kept k h).holds)
