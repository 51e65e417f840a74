use Rattle.std.proofs.Common.{[], refl, subst, length}
use Rattle.plain_tree.specs.Trees.{PlainTrees, size}
use Rattle.tree_ops.specs.Trees.{numbered}
use Rattle.js_image.proofs.Grown.{kept_same}
use Rattle.page_image.specs.Image.{own}
use Rattle.page_image.proofs.Results.{ok_then}
use Rattle.native_image.specs.Grown.{IsGrown}
use Rattle.native_image.proofs.Keeping.{keeps_paged, keeps_then, sound_page}
use Rattle.bunch_trees.proofs.Numbered.{one_own}
use Rattle.bunch_trees.proofs.Texts.{text_comes}
use Rattle.native_image.specs.Handed.{state}
use Rattle.bunch_trees.proofs.writing.put_text.Goals as goal

pub put_under-requires-clause-home : goal.put_under-requires-clause-home
put_under-requires-clause-home c = (c.add_tree.ensures.kept c.requires.sound.0 c.requires.sound.1.holds).holds.home

pub put_under-requires-clause-target : goal.put_under-requires-clause-target
put_under-requires-clause-target c = (c.add_tree.ensures.kept c.requires.sound.0 c.requires.sound.1.holds).page.owners c.args.w.index c.args.node c.requires.own

pub put_under-requires-clause-news : goal.put_under-requires-clause-news
put_under-requires-clause-news c = one_own c.add_tree.new.page c.args.w.index c.in_ok-id.id c.in_ok-id.ensures.grown.mine

pub returns-clause-done : goal.returns-clause-done
returns-clause-done c =
    let w = c.args.w.index in
    let p = c.args.page.now in
    let r = c.add_tree.new.page in
    let q = c.put_under.new.page in
    let s = c.args.store.now in
    let t = c.add_tree.new.store in
    let grown = subst (λ (u : PlainTrees). IsGrown w p r c.in_ok-id.id (size u) (numbered (length (own p w)) u)) c.text_tree-plain.ensures c.in_ok-id.ensures.grown in
    ok_then c.put_under.result _ _
    (λ e. record {
      state = text_comes w c.args.w.small s t p r q c.args.node c.in_ok-id.id c.args.text c.requires.some c.requires.own grown (c.add_tree.ensures.store []) (c.add_tree.ensures.same w) c.put_under.ensures.kept e;
      sound = λ l h. sound_page w c.args.w.small r q c.put_under.ensures.kept c.put_under.ensures.others t l (c.in_ok-id.ensures.sound l h);
    })
    c.put_under.ensures.image

pub returns-clause-kept : goal.returns-clause-kept
returns-clause-kept c = λ l h.
    let w = c.args.w.index in
    let p = c.args.page.now in
    let r = c.add_tree.new.page in
    let q = c.put_under.new.page in
    let s = c.args.store.now in
    let t = c.add_tree.new.store in
    let k = c.add_tree.ensures.kept l h in
    keeps_then w s t t p r q l l k (keeps_paged w c.args.w.small t t r q l k.holds (λ fs. kept_same fs w t t refl) c.put_under.ensures.kept c.put_under.ensures.others c.put_under.ensures.host)

pub returns-in_err-id-clause-kept : goal.returns-in_err-id-clause-kept
returns-in_err-id-clause-kept c = c.add_tree.ensures.kept
