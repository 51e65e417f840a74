use Rattle.std.proofs.Common.{◌+◌, ◌∙◌, ap, sym, length, take}
use Rattle.std.specs.Prelude.{sum_by}
use Rattle.std.proofs.lemmas.List.{length-map, take_all}
use Rattle.js_image.specs.Image.{all_seen, image, seen}
use Rattle.js_image.proofs.Makes.{within_of}
use Rattle.native_common.specs.Numbers.{counted}
use Rattle.list_methods.proofs.Lists.{extra_all, extra_more, extra_none, length_in, one_fine, seen_more}
use Rattle.list_methods.proofs.array.extra.Goals as goal

pub loop-v-init : goal.loop-v-init
loop-v-init c = λ fs r. extra_none (image fs r c.args.w.index c.args.store.now) c.args.len c.counted_len-sum.result c.counted_len-sum.ensures

pub len_of-requires : goal.len_of-requires
len_of-requires c = within_of c.args.w.index c.args.store.now.cells c.v-item.result (one_fine c.args.w.index c.args.store.now.cells c.args.args.now c.loop-v.v-index c.v-item.result c.loop-v-test.true c.v-item.is c.requires)

pub loop-v-preserved : goal.loop-v-preserved
loop-v-preserved c = λ fs r.
    c.saturating_add-sum.ensures
    ∙ ap (λ x. counted (c.loop-v.sum + x)) (c.len_of.ensures fs r c.args.w.index (one_fine c.args.w.index c.args.store.now.cells c.args.args.now c.loop-v.v-index c.v-item.result c.loop-v-test.true c.v-item.is c.requires))
    ∙ extra_more (image fs r c.args.w.index c.args.store.now) c.args.len (all_seen c.args.w.index c.args.store.now.cells (take c.loop-v.v-index c.args.args.now)) (seen c.args.w.index c.args.store.now.cells c.v-item.result) c.loop-v.sum (c.loop-v.invariant fs r)
    ∙ ap (λ vs. counted (c.args.len + sum_by (length_in (image fs r c.args.w.index c.args.store.now) c.args.len) vs)) (sym (seen_more c.args.w.index c.args.store.now.cells c.args.args.now c.loop-v.v-index c.v-item.result c.loop-v-test.true c.v-item.is))

pub returns : goal.returns
returns c = λ fs r.
    c.saturating_add.ensures
    ∙ extra_all (image fs r c.args.w.index c.args.store.now) c.args.len (all_seen c.args.w.index c.args.store.now.cells c.args.args.now) c.loop-v.sum (length c.args.args.now)
    (c.loop-v.invariant fs r ∙ ap (λ xs. counted (c.args.len + sum_by (length_in (image fs r c.args.w.index c.args.store.now) c.args.len) (all_seen c.args.w.index c.args.store.now.cells xs))) (take_all c.loop-v.v-index c.args.args.now c.loop-v-test.false))
    (sym (length-map c.args.args.now (seen c.args.w.index c.args.store.now.cells)))
