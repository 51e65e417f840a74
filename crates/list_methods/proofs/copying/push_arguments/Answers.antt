use Rattle.std.proofs.Common.{◌++◌, ◌∙◌, ap, append-nil, sym, take}
use Rattle.std.specs.List.{flat_map}
use Rattle.std.proofs.lemmas.List.{take_all}
use Rattle.widget_meaning.specs.ListChanges.{array_elements}
use Rattle.js_image.specs.Image.{all_seen, image, seen}
use Rattle.list_methods.proofs.Lists.{flat_more, one_fine, seen_more}
use Rattle.list_methods.proofs.copying.push_arguments.Goals as goal

pub loop-v-init : goal.loop-v-init
loop-v-init c = (λ fs r. sym (append-nil (all_seen c.args.w.index c.args.store.now.cells c.args.values.now.items)), c.requires.values)

pub push_argument-requires-clause-arg : goal.push_argument-requires-clause-arg
push_argument-requires-clause-arg c = one_fine c.args.w.index c.args.store.now.cells c.args.args.now c.loop-v.v-index c.v-item.result c.loop-v-test.true c.v-item.is c.requires.args

pub push_argument-requires-clause-values : goal.push_argument-requires-clause-values
push_argument-requires-clause-values c = c.loop-v.invariant.1

pub loop-v-preserved : goal.loop-v-preserved
loop-v-preserved c = (
  λ fs r.
      c.in_ok-push_argument.ensures.more fs r
      ∙ flat_more (array_elements (image fs r c.args.w.index c.args.store.now)) (all_seen c.args.w.index c.args.store.now.cells c.args.values.now.items) (all_seen c.args.w.index c.args.store.now.cells c.loop-v.values.items) (all_seen c.args.w.index c.args.store.now.cells (take c.loop-v.v-index c.args.args.now)) (seen c.args.w.index c.args.store.now.cells c.v-item.result) (c.loop-v.invariant.0 fs r)
      ∙ ap (λ vs. all_seen c.args.w.index c.args.store.now.cells c.args.values.now.items ++ flat_map (array_elements (image fs r c.args.w.index c.args.store.now)) vs) (sym (seen_more c.args.w.index c.args.store.now.cells c.args.args.now c.loop-v.v-index c.v-item.result c.loop-v-test.true c.v-item.is)),
  c.in_ok-push_argument.ensures.fine,
)

pub returns-clause-more : goal.returns-clause-more
returns-clause-more c = λ fs r. c.loop-v.invariant.0 fs r ∙ ap (λ xs. all_seen c.args.w.index c.args.store.now.cells c.args.values.now.items ++ flat_map (array_elements (image fs r c.args.w.index c.args.store.now)) (all_seen c.args.w.index c.args.store.now.cells xs)) (take_all c.loop-v.v-index c.args.args.now c.loop-v-test.false)

pub returns-clause-fine : goal.returns-clause-fine
returns-clause-fine c = c.loop-v.invariant.1
