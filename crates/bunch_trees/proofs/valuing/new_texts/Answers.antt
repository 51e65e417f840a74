use Rattle.std.proofs.Common.{ℕ, Bool, ◌+◌, cond, refl, sym, ap, ◌∙◌, arith}
use Rattle.std.specs.List.{count_by}
use Rattle.std.proofs.lemmas.List.Sums.{sum_by_more}
use Rattle.widget_meaning.specs.BunchWrites.{has_new_text}
use Rattle.page_image.specs.Image.{number}
use Rattle.native_image.proofs.Lists.{element_in, take_whole}
use Rattle.bunch_trees.proofs.Counting.{counted_over}
use Rattle.bunch_trees.proofs.valuing.new_texts.Goals as goal

pub new_text-many-requires : goal.new_text-many-requires
new_text-many-requires c = c.requires _ (element_in c.args.nodes.now c.each.node-index c.each-test.true)

pub each-init : goal.each-init
each-init c = (omega arith, λ s there. refl)

pub each-preserved : goal.each-preserved
each-preserved c = (
  omega (arith, c.each.invariant.0, c.new_text-many.ensures.few),
  λ s there. (λ j. c.each.invariant.1 s there j + c.new_text-many.ensures.one s there j) ∙ sym (sum_by_more (λ n. cond (has_new_text s c.args.text.now (number c.args.page.now c.args.w.index n)) 1 0) c.args.nodes.now c.each.node-index 0 c.each-test.true),
)

pub returns : goal.returns
returns c = λ s there.
    let test : ℕ → Bool = λ n. has_new_text s c.args.text.now (number c.args.page.now c.args.w.index n) in
    c.each.invariant.1 s there
    ∙ ap (count_by test) (take_whole c.args.nodes.now c.each.node-index c.each-test.false)
    ∙ counted_over (has_new_text s c.args.text.now) (number c.args.page.now c.args.w.index) c.args.nodes.now
