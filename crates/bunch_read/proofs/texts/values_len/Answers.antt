use Rattle.std.proofs.Common.{◌+◌, length, map, take, get_or, ap, ◌∙◌}
use Rattle.native_common.specs.Numbers.{counted}
use Rattle.widget_meaning.specs.BunchReads as means
use Rattle.page_image.specs.Image.{number}
use Rattle.bunch_read.specs.Values.{all_units}
use Rattle.bunch_read.proofs.Lists.{element_in, mapped_whole}
use Rattle.bunch_read.proofs.Reading.{more_counted}
use Rattle.bunch_read.proofs.Valued.{units_more}
use Rattle.bunch_read.proofs.texts.values_len.Goals as goal

pub value_len-requires : goal.value_len-requires
value_len-requires c = c.requires _ (element_in c.args.list.now c.each.node-index c.each-test.true)

pub each-preserved : goal.each-preserved
each-preserved c = λ s there.
    let f = number c.args.page.now c.args.w in
    let xs = c.args.list.now in
    let i = c.each.node-index in
    more_counted c.each.len c.value_len.result c.saturating_add-len.result (all_units s (map f (take i xs))) (length (means.value_of s (f (get_or xs i 0)))) (all_units s (map f (take (i + 1) xs))) (c.each.invariant s there) (c.value_len.ensures s there) c.saturating_add-len.ensures (units_more s f xs i c.each-test.true)

pub returns : goal.returns
returns c = λ s there. c.each.invariant s there ∙ ap (λ l. counted (all_units s l)) (mapped_whole (number c.args.page.now c.args.w) c.args.list.now c.each.node-index c.each-test.false)
