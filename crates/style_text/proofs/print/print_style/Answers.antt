use Rattle.std.proofs.Common.{◌∙◌, sym, ap, ◌++◌, take}
use Rattle.std.specs.Prelude.{◌==◌}
use Rattle.style_text.specs.Styles.{print_style}
use Rattle.style_text.specs.Separated.{separated}
use Rattle.style_text.proofs.Printing.{print_none, print_more}
use Rattle.style_text.proofs.print.print_style.Goals as goal

pub pairs-init : goal.pairs-init
pairs-init c = c.new-units.ensures.items ∙ sym print_none

pub pairs-preserved : goal.pairs-preserved
pairs-preserved c =
    let i = c.pairs.i in
    let pair = c.index-pairs-i.result in
    c.in_ok-push_pair.ensures ∙ ap (λ l. l ++ separated (i == 0) pair) c.pairs.invariant ∙ ap (λ p. print_style (take i c.args.pairs.now) ++ separated (i == 0) p) c.index-pairs-i.is ∙ sym (print_more c.args.pairs.now i pair c.pairs-test.true)
