use Rattle.std.proofs.Common.{◌≡◌, ◌-◌, arith, length, drop, length-drop, ap, sym, ◌∙◌}
use Rattle.std.proofs.lemmas.List.{take_all}
use Rattle.std.proofs.lemmas.List.Sums.{prefix_len-drop_no, prefix_len-drop_all}
use Rattle.std.specs.List.{prefix_len}
use Rattle.code_units.specs.Whole.{is_blank}
use Rattle.plain_natives.proofs.numerals.trimmed_start.Goals as goal
use Rattle.plain_natives.proofs.numerals.trimmed_start.Goals.{then-loop-start-test+else-is_blank, else-loop-start-test}

first_kept : (c : goal.After-result-1) → prefix_len is_blank (drop c.loop-start.start c.args.units.now) ≡ 0
first_kept c =
    let us = c.args.units.now in
    let start = c.loop-start.start in
    elim c.loop-start-test.branch [
      | then-loop-start-test+else-is_blank w ↦ prefix_len-drop_no is_blank us start 0 w.loop-start-test.true (sym w.is_blank.ensures ∙ w.if-is_blank.false)
      | else-loop-start-test w ↦ prefix_len-drop_all is_blank us start (omega (arith, w.loop-start-test.false))
    ]

pub returns : goal.returns
returns c =
    let us = c.args.units.now in
    let start_is : c.loop-start.start ≡ prefix_len is_blank us = omega (arith, first_kept c, c.loop-start.invariant.rest) in
    take_all (length us - c.loop-start.start) (drop c.loop-start.start us) (omega (arith, length-drop c.loop-start.start us)) ∙ ap (λ n. drop n us) start_is
