use Rattle.std.proofs.Common.{◌≡◌, arith, drop, take, get_or, ap}
use Rattle.std.proofs.lemmas.List.Sums.{prefix_len-drop_no, prefix_len-drop_all}
use Rattle.std.specs.List.{prefix_len}
use Rattle.std.specs.Char.{digit_value, is_digit}
use Rattle.native_common.proofs.Loops.{over_no}
use Rattle.plain_natives.proofs.numerals.digit_run.Goals as goal
use Rattle.plain_natives.proofs.numerals.digit_run.Goals.{then-loop-end-test+else-from-radix, else-loop-end-test}

first_kept : (c : goal.Left-loop-end) → prefix_len (λ u. is_digit u c.args.radix) (drop c.loop-end.end c.args.units.now) ≡ 0
first_kept c =
    let us = c.args.units.now in
    let end = c.loop-end.end in
    elim c.loop-end-test.branch [
      | then-loop-end-test+else-from-radix w ↦ prefix_len-drop_no (λ u. is_digit u c.args.radix) us end 0 w.loop-end-test.true (over_no (digit_value (get_or us end 0)) c.args.radix (omega (arith, w.if-from-radix.false, w.from.ensures, w.digit_value.ensures)))
      | else-loop-end-test w ↦ prefix_len-drop_all (λ u. is_digit u c.args.radix) us end (omega (arith, w.loop-end-test.false))
    ]

pub returns : goal.returns
returns c =
    let us = c.args.units.now in
    let end_is : c.loop-end.end ≡ prefix_len (λ u. is_digit u c.args.radix) us = omega (arith, first_kept c, c.loop-end.invariant.rest) in
    ap (λ n. take n us) end_is
