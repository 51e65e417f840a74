use Rattle.std.proofs.Common.{◌∙◌, ap, sym, arith, ◌+◌, ◌*◌, ◌^◌, ◌<◌, min, get_or, take, le-ltb}
use Rattle.std.specs.List.{list_all}
use Rattle.std.specs.Char.{digit_value, is_digit}
use Rattle.std.specs.Str.Parse.{digits_value}
use Rattle.std.proofs.lemmas.List.{take_rest, take_all}
use Rattle.std.proofs.lemmas.List.Folds.{list_all_at}
use Rattle.std.proofs.lemmas.Int.Digits.{digits_value_more}
use Rattle.std.proofs.lemmas.Str.Parse.{digits_value-take-le}
use Rattle.code_units.proofs.Numerals.{step, digits_more}
use Rattle.code_units.proofs.RunLemmas.{some_units, some_radix, zero_digits, zero_value, digits_behind, numeral_from, no_numeral_from}
use Rattle.code_units.proofs.whole.numeral.Goals as goal

pub loop-at-init : goal.loop-at-init
loop-at-init c = record {
  digits = zero_digits c.args.radix c.args.units.now c.run-at.result (some_radix c.args.radix c.requires) (omega (arith, c.run-at.ensures.len));
  value = sym (ap (λ v. min v (2 ^ 53)) (zero_value c.args.radix c.args.units.now c.run-at.result (omega (arith, c.run-at.ensures.len))));
}

-- the rest decides once the limit is reached
pub returns-then-are_digits : goal.returns-then-are_digits
returns-then-are_digits c =
    let radix = c.args.radix in
    let us = c.args.units.now in
    let at = c.loop-at.at in
    let rest = sym (c.are_digits.ensures ∙ ap (list_all (λ u. is_digit u radix)) (take_rest us at)) ∙ c.if-are_digits.true in (
      numeral_from radix us (some_units c.is_empty.result us c.is_empty.ensures c.if-is_empty.false) (digits_behind radix us at c.loop-at.invariant.digits ∙ rest),
      omega (arith, c.loop-at.invariant.value, c.if-n-eq-LIMIT.true, digits_value-take-le radix us at (some_radix radix c.requires)),
    )

pub returns-then-n-eq-LIMIT : goal.returns-then-n-eq-LIMIT
returns-then-n-eq-LIMIT c =
    let radix = c.args.radix in
    let us = c.args.units.now in
    let at = c.loop-at.at in
    let rest = sym (c.are_digits.ensures ∙ ap (list_all (λ u. is_digit u radix)) (take_rest us at)) ∙ c.if-are_digits.false in
    no_numeral_from radix us (digits_behind radix us at c.loop-at.invariant.digits ∙ rest)

pub returns-then-digit-radix : goal.returns-then-digit-radix
returns-then-digit-radix c =
    let radix = c.args.radix in
    let us = c.args.units.now in
    let at = c.loop-at.at in
    no_numeral_from radix us (list_all_at (λ u. is_digit u radix) us at 0 c.loop-at-test.true (le-ltb (digit_value (get_or us at 0)) radix (omega (arith, c.digit_value-digit.ensures, c.if-digit-radix.true))))

pub loop-at-preserved : goal.loop-at-preserved
loop-at-preserved c =
    let radix = c.args.radix in
    let us = c.args.units.now in
    let at = c.loop-at.at in
    let d = digit_value (get_or us at 0) in
    let v = digits_value radix (take at us) in
    let small : d < radix = omega (arith, c.digit_value-digit.ensures, c.if-digit-radix.false) in
    record {
      digits = digits_more radix us at c.loop-at-test.true small c.loop-at.invariant.digits;
      value = c.min-n.ensures
          ∙ (λ j. min (2 ^ 53) (c.loop-at.n * c.from.ensures j + (c.from-in-loop-at.ensures ∙ c.digit_value-digit.ensures) j))
          ∙ step v c.loop-at.n radix d (2 ^ 53) c.loop-at.invariant.value (some_radix radix c.requires)
          ∙ ap (λ n. min n (2 ^ 53)) (sym (digits_value_more radix us at c.loop-at-test.true));
    }

pub returns : goal.returns
returns c =
    let radix = c.args.radix in
    let us = c.args.units.now in
    let all = take_all c.loop-at.at us c.loop-at-test.false in (
      numeral_from radix us (some_units c.is_empty.result us c.is_empty.ensures c.if-is_empty.false) (ap (list_all (λ u. is_digit u radix)) (sym all) ∙ c.loop-at.invariant.digits),
      c.loop-at.invariant.value ∙ ap (λ xs. min (digits_value radix xs) (2 ^ 53)) all,
    )
