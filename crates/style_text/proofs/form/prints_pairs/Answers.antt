use Rattle.std.proofs.Common.{[], refl, subst, ◌∙◌}
use Rattle.style_text.specs.Styles.{print_style}
use Rattle.style_text.proofs.Complete.{next_blanks}
use Rattle.style_text.proofs.PrintedForm.{IsPrinted, no_pair, one_more, property_refused, value_refused, all_printed, not_printed}
use Rattle.style_text.proofs.form.prints_pairs.Goals as goal

pub pairs-init : goal.pairs-init
pairs-init c = record {
  inside = c.blanks_end-at.ensures.inside;
  first = c.blanks_end-at.ensures.all;
  printed = no_pair _ _ _ _ _ c.none_used-used.ensures refl (next_blanks [] c.blanks_end-at.ensures.blanks);
}

pub returns-in-Err : goal.returns-in-Err
returns-in-Err c = property_refused _ _ _ _ _ _ _ c.pairs.invariant.printed c.in-Err.ensures

pub returns-in-Err-value_at : goal.returns-in-Err-value_at
returns-in-Err-value_at c = value_refused _ _ _ _ _ _ _ _ _ c.pairs.invariant.printed c.in-Ok.ensures c.in-Err-value_at.ensures

pub pairs-preserved : goal.pairs-preserved
pairs-preserved c = let p = c.pairs.invariant.printed in record {
  inside = c.in-Ok-value_at.ensures.inside;
  first = c.in-Ok-value_at.ensures.blanks;
  printed = one_more _ _ _ _ _ _ _ _ _ _ _ _ p c.in-Ok.ensures c.in-Ok-value_at.ensures c.mark.ensures (c.behind_pair-rest.ensures c.args.text.now (print_style p.pairs));
}

pub returns-in-Some : goal.returns-in-Some
returns-in-Some c = c.is_empty.ensures ∙ all_printed _ _ _ _ _ c.in-Some.rest c.pairs-test.false (subst (λ o. IsPrinted c.args.units.now c.args.text.now c.pairs.used c.pairs.first c.pairs.at o) c.in-Some.is c.pairs.invariant.printed)

pub returns-in-None : goal.returns-in-None
returns-in-None c = not_printed _ _ _ _ _ c.pairs-test.false (subst (λ o. IsPrinted c.args.units.now c.args.text.now c.pairs.used c.pairs.first c.pairs.at o) c.in-None.is c.pairs.invariant.printed)
