use Rattle.std.proofs.Common.{◌∙◌, ◌++◌, ap, sym, subst, nat_lt, take, drop, take-append-drop}
use Rattle.std.specs.Prelude.{slice_index}
use Rattle.std.specs.Char.{is_digit}
use Rattle.std.specs.Str.Parse.{AllDigits}
use Rattle.std.proofs.lemmas.List.{take_rest, length-take-le}
use Rattle.code_units.specs.Whole.{is_fraction}
use Rattle.code_units.proofs.RunLemmas.{digits_taken, digits_end}
use Rattle.code_units.proofs.whole.is_fraction.Goals as goal

pub ends_fraction-requires : goal.ends_fraction-requires
ends_fraction-requires c =
    let us = c.args.units.now in
    ap (λ xs. is_digit (slice_index xs 0) 10) (take_rest us c.run-whole.result ∙ ap (λ n. drop n us) c.run-whole.ensures.len) ∙ digits_end us

pub returns : goal.returns
returns c =
    let us = c.args.units.now in
    let n = c.run-whole.result in
    c.ends_fraction.ensures (take n us) (subst (λ m. AllDigits 10 (take m us)) (sym c.run-whole.ensures.len) (digits_taken us)) (ap (nat_lt 0) (sym (length-take-le n us c.run-whole.ensures.within)))
    ∙ ap is_fraction (ap (λ xs. take n us ++ xs) (take_rest us n) ∙ take-append-drop n us)
