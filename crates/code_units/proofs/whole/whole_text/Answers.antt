use Rattle.std.proofs.Common.{◌≡◌, ◌^◌, ◌<◌, ◌∙◌, ap, unsigned_abs, w64, subst, sym, lt-ltb}
use Rattle.std.proofs.Math.Dec.{T}
use Rattle.std.proofs.Math.Facts.{sfits_lit}
use Rattle.std.specs.Int.Signed.{mag}
use Rattle.std.specs.Fmt.{signed_decimal}
use Rattle.std.proofs.lemmas.Int.{to_z-of_z}
use Rattle.std.proofs.lemmas.Result.{IfOk-weaker}
use Rattle.code_units.specs.declared.whole.WholeRead.TheVariants.{Whole}
use Rattle.code_units.specs.Whole.{number_in}
use Rattle.code_units.proofs.WholeBack.{number_in-signed_decimal}
use Rattle.code_units.proofs.whole.whole_text.Goals as goal

pub returns-clause-back : goal.returns-clause-back
returns-clause-back c =
    let n = c.args.n in
    let units = c.in_ok-units.units.items in
    let digits = c.in_ok-units.ensures ∙ ap signed_decimal (to_z-of_z w64 n (sfits_lit (subst T (sym (lt-ltb (mag n) (2 ^ 63) c.ranges.n.sfits)) tt))) in
    IfOk-weaker c.from_units.result (λ t. t ≡ units) (λ t. unsigned_abs n < 2 ^ 53 → number_in t ≡ Whole n)
    (λ t is small. ap number_in (is ∙ digits) ∙ number_in-signed_decimal n small)
    c.from_units.ensures
