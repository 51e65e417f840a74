use Rattle.std.proofs.Common.{◌∙◌, ℕ, List, Some, ap, get_or, sym}
use Rattle.std.specs.Option.{option_copied}
use Rattle.pair_table.specs.Pairs.{Pairs}
use Rattle.pair_table.proofs.Places.{found_value, missing_value}
use Rattle.pair_table.proofs.rising.RisingPairs.get.Goals as goal

pub returns-in_err-place : goal.returns-in_err-place
returns-in_err-place g c =
    ap option_copied c.from_residual.ensures ∙ sym (missing_value c.args.n c.args.self.now.entries (sym c.place.ensures ∙ c.in_err-place.was))

pub returns : goal.returns
returns g c =
    let r = c.index.result.now in
    let same = ap (λ (p : Pairs g.row.V.Denot). p.entries) c.self.view_is in
    ap (λ (e : ℕ × g.row.V.Denot). Some e.1) (c.index.ensures ∙ ap (λ (l : List (ℕ × g.row.V.Denot)). get_or l c.in_ok-place.place r) same)
    ∙ found_value c.args.n c.args.self.now.entries c.in_ok-place.place r (sym c.place.ensures ∙ c.in_ok-place.was)
