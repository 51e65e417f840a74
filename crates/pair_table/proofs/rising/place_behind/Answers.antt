use Rattle.std.proofs.Common.{◌∙◌, ◌≡◌, ◌+◌, ℕ, List, ap, arith, drop, eqb, position, sym}
use Rattle.std.specs.Map.{keys_of}
use Rattle.std.specs.Option.{option_map}
use Rattle.std.proofs.lemmas.Map.Entries.{length-keys_of}
use Rattle.pair_table.proofs.Places.{place_by_keys}
use Rattle.pair_table.proofs.Rises.{from_behind, keys_drop}
use Rattle.pair_table.proofs.rising.place_behind.Goals as goal

pub returns-in_err-at : goal.returns-in_err-at
returns-in_err-at g c =
    let es = c.args.list.now.items in
    let upto = c.args.upto in
    let shown : c.place_in.result ≡ position (eqb c.args.n) (drop upto (keys_of es)) = c.place_in.ensures ∙ ap (λ (l : List (ℕ × g.row.V.Denot)). position (λ e. eqb c.args.n e.0) l) c.behind.ensures ∙ place_by_keys (eqb c.args.n) (drop upto es) ∙ ap (position (eqb c.args.n)) (keys_drop upto es) in
    c.from_residual.ensures ∙ ap (option_map (λ i. upto + i)) (sym c.in_err-at.was ∙ shown) ∙ sym (from_behind c.args.n (keys_of es) upto (omega (arith, length-keys_of es, c.requires.upto)) c.requires.none)

pub returns : goal.returns
returns g c =
    let es = c.args.list.now.items in
    let upto = c.args.upto in
    let shown : c.place_in.result ≡ position (eqb c.args.n) (drop upto (keys_of es)) = c.place_in.ensures ∙ ap (λ (l : List (ℕ × g.row.V.Denot)). position (λ e. eqb c.args.n e.0) l) c.behind.ensures ∙ place_by_keys (eqb c.args.n) (drop upto es) ∙ ap (position (eqb c.args.n)) (keys_drop upto es) in
    ap (option_map (λ i. upto + i)) (sym c.in_ok-at.was ∙ shown) ∙ sym (from_behind c.args.n (keys_of es) upto (omega (arith, length-keys_of es, c.requires.upto)) c.requires.none)
