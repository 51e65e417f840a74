use Rattle.std.proofs.Common.{◌∙◌, Some, ap, eqb, sym}
use Rattle.std.specs.Cmp.{nat_eq_equiv}
use Rattle.indexmap.proofs.MapLemmas.{index-first}
use Rattle.indexmap.proofs.RemoveLemmas.{own_first}
use Rattle.pair_table.proofs.Places.{same_number}
use Rattle.pair_table.proofs.table.is_near.Goals as goal

pub returns-in-Some : goal.returns-in-Some
returns-in-Some g c = λ same.
    let es = c.args.map.now.entries in
    let v = c.in-Some._value.now in
    index-first (eqb c.args.n) es c.args.place (own_first eqb nat_eq_equiv es c.args.place c.args.n v c.len-len.ensures.unique (sym c.in-Some.ensures.entry ∙ ap (λ m. Some (m, v)) (same_number c.in-Some.k.now c.args.n same)))
