use Rattle.std.proofs.Common.{eqb, sym}
use Rattle.indexmap.proofs.MapLemmas.{Found-position, insert_entry-first}
use Rattle.pair_table.proofs.table.set_in.Goals as goal

pub returns-clause-entries : goal.returns-clause-entries
returns-clause-entries g c =
    let es = c.args.map.now.entries in
    sym (insert_entry-first eqb c.args.n c.args.value es c.args.place (Found-position (eqb c.args.n) es c.args.place c.requires).first)
