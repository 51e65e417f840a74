use Rattle.std.proofs.Common.{◌≡◌, ◌∙◌, ap, true, eqb}
use Rattle.std.specs.Map.{lookup}
use Rattle.std.specs.Prelude.{is_some}
use Rattle.store_cells.specs.Numbered.{NumberedCell, live, numbered_held}
use Rattle.store_cells.proofs.Live.{held_name, written_full, written_live}
use Rattle.store_cells.proofs.cell.Cell.write_near.Goals as goal

pub set-requires : goal.set-requires
set-requires c = c.stands_at.ensures c.if-stands_at.true

pub invariant_of-self : goal.invariant_of-self
invariant_of-self c =
    let there : is_some (lookup (eqb c.args.n) (live c.self.inside.table.entries)) ≡ true = ap (λ (x : NumberedCell). is_some (lookup (eqb c.args.n) x.entries)) c.self.view_is ∙ c.requires in
    written_full c.self.inside.holes c.args.n c.args.value c.self.inside.table.entries c.set.new.self.entries (held_name c.args.n c.self.inside.table.entries there) c.set.ensures c.self.invariant

pub returns-then-stands_at : goal.returns-then-stands_at
returns-then-stands_at c =
    let s = c.self.inside in
    let there : is_some (lookup (eqb c.args.n) (live s.table.entries)) ≡ true = ap (λ (x : NumberedCell). is_some (lookup (eqb c.args.n) x.entries)) c.self.view_is ∙ c.requires in
    let p = written_live c.args.n c.args.value s.table.entries c.set.new.self.entries (held_name c.args.n s.table.entries there) c.set.ensures in
    (λ j. record { head = s.head; elements = s.elements; references = s.references; entries = p j }) ∙ ap (numbered_held c.args.n c.args.value) c.self.view_is
