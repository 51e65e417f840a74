use Rattle.std.proofs.Common.{◌≡◌, ℕ, List, sym, ◌∙◌, subst, Option, slice_get}
use Rattle.std.specs.Prelude.{IfSome, option_copied}
use Rattle.std.specs.Option.{option_map}
use Rattle.store_cells.specs.declared.value.Value.{Value}
use Rattle.store_cells.specs.Cells.{PlainCell}
use Rattle.store_cells.proofs.Heads.{value_place}
use Rattle.object_store.proofs.Puts.{seen}
use Rattle.object_store.proofs.store.Store.var_at.Goals as goal

pub returns : goal.returns
returns c =
    let s = c.self in
    let x = c.cell.result.now in
    let is = c.value_at.ensures ∙ value_place s.inside.names x.entries c.args.at in
    subst (λ (o : Option PlainCell). IfSome o (λ p. option_copied c.value_at.result ≡ option_map (λ (q : List ℕ × Value). q.1) (slice_get p.pairs c.args.at))) (sym (seen c.args.self.now s.inside.names s.inside.cells.items s.inside.kept.items s.view_is s.invariant c.args.scope x c.cell.ensures)) is
