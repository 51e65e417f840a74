use Rattle.std.proofs.Common.{◌≡◌, ◌∙◌, ◌+◌, ◌≤◌, List, ap, arith, length, map, subst, ℕ}
use Rattle.std.specs.Prelude.{nat_eq, unwrap_or}
use Rattle.std.specs.Map.{lookup}
use Rattle.std.proofs.lemmas.List.{length-map}
use Rattle.store_cells.specs.declared.cell.Head.{Head}
use Rattle.store_cells.specs.declared.value.Value.{Value}
use Rattle.store_cells.specs.declared.value.Value.TheVariants as value
use Rattle.store_cells.specs.Host.{array_prototype}
use Rattle.store_cells.specs.Numbered.{NumberedCell, heads}
use Rattle.store_cells.specs.Shape.{IsArrayOf, hidden_head}
use Rattle.store_table.proofs.Gifts.{grown_same}
use Rattle.store_table.proofs.Births.{bunch_grew, bunch_is, links_short, places_under}
use Rattle.store_cells.proofs.Filled.{kept_err, kept_same}
use Rattle.store_table.proofs.bunch.add_bunch.Goals as goal

pub hidden_head-head-requires-clause-few : goal.hidden_head-head-requires-clause-few
hidden_head-head-requires-clause-few c = omega (arith, links_short c.args.names.now c.args.cells.now.items c.requires.base.ordered c.requires.host array_prototype (omega arith))

pub array_of-requires-clause-few : goal.array_of-requires-clause-few
array_of-requires-clause-few c =
    let place : ℕ → ℕ = λ n. unwrap_or (lookup (nat_eq n) c.args.raws.now.entries) 0 in
    omega (arith, c.requires.few, ap (λ (vs : List Value). length vs) (c.deref.ensures.value ∙ c.in_ok-refs.ensures), length-map c.args.nodes.now place, length-map (map place c.args.nodes.now) value.Ref)

pub returns-in_err-array-clause-err : goal.returns-in_err-array-clause-err
returns-in_err-array-clause-err c = kept_err c.args.names.now c.args.names.now (grown_same c.args.names.now) c.requires.base.table c.args.cells.now.items c.requires.base c.from_residual-in_err-array.result

pub returns-in_err-push_two-clause-err : goal.returns-in_err-push_two-clause-err
returns-in_err-push_two-clause-err c = kept_same c.args.names.now c.args.names.now (grown_same c.args.names.now) c.requires.base.table c.args.cells.now.items c.requires.base c.push_two.new.cells.items c.from_residual-in_err-push_two.result c.in_err-push_two.ensures.err

pub returns-clause-ok : goal.returns-clause-ok
returns-clause-ok c =
    let cs = c.args.cells.now.items in
    let nodes = c.args.nodes.now in
    let place : ℕ → ℕ = λ n. unwrap_or (lookup (nat_eq n) c.args.raws.now.entries) 0 in
    let id : c.len-id.result ≡ length cs = omega (arith, c.len-id.ensures, c.args.cells.now.ok.0) in
    let next : c.len-id.result + 1 ≡ length cs + 1 = omega (arith, id) in
    let few_refs : length (map value.Ref (map place nodes)) ≤ 4294967295 = omega (arith, c.requires.few, length-map nodes place, length-map (map place nodes) value.Ref) in
    let refs : c.deref.result.now ≡ map value.Ref (map place nodes) = c.deref.ensures.value ∙ c.in_ok-refs.ensures in
    let hidden = subst (λ (vs : List Value). IsArrayOf c.args.names.now (hidden_head (heads cs)) (length vs) vs c.in_ok-array.array) refs (subst (λ (h : Head). IsArrayOf c.args.names.now h (length c.deref.result.now) c.deref.result.now c.in_ok-array.array) c.hidden_head-head.ensures c.in_ok-array.ensures) in
    let under = places_under (heads cs) c.args.raws.now.entries (length cs + 2) nodes c.requires.raws (omega arith) (omega (arith, length-map cs (λ (d : NumberedCell). d.head))) in (
      id,
      bunch_grew c.args.names.now c.args.names.now (grown_same c.args.names.now) c.requires.base.table cs c.requires.base c.requires.host c.args.place.widget c.args.place.number (map place nodes) c.in_ok-bunch.bunch c.in_ok-array.array (bunch_is c.in_ok-bunch.bunch _ _ _ _ c.in_ok-bunch.ensures c.head_on-head.ensures next) c.requires.ordered few_refs under hidden c.push_two.new.cells.items c.in_ok-push_two.ensures.ok,
    )
