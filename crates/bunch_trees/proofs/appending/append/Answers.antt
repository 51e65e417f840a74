use Rattle.std.proofs.Common.{ℕ, [], ◌∷◌, Some, map, sym, ap, ◌∙◌}
use Rattle.std.specs.declared.vec.Vec.{Vec}
use Rattle.std.specs.declared.alloc.Global.{Global}
use Rattle.std.specs.Option.{option_map}
use Rattle.store_cells.specs.declared.value.Value.TheVariants as value
use Rattle.widget_meaning.specs.BunchWrites.{write_method}
use Rattle.widget_meaning.specs.Costs.{or_throw}
use Rattle.permitted_table.specs.declared.native.WriteNative.TheVariants.{Append}
use Rattle.widget_meaning.specs.Values.{E4}
use Rattle.js_image.specs.declared.outcome.Fault.TheVariants as fault
use Rattle.js_image.specs.Image.{seen}
use Rattle.page_image.specs.Image.{number}
use Rattle.native_image.specs.Image.{image}
use Rattle.bunch_trees.specs.Appends.{append_nodes}
use Rattle.bunch_trees.proofs.Roots.{some_own}
use Rattle.native_image.specs.Handed.{parts}
use Rattle.native_image.proofs.Reading.{writes_memory, writes_same, writes_thrown}
use Rattle.bunch_trees.proofs.appending.append.Goals as goal

pub bunch_of-requires-clause-held : goal.bunch_of-requires-clause-held
bunch_of-requires-clause-held c = c.requires.sound.holds.bunches

pub append_nodes-requires-clause-news : goal.append_nodes-requires-clause-news
append_nodes-requires-clause-news c = some_own c.args.shared.now.page c.args.widget.now.id.index c.in_ok-news.field-0 c.in-Some.news c.deref.result.now c.in-Some.is c.deref.ensures.value c.in_ok-news.ensures.nodes

pub returns-in-None : goal.returns-in-None
returns-in-None c =
    let w = c.args.widget.now.id.index in
    let p = c.args.shared.now.page in
    let s = c.args.shared.now.store in
    let h = parts c.args.shared.now c.args.widget.now in
    let ns = map (number p w) c.args.bunch.now.nodes.now in
    let v = seen w s.cells (value.Ref c.args.bunch.now.cell) in
    let t = seen w s.cells c.args.other.now in
    writes_thrown c.args.shared.now c.args.widget.now c.requires.sound (λ d u. write_method Append ns v (t ∷ []) d u) fault.E4 c.args.meter.now
    (λ fs x d.
    let u = image fs x w h in
    ap (λ o. or_throw E4 o u (λ ms. append_nodes ns ms v u)) (c.in_ok-news.ensures.read fs x c.args.widget.now.around c.args.widget.now.bubbled ∙ ap (option_map (λ (k : Vec ℕ Global). map (number p w) k.items)) c.in-None.is))

pub returns-in-Some : goal.returns-in-Some
returns-in-Some c =
    let w = c.args.widget.now.id.index in
    let p = c.args.shared.now.page in
    let s = c.args.shared.now.store in
    let h = parts c.args.shared.now c.args.widget.now in
    let ns = map (number p w) c.args.bunch.now.nodes.now in
    let v = seen w s.cells (value.Ref c.args.bunch.now.cell) in
    let t = seen w s.cells c.args.other.now in
    let ms = map (number p w) c.deref.result.now in
    writes_same c.args.shared.now c.append_nodes.new.shared c.args.widget.now c.args.widget.now c.args.meter.now c.append_nodes.new.meter (λ d u. write_method Append ns v (t ∷ []) d u) (λ d u. append_nodes ns ms v u) c.append_nodes.result
    (λ fs x d.
    let u = image fs x w h in
    ap (λ o. or_throw E4 o u (λ ks. append_nodes ns ks v u))
    (c.in_ok-news.ensures.read fs x c.args.widget.now.around c.args.widget.now.bubbled ∙ ap (option_map (λ (k : Vec ℕ Global). map (number p w) k.items)) c.in-Some.is ∙ ap (λ k. Some (map (number p w) k)) (sym c.deref.ensures.value)))
    c.append_nodes.ensures

pub returns-in_err-news : goal.returns-in_err-news
returns-in_err-news c = writes_memory c.args.shared.now c.args.widget.now c.requires.sound c.args.meter.now c.args.meter.now _ c.from_residual.result c.from_residual.ensures.0
