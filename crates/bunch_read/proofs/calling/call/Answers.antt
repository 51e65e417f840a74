use Rattle.std.proofs.Common.{◌≡◌, ℕ, [], ◌∷◌, Some, true, sym, subst, ap, ◌∙◌}
use Rattle.std.specs.declared.vec.Vec.{Vec}
use Rattle.std.specs.declared.alloc.Global.{Global}
use Rattle.std.specs.Option.{option_map}
use Rattle.js_image.specs.Image.{all_seen}
use Rattle.native_common.specs.Receivers.{receiver}
use Rattle.page_image.proofs.Pages.{is_widget}
use Rattle.widget_meaning.specs.BunchReads.{query, read_method}
use Rattle.widget_meaning.specs.Natives.{run_native}
use Rattle.native_image.specs.Handed.{numbers, sees, state}
use Rattle.native_image.proofs.Reading.{reads_free, reads_memory, reads_same}
use Rattle.bunch_read.specs.Part.{is_part}
use Rattle.bunch_read.proofs.Calls.{dom_same, first_seen, method_none, method_same, no_root, root_nodes, root_numbers, some_nodes}
use Rattle.bunch_read.proofs.calling.call.Goals as goal

pub root_of-requires : goal.root_of-requires
root_of-requires c = is_widget c.args.widget.now.id.index c.args.widget.now.id.small

pub receiver_of-requires-clause-held : goal.receiver_of-requires-clause-held
receiver_of-requires-clause-held c = c.requires.sound.holds.bunches

pub query-requires-clause-nodes : goal.query-requires-clause-nodes
query-requires-clause-nodes c = root_nodes c.args.shared.now.page c.args.widget.now.id.index c.args.widget.now.id.small c.requires.sound.holds.home c.root_of.result c.root_of.ensures c.in-Some.root c.in-Some.is

pub read-requires-clause-nodes : goal.read-requires-clause-nodes
read-requires-clause-nodes c = some_nodes c.args.shared.now.page c.args.widget.now.id.index c.in_ok-list-in-Read.list c.in-Some-list.list c.deref.result.now c.in-Some-list.is c.deref.ensures.value c.in_ok-list-in-Read.ensures.nodes

pub read-requires-clause-method : goal.read-requires-clause-method
read-requires-clause-method c = subst (λ n. is_part n ≡ true) c.in-Read.is c.requires.part

pub unreachable-requires : goal.unreachable-requires
unreachable-requires c = no_root c.args.shared.now.page c.args.widget.now.id.index c.args.widget.now.id.small c.requires.sound.holds.home c.root_of.result c.root_of.ensures c.in-None.is

pub returns-in-Some : goal.returns-in-Some
returns-in-Some c =
    let h = c.args.shared.now in
    let v = c.args.widget.now in
    let w = v.id.index in
    let this = receiver w h.store.cells c.args.this.now in
    let vs = all_seen w h.store.cells c.args.args.now in
    let u = sees h v c.nth-first.result.now in
    let ns = numbers h v (c.in-Some.root ∷ []) in
    reads_same h v c.query.new.shared c.args.meter.now c.query.new.meter (run_native c.args.which this vs) (λ d s. query ns u s) c.query.result
    (λ fs x d.
    dom_same c.args.which c.requires.part this vs u (first_seen w h.store.cells c.args.args.now c.nth-first.result.now c.nth-first.ensures) d (state h v fs x) c.in-Dom.field-0 c.in-Dom.is ns
    (root_numbers h.page w v.id.small c.requires.sound.holds.home c.root_of.result c.root_of.ensures c.in-Some.root c.in-Some.is))
    c.query.ensures

pub returns-in-Some-list : goal.returns-in-Some-list
returns-in-Some-list c =
    let h = c.args.shared.now in
    let v = c.args.widget.now in
    let w = v.id.index in
    let this = receiver w h.store.cells c.args.this.now in
    let vs = all_seen w h.store.cells c.args.args.now in
    let u = sees h v c.nth-first.result.now in
    let ns = numbers h v c.deref.result.now in
    reads_same h v c.read.new.shared c.args.meter.now c.read.new.meter (run_native c.args.which this vs) (λ d s. read_method c.in-Read.method ns (u ∷ []) s) c.read.result
    (λ fs x d.
    method_same c.args.which c.requires.part this vs u (first_seen w h.store.cells c.args.args.now c.nth-first.result.now c.nth-first.ensures) d (state h v fs x) c.in-Read.method c.in-Read.is ns
    (c.in_ok-list-in-Read.ensures.read fs x v.around v.bubbled ∙ ap (option_map (λ (m : Vec ℕ Global). numbers h v m.items)) c.in-Some-list.is ∙ ap (λ ms. Some (numbers h v ms)) (sym c.deref.ensures.value)))
    c.read.ensures

pub returns-in-Read : goal.returns-in-Read
returns-in-Read c =
    let h = c.args.shared.now in
    let v = c.args.widget.now in
    let w = v.id.index in
    let this = receiver w h.store.cells c.args.this.now in
    let vs = all_seen w h.store.cells c.args.args.now in
    let u = sees h v c.nth-first.result.now in
    reads_free h v c.requires.sound c.args.meter.now (run_native c.args.which this vs) _ tt (λ w k. tt)
    (λ fs x d.
    method_none c.args.which c.requires.part this vs u (first_seen w h.store.cells c.args.args.now c.nth-first.result.now c.nth-first.ensures) d (state h v fs x) c.in-Read.method c.in-Read.is
    (c.in_ok-list-in-Read.ensures.read fs x v.around v.bubbled ∙ ap (option_map (λ (m : Vec ℕ Global). numbers h v m.items)) c.in-None-list.is))

pub returns-in_err-list-in-Read : goal.returns-in_err-list-in-Read
returns-in_err-list-in-Read c = reads_memory c.args.shared.now c.args.widget.now c.requires.sound c.args.meter.now c.args.meter.now _ c.from_residual.result c.from_residual.ensures.0
