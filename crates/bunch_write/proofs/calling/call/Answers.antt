use Rattle.std.proofs.Common.{refl, ℕ, [], ◌∷◌, Some, map, sym, ap, ◌∙◌}
use Rattle.std.specs.declared.vec.Vec.{Vec}
use Rattle.std.specs.declared.alloc.Global.{Global}
use Rattle.std.specs.Option.{option_map}
use Rattle.widget_meaning.specs.BunchReads.{read_native}
use Rattle.widget_meaning.specs.BunchWrites.{write_method}
use Rattle.widget_meaning.specs.Dispatch.{bubble}
use Rattle.widget_meaning.specs.DomNatives.{dom_native}
use Rattle.permitted_table.specs.declared.native.DomNative.TheVariants as dom_names
use Rattle.permitted_table.specs.declared.native.ReadNative.TheVariants as read_names
use Rattle.widget_meaning.specs.Natives.{run_native}
use Rattle.js_image.specs.declared.outcome.Fault.TheVariants as fault
use Rattle.js_image.specs.Image.{all_seen, seen}
use Rattle.store_cells.specs.declared.value.Value.TheVariants as value
use Rattle.native_common.specs.Receivers.{receiver}
use Rattle.page_image.specs.Image.{number}
use Rattle.native_image.specs.Image.{beside, image}
use Rattle.native_image.proofs.Keeping.{keeps_here}
use Rattle.native_image.proofs.Meeting.{at_same, no_outside}
use Rattle.native_image.proofs.Working.{ok_at_same}
use Rattle.bunch_write.proofs.Calls.{append_same, arg_fine, arg_seen, bubble_same, explode_same, method_none, method_same, no_bunch, receiver_held, receiver_is, tag_same, text_same}
use Rattle.bunch_write.proofs.Receivers.{some_nodes}
use Rattle.native_image.specs.Handed.{parts}
use Rattle.native_image.proofs.Reading.{writes_memory, writes_same, writes_thrown}
use Rattle.bunch_write.proofs.calling.call.Goals as goal

pub dom_tag-requires : goal.dom_tag-requires
dom_tag-requires c = (c.args.widget.now.around, c.requires.sound)

pub dom_text-requires : goal.dom_text-requires
dom_text-requires c = (c.args.widget.now.around, c.requires.sound)

pub receiver_of-requires-clause-held : goal.receiver_of-requires-clause-held
receiver_of-requires-clause-held c = c.requires.sound.holds.bunches

pub returns-in-Bubble : goal.returns-in-Bubble
returns-in-Bubble c = record {
  refines =
      let w = c.args.widget.now.id.index in
      let p = c.args.shared.now.page in
      let l = c.args.widget.now.around in
      let s = c.args.shared.now.store in
      let h = beside s p l c.args.widget.now.bubbled in
      let this = receiver w s.cells c.args.this.now in
      let vs = all_seen w s.cells c.args.args.now in
      let u = seen w s.cells c.nth-first.result.now in
      let v = seen w s.cells c.nth-second.result.now in
      let first = arg_seen w s.cells c.args.args.now 0 c.nth-first.result.now c.nth-first.ensures in
      let second = arg_seen w s.cells c.args.args.now 1 c.nth-second.result.now c.nth-second.ensures in
      at_same w h (beside s p l c.bubble.new.bubbled) (run_native c.args.which this vs) (λ d t. bubble t.dispatches t) c.bubble.result c.args.meter.now c.args.meter.now
      (λ fs x d. bubble_same c.args.which this vs u v first second d (image fs x w h) c.in-Bubble.is)
      (c.bubble.ensures w s p l c.args.meter.now c.requires.sound);
  kept = keeps_here c.args.widget.now.id.index c.args.shared.now.store c.args.shared.now.page c.args.widget.now.around c.requires.sound.holds;
  codes = refl;
  rest = refl;
}

pub returns-in-DomTag : goal.returns-in-DomTag
returns-in-DomTag c = record {
  refines =
      let w = c.args.widget.now.id.index in
      let p = c.args.shared.now.page in
      let l = c.args.widget.now.around in
      let s = c.args.shared.now.store in
      let h = beside s p l c.args.widget.now.bubbled in
      let this = receiver w s.cells c.args.this.now in
      let vs = all_seen w s.cells c.args.args.now in
      let u = seen w s.cells c.nth-first.result.now in
      let v = seen w s.cells c.nth-second.result.now in
      let first = arg_seen w s.cells c.args.args.now 0 c.nth-first.result.now c.nth-first.ensures in
      let second = arg_seen w s.cells c.args.args.now 1 c.nth-second.result.now c.nth-second.ensures in
      ok_at_same w h (beside c.dom_tag.new.store c.dom_tag.new.page l c.args.widget.now.bubbled) (run_native c.args.which this vs) (λ d t. dom_native dom_names.DomTag this (u ∷ v ∷ []) d t) c.dom_tag.result c.args.meter.now c.args.meter.now
      (λ fs x d. tag_same c.args.which this vs u v first second d (image fs x w h) c.in-Dom.native c.in-Dom.is c.in-DomTag.is)
      (c.dom_tag.ensures.native l c.args.widget.now.bubbled c.args.meter.now this c.requires.sound);
  kept = c.dom_tag.ensures.kept c.args.widget.now.around c.requires.sound;
  codes = refl;
  rest = refl;
}

pub returns-in-DomText : goal.returns-in-DomText
returns-in-DomText c = record {
  refines =
      let w = c.args.widget.now.id.index in
      let p = c.args.shared.now.page in
      let l = c.args.widget.now.around in
      let s = c.args.shared.now.store in
      let h = beside s p l c.args.widget.now.bubbled in
      let this = receiver w s.cells c.args.this.now in
      let vs = all_seen w s.cells c.args.args.now in
      let u = seen w s.cells c.nth-first.result.now in
      let v = seen w s.cells c.nth-second.result.now in
      let first = arg_seen w s.cells c.args.args.now 0 c.nth-first.result.now c.nth-first.ensures in
      let second = arg_seen w s.cells c.args.args.now 1 c.nth-second.result.now c.nth-second.ensures in
      ok_at_same w h (beside c.dom_text.new.store c.dom_text.new.page l c.args.widget.now.bubbled) (run_native c.args.which this vs) (λ d t. dom_native dom_names.DomText this (u ∷ []) d t) c.dom_text.result c.args.meter.now c.args.meter.now
      (λ fs x d. text_same c.args.which this vs u v first second d (image fs x w h) c.in-Dom.native c.in-Dom.is c.in-DomText.is)
      (c.dom_text.ensures.native l c.args.widget.now.bubbled c.args.meter.now this c.requires.sound);
  kept = c.dom_text.ensures.kept c.args.widget.now.around c.requires.sound;
  codes = refl;
  rest = refl;
}

pub dom_append-requires-clause-sound : goal.dom_append-requires-clause-sound
dom_append-requires-clause-sound c = (c.args.widget.now.around, c.requires.sound)

pub dom_append-requires-clause-other : goal.dom_append-requires-clause-other
dom_append-requires-clause-other c = arg_fine c.args.widget.now.id.index c.args.shared.now.store.cells c.args.args.now 0 c.nth-first.result.now c.nth-first.ensures c.requires.args

pub returns-in-DomAppend : goal.returns-in-DomAppend
returns-in-DomAppend c = record {
  refines =
      let w = c.args.widget.now.id.index in
      let p = c.args.shared.now.page in
      let l = c.args.widget.now.around in
      let s = c.args.shared.now.store in
      let h = beside s p l c.args.widget.now.bubbled in
      let this = receiver w s.cells c.args.this.now in
      let vs = all_seen w s.cells c.args.args.now in
      let u = seen w s.cells c.nth-first.result.now in
      let v = seen w s.cells c.nth-second.result.now in
      let first = arg_seen w s.cells c.args.args.now 0 c.nth-first.result.now c.nth-first.ensures in
      let second = arg_seen w s.cells c.args.args.now 1 c.nth-second.result.now c.nth-second.ensures in
      ok_at_same w h (beside c.dom_append.new.store c.dom_append.new.page l c.args.widget.now.bubbled) (run_native c.args.which this vs) (λ d t. dom_native dom_names.DomAppend this (u ∷ []) d t) c.dom_append.result c.args.meter.now c.dom_append.new.meter
      (λ fs x d. append_same c.args.which this vs u v first second d (image fs x w h) c.in-Dom.native c.in-Dom.is c.in-DomAppend.is)
      (c.dom_append.ensures.native l c.args.widget.now.bubbled this c.requires.sound);
  kept = c.dom_append.ensures.kept c.args.widget.now.around c.requires.sound;
  codes = refl;
  rest = refl;
}

pub explode-requires-clause-sound : goal.explode-requires-clause-sound
explode-requires-clause-sound c = (c.args.widget.now.around, c.requires.sound)

pub returns-in-Read : goal.returns-in-Read
returns-in-Read c = record {
  refines =
      let w = c.args.widget.now.id.index in
      let p = c.args.shared.now.page in
      let l = c.args.widget.now.around in
      let s = c.args.shared.now.store in
      let h = beside s p l c.args.widget.now.bubbled in
      let this = receiver w s.cells c.args.this.now in
      let vs = all_seen w s.cells c.args.args.now in
      let u = seen w s.cells c.nth-first.result.now in
      let v = seen w s.cells c.nth-second.result.now in
      let first = arg_seen w s.cells c.args.args.now 0 c.nth-first.result.now c.nth-first.ensures in
      let second = arg_seen w s.cells c.args.args.now 1 c.nth-second.result.now c.nth-second.ensures in
      ok_at_same w h (beside c.explode.new.store p l c.args.widget.now.bubbled) (run_native c.args.which this vs) (λ d t. read_native read_names.Explode this vs d t) c.explode.result c.args.meter.now c.explode.new.meter
      (λ fs x d. explode_same c.args.which this vs u v first second d (image fs x w h) c.in-Read.field-0 c.requires.part c.in-Read.is)
      (c.explode.ensures.native l c.args.widget.now.bubbled vs c.requires.sound);
  kept = c.explode.ensures.kept c.args.widget.now.around c.requires.sound;
  codes = refl;
  rest = refl;
}

pub change-requires-clause-bunch : goal.change-requires-clause-bunch
change-requires-clause-bunch c = record {
  nodes = some_nodes c.args.shared.now.page c.args.widget.now.id.index c.in_ok-list-in-Write.list c.in-Some.list c.deref.result.now c.in-Some.is c.deref.ensures.value c.in_ok-list-in-Write.ensures.nodes;
  held =
      let w = c.args.widget.now.id.index in
      let p = c.args.shared.now.page in
      let l = c.args.widget.now.around in
      let s = c.args.shared.now.store in
      let h = beside s p l c.args.widget.now.bubbled in
      receiver_held w s.cells c.args.this.now c.in-Some-cell_of.cell (sym c.cell_of.ensures ∙ c.in-Some-cell_of.is) (image [] no_outside w h) (map (number p w) c.in-Some.list.items)
      (c.in_ok-list-in-Write.ensures.read [] no_outside l c.args.widget.now.bubbled ∙ ap (option_map (λ (k : Vec ℕ Global). map (number p w) k.items)) c.in-Some.is)
      c.requires.receiver;
}

pub change-requires-clause-first : goal.change-requires-clause-first
change-requires-clause-first c = arg_fine c.args.widget.now.id.index c.args.shared.now.store.cells c.args.args.now 0 c.nth-first.result.now c.nth-first.ensures c.requires.args

pub change-requires-clause-second : goal.change-requires-clause-second
change-requires-clause-second c = arg_fine c.args.widget.now.id.index c.args.shared.now.store.cells c.args.args.now 1 c.nth-second.result.now c.nth-second.ensures c.requires.args

pub returns-in-Some-cell_of : goal.returns-in-Some-cell_of
returns-in-Some-cell_of c =
    let w = c.args.widget.now.id.index in
    let p = c.args.shared.now.page in
    let l = c.args.widget.now.around in
    let s = c.args.shared.now.store in
    let h = parts c.args.shared.now c.args.widget.now in
    let this = receiver w s.cells c.args.this.now in
    let vs = all_seen w s.cells c.args.args.now in
    let u = seen w s.cells c.nth-first.result.now in
    let v = seen w s.cells c.nth-second.result.now in
    let first = arg_seen w s.cells c.args.args.now 0 c.nth-first.result.now c.nth-first.ensures in
    let second = arg_seen w s.cells c.args.args.now 1 c.nth-second.result.now c.nth-second.ensures in
    let ns = map (number p w) c.deref.result.now in
    let b = seen w s.cells (value.Ref c.in-Some-cell_of.cell) in
    writes_same c.args.shared.now c.change.new.shared c.args.widget.now c.change.new.widget c.args.meter.now c.change.new.meter (run_native c.args.which this vs) (λ d t. write_method c.in-Write.method ns b (u ∷ v ∷ []) d t) c.change.result
    (λ fs x d.
    let it = c.in_ok-list-in-Write.ensures.read fs x l c.args.widget.now.bubbled ∙ ap (option_map (λ (k : Vec ℕ Global). map (number p w) k.items)) c.in-Some.is in
    method_same c.args.which this vs u v first second d (image fs x w h) c.in-Write.method c.in-Write.is ns b
    (it ∙ ap (λ k. Some (map (number p w) k)) (sym c.deref.ensures.value))
    (receiver_is w s.cells c.args.this.now c.in-Some-cell_of.cell (sym c.cell_of.ensures ∙ c.in-Some-cell_of.is) (image fs x w h) (map (number p w) c.in-Some.list.items) it))
    c.change.ensures

pub returns-in-Some : goal.returns-in-Some
returns-in-Some c =
    let w = c.args.widget.now.id.index in
    let p = c.args.shared.now.page in
    let l = c.args.widget.now.around in
    let s = c.args.shared.now.store in
    let h = parts c.args.shared.now c.args.widget.now in
    let this = receiver w s.cells c.args.this.now in
    let vs = all_seen w s.cells c.args.args.now in
    let u = seen w s.cells c.nth-first.result.now in
    let v = seen w s.cells c.nth-second.result.now in
    let first = arg_seen w s.cells c.args.args.now 0 c.nth-first.result.now c.nth-first.ensures in
    let second = arg_seen w s.cells c.args.args.now 1 c.nth-second.result.now c.nth-second.ensures in
    writes_thrown c.args.shared.now c.args.widget.now c.requires.sound (run_native c.args.which this vs) fault.E3 c.args.meter.now
    (λ fs x d.
    method_none c.args.which this vs u v first second d (image fs x w h) c.in-Write.method c.in-Write.is
    (no_bunch w s.cells c.args.this.now (sym c.cell_of.ensures ∙ c.in-None-cell_of.is) (image fs x w h)))

pub returns-in-Write : goal.returns-in-Write
returns-in-Write c =
    let w = c.args.widget.now.id.index in
    let p = c.args.shared.now.page in
    let l = c.args.widget.now.around in
    let s = c.args.shared.now.store in
    let h = parts c.args.shared.now c.args.widget.now in
    let this = receiver w s.cells c.args.this.now in
    let vs = all_seen w s.cells c.args.args.now in
    let u = seen w s.cells c.nth-first.result.now in
    let v = seen w s.cells c.nth-second.result.now in
    let first = arg_seen w s.cells c.args.args.now 0 c.nth-first.result.now c.nth-first.ensures in
    let second = arg_seen w s.cells c.args.args.now 1 c.nth-second.result.now c.nth-second.ensures in
    writes_thrown c.args.shared.now c.args.widget.now c.requires.sound (run_native c.args.which this vs) fault.E3 c.args.meter.now
    (λ fs x d.
    method_none c.args.which this vs u v first second d (image fs x w h) c.in-Write.method c.in-Write.is
    (c.in_ok-list-in-Write.ensures.read fs x l c.args.widget.now.bubbled ∙ ap (option_map (λ (k : Vec ℕ Global). map (number p w) k.items)) c.in-None.is))

pub returns-in_err-list-in-Write : goal.returns-in_err-list-in-Write
returns-in_err-list-in-Write c = writes_memory c.args.shared.now c.args.widget.now c.requires.sound c.args.meter.now c.args.meter.now _ c.from_residual.result c.from_residual.ensures.0
