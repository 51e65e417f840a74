use Rattle.std.proofs.Common.{List, ap, arith, length, map, refl, subst, ◌∙◌}
use Rattle.std.specs.declared.alloc.Global.{Global}
use Rattle.std.specs.declared.vec.Vec.{Vec}
use Rattle.js_names.specs.declared.code.Code.{Code}
use Rattle.js_names.specs.Code.{tree_in}
use Rattle.page_plan.specs.Pages.{piece_of}
use Rattle.page_load.specs.Homes.{fuels_of, names_of}
use Rattle.page_load.specs.Laying.{AreLaid, LaysOut}
use Rattle.page_load.specs.Lives.{HaveRoots}
use Rattle.page_load.specs.Loads.{singles}
use Rattle.page_load.specs.Starts.{AreStarts}
use Rattle.page_load.specs.declared.loading.Loaded.{Loaded}
use Rattle.page_load.proofs.Whole.{page_loads, trees_there}
use Rattle.page_load.proofs.loading.load_page.Goals as goal

pub lay_pieces-requires : goal.lay_pieces-requires
lay_pieces-requires c = omega (arith, c.if-len-gt16.false, c.len.ensures, ap length c.deref-2.ensures.value)

pub slots_of-requires : goal.slots_of-requires
slots_of-requires c = omega (arith, c.if-len-gt16.false, c.len.ensures, ap length c.deref-3.ensures.value)

pub places_of-requires-clause-unused : goal.places_of-requires-clause-unused
places_of-requires-clause-unused c = c.in_ok-store.ensures.laid.unused

pub places_of-requires-clause-free : goal.places_of-requires-clause-free
places_of-requires-clause-free c = c.in_ok-store.ensures.laid.free

pub places_of-requires-clause-raws : goal.places_of-requires-clause-raws
places_of-requires-clause-raws c = c.in_ok-store.ensures.laid.raws

pub places_of-requires-clause-trees : goal.places_of-requires-clause-trees
places_of-requires-clause-trees c =
    let b = c.in_ok-store.field-0 in
    let starts = c.in_ok-starts.starts.items in
    trees_there (map tree_in c.in_ok-libs.libs.items) c.args.spec.slots.items b.roots.items starts b.store b.page
    (subst (λ (cs : List Code). AreStarts (map tree_in cs) c.args.spec.slots.items starts) c.deref-4.ensures.value c.in_ok-starts.ensures)
    (subst (λ slots. AreLaid slots b.roots.items b.store b.page) c.deref-2.ensures.value c.in_ok-store.ensures.laid)
    (c.in_ok-store.ensures.all ∙ ap length c.deref-2.ensures.value)

pub returns : goal.returns
returns c =
    let b = c.in_ok-store.field-0 in
    let starts = c.in_ok-starts.starts.items in
    let specs = c.args.spec.slots.items in
    let l : Loaded = record { lives = record { shared = c.places_of.new.shared; places = c.in_ok-places.places; journal = c.new-2.result }; slots = c.in_ok-slots.slots; libs = c.in_ok-libs.libs; channels = c.args.spec.channels } in
    page_loads c.args.spec l b.store b.page b.roots.items (subst (λ slots. AreLaid slots b.roots.items b.store b.page) c.deref-2.ensures.value c.in_ok-store.ensures.laid)
    (c.in_ok-store.ensures.all ∙ ap length c.deref-2.ensures.value) starts
    (subst (λ (cs : List Code). AreStarts (map tree_in cs) specs starts) c.deref-4.ensures.value c.in_ok-starts.ensures)
    c.in_ok-places.ensures.page c.in_ok-places.ensures.places c.in_ok-places.ensures.twenty (subst (λ roots. HaveRoots roots c.in_ok-places.places.items) c.deref-5.ensures.value c.in_ok-places.ensures.roots) (omega (arith, c.if-len-gt16.false, c.len.ensures, c.args.spec.slots.ok.0))
    (c.in_ok-slots.ensures.names ∙ ap names_of c.deref-3.ensures.value) (c.in_ok-slots.ensures.fuels ∙ ap fuels_of c.deref-3.ensures.value) c.in_ok-slots.ensures.few (c.in_ok-slots.ensures.chains ∙ ap (λ xs. singles 0 (length xs)) c.deref-3.ensures.value)
    c.in_ok-libs.ensures refl (ap (λ (cs : Vec Code Global). cs.items) c.in_ok-places.ensures.codes ∙ c.new.ensures.items) c.new-2.ensures.items c.in_ok-places.ensures.others c.in_ok-places.ensures.raws
    (subst (λ pieces. LaysOut b.page b.roots.items (map piece_of pieces)) c.deref.ensures.value c.in_ok-store.ensures.lays)
