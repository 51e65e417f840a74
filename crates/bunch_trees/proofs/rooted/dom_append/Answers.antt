use Rattle.std.proofs.Common.{ℕ, [], ◌∷◌, Some, map, sym, ap, ◌∙◌}
use Rattle.std.specs.declared.vec.Vec.{Vec}
use Rattle.std.specs.declared.alloc.Global.{Global}
use Rattle.std.specs.Option.{option_map}
use Rattle.widget_meaning.specs.Costs.{or_throw}
use Rattle.widget_meaning.specs.DomNatives.{dom_native}
use Rattle.permitted_table.specs.declared.native.DomNative.TheVariants.{DomAppend}
use Rattle.widget_meaning.specs.Values.{E4}
use Rattle.js_image.specs.declared.outcome.Fault.TheVariants as fault
use Rattle.js_image.specs.Image.{seen}
use Rattle.page_image.specs.Image.{number}
use Rattle.native_image.specs.Image.{beside, image}
use Rattle.native_image.proofs.Keeping.{keeps_here}
use Rattle.native_image.proofs.Working.{at_thrown, ok_at_same}
use Rattle.bunch_trees.specs.Appends.{root_plan}
use Rattle.bunch_trees.proofs.Roots.{some_own}
use Rattle.bunch_trees.proofs.rooted.dom_append.Goals as goal

pub bunch_of-requires-clause-held : goal.bunch_of-requires-clause-held
bunch_of-requires-clause-held c = c.requires.sound.1.holds.bunches

pub append_to_root-requires-clause-sound : goal.append_to_root-requires-clause-sound
append_to_root-requires-clause-sound c = c.requires.sound

pub append_to_root-requires-clause-news : goal.append_to_root-requires-clause-news
append_to_root-requires-clause-news c = some_own c.args.page.now c.args.w.index c.in_ok-news.field-0 c.in-Some.news c.deref.result.now c.in-Some.is c.deref.ensures.value c.in_ok-news.ensures.nodes

pub returns-in-None-clause-native : goal.returns-in-None-clause-native
returns-in-None-clause-native c = λ l b this sound.
    let w = c.args.w.index in
    let p = c.args.page.now in
    let s = c.args.store.now in
    let h = beside s p l b in
    let t = seen w s.cells c.args.other.now in
    at_thrown w h (λ d u. dom_native DomAppend this (t ∷ []) d u) fault.E4 c.args.meter.now sound
    (λ fs x d.
    let u = image fs x w h in
    ap (λ o. or_throw E4 o u (λ ms. root_plan ms u)) (c.in_ok-news.ensures.read fs x l b ∙ ap (option_map (λ (k : Vec ℕ Global). map (number p w) k.items)) c.in-None.is))

pub returns-in-None-clause-kept : goal.returns-in-None-clause-kept
returns-in-None-clause-kept c = λ l sound. keeps_here c.args.w.index c.args.store.now c.args.page.now l sound.holds

pub returns-in-Some-clause-native : goal.returns-in-Some-clause-native
returns-in-Some-clause-native c = λ l b this sound.
    let w = c.args.w.index in
    let p = c.args.page.now in
    let s = c.args.store.now in
    let h = beside s p l b in
    let t = seen w s.cells c.args.other.now in
    let ms = map (number p w) c.deref.result.now in
    ok_at_same w h (beside c.append_to_root.new.store c.append_to_root.new.page l b) (λ d u. dom_native DomAppend this (t ∷ []) d u) (λ d u. root_plan ms u) c.append_to_root.result c.args.meter.now c.append_to_root.new.meter
    (λ fs x d.
    let u = image fs x w h in
    ap (λ o. or_throw E4 o u (λ ks. root_plan ks u))
    (c.in_ok-news.ensures.read fs x l b ∙ ap (option_map (λ (k : Vec ℕ Global). map (number p w) k.items)) c.in-Some.is ∙ ap (λ k. Some (map (number p w) k)) (sym c.deref.ensures.value)))
    (c.append_to_root.ensures.native l b sound)

pub returns-in-Some-clause-kept : goal.returns-in-Some-clause-kept
returns-in-Some-clause-kept c = c.append_to_root.ensures.kept

pub returns-in_err-news-clause-kept : goal.returns-in_err-news-clause-kept
returns-in_err-news-clause-kept c = λ l sound. keeps_here c.args.w.index c.args.store.now c.args.page.now l sound.holds
