use Rattle.std.proofs.Common.{◌≡◌, ◌+◌, ◌∙◌, sym, subst, map, take, ap}
use Rattle.std.specs.BTreeMap.{get}
use Rattle.std.specs.Ordering.{nat_cmp}
use Rattle.std.specs.Cmp.Lexicographic.{slice_cmp}
use Rattle.js_tree.specs.declared.nodes.ScopeName.{ScopeName}
use Rattle.js_names.specs.Names.{ArePlaced}
use Rattle.js_names.proofs.Placed.{placed_push, texts_push}
use Rattle.js_names.proofs.gathering.with_places.Goals as goal

pub names-preserved : goal.names-preserved
names-preserved c =
    let place = get (slice_cmp nat_cmp) c.args.places.now in
    let n : ScopeName = record { text = c.in_ok-share.field-0; argument = c.copied-argument.result } in
    let argument : c.copied-argument.result ≡ place c.in_ok-share.field-0 = c.copied-argument.ensures ∙ c.get.ensures.value ∙ ap place (sym c.in_ok-share.ensures) in
    record {
      texts = subst (λ l. map (λ (m : ScopeName). m.text) l ≡ take (c.names.name-index + 1) c.args.names.now) (sym c.in_ok-push.ensures.items)
          (texts_push c.names.list.items n c.args.names.now c.names.name-index c.name-item.result c.names-test.true c.name-item.is c.in_ok-share.ensures c.names.invariant.texts);
      placed = subst (ArePlaced place) (sym c.in_ok-push.ensures.items) (placed_push place c.names.list.items n c.names.invariant.placed argument);
    }
