use Rattle.std.proofs.Common.{◌≡◌, ℕ, sym, ◌∙◌, subst, true}
use Rattle.std.specs.Prelude.{Some, get_or}
use Rattle.widget_meaning.specs.Values.{Undefined}
use Rattle.widget_meaning.specs.Dispatch.{search_from}
use Rattle.page_image.specs.Image.{number, owns}
use Rattle.native_image.specs.Image.{beside, image}
use Rattle.turn_dispatch.proofs.Arms.{node_own, same_at}
use Rattle.turn_dispatch.proofs.taking.fire.Goals as goal

pub search-requires-clause-dispatch : goal.search-requires-clause-dispatch
search-requires-clause-dispatch c =
    let w = c.args.site.now.id.index in
    let p = c.args.site.now.page.now in
    let ns = c.args.firing.now.nodes.items in record {
      target = subst (λ (n : ℕ). owns p w n ≡ true) (sym c.index-node.ensures) (node_own p w ns c.args.next c.index-node.result.now c.requires.there c.requires.firing.nodes);
      value = tt;
    }

pub search-requires-clause-own : goal.search-requires-clause-own
search-requires-clause-own c =
    let w = c.args.site.now.id.index in
    let p = c.args.site.now.page.now in
    let ns = c.args.firing.now.nodes.items in
    subst (λ (n : ℕ). owns p w n ≡ true) (sym c.index-node.ensures) (node_own p w ns c.args.next c.index-node.result.now c.requires.there c.requires.firing.nodes)

pub returns-clause-next : goal.returns-clause-next
returns-clause-next c =
    let w = c.args.site.now.id.index in
    let p = c.args.site.now.page.now in
    let l = c.args.site.now.around.now in
    let f = c.args.firing.now in
    let new = c.search.new.store in
    let node : get_or f.nodes.items c.args.next 0 ≡ c.index-node.result.now = same_at f.nodes.items c.args.next 0 c.index-node.result.now c.requires.there ∙ sym c.index-node.ensures in record {
      plan = λ fs x b.
          (λ j. search_from (Some (number p w (node j))) (sym c.in_ok-share.ensures j) (number p w (node j)) Undefined f.depth (image fs x w (beside c.args.store.now p l b)))
          ∙ (c.in_ok-found.ensures.plan fs x b ∙ c.took_of.ensures.plan fs w new.cells p (image fs x w (beside new p l b)));
      fine = λ fs. c.took_of.ensures.fine fs w new p c.in_ok-found.ensures.fine;
      near = c.took_of.ensures.near;
    }

pub returns-clause-kept : goal.returns-clause-kept
returns-clause-kept c = record { sound = c.search.ensures.sound; kept = c.search.ensures.kept }
