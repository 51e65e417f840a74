use Rattle.std.proofs.Common.{◌∷◌, [], map, ap, ◌∙◌}
use Rattle.std.proofs.lemmas.List.{map-append}
use Rattle.trace_reader.specs.Said.{said}
use Rattle.adhost_run.specs.Demo.{demo_items}
use Rattle.adhost_run.proofs.DemoPage.{items_more, items_all}
use Rattle.adhost_run.proofs.demos.demo_items.Goals as goal

pub items-preserved : goal.items-preserved
items-preserved c = record {
  below = c.next_number-x.ensures.below;
  rest = items_more (demo_items c.args.count) c.items.items.items c.push.new.self.items c.in_ok-demo_item.field-0 c.items.x c.next_number-x.result c.items.i c.args.count c.items-test.true c.next_number-x.ensures.value c.items.invariant.rest
      (ap (map said) c.in_ok-push.ensures.items ∙ map-append said c.items.items.items (c.in_ok-demo_item.field-0 ∷ [])) c.in_ok-demo_item.ensures;
}

pub returns : goal.returns
returns c = items_all (demo_items c.args.count) c.items.items.items c.items.x c.items.i c.args.count c.items-test.false c.items.invariant.rest
