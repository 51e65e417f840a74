use Rattle.std.proofs.Common.{sym, ◌∙◌}
use Rattle.std.proofs.lemmas.List.{at_drop_all}
use Rattle.widget_meaning.specs.Scopes.{distinct}
use Rattle.js_names.proofs.Once.{put, rest_less, seen_more}
use Rattle.js_names.proofs.gathering.each_once.Goals as goal

pub list-preserved : goal.list-preserved
list-preserved c =
    let x = c.name-item.result in
    let copy = c.in_ok-share.field-0 in
    let m = put c.list.names.items _ x copy _ _ c.in_ok-add_if.ensures c.in_ok-is_new.ensures.added (c.list.invariant.known copy) c.in_ok-share.ensures in
    record {
      known = λ t. seen_more c.list.names.items _ x copy t _ _ m c.in_ok-share.ensures (c.list.invariant.known t) (c.in_ok-is_new.ensures.updates.0 t);
      rest = rest_less c.list.names.items _ c.args.list.now c.list.name-index x c.list-test.true c.name-item.is m c.list.invariant.rest;
    }

pub returns : goal.returns
returns c = sym (at_drop_all (distinct c.list.names.items) c.args.list.now c.list.name-index c.list-test.false) ∙ c.list.invariant.rest
