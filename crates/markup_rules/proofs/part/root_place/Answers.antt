use Rattle.std.proofs.Common.{sym, ap, ◌∙◌, true, Some}
use Rattle.std.proofs.lemmas.Option.{slice_get-get_or}
use Rattle.markup_rules.proofs.Bodies.{body_pass}
use Rattle.markup_rules.proofs.part.root_place.Goals as goal

pub returns-then-is_word : goal.returns-then-is_word
returns-then-is_word c = record {
  plain = c.index-content-i.result;
  found = slice_get-get_or c.args.content.now c.nodes.i c.index-content-i.result c.nodes-test.true ∙ ap Some (sym c.index-content-i.is);
  part = c.in-Some.part;
  element = c.in-Some.ensures;
  body = c.nodes.invariant.body ∙ body_pass c.in-Some.part true c.args.content.now c.nodes.i c.index-content-i.result c.nodes-test.true c.index-content-i.is c.in-Some.ensures (sym c.if-is_word.ensures);
}
