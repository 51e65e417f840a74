use Rattle.std.proofs.Common.{◌∙◌, ap, map}
use Rattle.query_grammar.specs.Filters.{is_among}
use Rattle.query_walks.proofs.failed.look_up.Goals as goal

pub returns-then-has_same_class : goal.returns-then-has_same_class
returns-then-has_same_class c = c.requires.found ∙ ap (λ o. map (is_among o) c.args.wanted.now.keys) (c.has_same_class.ensures c.if-has_same_class.true)
