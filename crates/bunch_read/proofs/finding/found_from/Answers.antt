use Rattle.std.proofs.Common.{refl, sym, ap, ◌∙◌}
use Rattle.query_grammar.specs.Renumbering.{renumbered}
use Rattle.page_image.specs.Image.{number}
use Rattle.page_image.proofs.Pages.{is_widget}
use Rattle.bunch_read.proofs.Opened.{all_apart, seen_at, to_focus}
use Rattle.bunch_read.proofs.finding.found_from.Goals as goal

pub nodes_stand_once-requires : goal.nodes_stand_once-requires
nodes_stand_once-requires c = is_widget c.args.w.index c.args.w.small

pub find-requires-clause-focus : goal.find-requires-clause-focus
find-requires-clause-focus c = to_focus c.args.page.now c.args.w.index _ c.focus.result c.focus.ensures c.requires.focus

pub returns-clause-image : goal.returns-clause-image
returns-clause-image c = λ g s shows. c.find.ensures.image s shows.trees (shows.focused ∙ ap (renumbered (number c.args.page.now c.args.w.index)) (sym c.focus.ensures))

pub returns-clause-apart : goal.returns-clause-apart
returns-clause-apart c = all_apart c.args.page.now c.args.w.index c.args.w.small c.nodes_stand_once.ensures c.find.result c.focus.result c.args.starts.now c.args.query.now c.requires.apart (c.find.ensures.image (seen_at c.args.page.now c.args.w.index c.args.w.small c.nodes_stand_once.ensures c.focus.result) refl refl) c.find.ensures.own
