use Rattle.std.proofs.Common.{map}
use Rattle.plain_tree.specs.Plains.{placed_all}
use Rattle.markup_rules.specs.Parts.{element_of}
use Rattle.widget_form.specs.Forms.{root_scripts}
use Rattle.widget_form.proofs.Splitting.{scripts_found, has_scripts}
use Rattle.widget_form.proofs.file.parts_of.Goals as goal

pub returns : goal.returns
returns c = has_scripts (root_scripts (placed_all c.args.content.now)) c.in_ok-scripts.scripts.items c.deref.result.now c.deref-2.result.now c.deref-3.result.now c.in-Some-last.last.now _ (scripts_found (placed_all c.args.content.now) c.in-Some.root (map element_of c.in_ok-scripts.scripts.items) c.in-Some.ensures c.in_ok-scripts.ensures) c.deref.ensures.value c.deref-2.ensures.value c.deref-3.ensures.value c.in-Some-last.ensures.value c.in_ok-span_of.ensures c.in_ok-id_span.ensures c.in_ok-libs_of.ensures
