use Rattle.std.proofs.Common.{List, sym, ap, ◌∙◌, map}
use Rattle.store_cells.specs.declared.value.Value.{Value as StoreValue}
use Rattle.widget_meaning.specs.Values.{to_number}
use Rattle.widget_meaning.specs.MathNatives as maths
use Rattle.widget_meaning.specs.Operators as operators
use Rattle.js_image.specs.Image.{all_seen}
use Rattle.plain_natives.proofs.Exits.{first_some}
use Rattle.plain_natives.specs.Choices as choices
use Rattle.std.specs.List.{fold}
use Rattle.code_units.specs.declared.whole.WholeRead.TheVariants as read
use Rattle.plain_natives.proofs.maths.best.Goals as goal

pub returns-in-Some : goal.returns-in-Some
returns-in-Some c =
    λ w cells.
    c.best_of.ensures w cells
    ∙ (λ j. fold (operators.of_numbers read.Left read.NotNumber (λ x y. read.Whole (choices.better c.args.max x y))) (c.read_number.ensures w cells j) (map to_number (all_seen w cells (c.rest_of.ensures j))))
    ∙ sym (ap (λ (l : List StoreValue). maths.best (choices.better c.args.max) (all_seen w cells l)) (first_some c.args.args.now c.in-Some.first.now c.in-Some.ensures.value))
