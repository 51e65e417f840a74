use Rattle.std.proofs.Common.{refl, ap, sym, ◌∙◌}
use Rattle.widget_meaning.specs.Values.{Truth}
use Rattle.widget_meaning.specs.Costs.{give}
use Rattle.js_image.specs.Image.{image}
use Rattle.js_image.proofs.Grown.{kept_same}
use Rattle.adsafe_object.proofs.Shapes.{value_array}
use Rattle.adsafe_object.proofs.objects.is_array.Goals as goal

pub returns : goal.returns
returns c = record {
  leaves = λ fs r node d. ap (λ b. give (Truth b) (image fs r c.args.w.index c.args.store.now)) (sym (c.is_array_in.ensures ∙ value_array fs r c.args.w.index c.args.store.now c.lawful.ensures c.args.v.now c.requires));
  fine = tt;
  kept = λ fs. kept_same fs c.args.w.index c.args.store.now c.args.store.now refl;
}
