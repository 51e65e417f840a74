use Rattle.std.proofs.Common.{map, sum_by, length, refl, ap, sym, ◌∙◌, subst, if◌then◌else◌}
use Rattle.std.specs.List.{list_any}
use Rattle.widget_meaning.specs.Costs.{give}
use Rattle.widget_meaning.specs.NativeForms.{make_array}
use Rattle.widget_meaning.specs.Plan.{Halt}
use Rattle.widget_meaning.specs.Values.{LongText, Text}
use Rattle.js_image.specs.Image.{all_seen, image}
use Rattle.js_image.specs.Plans.{IsFineMade, made_plan}
use Rattle.js_image.proofs.Grown.{kept_same}
use Rattle.bunch_read.specs.Values.{is_long}
use Rattle.bunch_read.proofs.Valued.{long_texts, texts_seen}
use Rattle.bunch_read.proofs.texts.give_texts.Goals as goal

pub returns-then-any_long-clause-ends : goal.returns-then-any_long-clause-ends
returns-then-any_long-clause-ends c = λ ts e u. record {
  leaves = λ fs r node d.
      let s = image fs r c.args.w.index c.args.store.now in
      ap (λ b. if b then Halt LongText s else make_array (map Text ts) (sum_by length ts) s give)
      (sym (long_texts ts) ∙ ap (list_any is_long) (sym e) ∙ ap (list_any is_long) (sym c.deref.ensures.value) ∙ sym c.any_long.ensures ∙ c.if-any_long.true);
  fine = tt;
  kept = λ fs. kept_same fs c.args.w.index c.args.store.now c.args.store.now refl;
}

pub returns-in-Cell-clause-ends : goal.returns-in-Cell-clause-ends
returns-in-Cell-clause-ends c = λ ts e u. record {
  leaves = λ fs r node d.
      let s = image fs r c.args.w.index c.args.store.now in
      ap (λ b. if b then Halt LongText s else make_array (map Text ts) (sum_by length ts) s give)
      (sym (long_texts ts) ∙ ap (list_any is_long) (sym e) ∙ ap (list_any is_long) (sym c.deref.ensures.value) ∙ sym c.any_long.ensures ∙ c.if-any_long.false)
      ∙ (λ j. make_array ((sym (texts_seen c.args.w.index c.args.store.now.cells ts) ∙ ap (all_seen c.args.w.index c.args.store.now.cells) (sym e)) j) (sym u j) s give)
      ∙ c.in_ok-id.ensures.plan fs r give
      ∙ ap (λ m. made_plan c.args.w.index c.make_array.new.store.cells m give (image fs r c.args.w.index c.make_array.new.store)) c.in-Cell.is;
  fine = subst (IsFineMade c.args.w.index c.make_array.new.store.cells) c.in-Cell.is c.in_ok-id.ensures.fine;
  kept = c.make_array.ensures.kept;
}

pub returns-in-Stop-clause-ends : goal.returns-in-Stop-clause-ends
returns-in-Stop-clause-ends c = λ ts e u. record {
  leaves = λ fs r node d.
      let s = image fs r c.args.w.index c.args.store.now in
      ap (λ b. if b then Halt LongText s else make_array (map Text ts) (sum_by length ts) s give)
      (sym (long_texts ts) ∙ ap (list_any is_long) (sym e) ∙ ap (list_any is_long) (sym c.deref.ensures.value) ∙ sym c.any_long.ensures ∙ c.if-any_long.false)
      ∙ (λ j. make_array ((sym (texts_seen c.args.w.index c.args.store.now.cells ts) ∙ ap (all_seen c.args.w.index c.args.store.now.cells) (sym e)) j) (sym u j) s give)
      ∙ c.in_ok-id.ensures.plan fs r give
      ∙ ap (λ m. made_plan c.args.w.index c.make_array.new.store.cells m give (image fs r c.args.w.index c.make_array.new.store)) c.in-Stop.is;
  fine = tt;
  kept = c.make_array.ensures.kept;
}
