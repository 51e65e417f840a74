use Rattle.std.proofs.Common.{refl, ap, sym, ◌∙◌, subst, is_some}
use Rattle.widget_meaning.specs.Plan.{Plan}
use Rattle.widget_meaning.specs.Values as meaning
use Rattle.widget_meaning.specs.Costs.{give, want}
use Rattle.widget_meaning.specs.AdsafeNatives.{create_from}
use Rattle.js_values.specs.Answers.{Leaves}
use Rattle.js_image.specs.Image.{image, seen}
use Rattle.js_image.proofs.Grown.{kept_same}
use Rattle.adsafe_object.proofs.Shapes.{base_some, on_err}
use Rattle.adsafe_object.proofs.Lengths.{chain_made, chain_refused}
use Rattle.adsafe_object.proofs.objects.create.Goals as goal

pub returns-in_default-clause-ends : goal.returns-in_default-clause-ends
returns-in_default-clause-ends c =
    let s = c.args.store.now in
    let w = c.args.w.index in
    let v = c.args.v.now in record {
      leaves = λ fs r node d confined. ap (λ b. want meaning.E4 b (image fs r w s) (create_from (seen w s.cells v) (image fs r w s))) (base_some fs r w s c.lawful.ensures v c.requires ∙ ap is_some (sym c.base_in.ensures ∙ c.in_default.is));
      fine = λ fs confined. tt;
      paid = λ f. f;
      kept = λ fs. kept_same fs w s s refl;
    }

pub returns-then-chain-ge-LONGEST_CHAIN-clause-ends : goal.returns-then-chain-ge-LONGEST_CHAIN-clause-ends
returns-then-chain-ge-LONGEST_CHAIN-clause-ends c =
    let s = c.args.store.now in
    let w = c.args.w.index in
    let v = c.args.v.now in record {
      leaves = λ fs r node d confined. chain_refused fs r w s confined c.lawful.ensures v c.requires c.in-Some.base (sym c.base_in.ensures ∙ c.in-Some.is) c.chain.result c.chain.ensures.count c.chain.ensures.few c.if-chain-ge-LONGEST_CHAIN.true;
      fine = λ fs confined. tt;
      paid = λ f. f;
      kept = λ fs. kept_same fs w s s refl;
    }

pub returns-in_err-make-clause-memory : goal.returns-in_err-make-clause-memory
returns-in_err-make-clause-memory c = on_err c.from_residual.result (λ fs. c.make.ensures.kept fs tt)

pub returns-clause-ends : goal.returns-clause-ends
returns-clause-ends c =
    let s = c.args.store.now in
    let w = c.args.w.index in
    let v = c.args.v.now in record {
      leaves = λ fs r node d confined. subst (λ (q : Plan). Leaves (seen w c.make.new.store.cells) node d c.given.result (image fs r w c.make.new.store) q)
          (sym (chain_made fs r w s confined c.lawful.ensures v c.requires c.in-Some.base (sym c.base_in.ensures ∙ c.in-Some.is) c.chain.result c.chain.ensures.count c.chain.ensures.few c.if-chain-ge-LONGEST_CHAIN.false ∙ c.in_ok-make.ensures.plan fs r give))
          (c.given.ensures.leaves w c.make.new.store.cells node d (image fs r w c.make.new.store));
      fine = λ fs confined. c.given.ensures.fine w c.make.new.store.cells c.in_ok-make.ensures.fine;
      paid = c.given.ensures.paid;
      kept = λ fs. c.make.ensures.kept fs tt;
    }
