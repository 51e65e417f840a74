use Rattle.std.proofs.Common.{◌≡◌, false, refl, sym, subst, true, ◌∙◌}
use Rattle.std.specs.Prelude.{IfOk, IfSome}
use Rattle.std.proofs.lemmas.Result.{IfOk-weaker}
use Rattle.page_load.specs.Lives.{HasTree, IsPlaceWith}
use Rattle.page_load.proofs.Begun.{keeps_same}
use Rattle.page_load.proofs.Growing.{all_ok, always_ok}
use Rattle.page_load.proofs.lives.first_place.Goals as goal

pub begin_place-requires-clause-tree : goal.begin_place-requires-clause-tree
begin_place-requires-clause-tree c = subst (λ o. IfSome o (λ s. HasTree c.args.shared.now.page c.args.w)) c.in-Some.is c.requires.tree

pub returns-in-Some-clause-place : goal.returns-in-Some-clause-place
returns-in-Some-clause-place c = subst (λ o. IfOk c.begin_place.result (IsPlaceWith c.begin_place.new.shared c.args.w c.args.start.fuel o)) (sym c.in-Some.is) c.begin_place.ensures.begun

pub returns-in-Some-clause-same : goal.returns-in-Some-clause-same
returns-in-Some-clause-same c = IfOk-weaker c.begin_place.result _ _ (λ p b e. absurd (let both : true ≡ false = sym b.accepted ∙ e in cc)) c.begin_place.ensures.begun

pub returns-in-None-clause-place : goal.returns-in-None-clause-place
returns-in-None-clause-place c = subst (λ o. IfOk c.no_place.result (IsPlaceWith c.args.shared.now c.args.w c.args.start.fuel o)) (sym c.in-None.is) c.no_place.ensures.unborn

pub returns-in-None-clause-same : goal.returns-in-None-clause-same
returns-in-None-clause-same c = all_ok c.no_place.result (λ p e. refl)

pub returns-in-None-clause-others : goal.returns-in-None-clause-others
returns-in-None-clause-others c = always_ok c.no_place.result (keeps_same c.args.w c.args.shared.now c.requires.unused c.requires.raws)
