use Rattle.std.proofs.Common.{refl, sym, subst}
use Rattle.std.specs.Prelude.{IfOk, IfSome}
use Rattle.page_load.specs.Lives.{HasTree, IsPlaceOf}
use Rattle.page_load.proofs.Begun.{keeps_same}
use Rattle.page_load.proofs.Growing.{all_ok, always_ok}
use Rattle.page_load.proofs.lives.place_of.Goals as goal

pub first_place-requires-clause-tree : goal.first_place-requires-clause-tree
first_place-requires-clause-tree c = subst (λ o. IfSome o (λ a. IfSome a.scripts (λ s. HasTree c.args.shared.now.page c.args.w))) c.in-Some.is c.requires.tree

pub returns-in-Some-clause-place : goal.returns-in-Some-clause-place
returns-in-Some-clause-place c = subst (λ o. IfOk c.first_place.result (IsPlaceOf c.first_place.new.shared c.args.w o)) (sym c.in-Some.is) c.first_place.ensures.place

pub returns-in-None-clause-place : goal.returns-in-None-clause-place
returns-in-None-clause-place c = subst (λ o. IfOk c.no_place.result (IsPlaceOf c.args.shared.now c.args.w o)) (sym c.in-None.is) c.no_place.ensures.unborn

pub returns-in-None-clause-same : goal.returns-in-None-clause-same
returns-in-None-clause-same c = all_ok c.no_place.result (λ p e. refl)

pub returns-in-None-clause-others : goal.returns-in-None-clause-others
returns-in-None-clause-others c = always_ok c.no_place.result (keeps_same c.args.w c.args.shared.now c.requires.unused c.requires.raws)
