use Rattle.std.proofs.Common.{◌≡◌, ◌∙◌, Some, arith, false, length, refl, subst, sym, true}
use Rattle.std.specs.Prelude.{slice_get, slice_index_or}
use Rattle.std.proofs.lemmas.Option.{get_or_from_slice_get, slice_get_read}
use Rattle.std.proofs.lemmas.Result.{IfOk-weaker}
use Rattle.slot_picks.specs.Places.{is_accepted}
use Rattle.slot_picks.specs.Lives.{seens_of}
use Rattle.widget_host.specs.Housed.{IsHoused, accepts, ends, marked, seens}
use Rattle.widget_host.proofs.Shown.{life_there}
use Rattle.widget_host.proofs.host.Host.retired.Goals as goal

pub index-requires : goal.index-requires
unfolding ends
index-requires c = omega (arith, c.requires.given)

pub line_at-requires-clause-accepted : goal.line_at-requires-clause-accepted
unfolding accepts ends
line_at-requires-clause-accepted c =
    let es = c.args.self.now.ends.items in
    let is : slice_index_or es c.args.i 0 ≡ c.index.result.now = get_or_from_slice_get es c.args.i c.index.result.now 0 (slice_get_read es (length es) c.args.i c.index.result.now refl (omega (arith, c.requires.given)) c.index.ensures) in
    subst (λ v. is_accepted c.args.self.now.lives.places.items v ≡ true) is c.requires.accepted

pub line_at-requires-clause-there : goal.line_at-requires-clause-there
unfolding accepts ends
line_at-requires-clause-there c =
    let es = c.args.self.now.ends.items in
    let is : slice_index_or es c.args.i 0 ≡ c.index.result.now = get_or_from_slice_get es c.args.i c.index.result.now 0 (slice_get_read es (length es) c.args.i c.index.result.now refl (omega (arith, c.requires.given)) c.index.ensures) in
    life_there c.args.self.now.lives c.index.result.now (subst (λ v. is_accepted c.args.self.now.lives.places.items v ≡ true) is c.requires.accepted)

pub line_at-requires-clause-fine : goal.line_at-requires-clause-fine
unfolding IsHoused marked
line_at-requires-clause-fine c = (c.requires.housed.1 c.if-self.false).slots.lives

pub returns-clause-line : goal.returns-clause-line
unfolding ends seens
returns-clause-line c =
    let es = c.args.self.now.ends.items in
    let is : slice_index_or es c.args.i 0 ≡ c.index.result.now = get_or_from_slice_get es c.args.i c.index.result.now 0 (slice_get_read es (length es) c.args.i c.index.result.now refl (omega (arith, c.requires.given)) c.index.ensures) in
    IfOk-weaker c.line_at.result _ _ (λ r told x at. told x (subst (λ v. slice_get (seens_of c.args.self.now.lives) v ≡ Some x) is at)) c.line_at.ensures

pub returns-clause-marked : goal.returns-clause-marked
unfolding marked
returns-clause-marked c = λ is. absurd (let both : false ≡ true = sym c.if-self.false ∙ is in cc)
