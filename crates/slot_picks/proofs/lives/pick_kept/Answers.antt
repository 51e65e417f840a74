use Rattle.std.proofs.Common.{◌≡◌, ◌∙◌, ◌++◌, List, [], ◌∷◌, refl, ap, Some, length}
use Rattle.std.specs.Prelude.{slice_get}
use Rattle.std.proofs.lemmas.Option.{slice_get_read}
use Rattle.life_laws.specs.declared.entry.PickEntry.{PickEntry}
use Rattle.life_laws.specs.Journal.{kept}
use Rattle.life_laws.proofs.Crowds.{kept_with}
use Rattle.slot_picks.proofs.Keeping.{keeps_here, keeps_journal}
use Rattle.slot_picks.proofs.Picking.{on_err, same_accepted}
use Rattle.slot_picks.proofs.Spending.{idle_kept, kept_idle}
use Rattle.slot_picks.proofs.lives.pick_kept.Goals as goal

pub returns-then-not-index-clause-kept : goal.returns-then-not-index-clause-kept
returns-then-not-index-clause-kept c =
    let ls = c.args.lives.now.places.items in
    let at : slice_get ls c.args.v ≡ Some c.index.result.now = slice_get_read ls (length ls) c.args.v c.index.result.now refl c.requires.there c.index.ensures in
    idle_kept c.args.lives.now.shared c.args.v c.args.k ls c.index.result.now c.args.lives.now.journal.items at c.if-not-index.true

pub returns-then-not-index-clause-stays : goal.returns-then-not-index-clause-stays
returns-then-not-index-clause-stays c = keeps_here c.args.lives.now

pub spent_at-before-requires-clause-accepted : goal.spent_at-before-requires-clause-accepted
spent_at-before-requires-clause-accepted c =
    let ls = c.args.lives.now.places.items in
    let at : slice_get ls c.args.v ≡ Some c.index.result.now = slice_get_read ls (length ls) c.args.v c.index.result.now refl c.requires.there c.index.ensures in
    λ l e. same_accepted _ c.index.result.now l at e c.if-not-index.false

pub pick_one-requires-clause-accepted : goal.pick_one-requires-clause-accepted
pick_one-requires-clause-accepted c =
    let ls = c.args.lives.now.places.items in
    let at : slice_get ls c.args.v ≡ Some c.index.result.now = slice_get_read ls (length ls) c.args.v c.index.result.now refl c.requires.there c.index.ensures in
    λ l e. same_accepted _ c.index.result.now l at e c.if-not-index.false

pub returns-in-Idle-clause-kept : goal.returns-in-Idle-clause-kept
returns-in-Idle-clause-kept c = kept_idle c.args.v c.args.k c.in_ok-picked.picked _ _ c.args.lives.now.journal.items _ c.in_ok-picked.ensures.picked c.in-Idle.is c.in_ok-picked.ensures.journal

pub returns-in_err-keep-clause-stays : goal.returns-in_err-keep-clause-stays
returns-in_err-keep-clause-stays c = keeps_journal c.args.lives.now c.pick_one.new.lives _ refl refl c.in_ok-picked.ensures.stays

pub returns-in_err-keep-clause-still : goal.returns-in_err-keep-clause-still
returns-in_err-keep-clause-still c = on_err c.from_residual-in_err-keep.result (c.in_err-keep.ensures.still ∙ c.in_ok-picked.ensures.journal)

pub returns : goal.returns
returns c = record {
  kept = kept_with c.args.v c.args.k c.in_ok-picked.picked _ _ c.args.lives.now.journal.items _ c.spent_at-before.result c.spent_at-after.result c.in_ok-picked.ensures.picked c.spent_at-before.ensures c.spent_at-after.ensures c.in_default.not-Idle
      (c.in_ok-keep.ensures.entry ∙ ap (λ (js : List PickEntry). kept (js ++ record { widget = c.args.v; before = c.spent_at-before.result; after = c.spent_at-after.result; slice = c.args.k } ∷ [])) c.in_ok-picked.ensures.journal);
  fine = record { places = c.in_ok-picked.ensures.fine.places; fine = c.in_ok-picked.ensures.fine.fine; short = c.in_ok-keep.ensures.short };
  few = c.in_ok-picked.ensures.few;
  others = c.in_ok-picked.ensures.others;
  still = tt;
  stays = keeps_journal c.args.lives.now c.pick_one.new.lives _ refl refl c.in_ok-picked.ensures.stays;
}
