use Rattle.std.proofs.Common.{◌≡◌, ◌<◌, true, length, ◌∙◌}
use Rattle.std.specs.List.{AllByRecursion}
use Rattle.page_image.specs.Image.{number, owns}
use Rattle.js_image.specs.Image.{seen}
use Rattle.native_image.specs.Sound.{IsOwnCell}
use Rattle.native_image.proofs.Keeping.{store_same}
use Rattle.turn_dispatch.proofs.Searched.{at_some, none_found, some_found}
use Rattle.turn_dispatch.proofs.searching.search.Goals as goal

pub listeners-requires-clause-home : goal.listeners-requires-clause-home
listeners-requires-clause-home c = c.requires.sound.holds.home

pub returns-in_err-listeners-clause-kept : goal.returns-in_err-listeners-clause-kept
returns-in_err-listeners-clause-kept c = store_same c.args.site.now.id.index c.args.store.now

pub returns-in-None-clause-plan : goal.returns-in-None-clause-plan
returns-in-None-clause-plan c = λ fs x b.
    none_found c.args.site.now.id.index c.args.store.now c.args.site.now.page.now c.args.site.now.around.now c.requires.sound.holds c.args.from c.args.dispatch.kind _ (λ g t h. c.in_ok-listeners.ensures.image g t h)
    (number c.args.site.now.page.now c.args.site.now.id.index c.args.dispatch.target) (seen c.args.site.now.id.index c.args.store.now.cells c.args.dispatch.value) c.args.dispatch.depth fs x b c.in-None.is

pub returns-in-None-clause-kept : goal.returns-in-None-clause-kept
returns-in-None-clause-kept c = store_same c.args.site.now.id.index c.args.store.now

pub hear-requires-clause-sound : goal.hear-requires-clause-sound
hear-requires-clause-sound c = (c.args.site.now.around.now, c.requires.sound)

pub hear-requires-clause-own : goal.hear-requires-clause-own
hear-requires-clause-own c =
    (at_some (λ at. (owns c.args.site.now.page.now c.args.site.now.id.index at.0 ≡ true) × AllByRecursion (IsOwnCell c.args.site.now.id.index c.args.store.now.cells) at.1.items × (0 < length at.1.items)) _ c.in-Some.at c.in-Some.is (c.in_ok-listeners.ensures.own c.args.store.now c.requires.sound.holds)).0

pub hear-requires-clause-functions : goal.hear-requires-clause-functions
hear-requires-clause-functions c =
    (at_some (λ at. (owns c.args.site.now.page.now c.args.site.now.id.index at.0 ≡ true) × AllByRecursion (IsOwnCell c.args.site.now.id.index c.args.store.now.cells) at.1.items × (0 < length at.1.items)) _ c.in-Some.at c.in-Some.is (c.in_ok-listeners.ensures.own c.args.store.now c.requires.sound.holds)).1

pub hear-requires-clause-some : goal.hear-requires-clause-some
hear-requires-clause-some c =
    (at_some (λ at. (owns c.args.site.now.page.now c.args.site.now.id.index at.0 ≡ true) × AllByRecursion (IsOwnCell c.args.site.now.id.index c.args.store.now.cells) at.1.items × (0 < length at.1.items)) _ c.in-Some.at c.in-Some.is (c.in_ok-listeners.ensures.own c.args.store.now c.requires.sound.holds)).2

pub returns-in_ok-hear-in-Some-clause-plan : goal.returns-in_ok-hear-in-Some-clause-plan
returns-in_ok-hear-in-Some-clause-plan c = λ fs x b.
    some_found c.args.site.now.id.index c.args.store.now c.args.site.now.page.now c.args.site.now.around.now c.requires.sound.holds c.args.from c.args.dispatch.kind _ (λ g t h. c.in_ok-listeners.ensures.image g t h)
    (number c.args.site.now.page.now c.args.site.now.id.index c.args.dispatch.target) (seen c.args.site.now.id.index c.args.store.now.cells c.args.dispatch.value) c.args.dispatch.depth fs x b c.in-Some.at c.in-Some.is
    ∙ c.in_ok-hear-in-Some.ensures.plan fs x c.args.site.now.around.now b c.requires.sound
