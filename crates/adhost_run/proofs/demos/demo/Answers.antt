use Rattle.std.proofs.Common.{◌≡◌, [], length, map, false, sym, ap, subst, ◌∙◌, arith}
use Rattle.trace_reader.specs.Said.{said}
use Rattle.slot_check.specs.Verdicts.{sources_of}
use Rattle.slot_lives.specs.Ends.{end_of}
use Rattle.page_play.specs.Findings.{found_refused}
use Rattle.run_steps.specs.Items.{AreItems}
use Rattle.run_steps.specs.Page.{slot_names}
use Rattle.adhost_run.specs.Page.{runs_of}
use Rattle.adhost_run.specs.Demo.{demo_names}
use Rattle.adhost_run.proofs.DemoPage.{small_files, units_named, fits_of, files_many, names_are, demo_for, demo_unswapped, found_named, accepted, demo_answered, demo_staged}
use Rattle.adhost_run.proofs.demos.demo.Goals as goal

pub play_page-requires-clause-fit : goal.play_page-requires-clause-fit
play_page-requires-clause-fit c = fits_of c.in_ok-manifest.manifest (c.in_ok-manifest.ensures.parts ∙ units_named) c.in_ok-manifest.ensures.channels

pub play_page-requires-clause-items : goal.play_page-requires-clause-items
play_page-requires-clause-items c =
    let named : c.in_ok-names.names.items ≡ slot_names c.in_ok-manifest.manifest.entries.items = c.in_ok-names.ensures ∙ ap slot_names c.deref.ensures.value in
    let many : 16 ≡ length c.in_ok-names.names.items = sym (ap length (named ∙ names_are c.in_ok-manifest.manifest c.in_ok-sources.sources.items (c.in_ok-manifest.ensures.parts ∙ units_named) c.in_ok-sources.ensures)) in
    subst (λ n. AreItems n (map said c.in_ok-items.items.items)) many (demo_for c.args.count (map said c.in_ok-items.items.items) c.requires c.in_ok-items.ensures)

pub play_page-requires-clause-many : goal.play_page-requires-clause-many
play_page-requires-clause-many c = ap length c.deref-2.ensures.value ∙ files_many c.in_ok-manifest.manifest c.in_ok-sources.sources.items (c.in_ok-manifest.ensures.parts ∙ units_named) c.in_ok-sources.ensures c.in_ok-manifest.ensures.libs

pub play_page-requires-clause-small : goal.play_page-requires-clause-small
play_page-requires-clause-small c = small_files c.deref-2.result.now (ap sources_of c.deref-2.ensures.value ∙ c.in_ok-sources.ensures)

pub play_page-requires-clause-swapped : goal.play_page-requires-clause-swapped
play_page-requires-clause-swapped c = sym (ap length (demo_unswapped c.args.count (map said c.in_ok-items.items.items) c.in_ok-items.ensures))

pub play_page-requires-clause-named : goal.play_page-requires-clause-named
play_page-requires-clause-named c = c.in_ok-names.ensures ∙ ap slot_names c.deref.ensures.value

pub some_refused-requires : goal.some_refused-requires
some_refused-requires c =
    let is = c.in_ok-ran.ensures in
    c.plays_come_to.ensures.even is.spec is.swaps (map said c.in_ok-items.items.items) (runs_of c.in_ok-manifest.manifest (sources_of c.deref-2.result.now)) [] c.in_ok-ran.ran.findings c.in_ok-ran.ran.host is.played is.found

pub push_short_lines-requires-clause-few : goal.push_short_lines-requires-clause-few
push_short_lines-requires-clause-few c =
    let named : c.deref-3.result.now ≡ demo_names = c.deref-3.ensures.value ∙ found_named c.in_ok-manifest.manifest c.deref-2.result.now (c.in_ok-manifest.ensures.parts ∙ units_named) (ap sources_of c.deref-2.ensures.value ∙ c.in_ok-sources.ensures) c.in_ok-manifest.ensures.channels c.args.count c.in_ok-items.items.items c.in_ok-items.ensures c.in_ok-ran.ran c.in_ok-ran.ensures in
    omega (arith, ap length named)

pub push_short_lines-requires-clause-told : goal.push_short_lines-requires-clause-told
push_short_lines-requires-clause-told c =
    let is = c.in_ok-ran.ensures in
    let f = c.in_ok-ran.ran.findings in
    let named : c.deref-3.result.now ≡ demo_names = c.deref-3.ensures.value ∙ found_named c.in_ok-manifest.manifest c.deref-2.result.now (c.in_ok-manifest.ensures.parts ∙ units_named) (ap sources_of c.deref-2.ensures.value ∙ c.in_ok-sources.ensures) c.in_ok-manifest.ensures.channels c.args.count c.in_ok-items.items.items c.in_ok-items.ensures c.in_ok-ran.ran c.in_ok-ran.ensures in
    let outcome = c.plays_come_to.ensures.outcome is.spec is.swaps (map said c.in_ok-items.items.items) (runs_of c.in_ok-manifest.manifest (sources_of c.deref-2.result.now)) [] f c.in_ok-ran.ran.host is.played is.found in
    let flag : found_refused f ≡ false = sym c.some_refused.ensures ∙ c.if-some_refused.false in
    (map end_of is.played.fed, accepted c.in_ok-manifest.manifest c.deref-2.result.now (c.in_ok-manifest.ensures.parts ∙ units_named) (ap sources_of c.deref-2.ensures.value ∙ c.in_ok-sources.ensures) c.in_ok-manifest.ensures.channels c.args.count c.in_ok-items.items.items c.in_ok-items.ensures c.in_ok-ran.ran c.in_ok-ran.ensures (found_refused f) _ outcome flag c.deref-3.result.now named)

pub returns-clause-answer : goal.returns-clause-answer
returns-clause-answer c =
    let is = c.in_ok-ran.ensures in
    let f = c.in_ok-ran.ran.findings in
    let named : c.deref-3.result.now ≡ demo_names = c.deref-3.ensures.value ∙ found_named c.in_ok-manifest.manifest c.deref-2.result.now (c.in_ok-manifest.ensures.parts ∙ units_named) (ap sources_of c.deref-2.ensures.value ∙ c.in_ok-sources.ensures) c.in_ok-manifest.ensures.channels c.args.count c.in_ok-items.items.items c.in_ok-items.ensures c.in_ok-ran.ran c.in_ok-ran.ensures in
    let outcome = c.plays_come_to.ensures.outcome is.spec is.swaps (map said c.in_ok-items.items.items) (runs_of c.in_ok-manifest.manifest (sources_of c.deref-2.result.now)) [] f c.in_ok-ran.ran.host is.played is.found in
    let flag : found_refused f ≡ false = sym c.some_refused.ensures ∙ c.if-some_refused.false in
    demo_answered c.in_ok-manifest.manifest c.deref-2.result.now (c.in_ok-manifest.ensures.parts ∙ units_named) (ap sources_of c.deref-2.ensures.value ∙ c.in_ok-sources.ensures) c.in_ok-manifest.ensures.channels c.args.count c.in_ok-items.items.items c.in_ok-items.ensures c.in_ok-ran.ran c.in_ok-ran.ensures (found_refused f) _ outcome flag c.deref-3.result.now named c.new-bytes.result.items c.push_short_lines.new.out.items c.new-bytes.ensures.items c.in_ok-push_short_lines.ensures

pub returns-clause-stage : goal.returns-clause-stage
returns-clause-stage c = demo_staged c.in_ok-manifest.manifest c.deref-2.result.now (c.in_ok-manifest.ensures.parts ∙ units_named) (ap sources_of c.deref-2.ensures.value ∙ c.in_ok-sources.ensures) c.in_ok-manifest.ensures.channels c.args.count c.in_ok-items.items.items c.in_ok-items.ensures c.in_ok-ran.ran c.in_ok-ran.ensures
