use Rattle.std.proofs.Common.{◌≡◌, ◌<◌, ◌∙◌, List, length, take, drop, map, All, refl, sym, ap, subst, arith}
use Rattle.std.specs.List.{zip}
use Rattle.std.proofs.lemmas.List.{length-map}
use Rattle.trace_reader.specs.Said.{said}
use Rattle.trace_reader.specs.declared.item.TraceItem.{TraceItem}
use Rattle.slot_check.specs.Verdicts.{sources_of}
use Rattle.page_plan.specs.Loadable.{AreLoadableSwaps, names_of}
use Rattle.page_play.specs.declared.findings.Findings.{Findings}
use Rattle.page_play.specs.Swaps.{swap_slots, swap_positions}
use Rattle.adhost_run.proofs.Paged.{names_within, as_many_named, few_fit}
use Rattle.adhost_run.proofs.Plays.{spec_many, all_for_play, swaps_even, swaps_there, loadable_many, ran_of}
use Rattle.adhost_run.proofs.playing.play_page.Goals as goal

pub split_at-requires : goal.split_at-requires
split_at-requires c =
    let within = names_within c.args.manifest c.args.names.items (length c.args.sources.now) c.requires.named c.requires.many in
    omega (arith, within, c.len.ensures, c.args.names.ok.0)

pub find_swaps-requires : goal.find_swaps-requires
find_swaps-requires c = omega (arith, c.requires.items.few, ap length c.deref.ensures.value, length-map c.args.items.items said)

pub judge_page-requires-clause-paired : goal.judge_page-requires-clause-paired
judge_page-requires-clause-paired c =
    let within = names_within c.args.manifest c.args.names.items (length c.args.sources.now) c.requires.named c.requires.many in
    omega (arith, as_many_named c.args.manifest.entries.items, ap length c.requires.named, c.split_at.ensures.front_len, c.len.ensures, c.args.names.ok.0, within)

pub judge_page-requires-clause-swaps : goal.judge_page-requires-clause-swaps
judge_page-requires-clause-swaps c =
    omega (arith, ap length c.deref-2.ensures.value, ap length c.in_ok-at.ensures.slots, ap (λ (xs : List TraceItem). length (swap_slots (map said xs))) c.deref.ensures.value, swaps_even (map said c.args.items.items), c.requires.swapped)

pub judge_page-requires-clause-there : goal.judge_page-requires-clause-there
judge_page-requires-clause-there c =
    let items = map said c.args.items.items in
    let are : c.deref-2.result.now ≡ swap_slots items = c.deref-2.ensures.value ∙ c.in_ok-at.ensures.slots ∙ ap (λ (xs : List TraceItem). swap_slots (map said xs)) c.deref.ensures.value in
    let even : length c.args.names.items ≡ length c.split_at.result.0.now = omega (arith, c.split_at.ensures.front_len, c.len.ensures, c.args.names.ok.0) in
    subst (All (λ to. to < length c.split_at.result.0.now)) (sym are) (subst (λ n. All (λ to. to < n) (swap_slots items)) even (swaps_there (length c.args.names.items) items c.requires.items.each))

pub play-requires-clause-few : goal.play-requires-clause-few
play-requires-clause-few c = omega (arith, c.requires.items.few, length-map c.args.items.items said)

pub play-requires-clause-each : goal.play-requires-clause-each
play-requires-clause-each c =
    let even : length c.args.names.items ≡ length c.split_at.result.0.now = omega (arith, c.split_at.ensures.front_len, c.len.ensures, c.args.names.ok.0) in
    all_for_play (length c.args.names.items) (length c.in_ok-page.page.spec.slots.items) (map said c.args.items.items)
    (sym (spec_many c.args.manifest c.args.sources.now c.split_at.result.0.now c.split_at.result.1.now c.args.names.items c.requires.named even (zip c.deref-2.result.now (sources_of c.args.swaps.now)) c.in_ok-page.page c.in_ok-page.ensures.page)) c.requires.items.each

pub play-requires-clause-swaps : goal.play-requires-clause-swaps
play-requires-clause-swaps c =
    let items = map said c.args.items.items in
    let spec = c.in_ok-page.page.spec in
    let are : c.deref-2.result.now ≡ swap_slots items = c.deref-2.ensures.value ∙ c.in_ok-at.ensures.slots ∙ ap (λ (xs : List TraceItem). swap_slots (map said xs)) c.deref.ensures.value in
    subst (λ ts. AreLoadableSwaps (length spec.libs.items) (names_of spec) ts c.in_ok-page.page.swaps.contents.items) are c.in_ok-page.ensures.swaps

pub play-requires-clause-few_swaps : goal.play-requires-clause-few_swaps
play-requires-clause-few_swaps c =
    let items = map said c.args.items.items in
    let spec = c.in_ok-page.page.spec in
    let are : c.deref-2.result.now ≡ swap_slots items = c.deref-2.ensures.value ∙ c.in_ok-at.ensures.slots ∙ ap (λ (xs : List TraceItem). swap_slots (map said xs)) c.deref.ensures.value in
    let many = loadable_many (length spec.libs.items) (names_of spec) c.deref-2.result.now c.in_ok-page.page.swaps.contents.items c.in_ok-page.ensures.swaps in
    omega (arith, many, ap length are, swaps_even items, c.requires.items.swaps)

pub returns : goal.returns
returns c =
    let items = map said c.args.items.items in
    let page = c.in_ok-page.page in
    let are : c.deref-2.result.now ≡ swap_slots items = c.deref-2.ensures.value ∙ c.in_ok-at.ensures.slots ∙ ap (λ (xs : List TraceItem). swap_slots (map said xs)) c.deref.ensures.value in
    let even : length c.args.names.items ≡ length c.split_at.result.0.now = omega (arith, c.split_at.ensures.front_len, c.len.ensures, c.args.names.ok.0) in
    let many : c.len.result ≡ length c.args.names.items = omega (arith, c.len.ensures, c.args.names.ok.0) in
    let front : c.split_at.result.0.now ≡ take (length c.args.names.items) c.args.sources.now = subst (λ n. c.split_at.result.0.now ≡ take n c.args.sources.now) many c.split_at.ensures.front in
    let back : c.split_at.result.1.now ≡ drop (length c.args.names.items) c.args.sources.now = subst (λ n. c.split_at.result.1.now ≡ drop n c.args.sources.now) many c.split_at.ensures.back in
    let f : Findings = record { names = c.args.names; refusals = page.refusals; swaps = c.in_ok-at.at; brought = page.swaps.refusals } in
    ran_of c.args.manifest c.args.sources.now c.split_at.result.0.now c.split_at.result.1.now c.args.names.items c.requires.named even front back c.args.items.items c.deref-2.result.now are c.args.swaps.now
    (swaps_even items ∙ sym c.requires.swapped) (omega (arith, ap length c.requires.named, few_fit c.args.manifest c.requires.fit)) (omega (arith, swaps_even items, c.requires.items.swaps)) (swaps_there (length c.args.names.items) items c.requires.items.each) page c.in_ok-page.ensures.page f refl refl
    (sym c.deref-2.ensures.value ∙ are) (c.in_ok-at.ensures.positions ∙ ap (λ (xs : List TraceItem). swap_positions 0 (map said xs)) c.deref.ensures.value) refl c.args.slice c.in_ok-host.host c.in_ok-host.ensures.played c.in_ok-host.ensures.settled
    c.plays_come_to.ensures.outcome c.plays_come_to.ensures.begun
