-- A page that took an item more.
use Rattle.std.proofs.Common.{◌≡◌, ℕ, zero, suc, ◌+◌, ◌<◌, ◌≤◌, List, [], ◌∷◌, ◌++◌, map, length, drop, All, Option, Some, refl, sym, ap, subst, ◌∙◌, arith, append-nil}
use Rattle.std.specs.Prelude.{filter_map, option_map, slice_get}
use Rattle.std.specs.List.{zip}
use Rattle.std.specs.declared.alloc.Global.{Global}
use Rattle.std.specs.declared.vec.Vec.{Vec}
use Rattle.std.proofs.lemmas.List.{length-map, length_push}
use Rattle.std.proofs.lemmas.List.Elements.{filter_map-append}
use Rattle.adsafe_rules.specs.declared.accepted.Accepted.{Accepted}
use Rattle.trace_reader.specs.Said.{Said, a_swap}
use Rattle.manifest_reader.specs.Page.{Part}
use Rattle.slot_check.specs.declared.fault.Refusal.{Refusal}
use Rattle.slot_check.specs.declared.sources.SourceFile.{SourceFile}
use Rattle.slot_check.specs.Sources.{Source}
use Rattle.slot_check.specs.Verdicts.{sources_of}
use Rattle.page_plan.specs.declared.SlotContent.{SlotContent}
use Rattle.adsafe_rules.specs.Accepts.{tree_of}
use Rattle.page_plan.specs.Contents.{content_of}
use Rattle.page_plan.specs.Loadable.{IsSwapLoadable}
use Rattle.page_check.specs.declared.libraries.Later.{Later}
use Rattle.page_check.specs.Runs.{SlotRun, swap_run, swap_runs, with_file}
use Rattle.page_check.specs.Judged.{AreJudgedSwaps, IsJudged, JudgesOn, no_swap, one_swap}
use Rattle.slot_lives.specs.Ends.{run_name}
use Rattle.page_play.specs.Host.{Host}
use Rattle.page_play.specs.HostItem.{HostItem}
use Rattle.page_play.specs.HostItem.TheVariants as host
use Rattle.page_play.specs.Housed.{IsItem, chains, ends, libraries, names}
use Rattle.page_play.specs.Swaps.{swap_slots, swap_positions}
use Rattle.page_play.specs.Settled.{said_of}
use Rattle.page_play.proofs.Outcomes.{judged_even, judged_names}
use Rattle.page_play.proofs.Swapping.{slots_append, positions_append, slots_length}
use Rattle.page_live.specs.declared.page.LivePage.{LivePage}
use Rattle.page_live.specs.Living.{IsLive}
use Rattle.page_live.specs.Page.{Lives, libs_of}

-- ## Lists

zip_push : {A B : Type 0} (xs : List A) (ys : List B) (x : A) (y : B) → length xs ≡ length ys → zip (xs ++ x ∷ []) (ys ++ y ∷ []) ≡ zip xs ys ++ (x, y) ∷ []
zip_push [] [] x y same = refl
zip_push [] (b ∷ ys) x y same = absurd (omega (arith, same))
zip_push (a ∷ xs) [] x y same = absurd (omega (arith, same))
zip_push (a ∷ xs) (b ∷ ys) x y same = ap (λ zs. (a, b) ∷ zs) (zip_push xs ys x y (omega (arith, same)))

all_push : (P : ℕ → Type 0) (xs : List ℕ) (x : ℕ) → All P xs → P x → All P (xs ++ x ∷ [])
all_push P [] x all here zero d less = here
all_push P [] x all here (suc i) d less = absurd (omega (arith, less))
all_push P (y ∷ xs) x all here zero d less = all 0 d (omega arith)
all_push P (y ∷ xs) x all here (suc i) d less = all_push P xs x (λ j e within. all (suc j) e (omega (arith, within))) here i d (omega (arith, less))

some_is : {A : Type 0} (x y : A) → Some x ≡ Some y → x ≡ y
some_is x y e = cc

there_at : {A : Type 0} (xs : List A) (n : ℕ) → n < length xs → (x : A) × (slice_get xs n ≡ Some x)
there_at [] n less = absurd (omega (arith, less))
there_at (y ∷ xs) zero less = (y, refl)
there_at (y ∷ xs) (suc n) less = there_at xs n (omega (arith, less))

name_at : (runs : List SlotRun) (w : ℕ) (r : SlotRun) → slice_get runs w ≡ Some r → slice_get (map run_name runs) w ≡ Some r.slot.name
name_at [] w r at = absurd (let e = at in cc)
name_at (q ∷ runs) zero r at = ap (λ (x : SlotRun). Some x.slot.name) (some_is q r at)
name_at (q ∷ runs) (suc w) r at = name_at runs w r at

pub some_text : (x y : List ℕ) → Some x ≡ Some y → x ≡ y
some_text x y e = cc

-- the libraries that were split off
pub libs_are : (names : List (List ℕ)) (sources lent libs : List SourceFile) (many : ℕ) → many ≡ length names → lent ≡ sources → libs ≡ drop many lent → sources_of libs ≡ sources_of (drop (length names) sources)
libs_are names sources lent libs many count same back = ap sources_of (back ∙ ap (drop many) same ∙ ap (λ n. drop n sources) count)

-- ## Swaps that were judged

judged_push : (libs : List Accepted) (runs : List SlotRun) (contents : List SlotContent) (refusals : List (Option Refusal)) (run : SlotRun) (content : SlotContent) (refusal : Option Refusal)
    → AreJudgedSwaps libs runs contents refusals → IsJudged run.slot (content_of libs content) refusal → AreJudgedSwaps libs (runs ++ run ∷ []) (contents ++ content ∷ []) (refusals ++ refusal ∷ [])
judged_push libs runs contents refusals run content refusal no_swap is = one_swap is no_swap
judged_push libs runs contents refusals run content refusal (one_swap {runs = rs} {contents = cs} {refusals = xs} first rest) is = one_swap first (judged_push libs rs cs xs run content refusal rest is)

one_run : (runs : List SlotRun) (to : ℕ) (file : Source) (q : SlotRun) → slice_get runs to ≡ Some q → swap_runs runs ((to, file) ∷ []) ≡ with_file q file ∷ []
one_run runs to file q at = ap (λ (o : Option SlotRun). filter_map (λ (z : Option SlotRun). option_map (λ (run : SlotRun). with_file run file) z) (o ∷ [])) at

runs_push : (runs : List SlotRun) (tos : List ℕ) (files : List Source) (to : ℕ) (file : Source) (q : SlotRun) → length tos ≡ length files → slice_get runs to ≡ Some q
    → swap_runs runs (zip (tos ++ to ∷ []) (files ++ file ∷ [])) ≡ swap_runs runs (zip tos files) ++ with_file q file ∷ []
runs_push runs tos files to file q same at =
    ap (swap_runs runs) (zip_push tos files to file same) ∙ filter_map-append (swap_run runs) (zip tos files) ((to, file) ∷ []) ∙ ap (λ rs. swap_runs runs (zip tos files) ++ rs) (one_run runs to file q at)

-- ## An item

pub no_slot : (i : HostItem) → swap_slots (said_of i ∷ []) ≡ []
no_slot (host.Event to e) = refl
no_slot (host.Advance ms) = refl

no_position : (n : ℕ) (i : HostItem) → swap_positions n (said_of i ∷ []) ≡ []
no_position n (host.Event to e) = refl
no_position n (host.Advance ms) = refl

module _ (parts : List Part) (pairs : List (ℕ × ℕ)) (runs : List SlotRun) (files : List Source) (items : List Said) (p : LivePage) (l : Lives parts pairs runs files items p) where
  same_slots : (i : HostItem) → swap_slots (items ++ said_of i ∷ []) ≡ swap_slots items
  same_slots i = slots_append items (said_of i ∷ []) ∙ ap (λ xs. swap_slots items ++ xs) (no_slot i) ∙ append-nil (swap_slots items)

  same_positions : (i : HostItem) → swap_positions 0 (items ++ said_of i ∷ []) ≡ swap_positions 0 items
  same_positions i = positions_append 0 items (said_of i ∷ []) ∙ ap (λ xs. swap_positions 0 items ++ xs) (no_position (0 + length items) i) ∙ append-nil (swap_positions 0 items)

  chains_even : length (chains p.host) ≡ length p.findings.names.items
  chains_even = l.live.slots ∙ (judged_even l.spec.libs.items runs l.spec.slots.items p.findings.refusals.items l.found.slots).0 ∙ sym (ap length l.found.names ∙ length-map runs run_name)

  -- an item is for one of its slots
  pub many_chains : (i : HostItem) → IsItem i (length p.findings.names.items) → IsItem i (length (chains p.host))
  many_chains i is = subst (IsItem i) (sym chains_even) is

  pub chains_many : (to : ℕ) → to < length p.findings.names.items → to < length (chains p.host)
  chains_many to within = subst (λ (n : ℕ). to < n) (sym chains_even) within

  -- as many swaps were given as it took
  pub few_ends : length p.findings.swaps.slots.items < 4 → length (ends p.host) < 4
  few_ends few = omega (arith, few, l.live.swapped, slots_length items, ap length l.found.swapped)

  pub took_item : (i : HostItem) (h : Host) (n : ℕ) → IsLive l.spec l.swaps (items ++ said_of i ∷ []) h → n ≡ p.taken + 1 → Lives parts pairs runs files (items ++ said_of i ∷ []) (record p { host = h; taken = n })
  took_item i h n live more = record {
    spec = l.spec;
    swaps = l.swaps;
    laid = l.laid;
    channels = l.channels;
    live = live;
    found = record {
      names = l.found.names;
      slots = l.found.slots;
      swapped = l.found.swapped ∙ sym (same_slots i);
      positions = l.found.positions ∙ sym (same_positions i);
      many = l.found.many ∙ ap length (sym (same_slots i));
      few = l.found.few;
      few_swaps = subst (λ tos. length tos ≤ 4) (sym (same_slots i)) l.found.few_swaps;
      there = subst (All (λ to. to < length runs)) (sym (same_slots i)) l.found.there;
      brought = subst (λ tos. AreJudgedSwaps l.spec.libs.items (swap_runs runs (zip tos files)) l.swaps p.findings.brought.items) (sym (same_slots i)) l.found.brought;
    };
    taken = more ∙ ap (λ k. k + 1) l.taken ∙ sym (length_push items (said_of i));
    some = l.some;
    over = l.over;
    libs = l.libs;
    enough = l.enough;
    small = l.small;
  }

  -- ## A swap

  module _ (to : ℕ) (name : List ℕ) (source : Source) where
    more_slots : swap_slots (items ++ a_swap to name ∷ []) ≡ swap_slots items ++ to ∷ []
    more_slots = slots_append items (a_swap to name ∷ [])

    more_positions : swap_positions 0 (items ++ a_swap to name ∷ []) ≡ swap_positions 0 items ++ (length items + 1) ∷ []
    more_positions = positions_append 0 items (a_swap to name ∷ []) ∙ ap (λ n. swap_positions 0 items ++ (n + 1) ∷ []) (let e : 0 + length items ≡ length items = omega arith in e)

    -- the slot of a swap, with its file
    pub run_there : to < length p.findings.names.items → (q : SlotRun) × (slice_get runs to ≡ Some q)
    run_there within = there_at runs to (let e = ap length l.found.names ∙ length-map runs run_name in omega (arith, within, e))

    pub run_named : (q : SlotRun) → slice_get runs to ≡ Some q → slice_get p.findings.names.items to ≡ Some q.slot.name
    run_named q at = ap (λ ns. slice_get ns to) l.found.names ∙ name_at runs to q at

    -- what was judged of the file of a swap is what it brings to its slot
    pub swap_judged : (q : SlotRun) (key : List ℕ) (libs : List Source) (content : SlotContent) (refusal : Option Refusal) → slice_get runs to ≡ Some q → key ≡ q.slot.name → libs ≡ libs_of p
        → IsJudged (record { name = key; file = source; libs = libs }) (content_of l.spec.libs.items content) refusal → IsJudged (with_file q source).slot (content_of l.spec.libs.items content) refusal
    swap_judged q key libs content refusal at named libs_are judged =
        subst (λ ls. IsJudged (record { name = q.slot.name; file = source; libs = ls }) (content_of l.spec.libs.items content) refusal) (libs_are ∙ sym (l.libs to q at))
        (subst (λ k. IsJudged (record { name = k; file = source; libs = libs }) (content_of l.spec.libs.items content) refusal) named judged)

    -- and the host may be given it
    pub swap_fits : (key : List ℕ) (content : SlotContent) → slice_get p.findings.names.items to ≡ Some key → IsSwapLoadable (length l.spec.libs.items) key content
        → (x : List ℕ) → slice_get (names p.host) to ≡ Some x → IsSwapLoadable (length (libraries p.host)) x content
    swap_fits key content at fits x x_at =
        let same : names p.host ≡ p.findings.names.items = l.live.names ∙ judged_names l.spec.libs.items runs l.spec.slots.items p.findings.refusals.items l.found.slots ∙ sym l.found.names in
        let many : length (libraries p.host) ≡ length l.spec.libs.items = ap length l.live.libraries ∙ length-map l.spec.libs.items tree_of in
        subst (λ (n : ℕ). IsSwapLoadable n x content) (sym many) (subst (λ k. IsSwapLoadable (length l.spec.libs.items) k content) (some_is key x (sym at ∙ sym (ap (λ ns. slice_get ns to) same) ∙ x_at)) fits)

    pub took_swap : (content : SlotContent) (refusal : Option Refusal) (h : Host) (later : Later) (n : ℕ) (slots positions : Vec ℕ Global) (brought : Vec (Option Refusal) Global)
        → IsLive l.spec (l.swaps ++ content ∷ []) (items ++ a_swap to name ∷ []) h → JudgesOn (libs_of p) p.later later → n ≡ p.taken + 1
        → (q : SlotRun) → slice_get runs to ≡ Some q → IsJudged (with_file q source).slot (content_of l.spec.libs.items content) refusal
        → slots.items ≡ p.findings.swaps.slots.items ++ to ∷ [] → positions.items ≡ p.findings.swaps.positions.items ++ n ∷ [] → brought.items ≡ p.findings.brought.items ++ refusal ∷ []
        → to < length p.findings.names.items → length p.findings.swaps.slots.items < 4
        → Lives parts pairs runs (files ++ source ∷ []) (items ++ a_swap to name ∷ [])
        (record p { host = h; later = later; taken = n; findings = record p.findings { swaps = record { slots = slots; positions = positions }; brought = brought } })
    took_swap content refusal h later n slots positions brought live on more q at judged slots_are positions_are brought_are within few =
        let count : length (swap_slots (items ++ a_swap to name ∷ [])) ≡ length (swap_slots items) + 1 = ap length more_slots ∙ length_push (swap_slots items) to in
        let named = ap length l.found.names ∙ length-map runs run_name in
        let taken : n ≡ length items + 1 = more ∙ ap (λ k. k + 1) l.taken in
        record {
          spec = l.spec;
          swaps = l.swaps ++ content ∷ [];
          laid = l.laid;
          channels = l.channels;
          live = live;
          found = record {
            names = l.found.names;
            slots = l.found.slots;
            swapped = slots_are ∙ ap (λ xs. xs ++ to ∷ []) l.found.swapped ∙ sym more_slots;
            positions = positions_are ∙ ap (λ xs. xs ++ n ∷ []) l.found.positions ∙ ap (λ k. swap_positions 0 items ++ k ∷ []) taken ∙ sym more_positions;
            many = length_push files source ∙ ap (λ k. k + 1) l.found.many ∙ sym count;
            few = l.found.few;
            few_swaps = omega (arith, count, ap length l.found.swapped, few);
            there = subst (All (λ w. w < length runs)) (sym more_slots) (all_push (λ w. w < length runs) (swap_slots items) to l.found.there (omega (arith, within, named)));
            brought =
                subst (AreJudgedSwaps l.spec.libs.items (swap_runs runs (zip (swap_slots (items ++ a_swap to name ∷ [])) (files ++ source ∷ []))) (l.swaps ++ content ∷ [])) (sym brought_are)
                (subst (λ rs. AreJudgedSwaps l.spec.libs.items rs (l.swaps ++ content ∷ []) (p.findings.brought.items ++ refusal ∷ []))
                (sym (ap (λ tos. swap_runs runs (zip tos (files ++ source ∷ []))) more_slots ∙ runs_push runs (swap_slots items) files to source q (sym l.found.many) at))
                (judged_push l.spec.libs.items (swap_runs runs (zip (swap_slots items) files)) l.swaps p.findings.brought.items (with_file q source) content refusal l.found.brought judged));
          };
          taken = taken ∙ sym (length_push items (a_swap to name));
          some = l.some;
          over = on l.spec.libs.items l.over;
          libs = l.libs;
          enough = l.enough;
          small = l.small;
        }
