-- A page that was judged and played: it is the stage of a run, and what is written of it is its answer.
use Rattle.std.proofs.Common.{◌≡◌, ℕ, zero, suc, ◌+◌, ◌<◌, ◌≤◌, ◌++◌, List, [], ◌∷◌, length, take, drop, map, get_or, All, Bool, Option, Some, None, refl, sym, ap, subst, ◌∙◌, arith, IfOk, IfErr, Result, Ok, Err, IsErrOf}
use Rattle.std.specs.Prelude.{slice_get}
use Rattle.std.specs.List.{zip}
use Rattle.std.proofs.lemmas.List.{length-map}
use Rattle.host_io.specs.Files.{FileMap}
use Rattle.manifest_reader.specs.declared.entry.Manifest.{Manifest}
use Rattle.manifest_reader.specs.Page.{Part}
use Rattle.trace_reader.specs.Said.{Said, an_event, an_advance, a_swap, said}
use Rattle.trace_reader.specs.declared.item.TraceItem.{TraceItem}
use Rattle.slot_check.specs.declared.fault.Refusal.{Refusal}
use Rattle.slot_check.specs.declared.sources.SourceFile.{SourceFile}
use Rattle.slot_check.specs.Sources.{Source}
use Rattle.slot_check.specs.Verdicts.{source_of, sources_of}
use Rattle.adsafe_rules.specs.declared.accepted.Accepted.{Accepted}
use Rattle.life_laws.specs.Fed.{Fed}
use Rattle.widget_meaning.specs.Alone.{Content}
use Rattle.page_plan.specs.declared.PageSpec.{PageSpec}
use Rattle.page_plan.specs.declared.SlotContent.{SlotContent}
use Rattle.page_plan.specs.declared.SlotSpec.{SlotSpec}
use Rattle.page_plan.specs.Loadable.{AreLoadableSwaps, none as none_load, more as more_load}
use Rattle.page_plan.specs.Pages.{piece_of}
use Rattle.page_check.specs.declared.page.JudgedPage.{JudgedPage}
use Rattle.page_check.specs.Runs.{SlotRun, slots_named, runs_over, swap_runs, pieces}
use Rattle.page_check.specs.Judged.{IsJudgedPage, AreJudgedSlots, none, more, AreJudgedSwaps, runs_in}
use Rattle.page_check.specs.Widgets.{HasWidget}
use Rattle.page_check.proofs.OneWidget.{widget_once, never_refused}
use Rattle.slot_lives.specs.Lives.{Life}
use Rattle.slot_lives.specs.Ends.{run_name, Begins, accepted, broken, AllBegin, no_life, one_life, end_of}
use Rattle.slot_lives.specs.Outcome.{Outcome, ComeTo, IsReport, last_lives}
use Rattle.page_play.specs.Host.{Host}
use Rattle.page_play.specs.Housed.{IsLaid, chains, scripts, singles}
use Rattle.page_play.specs.declared.findings.Findings.{Findings}
use Rattle.page_play.specs.Findings.{AreFindings, found_refused, lines_of, lasts_told, ended_told}
use Rattle.page_play.specs.Swaps.{swap_slots, swap_positions}
use Rattle.page_play.specs.Played as play
use Rattle.page_play.specs.Played.{IsPlayed, AreScriptsOf, HasScriptsOf, begun_in, ended_in, name_of}
use Rattle.page_play.specs.Settled.{IsSettled}
use Rattle.page_play.specs.Told.{AreBegun, IsAudit, IsFound}
use Rattle.life_laws.specs.Chains.{last_at}
use Rattle.run_steps.specs.declared.ending.Status.TheVariants as status
use Rattle.run_steps.specs.declared.reading.NoReport.{NoReport}
use Rattle.run_steps.specs.declared.reading.NoReport.TheVariants as stop
use Rattle.run_steps.specs.Ends.{IsAnswerStop}
use Rattle.run_steps.specs.Items as steps
use Rattle.run_steps.specs.Page.{cert_limit, files_swapped, slot_names, parts}
use Rattle.adhost_run.specs.declared.playing.Ran.{Ran}
use Rattle.adhost_run.specs.declared.playing.Writes.{Writes}
use Rattle.adhost_run.specs.declared.playing.Writes.TheVariants as writes
use Rattle.adhost_run.specs.declared.reports.Report.{Report}
use Rattle.adhost_run.specs.Page.{runs_of}
use Rattle.adhost_run.specs.Answer.{ending, PlayAnswer, RunAnswer, page_report, AuditAnswer, certificate, long_certificate}
use Rattle.adhost_run.specs.Ends.{Answered}
use Rattle.adhost_run.specs.Stage.{IsStage, IsStageOf, IsLeft}
use Rattle.adhost_run.specs.Ran.{IsRan, IsLateStop}
use Rattle.adhost_run.proofs.Paged.{first_names, as_many_named}
use Rattle.adhost_run.proofs.Staging.{left_here}
use Rattle.adhost_run.proofs.Stepping.{reported, stopped_here}

-- ## Slots

sources_take : (n : ℕ) (xs : List SourceFile) → sources_of (take n xs) ≡ take n (sources_of xs)
sources_take zero xs = refl
sources_take (suc n) [] = refl
sources_take (suc n) (x ∷ xs) = ap (λ ss. source_of x ∷ ss) (sources_take n xs)

sources_drop : (n : ℕ) (xs : List SourceFile) → sources_of (drop n xs) ≡ drop n (sources_of xs)
sources_drop zero xs = refl
sources_drop (suc n) [] = refl
sources_drop (suc n) (x ∷ xs) = sources_drop n xs

-- the slots that are named, with their files
run_names : (libs : List Source) (ns : List (List ℕ × ℕ)) (files : List Source) → length ns ≡ length files → map run_name (runs_over libs ns files) ≡ map (λ (n : List ℕ × ℕ). n.0) ns
run_names libs [] files same = refl
run_names libs (n ∷ ns) [] same = absurd (omega (arith, same))
run_names libs (n ∷ ns) (f ∷ fs) same = ap (λ rs. n.0 ∷ rs) (run_names libs ns fs (omega (arith, same)))

-- slots that were judged
judged_names : (libs : List Accepted) (runs : List SlotRun) (slots : List SlotSpec) (refusals : List (Option Refusal)) → AreJudgedSlots libs runs slots refusals → map name_of slots ≡ map run_name runs
judged_names libs runs slots refusals none = refl
judged_names libs runs slots refusals (more {run = r} {slot = s} {refusal = f} {runs = rs} {slots = ss} {refusals = fs} is rest) = ap (λ n. n ∷ map name_of ss) is.name ∙ ap (λ ns. run_name r ∷ ns) (judged_names libs rs ss fs rest)

judged_many : (libs : List Accepted) (runs : List SlotRun) (slots : List SlotSpec) (refusals : List (Option Refusal)) → AreJudgedSlots libs runs slots refusals → length slots ≡ length runs
judged_many libs runs slots refusals none = refl
judged_many libs runs slots refusals (more {runs = rs} {slots = ss} {refusals = fs} is rest) = ap suc (judged_many libs rs ss fs rest)

-- ## Scripts

no_life_there : (life : Life SlotRun) → None ≡ Some life → ⊥
no_life_there life e = cc

same_life : (a b : Life SlotRun) → Some a ≡ Some b → a ≡ b
same_life a b e = cc

-- a life with a widget begins with it
begins_as : (h : Host) (v : ℕ) (life : Life SlotRun) (f : Option Fed) (content : Content) → Begins life f → HasWidget life.runs.slot content → HasScriptsOf h v f → AreScriptsOf content (scripts h v)
begins_as h v life f content (accepted {content = c} has) is are = subst (λ x. AreScriptsOf x (scripts h v)) (widget_once life.runs.slot c content has is) are
begins_as h v life f content (broken {rule = r} {file = s} {at = a} first) is are = absurd (never_refused life.runs.slot content r s a is first)

begun_scripts : (h : Host) (place : ℕ → ℕ) (lives : List (Life SlotRun)) (feds : List (Option Fed)) → AllBegin lives feds → ((w : ℕ) (f : Option Fed) → slice_get feds w ≡ Some f → HasScriptsOf h (place w) f)
    → (w : ℕ) (life : Life SlotRun) (content : Content) → slice_get lives w ≡ Some life → HasWidget life.runs.slot content → AreScriptsOf content (scripts h (place w))
begun_scripts h place lives feds no_life are w life content there has = absurd (no_life_there life there)
begun_scripts h place lives feds (one_life {life = l} {fed = f} begins rest) are zero life content there has =
    begins_as h (place 0) l f content begins (subst (λ x. HasWidget x.runs.slot content) (sym (same_life l life there)) has) (are 0 f refl)
begun_scripts h place lives feds (one_life {lives = ls} {feds = fs} begins rest) are (suc w) life content there has =
    begun_scripts h (λ i. place (suc i)) ls fs rest (λ i g at. are (suc i) g at) w life content there has

-- ## Items

-- an item for slots of a page is one for the host
pub for_play : (n : ℕ) (i : Said) → steps.IsFor n i → play.IsFor n i
for_play n (an_event to kind path value) is = is
for_play n (an_advance ms) is = is
for_play n (a_swap to file) is = is

pub all_for_play : (n m : ℕ) (items : List Said) → n ≡ m → All (steps.IsFor n) items → All (play.IsFor m) items
all_for_play n m items same all k d within = subst (λ x. play.IsFor x (get_or items k d)) same (for_play n (get_or items k d) (all k d within))

-- there is a slot for each file of a swap
pub swaps_even : (items : List Said) → length (swap_slots items) ≡ length (files_swapped items)
swaps_even [] = refl
swaps_even (an_event to kind path value ∷ items) = swaps_even items
swaps_even (an_advance ms ∷ items) = swaps_even items
swaps_even (a_swap to file ∷ items) = ap suc (swaps_even items)

-- which is one of the page
pub swaps_there : (n : ℕ) (items : List Said) → All (steps.IsFor n) items → All (λ to. to < n) (swap_slots items)
swaps_there n items all = by items (λ k d within. all k d within) where
  behind : (i : Said) (is : List Said) → All (steps.IsFor n) (i ∷ is) → All (steps.IsFor n) is
  behind i is each k d within = each (suc k) d (omega (arith, within))

  first : (to : ℕ) (tos : List ℕ) → to < n → All (λ x. x < n) tos → All (λ x. x < n) (to ∷ tos)
  first to tos here others zero d within = here
  first to tos here others (suc k) d within = others k d (omega (arith, within))

  by : (is : List Said) → All (steps.IsFor n) is → All (λ to. to < n) (swap_slots is)
  by [] each = λ k d within. absurd (omega (arith, within))
  by (an_event to kind path value ∷ is) each = by is (behind (an_event to kind path value) is each)
  by (an_advance ms ∷ is) each = by is (behind (an_advance ms) is each)
  by (a_swap to file ∷ is) each = first to (swap_slots is) (each 0 (a_swap to file) (omega arith)) (by is (behind (a_swap to file) is each))

-- ## The page

module _ (manifest : Manifest) (sources files libs : List SourceFile) (names : List (List ℕ)) (named : names ≡ slot_names manifest.entries.items) (front : files ≡ take (length names) sources) (back : libs ≡ drop (length names) sources) where
  count : length names ≡ length (slots_named (parts manifest))
  count = ap length named ∙ sym (as_many_named manifest.entries.items)

  -- the slots of the judge are those of the answer
  pub runs_are : runs_in manifest (sources_of files) (sources_of libs) ≡ runs_of manifest (sources_of sources)
  runs_are =
      let fs : sources_of files ≡ take (length (slots_named (parts manifest))) (sources_of sources) = ap sources_of front ∙ sources_take (length names) sources ∙ ap (λ n. take n (sources_of sources)) count in
      let ls : sources_of libs ≡ drop (length (slots_named (parts manifest))) (sources_of sources) = ap sources_of back ∙ sources_drop (length names) sources ∙ ap (λ n. drop n (sources_of sources)) count in
      ap (λ l. runs_over l (slots_named (parts manifest)) (sources_of files)) ls ∙ ap (runs_over (drop (length (slots_named (parts manifest))) (sources_of sources)) (slots_named (parts manifest))) fs

  pub paired : length names ≡ length files → length (slots_named (parts manifest)) ≡ length files
  paired even = sym count ∙ even

  -- and have its names
  pub names_are : length names ≡ length files → map run_name (runs_of manifest (sources_of sources)) ≡ names
  names_are even =
      ap (map run_name) (sym runs_are)
      ∙ run_names (sources_of libs) (slots_named (parts manifest)) (sources_of files) (paired even ∙ sym (length-map files source_of))
      ∙ first_names manifest.entries.items ∙ sym named

-- the host of a page that was judged and played is the stage of a run
pub staged : (page_parts : List Part) (pairs : List (ℕ × ℕ)) (spec : PageSpec) (swaps : List SlotContent) (items : List Said) (runs : List SlotRun) (files : List Source) (slice : ℕ) (f : Findings) (h : Host) (refused : Bool) (lines : List ℕ)
    → (p : IsPlayed spec swaps items h) → AreFindings spec swaps items runs files f → IsSettled spec swaps items slice h → map piece_of spec.pieces.items ≡ pieces page_parts → spec.channels.items ≡ pairs
    → Outcome spec.channels.items runs files items refused (map end_of p.fed) lines → AreBegun spec swaps items runs files
    → IsStage page_parts pairs runs files items slice h
staged page_parts pairs spec swaps items runs files slice f h refused lines p found settled pieces_are channels_are outcome begun =
    let many : length spec.slots.items ≡ length runs = judged_many spec.libs.items runs spec.slots.items f.refusals.items found.slots in
    let named : map name_of spec.slots.items ≡ map run_name runs = judged_names spec.libs.items runs spec.slots.items f.refusals.items found.slots in
    record {
      spec = spec;
      swaps = swaps;
      page = record { refusals = f.refusals.items; slots = found.slots; brought = f.brought.items; brings = found.brought; laid = pieces_are; channels = channels_are };
      settled = settled;
      slots = p.slots ∙ many;
      laid = subst (IsLaid h (map run_name runs)) pieces_are (subst (λ ns. IsLaid h ns (map piece_of spec.pieces.items)) named p.laid);
      channels = p.channels ∙ channels_are;
      owns = map end_of p.fed;
      come = subst (λ cs. ComeTo cs (last_lives files items 0 runs) (map end_of p.fed)) channels_are outcome.lasts;
      shown = p.shown;
      scripts = begun_scripts h (λ w. last_at w (chains h)) (last_lives files items 0 runs) (begun_in spec swaps items) begun.lasts p.scripts;
      none_else = p.none_else;
      firsts = λ none_swapped. p.firsts none_swapped ∙ ap (singles 0) many;
    }

-- what swaps bring is as much as the swaps
pub loadable_many : (many : ℕ) (names : List (List ℕ)) (tos : List ℕ) (contents : List SlotContent) → AreLoadableSwaps many names tos contents → length contents ≡ length tos
loadable_many many names tos contents none_load = refl
loadable_many many names tos contents (more_load {tos = ts} {contents = cs} there is rest) = ap suc (loadable_many many names ts cs rest)

module _ (manifest : Manifest) (sources files libs : List SourceFile) (names : List (List ℕ)) (named : names ≡ slot_names manifest.entries.items) (even : length names ≡ length files) where
  in_even : length (slots_named (parts manifest)) ≡ length (sources_of files)
  in_even = as_many_named manifest.entries.items ∙ sym (ap length named) ∙ even ∙ sym (length-map files source_of)

  runs_many : (ns : List (List ℕ × ℕ)) (fs : List Source) → length ns ≡ length fs → length (runs_over (sources_of libs) ns fs) ≡ length ns
  runs_many [] fs same = refl
  runs_many (n ∷ ns) [] same = absurd (omega (arith, same))
  runs_many (n ∷ ns) (f ∷ fs) same = ap suc (runs_many ns fs (omega (arith, same)))

  -- the slots of the page that was judged
  pub spec_many : (swaps : List (ℕ × Source)) (page : JudgedPage) → IsJudgedPage manifest (sources_of files) (sources_of libs) swaps page → length page.spec.slots.items ≡ length names
  spec_many swaps page judged =
      judged_many page.spec.libs.items (runs_in manifest (sources_of files) (sources_of libs)) page.spec.slots.items page.refusals.items judged.slots
      ∙ runs_many (slots_named (parts manifest)) (sources_of files) in_even ∙ as_many_named manifest.entries.items ∙ sym (ap length named)

-- a page that was judged and played is one that ran
pub ran_of : (manifest : Manifest) (sources files libs : List SourceFile) (names : List (List ℕ)) (named : names ≡ slot_names manifest.entries.items) (even : length names ≡ length files) (front : files ≡ take (length names) sources) (back : libs ≡ drop (length names) sources)
    (items : List TraceItem) (tos : List ℕ) (are : tos ≡ swap_slots (map said items)) (swaps : List SourceFile) (swaps_many : length (swap_slots (map said items)) ≡ length swaps)
    (few : length names ≤ 16) (few_swaps : length (swap_slots (map said items)) ≤ 4) (there : All (λ to. to < length names) (swap_slots (map said items)))
    (page : JudgedPage) (judged : IsJudgedPage manifest (sources_of files) (sources_of libs) (zip tos (sources_of swaps)) page)
    (f : Findings) → f.names.items ≡ names → f.refusals.items ≡ page.refusals.items → f.swaps.slots.items ≡ swap_slots (map said items) → f.swaps.positions.items ≡ swap_positions 0 (map said items) → f.brought.items ≡ page.swaps.refusals.items
    → (slice : ℕ) (h : Host) (played : IsPlayed page.spec page.swaps.contents.items (map said items) h) (settled : IsSettled page.spec page.swaps.contents.items (map said items) slice h)
    → ((spec : PageSpec) (contents : List SlotContent) (is : List Said) (runs : List SlotRun) (fs : List Source) (g : Findings) (k : Host) (p : IsPlayed spec contents is k) → AreFindings spec contents is runs fs g
    → Outcome spec.channels.items runs fs is (found_refused g) (map end_of p.fed) (lines_of (lasts_told g) (map end_of p.fed) ++ lines_of (ended_told g) (map end_of (ended_in spec contents is))))
    → ((spec : PageSpec) (contents : List SlotContent) (is : List Said) (runs : List SlotRun) (fs : List Source) (g : Findings) → AreFindings spec contents is runs fs g → AreBegun spec contents is runs fs)
    → IsRan manifest (sources_of sources) items (sources_of swaps) slice (record { host = h; findings = f })
ran_of manifest sources files libs names named even front back items tos are swaps swaps_many few few_swaps there page judged f names_same refusals_same slots_same positions_same brought_same slice h played settled outcome begun =
    let runs = runs_of manifest (sources_of sources) in
    let runs_eq : runs_in manifest (sources_of files) (sources_of libs) ≡ runs = runs_are manifest sources files libs names named front back in
    let contents = page.swaps.contents.items in
    let said_items = map said items in
    let at = zip (swap_slots said_items) (sources_of swaps) in
    let as_many : length runs ≡ length names = sym (length-map runs run_name) ∙ ap length (names_are manifest sources files libs names named front back even) in
    let found : AreFindings page.spec contents said_items runs (sources_of swaps) f = record {
      names = names_same ∙ sym (names_are manifest sources files libs names named front back even);
      slots = subst (λ rs. AreJudgedSlots page.spec.libs.items rs page.spec.slots.items f.refusals.items) runs_eq
          (subst (AreJudgedSlots page.spec.libs.items (runs_in manifest (sources_of files) (sources_of libs)) page.spec.slots.items) (sym refusals_same) judged.slots);
      swapped = slots_same;
      positions = positions_same;
      many = length-map swaps source_of ∙ sym swaps_many;
      few = omega (arith, few, as_many);
      few_swaps = few_swaps;
      there = subst (λ n. All (λ to. to < n) (swap_slots said_items)) (sym as_many) there;
      brought = subst (λ rs. AreJudgedSwaps page.spec.libs.items (swap_runs rs at) contents f.brought.items) runs_eq
          (subst (λ ts. AreJudgedSwaps page.spec.libs.items (swap_runs (runs_in manifest (sources_of files) (sources_of libs)) (zip ts (sources_of swaps))) contents f.brought.items) are
          (subst (AreJudgedSwaps page.spec.libs.items (swap_runs (runs_in manifest (sources_of files) (sources_of libs)) (zip tos (sources_of swaps))) contents) (sym brought_same) judged.swaps));
    } in
    record {
      spec = page.spec;
      swaps = contents;
      laid = judged.pieces;
      channels = judged.channels;
      found = found;
      played = played;
      stage = staged (parts manifest) manifest.channels.items page.spec contents said_items runs (sources_of swaps) slice f h (found_refused f)
          (lines_of (lasts_told f) (map end_of played.fed) ++ lines_of (ended_told f) (map end_of (ended_in page.spec contents said_items)))
          played found settled judged.pieces judged.channels (outcome page.spec contents said_items runs (sources_of swaps) f h played found) (begun page.spec contents said_items runs (sources_of swaps) f found);
    }

-- ## The answer

module _ (manifest : Manifest) (sources : List Source) (items : List TraceItem) (files : List Source) (slice : ℕ) (ran : Ran) (is : IsRan manifest sources items files slice ran) where
  -- its report
  pub reported_ran : (refused : Bool) (bytes : List ℕ) → IsReport (parts manifest) is.spec.channels.items (runs_of manifest sources) files (map said items) refused bytes → RunAnswer manifest sources items files (ending refused) bytes
  reported_ran refused bytes report = page_report refused (subst (λ cs. IsReport (parts manifest) cs (runs_of manifest sources) files (map said items) refused bytes) is.channels report)

  -- its certificate
  pub certified_ran : (refused : Bool) (bytes : List ℕ) → IsAudit is.spec.channels.items (runs_of manifest sources) files (map said items) refused bytes → length bytes ≤ cert_limit → AuditAnswer manifest sources items files (ending refused) bytes
  certified_ran refused bytes audit within = certificate refused (subst (λ cs. IsAudit cs (runs_of manifest sources) files (map said items) refused bytes) is.channels audit) within

  pub long_ran : (refused : Bool) (bytes : List ℕ) → IsAudit is.spec.channels.items (runs_of manifest sources) files (map said items) refused bytes → cert_limit < length bytes → AuditAnswer manifest sources items files status.CertTooLarge []
  long_ran refused bytes audit above = long_certificate refused (subst (λ cs. IsAudit cs (runs_of manifest sources) files (map said items) refused bytes) is.channels audit) above

  -- what was found of it
  pub found_ran : IsFound ran.findings ran.host
  found_ran = record { spec = is.spec; swaps = is.swaps; items = map said items; runs = runs_of manifest sources; files = files; played = is.played; findings = is.found }

  -- where nothing is written of it
  pub late_answer : (what : Writes) (e : NoReport) → IsLateStop ran what e → IsAnswerStop (PlayAnswer what manifest sources items files) e
  late_answer what stop.BadManifest late = absurd late
  late_answer what stop.BadTrace late = absurd late
  late_answer what stop.TooLarge late = absurd late
  late_answer what stop.ReadFault late = absurd late
  late_answer what stop.Memory late = tt
  late_answer what stop.CertTooLarge late = late manifest sources items files slice is
  late_answer what stop.BadCert late = absurd late

pub late_read : {T : Type 0} (ran : Ran) (what : Writes) (e : NoReport) → IsLateStop ran what e → IsErrOf {T = T} (Err e) stop.ReadFault → ⊥
late_read ran what stop.BadManifest late failed = absurd late
late_read ran what stop.BadTrace late failed = absurd late
late_read ran what stop.TooLarge late failed = absurd late
late_read ran what stop.ReadFault late failed = absurd late
late_read ran what stop.Memory late failed = let e = failed in cc
late_read ran what stop.CertTooLarge late failed = let e = failed in cc
late_read ran what stop.BadCert late failed = absurd late

-- what is said of a report on it
module _ {F : Type 0} (told : F → Option FileMap) (calm : F → Type 0) (faults : F → ℕ) (manifest : Manifest) (sources : List Source) (items : List TraceItem) (files : List Source) (slice : ℕ) (ran : Ran) (is : IsRan manifest sources items files slice ran) (what : Writes) where
  pub ran_answered : {a : F} (r : Result Report NoReport)
      → IfOk r (λ t. (m : Manifest) (ss : List Source) (xs : List TraceItem) (fs : List Source) (k : ℕ) → IsRan m ss xs fs k ran → PlayAnswer what m ss xs fs (ending t.refused) t.bytes.items)
      → IfErr r (IsLateStop ran what) → Answered told calm faults a a r (λ m. PlayAnswer what manifest sources items files) (λ m. Unit {0})
  ran_answered {a} (Ok t) answer late = reported told calm faults t (λ m. PlayAnswer what manifest sources items files) (λ m. Unit {0}) (λ m. answer manifest sources items files slice is)
  ran_answered {a} (Err e) answer late = stopped_here told calm faults e (λ m. PlayAnswer what manifest sources items files) (λ m. Unit {0}) (late_read ran what e late) (λ m. late_answer manifest sources items files slice ran is what e late)

-- and the host that is left with it
pub ran_left : (told : Option FileMap) (manifest : Manifest) (sources : List Source) (items : List TraceItem) (files : List Source) (slice : ℕ) (ran : Ran) → IsRan manifest sources items files slice ran → (r : Result Report NoReport) → IfOk r (λ t. t.host ≡ Some ran.host) → IsLeft told r (λ m. IsStageOf slice manifest sources items files)
ran_left told manifest sources items files slice ran is (Ok t) host = left_here told (λ m h. IsStageOf slice manifest sources items files h) t.host (λ m. subst (IsStageOf slice manifest sources items files) (sym host) is.stage)
ran_left told manifest sources items files slice ran is (Err e) host = tt
