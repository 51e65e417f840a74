-- The page of `demo`: it is what its definitions say, and its slots are accepted or there is no report.
use Rattle.std.proofs.Common.{◌≡◌, ℕ, zero, suc, ◌+◌, ◌-◌, ◌<◌, ◌≤◌, List, [], ◌∷◌, ◌++◌, length, take, map, get_or, All, Bool, true, false, if◌then◌else◌, Option, Some, None, refl, sym, ap, subst, ◌∙◌, arith, append_assoc, append-nil, length-append}
use Rattle.std.specs.Prelude.{slice_get, nat_lt, nat_eq, sum_by, ◌&&◌, ◌%◌, ◌/◌, ◌^◌, codes}
use Rattle.std.specs.List.{AllByRecursion, IsDistinct, list_all, flat_map}
use Rattle.std.proofs.lemmas.List.{length-map, take_all}
use Rattle.std.proofs.lemmas.Str.Ascii.{IsAscii-nil, IsAscii-cons}
use Rattle.std.proofs.lemmas.Bool.Decides.{nat_tests}
use Rattle.code_units.specs.Utf8.{units_of}
use Rattle.code_units.proofs.Utf8Laws.{units_of-ascii}
use Rattle.plain_tree.specs.Trees.{height}
use Rattle.trace_reader.specs.declared.item.TraceItem.{TraceItem}
use Rattle.trace_reader.specs.Said.{Said, an_event, an_advance, said}
use Rattle.manifest_reader.specs.declared.entry.Manifest.{Manifest}
use Rattle.manifest_reader.specs.Page.{Widget, usual_fuel, nodes_of}
use Rattle.slot_check.specs.declared.sources.SourceFile.{SourceFile}
use Rattle.slot_check.specs.Sources.{Source}
use Rattle.slot_check.specs.Verdicts.{source_of, sources_of, IsSmall}
use Rattle.life_laws.specs.Life.{Seen, image}
use Rattle.widget_meaning.specs.OwnState.{OwnState}
use Rattle.page_plan.specs.Loadable.{most_high, most_fuel, same_channel}
use Rattle.page_check.specs.Fits.{AreFit, IsFit, markup_of}
use Rattle.page_check.specs.Runs.{slots_named}
use Rattle.slot_lives.specs.Lines.{short_line}
use Rattle.slot_lives.specs.Ends.{end_of, run_name, some_refused}
use Rattle.slot_lives.specs.Outcome.{ComeTo, Outcome, last_lives}
use Rattle.page_play.specs.Host.{Host}
use Rattle.page_play.specs.RunLine.{RunLine}
use Rattle.page_play.specs.Housed.{IsLineOf, IsShown, AreShown, seens, chains, accepts, present}
use Rattle.run_steps.specs.declared.ending.Status.TheVariants as status
use Rattle.run_steps.specs.Items.{IsFor, AreItems}
use Rattle.run_steps.specs.Page.{parts, slot_names, slot_files, files_named, files_swapped, swap_file, texts}
use Rattle.adhost_run.specs.declared.playing.Ran.{Ran}
use Rattle.adhost_run.specs.Page.{runs_with, runs_of}
use Rattle.adhost_run.specs.Demo.{demo_names, counter_of, demo_runs, demo_part, demo_parts, next_number, demo_item, demo_from, demo_items, short_lines, AreAccepted, DemoAnswer, short_report}
use Rattle.adhost_run.specs.Ran.{IsRan}
use Rattle.adhost_run.specs.Stage.{IsStage, IsDemoStage, demo_slice}
use Rattle.run_steps.proofs.Manifests.{part_name, names_by_parts}
use Rattle.adhost_run.proofs.Paged.{slots_even}

-- ## Items

pub from_step : (x i n : ℕ) → i < n → demo_from x (i + 1) (n - i) ≡ demo_item (next_number x) (i + 1) ∷ demo_from (next_number x) ((i + 1) + 1) (n - (i + 1))
from_step x i n within = by (n - i) (n - (i + 1)) (omega (arith, within)) where
  by : (a b : ℕ) → a ≡ b + 1 → demo_from x (i + 1) a ≡ demo_item (next_number x) (i + 1) ∷ demo_from (next_number x) ((i + 1) + 1) b
  by zero b is = absurd (omega (arith, is))
  by (suc a) b is = let e : a ≡ b = omega (arith, is) in ap (λ k. demo_item (next_number x) (i + 1) ∷ demo_from (next_number x) ((i + 1) + 1) k) e

pub items_more : (all : List Said) (old new : List TraceItem) (item : TraceItem) (x y i n : ℕ) → i < n → y ≡ next_number x → map said old ++ demo_from x (i + 1) (n - i) ≡ all → map said new ≡ map said old ++ said item ∷ [] → said item ≡ demo_item y (i + 1) → map said new ++ demo_from y ((i + 1) + 1) (n - (i + 1)) ≡ all
items_more all old new item x y i n within is so_far more this =
    ap (λ xs. xs ++ demo_from y ((i + 1) + 1) (n - (i + 1))) (more ∙ ap (λ s. map said old ++ s ∷ []) this)
    ∙ append_assoc (map said old) (demo_item y (i + 1) ∷ []) (demo_from y ((i + 1) + 1) (n - (i + 1)))
    ∙ ap (λ z. map said old ++ demo_item z (i + 1) ∷ demo_from z ((i + 1) + 1) (n - (i + 1))) is
    ∙ sym (ap (λ xs. map said old ++ xs) (from_step x i n within)) ∙ so_far

pub items_all : (all : List Said) (items : List TraceItem) (x i n : ℕ) → n ≤ i → map said items ++ demo_from x (i + 1) (n - i) ≡ all → map said items ≡ all
items_all all items x i n past so_far =
    let e : n - i ≡ 0 = omega (arith, past) in
    sym (append-nil (map said items)) ∙ sym (ap (λ k. map said items ++ demo_from x (i + 1) k) e) ∙ so_far

from_many : (x i k : ℕ) → length (demo_from x i k) ≡ k
from_many x i zero = refl
from_many x i (suc k) = ap suc (from_many (next_number x) (i + 1) k)

item_for : (x i : ℕ) → IsFor 16 (demo_item x i)
item_for x i = by (nat_eq (i % 7) 0) where
  by : (b : Bool) → IsFor 16 (if b then an_advance 20 else an_event ((x / 65536) % 16) (codes "click") (3 ∷ []) None)
  by true = omega arith
  by false = omega arith

no_swap : (x i : ℕ) → swap_file (demo_item x i) ≡ []
no_swap x i = by (nat_eq (i % 7) 0) where
  by : (b : Bool) → swap_file (if b then an_advance 20 else an_event ((x / 65536) % 16) (codes "click") (3 ∷ []) None) ≡ []
  by true = refl
  by false = refl

all_more : (s : Said) (ss : List Said) → IsFor 16 s → All (IsFor 16) ss → All (IsFor 16) (s ∷ ss)
all_more s ss here behind zero d within = here
all_more s ss here behind (suc k) d within = behind k d (omega (arith, within))

all_for : (x i k : ℕ) → All (IsFor 16) (demo_from x i k)
all_for x i zero = λ n d within. absurd (omega (arith, within))
all_for x i (suc k) = all_more (demo_item (next_number x) i) (demo_from (next_number x) (i + 1) k) (item_for (next_number x) i) (all_for (next_number x) (i + 1) k)

none_swap : (x i k : ℕ) → files_swapped (demo_from x i k) ≡ []
none_swap x i zero = refl
none_swap x i (suc k) = ap (λ fs. fs ++ files_swapped (demo_from (next_number x) (i + 1) k)) (no_swap (next_number x) i) ∙ none_swap (next_number x) (i + 1) k

pub demo_for : (count : ℕ) (items : List Said) → count ≤ 4096 → items ≡ demo_items count → AreItems 16 items
demo_for count items few are = subst (AreItems 16) (sym are) (record { few = omega (arith, from_many count 1 count, few); each = all_for count 1 count; swaps = omega (arith, ap length (none_swap count 1 count)) })

pub demo_unswapped : (count : ℕ) (items : List Said) → items ≡ demo_items count → files_swapped items ≡ []
demo_unswapped count items are = ap files_swapped are ∙ none_swap count 1 count

-- ## Files

-- the file of a counter is short
short_files : list_all (λ (s : Source). nat_lt (length s.bytes) (2 ^ 31)) (map counter_of demo_names) ≡ true
short_files = refl

and_first : (a b : Bool) → (a && b) ≡ true → a ≡ true
and_first true b is = refl
and_first false b is = is

and_second : (a b : Bool) → (a && b) ≡ true → b ≡ true
and_second true b is = is
and_second false b is = absurd (let e = is in cc)

all_short : (files : List SourceFile) → list_all (λ (s : Source). nat_lt (length s.bytes) (2 ^ 31)) (sources_of files) ≡ true → All IsSmall files
all_short [] short n d within = absurd (omega (arith, within))
all_short (f ∷ fs) short zero d within =
    let e : nat_lt (length f.bytes.items) (2 ^ 31) ≡ true = and_first (nat_lt (length f.bytes.items) (2 ^ 31)) (list_all (λ (s : Source). nat_lt (length s.bytes) (2 ^ 31)) (sources_of fs)) short in
    grind (arith, nat_tests)
all_short (f ∷ fs) short (suc n) d within = all_short fs (and_second (nat_lt (length f.bytes.items) (2 ^ 31)) (list_all (λ (s : Source). nat_lt (length s.bytes) (2 ^ 31)) (sources_of fs)) short) n d (omega (arith, within))

pub small_files : (files : List SourceFile) → sources_of files ≡ map counter_of demo_names → All IsSmall files
small_files files are = all_short files (ap (list_all (λ (s : Source). nat_lt (length s.bytes) (2 ^ 31))) are ∙ short_files)

-- ## Slots

-- a name is its units
name_units : (c : ℕ) → c < 128 → units_of (87 ∷ c ∷ 95 ∷ []) ≡ 87 ∷ c ∷ 95 ∷ []
name_units c small = units_of-ascii (87 ∷ c ∷ 95 ∷ []) (IsAscii-cons 87 (c ∷ 95 ∷ []) (omega arith) (IsAscii-cons c (95 ∷ []) small (IsAscii-cons 95 [] (omega arith) IsAscii-nil)))

same_parts : (ns : List (List ℕ)) → AllByRecursion (λ n. units_of n ≡ n) ns → map (λ n. Widget (units_of n) [] usual_fuel) ns ≡ map demo_part ns
same_parts [] all = refl
same_parts (n ∷ ns) all = ap (λ u. Widget u [] usual_fuel ∷ map (λ m. Widget (units_of m) [] usual_fuel) ns) all.0 ∙ ap (λ ps. demo_part n ∷ ps) (same_parts ns all.1)

pub units_named : map (λ n. Widget (units_of n) [] usual_fuel) demo_names ≡ demo_parts
units_named = same_parts demo_names (name_units 65 (omega arith), (name_units 66 (omega arith), (name_units 67 (omega arith), (name_units 68 (omega arith), (name_units 69 (omega arith), (name_units 70 (omega arith), (name_units 71 (omega arith), (name_units 72 (omega arith), (name_units 73 (omega arith), (name_units 74 (omega arith), (name_units 75 (omega arith), (name_units 76 (omega arith), (name_units 77 (omega arith), (name_units 78 (omega arith), (name_units 79 (omega arith), (name_units 80 (omega arith), tt))))))))))))))))

pub click_units : units_of (codes "click") ≡ codes "click"
click_units = units_of-ascii (codes "click") (IsAscii-cons 99 (codes "lick") (omega arith) (IsAscii-cons 108 (codes "ick") (omega arith) (IsAscii-cons 105 (codes "ck") (omega arith) (IsAscii-cons 99 (codes "k") (omega arith) (IsAscii-cons 107 [] (omega arith) IsAscii-nil)))))

pub many_files : (files : List SourceFile) → sources_of files ≡ map counter_of demo_names → length files ≡ 16
many_files files are = sym (length-map files source_of) ∙ ap length are

-- ## Own states

-- of more own states of which none is refused, none of the first is
none_before : (xs ys : List (Option OwnState)) → some_refused (xs ++ ys) ≡ false → some_refused xs ≡ false
none_before [] ys is = refl
none_before (None ∷ xs) ys is = is
none_before (Some o ∷ xs) ys is = none_before xs ys is

shown_even : (h : Host) (cs : List (List ℕ)) (es : List (Option OwnState)) → AreShown h cs es → length cs ≡ length es
shown_even h [] [] are = refl
shown_even h [] (e ∷ es) are = absurd are
shown_even h (c ∷ cs) [] are = absurd are
shown_even h (c ∷ cs) (e ∷ es) are = ap suc (shown_even h cs es are.1)

-- what is shown in a slot
shown_at : (h : Host) (cs : List (List ℕ)) (es : List (Option OwnState)) (i : ℕ) (e : Option OwnState) → AreShown h cs es → slice_get es i ≡ Some e → IsShown h (present i cs) e
shown_at h [] [] i e are there = absurd (let f : None ≡ Some e = there in cc)
shown_at h [] (x ∷ es) i e are there = absurd are
shown_at h (c ∷ cs) [] i e are there = absurd are
shown_at h (c ∷ cs) (x ∷ es) zero e are there = subst (IsShown h (present 0 (c ∷ cs))) (let f : Some x ≡ Some e = there in cc) are.0
shown_at h (c ∷ cs) (x ∷ es) (suc i) e are there = shown_at h cs es i e are.1 there

-- ## The page

each_named : (P : List ℕ × ℕ → Type 0) → ((n : List ℕ) → P (n, usual_fuel)) → (ns : List (List ℕ)) → All P (slots_named (map demo_part ns))
each_named P is [] k d within = absurd (omega (arith, within))
each_named P is (n ∷ ns) zero d within = is n
each_named P is (n ∷ ns) (suc k) d within = each_named P is ns k d (omega (arith, within))

each_low : (ns : List (List ℕ)) → All (λ part. height (markup_of part) ≤ most_high) (map demo_part ns)
each_low [] k d within = absurd (omega (arith, within))
each_low (n ∷ ns) zero d within = omega arith
each_low (n ∷ ns) (suc k) d within = each_low ns k d (omega (arith, within))

no_twice : IsDistinct same_channel []
unfolding IsDistinct
no_twice = tt

-- a host may load it
demo_fits : AreFit demo_parts []
demo_fits = record {
  slots = refl;
  fuel = each_named (λ n. (1 ≤ n.1) × (n.1 ≤ most_fuel)) (λ n. (omega arith, omega arith)) demo_names;
  low = each_low demo_names;
  few = let none : sum_by nodes_of demo_parts ≡ 0 = refl in omega (arith, none);
  channels = record { few = omega arith; distinct = no_twice; each = λ k d within. absurd (omega (arith, within)) };
}

pub fits_of : (manifest : Manifest) → parts manifest ≡ demo_parts → manifest.channels.items ≡ [] → IsFit manifest
fits_of manifest parts_are none = subst (AreFit (parts manifest)) (sym none) (subst (λ ps. AreFit ps []) (sym parts_are) demo_fits)

module _ (manifest : Manifest) (sources : List SourceFile) (parts_are : parts manifest ≡ demo_parts) (files_are : sources_of sources ≡ map counter_of demo_names) where
  pub names_are : slot_names manifest.entries.items ≡ demo_names
  names_are = names_by_parts manifest.entries.items ∙ ap (flat_map part_name) parts_are

  -- it names as many files as there are
  pub files_many : manifest.libs.items ≡ [] → length sources ≡ length (files_named manifest)
  files_many none = omega (arith, many_files sources files_are, ap length names_are, slots_even manifest.entries.items, length-append (slot_files manifest.entries.items) (texts manifest.libs.items), ap (λ ls. length (texts ls)) none)

  runs_are : runs_of manifest (sources_of sources) ≡ demo_runs
  runs_are = ap (λ ps. runs_with (slots_named ps) (sources_of sources)) parts_are ∙ ap (runs_with (slots_named demo_parts)) files_are

  module _ (none : manifest.channels.items ≡ []) (count : ℕ) (items : List TraceItem) (items_are : map said items ≡ demo_items count) (ran : Ran) (is : IsRan manifest (sources_of sources) items [] demo_slice ran) where
    -- the names of its slots
    pub found_named : ran.findings.names.items ≡ demo_names
    found_named = is.found.names ∙ ap (map run_name) runs_are

    -- the host that it leaves
    pub demo_staged : IsDemoStage count (Some ran.host)
    demo_staged =
        let a = subst (λ ps. IsStage ps manifest.channels.items (runs_of manifest (sources_of sources)) [] (map said items) demo_slice ran.host) parts_are is.stage in
        let b = subst (λ cs. IsStage demo_parts cs (runs_of manifest (sources_of sources)) [] (map said items) demo_slice ran.host) none a in
        let c = subst (λ rs. IsStage demo_parts [] rs [] (map said items) demo_slice ran.host) runs_are b in
        subst (λ xs. IsStage demo_parts [] demo_runs [] xs demo_slice ran.host) items_are c

    module _ (refused : Bool) (lines : List ℕ) (outcome : Outcome is.spec.channels.items (runs_of manifest (sources_of sources)) [] (map said items) refused (map end_of is.played.fed) lines) (flag : refused ≡ false) where
      abbrev pub owns : List (Option OwnState)
      owns = map end_of is.played.fed

      come : ComeTo [] (last_lives [] (demo_items count) 0 demo_runs) owns
      come =
          let a = subst (λ cs. ComeTo cs (last_lives [] (map said items) 0 (runs_of manifest (sources_of sources))) owns) (is.channels ∙ none) outcome.lasts in
          let b = subst (λ rs. ComeTo [] (last_lives [] (map said items) 0 rs) owns) runs_are a in
          subst (λ xs. ComeTo [] (last_lives [] xs 0 demo_runs) owns) items_are b

      good : some_refused owns ≡ false
      good = none_before owns outcome.before (sym outcome.flag ∙ flag)

      -- what its host shows
      pub accepted : (names : List (List ℕ)) → names ≡ demo_names → AreAccepted names ran.host owns
      accepted names named =
          let many : length (chains ran.host) ≡ length names = is.stage.slots ∙ ap length runs_are ∙ sym (ap length named) in
          record { housed = is.played.housed; slots = many; shown = is.played.shown; even = sym many ∙ shown_even ran.host (chains ran.host) owns is.played.shown; accepted = good }

      -- and its answer
      pub demo_answered : (names : List (List ℕ)) → names ≡ demo_names → (old bytes : List ℕ) → old ≡ [] → ((os : List (Option OwnState)) → AreAccepted names ran.host os → bytes ≡ old ++ short_lines names os) → DemoAnswer count status.Ok bytes
      demo_answered names named old bytes empty written =
          let text : bytes ≡ short_lines demo_names owns = written owns (accepted names named) ∙ ap (λ o. o ++ short_lines names owns) empty ∙ ap (λ ns. short_lines ns owns) named in
          subst (DemoAnswer count status.Ok) (sym text) (short_report come good)

-- ## Short lines

-- a slot of which none is refused has an own state
own_there : (owns : List (Option OwnState)) (i : ℕ) → some_refused owns ≡ false → i < length owns → (o : OwnState) × (slice_get owns i ≡ Some (Some o))
own_there [] i good within = absurd (omega (arith, within))
own_there (None ∷ os) i good within = absurd (let e = good in cc)
own_there (Some o ∷ os) zero good within = (o, refl)
own_there (Some o ∷ os) (suc i) good within = own_there os i good (omega (arith, within))

own_at : (h : Host) (names : List (List ℕ)) (owns : List (Option OwnState)) (i : ℕ) → AreAccepted names h owns → i < length names → (o : OwnState) × (slice_get owns i ≡ Some (Some o)) × IsShown h (present i (chains h)) (Some o)
own_at h names owns i all within =
    let o = own_there owns i all.accepted (omega (arith, all.even, within)) in
    (o.0, o.1, shown_at h (chains h) owns i (Some o.0) all.shown o.1)

pub slot_there : (h : Host) (names : List (List ℕ)) (owns : List (Option OwnState)) (i : ℕ) → AreAccepted names h owns → i < length names → i < length (chains h)
slot_there h names owns i all within = omega (arith, within, all.slots)

pub slot_accepted : (h : Host) (names : List (List ℕ)) (owns : List (Option OwnState)) (i : ℕ) → AreAccepted names h owns → i < length names → accepts h (present i (chains h)) ≡ true
slot_accepted h names owns i all within = (own_at h names owns i all within).2.0

short_step : (names : List (List ℕ)) (owns : List (Option OwnState)) (i : ℕ) (name : List ℕ) (o : OwnState) → i < length names → name ≡ get_or names i name → slice_get owns i ≡ Some (Some o) → short_lines (take (i + 1) names) (take (i + 1) owns) ≡ short_lines (take i names) (take i owns) ++ short_line name o
short_step [] owns i name o within is there = absurd (omega (arith, within))
short_step (n ∷ ns) [] i name o within is there = absurd (none_there there) where
  none_there : None ≡ Some (Some o) → ⊥
  none_there e = cc
short_step (n ∷ ns) (p ∷ ps) zero name o within is there = ap (λ q. short_lines (n ∷ []) (q ∷ [])) (some_is p (Some o) there) ∙ append-nil (short_line n o) ∙ ap (λ x. short_line x o) (sym is) where
  some_is : (a b : Option OwnState) → Some a ≡ Some b → a ≡ b
  some_is a b e = cc
short_step (n ∷ ns) (None ∷ ps) (suc i) name o within is there =
    let e : suc i + 1 ≡ suc (i + 1) = omega arith in
    ap (λ k. short_lines (take k (n ∷ ns)) (take k (None ∷ ps))) e ∙ short_step ns ps i name o (omega (arith, within)) is there
short_step (n ∷ ns) (Some p ∷ ps) (suc i) name o within is there =
    let e : suc i + 1 ≡ suc (i + 1) = omega arith in
    ap (λ k. short_lines (take k (n ∷ ns)) (take k (Some p ∷ ps))) e
    ∙ ap (λ l. short_line n p ++ l) (short_step ns ps i name o (omega (arith, within)) is there)
    ∙ sym (append_assoc (short_line n p) (short_lines (take i ns) (take i ps)) (short_line name o))

pub short_more : (h : Host) (names : List (List ℕ)) (owns : List (Option OwnState)) (i : ℕ) (name key : List ℕ) (line : RunLine) (old mid new text : List ℕ) → AreAccepted names h owns → i < length names → name ≡ get_or names i name → key ≡ name → mid ≡ old ++ short_lines (take i names) (take i owns) → new ≡ mid ++ text → ((s : Seen) → slice_get (seens h) (present i (chains h)) ≡ Some s → IsLineOf line (image s)) → ((o : OwnState) → IsLineOf line o → text ≡ short_line key o) → new ≡ old ++ short_lines (take (i + 1) names) (take (i + 1) owns)
short_more h names owns i name key line old mid new text all within is same before after told written =
    let o = own_at h names owns i all within in
    let line_is : IsLineOf line o.0 = subst (IsLineOf line) o.2.1.2 (told o.2.1.0 o.2.1.1) in
    let this : text ≡ short_line name o.0 = written o.0 line_is ∙ ap (λ n. short_line n o.0) same in
    after ∙ ap (λ m. m ++ text) before ∙ append_assoc old (short_lines (take i names) (take i owns)) text
    ∙ ap (λ l. old ++ (short_lines (take i names) (take i owns) ++ l)) this
    ∙ ap (λ l. old ++ l) (sym (short_step names owns i name o.0 within is o.1))

pub short_all : (names : List (List ℕ)) (owns : List (Option OwnState)) (i : ℕ) (old new : List ℕ) → length names ≡ length owns → length names ≤ i → new ≡ old ++ short_lines (take i names) (take i owns) → new ≡ old ++ short_lines names owns
short_all names owns i old new even past gathered =
    gathered ∙ ap (λ n. old ++ short_lines n (take i owns)) (take_all i names past) ∙ ap (λ o. old ++ short_lines names o) (take_all i owns (omega (arith, even, past)))
