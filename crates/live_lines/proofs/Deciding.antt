-- What comes of a call of `live`, by what came of its steps.
use Rattle.std.proofs.Common.{◌≡◌, ℕ, List, Option, [], Some, None, IfSome, IsSomeAnd, Bool, true, false, refl, sym, subst, ap, ◌∙◌}
use Rattle.std.specs.Prelude.{◌↔◌}
use Rattle.host_io.specs.Files.{FileMap}
use Rattle.run_steps.specs.declared.ending.Status.{Status}
use Rattle.run_steps.specs.declared.ending.Status.TheVariants as status
use Rattle.run_steps.specs.declared.reading.NoReport.{NoReport}
use Rattle.run_steps.specs.declared.reading.NoReport.TheVariants as stop
use Rattle.run_steps.specs.Reading.{HasPageFiles, ReadsFiles}
use Rattle.run_steps.specs.Ends.{IsStop, status_of}
use Rattle.run_steps.proofs.Stepping.{stop_usage}
use Rattle.manifest_reader.specs.Page.{Part}
use Rattle.page_check.specs.Runs.{SlotRun}
use Rattle.page_live.specs.declared.page.LivePage.{LivePage}
use Rattle.page_live.specs.Page.{Lives}
use Rattle.live_lines.specs.Outcome.{AsksPage, HasLiveFiles, IsLiveForm, IsOpened, LiveOutcome, NoPage, Ran, RanOn, file_unread, is_early, no_form, no_page, ran, unloaded}

not_both : (b : Bool) → b ≡ false → b ≡ true → ⊥
not_both b f t = (let e : false ≡ true = sym f ∙ t in cc)

-- what is early is not late
pub late_still : {A : Type 0} (how : Status) → is_early how ≡ false → is_early how ≡ true → A
late_still how late early = absurd (not_both (is_early how) late early)

module _ (words : List (List ℕ)) (name : List ℕ) (asks : AsksPage words name) where
  -- of this status it is not that the words are of no form
  pub usage_never : (how : Status) → (how ≡ status.Usage → ⊥) → (how ≡ status.Usage) ↔ (IsLiveForm words → ⊥)
  usage_never how not = (λ is. absurd (not is), λ none. absurd (none (record { name = name; asks = asks })))

  pub late_usage : (how : Status) → is_early how ≡ false → (how ≡ status.Usage) ↔ (IsLiveForm words → ⊥)
  late_usage how late = usage_never how (λ is. not_both (is_early how) late (ap is_early is))

  pub stop_never : (stopped : NoReport) → (status_of stopped ≡ status.Usage) ↔ (IsLiveForm words → ⊥)
  stop_never stopped = usage_never (status_of stopped) (stop_usage stopped)

  -- each file is there to which the work comes
  pub page_files : (told : Option FileMap) → IsSomeAnd told (HasLiveFiles words) → IsSomeAnd told (λ m. HasPageFiles m name)
  page_files None has = has
  page_files (Some m) has = has name asks

module _ {D : Type 0} (tells : D → Option FileMap) (calm : D → Type 0) (faults : D → ℕ) where
  abbrev pub OutcomeOn : Option FileMap → Option (List (List ℕ)) → List (List ℕ) → D → D → Option (List ℕ) → Option (List ℕ) → Status → Type 0
  OutcomeOn told left words d e from to how = IfSome told (λ m. IfSome left (λ lines. LiveOutcome tells calm faults words m lines d e from to how))

module _ {D : Type 0} (tells : D → Option FileMap) (calm : D → Type 0) (faults : D → ℕ) (words : List (List ℕ)) (d e : D) (from : Option (List ℕ)) where
  outcome_told : (told : Option FileMap) (left : Option (List (List ℕ))) (to : Option (List ℕ)) (how : Status) → ((m : FileMap) (lines : List (List ℕ)) → LiveOutcome tells calm faults words m lines d e from to how) → OutcomeOn tells calm faults told left words d e from to how
  outcome_told None left to how all = tt
  outcome_told (Some m) None to how all = tt
  outcome_told (Some m) (Some lines) to how all = all m lines

  -- the words are of no form
  pub other_words : (told : Option FileMap) (left : Option (List (List ℕ))) → (IsLiveForm words → ⊥) → OutcomeOn tells calm faults told left words d e from from status.Usage
  other_words told left none = outcome_told told left from status.Usage (λ m lines. no_form none refl)

  module _ (name : List ℕ) (asks : AsksPage words name) where
    -- the page has run
    abbrev RunsOn : Option FileMap → Option (List (List ℕ)) → D → LivePage → Option (List ℕ) → Status → Type 0
    RunsOn told left opened page to how = IfSome told (λ m. IfSome left (λ lines. (parts : List Part) (pairs : List (ℕ × ℕ)) (runs : List SlotRun) → Lives parts pairs runs [] [] page → Ran tells calm faults parts pairs runs m lines opened e from to how))

    ran_told : (told : Option FileMap) (left : Option (List (List ℕ))) (opened : D) (page : LivePage) (to : Option (List ℕ)) (how : Status) → IfSome told (λ m. IsOpened m name page)
        → ReadsFiles tells calm faults d opened ⊥ (IsSomeAnd told (λ m. HasPageFiles m name)) → RunsOn told left opened page to how → OutcomeOn tells calm faults told left words d e from to how
    ran_told None left opened page to how is reads runs = tt
    ran_told (Some m) None opened page to how is reads runs = tt
    ran_told (Some m) (Some lines) opened page to how is reads runs = ran asks is.there is.read reads (runs _ _ _ is.lives)

    pub ran_outcome : (opened : D) (left : Option (List (List ℕ))) (page : LivePage) (to : Option (List ℕ)) (how : Status) → tells opened ≡ tells d → IfSome (tells d) (λ m. IsOpened m name page)
        → ReadsFiles tells calm faults d opened ⊥ (IsSomeAnd (tells d) (λ m. HasPageFiles m name)) → RanOn tells calm faults left page opened e from to how → OutcomeOn tells calm faults (tells d) left words d e from to how
    ran_outcome opened left page to how same is reads rans = ran_told (tells d) left opened page to how is reads (subst (λ t. RunsOn t left opened page to how) same rans)

    -- there is no page, a file was not read, or there was no memory
    stop_outcome : (m : FileMap) (lines : List (List ℕ)) (stopped : NoReport) → IsStop (NoPage m name) stopped → LiveOutcome tells calm faults words m lines d e from from (status_of stopped)
    stop_outcome m lines stop.BadManifest is = no_page asks is refl
    stop_outcome m lines stop.BadTrace is = no_page asks is refl
    stop_outcome m lines stop.TooLarge is = no_page asks is refl
    stop_outcome m lines stop.CertTooLarge is = no_page asks is refl
    stop_outcome m lines stop.BadCert is = no_page asks is refl
    stop_outcome m lines stop.ReadFault is = file_unread asks refl
    stop_outcome m lines stop.Memory is = unloaded asks refl

    pub stopped_outcome : (told : Option FileMap) (left : Option (List (List ℕ))) (stopped : NoReport) → IfSome told (λ m. IsStop (NoPage m name) stopped) → OutcomeOn tells calm faults told left words d e from from (status_of stopped)
    stopped_outcome None left stopped is = tt
    stopped_outcome (Some m) None stopped is = tt
    stopped_outcome (Some m) (Some lines) stopped is = stop_outcome m lines stopped is
