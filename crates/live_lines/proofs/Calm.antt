-- Over calm files that have the file of each swap no read fails.
use Rattle.std.proofs.Common.{◌≡◌, ℕ, List, [], ◌∷◌, ◌++◌, Option, Some, None, IfSome, refl, sym, subst, ◌∙◌, arith}
use Rattle.std.specs.Prelude.{All}
use Rattle.std.proofs.lemmas.List.Elements.{All-head, All-nil, All-cons, All-tail}
use Rattle.host_io.specs.Files.{FileMap, IsThere}
use Rattle.trace_reader.specs.Said.{a_swap}
use Rattle.manifest_reader.specs.Page.{Part}
use Rattle.page_check.specs.Runs.{SlotRun}
use Rattle.run_steps.specs.declared.ending.Status.{Status}
use Rattle.run_steps.specs.Reading.{ReadsFiles}
use Rattle.live_lines.specs.Transcript.{State, Answers, a_refusal, a_report, a_reply, AsksItem, a_file, nothing, fifth_swap, long_file, no_file, it_is_taken, it_is_refused, takes, Serves, no_line, a_line, Served, at_end, full, no_memory, not_read, not_written, not_shut}
use Rattle.live_lines.specs.Outcome.{HasLiveFiles, IsSwapThere, LiveOutcome, Ran, begun_and_served, begun_in_part, file_unread, no_form, no_page, none_failed, not_begun, ran, unloaded}
use Rattle.live_lines.proofs.Deciding.{OutcomeOn}

-- the first of all lines
all_front : {A : Type 0} (P : A → Type 0) (front rest : List A) → All P (front ++ rest) → All P front
all_front P [] rest all = All-nil P
all_front P (x ∷ front) rest all = All-cons P x front (All-head P x (front ++ rest) all) (all_front P front rest (All-tail P x (front ++ rest) all))

module _ {D : Type 0} (tells : D → Option FileMap) (calm : D → Type 0) (faults : D → ℕ) where
  -- a count that stays tells that no read failed
  none_rose : {d e : D} {Enough : Type 0} → ReadsFiles tells calm faults d e ⊥ Enough → ReadsFiles tells calm none_failed d e ⊥ Enough
  none_rose r = record {
    same = r.same;
    count = omega arith;
    cause = λ failed. absurd failed;
    no_fault = r.no_fault;
    no_rise = λ is has. refl;
    stay_calm = r.stay_calm;
  }

  module _ (parts : List Part) (pairs : List (ℕ × ℕ)) (runs : List SlotRun) (m : FileMap) where
    -- the file of a swap that a line asks for is there
    there : (d : D) (line : List ℕ) (to : ℕ) (file : List ℕ) → tells d ≡ Some m → IsSwapThere m line → AsksItem parts pairs runs line (a_swap to file) → IsThere (tells d) file
    there d line to file told has asks = subst (λ t. IsThere t file) (sym told) (has _ file (record { item = asks.item; to = to; reads = asks.asks.reads; is = sym asks.is }))

    -- what is answered, and that the files are calm behind it
    record Stays (Answered : Type 0) (d e : D) : Type 0 where
      is : Answered
      told : tells e ≡ tells d
      calm_yet : calm e

    answer_calm : (line : List ℕ) (s : State) (d : D) (bytes : List ℕ) (t : State) (e : D) → tells d ≡ Some m → calm d → IsSwapThere m line → Answers tells calm faults parts pairs runs m line s d bytes t e
        → Stays (Answers tells calm none_failed parts pairs runs m line s d bytes t e) d e
    answer_calm line s d bytes t e told is has (a_refusal why) = record { is = a_refusal why; told = refl; calm_yet = is }
    answer_calm line s d bytes t e told is has (a_report asks report) = record { is = a_report asks report; told = refl; calm_yet = is }
    answer_calm line s d bytes t e told is has (a_reply asks (it_is_taken (takes flags (nothing none) comes renewed))) =
        record { is = a_reply asks (it_is_taken (takes flags (nothing none) comes renewed)); told = refl; calm_yet = is }
    answer_calm line s d bytes t e told is has (a_reply asks (it_is_taken (takes flags (a_file {to = to} {file = file} read was) comes renewed))) =
        record { is = a_reply asks (it_is_taken (takes flags (a_file read (none_rose was)) comes renewed)); told = was.same; calm_yet = was.stay_calm is (there d line to file told has asks) }
    answer_calm line s d bytes t e told is has (a_reply asks (it_is_refused (fifth_swap many))) = record { is = a_reply asks (it_is_refused (fifth_swap many)); told = refl; calm_yet = is }
    answer_calm line s d bytes t e told is has (a_reply asks (it_is_refused (long_file {to = to} {file = file} far was))) =
        record { is = a_reply asks (it_is_refused (long_file far (none_rose was))); told = was.same; calm_yet = was.stay_calm is (there d line to file told has asks) }
    answer_calm line s d bytes t e told is has (a_reply asks (it_is_refused (no_file {to = to} {file = file} failed))) = absurd (failed.no_fault is (there d line to file told has asks) tt)

    serves_calm : (s : State) (d : D) (lines : List (List ℕ)) (bytes : List ℕ) (t : State) (e : D) → tells d ≡ Some m → calm d → All (IsSwapThere m) lines → Serves tells calm faults parts pairs runs m s d lines bytes t e
        → Serves tells calm none_failed parts pairs runs m s d lines bytes t e
    serves_calm s d [] bytes t e told is all no_line = no_line
    serves_calm s d (line ∷ lines) bytes t e told is all (a_line {t = u} {e = f} one more few answer rest) =
        let a = answer_calm line s d one u f told is (All-head (IsSwapThere m) line lines all) answer in
        a_line one more few a.is (serves_calm u f lines more t e (a.told ∙ told) a.calm_yet (All-tail (IsSwapThere m) line lines all) rest)

    module _ (s : State) (d e : D) (lines : List (List ℕ)) (from to : Option (List ℕ)) (told : tells d ≡ Some m) (is : calm d) (all : All (IsSwapThere m) lines) where
      front_calm : (f : D) (front rest : List (List ℕ)) (bytes : List ℕ) (t : State) → lines ≡ front ++ rest → Serves tells calm faults parts pairs runs m s d front bytes t f → Serves tells calm none_failed parts pairs runs m s d front bytes t f
      front_calm f front rest bytes t whole serves = serves_calm s d front bytes t f told is (all_front (IsSwapThere m) front rest (subst (All (IsSwapThere m)) whole all)) serves

      served_calm : (how : Status) → Served tells calm faults parts pairs runs m s d e lines from to how → Served tells calm none_failed parts pairs runs m s d e lines from to how
      served_calm how (at_end serves few held ends) = at_end (serves_calm s d lines _ _ e told is all serves) few held ends
      served_calm how (full rest whole serves many held ends) = full rest whole (front_calm e _ rest _ _ whole serves) many held ends
      served_calm how (no_memory rest whole serves held) = no_memory rest whole (front_calm _ _ rest _ _ whole serves) held
      served_calm how (not_read rest whole serves held) = not_read rest whole (front_calm e _ rest _ _ whole serves) held
      served_calm how (not_written rest count whole serves within held) = not_written rest count whole (front_calm e _ rest _ _ whole serves) within held
      served_calm how (not_shut rest count whole serves many within held) = not_shut rest count whole (front_calm e _ rest _ _ whole serves) many within held

    ran_calm : (d e : D) (lines : List (List ℕ)) (from to : Option (List ℕ)) (how : Status) → tells d ≡ Some m → calm d → All (IsSwapThere m) lines → Ran tells calm faults parts pairs runs m lines d e from to how → Ran tells calm none_failed parts pairs runs m lines d e from to how
    ran_calm d e lines from to how told is all (begun_and_served first served) = begun_and_served first (served_calm _ d e lines _ to told is all how served)
    ran_calm d e lines from to how told is all (not_begun same) = not_begun same
    ran_calm d e lines from to how told is all (begun_in_part count first within held) = begun_in_part count first within held

  module _ (words : List (List ℕ)) (d e : D) where
    live_calm : (m : FileMap) (lines : List (List ℕ)) (from to : Option (List ℕ)) (how : Status) → tells d ≡ Some m → calm d → HasLiveFiles words m → All (IsSwapThere m) lines → LiveOutcome tells calm faults words m lines d e from to how
        → LiveOutcome tells calm none_failed words m lines d e from to how
    live_calm m lines from to how told is has all (ran {name = name} {opened = opened} asks there read opens runs) =
        ran asks there read (none_rose opens) (ran_calm _ _ _ m opened e lines from to how (opens.same ∙ told) (opens.stay_calm is (has name asks)) all runs)
    live_calm m lines from to how told is has all (no_form none same) = no_form none same
    live_calm m lines from to how told is has all (no_page asks none same) = no_page asks none same
    live_calm m lines from to how told is has all (file_unread asks same) = file_unread asks same
    live_calm m lines from to how told is has all (unloaded asks same) = unloaded asks same

    -- what comes of a call, where files and lines are told
    pub calm_outcome : (told : Option FileMap) (left : Option (List (List ℕ))) (from to : Option (List ℕ)) (how : Status) → tells d ≡ told → calm d → OutcomeOn tells calm faults told left words d e from to how
        → IfSome told (λ m. IfSome left (λ lines. HasLiveFiles words m → All (IsSwapThere m) lines → LiveOutcome tells calm none_failed words m lines d e from to how))
    calm_outcome None left from to how told is outcome = tt
    calm_outcome (Some m) None from to how told is outcome = tt
    calm_outcome (Some m) (Some lines) from to how told is outcome = λ has all. live_calm m lines from to how told is has all outcome
