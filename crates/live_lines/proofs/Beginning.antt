-- What a page begins with.
use Rattle.std.proofs.Common.{◌≡◌, ◌≤◌, ℕ, List, [], length, take, map, Option, Some, None, IfSome, refl, sym, ap, subst, ◌∙◌}
use Rattle.host_io.specs.Files.{FileMap}
use Rattle.host_io.specs.Sink.{with_bytes}
use Rattle.manifest_reader.specs.Page.{Part}
use Rattle.run_steps.specs.declared.ending.Status.{Status}
use Rattle.run_steps.specs.declared.ending.Status.TheVariants as status
use Rattle.widget_meaning.specs.OwnState.{OwnState}
use Rattle.page_plan.specs.Pages.{PagePiece}
use Rattle.page_check.specs.Runs.{SlotRun, pieces}
use Rattle.slot_lives.specs.Ends.{end_of}
use Rattle.live_text.specs.Answer.{shown}
use Rattle.page_live.specs.declared.page.LivePage.{LivePage}
use Rattle.page_live.specs.declared.session.Session.{Session}
use Rattle.page_live.specs.Page.{AppendsFirst, IsAlive, Lives, Shows}
use Rattle.page_live.proofs.Showing.{live_comes, live_shows}
use Rattle.live_lines.specs.Transcript.{Served, ServedOn, StandsAt, Stands, State}
use Rattle.live_lines.specs.Outcome.{Begins, Ran, RanOn, begins, begun_and_served, begun_in_part, first_state, not_begun}

-- a session that begins with a page that is alive stands
pub stands_first : (p : LivePage) (session : Session) → IsAlive p → session.page ≡ p → length session.written.items ≡ length p.findings.names.items → Stands session
stands_first p session a same many = record {
  parts = a.parts;
  pairs = a.pairs;
  runs = a.runs;
  state = record { items = a.items; files = a.files; written = map shown session.written.items };
  at = record { lives = subst (Lives a.parts a.pairs a.runs a.files a.items) (sym same) a.is; written = refl; many = many ∙ ap (λ (q : LivePage). length q.findings.names.items) (sym same) };
}

-- it has taken nothing
pub first_room : (p : LivePage) (session : Session) → session.page ≡ p → p.taken ≡ 0 → session.page.taken ≡ 0
first_room p session same none = ap (λ (q : LivePage). q.taken) same ∙ none

-- a page that was loaded ends, where files and lines are told
module _ {D : Type 0} (tells : D → Option FileMap) (calm : D → Type 0) (faults : D → ℕ) where
  abbrev RanAt : Option FileMap → Option (List (List ℕ)) → LivePage → D → D → Option (List ℕ) → Option (List ℕ) → Status → Type 0
  RanAt told left page d e from to how = IfSome told (λ m. IfSome left (λ lines. (parts : List Part) (pairs : List (ℕ × ℕ)) (runs : List SlotRun) → Lives parts pairs runs [] [] page → Ran tells calm faults parts pairs runs m lines d e from to how))

  ran_told : (told : Option FileMap) (left : Option (List (List ℕ))) (page : LivePage) (d e : D) (from to : Option (List ℕ)) (how : Status)
      → ((m : FileMap) (lines : List (List ℕ)) (parts : List Part) (pairs : List (ℕ × ℕ)) (runs : List SlotRun) → Lives parts pairs runs [] [] page → Ran tells calm faults parts pairs runs m lines d e from to how) → RanAt told left page d e from to how
  ran_told None left page d e from to how all = tt
  ran_told (Some m) None page d e from to how all = tt
  ran_told (Some m) (Some lines) page d e from to how all = λ parts pairs runs l. all m lines parts pairs runs l

  -- there was no memory for its beginning
  pub ran_small : (left : Option (List (List ℕ))) (page : LivePage) (d e : D) (from : Option (List ℕ)) → RanOn tells calm faults left page d e from from status.Memory
  ran_small left page d e from = ran_told (tells d) left page d e from from status.Memory (λ m lines parts pairs runs l. not_begun refl)

-- what a session says of what its page begins with
abbrev pub SaysFirst : LivePage → Session → List ℕ → Type 0
SaysFirst page session out = (ps : List PagePiece) (owns : List (Option OwnState)) → Shows page ps owns → AppendsFirst page.findings owns ps (map shown session.written.items) [] out

pub says_first : (page : LivePage) (session : Session) (old new out : List ℕ) → old ≡ [] → out ≡ new
    → ((ps : List PagePiece) (owns : List (Option OwnState)) → Shows page ps owns → AppendsFirst page.findings owns ps (map shown session.written.items) old new) → SaysFirst page session out
says_first page session old new out none same first = λ ps owns is.
    subst (λ xs. AppendsFirst page.findings owns ps (map shown session.written.items) xs out) none
    (subst (λ ys. AppendsFirst page.findings owns ps (map shown session.written.items) old ys) (sym same) (first ps owns is))

module _ (page : LivePage) (session : Session) (out : List ℕ) (first : SaysFirst page session out) where
  begins_of : (parts : List Part) (pairs : List (ℕ × ℕ)) (runs : List SlotRun) → Lives parts pairs runs [] [] page → Begins parts pairs runs out (map shown session.written.items)
  begins_of parts pairs runs l = begins (live_comes parts pairs runs [] [] page l) (first (pieces parts) (map end_of l.live.fed) (live_shows parts pairs runs [] [] page l))

module _ {D : Type 0} (tells : D → Option FileMap) (calm : D → Type 0) (faults : D → ℕ) (page : LivePage) (session : Session) (out : List ℕ) (first : SaysFirst page session out) where
  -- writing it failed
  pub ran_cut : (left : Option (List (List ℕ))) (d e : D) (from to : Option (List ℕ)) → ((count : ℕ) × (count ≤ length out) × (to ≡ with_bytes from (take count out))) → RanOn tells calm faults left page d e from to status.WriteFault
  ran_cut left d e from to cuts = ran_told tells calm faults (tells d) left page d e from to status.WriteFault (λ m lines parts pairs runs l. begun_in_part cuts.0 (begins_of page session out first parts pairs runs l) cuts.1 cuts.2)

  module _ (same : session.page ≡ page) (many : length session.written.items ≡ length page.findings.names.items) where
    stands_at : (parts : List Part) (pairs : List (ℕ × ℕ)) (runs : List SlotRun) → Lives parts pairs runs [] [] page → StandsAt parts pairs runs (first_state (map shown session.written.items)) session
    stands_at parts pairs runs l = record { lives = subst (Lives parts pairs runs [] []) (sym same) l; written = refl; many = many ∙ ap (λ (q : LivePage). length q.findings.names.items) (sym same) }

    -- and then lines were served
    pub ran_on : (left : Option (List (List ℕ))) (d e : D) (from mid to : Option (List ℕ)) (how : Status) → mid ≡ with_bytes from out → ServedOn tells calm faults left session d e mid to how → RanOn tells calm faults left page d e from to how
    ran_on left d e from mid to how written served = by (tells d) left served where
      by : (told : Option FileMap) (left : Option (List (List ℕ)))
          → IfSome told (λ m. IfSome left (λ lines. (parts : List Part) (pairs : List (ℕ × ℕ)) (runs : List SlotRun) (s : State) → StandsAt parts pairs runs s session → Served tells calm faults parts pairs runs m s d e lines mid to how))
          → RanAt tells calm faults told left page d e from to how
      by None left is = tt
      by (Some m) None is = tt
      by (Some m) (Some lines) is = λ parts pairs runs l. begun_and_served (begins_of page session out first parts pairs runs l)
          (subst (λ o. Served tells calm faults parts pairs runs m (first_state (map shown session.written.items)) d e lines o to how) written (is parts pairs runs (first_state (map shown session.written.items)) (stands_at parts pairs runs l)))
