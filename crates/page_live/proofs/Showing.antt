-- What a page that lives comes to.
use Rattle.std.proofs.Common.{◌≡◌, ℕ, List, [], ◌∷◌, ◌++◌, map, length, Option, Some, None, refl, sym, ap, subst, ◌∙◌}
use Rattle.std.specs.Prelude.{is_some}
use Rattle.std.proofs.lemmas.List.{length-map}
use Rattle.trace_reader.specs.Said.{Said}
use Rattle.trace_text.specs.Report.{page_line}
use Rattle.manifest_reader.specs.Page.{Part}
use Rattle.slot_check.specs.Sources.{Source}
use Rattle.page_output.specs.Printing.{Prints}
use Rattle.widget_meaning.specs.OwnState.{OwnState}
use Rattle.life_laws.specs.Fed.{Fed}
use Rattle.page_plan.specs.Pages.{page_of, piece_of, roots}
use Rattle.page_check.specs.Runs.{SlotRun, pieces}
use Rattle.slot_lives.specs.Ends.{end_of, run_name}
use Rattle.slot_lives.specs.Outcome.{IsReport, Outcome}
use Rattle.page_play.specs.Housed.{IsLaid}
use Rattle.page_play.specs.Findings.{ended_told, found_refused, lasts_told, lines_of}
use Rattle.page_play.specs.Played.{begun_in, ended_in, IsPlayed}
use Rattle.page_play.specs.Told.{AreTold, Reports}
use Rattle.page_play.proofs.LawsHold.{even_law, outcome_law}
use Rattle.page_play.proofs.Matching.{SameKind, all_matched}
use Rattle.page_play.proofs.Outcomes.{judged_even, judged_names, lasts_match, ended_match}
use Rattle.page_play.proofs.Swapping.{slots_length}
use Rattle.page_live.specs.declared.page.LivePage.{LivePage}
use Rattle.page_live.specs.Page.{ComesTo, IsAlive, IsLiveReport, IsShowing, Lives, Shows}
use Rattle.page_live.proofs.Handed.{same_flags, same_lives}
use Rattle.page_live.proofs.Unlinked.{unlinked}

heads : {A : Type 0} (a b : A) (xs ys : List A) → a ∷ xs ≡ b ∷ ys → a ≡ b
heads a b xs ys e = cc

tails : {A : Type 0} (a b : A) (xs ys : List A) → a ∷ xs ≡ b ∷ ys → xs ≡ ys
tails a b xs ys e = cc

-- an own state for each that has a widget
kind_of : (fs gs : List (Option Fed)) → map is_some gs ≡ map is_some fs → SameKind fs (map end_of gs)
kind_of [] [] e = tt
kind_of [] (g ∷ gs) e = absurd (let f = e in cc)
kind_of (f ∷ fs) [] e = absurd (let g = e in cc)
kind_of (f ∷ fs) (g ∷ gs) e = (by g ∙ heads (is_some g) (is_some f) (map is_some gs) (map is_some fs) e, kind_of fs gs (tails (is_some g) (is_some f) (map is_some gs) (map is_some fs) e)) where
  by : (x : Option Fed) → is_some (end_of x) ≡ is_some x
  by None = refl
  by (Some y) = refl

module _ (parts : List Part) (pairs : List (ℕ × ℕ)) (runs : List SlotRun) (files : List Source) (items : List Said) (p : LivePage) (l : Lives parts pairs runs files items p) where
  many_names : length p.findings.names.items ≡ length runs
  many_names = ap length l.found.names ∙ length-map runs run_name

  pub live_told : AreTold p.findings p.host (map end_of l.live.fed) (map end_of l.live.out)
  live_told =
      let flags = same_flags l.spec l.live.lives in
      record {
        even = even_law l.spec l.swaps items runs files p.findings l.found;
        housed = l.live.housed;
        slots = l.live.slots ∙ (judged_even l.spec.libs.items runs l.spec.slots.items p.findings.refusals.items l.found.slots).0 ∙ sym many_names;
        swaps = l.live.swapped ∙ sym (slots_length items) ∙ ap length (sym l.found.swapped);
        shown = l.live.shown;
        ended = l.live.ended;
        lasts = all_matched (map end_of l.live.fed) (lasts_match l.spec l.swaps items runs files p.findings l.found) (kind_of (begun_in l.spec l.swaps items) l.live.fed flags.lasts);
        others = all_matched (map end_of l.live.out) (ended_match l.spec l.swaps items runs files p.findings l.found) (kind_of (ended_in l.spec l.swaps items) l.live.out flags.ended_are);
      }

  pub live_laid : IsLaid p.host p.findings.names.items (pieces parts)
  live_laid =
      subst (λ ps. IsLaid p.host p.findings.names.items ps) l.laid
      (subst (λ ns. IsLaid p.host ns (map piece_of l.spec.pieces.items)) (judged_names l.spec.libs.items runs l.spec.slots.items p.findings.refusals.items l.found.slots ∙ sym l.found.names) l.live.laid)

  -- it shows what it comes to
  pub live_shows : Shows p (pieces parts) (map end_of l.live.fed)
  live_shows = record { before = map end_of l.live.out; told = live_told; laid = live_laid }

  pub live_comes : ComesTo parts pairs runs files items p.findings (map end_of l.live.fed) (map end_of l.live.out)
  live_comes = record {
    spec = l.spec;
    swaps = l.swaps;
    laid = l.laid;
    channels = l.channels;
    found = l.found;
    fed = l.live.fed;
    out = l.live.out;
    lives = l.live.lives;
    owns_are = refl;
    before_are = refl;
  }

  -- the report on it
  pub live_report : (bytes : List ℕ) → Reports p.findings p.findings.names.items (pieces parts) (map end_of l.live.fed) (map end_of l.live.out) bytes → IsLiveReport parts pairs runs files items bytes
  live_report bytes r = record {
    f = p.findings;
    owns = map end_of l.live.fed;
    before = map end_of l.live.out;
    comes = live_comes;
    text = r.text;
    printed = r.printed;
    whole = r.whole;
  }

  -- without channels it has played
  abbrev pub live_played : pairs ≡ [] → IsPlayed l.spec l.swaps items p.host
  live_played none = unlinked l.spec l.swaps items p.host (l.channels ∙ none) l.live

-- some page shows something
pub alive_shows : (p : LivePage) → IsAlive p → IsShowing p
alive_shows p a = record { pieces = pieces a.parts; owns = map end_of a.is.live.fed; shows = live_shows a.parts a.pairs a.runs a.files a.items p a.is }

pub alive_told : (p : LivePage) → IsAlive p → (os : List (Option OwnState)) × (bs : List (Option OwnState)) × AreTold p.findings p.host os bs
alive_told p a = (map end_of a.is.live.fed, map end_of a.is.live.out, live_told a.parts a.pairs a.runs a.files a.items p a.is)

-- a page keeps the names of its slots
pub same_names : (parts : List Part) (pairs : List (ℕ × ℕ)) (runs : List SlotRun) (files more : List Source) (items others : List Said) (p q : LivePage) → Lives parts pairs runs files items p → Lives parts pairs runs more others q
    → length p.findings.names.items ≡ length q.findings.names.items
same_names parts pairs runs files more items others p q l k = ap length (l.found.names ∙ sym k.found.names)

-- without channels the report is that of a replay
pub reported_as : (parts : List Part) (runs : List SlotRun) (files : List Source) (items : List Said) (p : LivePage) (l : Lives parts [] runs files items p) (bytes : List ℕ)
    → Reports p.findings p.findings.names.items (pieces parts) (map end_of l.live.fed) (map end_of l.live.out) bytes → IsReport parts [] runs files items (found_refused p.findings) bytes
reported_as parts runs files items p l bytes r =
    let played = live_played parts [] runs files items p l refl in
    let o = outcome_law l.spec l.swaps items runs files p.findings l.found p.host played in
    let out : map end_of l.live.out ≡ map end_of (ended_in l.spec l.swaps items) = ap (map end_of) (same_lives l.spec l.channels l.live.lives).ended_are in
    record {
      ends = map end_of l.live.fed;
      lines = lines_of (lasts_told p.findings) (map end_of l.live.fed) ++ lines_of (ended_told p.findings) (map end_of (ended_in l.spec l.swaps items));
      outcome = subst (λ cs. Outcome cs runs files items (found_refused p.findings) (map end_of l.live.fed) (lines_of (lasts_told p.findings) (map end_of l.live.fed) ++ lines_of (ended_told p.findings) (map end_of (ended_in l.spec l.swaps items)))) l.channels o;
      text = r.text;
      printed = subst (λ ns. Prints (page_of (pieces parts) (roots ns (map end_of l.live.fed))) [] r.text) l.found.names r.printed;
      whole = r.whole ∙ ap (λ bs. (lines_of (lasts_told p.findings) (map end_of l.live.fed) ++ lines_of (ended_told p.findings) bs) ++ page_line r.text) out;
    }
