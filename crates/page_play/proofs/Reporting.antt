-- The report and the certificate of a page that was played.
use Rattle.std.proofs.Common.{◌≡◌, ℕ, List, [], ◌∷◌, ◌++◌, map, Option, Result, Ok, Err, IfOk, sym, ap, subst, ◌∙◌}
use Rattle.std.specs.List.{zip}
use Rattle.std.specs.declared.alloc.Global.{Global}
use Rattle.std.specs.declared.vec.Vec.{Vec}
use Rattle.page_output.specs.Printing.{Prints}
use Rattle.trace_reader.specs.Said.{Said}
use Rattle.slot_check.specs.Sources.{Source}
use Rattle.life_laws.specs.Chains.{last_life}
use Rattle.widget_meaning.specs.OwnState.{OwnState}
use Rattle.reach_cert.specs.Certs.{Slot, cert_text}
use Rattle.manifest_reader.specs.Page.{Part}
use Rattle.page_plan.specs.declared.PageSpec.{PageSpec}
use Rattle.page_plan.specs.declared.SlotContent.{SlotContent}
use Rattle.page_plan.specs.Pages.{PagePiece, page_of, piece_of, roots}
use Rattle.page_check.specs.Runs.{SlotRun, pieces}
use Rattle.widget_host.specs.States.{cert_of_states}
use Rattle.slot_lives.specs.Ends.{run_name, end_of}
use Rattle.slot_lives.specs.Outcome.{IsReport}
use Rattle.widget_host.specs.declared.host.Host.{Host}
use Rattle.widget_host.specs.Housed.{AreShown, IsLaid, chains, names}
use Rattle.page_play.specs.declared.findings.Findings.{Findings}
use Rattle.page_play.specs.Findings.{AreFindings, found_refused, lasts_told, ended_told, lines_of}
use Rattle.page_play.specs.Played.{name_of, ended_in, IsPlayed}
use Rattle.page_play.specs.Told.{AreTold, IsAudit, IsFound, Reports}
use Rattle.page_play.proofs.LawsHold.{told_law, outcome_law}
use Rattle.page_play.proofs.Outcomes.{judged_names}

-- what a host that played a page is told of
pub found_told : (f : Findings) (h : Host) → IsFound f h → (owns before : List (Option OwnState)) × AreTold f h owns before
found_told f h found =
    (map end_of found.played.fed, map end_of (ended_in found.spec found.swaps found.items), told_law found.spec found.swaps found.items found.runs found.files f found.findings h found.played)

-- what is told of any host with these lives
abbrev pub Tells : Findings → Host → List ℕ → Type 0
Tells f h bytes = (owns before : List (Option OwnState)) (ns : List (List ℕ)) (ps : List PagePiece) → AreTold f h owns before → IsLaid h ns ps → Reports f ns ps owns before bytes

-- the report of a page
abbrev pub IsReported : Findings → Host → List ℕ → Type 0
IsReported f h bytes = (spec : PageSpec) (swaps : List SlotContent) (items : List Said) (runs : List SlotRun) (files : List Source) (parts : List Part)
    → IsPlayed spec swaps items h → AreFindings spec swaps items runs files f → map piece_of spec.pieces.items ≡ pieces parts
    → IsReport parts spec.channels.items runs files items (found_refused f) bytes

reported : (f : Findings) (h : Host) (bytes : List ℕ) → Tells f h bytes → IsReported f h bytes
reported f h bytes tells spec swaps items runs files parts p a laid =
    let owns = map end_of p.fed in
    let before = map end_of (ended_in spec swaps items) in
    let r = tells owns before (map name_of spec.slots.items) (map piece_of spec.pieces.items) (told_law spec swaps items runs files f a h p) p.laid in
    record {
      ends = owns;
      lines = lines_of (lasts_told f) owns ++ lines_of (ended_told f) before;
      outcome = outcome_law spec swaps items runs files f a h p;
      text = r.text;
      printed =
          subst (λ ps. Prints (page_of ps (roots (map run_name runs) owns)) [] r.text) laid
          (subst (λ ns. Prints (page_of (map piece_of spec.pieces.items) (roots ns owns)) [] r.text) (judged_names spec.libs.items runs spec.slots.items f.refusals.items a.slots) r.printed);
      whole = r.whole;
    }

pub all_reported : {E : Type 0} (f : Findings) (h : Host) (r : Result (Vec ℕ Global) E) → IfOk r (λ bytes. Tells f h bytes.items) → IfOk r (λ bytes. IsReported f h bytes.items)
all_reported f h (Ok bytes) tells = reported f h bytes.items tells
all_reported f h (Err e) tells = tt

-- the certificate
pub audited : (h : Host) (cert : List Slot) (bytes : List ℕ) → ((ends : List (Option OwnState)) → AreShown h (map (λ c. last_life c ∷ []) (chains h)) ends → cert ≡ cert_of_states (zip (names h) ends)) → bytes ≡ cert_text cert
    → (spec : PageSpec) (swaps : List SlotContent) (items : List Said) (runs : List SlotRun) (files : List Source) (f : Findings) → IsPlayed spec swaps items h → AreFindings spec swaps items runs files f
    → IsAudit spec.channels.items runs files items (found_refused f) bytes
audited h cert bytes states written spec swaps items runs files f p a =
    let owns = map end_of p.fed in
    record {
      ends = owns;
      lines = lines_of (lasts_told f) owns ++ lines_of (ended_told f) (map end_of (ended_in spec swaps items));
      outcome = outcome_law spec swaps items runs files f a h p;
      whole = written ∙ ap cert_text (states owns (subst (λ cs. AreShown h cs owns) (sym p.alone) p.shown)
          ∙ ap (λ ns. cert_of_states (zip ns owns)) (p.names ∙ judged_names spec.libs.items runs spec.slots.items f.refusals.items a.slots));
    }
