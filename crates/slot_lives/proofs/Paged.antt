-- Pages over twins have one report.
use Rattle.std.proofs.Common.{◌≡◌, ℕ, zero, suc, ◌+◌, List, [], ◌∷◌, ◌++◌, map, length, Option, Bool, refl, sym, ap, subst, ◌∙◌}
use Rattle.std.specs.Prelude.{◌↔◌, slice_index_or}
use Rattle.std.specs.List.{flat_map, range_with_len}
use Rattle.std.proofs.lemmas.List.{map-append}
use Rattle.page_output.specs.Printing.{Prints}
use Rattle.trace_reader.specs.Said.{Said}
use Rattle.manifest_reader.specs.Page.{Part}
use Rattle.slot_check.specs.Sources.{Source}
use Rattle.widget_meaning.specs.OwnState.{OwnState}
use Rattle.life_laws.specs.Fed.{Fed, RoundsTo}
use Rattle.page_plan.specs.Pages.{roots, page_of}
use Rattle.page_check.specs.Runs.{SlotRun, pieces, runs_over, with_file}
use Rattle.slot_lives.specs.Lives.{Life, lives, ended_at, ended_lives}
use Rattle.slot_lives.specs.Ends.{run_name, life_name, end_of}
use Rattle.slot_lives.specs.Outcome.{all_lives, last_lives, ComeTo, IsReport}
use Rattle.slot_lives.proofs.Alike.{no_life, one_life, lives_alike, last_alike, ended_alike}
use Rattle.slot_lives.specs.Tidied.{AreTidied}
use Rattle.slot_lives.proofs.Twins.{AllTwins, all_back, twins}
use Rattle.slot_lives.proofs.Lived.{bare_end, bare_feed, end_bare, same_roots, same_refused, rounds_alike, AreTwins, Twins, begin_alike, names_alike, lines_alike}
use Rattle.slot_lives.proofs.Lived as lived

-- runs, in order
data AllRuns : List SlotRun → List SlotRun → Type 0 where
  no_run : AllRuns [] []
  one_run : {r q : SlotRun} {rs qs : List SlotRun} → AreTwins r q → AllRuns rs qs → AllRuns (r ∷ rs) (q ∷ qs)

runs_twins : (libs others : List Source) (ns : List (List ℕ × ℕ)) (files : List Source) → AllTwins libs others → AllRuns (runs_over libs ns files) (runs_over others ns files)
runs_twins libs others [] files ts = no_run
runs_twins libs others (n ∷ ns) [] ts = no_run
runs_twins libs others (n ∷ ns) (f ∷ fs) ts = one_run (record { libs = ts; is = refl }) (runs_twins libs others ns fs ts)

names_twins : (rs qs : List SlotRun) → AllRuns rs qs → map run_name rs ≡ map run_name qs
names_twins rs qs no_run = refl
names_twins rs qs (one_run {r = r} {q = q} {rs = rs1} {qs = qs1} t ts) = λ i. run_name (sym t.is i) ∷ names_twins rs1 qs1 ts i

-- with another file they are twins too
file_twins : (r q : SlotRun) (file : Source) → AreTwins r q → AreTwins (with_file r file) (with_file q file)
file_twins r q file t = record { libs = t.libs; is = ap (λ x. with_file x file) t.is }

brought : (r q : SlotRun) (files : List Source) (k : ℕ) → AreTwins r q → AreTwins (slice_index_or (map (with_file r) files) k r) (slice_index_or (map (with_file q) files) k q)
brought r q [] k t = t
brought r q (f ∷ fs) zero t = file_twins r q f t
brought r q (f ∷ fs) (suc k) t = brought r q fs k t

both : (ls ms ks ns : List (Life SlotRun)) → Twins ls ms → Twins ks ns → Twins (ls ++ ks) (ms ++ ns)
both ls ms ks ns no_life more = more
both ls ms ks ns (one_life {ls = ls1} {ms = ms1} here items until rest) more = one_life here items until (both ls1 ms1 ks ns rest more)

module _ (files : List Source) (items : List Said) where
  all_twins : (r q : SlotRun) (w : ℕ) → AreTwins r q → Twins (lives r (map (with_file r) files) items w) (lives q (map (with_file q) files) items w)
  all_twins r q w t = lives_alike AreTwins r (map (with_file r) files) q (map (with_file q) files) items t (λ k lt. brought r q files k t) w

  lasts_twins : (w : ℕ) (rs qs : List SlotRun) → AllRuns rs qs → Twins (last_lives files items w rs) (last_lives files items w qs)
  lasts_twins w rs qs no_run = no_life
  lasts_twins w rs qs (one_run {r = r} {q = q} {rs = rs1} {qs = qs1} t ts) =
      both _ _ _ _ (last_alike AreTwins r q _ _ t (all_twins r q w t)) (lasts_twins (w + 1) rs1 qs1 ts)

  flat_twins : (w : ℕ) (rs qs : List SlotRun) → AllRuns rs qs → Twins (flat_map (λ (ls : List (Life SlotRun)). ls) (all_lives files items w rs)) (flat_map (λ (ls : List (Life SlotRun)). ls) (all_lives files items w qs))
  flat_twins w rs qs no_run = no_life
  flat_twins w rs qs (one_run {r = r} {q = q} {rs = rs1} {qs = qs1} t ts) = both _ _ _ _ (all_twins r q w t) (flat_twins (w + 1) rs1 qs1 ts)

  at_each : (ns : List ℕ) (ls ms : List (Life SlotRun)) → Twins ls ms → Twins (flat_map (λ n. ended_at n ls) ns) (flat_map (λ n. ended_at n ms) ns)
  at_each [] ls ms t = no_life
  at_each (n ∷ ns) ls ms t = both _ _ _ _ (ended_alike AreTwins n ls ms t) (at_each ns ls ms t)

  ended_twins : (rs qs : List SlotRun) → AllRuns rs qs → Twins (ended_lives (all_lives files items 0 rs) (length items)) (ended_lives (all_lives files items 0 qs) (length items))
  ended_twins rs qs ts = at_each (range_with_len 1 (length items)) _ _ (flat_twins 0 rs qs ts)

-- what the last lives come to
record Comes (channels : List (ℕ × ℕ)) (ms : List (Life SlotRun)) (es : List (Option OwnState)) : Type 0 where
  ends : List (Option OwnState)
  come : ComeTo channels ms ends
  same : map bare_end es ≡ map bare_end ends

ends_bare : (fs : List (Option Fed)) → map end_of (map bare_feed fs) ≡ map bare_end (map end_of fs)
ends_bare [] = refl
ends_bare (f ∷ fs) = λ i. end_bare f i ∷ ends_bare fs i

comes : (channels : List (ℕ × ℕ)) (ls ms : List (Life SlotRun)) (es : List (Option OwnState)) → Twins ls ms → ComeTo channels ls es → Comes channels ms es
comes channels ls ms es t c =
    let begun = begin_alike ls ms c.begun t c.begin in
    let rounds = rounds_alike channels (map life_name ls) c.begun c.fed begun.fed begun.same c.rounds in
    record {
      ends = map end_of rounds.fed;
      come = record { begun = begun.fed; begin = begun.begin; fed = rounds.fed; rounds = subst (λ (ns : List (List ℕ)). RoundsTo channels ns begun.fed rounds.fed) (names_alike ls ms t) rounds.rounds; ends_are = refl };
      same = ap (map bare_end) c.ends_are ∙ (sym (ends_bare c.fed) ∙ (ap (map end_of) rounds.same ∙ ends_bare rounds.fed));
    }

report_twins : (parts : List Part) (channels : List (ℕ × ℕ)) (rs qs : List SlotRun) (files : List Source) (items : List Said) (refused : Bool) (bytes : List ℕ) → AllRuns rs qs → IsReport parts channels rs files items refused bytes → IsReport parts channels qs files items refused bytes
report_twins parts channels rs qs files items refused bytes ts r =
    let o = r.outcome in
    let lasts = lasts_twins files items 0 rs qs ts in
    let come = comes channels (last_lives files items 0 rs) (last_lives files items 0 qs) r.ends lasts o.lasts in
    let ended = lived.ended_alike (ended_lives (all_lives files items 0 rs) (length items)) (ended_lives (all_lives files items 0 qs) (length items)) o.before o.ended_text (ended_twins files items rs qs ts) o.ended in
    record {
      ends = come.ends;
      lines = r.lines;
      outcome = record {
        lasts = come.come;
        last_text = o.last_text;
        last_lines = lines_alike (last_lives files items 0 rs) (last_lives files items 0 qs) r.ends come.ends o.last_text lasts come.same o.last_lines;
        before = ended.ends;
        ended_text = o.ended_text;
        ended = ended.ended;
        flag = o.flag ∙ same_refused (r.ends ++ o.before) (come.ends ++ ended.ends) (map-append bare_end r.ends o.before ∙ ((λ i. come.same i ++ ended.same i) ∙ sym (map-append bare_end come.ends ended.ends)));
        text = o.text;
      };
      text = r.text;
      printed = subst (λ trees. Prints (page_of (pieces parts) trees) [] r.text) (same_roots (map run_name rs) r.ends come.ends come.same ∙ ap (λ (ns : List (List ℕ)). roots ns come.ends) (names_twins rs qs ts)) r.printed;
      whole = r.whole;
    }

pub one_report : (libs tidied : List Source) (parts : List Part) (channels : List (ℕ × ℕ)) (slots : List (List ℕ × ℕ)) (files swapped : List Source) (items : List Said) (refused : Bool) (bytes : List ℕ) → AreTidied libs tidied
    → IsReport parts channels (runs_over libs slots files) swapped items refused bytes ↔ IsReport parts channels (runs_over tidied slots files) swapped items refused bytes
one_report libs tidied parts channels slots files swapped items refused bytes t =
    let ts = twins libs tidied t in (
      report_twins parts channels (runs_over libs slots files) (runs_over tidied slots files) swapped items refused bytes (runs_twins libs tidied slots files ts),
      report_twins parts channels (runs_over tidied slots files) (runs_over libs slots files) swapped items refused bytes (runs_twins tidied libs slots files (all_back libs tidied ts)),
    )
