-- The laws of pages that were played.
use Rattle.std.proofs.Common.{◌≡◌, ◌<◌, ◌+◌, ℕ, List, [], ◌∷◌, ◌++◌, map, length, All, refl, sym, ap, subst, ◌∙◌, arith}
use Rattle.std.proofs.lemmas.List.{length-map}
use Rattle.trace_reader.specs.Said.{Said}
use Rattle.slot_check.specs.Sources.{Source}
use Rattle.life_laws.specs.Fed.{RoundsTo}
use Rattle.page_plan.specs.declared.PageSpec.{PageSpec}
use Rattle.page_plan.specs.declared.SlotContent.{SlotContent}
use Rattle.page_check.specs.Runs.{SlotRun}
use Rattle.slot_lives.specs.Ends.{run_name, life_name, end_of}
use Rattle.slot_lives.specs.Outcome.{last_lives, Outcome}
use Rattle.widget_host.specs.declared.host.Host.{Host}
use Rattle.page_play.specs.declared.findings.Findings.{Findings}
use Rattle.page_play.specs.Swaps.{swap_slots}
use Rattle.page_play.specs.Findings.{AreEven, AreFindings, Told, found_refused, lasts_from, lasts_told, ended_told, lines_of}
use Rattle.page_play.specs.Played.{name_of, begun_in, ended_in, IsPlayed}
use Rattle.page_play.specs.Told.{AreBegun, AreTold}
use Rattle.page_play.proofs.Matching.{all_begin, all_names, all_lines, all_ended, all_matched, same_ends, rounds_kind, same_flag}
use Rattle.page_play.proofs.Outcomes.{judged_even, judged_names, lasts_match, ended_match}
use Rattle.page_play.proofs.Living.{swaps_even}
use Rattle.page_play.proofs.Swapping.{positions_length, slots_length}

told_names : (f : Findings) (w : ℕ) (ns : List (List ℕ)) → map (λ (t : Told). t.name) (lasts_from f w ns) ≡ ns
told_names f w [] = refl
told_names f w (n ∷ ns) = ap (λ xs. n ∷ xs) (told_names f (w + 1) ns)

module _ (spec : PageSpec) (swaps : List SlotContent) (items : List Said) (runs : List SlotRun) (files : List Source) (f : Findings) (a : AreFindings spec swaps items runs files f) where
  many_names : length f.names.items ≡ length runs
  many_names = ap length a.names ∙ length-map runs run_name

  pub begun_law : AreBegun spec swaps items runs files
  begun_law = record { lasts = all_begin (lasts_match spec swaps items runs files f a); ended = all_begin (ended_match spec swaps items runs files f a) }

  pub even_law : AreEven f
  even_law = record {
    refusals = (judged_even spec.libs.items runs spec.slots.items f.refusals.items a.slots).1 ∙ sym many_names;
    brought = swaps_even spec.libs.items runs (swap_slots items) files swaps f.brought.items a.there a.many a.brought ∙ ap length (sym a.swapped);
    positions = ap length a.positions ∙ positions_length 0 items ∙ ap length (sym a.swapped);
    there = subst (All (λ to. to < length f.names.items)) (sym a.swapped) (subst (λ n. All (λ to. to < n) (swap_slots items)) (sym many_names) a.there);
    few = omega (arith, many_names, a.few);
    few_swaps = omega (arith, ap length a.swapped, a.few_swaps);
  }

  module _ (h : Host) (p : IsPlayed spec swaps items h) where
    pub told_law : AreTold f h (map end_of p.fed) (map end_of (ended_in spec swaps items))
    told_law = record {
      even = even_law;
      housed = p.housed;
      slots = p.slots ∙ (judged_even spec.libs.items runs spec.slots.items f.refusals.items a.slots).0 ∙ sym many_names;
      swaps = p.swapped ∙ sym (slots_length items) ∙ ap length (sym a.swapped);
      shown = p.shown;
      ended = p.ended;
      lasts = all_matched (map end_of p.fed) (lasts_match spec swaps items runs files f a) (rounds_kind spec.channels.items (map name_of spec.slots.items) p.rounds);
      others = all_matched (map end_of (ended_in spec swaps items)) (ended_match spec swaps items runs files f a) (same_ends (ended_in spec swaps items));
    }

    same_names : map name_of spec.slots.items ≡ map life_name (last_lives files items 0 runs)
    same_names = judged_names spec.libs.items runs spec.slots.items f.refusals.items a.slots ∙ sym a.names ∙ sym (all_names (lasts_match spec swaps items runs files f a) ∙ told_names f 0 f.names.items)

    pub outcome_law : Outcome spec.channels.items runs files items (found_refused f) (map end_of p.fed) (lines_of (lasts_told f) (map end_of p.fed) ++ lines_of (ended_told f) (map end_of (ended_in spec swaps items)))
    outcome_law = record {
      lasts = record {
        begun = begun_in spec swaps items;
        begin = begun_law.lasts;
        fed = p.fed;
        rounds = subst (λ ns. RoundsTo spec.channels.items ns (begun_in spec swaps items) p.fed) same_names p.rounds;
        ends_are = refl;
      };
      last_text = lines_of (lasts_told f) (map end_of p.fed);
      last_lines = all_lines (map end_of p.fed) (lasts_match spec swaps items runs files f a) (rounds_kind spec.channels.items (map name_of spec.slots.items) p.rounds);
      before = map end_of (ended_in spec swaps items);
      ended_text = lines_of (ended_told f) (map end_of (ended_in spec swaps items));
      ended = all_ended (ended_match spec swaps items runs files f a);
      flag = same_flag (lasts_told f) (ended_told f) (map end_of p.fed) (map end_of (ended_in spec swaps items)) told_law.lasts told_law.others;
      text = refl;
    }
