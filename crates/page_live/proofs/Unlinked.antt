-- Pages without channels.
use Rattle.std.proofs.Common.{◌≡◌, ℕ, zero, suc, List, [], ◌∷◌, map, Option, Some, ap, subst, ◌∙◌}
use Rattle.std.specs.Prelude.{slice_get}
use Rattle.trace_reader.specs.Said.{Said}
use Rattle.life_laws.specs.Fed.{Fed}
use Rattle.life_laws.specs.Chains.{last_at, last_life}
use Rattle.page_plan.specs.declared.PageSpec.{PageSpec}
use Rattle.page_plan.specs.declared.SlotContent.{SlotContent}
use Rattle.slot_lives.specs.Ends.{end_of}
use Rattle.page_play.specs.Host.{Host}
use Rattle.page_play.specs.Given.{AreRetired}
use Rattle.page_play.specs.Housed.{chains, ends}
use Rattle.page_play.specs.Played.{HasScriptsOf, HaveScriptsOf, IsPlayed}
use Rattle.page_live.specs.Living.{IsLive, Rounds}
use Rattle.page_live.proofs.Handed.{same_lives, still_rounds}

-- a last life by the number of its slot
pub have_at : (h : Host) (cs : List (List ℕ)) (fs : List (Option Fed)) (w : ℕ) (f : Option Fed) → HaveScriptsOf h (map last_life cs) fs → slice_get fs w ≡ Some f → HasScriptsOf h (last_at w cs) f
have_at h [] [] w f have at = absurd (let e = at in cc)
have_at h [] (g ∷ fs) w f have at = absurd have
have_at h (c ∷ cs) [] w f have at = absurd have
have_at h (c ∷ cs) (g ∷ fs) zero f have at = let same : g ≡ f = cc in subst (HasScriptsOf h (last_life c)) same have.0
have_at h (c ∷ cs) (g ∷ fs) (suc w) f have at = have_at h cs fs w f have.1 at

-- a page that took its items one after the other has played them
abbrev pub unlinked : (spec : PageSpec) (swaps : List SlotContent) (items : List Said) (h : Host) → spec.channels.items ≡ [] → IsLive spec swaps items h → IsPlayed spec swaps items h
unlinked spec swaps items h none l =
    let same = same_lives spec none l.lives in
    record {
      housed = l.housed;
      unmarked = l.unmarked;
      slots = l.slots;
      laid = l.laid;
      channels = l.channels;
      names = l.names;
      given = l.given;
      swapped = l.swapped;
      quiet = l.quiet;
      alone = l.alone;
      fed = l.fed;
      rounds = subst (λ (fs : List (Option Fed)). Rounds spec fs l.fed) same.lasts (still_rounds spec none l.fed);
      shown = l.shown;
      ended = subst (λ (fs : List (Option Fed)). AreRetired h (ends h) (map end_of fs)) same.ended_are l.ended;
      none_else = l.none_else;
      scripts = λ w f at. have_at h (chains h) l.fed w f l.scripts (ap (λ (fs : List (Option Fed)). slice_get fs w) same.lasts ∙ at);
      ended_scripts = subst (λ (fs : List (Option Fed)). HaveScriptsOf h (ends h) fs) same.ended_are l.ended_scripts;
      firsts = l.firsts;
    }
