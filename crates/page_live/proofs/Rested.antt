-- A page whose lives have done with what was given.
use Rattle.std.proofs.Common.{◌≡◌, ℕ, ◌+◌, ◌<◌, List, [], ◌∷◌, map, length, Bool, true, false, Option, Some, None, refl, sym, ap, subst, ◌∙◌}
use Rattle.std.specs.Prelude.{option_map}
use Rattle.std.proofs.lemmas.List.{length-map}
use Rattle.trace_reader.specs.Said.{Said}
use Rattle.post_rounds.specs.declared.posts.Post.{Post}
use Rattle.post_rounds.specs.News.{news}
use Rattle.life_laws.specs.Journal.{ready_from}
use Rattle.life_laws.specs.Slots.{Each, has}
use Rattle.life_laws.specs.Chains.{last_life, listed}
use Rattle.life_laws.specs.Settled.{slot_flags}
use Rattle.life_laws.specs.Fed.{Fed, RoundsTo, ended, again, fed_on, fresh, round_from, state}
use Rattle.page_plan.specs.declared.PageSpec.{PageSpec}
use Rattle.page_plan.specs.declared.SlotContent.{SlotContent}
use Rattle.page_plan.specs.Pages.{piece_of}
use Rattle.page_play.specs.Host.{Host}
use Rattle.page_play.specs.Given.{AreRetired}
use Rattle.page_play.specs.Housed.{AreShown, IsHoused, KeepsHost, accepts, chains, channels, ends, given, marked, names, seens}
use Rattle.page_play.specs.Rounds.{AreFed, is_last}
use Rattle.page_play.specs.Played.{name_of, HasScriptsOf, HaveScriptsOf}
use Rattle.page_play.proofs.Chained.{singles_lasts, alone_listed, alone_twice}
use Rattle.page_play.proofs.Scripted.{have_stay}
use Rattle.page_live.specs.Living.{IsLive, LivesOn, Rounds}
use Rattle.page_live.proofs.Stirred.{IsStirred, same_ends}

-- ## Scripts

module _ (h : Host) (channels : List (ℕ × ℕ)) (names : List (List ℕ)) where
  has_on : (v : ℕ) (values : List (List ℕ)) (f : Option Fed) → HasScriptsOf h v f → HasScriptsOf h v (option_map (fed_on values) f)
  has_on v values None has = tt
  has_on v values (Some f) has = has

  have_round : (posts : List (List Post)) (w : ℕ) (vs : List ℕ) (fs : List (Option Fed)) → HaveScriptsOf h vs fs → HaveScriptsOf h vs (round_from channels names posts w fs)
  have_round posts w [] [] have = tt
  have_round posts w [] (f ∷ fs) have = absurd have
  have_round posts w (v ∷ vs) [] have = absurd have
  have_round posts w (v ∷ vs) (f ∷ fs) have = (has_on v (news channels names posts w) f have.0, have_round posts (w + 1) vs fs have.1)

  have_rounds : {fs gs : List (Option Fed)} (vs : List ℕ) → RoundsTo channels names fs gs → HaveScriptsOf h vs fs → HaveScriptsOf h vs gs
  have_rounds vs (ended quiet) have = have
  have_rounds {fs} vs (again loud rest) have = have_rounds vs rest (have_round (fresh fs) 0 vs fs have)

lasts_same : (cs : List (List ℕ)) → map last_life (map (λ c. last_life c ∷ []) cs) ≡ map last_life cs
lasts_same [] = refl
lasts_same (c ∷ cs) = ap (λ vs. last_life c ∷ vs) (lasts_same cs)

-- ## Rest

module _ (spec : PageSpec) (swaps : List SlotContent) (items : List Said) (old new : Host) (fs es out : List (Option Fed)) (st : IsStirred spec swaps items old fs es out)
    (lasts : chains new ≡ map (λ c. last_life c ∷ []) (chains old)) (stays : KeepsHost old new) where
  nobody : (v : ℕ) → listed v (chains new) ≡ false → has v (ends new) ≡ false → accepts new v ≡ false
  nobody v out_of never = stays.accepts v ∙ by (listed v (chains old)) refl where
    not_here : has v (ends old) ≡ false
    not_here = ap (has v) (sym stays.ends) ∙ never

    still : (b : Bool) → is_last v (chains old) ≡ b → listed v (chains old) ≡ true → ⊥
    still true e on = let f : true ≡ false = sym (ap (listed v) lasts ∙ alone_listed v (chains old) e) ∙ out_of in cc
    still false e on = let f : true ≡ false = sym (st.leave v on e) ∙ not_here in cc

    by : (b : Bool) → listed v (chains old) ≡ b → accepts old v ≡ false
    by true e = absurd (still (is_last v (chains old)) refl e)
    by false e = st.none_else v e not_here

  pub rested : (gs : List (Option Fed)) → RoundsTo (channels old) (names old) fs gs → (Rounds spec fs gs → LivesOn spec items swaps gs out) → AreFed new gs → AreShown new (chains new) (map (option_map state) gs)
      → AreRetired new (ends new) (map (option_map state) es) → given new ≡ given old → ready_from 0 (slot_flags (seens new) (chains new)) ≡ [] → IsHoused new → marked new ≡ false → IsLive spec swaps items new
  rested gs rounds lives taken shown retired counted quiet housed unmarked =
      let known : Rounds spec fs gs = subst (λ ns. RoundsTo spec.channels.items ns fs gs) st.names (subst (λ cs. RoundsTo cs (names old) fs gs) st.channels rounds) in
      record {
        housed = housed;
        unmarked = unmarked;
        slots = ap length lasts ∙ length-map (chains old) (λ c. last_life c ∷ []) ∙ st.slots;
        laid = stays.laid (map name_of spec.slots.items) (map piece_of spec.pieces.items) st.laid;
        channels = stays.plan.channels ∙ st.channels;
        names = stays.plan.names ∙ st.names;
        fuels = stays.plan.fuels ∙ st.fuels;
        libraries = stays.plan.libraries ∙ st.libraries;
        given = counted ∙ st.given;
        swapped = ap length stays.ends ∙ st.swapped;
        quiet = quiet;
        alone = ap (map (λ c. last_life c ∷ [])) lasts ∙ alone_twice (chains old) ∙ sym lasts;
        fed = gs;
        out = out;
        lives = lives known;
        taken = taken;
        shown = shown;
        ended = subst (AreRetired new (ends new)) (same_ends es out st.same) retired;
        none_else = nobody;
        scripts = subst (λ vs. HaveScriptsOf new vs gs) (sym (ap (map last_life) lasts ∙ lasts_same (chains old)))
            (have_rounds new (channels old) (names old) (map last_life (chains old)) rounds (have_stay old new (map last_life (chains old)) fs stays.scripts st.scripts));
        ended_scripts = subst (λ vs. HaveScriptsOf new vs out) (sym stays.ends) (have_stay old new (ends old) out stays.scripts st.ended_scripts);
        born = subst (λ vs. Each (λ v. v < 16 + length vs) vs) (sym stays.ends) st.born;
        firsts = λ none. lasts ∙ ap (map (λ c. last_life c ∷ [])) (st.firsts none) ∙ singles_lasts 0 (length spec.slots.items);
      }
