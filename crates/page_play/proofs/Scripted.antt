-- The scripts of lives.
use Rattle.std.proofs.Common.{◌≡◌, ℕ, List, [], ◌∷◌, ◌++◌, map, Option, None, Some, refl, sym, ap, subst, ◌∙◌}
use Rattle.std.specs.Prelude.{slice_get, option_map}
use Rattle.std.specs.Option.{option_map_or}
use Rattle.js_tree.specs.declared.tree.Tree.{Tree}
use Rattle.js_tree.specs.Plain.{Stmts, NoStmts}
use Rattle.js_tree.specs.Trees.{program_of}
use Rattle.adsafe_rules.specs.declared.accepted.Accepted.{Accepted}
use Rattle.adsafe_rules.specs.Accepts.{tree_of}
use Rattle.widget_meaning.specs.Alone.{Content}
use Rattle.life_laws.specs.Fed.{Fed}
use Rattle.page_plan.specs.declared.SlotContent.{SlotContent}
use Rattle.page_plan.specs.declared.SlotContent.TheVariants as slot
use Rattle.page_plan.specs.Contents.{content_of, program_at}
use Rattle.slot_lives.specs.Lives.{Life}
use Rattle.widget_host.specs.declared.host.Host.{Host}
use Rattle.widget_host.specs.Housed.{HasScripts, scripts}
use Rattle.page_play.specs.Played.{fed_of, AreScriptsOf, HasScriptsOf, HaveScriptsOf}

none_some : {A : Type 0} {a : A} → None ≡ Some a → ⊥
none_some e = cc

same_content : (c d : Content) → Some c ≡ Some d → c ≡ d
same_content c d e = cc

-- the program of a tree, if it is there
abbrev program_if : Option Tree → Stmts
program_if o = option_map_or program_of o NoStmts

programs_if : (ts : List Tree) → map program_if (map Some ts) ≡ map program_of ts
programs_if [] = refl
programs_if (t ∷ ts) = ap (λ ps. program_of t ∷ ps) (programs_if ts)

all_programs : (libs : List Accepted) (places : List ℕ) (script : Accepted) → map program_if (map (slice_get (map tree_of libs)) places ++ Some (tree_of script) ∷ []) ≡ map (program_at libs) places ++ program_of (tree_of script) ∷ []
all_programs libs [] script = refl
all_programs libs (place ∷ places) script = ap (λ ps. program_at libs place ∷ ps) (all_programs libs places script)

programs_of : (libs : List Accepted) (content : SlotContent) (ts : List Tree) (c : Content) → HasScripts libs content ts → content_of libs content ≡ Some c → AreScriptsOf c ts
programs_of libs (slot.Runs body places script) ts c has is =
    sym (programs_if ts) ∙ ap (map program_if) has ∙ all_programs libs places.items script ∙ ap (λ (d : Content). d.libraries ++ d.script ∷ []) (same_content _ c is)
programs_of libs slot.Refused ts c has is = absurd (none_some is)

-- a life of this content has the scripts of its widget
pub scripts_new : (libs : List Accepted) (fuel : ℕ) (l : Life SlotContent) (h : Host) (v : ℕ) → HasScripts libs l.runs (scripts h v) → HasScriptsOf h v (fed_of libs fuel l)
scripts_new libs fuel l h v has = by (content_of libs l.runs) refl where
  by : (o : Option Content) → content_of libs l.runs ≡ o → HasScriptsOf h v (option_map (λ (c : Content). record { content = c; grant = fuel; items = l.items; told = 0 }) o)
  by None e = tt
  by (Some c) e = programs_of libs l.runs (scripts h v) c has e

-- it has them with whatever more it was given
pub scripts_same : (libs : List Accepted) (fuel : ℕ) (l m : Life SlotContent) (g h : Host) (v : ℕ) → l.runs ≡ m.runs → scripts h v ≡ scripts g v → HasScriptsOf g v (fed_of libs fuel l) → HasScriptsOf h v (fed_of libs fuel m)
scripts_same libs fuel l m g h v same stay has =
    subst (λ (r : SlotContent). HasScriptsOf h v (option_map (λ (c : Content). record { content = c; grant = fuel; items = m.items; told = 0 }) (content_of libs r))) same (by (content_of libs l.runs) has)
  where
    by : (o : Option Content) → HasScriptsOf g v (option_map (λ (c : Content). record { content = c; grant = fuel; items = l.items; told = 0 }) o) → HasScriptsOf h v (option_map (λ (c : Content). record { content = c; grant = fuel; items = m.items; told = 0 }) o)
    by None is = tt
    by (Some c) is = ap (map program_of) stay ∙ is

pub scripts_stay : (g h : Host) (v : ℕ) (f : Option Fed) → scripts h v ≡ scripts g v → HasScriptsOf g v f → HasScriptsOf h v f
scripts_stay g h v None stay has = tt
scripts_stay g h v (Some f) stay has = ap (map program_of) stay ∙ has

pub have_stay : (g h : Host) (vs : List ℕ) (fs : List (Option Fed)) → ((v : ℕ) → scripts h v ≡ scripts g v) → HaveScriptsOf g vs fs → HaveScriptsOf h vs fs
have_stay g h [] [] stay have = tt
have_stay g h [] (f ∷ fs) stay have = absurd have
have_stay g h (v ∷ vs) [] stay have = absurd have
have_stay g h (v ∷ vs) (f ∷ fs) stay have = (scripts_stay g h v f (stay v) have.0, have_stay g h vs fs stay have.1)

pub have_push : (h : Host) (vs : List ℕ) (fs : List (Option Fed)) (v : ℕ) (f : Option Fed) → HaveScriptsOf h vs fs → HasScriptsOf h v f → HaveScriptsOf h (vs ++ v ∷ []) (fs ++ f ∷ [])
have_push h [] [] v f have has = (has, tt)
have_push h [] (g ∷ fs) v f have has = absurd have
have_push h (u ∷ vs) [] v f have has = absurd have
have_push h (u ∷ vs) (g ∷ fs) v f have has = (have.0, have_push h vs fs v f have.1 has)
