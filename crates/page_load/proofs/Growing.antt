-- Lists that grow at their end: queues, trees of scripts, slots with their scripts, lives.
use Rattle.std.proofs.Common.{◌≡◌, ℕ, zero, suc, ◌+◌, ◌<◌, ◌≤◌, Bool, true, false, eqb, eqb-true, eq-eqb, List, [], ◌∷◌, ◌++◌, refl, sym, ap, ◌∙◌, subst, length, map, take, drop, get_or, Option, None, Some, arith, ◌⊎◌, inl, inr, ⊎_elim}
use Rattle.std.specs.Prelude.{Err, IfOk, IfSome, Ok, MatchOption, OnOk, Result, option_to_list, slice_get, slice_index_or, ◌^◌}
use Rattle.std.specs.List.{AllByRecursion}
use Rattle.std.specs.Option.{option_map, option_map_or}
use Rattle.std.proofs.lemmas.Option.{get_or_from_slice_get, slice_get-map, slice_get_past, slice_get_read}
use Rattle.std.specs.declared.alloc.Global.{Global}
use Rattle.std.specs.declared.vec.Vec.{Vec}
use Rattle.std.proofs.Math.Seq.{take-append_seam}
use Rattle.std.proofs.lemmas.List.{append-nil, append_assoc, flat_map_more, length-append, map-append, length-map, take_all, take_more}
use Rattle.plain_tree.specs.declared.plain.Plain.{Plain}
use Rattle.js_tree.specs.Forest.{Forest, IsFun, fun_at, no_trees}
use Rattle.js_tree.specs.Trees.{program_of, trees}
use Rattle.js_tree.specs.declared.nodes.FunId.{FunId}
use Rattle.js_tree.specs.Plain.{NoStmts, Stmts}
use Rattle.js_tree.specs.declared.tree.Tree.{Tree}
use Rattle.js_names.specs.declared.code.Code.{Code}
use Rattle.js_names.specs.Code.{code_trees, tree_in, trees_of}
use Rattle.widget_meaning.specs.Alone.{beginning, call_parts}
use Rattle.life_laws.specs.Life as todo
use Rattle.life_laws.specs.Life.{waiting}
use Rattle.page_nodes.specs.Entries.{body}
use Rattle.page_tree.specs.declared.page.Page.{Page}
use Rattle.native_image.specs.declared.handed.Shared.{Shared}
use Rattle.slot_picks.specs.Held.{IsScriptOf}
use Rattle.slot_picks.specs.life.Life.{Life}
use Rattle.slot_picks.specs.life.Script.{Script}
use Rattle.slot_picks.specs.life.Work.{Work}
use Rattle.slot_picks.specs.life.Work.TheVariants as work
use Rattle.slot_picks.specs.QueueLives.{function_of, work_of}
use Rattle.slot_picks.specs.declared.lives.Place.{Place}
use Rattle.slot_picks.specs.declared.slots.Slot.{Slot}
use Rattle.slot_picks.specs.Lives.{chains_of}
use Rattle.slot_picks.specs.Fine.{FineWork, most_fuel}
use Rattle.page_plan.specs.declared.SlotSpec.{SlotSpec}
use Rattle.adsafe_rules.specs.declared.accepted.Accepted.{Accepted}
use Rattle.adsafe_rules.specs.Accepts.{tree_of}
use Rattle.page_load.specs.Homes.{fuels_of, names_of}
use Rattle.page_load.specs.Loads.{HaveFewFuel, singles}
use Rattle.page_load.specs.declared.codes.Start.{Start}
use Rattle.page_load.specs.declared.codes.Scripts.{Scripts}
use Rattle.page_load.specs.Laying.{IsBare}
use Rattle.page_load.specs.Lives.{ArePlaces, HasTree, HaveRoots, HaveTrees, IsBegun, IsIn, IsNewLife, IsNobodys, IsPlaceOf, IsPlaceWith, IsReady, IsUnborn, KeepsOthers, content_at}
use Rattle.page_load.specs.Queues.{IsQueued, go_works, libraries_works, library_works, loads, program_with, programs_of}
use Rattle.page_load.specs.Starts.{AreScripts, AreScriptsAt, AreStarts, IsStart}
use Rattle.page_plan.specs.declared.SlotContent.{SlotContent}
use Rattle.page_plan.specs.declared.SlotContent.TheVariants as slot
use Rattle.page_load.proofs.Lots.{bare_stays}

none_some : {A : Type 0} {a : A} → None ≡ Some a → ⊥
none_some e = cc

some_some : {A : Type 0} (a b : A) → Some a ≡ Some b → a ≡ b
some_some a b e = cc

-- where an element of a longer list stands
front_or_last : {X : Type 0} (xs : List X) (x y : X) (n : ℕ) → slice_get (xs ++ x ∷ []) n ≡ Some y → (slice_get xs n ≡ Some y) ⊎ ((n ≡ length xs) × (x ≡ y))
front_or_last [] x y zero at = inr (refl, some_some x y at)
front_or_last [] x y (suc n) at = absurd (none_some at)
front_or_last (z ∷ xs) x y zero at = inl at
front_or_last (z ∷ xs) x y (suc n) at = ⊎_elim (λ e. inl e) (λ e. inr (ap suc e.0, e.1)) (front_or_last xs x y n at)

-- ## Queues

module _ (fs : List Forest) where
  all_push : (xs : List Work) (x : Work) → AllByRecursion (FineWork fs) xs → FineWork fs x → AllByRecursion (FineWork fs) (xs ++ x ∷ [])
  all_push [] x h f = (f, tt)
  all_push (y ∷ xs) x h f = (h.0, all_push xs x h.1 f)

  pub queued_none : (old : List Work) → IsQueued fs old old []
  queued_none old = record { are = sym (append-nil (map (work_of fs) old)); fine = λ h. h }

  pub queued_then : (a b c : List Work) (ws vs : List todo.Work) → IsQueued fs a b ws → IsQueued fs b c vs → IsQueued fs a c (ws ++ vs)
  queued_then a b c ws vs f g = record {
    are = g.are ∙ ap (λ l. l ++ vs) f.are ∙ append_assoc (map (work_of fs) a) ws vs;
    fine = λ h. g.fine (f.fine h);
  }

  module _ (p : Stmts) (old : List Work) where
    -- the program hands over none
    pub none_library : call_parts p ≡ None → IsQueued fs old old (library_works (call_parts p))
    none_library e = subst (λ h. IsQueued fs old old (library_works h)) (sym e) (queued_none old)

    pub none_go : call_parts p ≡ None → IsQueued fs old old (go_works (call_parts p))
    none_go e = subst (λ h. IsQueued fs old old (go_works h)) (sym e) (queued_none old)

    module _ (s : Script) (is : IsScriptOf fs s.code s.fun × (call_parts p ≡ Some (s.name, function_of fs s))) (new : List Work) where
      -- it hands over this script
      pub push_library : new ≡ old ++ work.Library s ∷ [] → IsQueued fs old new (library_works (call_parts p))
      push_library e = record {
        are = ap (map (work_of fs)) e ∙ map-append (work_of fs) old (work.Library s ∷ []) ∙ ap (λ h. map (work_of fs) old ++ library_works h) (sym is.1);
        fine = λ h. subst (AllByRecursion (FineWork fs)) (sym e) (all_push old (work.Library s) h is.0);
      }

      pub push_go : new ≡ old ++ work.Go s ∷ [] → IsQueued fs old new (go_works (call_parts p))
      push_go e = record {
        are = ap (map (work_of fs)) e ∙ map-append (work_of fs) old (work.Go s ∷ []) ∙ ap (λ h. map (work_of fs) old ++ go_works h) (sym is.1);
        fine = λ h. subst (AllByRecursion (FineWork fs)) (sym e) (all_push old (work.Go s) h is.0);
      }

get_front : {X : Type 0} (xs ys : List X) (n : ℕ) (x : X) → slice_get xs n ≡ Some x → slice_get (xs ++ ys) n ≡ Some x
get_front [] ys n x at = absurd (none_some at)
get_front (y ∷ xs) ys zero x at = at
get_front (y ∷ xs) ys (suc n) x at = get_front xs ys n x at

get_last : {X : Type 0} (xs : List X) (x : X) → slice_get (xs ++ x ∷ []) (length xs) ≡ Some x
get_last [] x = refl
get_last (y ∷ xs) x = get_last xs x

-- an element that is there
there_is : {X : Type 0} (xs : List X) (n : ℕ) → n < length xs → (x : X) × (slice_get xs n ≡ Some x)
there_is [] n lt = absurd (omega (arith, lt))
there_is (x ∷ xs) zero lt = (x, refl)
there_is (x ∷ xs) (suc n) lt = there_is xs n (omega (arith, lt))

module _ (codes : List Code) (i : ℕ) where
  -- one library more
  libraries_more : i < length codes → libraries_works (programs_of (take i codes)) ++ library_works (call_parts (program_with codes i)) ≡ libraries_works (programs_of (take (i + 1) codes))
  libraries_more lt =
      let it = there_is codes i lt in
      let c = it.0 in
      let front : take (i + 1) codes ≡ take i codes ++ c ∷ [] = take_more codes i c lt ∙ ap (λ x. take i codes ++ x ∷ []) (get_or_from_slice_get codes i c c it.1) in
      let program : program_with codes i ≡ program_of (tree_in c) = ap (λ o. option_map_or (λ (d : Code). program_of (tree_in d)) o NoStmts) it.1 in
      ap (λ p. libraries_works (programs_of (take i codes)) ++ library_works (call_parts p)) program
      ∙ flat_map_more (λ p. library_works (call_parts p)) [] (programs_of (take i codes)) (program_of (tree_in c))
      ∙ ap libraries_works (sym (map-append (λ (d : Code). program_of (tree_in d)) (take i codes) (c ∷ [])) ∙ ap programs_of (sym front))

  pub queued_more : (fs : List Forest) (a b c : List Work) → i < length codes → IsQueued fs a b (libraries_works (programs_of (take i codes))) → IsQueued fs b c (library_works (call_parts (program_with codes i))) → IsQueued fs a c (libraries_works (programs_of (take (i + 1) codes)))
  queued_more fs a b c lt f g = subst (IsQueued fs a c) (libraries_more lt) (queued_then fs a b c _ _ f g)

-- all but the last are libraries
module _ (codes libs : List Code) (script : Code) (are : codes ≡ libs ++ script ∷ []) where
  many_libs : length codes ≡ length libs + 1
  many_libs = ap length are ∙ length-append libs (script ∷ [])

  pub all_queued : (fs : List Forest) (a b c : List Work) (n : ℕ) → n + 1 ≡ length codes → IsQueued fs a b (libraries_works (programs_of (take n codes))) → IsQueued fs b c (go_works (call_parts (program_with codes n))) → IsQueued fs a c (libraries_works (programs_of libs) ++ go_works (call_parts (program_of (tree_in script))))
  all_queued fs a b c n last f g =
      let many : n ≡ length libs = omega (arith, last, many_libs) in
      let front : take n codes ≡ libs = (λ j. take (many j) (are j)) ∙ take-append_seam libs (script ∷ []) in
      let back : slice_get codes n ≡ Some script = (λ j. slice_get (are j) (many j)) ∙ get_last libs script in
      let program : program_with codes n ≡ program_of (tree_in script) = ap (λ o. option_map_or (λ (d : Code). program_of (tree_in d)) o NoStmts) back in
      queued_then fs a b c _ _ (subst (λ cs. IsQueued fs a b (libraries_works (programs_of cs))) front f) (subst (λ p. IsQueued fs b c (go_works (call_parts p))) program g)

-- ## Scripts by number

module _ (codes : List Code) (n : ℕ) where
  -- there is none with this number
  pub no_program : length codes ≤ n → call_parts (program_with codes n) ≡ None
  no_program le = ap (λ o. call_parts (option_map_or (λ (c : Code). program_of (tree_in c)) o NoStmts)) (slice_get_past codes n le)

  module _ (c : Code) (t : Tree) (lt : n < length codes) (is : c ≡ get_or codes n c) (same : t ≡ tree_in c) where
    there : slice_get codes n ≡ Some c
    there = slice_get_read codes (length codes) n c refl lt is

    program_is : program_with codes n ≡ program_of t
    program_is = ap (λ o. option_map_or (λ (c : Code). program_of (tree_in c)) o NoStmts) there ∙ ap program_of (sym same)

    trees_are : slice_index_or (trees_of codes) n no_trees ≡ trees t
    trees_are = get_or_from_slice_get (trees_of codes) n (code_trees c) no_trees (slice_get-map code_trees codes n ∙ ap (option_map code_trees) there) ∙ ap trees (sym same)

    -- its text hands over none
    pub none_handed : call_parts (program_of t) ≡ None → call_parts (program_with codes n) ≡ None
    none_handed e = ap call_parts program_is ∙ e

    -- it hands over this function
    pub one_handed : (name : List ℕ) (fun : FunId) → IsFun (trees t) fun × (call_parts (program_of t) ≡ Some (name, fun_at (trees t) fun))
        → IsScriptOf (trees_of codes) n fun × (call_parts (program_with codes n) ≡ Some (name, fun_at (slice_index_or (trees_of codes) n no_trees) fun))
    one_handed name fun h = (
      (omega (arith, lt, length-map codes code_trees), subst (λ f. IsFun f fun) (sym trees_are) h.0),
      ap call_parts program_is ∙ h.1 ∙ ap (λ f. Some (name, fun_at f fun)) (sym trees_are),
    )

-- ## Trees of scripts

pub trees_more : (libs : List Accepted) (old new : List Code) (a : Accepted) (c : Code) → map tree_in old ≡ map tree_of libs → tree_in c ≡ tree_of a → new ≡ old ++ c ∷ [] → map tree_in new ≡ map tree_of (libs ++ a ∷ [])
trees_more libs old new a c are is after = ap (map tree_in) after ∙ map-append tree_in old (c ∷ []) ∙ (λ j. are j ++ is j ∷ []) ∙ sym (map-append tree_of libs (a ∷ []))

-- the library at a place
pub library_found : (libs : List Code) (n : ℕ) (a c : Code) → slice_get libs n ≡ Some a → tree_in c ≡ tree_in a → slice_get (map tree_in libs) n ≡ Some (tree_in c)
library_found libs n a c at same = slice_get-map tree_in libs n ∙ ap (option_map tree_in) at ∙ ap Some (sym same)

-- those at places, one more and all
module _ (ts : List Tree) (places : List ℕ) (i : ℕ) where
  pub libraries_step : (d : ℕ) (old new : List Code) (c : Code) → i < length places → map (λ (a : Code). Some (tree_in a)) old ≡ map (slice_get ts) (take i places) → slice_get ts (get_or places i d) ≡ Some (tree_in c) → new ≡ old ++ c ∷ [] → map (λ (a : Code). Some (tree_in a)) new ≡ map (slice_get ts) (take (i + 1) places)
  libraries_step d old new c lt are is after =
      ap (map (λ (a : Code). Some (tree_in a))) after ∙ map-append (λ (a : Code). Some (tree_in a)) old (c ∷ []) ∙ (λ j. are j ++ sym is j ∷ []) ∙ sym (map-append (slice_get ts) (take i places) (get_or places i d ∷ []))
      ∙ ap (map (slice_get ts)) (sym (take_more places i d lt))

  pub libraries_all : (codes : List Code) → length places ≤ i → map (λ (a : Code). Some (tree_in a)) codes ≡ map (slice_get ts) (take i places) → map (λ (a : Code). Some (tree_in a)) codes ≡ map (slice_get ts) places
  libraries_all codes le are = are ∙ ap (map (slice_get ts)) (take_all i places le)

-- ## Slots with their scripts

pub scripts_are : (ts : List Tree) (content : SlotContent) (tree : Plain) (places : Vec ℕ Global) (script : Accepted) (s : Scripts) → content ≡ slot.Runs tree places script → AreScriptsAt ts places.items script s → AreScripts ts content (Some s)
scripts_are ts content tree places script s is are = subst (λ x. AreScripts ts x (Some s)) (sym is) are

pub no_scripts : (ts : List Tree) (content : SlotContent) → content ≡ slot.Refused → AreScripts ts content None
no_scripts ts content is = subst (λ x. AreScripts ts x None) (sym is) tt

starts_push : (ts : List Tree) (slots : List SlotSpec) (starts : List Start) (s : SlotSpec) (a : Start) → AreStarts ts slots starts → IsStart ts s a → AreStarts ts (slots ++ s ∷ []) (starts ++ a ∷ [])
starts_push ts [] [] s a h is = (is, tt)
starts_push ts [] (b ∷ starts) s a h is = absurd h
starts_push ts (t ∷ slots) [] s a h is = absurd h
starts_push ts (t ∷ slots) (b ∷ starts) s a h is = (h.0, starts_push ts slots starts s a h.1 is)

pub starts_none : (ts : List Tree) (starts : List Start) → starts ≡ [] → AreStarts ts [] starts
starts_none ts starts e = subst (AreStarts ts []) (sym e) tt

pub starts_more : (ts : List Tree) (slots : List SlotSpec) (starts new : List Start) (s : SlotSpec) (a : Start) → AreStarts ts slots starts → IsStart ts s a → new ≡ starts ++ a ∷ [] → AreStarts ts (slots ++ s ∷ []) new
starts_more ts slots starts new s a h is after = subst (AreStarts ts (slots ++ s ∷ [])) (sym after) (starts_push ts slots starts s a h is)

-- ## Slots

slots_take : (specs : List SlotSpec) (i : ℕ) (x : SlotSpec) → i < length specs → x ≡ get_or specs i x → take (i + 1) specs ≡ take i specs ++ x ∷ []
slots_take specs i x lt is = take_more specs i x lt ∙ ap (λ y. take i specs ++ y ∷ []) (sym is)

pub names_more : (specs : List SlotSpec) (i : ℕ) (x : SlotSpec) → i < length specs → x ≡ get_or specs i x → (old new : List Slot) (s : Slot) → map (λ (t : Slot). t.name) old ≡ names_of (take i specs) → s.name ≡ x.name → new ≡ old ++ s ∷ [] → map (λ (t : Slot). t.name) new ≡ names_of (take (i + 1) specs)
names_more specs i x lt is old new s before same after =
    ap (map (λ (t : Slot). t.name)) after ∙ map-append (λ (t : Slot). t.name) old (s ∷ []) ∙ (λ j. before j ++ same j ∷ []) ∙ sym (map-append (λ (t : SlotSpec). t.name) (take i specs) (x ∷ []))
    ∙ ap names_of (sym (slots_take specs i x lt is))

pub fuels_more : (specs : List SlotSpec) (i : ℕ) (x : SlotSpec) → i < length specs → x ≡ get_or specs i x → (old new : List Slot) (s : Slot) → map (λ (t : Slot). t.fuel) old ≡ fuels_of (take i specs) → s.fuel ≡ x.fuel → new ≡ old ++ s ∷ [] → map (λ (t : Slot). t.fuel) new ≡ fuels_of (take (i + 1) specs)
fuels_more specs i x lt is old new s before same after =
    ap (map (λ (t : Slot). t.fuel)) after ∙ map-append (λ (t : Slot). t.fuel) old (s ∷ []) ∙ (λ j. before j ++ same j ∷ []) ∙ sym (map-append (λ (t : SlotSpec). t.fuel) (take i specs) (x ∷ []))
    ∙ ap fuels_of (sym (slots_take specs i x lt is))

pub specs_all : (specs : List SlotSpec) (i : ℕ) → length specs ≤ i → take i specs ≡ specs
specs_all specs i le = take_all i specs le

pub few_none : (slots : List Slot) → slots ≡ [] → HaveFewFuel slots
few_none slots e = λ w s at. absurd (none_some (sym (ap (λ ss. slice_get ss w) e) ∙ at))

pub few_more : (old new : List Slot) (s : Slot) → HaveFewFuel old → s.fuel ≤ most_fuel → new ≡ old ++ s ∷ [] → HaveFewFuel new
few_more old new s few here after = λ w t at.
    ⊎_elim (λ e. few w t e) (λ e. subst (λ (x : Slot). x.fuel ≤ most_fuel) e.1 here) (front_or_last old s t w (ap (λ ss. slice_get ss w) (sym after) ∙ at))

singles_more : (v n : ℕ) → singles v n ++ ((v + n) ∷ []) ∷ [] ≡ singles v (n + 1)
singles_more v zero = ap (λ x. (x ∷ []) ∷ []) (here v)
  where
    here : (v : ℕ) → v + 0 ≡ v
    here v = omega arith
singles_more v (suc n) =
    ap (λ x. (v ∷ []) ∷ (singles (v + 1) n ++ (x ∷ []) ∷ [])) (next v n) ∙ ap (λ cs. (v ∷ []) ∷ cs) (singles_more (v + 1) n) ∙ ap (singles v) (past n)
  where
    next : (v n : ℕ) → v + suc n ≡ (v + 1) + n
    next v n = omega arith

    past : (n : ℕ) → suc (n + 1) ≡ suc n + 1
    past n = omega arith

pub chains_more : (old new : List Slot) (n : ℕ) (s : Slot) → chains_of old ≡ singles 0 n → s.lives.items ≡ n ∷ [] → new ≡ old ++ s ∷ [] → chains_of new ≡ singles 0 (n + 1)
chains_more old new n s are its after =
    ap chains_of after ∙ map-append (λ (x : Slot). x.lives.items) old (s ∷ []) ∙ (λ j. are j ++ its j ∷ []) ∙ ap (λ x. singles 0 n ++ (x ∷ []) ∷ []) (here n) ∙ singles_more 0 n
  where
    here : (n : ℕ) → n ≡ 0 + n
    here n = omega arith

-- ## Places

-- where a place came, a number that is no accepted life's has no cell
pub nobodys_more : (h k : Shared) (places new : List Place) (w : ℕ) (b : Place) → length places ≡ w → KeepsOthers w h k → (b.life.accepted ≡ false → k ≡ h) → new ≡ places ++ b ∷ []
    → ((v : ℕ) → IsNobodys places v → IsBare v h.store) → (v : ℕ) → IsNobodys new v → IsBare v k.store
nobodys_more h k places new w b long keeps same after was v none = by (eqb w v) refl
  where
    no_true : false ≡ true → ⊥
    no_true e = cc

    before : IsBare v h.store
    before = was v (λ a at. none a (ap (λ ps. slice_get ps v) after ∙ get_front places (b ∷ []) v a at))

    refused : w ≡ v → b.life.accepted ≡ false
    refused g = none b ((λ j. slice_get (after j) ((sym g ∙ sym long) j)) ∙ get_last places b)

    by : (t : Bool) → eqb w v ≡ t → IsBare v k.store
    by true e = subst (λ (m : Shared). IsBare v m.store) (sym (same (refused (eqb-true w v e)))) before
    by false e = bare_stays v h.store k.store (keeps.others v (λ g. no_true (sym e ∙ eq-eqb w v g))) before

module _ (w : ℕ) (h k : Shared) (keeps : KeepsOthers w h k) (v : ℕ) (lt : v < 32) (ne : w ≡ v → ⊥) where
  begun_stays : (fuel : ℕ) (s : Scripts) (a : Place) → IsBegun h v fuel s a → IsBegun k v fuel s a
  begun_stays fuel s a b = record {
    codes = b.codes;
    accepted = b.accepted;
    fine = keeps.fine v a lt ne b.fine;
    seen = keeps.seen v a lt ne b.fine ∙ b.seen ∙ ap (λ (p : Page). waiting (beginning (content_at p v s) fuel) (loads (content_at p v s))) (sym keeps.page);
    few = b.few;
  }

  with_stays : (fuel : ℕ) (o : Option Scripts) (a : Place) → IsPlaceWith h v fuel o a → IsPlaceWith k v fuel o a
  with_stays fuel None a i = i
  with_stays fuel (Some s) a i = begun_stays fuel s a i

  place_stays : (o : Option Start) (a : Place) → IsPlaceOf h v o a → IsPlaceOf k v o a
  place_stays None a i = i
  place_stays (Some start) a i = with_stays start.fuel start.scripts a i

-- a new life with these trees and these load turns is ready
pub place_ready : (w fuel : ℕ) (s : Scripts) (codes : Vec Code Global) (cs : List Code) → cs ≡ codes.items → codes.items ≡ s.libs.items ++ s.script ∷ [] → length cs ≤ 2 ^ 31 → (queue : List Work)
    → ((libs : List Code) (script : Code) → cs ≡ libs ++ script ∷ [] → IsQueued (trees_of cs) [] queue (libraries_works (programs_of libs) ++ go_works (call_parts (program_of (tree_in script)))))
    → (l : Life) → IsNewLife w fuel l → l.queue.items ≡ queue → (root told : ℕ) → IsReady w fuel s (record { life = l; codes = codes; root = root; told = told })
place_ready w fuel s codes cs same are few queue queued l new its root told = record {
  codes = are;
  many = subst (λ (xs : List Code). length xs ≤ 2 ^ 31) same few;
  life = new;
  queue = subst (λ (xs : List Code). IsQueued (trees_of xs) [] l.queue.items (libraries_works (programs_of s.libs.items) ++ go_works (call_parts (program_of (tree_in s.script))))) same
      (subst (λ q. IsQueued (trees_of cs) [] q (libraries_works (programs_of s.libs.items) ++ go_works (call_parts (program_of (tree_in s.script))))) (sym its) (queued s.libs.items s.script (same ∙ are)));
}

-- what holds whatever is answered
pub all_ok : {T E : Type 0} (r : Result T E) {P : T → Type 0} → ((x : T) → P x) → IfOk r P
all_ok (Ok x) h = h x
all_ok (Err e) h = tt

pub always_ok : {T E : Type 0} (r : Result T E) {P : Type 0} → P → OnOk r P
always_ok (Ok x) h = h
always_ok (Err e) h = tt

within : {X : Type 0} (xs : List X) (n : ℕ) (x : X) → slice_get xs n ≡ Some x → n < length xs
within [] n x at = absurd (none_some at)
within (y ∷ xs) zero x at = omega arith
within (y ∷ xs) (suc n) x at = omega (arith, within xs n x at)

pub places_none : (h : Shared) (starts : List Start) (places : List Place) → places ≡ [] → ArePlaces h starts places
places_none h starts places e = λ v a at. absurd (none_some (sym (ap (λ ps. slice_get ps v) e) ∙ at))

pub places_more : (h k : Shared) (starts : List Start) (places new : List Place) (w : ℕ) (b : Place) → length places ≡ w → w < 20 → KeepsOthers w h k → ArePlaces h starts places → IsIn w b → IsPlaceOf k w (slice_get starts w) b → new ≡ places ++ b ∷ [] → ArePlaces k starts new
places_more h k starts places new w b long few keeps are slot is after = λ v a at.
    ⊎_elim
    (λ e. let low = within places v a e in (
      (are v a e).0,
      place_stays w h k keeps v (omega (arith, low, long, few)) (λ g. omega (arith, g, low, long)) (slice_get starts v) a (are v a e).1,
    ))
    (λ e. let here : w ≡ v = sym long ∙ sym e.0 in (
      subst (λ x. IsIn x a) here (subst (IsIn w) e.1 slot),
      subst (λ x. IsPlaceOf k x (slice_get starts x) a) here (subst (IsPlaceOf k w (slice_get starts w)) e.1 is),
    ))
    (front_or_last places b a v (ap (λ ps. slice_get ps v) (sym after) ∙ at))

pub roots_none : (roots : List ℕ) (places : List Place) → places ≡ [] → HaveRoots roots places
roots_none roots places e = λ v a at. absurd (none_some (sym (ap (λ ps. slice_get ps v) e) ∙ at))

pub roots_more : (roots : List ℕ) (places new : List Place) (w : ℕ) (b : Place) → length places ≡ w → HaveRoots roots places → b.root ≡ slice_index_or roots w body → new ≡ places ++ b ∷ [] → HaveRoots roots new
roots_more roots places new w b long are is after = λ v a at.
    ⊎_elim
    (λ e. are v a e)
    (λ e. ap (λ (x : Place). x.root) (sym e.1) ∙ is ∙ ap (λ x. slice_index_or roots x body) (sym long ∙ sym e.0))
    (front_or_last places b a v (ap (λ ps. slice_get ps v) (sym after) ∙ at))

-- a place with another node that stands for it
module _ (h : Shared) (w n : ℕ) (a : Place) where
  pub in_rooted : IsIn w a → IsIn w (record a { root = n })
  in_rooted i = record { slot = i.slot; told = i.told }

  begun_rooted : (fuel : ℕ) (s : Scripts) → IsBegun h w fuel s a → IsBegun h w fuel s (record a { root = n })
  begun_rooted fuel s b = record { codes = b.codes; accepted = b.accepted; fine = b.fine; seen = b.seen; few = b.few }

  unborn_rooted : IsUnborn a → IsUnborn (record a { root = n })
  unborn_rooted u = record { refused = u.refused; codes = u.codes }

  with_rooted : (fuel : ℕ) (o : Option Scripts) → IsPlaceWith h w fuel o a → IsPlaceWith h w fuel o (record a { root = n })
  with_rooted fuel None i = unborn_rooted i
  with_rooted fuel (Some s) i = begun_rooted fuel s i

  pub rooted : (o : Option Start) → IsPlaceOf h w o a → IsPlaceOf h w o (record a { root = n })
  rooted None i = unborn_rooted i
  rooted (Some start) i = with_rooted start.fuel start.scripts i

-- ## What is still to come

-- the first of the slots that are left, and those behind it
module _ (starts : List Start) where
  left_at : (ss : List Start) (w : ℕ) → drop w ss ≡ [] → slice_get ss w ≡ None
  left_at [] w e = refl
  left_at (s ∷ ss) zero e = cc
  left_at (s ∷ ss) (suc w) e = left_at ss w e

  left_first : (ss : List Start) (w : ℕ) (s : Start) (more : List Start) → drop w ss ≡ s ∷ more → (slice_get ss w ≡ Some s) × (drop (suc w) ss ≡ more)
  left_first [] zero s more e = cc
  left_first [] (suc w) s more e = cc
  left_first (t ∷ ss) zero s more e = ((let same : t ≡ s = cc in ap Some same), (let rest : ss ≡ more = cc in rest))
  left_first (t ∷ ss) (suc w) s more e = left_first ss w s more e

  none_left : (ss : List Start) (w : ℕ) → drop w ss ≡ [] → drop (suc w) ss ≡ []
  none_left [] w e = refl
  none_left (s ∷ ss) zero e = cc
  none_left (s ∷ ss) (suc w) e = none_left ss w e

  behind : (w : ℕ) → drop (suc w) starts ≡ drop (w + 1) starts
  behind w = let next : suc w ≡ w + 1 = omega arith in ap (λ n. drop n starts) next

  empty_is : (ss : List Start) → length ss ≡ 0 → ss ≡ []
  empty_is [] e = refl
  empty_is (s ∷ ss) e = absurd (omega (arith, e))

  -- by what is taken
  pub taken : (w : ℕ) (o : Option Start) (old new : List Start) (many now : ℕ) → old ≡ drop w starts → old ≡ option_to_list o ++ new → MatchOption o ((many ≡ 0) × (now ≡ 0)) (λ s. now + 1 ≡ many) → many ≡ length old → (slice_get starts w ≡ o) × (new ≡ drop (w + 1) starts)
  taken w None old new many now here are cases long =
      let empty : old ≡ [] = empty_is old (sym long ∙ cases.0) in
      let none : drop w starts ≡ [] = sym here ∙ empty in
      (left_at starts w none, sym are ∙ empty ∙ sym (none_left starts w none) ∙ behind w)
  taken w (Some s) old new many now here are cases long =
      let it = left_first starts w s new (sym here ∙ are) in
      (it.0, sym it.1 ∙ behind w)

-- a slot that is taken has its tree
pub tree_left : (p : Page) (starts : List Start) (w : ℕ) (o : Option Start) → slice_get starts w ≡ o → HaveTrees p starts → IfSome o (λ a. IfSome a.scripts (λ s. HasTree p w))
tree_left p starts w None at trees = tt
tree_left p starts w (Some a) at trees = trees w a at
