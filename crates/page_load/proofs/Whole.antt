-- What a page loads, from its lives and its slots.
use Rattle.std.proofs.Common.{◌≡◌, ◌≢◌, ℕ, zero, suc, ◌+◌, ◌<◌, ◌≤◌, Bool, true, false, if◌then◌else◌, leb, leb-true, leb-false, List, [], ◌∷◌, ◌++◌, refl, sym, ap, ◌∙◌, subst, length, map, Option, None, Some, option_map, arith}
use Rattle.std.specs.Prelude.{slice_get, slice_index_or, IfSome}
use Rattle.std.specs.Option.{option_map_or}
use Rattle.std.specs.declared.alloc.Global.{Global}
use Rattle.std.specs.declared.vec.Vec.{Vec}
use Rattle.std.proofs.lemmas.Option.{slice_get-map}
use Rattle.plain_tree.specs.declared.plain.Plain.{Plain}
use Rattle.plain_tree.specs.Plains.{placed, unplaced}
use Rattle.tree_ops.specs.Trees.{numbered}
use Rattle.js_tree.specs.declared.tree.Tree.{Tree}
use Rattle.js_tree.specs.Plain.{NoStmts}
use Rattle.js_tree.specs.Trees.{program_of}
use Rattle.adsafe_rules.specs.declared.accepted.Accepted.{Accepted}
use Rattle.adsafe_rules.specs.Accepts.{tree_of}
use Rattle.js_names.specs.declared.code.Code.{Code}
use Rattle.js_names.specs.Code.{tree_in}
use Rattle.page_tree.specs.declared.page.Page.{Page}
use Rattle.page_nodes.specs.Entries.{Entry, body}
use Rattle.page_tree.specs.Pages.{nodes}
use Rattle.page_image.specs.Own.{is_own, own_nodes_from}
use Rattle.page_image.specs.Image.{forest, own, owns, root_of}
use Rattle.page_image.proofs.Pages.{below_32}
use Rattle.widget_meaning.specs.Alone.{Content, beginning}
use Rattle.life_laws.specs.Life.{due, image, waiting}
use Rattle.life_laws.specs.Chains.{Chains, listed as has_one}
use Rattle.native_image.specs.declared.handed.Shared.{Shared}
use Rattle.slot_picks.specs.declared.lives.Place.{Place}
use Rattle.slot_picks.specs.declared.slots.Slot.{Slot}
use Rattle.slot_picks.specs.Places.{homes_of as homes_list, roots_of}
use Rattle.slot_picks.specs.Lives.{AreStanding, chains_of, is_present, present_of, spots_of}
use Rattle.page_build.specs.Homes.{HaveRaws, IsAway, IsHome, IsPlaced}
use Rattle.page_build.specs.Layout.{IsLot, home_of, lot_of}
use Rattle.page_build.specs.Standing.{AreSpots, HavePlaces, IsLaidBy, IsStanding}
use Rattle.page_plan.specs.declared.SlotContent.{SlotContent}
use Rattle.page_plan.specs.declared.SlotContent.TheVariants as slot
use Rattle.page_plan.specs.declared.SlotSpec.{SlotSpec}
use Rattle.page_plan.specs.Contents.{HasScriptsIn, content_in, program_there}
use Rattle.page_plan.specs.declared.PageSpec.{PageSpec}
use Rattle.page_plan.specs.Pages.{PagePiece, piece_of}
use Rattle.store_cells.specs.Cells.{Cells}
use Rattle.page_load.specs.declared.codes.Start.{Start}
use Rattle.page_load.specs.declared.loading.Loaded.{Loaded}
use Rattle.page_load.specs.declared.codes.Scripts.{Scripts}
use Rattle.page_load.specs.Homes.{fuels_of, names_of}
use Rattle.page_load.specs.Laying.{AreLaid, IsBare, LaysOut}
use Rattle.page_load.specs.Lives.{ArePlaces, HasTree, HaveRoots, HaveTrees, IsBegun, IsNobodys, IsPlaceOf, IsPlaceWith, content_at}
use Rattle.page_load.specs.Loads.{Begins, HaveFewFuel, IsFirstLife, LoadsPage, singles}
use Rattle.page_load.specs.Queues.{loads, programs_of}
use Rattle.page_load.specs.Starts.{AreScripts, AreScriptsAt, AreStarts, IsStart}
use Rattle.page_load.proofs.Due.{loads_due}
use Rattle.page_load.proofs.Numbering.{home_tree, numbered_plain}
use Rattle.page_load.proofs.Spots.{laid_by, not_body, root_past, root_there, single_at, single_listed, single_present, spots_are, spots_differ, spots_of_singles}

none_some : {A : Type 0} {a : A} → None ≡ Some a → ⊥
none_some e = cc

some_some : {A : Type 0} (a b : A) → Some a ≡ Some b → a ≡ b
some_some a b e = cc

-- the slot of a start, and the start of a slot
start_at : (ts : List Tree) (slots : List SlotSpec) (starts : List Start) → AreStarts ts slots starts → (w : ℕ) (s : SlotSpec) → slice_get slots w ≡ Some s → (a : Start) × (slice_get starts w ≡ Some a) × IsStart ts s a
start_at ts [] starts h w s at = absurd (none_some at)
start_at ts (t ∷ slots) [] h w s at = absurd h
start_at ts (t ∷ slots) (b ∷ starts) h zero s at = (b, refl, subst (λ x. IsStart ts x b) (some_some t s at) h.0)
start_at ts (t ∷ slots) (b ∷ starts) h (suc w) s at = start_at ts slots starts h.1 w s at

slot_at : (ts : List Tree) (slots : List SlotSpec) (starts : List Start) → AreStarts ts slots starts → (w : ℕ) (a : Start) → slice_get starts w ≡ Some a → (s : SlotSpec) × (slice_get slots w ≡ Some s) × IsStart ts s a
slot_at ts [] [] h w a at = absurd (none_some at)
slot_at ts [] (b ∷ starts) h w a at = absurd h
slot_at ts (t ∷ slots) [] h w a at = absurd (none_some at)
slot_at ts (t ∷ slots) (b ∷ starts) h zero a at = (t, refl, subst (IsStart ts t) (some_some b a at) h.0)
slot_at ts (t ∷ slots) (b ∷ starts) h (suc w) a at = slot_at ts slots starts h.1 w a at

-- behind the last slot there is no start
no_start : (ts : List Tree) (slots : List SlotSpec) (starts : List Start) → AreStarts ts slots starts → (v : ℕ) → length slots ≤ v → slice_get starts v ≡ None
no_start ts [] [] h v le = refl
no_start ts [] (b ∷ starts) h v le = absurd h
no_start ts (t ∷ slots) [] h v le = refl
no_start ts (t ∷ slots) (b ∷ starts) h zero le = absurd (omega (arith, le))
no_start ts (t ∷ slots) (b ∷ starts) h (suc v) le = no_start ts slots starts h.1 v (omega (arith, le))

-- ## Trees on the page

module _ (ts : List Tree) (p : Page) (w : ℕ) where
  tree_with : (content : SlotContent) (scripts : Option Scripts) → AreScripts ts content scripts → IsPlaced p w content → IfSome scripts (λ s. HasTree p w)
  tree_with (slot.Runs tree libs script) None are placed = tt
  tree_with (slot.Runs tree libs script) (Some s) are placed = home_tree p w (unplaced tree) placed
  tree_with slot.Refused None are placed = tt
  tree_with slot.Refused (Some s) are placed = absurd are

within : {X : Type 0} (xs : List X) (n : ℕ) (x : X) → slice_get xs n ≡ Some x → n < length xs
within [] n x at = absurd (none_some at)
within (y ∷ xs) zero x at = omega arith
within (y ∷ xs) (suc n) x at = omega (arith, within xs n x at)

pub trees_there : (ts : List Tree) (slots : List SlotSpec) (roots : List ℕ) (starts : List Start) (s : Cells) (p : Page) → AreStarts ts slots starts → AreLaid slots roots s p → length roots ≡ length slots → HaveTrees p starts
trees_there ts slots roots starts s p are laid all = λ w a at.
    let it = slot_at ts slots starts are w a at in
    tree_with ts p w it.0.content a.scripts it.2.scripts (laid.placed w it.0 (omega (arith, within slots w it.0 it.1, all)) it.1)

past : {X : Type 0} (xs : List X) (n : ℕ) → slice_get xs n ≡ None → length xs ≤ n
past [] n e = omega arith
past (x ∷ xs) zero e = absurd (none_some (sym e))
past (x ∷ xs) (suc n) e = omega (arith, past xs n e)

there : {X : Type 0} (xs : List X) (n : ℕ) → n < length xs → (x : X) × (slice_get xs n ≡ Some x)
there [] n lt = absurd (omega (arith, lt))
there (x ∷ xs) zero lt = (x, refl)
there (x ∷ xs) (suc n) lt = there xs n (omega (arith, lt))

-- ## Numbers beyond all owners

no_true : false ≡ true → ⊥
no_true e = cc

no_node : (k : List Entry) (w a : ℕ) → ((n : ℕ) → is_own k w n ≡ false) → own_nodes_from a k w ≡ []
no_node [] w a none = refl
no_node (e ∷ k) w a none = ap (λ b. if b then a ∷ own_nodes_from (a + 1) k w else own_nodes_from (a + 1) k w) (none 0) ∙ no_node k w (a + 1) (λ n. none (suc n))

own_beyond : (p : Page) (w : ℕ) → 32 ≤ w → own p w ≡ []
unfolding own owns
own_beyond p w le = no_node (nodes p) w 0 (λ n. by n (owns p w n) refl)
  where
    by : (n : ℕ) (b : Bool) → owns p w n ≡ b → owns p w n ≡ false
    by n true e = absurd (omega (arith, le, below_32 p w n e))
    by n false e = e

-- ## Contents

-- the programs of libraries, at their places
read_all : (ts : List Tree) (cs : List Code) (ns : List ℕ) → map (λ (c : Code). Some (tree_in c)) cs ≡ map (slice_get ts) ns → programs_of cs ≡ map (program_there ts) ns
read_all ts [] [] e = refl
read_all ts [] (n ∷ ns) e = cc
read_all ts (c ∷ cs) [] e = cc
read_all ts (c ∷ cs) (n ∷ ns) e =
    let here : Some (tree_in c) ≡ slice_get ts n = cc in
    let more : map (λ (d : Code). Some (tree_in d)) cs ≡ map (slice_get ts) ns = cc in
    let one : program_of (tree_in c) ≡ program_there ts n = ap (λ (o : Option Tree). option_map_or program_of o NoStmts) here in
    λ j. one j ∷ read_all ts cs ns more j

-- the trees of scripts, the last behind the others
trees_all : (cs : List Code) (last : Code) → map Some (map tree_in (cs ++ last ∷ [])) ≡ map (λ (c : Code). Some (tree_in c)) cs ++ Some (tree_in last) ∷ []
trees_all [] last = refl
trees_all (c ∷ cs) last = ap (λ ts. Some (tree_in c) ∷ ts) (trees_all cs last)

module _ (ts : List Tree) (h : Shared) (w fuel : ℕ) (p : Place) where
  same_content : (tree : Plain) (places : Vec ℕ Global) (script : Accepted) (s : Scripts) → AreScriptsAt ts places.items script s → IsHome h.page w (unplaced tree)
      → content_at h.page w s ≡ record { root = numbered 0 (placed tree); libraries = map (program_there ts) places.items; script = program_of (tree_of script) }
  same_content tree places script s is home =
      let programs : programs_of s.libs.items ≡ map (program_there ts) places.items = read_all ts s.libs.items places.items is.libs in
      let root : forest h.page w ≡ numbered 0 (placed tree) = home.trees ∙ numbered_plain 0 (placed tree) in
      λ j. record { root = root j; libraries = programs j; script = program_of (is.last j) }

  begins : (c : Content) (s : Scripts) → content_at h.page w s ≡ c → IsBegun h w fuel s p → Begins h w fuel c p
  begins c s same b =
      let seen = b.seen ∙ ap (λ d. waiting (beginning d fuel) (loads d)) same in
      record { accepted = b.accepted; fine = b.fine; shows = ap image seen; comes = ap due seen ∙ loads_due c fuel; few = b.few }

  pub begun_first : (tree : Plain) (places : Vec ℕ Global) (script : Accepted) (s : Scripts) → AreScriptsAt ts places.items script s → IsHome h.page w (unplaced tree) → IsBegun h w fuel s p → IsFirstLife h w fuel (content_in ts (slot.Runs tree places script)) p
  begun_first tree places script s is home b = begins _ s (same_content tree places script s is home) b

  pub begun_scripts : (tree : Plain) (places : Vec ℕ Global) (script : Accepted) (s : Scripts) → AreScriptsAt ts places.items script s → IsBegun h w fuel s p → HasScriptsIn ts (slot.Runs tree places script) (map tree_in p.codes.items)
  begun_scripts tree places script s is b = ap (λ (cs : List Code). map Some (map tree_in cs)) b.codes ∙ trees_all s.libs.items s.script ∙ (λ j. is.libs j ++ Some (is.last j) ∷ [])

  first_is : (content : SlotContent) (scripts : Option Scripts) → AreScripts ts content scripts → IsPlaced h.page w content → IsPlaceWith h w fuel scripts p → IsFirstLife h w fuel (content_in ts content) p
  first_is (slot.Runs tree places script) None is placed place = absurd is
  first_is (slot.Runs tree places script) (Some s) is placed place = begun_first tree places script s is placed place
  first_is slot.Refused None is placed place = place.refused
  first_is slot.Refused (Some s) is placed place = absurd is

  -- its own scripts
  scripts_are : (content : SlotContent) (scripts : Option Scripts) → AreScripts ts content scripts → IsPlaceWith h w fuel scripts p → HasScriptsIn ts content (map tree_in p.codes.items)
  scripts_are (slot.Runs tree places script) None is place = absurd is
  scripts_are (slot.Runs tree places script) (Some s) is place = begun_scripts tree places script s is place
  scripts_are slot.Refused None is place = ap (map tree_in) place.codes
  scripts_are slot.Refused (Some s) is place = absurd is

-- ## All

names_at : (ss : List Slot) (specs : List SlotSpec) (v : ℕ) (s : Slot) (t : SlotSpec) → map (λ (x : Slot). x.name) ss ≡ names_of specs → slice_get ss v ≡ Some s → slice_get specs v ≡ Some t → s.name ≡ t.name
names_at ss specs v s t names here at =
    some_some s.name t.name (ap (option_map (λ (x : Slot). x.name)) (sym here) ∙ sym (slice_get-map (λ (x : Slot). x.name) ss v) ∙ ap (λ xs. slice_get xs v) names ∙ slice_get-map (λ (x : SlotSpec). x.name) specs v ∙ ap (option_map (λ (x : SlotSpec). x.name)) at)

chains_from : (homes : List ℕ) (n w : ℕ) → w + n ≤ 16 → ((v : ℕ) → v < 16 → slice_get homes v ≡ Some v) → Chains homes 16 w (singles w n)
chains_from homes zero w le at = tt
chains_from homes (suc n) w le at = (record { some = omega arith; rising = (tt, tt); below = (omega (arith, le), tt); home = (at w (omega (arith, le)), tt) }, chains_from homes n (w + 1) (omega (arith, le)) at)

module _ (spec : PageSpec) (l : Loaded) (s : Cells) (p : Page) (roots : List ℕ) (laid : AreLaid spec.slots.items roots s p) (all : length roots ≡ length spec.slots.items) (starts : List Start) (started : AreStarts (map tree_in l.libs.items) spec.slots.items starts) (page : l.lives.shared.page ≡ p) (places : ArePlaces l.lives.shared starts l.lives.places.items) (twenty : length l.lives.places.items ≡ 20) (stands : HaveRoots roots l.lives.places.items) (few : length spec.slots.items ≤ 16) where
  module _ (w : ℕ) (t : SlotSpec) (a : Place) (at : slice_get spec.slots.items w ≡ Some t) (here : slice_get l.lives.places.items w ≡ Some a) where
    its_start : (start : Start) × IsStart (map tree_in l.libs.items) t start × IsPlaceWith l.lives.shared w start.fuel start.scripts a
    its_start =
        let it = start_at (map tree_in l.libs.items) spec.slots.items starts started w t at in
        (it.0, it.2, subst (λ o. IsPlaceOf l.lives.shared w o a) it.1 (places w a here).1)

    low : w < length roots
    low = omega (arith, within spec.slots.items w t at, all)

    first_in : IsFirstLife l.lives.shared w t.fuel (content_in (map tree_in l.libs.items) t.content) a
    first_in =
        let it = its_start in
        let placed : IsPlaced l.lives.shared.page w t.content = subst (λ q. IsPlaced q w t.content) (sym page) (laid.placed w t low at) in
        subst (λ f. IsFirstLife l.lives.shared w f (content_in (map tree_in l.libs.items) t.content) a) it.1.fuel
        (first_is (map tree_in l.libs.items) l.lives.shared w it.0.fuel a t.content it.0.scripts it.1.scripts placed it.2)

    scripts_in : HasScriptsIn (map tree_in l.libs.items) t.content (map tree_in a.codes.items)
    scripts_in = let it = its_start in scripts_are (map tree_in l.libs.items) l.lives.shared w it.0.fuel a t.content it.0.scripts it.1.scripts it.2

    -- the node that stands for it
    its_root : slice_get roots w ≡ Some a.root
    its_root = root_there roots a.root w (stands w a here) low

    its_lot : IsLot p (lot_of t.name (home_of w t.content)) a.root
    its_lot = laid.lots w a.root t its_root at

  refused_away : (w fuel : ℕ) (a : Place) (content : SlotContent) → IsPlaced p w content → IsFirstLife l.lives.shared w fuel (content_in (map tree_in l.libs.items) content) a → a.life.accepted ≡ false → IsAway p w
  refused_away w fuel a (slot.Runs tree libs script) placed life none = absurd (no_true (sym none ∙ life.accepted))
  refused_away w fuel a slot.Refused placed life none = placed

  -- a number that is no accepted life's has no node
  nobodys_away : (v : ℕ) → IsNobodys l.lives.places.items v → v < 32 → IsAway p v
  nobodys_away v none lt = by (slice_get spec.slots.items v) refl
    where
      by : (o : Option SlotSpec) → slice_get spec.slots.items v ≡ o → IsAway p v
      by None e = laid.away v (omega (arith, past spec.slots.items v e, all)) lt
      by (Some t) e =
          let low = within spec.slots.items v t e in
          let a = there l.lives.places.items v (omega (arith, low, few, twenty)) in
          refused_away v t.fuel a.0 t.content (laid.placed v t (omega (arith, low, all)) e) (first_in v t a.0 e a.1) (none a.0 a.1)

  nobodys_nodes : (v : ℕ) → IsNobodys l.lives.places.items v → own p v ≡ []
  nobodys_nodes v none = by (leb 32 v) refl
    where
      by : (b : Bool) → leb 32 v ≡ b → own p v ≡ []
      by true g = own_beyond p v (leb-true 32 v g)
      by false g = (nobodys_away v none (leb-false 32 v g)).nodes

  -- behind the last slot no life is accepted
  unborn_behind : (v : ℕ) (a : Place) → length spec.slots.items ≤ v → slice_get l.lives.places.items v ≡ Some a → (a.life.accepted ≡ false) × (a.root ≡ body)
  unborn_behind v a le at =
      let unborn : IsPlaceOf l.lives.shared v None a = subst (λ o. IsPlaceOf l.lives.shared v o a) (no_start (map tree_in l.libs.items) spec.slots.items starts started v le) (places v a at).1 in
      (unborn.refused, stands v a at ∙ root_past roots v (omega (arith, le, all)))

  -- ## What stands in the slots

  root_of_life : (w n fuel : ℕ) (a : Place) (name : List ℕ) (content : SlotContent) → IsLot p (lot_of name (home_of w content)) n → IsFirstLife l.lives.shared w fuel (content_in (map tree_in l.libs.items) content) a → a.life.accepted ≡ true → root_of p w ≡ Some n
  root_of_life w n fuel a name (slot.Runs tree libs script) lot life taken = lot.1
  root_of_life w n fuel a name slot.Refused lot life taken = absurd (no_true (sym life ∙ taken))

  div_of_life : (w n fuel : ℕ) (a : Place) (name : List ℕ) (content : SlotContent) → IsLot p (lot_of name (home_of w content)) n → IsFirstLife l.lives.shared w fuel (content_in (map tree_in l.libs.items) content) a → a.life.accepted ≡ false → IsLot p (lot_of name None) n
  div_of_life w n fuel a name (slot.Runs tree libs script) lot life none = absurd (no_true (sym none ∙ life.accepted))
  div_of_life w n fuel a name slot.Refused lot life none = lot

  homes_all : (v : ℕ) → v < 16 → slice_get (homes_list l.lives.places.items) v ≡ Some v
  homes_all v lt =
      let a = there l.lives.places.items v (omega (arith, lt, twenty)) in
      slice_get-map (λ (x : Place). x.life.slot) l.lives.places.items v ∙ ap (option_map (λ (x : Place). x.life.slot)) a.1 ∙ ap Some (places v a.0 a.1).0.slot

  module _ (names : map (λ (x : Slot). x.name) l.slots.items ≡ names_of spec.slots.items) (chains : chains_of l.slots.items ≡ singles 0 (length spec.slots.items)) (pieces : List PagePiece) (lays : LaysOut p roots pieces) where
    spots : spots_of l.lives l.slots.items ≡ roots
    spots =
        ap (map (λ lives. slice_index_or (roots_of l.lives.places.items) (present_of lives) body)) (chains ∙ ap (singles 0) (sym all))
        ∙ spots_of_singles roots l.lives.places.items stands (omega (arith, all, few, twenty))

    all_stand : AreStanding l.lives l.slots.items
    all_stand = record {
      born = 16;
      few = omega (arith, twenty);
      chains = subst (Chains (homes_list l.lives.places.items) 16 0) (sym chains) (chains_from (homes_list l.lives.places.items) (length spec.slots.items) 0 (omega (arith, few)) homes_all);
      roots = λ v a here taken. its_root_is v a here taken (slice_get spec.slots.items v) refl;
      divs = λ v a x here none below its. its_div v a x here none below its (slice_get spec.slots.items v) refl;
      nodes = λ v a here its. its_node v a here (let low = single_listed 0 (length spec.slots.items) v (ap (λ cs. has_one v cs) (sym chains) ∙ its) in omega (arith, low));
      apart = λ v u a b here other below same. its_own v u a b here other below same (leb (length roots) v) refl (leb (length roots) u) refl;
      stand = λ w v a first here. subst (λ q. IsStanding q a.root) (sym page) (
          let it = single_at 0 (length spec.slots.items) w v (ap (λ cs. slice_get (map present_of cs) w) (sym chains) ∙ first) in
          laid.stand v a.root (root_there roots a.root v (stands v a here) (omega (arith, it.0, it.1, all))));
      spare = λ v a here below absent. absurd (below (stands v a here ∙ root_past roots v (behind v absent (leb (length roots) v) refl)));
      spots = subst (AreSpots l.lives.shared.page) (sym spots) (subst (λ q. AreSpots q roots) (sym page) (spots_are p roots pieces lays));
    }
      where
        its_root_is : (v : ℕ) (a : Place) → slice_get l.lives.places.items v ≡ Some a → a.life.accepted ≡ true → (o : Option SlotSpec) → slice_get spec.slots.items v ≡ o → root_of l.lives.shared.page v ≡ Some a.root
        its_root_is v a here taken None e = absurd (no_true (sym (unborn_behind v a (past spec.slots.items v e) here).0 ∙ taken))
        its_root_is v a here taken (Some t) e = ap (λ q. root_of q v) page ∙ root_of_life v a.root t.fuel a t.name t.content (its_lot v t a e here) (first_in v t a e here) taken

        its_div : (v : ℕ) (a : Place) (x : Slot) → slice_get l.lives.places.items v ≡ Some a → a.life.accepted ≡ false → a.root ≢ body → slice_get l.slots.items a.life.slot ≡ Some x → (o : Option SlotSpec) → slice_get spec.slots.items v ≡ o → IsLot l.lives.shared.page (lot_of x.name None) a.root
        its_div v a x here none below its None e = absurd (below (unborn_behind v a (past spec.slots.items v e) here).1)
        its_div v a x here none below its (Some t) e =
            let name : x.name ≡ t.name = names_at l.slots.items spec.slots.items v x t names (ap (slice_get l.slots.items) (sym (places v a here).0.slot) ∙ its) e in
            subst (λ q. IsLot q (lot_of x.name None) a.root) (sym page)
            (subst (λ n. IsLot p (lot_of n None) a.root) (sym name) (div_of_life v a.root t.fuel a t.name t.content (its_lot v t a e here) (first_in v t a e here) none))

        its_node : (v : ℕ) (a : Place) → slice_get l.lives.places.items v ≡ Some a → v < length spec.slots.items → a.root ≢ body
        its_node v a here lt = not_body p a.root (laid.stand v a.root (root_there roots a.root v (stands v a here) (omega (arith, lt, all))))

        its_own : (v u : ℕ) (a b : Place) → slice_get l.lives.places.items v ≡ Some a → slice_get l.lives.places.items u ≡ Some b → a.root ≢ body → a.root ≡ b.root → (x : Bool) → leb (length roots) v ≡ x → (y : Bool) → leb (length roots) u ≡ y → v ≡ u
        its_own v u a b here other below same true e y f = absurd (below (stands v a here ∙ root_past roots v (leb-true (length roots) v e)))
        its_own v u a b here other below same false e true f = absurd (below (same ∙ stands u b other ∙ root_past roots u (leb-true (length roots) u f)))
        its_own v u a b here other below same false e false f = spots_differ p roots (spots_are p roots pieces lays) v u (leb-false (length roots) v e) (leb-false (length roots) u f) (sym (stands v a here) ∙ same ∙ stands u b other)

        behind : (v : ℕ) → is_present v (chains_of l.slots.items) ≡ false → (b : Bool) → leb (length roots) v ≡ b → length roots ≤ v
        behind v absent true e = leb-true (length roots) v e
        behind v absent false e =
            let lt = leb-false (length roots) v e in
            let present : is_present v (singles 0 (length spec.slots.items)) ≡ true = single_present 0 (length spec.slots.items) v (omega arith) (omega (arith, lt, all)) in
            absurd (no_true (sym absent ∙ ap (is_present v) chains ∙ present))

  pub page_loads : map (λ (x : Slot). x.name) l.slots.items ≡ names_of spec.slots.items → map (λ (x : Slot). x.fuel) l.slots.items ≡ fuels_of spec.slots.items → HaveFewFuel l.slots.items → chains_of l.slots.items ≡ singles 0 (length spec.slots.items)
      → map tree_in l.libs.items ≡ map tree_of spec.libs.items → l.channels.items ≡ spec.channels.items → l.lives.shared.codes.items ≡ [] → l.lives.journal.items ≡ []
      → ((v : ℕ) → IsNobodys l.lives.places.items v → IsBare v l.lives.shared.store) → HaveRaws l.lives.shared.store l.lives.shared.page → LaysOut p roots (map piece_of spec.pieces.items) → LoadsPage spec l
  page_loads names fuels fuel chains libs channels unshared journal free raws lays = record {
    few = few;
    names = names;
    fuels = fuels;
    fuel = fuel;
    chains = chains;
    libs = libs;
    channels = channels;
    twenty = twenty;
    homes = λ v a at. (places v a at).0.slot;
    told = λ v a at. (places v a at).0.told;
    slots = λ w t a at here. subst (λ c. IsFirstLife l.lives.shared w t.fuel c a) (ap (λ ts. content_in ts t.content) libs) (first_in w t a at here);
    scripts = λ w t a at here. subst (λ ts. HasScriptsIn ts t.content (map tree_in a.codes.items)) libs (scripts_in w t a at here);
    unshared = unshared;
    journal = journal;
    raws = raws;
    standing = all_stand names chains (map piece_of spec.pieces.items) lays;
    laid = subst (λ xs. IsLaidBy l.lives.shared.page xs (map piece_of spec.pieces.items)) (sym (spots names chains (map piece_of spec.pieces.items) lays)) (subst (λ q. IsLaidBy q roots (map piece_of spec.pieces.items)) (sym page) (laid_by p roots (map piece_of spec.pieces.items) lays));
    places = subst (λ n. HavePlaces n (map piece_of spec.pieces.items)) all lays.places;
    others = λ v none. record {
      cells = (free v none).cells;
      nodes = ap (λ q. own q v) page ∙ nobodys_nodes v none;
      unpaid = (free v none).unpaid;
      away = λ lt. subst (λ q. IsAway q v) (sym page) (nobodys_away v none lt);
    };
    rest = unborn_behind;
  }
