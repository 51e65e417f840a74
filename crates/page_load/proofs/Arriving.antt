-- A life comes into its place: what it keeps of all others, of the page and of what is nobody's.
use Rattle.std.proofs.Common.{◌≡◌, ◌≢◌, ℕ, zero, suc, ◌+◌, ◌<◌, ◌≤◌, List, [], ◌∷◌, Bool, true, false, cond, if◌then◌else◌, refl, sym, ap, ◌∙◌, subst, length, map, Option, None, Some, arith, eqb, eqb-true, eq-eqb}
use Rattle.std.specs.Prelude.{Err, IfSome, Ok, OnErr, OnOk, Result, slice_get, slice_set, ◌^◌}
use Rattle.std.specs.List.{AllByRecursion, filter}
use Rattle.std.specs.declared.alloc.Global.{Global}
use Rattle.std.specs.declared.vec.Vec.{Vec}
use Rattle.plain_tree.specs.declared.plain.Plain.{Plain}
use Rattle.plain_tree.specs.Plains.{unplaced}
use Rattle.plain_tree.specs.Trees.{PlainTrees}
use Rattle.js_tree.specs.declared.tree.Tree.{Tree}
use Rattle.adsafe_rules.specs.declared.accepted.Accepted.{Accepted}
use Rattle.js_tree.specs.Forest.{Forest}
use Rattle.js_names.specs.Code.{tree_in, trees_of}
use Rattle.store_cells.specs.Cells.{Cells, PlainCell, is_visible}
use Rattle.object_store.specs.Owned.{OwnCell, Owned, is_own_scope, own_cell, own_scope, owned}
use Rattle.page_nodes.specs.Entries.{body}
use Rattle.page_tree.specs.declared.page.Page.{Page}
use Rattle.page_tree.specs.Pages.{nodes}
use Rattle.page_image.specs.Image.{HasRoot, forest, own, owns, root_of}
use Rattle.page_image.proofs.Pages.{is_node}
use Rattle.js_image.specs.Held.{IsConfined, Kept, PassNodes}
use Rattle.js_image.proofs.Grown.{kept_same}
use Rattle.native_image.proofs.Added.{raw_stays}
use Rattle.life_laws.specs.Life.{Seen, potentials}
use Rattle.life_laws.specs.Settled.{flag}
use Rattle.life_laws.proofs.Passing.{get_other}
use Rattle.native_image.specs.declared.handed.Shared.{Shared}
use Rattle.slot_picks.specs.Turn.{Turn}
use Rattle.slot_picks.specs.Fine.{FineLife, FineTurn, KeepsCells, most_fuel, tally}
use Rattle.slot_picks.specs.QueueLives.{life_seen}
use Rattle.slot_picks.proofs.Apart.{LeavesPage, fine_left, holds_left, seen_left, turn_left}
use Rattle.slot_picks.specs.declared.lives.Lives.{Lives}
use Rattle.slot_picks.specs.declared.lives.Place.{Place}
use Rattle.slot_picks.specs.declared.slots.Slot.{Slot}
use Rattle.slot_picks.specs.Places.{FewPlace, FewPlaces, FinePlace, FinePlaces, OwnPlace, OwnPlaces, is_accepted, lent, seen_at, seens_from}
use Rattle.slot_picks.specs.Lives.{FineLives, seens_of}
use Rattle.page_build.specs.Homes.{HaveRaws, IsAway, IsHome}
use Rattle.page_build.specs.Layout.{IsLot, lot_of}
use Rattle.page_build.specs.Standing.{HostJoins, IsSamePage, IsSpare, Joins}
use Rattle.page_build.proofs.Coming.{same_keeps, same_trees}
use Rattle.page_build.proofs.Stands.{host_joins_roots, joins_roots, lot_older, spare_older, spots_older, standing_older}
use Rattle.page_plan.specs.Contents.{HasScriptsIn, content_in}
use Rattle.page_plan.specs.declared.SlotContent.TheVariants as slot
use Rattle.page_load.specs.declared.codes.Scripts.{Scripts}
use Rattle.page_load.specs.declared.joining.Coming.{Coming}
use Rattle.page_load.specs.Joining.{Comes, HasSeat, IsFree, KeepsRest, PageJoins, came, none_came}
use Rattle.page_load.specs.Laying.{HasNoCells, nothing_owned}
use Rattle.page_load.specs.Lives.{IsBegun, IsIn, IsLib, IsReady, IsUnborn}
use Rattle.page_load.specs.Loads.{HasNothing, IsFirstLife}
use Rattle.page_load.specs.Owning.{one_object}
use Rattle.page_load.specs.Seating.{Seats, SeatsDiv, SeatsLife}
use Rattle.page_load.specs.Starts.{AreScriptsAt}
use Rattle.page_load.proofs.Begun.{begun_is, holds_with, seated}
use Rattle.page_load.proofs.Numbering.{home_tree}
use Rattle.page_load.proofs.Whole.{begun_first, begun_scripts}

no_true : false ≡ true → ⊥
no_true e = cc

none_some : {A : Type 0} {a : A} → None ≡ Some a → ⊥
none_some e = cc

differ : (u v : ℕ) → eqb u v ≡ false → u ≡ v → ⊥
differ u v e g = no_true (sym e ∙ eq-eqb u v g)

-- ## The page

-- a root came
root_joins : (v : ℕ) (p q : Page) → IsAway p v → Joins v p q → PageJoins v p q
root_joins v p q away j =
    let roots = joins_roots v p q j away.free in
    record {
      older = j.older;
      top = j.host.top;
      owners = j.owners;
      numbers = j.numbers;
      nodes = j.others;
      trees = j.trees;
      roots = j.roots;
      standing = standing_older p q j.older roots;
      spare = spare_older p q j.older roots;
      lots = lot_older p q j.older roots;
      spots = spots_older p q j.older roots;
    }

pub below_32 : (v : ℕ) → v < 20 → v < 32
below_32 v lt = omega (arith, lt)

pub page_joins : (v : ℕ) (c : Lives) (q : Page) → v < 20 → IsFree v c → Joins v c.shared.page q → PageJoins v c.shared.page q
page_joins v c q lt free j = root_joins v c.shared.page q (free.nothing.away (below_32 v lt)) j

-- an empty `div` of the host came
pub host_joins : (v : ℕ) (p q : Page) → HostJoins p q → PageJoins v p q
host_joins v p q j =
    let roots = host_joins_roots p q j in
    record {
      older = j.older;
      top = j.older.same body p.arena.sound.some;
      owners = λ u n h. j.kept.owners u n ∙ h;
      numbers = λ u n h. j.kept.numbers u n;
      nodes = λ u ne. j.kept.nodes u;
      trees = λ u lt ne. j.trees u lt;
      roots = λ u lt ne. j.kept.roots u lt;
      standing = standing_older p q j.older roots;
      spare = spare_older p q j.older roots;
      lots = lot_older p q j.older roots;
      spots = spots_older p q j.older roots;
    }

-- nothing came
pub page_stays : (v : ℕ) (p : Page) → PageJoins v p p
page_stays v p = record {
  older = record { long = omega arith; same = λ n lt. refl; trees = λ n lt. refl };
  top = refl;
  owners = λ u n h. h;
  numbers = λ u n h. refl;
  nodes = λ u ne. refl;
  trees = λ u lt ne. refl;
  roots = λ u lt ne. refl;
  standing = λ n h. h;
  spare = λ n h. h;
  lots = λ lot n h. h;
  spots = λ spots h. h;
}

leaves : (v u : ℕ) (p q : Page) → u < 32 → u ≢ v → PageJoins v p q → LeavesPage u p q
leaves v u p q lt ne j = record { owners = j.owners u; numbers = j.numbers u; own = j.nodes u ne; trees = j.trees u lt ne; root = j.roots u lt ne }

-- ## What is nobody's

nothing_stays : (u : ℕ) (s t : Cells) (p q : Page) → owned u t ≡ owned u s → own q u ≡ own p u → (u < 32 → root_of q u ≡ root_of p u) → (u < 32 → forest q u ≡ forest p u) → HasNothing u s p → HasNothing u t q
nothing_stays u s t p q cells nodes roots trees h = record {
  cells = record { heap = ap (λ (o : Owned). o.heap) cells ∙ h.cells.heap; scopes = ap (λ (o : Owned). o.scopes) cells ∙ h.cells.scopes };
  nodes = nodes ∙ h.nodes;
  unpaid = λ lt. cells ∙ h.unpaid lt;
  away = λ lt. record { free = roots lt ∙ (h.away lt).free; nodes = nodes ∙ (h.away lt).nodes; trees = trees lt ∙ (h.away lt).trees };
}

-- of another
pub nothing_other : (v u : ℕ) (s t : Cells) (p q : Page) → u ≢ v → owned u t ≡ owned u s → PageJoins v p q → HasNothing u s p → HasNothing u t q
nothing_other v u s t p q ne cells j = nothing_stays u s t p q cells (j.nodes u ne) (λ lt. j.roots u lt ne) (λ lt. j.trees u lt ne)

-- where no node came
pub nothing_same : (u : ℕ) (s t : Cells) (p q : Page) → owned u t ≡ owned u s → IsSamePage p q → HasNothing u s p → HasNothing u t q
nothing_same u s t p q cells same = nothing_stays u s t p q cells ((same_keeps p q same).nodes u) (same.roots u) (same_trees p q same u)

-- where a node of the host came
pub nothing_host : (u : ℕ) (s t : Cells) (p q : Page) → owned u t ≡ owned u s → HostJoins p q → HasNothing u s p → HasNothing u t q
nothing_host u s t p q cells j = nothing_stays u s t p q cells (j.kept.nodes u) (j.kept.roots u) (j.trees u)

-- ## A number without cells is confined

empty_map : {A B : Type 0} (f : A → B) (xs : List A) → map f xs ≡ [] → xs ≡ []
empty_map f [] e = refl
empty_map f (x ∷ xs) e = absurd (cc)

none_pass : (p : PlainCell → Bool) (cs : List PlainCell) → filter p cs ≡ [] → (i : ℕ) (c : PlainCell) → slice_get cs i ≡ Some c → p c ≡ false
none_pass p [] e i c at = absurd (none_some at)
none_pass p (d ∷ cs) e i c at = by (λ g j there. none_pass p cs g j c there) (p d) refl i at
  where
    keeps : (b : Bool) → p d ≡ b → cond b (d ∷ filter p cs) (filter p cs) ≡ []
    keeps b g = ap (λ x. cond x (d ∷ filter p cs) (filter p cs)) (sym g) ∙ e

    by : (filter p cs ≡ [] → (j : ℕ) → slice_get cs j ≡ Some c → p c ≡ false) → (b : Bool) → p d ≡ b → (i : ℕ) → slice_get (d ∷ cs) i ≡ Some c → p c ≡ false
    by more true g i at = absurd (let h = keeps true g in cc)
    by more false g zero at = let same : d ≡ c = cc in ap p (sym same) ∙ g
    by more false g (suc i) at = more (keeps false g) i at

pub nothing_confined : (fs : List Forest) (v : ℕ) (s : Cells) → HasNoCells v s → IsConfined fs v s
unfolding owned
nothing_confined fs v s h = record {
  each = λ i c at. record {
    cell = λ its. absurd (no_true (sym (none_pass (is_visible v) s.cells (empty_map (own_cell v s.cells) (filter (is_visible v) s.cells) h.heap) i c at) ∙ its));
    scope = λ its. absurd (no_true (sym (none_pass (is_own_scope v) s.cells (empty_map (own_scope v s.cells) (filter (is_own_scope v) s.cells) h.scopes) i c at) ∙ its));
  };
}

-- ## All other lives

pub cells_kept : (v : ℕ) (s t : Cells) → Kept [] v s t → KeepsCells [] v s t
cells_kept v s t k = record { confined = k.confined; grows = k.grows; others = k.others; others_grow = k.others_grow; others_confined = k.others_confined }

module _ (v : ℕ) (h m : Shared) (cells : KeepsCells [] v h.store m.store) (page : PageJoins v h.page m.page) where
  left : (u : ℕ) → (v ≡ u → ⊥) → u < 32 → LeavesPage u h.page m.page
  left u ne lt = leaves v u h.page m.page lt (λ e. ne (sym e)) page

  own_other : (u : ℕ) → (v ≡ u → ⊥) → u < 32 → (l : Place) → OwnPlace h u l → OwnPlace m u l
  own_other u ne lt l was = λ e. let own = was e in record {
    confined = cells.others_confined (trees_of l.codes.items) u ne own.confined;
    holds = holds_left v u ne lt [] h.store m.store h.page m.page cells (left u ne lt) l.life.widget.around own.holds;
    turn = turn_left v u ne [] h.store m.store h.page m.page cells (page.owners u) (page.numbers u) (trees_of l.codes.items) l.life.grant l.life.turn own.turn;
  }

  owns_stay : (u : ℕ) (ls : List Place) → v < u → u + length ls ≤ 32 → OwnPlaces h u ls → OwnPlaces m u ls
  owns_stay u [] less few t = tt
  owns_stay u (l ∷ ls) less few t =
      (own_other u (λ e. absurd (omega (arith, e, less))) (omega (arith, few)) l t.0, owns_stay (u + 1) ls (omega (arith, less)) (omega (arith, few)) t.1)

  pub owns_set : (b : Place) → OwnPlace m v b → (u i : ℕ) (ls : List Place) → v ≡ u + i → u + length ls ≤ 32 → OwnPlaces h u ls → OwnPlaces m u (slice_set ls i b)
  owns_set b here u i [] e few t = tt
  owns_set b here u zero (l ∷ ls) e few t =
      (subst (λ x. OwnPlace m x b) (let same : v ≡ u = omega (arith, e) in same) here, owns_stay (u + 1) ls (omega (arith, e)) (omega (arith, few)) t.1)
  owns_set b here u (suc i) (l ∷ ls) e few t =
      (own_other u (λ g. absurd (omega (arith, e, g))) (omega (arith, few)) l t.0, owns_set b here (u + 1) i ls (omega (arith, e)) (omega (arith, few)) t.1)

  module _ (raws : HaveRaws m.store m.page) where
    seen_other : (u : ℕ) → (v ≡ u → ⊥) → u < 32 → (l : Place) → FinePlace h u l → seen_at m u l ≡ seen_at h u l
    seen_other u ne lt l was = by l.life.accepted refl
      where
        by : (c : Bool) → l.life.accepted ≡ c → seen_at m u l ≡ seen_at h u l
        by true e =
            ap (λ (b : Bool). if b then life_seen (lent m l) u l.life else flag false) e
            ∙ seen_left v u ne lt [] (lent h l) (lent m l) refl cells (left u ne lt) l.life (was e)
            ∙ sym (ap (λ (b : Bool). if b then life_seen (lent h l) u l.life else flag false) e)
        by false e = ap (λ (b : Bool). if b then life_seen (lent m l) u l.life else flag false) e ∙ sym (ap (λ (b : Bool). if b then life_seen (lent h l) u l.life else flag false) e)

    fine_other : (u : ℕ) → (v ≡ u → ⊥) → u < 32 → (l : Place) → FinePlace h u l → FinePlace m u l
    fine_other u ne lt l was = λ e. fine_left v u ne lt [] (lent h l) (lent m l) refl cells (left u ne lt) l.life (was e) (λ x n is. raws n (is_node m.page x n is))

    few_other : (n u : ℕ) → (v ≡ u → ⊥) → u < 32 → (l : Place) → FinePlace h u l → FewPlace h n u l → FewPlace m n u l
    few_other n u ne lt l was few = λ e.
        let same : tally (lent m l) u l.life ≡ tally (lent h l) u l.life = ap (λ (s : Seen). l.life.records.turns + (l.life.records.missed + (l.life.records.gone + potentials s.queue))) (seen_left v u ne lt [] (lent h l) (lent m l) refl cells (left u ne lt) l.life (was e)) in
        subst (λ t. t ≤ n) (sym same) (few e)

    fews_stay : (n u : ℕ) (ls : List Place) → v < u → u + length ls ≤ 32 → FinePlaces h u ls → FewPlaces h n u ls → FewPlaces m n u ls
    fews_stay n u [] less few f t = tt
    fews_stay n u (l ∷ ls) less few f t =
        (few_other n u (λ e. absurd (omega (arith, e, less))) (omega (arith, few)) l f.0 t.0, fews_stay n (u + 1) ls (omega (arith, less)) (omega (arith, few)) f.1 t.1)

    fews_set : (b : Place) (n : ℕ) → FewPlace m n v b → (u i : ℕ) (ls : List Place) → v ≡ u + i → u + length ls ≤ 32 → FinePlaces h u ls → FewPlaces h n u ls → FewPlaces m n u (slice_set ls i b)
    fews_set b n here u i [] e few f t = tt
    fews_set b n here u zero (l ∷ ls) e few f t =
        (subst (λ x. FewPlace m n x b) (let same : v ≡ u = omega (arith, e) in same) here, fews_stay n (u + 1) ls (omega (arith, e)) (omega (arith, few)) f.1 t.1)
    fews_set b n here u (suc i) (l ∷ ls) e few f t =
        (few_other n u (λ g. absurd (omega (arith, e, g))) (omega (arith, few)) l f.0 t.0, fews_set b n here (u + 1) i ls (omega (arith, e)) (omega (arith, few)) f.1 t.1)

    fines_stay : (u : ℕ) (ls : List Place) → v < u → u + length ls ≤ 32 → FinePlaces h u ls → FinePlaces m u ls
    fines_stay u [] less few f = tt
    fines_stay u (l ∷ ls) less few f =
        (fine_other u (λ e. absurd (omega (arith, e, less))) (omega (arith, few)) l f.0, fines_stay (u + 1) ls (omega (arith, less)) (omega (arith, few)) f.1)

    fines_set : (b : Place) → FinePlace m v b → (u i : ℕ) (ls : List Place) → v ≡ u + i → u + length ls ≤ 32 → FinePlaces h u ls → FinePlaces m u (slice_set ls i b)
    fines_set b here u i [] e few f = tt
    fines_set b here u zero (l ∷ ls) e few f =
        (subst (λ x. FinePlace m x b) (let same : v ≡ u = omega (arith, e) in same) here, fines_stay (u + 1) ls (omega (arith, e)) (omega (arith, few)) f.1)
    fines_set b here u (suc i) (l ∷ ls) e few f =
        (fine_other u (λ g. absurd (omega (arith, e, g))) (omega (arith, few)) l f.0, fines_set b here (u + 1) i ls (omega (arith, e)) (omega (arith, few)) f.1)

    seens_stay : (u : ℕ) (ls : List Place) → v < u → u + length ls ≤ 32 → FinePlaces h u ls → seens_from m u ls ≡ seens_from h u ls
    seens_stay u [] less few f = refl
    seens_stay u (l ∷ ls) less few f =
        let here : seen_at m u l ≡ seen_at h u l = seen_other u (λ e. absurd (omega (arith, e, less))) (omega (arith, few)) l f.0 in
        let more : seens_from m (u + 1) ls ≡ seens_from h (u + 1) ls = seens_stay (u + 1) ls (omega (arith, less)) (omega (arith, few)) f.1 in
        λ j. here j ∷ more j

    seens_set : (b : Place) (u i : ℕ) (ls : List Place) → v ≡ u + i → u + length ls ≤ 32 → FinePlaces h u ls → seens_from m u (slice_set ls i b) ≡ slice_set (seens_from h u ls) i (seen_at m v b)
    seens_set b u i [] e few f = refl
    seens_set b u zero (l ∷ ls) e few f =
        let here : u ≡ v = omega (arith, e) in
        let more : seens_from m (u + 1) ls ≡ seens_from h (u + 1) ls = seens_stay (u + 1) ls (omega (arith, e)) (omega (arith, few)) f.1 in
        λ j. seen_at m (here j) b ∷ more j
    seens_set b u (suc i) (l ∷ ls) e few f =
        let here : seen_at m u l ≡ seen_at h u l = seen_other u (λ g. absurd (omega (arith, e, g))) (omega (arith, few)) l f.0 in
        let more : seens_from m (u + 1) (slice_set ls i b) ≡ slice_set (seens_from h (u + 1) ls) i (seen_at m v b) = seens_set b (u + 1) i ls (omega (arith, e)) (omega (arith, few)) f.1 in
        λ j. here j ∷ more j

-- ## The lives

set_length : (ls : List Place) (i : ℕ) (b : Place) → length (slice_set ls i b) ≡ length ls
set_length [] i b = refl
set_length (l ∷ ls) zero b = refl
set_length (l ∷ ls) (suc i) b = ap suc (set_length ls i b)

set_same : (ls : List Place) (i : ℕ) (b : Place) → slice_get ls i ≡ Some b → ls ≡ slice_set ls i b
set_same [] i b e = refl
set_same (x ∷ ls) zero b e = let same : x ≡ b = cc in ap (λ y. y ∷ ls) same
set_same (x ∷ ls) (suc i) b e = ap (λ ys. x ∷ ys) (set_same ls i b e)

set_accepted : (ls : List Place) (i : ℕ) (b : Place) → i < length ls → is_accepted (slice_set ls i b) i ≡ b.life.accepted
set_accepted [] i b lt = absurd (omega (arith, lt))
set_accepted (l ∷ ls) zero b lt = refl
set_accepted (l ∷ ls) (suc i) b lt = set_accepted ls i b (omega (arith, lt))

there : (ls : List Place) (n : ℕ) → n < length ls → (a : Place) × (slice_get ls n ≡ Some a)
there [] n lt = absurd (omega (arith, lt))
there (x ∷ ls) zero lt = (x, refl)
there (x ∷ ls) (suc n) lt = there ls n (omega (arith, lt))

pub raws_later : (s t : Cells) (p : Page) (v : ℕ) → Kept [] v s t → HaveRaws s p → HaveRaws t p
raws_later s t p v k h = λ n lt. raw_stays v s.cells t.cells k.grows n (h n lt)

-- a life came into its place, whose number had nothing
module _ (v : ℕ) (c d : Lives) (b : Place) (set : d.places.items ≡ slice_set c.places.items v b) (few : v < 20) (fine : FineLives c) (journal : d.journal ≡ c.journal) (codes : d.shared.codes ≡ c.shared.codes)
    (kept : Kept [] v c.shared.store d.shared.store) (page : PageJoins v c.shared.page d.shared.page) (raws : HaveRaws d.shared.store d.shared.page) where
  below : 0 + length c.places.items ≤ 32
  below = omega (arith, fine.places)

  at_v : v ≡ 0 + v
  at_v = omega arith

  accepted_is : is_accepted d.places.items v ≡ b.life.accepted
  accepted_is = ap (λ ls. is_accepted ls v) set ∙ set_accepted c.places.items v b (omega (arith, few, fine.places))

  pub rest_kept : OwnPlace d.shared v b → (b.life.accepted ≡ false → HasNothing v c.shared.store c.shared.page → HasNothing v d.shared.store d.shared.page) → KeepsRest v c d
  rest_kept own here = record {
    place = b;
    places = set;
    journal = journal;
    codes = codes;
    holds = λ all. subst (λ ls. OwnPlaces d.shared 0 ls) (sym set) (owns_set v c.shared d.shared (cells_kept v c.shared.store d.shared.store kept) page b own 0 v c.places.items at_v below all);
    cells = λ u ne. kept.others u (λ e. ne (sym e));
    nothing = λ u none. by u none (eqb u v) refl;
    raws = raws;
    page = page;
    seens = λ u ne.
        ap (λ ls. slice_get (seens_from d.shared 0 ls) u) set
        ∙ (ap (λ ss. slice_get ss u) (seens_set v c.shared d.shared (cells_kept v c.shared.store d.shared.store kept) page raws b 0 v c.places.items at_v below fine.fine) ∙ get_other (seens_of c) v u (seen_at d.shared v b) (λ e. ne (sym e)));
  }
    where
      by : (u : ℕ) → is_accepted d.places.items u ≡ false → (t : Bool) → eqb u v ≡ t → HasNothing u c.shared.store c.shared.page → HasNothing u d.shared.store d.shared.page
      by u none true e =
          let g : u ≡ v = eqb-true u v e in
          subst (λ x. HasNothing x c.shared.store c.shared.page → HasNothing x d.shared.store d.shared.page) (sym g) (here (sym accepted_is ∙ ap (is_accepted d.places.items) (sym g) ∙ none))
      by u none false e = nothing_other v u c.shared.store d.shared.store c.shared.page d.shared.page (differ u v e) (kept.others u (λ g. differ u v e (sym g))) page

  pub seats_is : FinePlace d.shared v b → ((n : ℕ) → 2 ^ 31 ≤ n → FewPlace d.shared n v b) → IsSpare d.shared.page b.root → length (nodes c.shared.page) ≤ b.root → Seats v b c d
  seats_is own bound spare fresh =
      let cells = cells_kept v c.shared.store d.shared.store kept in
      record {
        places = set;
        spare = spare;
        fresh = fresh;
        fine = record {
          places = ap length set ∙ set_length c.places.items v b ∙ fine.places;
          fine = subst (λ ls. FinePlaces d.shared 0 ls) (sym set) (fines_set v c.shared d.shared cells page raws b own 0 v c.places.items at_v below fine.fine);
          short = subst (λ js. length js ≤ 65536) (ap (λ j. j.items) (sym journal)) fine.short;
        };
        few = λ n le all. subst (λ ls. FewPlaces d.shared n 0 ls) (sym set) (fews_set v c.shared d.shared cells page raws b n (bound n le) 0 v c.places.items at_v below fine.fine all);
        seens = ap (λ ls. seens_from d.shared 0 ls) set ∙ seens_set v c.shared d.shared cells page raws b 0 v c.places.items at_v below fine.fine;
      }

-- where nothing changed but that nodes may have more cells
pub rest_same : (v : ℕ) (c d : Lives) → d.places ≡ c.places → d.journal ≡ c.journal → d.shared.codes ≡ c.shared.codes → v < 20 → FineLives c → IsFree v c → Kept [] v c.shared.store d.shared.store → PageJoins v c.shared.page d.shared.page → HaveRaws d.shared.store d.shared.page
    → (HasNothing v c.shared.store c.shared.page → HasNothing v d.shared.store d.shared.page) → KeepsRest v c d
rest_same v c d places journal codes few fine free kept page raws here =
    let a = there c.places.items v (omega (arith, few, fine.places)) in
    let set : d.places.items ≡ slice_set c.places.items v a.0 = ap (λ ls. ls.items) places ∙ set_same c.places.items v a.0 a.1 in
    rest_kept v c d a.0 set few fine journal codes kept page raws (λ its. absurd (no_true (sym (free.refused a.0 a.1) ∙ its))) (λ none. here)

-- ## What the life holds

-- without the object `lib`
pub own_bare : (v fuel : ℕ) (s : Scripts) (a : Place) (lib to root : ℕ) (d : Shared) → v < 32 → IsReady v fuel s a → HasRoot d.page v → IsConfined (trees_of a.codes.items) v d.store → owned v d.store ≡ nothing_owned → OwnPlace d v (seated lib to root a)
own_bare v fuel s a lib to root d lt ready home confined nothing = λ its. record {
  confined = confined;
  holds = holds_with v d.store d.page a.life.widget ready.life.blank home (subst (λ (o : Owned). AllByRecursion (λ (c : OwnCell). PassNodes (owns d.page v) c.kind) o.heap) (sym nothing) tt);
  turn = subst (λ (t : Option Turn). IfSome t (FineTurn (trees_of a.codes.items) v d.store d.page a.life.grant)) (sym ready.life.new.rests) tt;
}

-- with it
pub own_begun : (v fuel : ℕ) (s : Scripts) (b : Place) (d : Shared) → IsBegun d v fuel s b → OwnPlace d v b
own_begun v fuel s b d begun = λ its. let f : FineLife (lent d b) v b.life = begun.fine in record { confined = f.confined; holds = f.sound.holds; turn = f.turn }

pub few_begun : (v fuel : ℕ) (s : Scripts) (b : Place) (d : Shared) → IsBegun d v fuel s b → (n : ℕ) → 2 ^ 31 ≤ n → FewPlace d n v b
few_begun v fuel s b d begun n le = λ its. omega (arith, begun.few, le)

-- ## What came

its_confined : (fs : List Forest) (v : ℕ) (s t : Cells) → HasNoCells v s → Kept fs v s t → IsConfined fs v t
its_confined fs v s t none kept = kept.confined (nothing_confined fs v s none)

module _ (v : ℕ) (c d : Lives) (a : Place) (lib root : ℕ) (set : d.places.items ≡ slice_set c.places.items v (seated lib a.life.slot root a)) (few : v < 20) (fine : FineLives c) (free : IsFree v c) (journal : d.journal ≡ c.journal) (codes : d.shared.codes ≡ c.shared.codes)
    (kept : (fs : List Forest) → Kept fs v c.shared.store d.shared.store) (page : PageJoins v c.shared.page d.shared.page) (raws : HaveRaws d.shared.store d.shared.page)
    (tree : PlainTrees) (home : IsHome d.shared.page v tree) (ready : (fuel : ℕ) × (s : Scripts) × (fuel ≤ most_fuel) × IsReady v fuel s a) where
  -- with the object `lib`
  module _ (one : owned v d.shared.store ≡ one_object) (is : IsLib v d.shared.store lib) where
    begun : (fuel : ℕ) (s : Scripts) → fuel ≤ most_fuel → IsReady v fuel s a → IsBegun d.shared v fuel s (seated lib a.life.slot root a)
    begun fuel s le ready_is = begun_is d.shared v fuel s a ready_is lib a.life.slot root (home_tree d.shared.page v tree home) one (its_confined (trees_of a.codes.items) v c.shared.store d.shared.store free.nothing.cells (kept (trees_of a.codes.items))) raws is le

    pub life_rest : KeepsRest v c d
    life_rest =
        let it = begun ready.0 ready.1 ready.2 ready.3 in
        rest_kept v c d (seated lib a.life.slot root a) set few fine journal codes (kept []) page raws (own_begun v ready.0 ready.1 (seated lib a.life.slot root a) d.shared it) (λ none. absurd (no_true (sym none ∙ it.accepted)))

    pub life_seats : root_of d.shared.page v ≡ Some root → IsSpare d.shared.page root → length (nodes c.shared.page) ≤ root → SeatsLife v tree a c d
    life_seats at spare fresh =
        let it = begun ready.0 ready.1 ready.2 ready.3 in
        record {
          place = seated lib a.life.slot root a;
          seats = seats_is v c d (seated lib a.life.slot root a) set few fine journal codes (kept []) page raws (λ its. it.fine) (few_begun v ready.0 ready.1 (seated lib a.life.slot root a) d.shared it) spare fresh;
          slot = λ to i. record { slot = i.slot; told = i.told };
          home = home;
          root = at;
          begun = λ fuel s its. begun fuel s (omega (arith, its.life.granted, ready.3.life.granted, ready.2)) its;
        }

  -- without it
  pub bare_rest : owned v d.shared.store ≡ nothing_owned → KeepsRest v c d
  bare_rest nothing =
      rest_kept v c d (seated lib a.life.slot root a) set few fine journal codes (kept []) page raws
      (own_bare v ready.0 ready.1 a lib a.life.slot root d.shared (omega (arith, few)) ready.3 home.home (its_confined (trees_of a.codes.items) v c.shared.store d.shared.store free.nothing.cells (kept (trees_of a.codes.items))) nothing)
      (λ none. absurd (no_true (sym none ∙ ready.3.life.accepted)))

-- its root stands under nothing
pub life_seat : (v : ℕ) (c d : Lives) (a : Place) (lib root : ℕ) → d.places.items ≡ slice_set c.places.items v (seated lib a.life.slot root a) → ((fuel : ℕ) × (s : Scripts) × (fuel ≤ most_fuel) × IsReady v fuel s a) → root_of d.shared.page v ≡ Some root → IsSpare d.shared.page root → length (nodes c.shared.page) ≤ root → HasSeat v c d
life_seat v c d a lib root set ready at spare fresh = came (seated lib a.life.slot root a) set ready.3.life.accepted at spare fresh

-- an empty `div`
module _ (v to : ℕ) (name : List ℕ) (c d : Lives) (b : Place) (set : d.places.items ≡ slice_set c.places.items v b) (few : v < 20) (fine : FineLives c) (free : IsFree v c) (journal : d.journal ≡ c.journal) (codes : d.shared.codes ≡ c.shared.codes)
    (kept : (fs : List Forest) → Kept fs v c.shared.store d.shared.store) (joins : HostJoins c.shared.page d.shared.page) (same : owned v d.shared.store ≡ owned v c.shared.store) (raws : HaveRaws d.shared.store d.shared.page) (unborn : IsUnborn b) where
  its_page : PageJoins v c.shared.page d.shared.page
  its_page = host_joins v c.shared.page d.shared.page joins

  refuses : b.life.accepted ≡ true → ⊥
  refuses its = no_true (sym unborn.refused ∙ its)

  pub div_rest : KeepsRest v c d
  div_rest = rest_kept v c d b set few fine journal codes (kept []) its_page raws (λ its. absurd (refuses its)) (λ none. nothing_host v c.shared.store d.shared.store c.shared.page d.shared.page same joins)

  pub div_seats : IsIn to b → IsSpare d.shared.page b.root → length (nodes c.shared.page) ≤ b.root → IsLot d.shared.page (lot_of name None) b.root → SeatsDiv v to name c d
  div_seats slot spare fresh lot = record {
    place = b;
    seats = seats_is v c d b set few fine journal codes (kept []) its_page raws (λ its. absurd (refuses its)) (λ n le its. absurd (refuses its)) spare fresh;
    slot = slot;
    unborn = unborn;
    lot = lot;
  }

-- a life that is ready is so for another slot
pub ready_in : (w fuel to : ℕ) (s : Scripts) (a : Place) → IsReady w fuel s a → IsReady w fuel s (record a { life = record a.life { slot = to } })
ready_in w fuel to s a r = let n = r.life.new in record {
  codes = r.codes;
  many = r.many;
  life = record {
    accepted = r.life.accepted;
    granted = r.life.granted;
    blank = r.life.blank;
    new = record { uncaught = n.uncaught; turns = n.turns; spent = n.spent; missed = n.missed; gone = n.gone; stop = n.stop; rests = n.rests };
  };
  queue = r.queue;
}

module _ (ts : List Tree) (s : Slot) (x : Coming) (c d : Lives) where
  pub comes_life : (tree : Plain) (places : Vec ℕ Global) (script : Accepted) (scripts : Scripts) (a : Place) → x.content ≡ slot.Runs tree places script → AreScriptsAt ts places.items script scripts → IsReady x.v s.fuel scripts a → IsIn x.to a → SeatsLife x.v (unplaced tree) a c d → Comes ts s x c d
  comes_life tree places script scripts a is are ready its j =
      let begun = j.begun s.fuel scripts ready in
      record {
        place = j.place;
        places = j.seats.places;
        home = (j.slot x.to its).slot;
        life = subst (λ y. IsFirstLife d.shared x.v s.fuel (content_in ts y) j.place) (sym is) (begun_first ts d.shared x.v s.fuel j.place tree places script scripts are j.home begun);
        scripts = subst (λ y. HasScriptsIn ts y (map tree_in j.place.codes.items)) (sym is) (begun_scripts ts d.shared x.v s.fuel j.place tree places script scripts are begun);
        told = (j.slot x.to its).told;
        spare = j.seats.spare;
        fresh = j.seats.fresh;
        root = λ its. j.root;
        div = λ none. absurd (no_true (sym none ∙ begun.accepted));
        fine = j.seats.fine;
        few = j.seats.few;
        seens = j.seats.seens;
      }

  pub comes_div : x.content ≡ slot.Refused → SeatsDiv x.v x.to s.name c d → Comes ts s x c d
  comes_div is j = record {
    place = j.place;
    places = j.seats.places;
    home = j.slot.slot;
    life = subst (λ y. IsFirstLife d.shared x.v s.fuel (content_in ts y) j.place) (sym is) j.unborn.refused;
    scripts = subst (λ y. HasScriptsIn ts y (map tree_in j.place.codes.items)) (sym is) (ap (map tree_in) j.unborn.codes);
    told = j.slot.told;
    spare = j.seats.spare;
    fresh = j.seats.fresh;
    root = λ its. absurd (no_true (sym j.unborn.refused ∙ its));
    div = λ none. j.lot;
    fine = j.seats.fine;
    few = j.seats.few;
    seens = j.seats.seens;
  }

-- a place without a life for another slot
pub unborn_seated : (a : Place) (to root : ℕ) → IsUnborn a → IsUnborn (record a { life = record a.life { slot = to }; root = root })
unborn_seated a to root u = record { refused = u.refused; codes = u.codes }

-- where nothing changed
pub rest_here : (v : ℕ) (c : Lives) → v < 20 → FineLives c → IsFree v c → HaveRaws c.shared.store c.shared.page → KeepsRest v c c
rest_here v c few fine free raws = rest_same v c c refl refl refl few fine free (kept_same [] v c.shared.store c.shared.store refl) (page_stays v c.shared.page) raws (λ h. h)

-- by what is answered
pub seat_none : {E : Type 0} (r : Result (Unit {0}) E) (v : ℕ) (c d : Lives) → d.places.items ≡ c.places.items → OnErr r (HasSeat v c d)
seat_none (Ok x) v c d e = tt
seat_none (Err x) v c d e = none_came e

pub comes_ok : {E : Type 0} (r : Result (Unit {0}) E) {P Q : Type 0} → (P → Q) → OnOk r P → OnOk r Q
comes_ok (Ok x) f h = f h
comes_ok (Err e) f h = tt
