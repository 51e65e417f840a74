-- Pieces come one after another.
use Rattle.std.proofs.Common.{◌≡◌, ◌≢◌, ℕ, zero, suc, ◌+◌, ◌<◌, ◌≤◌, List, [], ◌∷◌, ◌++◌, Bool, true, false, if◌then◌else◌, refl, sym, ap, ◌∙◌, subst, length, map, option_map, take, get_or, None, Some, arith, eqb, eqb-true, eq-eqb}
use Rattle.std.specs.Prelude.{Err, Ok, OnOk, Result, nat_eq, option_to_list, slice_get}
use Rattle.std.specs.declared.alloc.Global.{Global}
use Rattle.std.specs.declared.vec.Vec.{Vec}
use Rattle.code_units.specs.declared.memory.Memory.{Memory}
use Rattle.std.specs.List.{flat_map}
use Rattle.std.proofs.lemmas.List.{append-nil, append_assoc, flat_map_more, length-append, map-append, take_all, take_more}
use Rattle.js_tree.specs.Forest.{Forest}
use Rattle.plain_tree.specs.declared.plain.Plain.{Plain}
use Rattle.plain_tree.specs.Plains.{unplaced, unplaced_all}
use Rattle.plain_tree.specs.Trees.{PlainTrees}
use Rattle.store_cells.specs.Cells.{Cells}
use Rattle.object_store.specs.Owned.{Owned, owned}
use Rattle.js_image.specs.Held.{IsConfined}
use Rattle.page_nodes.proofs.Plains.{unplaced_more}
use Rattle.page_tree.specs.declared.page.Page.{Page}
use Rattle.page_build.specs.Homes.{HaveRaws, IsAway, IsHome, IsPlaced}
use Rattle.page_build.specs.Layout.{IsLaidOut, IsLot, Lot, Spot, each_tree, home_of, lot_of}
use Rattle.page_build.specs.Standing.{IsStanding, has_place, piece_spots}
use Rattle.page_build.proofs.Laid.{each_beside}
use Rattle.page_plan.specs.declared.Piece.{Piece}
use Rattle.page_plan.specs.declared.Piece.TheVariants as spec
use Rattle.page_plan.specs.declared.SlotContent.{SlotContent}
use Rattle.page_plan.specs.declared.SlotContent.TheVariants as slot
use Rattle.page_plan.specs.declared.SlotSpec.{SlotSpec}
use Rattle.page_plan.specs.Pages.{PagePiece, Place, Trees, piece_of}
use Rattle.page_load.specs.Laying.{AreLaid, HasNoCells, IsBare, IsUnused, LaysOut}

no_true : false ≡ true → ⊥
no_true e = cc

none_some : {A : Type 0} {a : A} → None ≡ Some a → ⊥
none_some e = cc

some_some : {A : Type 0} (a b : A) → Some a ≡ Some b → a ≡ b
some_some a b e = cc

-- ## Markup

each_last : (ps : List Plain) (p : Plain) → each_tree (unplaced_all (ps ++ p ∷ [])) ≡ each_tree (unplaced_all ps) ++ each_tree (unplaced p)
each_last ps p = ap each_tree (unplaced_more ps p) ∙ each_beside (unplaced_all ps) (unplaced p)

pub markup_none : (q : Page) (lots : List Lot) → IsLaidOut q lots → IsLaidOut q (lots ++ [])
markup_none q lots h = subst (IsLaidOut q) (sym (append-nil lots)) h

pub markup_more : (content : List Plain) (i : ℕ) (tree : Plain) → i < length content → tree ≡ get_or content i tree → (q : Page) (lots : List Lot) → IsLaidOut q ((lots ++ each_tree (unplaced_all (take i content))) ++ each_tree (unplaced tree)) → IsLaidOut q (lots ++ each_tree (unplaced_all (take (i + 1) content)))
markup_more content i tree lt is q lots h =
    subst (IsLaidOut q)
    (append_assoc lots (each_tree (unplaced_all (take i content))) (each_tree (unplaced tree))
    ∙ ap (λ l. lots ++ l) (sym (each_last (take i content) tree) ∙ ap (λ ps. each_tree (unplaced_all ps)) (sym (take_more content i tree lt ∙ ap (λ x. take i content ++ x ∷ []) (sym is)))))
    h

pub markup_all : (content : List Plain) (i : ℕ) → length content ≤ i → (q : Page) (lots : List Lot) → IsLaidOut q (lots ++ each_tree (unplaced_all (take i content))) → IsLaidOut q (lots ++ each_tree (unplaced_all content))
markup_all content i le q lots h = subst (λ ps. IsLaidOut q (lots ++ each_tree (unplaced_all ps))) (take_all i content le) h

-- ## Pieces

if_more : (b x y : Bool) → (x ≡ true → y ≡ true) → (if b then true else x) ≡ true → (if b then true else y) ≡ true
if_more true x y f e = refl
if_more false x y f e = f e

-- a slot stays among pieces where more come behind them
place_front : (w : ℕ) (xs ys : List PagePiece) → has_place w xs ≡ true → has_place w (xs ++ ys) ≡ true
place_front w [] ys e = absurd (no_true e)
place_front w (Trees t ∷ xs) ys e = place_front w xs ys e
place_front w (Place u ∷ xs) ys e = if_more (nat_eq u w) (has_place w xs) (has_place w (xs ++ ys)) (place_front w xs ys) e

-- and is there where it came last
place_last : (w : ℕ) (xs : List PagePiece) → has_place w (xs ++ Place w ∷ []) ≡ true
place_last w [] = ap (λ b. if b then true else false) (eq-eqb w w refl)
place_last w (Trees t ∷ xs) = place_last w xs
place_last w (Place u ∷ xs) = if_more (nat_eq u w) true (has_place w (xs ++ Place w ∷ [])) (λ e. place_last w xs) (yes (nat_eq u w))
  where
    yes : (b : Bool) → (if b then true else true) ≡ true
    yes true = refl
    yes false = refl

get_seam : (xs : List ℕ) (x : ℕ) (ys : List ℕ) → slice_get (xs ++ x ∷ ys) (length xs) ≡ Some x
get_seam [] x ys = refl
get_seam (z ∷ xs) x ys = get_seam xs x ys

-- no piece came yet
pub lays_none : (p : Page) (roots : List ℕ) → roots ≡ [] → IsLaidOut p [] → LaysOut p roots []
lays_none p roots none h = record { laid = λ more. h; places = λ w lt. absurd (let e = ap (length {A = ℕ}) none in omega (arith, lt, e)) }

module _ (p q : Page) (roots : List ℕ) (before : List PagePiece) where
  -- markup came
  pub lays_markup : (content : List Plain) → ((lots : List Lot) → IsLaidOut p lots → IsLaidOut q (lots ++ each_tree (unplaced_all content))) → LaysOut p roots before → LaysOut q roots (before ++ Trees (unplaced_all content) ∷ [])
  lays_markup content came h = record {
    laid = λ more. subst (IsLaidOut q) (flat_map_more (piece_spots (roots ++ more)) [] before (Trees (unplaced_all content))) (came _ (h.laid more));
    places = λ w lt. place_front w before (Trees (unplaced_all content) ∷ []) (h.places w lt);
  }

  -- the next slot came
  pub lays_slot : (n : ℕ) (new : List ℕ) → new ≡ roots ++ n ∷ [] → ((lots : List Lot) → IsLaidOut p lots → IsLaidOut q (lots ++ Spot n ∷ [])) → LaysOut p roots before → LaysOut q new (before ++ Place (length roots) ∷ [])
  lays_slot n new is came h = record {
    laid = λ more.
        let all : new ++ more ≡ roots ++ n ∷ more = ap (λ r. r ++ more) is ∙ append_assoc roots (n ∷ []) more in
        let spots = roots ++ n ∷ more in
        let here : IsLaidOut q (flat_map (piece_spots spots) before ++ piece_spots spots (Place (length roots))) =
        subst (λ o. IsLaidOut q (flat_map (piece_spots spots) before ++ option_to_list (option_map Spot o))) (sym (get_seam roots n more)) (came _ (h.laid (n ∷ more))) in
        subst (λ r. IsLaidOut q (flat_map (piece_spots r) (before ++ Place (length roots) ∷ []))) (sym all)
        (subst (IsLaidOut q) (flat_map_more (piece_spots spots) [] before (Place (length roots))) here);
    places = λ w lt. by w (ap (length {A = ℕ}) is ∙ length-append roots (n ∷ [])) lt (eqb w (length roots)) refl;
  }
    where
      last : (w : ℕ) → w ≡ length roots → has_place w (before ++ Place (length roots) ∷ []) ≡ true
      last w e = subst (λ u. has_place w (before ++ Place u ∷ []) ≡ true) e (place_last w before)

      by : (w : ℕ) → length new ≡ length roots + 1 → w < length new → (b : Bool) → eqb w (length roots) ≡ b → has_place w (before ++ Place (length roots) ∷ []) ≡ true
      by w long lt true e = last w (eqb-true w (length roots) e)
      by w long lt false e =
          let ne : w ≡ length roots → ⊥ = λ g. no_true (sym e ∙ eq-eqb w (length roots) g) in
          place_front w before (Place (length roots) ∷ []) (h.places w (omega (arith, lt, long, ne)))

pub markup_lays_ok : (p q : Page) (roots : List ℕ) (r : Result (Unit {0}) Memory) (content : Vec Plain Global) (piece : Piece) → piece ≡ spec.Html content → OnOk r ((lots : List Lot) → IsLaidOut p lots → IsLaidOut q (lots ++ each_tree (unplaced_all content.items)))
    → OnOk r ((before : List PagePiece) → LaysOut p roots before → LaysOut q roots (before ++ piece_of piece ∷ []))
markup_lays_ok p q roots (Ok x) content piece is came = λ before h. subst (λ x. LaysOut q roots (before ++ piece_of x ∷ [])) (sym is) (lays_markup p q roots before content.items came h)
markup_lays_ok p q roots (Err e) content piece is came = tt

-- the pieces up to a place, one more and all
module _ (pieces : List Piece) (p : Page) (roots : List ℕ) (i : ℕ) where
  pub pieces_more : (piece : Piece) → i < length pieces → piece ≡ get_or pieces i piece → LaysOut p roots (map piece_of (take i pieces) ++ piece_of piece ∷ []) → LaysOut p roots (map piece_of (take (i + 1) pieces))
  pieces_more piece lt is h =
      let whole : map piece_of (take (i + 1) pieces) ≡ map piece_of (take i pieces) ++ piece_of piece ∷ [] = ap (map piece_of) (take_more pieces i piece lt ∙ ap (λ x. take i pieces ++ x ∷ []) (sym is)) ∙ map-append piece_of (take i pieces) (piece ∷ []) in
      subst (LaysOut p roots) (sym whole) h

  pub pieces_all : length pieces ≤ i → LaysOut p roots (map piece_of (take i pieces)) → LaysOut p roots (map piece_of pieces)
  pieces_all le h = subst (λ ps. LaysOut p roots (map piece_of ps)) (take_all i pieces le) h

-- ## Slots

placed_stays : (p q : Page) (w : ℕ) (content : SlotContent) → ((tree : PlainTrees) → IsHome p w tree → IsHome q w tree) → (IsAway p w → IsAway q w) → IsPlaced p w content → IsPlaced q w content
placed_stays p q w (slot.Runs body libs script) home away h = home (unplaced body) h
placed_stays p q w slot.Refused home away h = away h

within : {X : Type 0} (xs : List X) (n : ℕ) (x : X) → slice_get xs n ≡ Some x → n < length xs
within [] n x at = absurd (none_some at)
within (y ∷ xs) zero x at = omega arith
within (y ∷ xs) (suc n) x at = omega (arith, within xs n x at)

-- who has no cell has none where what he has stays
pub no_cells : (v : ℕ) (s t : Cells) → owned v t ≡ owned v s → HasNoCells v s → HasNoCells v t
no_cells v s t same h = record { heap = ap (λ (o : Owned). o.heap) same ∙ h.heap; scopes = ap (λ (o : Owned). o.scopes) same ∙ h.scopes }

-- who has nothing has nothing where what all have stays
unused_stays : (s t : Cells) (first : ℕ) → ((v : ℕ) → owned v t ≡ owned v s) → ((fs : List Forest) (v : ℕ) → IsConfined fs v s → IsConfined fs v t) → IsUnused s first → IsUnused t first
unused_stays s t first same confined h = record { nothing = λ v le lt. same v ∙ h.nothing v le lt; confined = λ fs v. confined fs v (h.confined fs v) }

pub bare_stays : (v : ℕ) (s t : Cells) → owned v t ≡ owned v s → IsBare v s → IsBare v t
bare_stays v s t same h = record { cells = no_cells v s t same h.cells; unpaid = λ lt. same ∙ h.unpaid lt }

-- nothing came yet
pub laid_none : (slots : List SlotSpec) (roots : List ℕ) (s : Cells) (p : Page) → roots ≡ [] → ((w : ℕ) → w < 32 → IsAway p w) → HaveRaws s p → IsUnused s 0 → ((w : ℕ) → IsBare w s) → AreLaid slots roots s p
laid_none slots roots s p none away raws unused free =
    let long : length roots ≡ 0 = ap (length {A = ℕ}) none in
    record {
      within = omega (arith, long);
      placed = λ w x lt at. absurd (omega (arith, lt, long));
      lots = λ w n x here at. absurd (none_some (sym (ap (λ r. slice_get r w) none) ∙ here));
      stand = λ w n here. absurd (none_some (sym (ap (λ r. slice_get r w) none) ∙ here));
      away = λ w le lt. away w lt;
      raws = raws;
      unused = unused;
      free = free;
    }

-- markup came
laid_markup : (slots : List SlotSpec) (roots : List ℕ) (s t : Cells) (p q : Page) → length slots ≤ 16
    → ((v : ℕ) → v < 32 → IsAway p v → IsAway q v) → ((v : ℕ) (tree : PlainTrees) → v < 32 → IsHome p v tree → IsHome q v tree) → (HaveRaws s p → HaveRaws t q)
    → ((lot : Lot) (n : ℕ) → IsLot p lot n → IsLot q lot n) → ((n : ℕ) → IsStanding p n → IsStanding q n)
    → ((v : ℕ) → owned v t ≡ owned v s) → ((fs : List Forest) (v : ℕ) → IsConfined fs v s → IsConfined fs v t)
    → AreLaid slots roots s p → AreLaid slots roots t q
laid_markup slots roots s t p q few away home raws kept standing same confined h = record {
  within = h.within;
  placed = λ w x lt at. placed_stays p q w x.content (λ tree. home w tree (omega (arith, lt, h.within, few))) (away w (omega (arith, lt, h.within, few))) (h.placed w x lt at);
  lots = λ w n x here at. kept _ n (h.lots w n x here at);
  stand = λ w n here. standing n (h.stand w n here);
  away = λ w le lt. away w lt (h.away w le lt);
  raws = raws h.raws;
  unused = unused_stays s t 0 same confined h.unused;
  free = λ v. bare_stays v s t (same v) (h.free v);
}

pub markup_ok : (slots : List SlotSpec) (roots : List ℕ) (s t : Cells) (p q : Page) (r : Result (Unit {0}) Memory) → length slots ≤ 16
    → OnOk r ((v : ℕ) → v < 32 → IsAway p v → IsAway q v) → OnOk r ((v : ℕ) (tree : PlainTrees) → v < 32 → IsHome p v tree → IsHome q v tree) → OnOk r (HaveRaws s p → HaveRaws t q)
    → OnOk r ((lot : Lot) (n : ℕ) → IsLot p lot n → IsLot q lot n) → OnOk r ((n : ℕ) → IsStanding p n → IsStanding q n)
    → OnOk r ((v : ℕ) → owned v t ≡ owned v s) → OnOk r ((fs : List Forest) (v : ℕ) → IsConfined fs v s → IsConfined fs v t)
    → AreLaid slots roots s p → OnOk r (AreLaid slots roots t q)
markup_ok slots roots s t p q (Ok x) few away home raws kept standing same confined h = laid_markup slots roots s t p q few away home raws kept standing same confined h
markup_ok slots roots s t p q (Err e) few away home raws kept standing same confined h = tt

-- the next slot came
module _ (slots : List SlotSpec) (roots new : List ℕ) (m : ℕ) (x : SlotSpec) (s t : Cells) (p q : Page) (few : length slots ≤ 16) (at : slice_get slots (length roots) ≡ Some x) (is : new ≡ roots ++ m ∷ []) where
  long : length new ≡ length roots + 1
  long = ap (length {A = ℕ}) is ∙ length-append roots (m ∷ [])

  differ : (w : ℕ) → eqb w (length roots) ≡ false → w ≡ length roots → ⊥
  differ w e g = no_true (sym e ∙ eq-eqb w (length roots) g)

  back : (xs : List ℕ) (w n : ℕ) → (w ≡ length xs → ⊥) → slice_get (xs ++ m ∷ []) w ≡ Some n → slice_get xs w ≡ Some n
  back [] zero n ne there = absurd (ne refl)
  back [] (suc w) n ne there = absurd (none_some there)
  back (y ∷ xs) zero n ne there = there
  back (y ∷ xs) (suc w) n ne there = back xs w n (λ e. ne (ap suc e)) there

  -- of the older slots, and of this one
  older : (w n : ℕ) → slice_get new w ≡ Some n → (w ≡ length roots → ⊥) → slice_get roots w ≡ Some n
  older w n there ne = back roots w n ne (ap (λ r. slice_get r w) (sym is) ∙ there)

  here_is : (w n : ℕ) → slice_get new w ≡ Some n → w ≡ length roots → m ≡ n
  here_is w n there e = some_some m n (sym (get_seam roots m []) ∙ ap (λ r. slice_get r (length roots)) (sym is) ∙ ap (slice_get new) (sym e) ∙ there)

  laid_slot : IsPlaced q (length roots) x.content → IsLot q (lot_of x.name (home_of (length roots) x.content)) m → IsStanding q m → HaveRaws t q
      → ((v : ℕ) (tree : PlainTrees) → v < 32 → v ≢ length roots → IsHome p v tree → IsHome q v tree) → ((v : ℕ) → v < 32 → v ≢ length roots → IsAway p v → IsAway q v)
      → ((lot : Lot) (n : ℕ) → IsLot p lot n → IsLot q lot n) → ((n : ℕ) → IsStanding p n → IsStanding q n)
      → ((v : ℕ) → owned v t ≡ owned v s) → ((fs : List Forest) (v : ℕ) → IsConfined fs v s → IsConfined fs v t)
      → AreLaid slots roots s p → AreLaid slots new t q
  laid_slot placed lot stands raws home away kept standing same confined h = record {
    within = omega (arith, long, within slots (length roots) x at);
    placed = λ w y lt there. by_placed w y lt there (eqb w (length roots)) refl;
    lots = λ w n y there spec. by_lot w n y there spec (eqb w (length roots)) refl;
    stand = λ w n there. by_stand w n there (eqb w (length roots)) refl;
    away = λ w le lt. away w lt (λ e. omega (arith, e, le, long)) (h.away w (omega (arith, le, long)) lt);
    raws = raws;
    unused = unused_stays s t 0 same confined h.unused;
    free = λ v. bare_stays v s t (same v) (h.free v);
  }
    where
      same_slot : (w : ℕ) (y : SlotSpec) → slice_get slots w ≡ Some y → w ≡ length roots → x ≡ y
      same_slot w y there g = some_some x y (sym at ∙ ap (slice_get slots) (sym g) ∙ there)

      by_placed : (w : ℕ) (y : SlotSpec) → w < length new → slice_get slots w ≡ Some y → (b : Bool) → eqb w (length roots) ≡ b → IsPlaced q w y.content
      by_placed w y lt there true e =
          let g = eqb-true w (length roots) e in
          subst (λ (z : SlotSpec). IsPlaced q w z.content) (same_slot w y there g) (subst (λ v. IsPlaced q v x.content) (sym g) placed)
      by_placed w y lt there false e =
          let ne = differ w e in
          let low : w < length roots = omega (arith, lt, ne, long) in
          let few_w : w < 32 = omega (arith, low, within slots (length roots) x at, few) in
          placed_stays p q w y.content (λ tree. home w tree few_w ne) (away w few_w ne) (h.placed w y low there)

      by_lot : (w n : ℕ) (y : SlotSpec) → slice_get new w ≡ Some n → slice_get slots w ≡ Some y → (b : Bool) → eqb w (length roots) ≡ b → IsLot q (lot_of y.name (home_of w y.content)) n
      by_lot w n y there spec true e =
          let g = eqb-true w (length roots) e in
          subst (IsLot q (lot_of y.name (home_of w y.content))) (here_is w n there g)
          (subst (λ (z : SlotSpec). IsLot q (lot_of z.name (home_of w z.content)) m) (same_slot w y spec g) (subst (λ v. IsLot q (lot_of x.name (home_of v x.content)) m) (sym g) lot))
      by_lot w n y there spec false e = kept _ n (h.lots w n y (older w n there (differ w e)) spec)

      by_stand : (w n : ℕ) → slice_get new w ≡ Some n → (b : Bool) → eqb w (length roots) ≡ b → IsStanding q n
      by_stand w n there true e = subst (IsStanding q) (here_is w n there (eqb-true w (length roots) e)) stands
      by_stand w n there false e = standing n (h.stand w n (older w n there (differ w e)))

  -- of the slot with this number
  pub laid_next : (w : ℕ) → w ≡ length roots → IsPlaced q w x.content → IsLot q (lot_of x.name (home_of w x.content)) m → IsStanding q m → HaveRaws t q
      → ((v : ℕ) (tree : PlainTrees) → v < 32 → v ≢ w → IsHome p v tree → IsHome q v tree) → ((v : ℕ) → v < 32 → v ≢ w → IsAway p v → IsAway q v)
      → ((lot : Lot) (n : ℕ) → IsLot p lot n → IsLot q lot n) → ((n : ℕ) → IsStanding p n → IsStanding q n)
      → ((v : ℕ) → owned v t ≡ owned v s) → ((fs : List Forest) (v : ℕ) → IsConfined fs v s → IsConfined fs v t)
      → AreLaid slots roots s p → AreLaid slots new t q
  laid_next w e placed lot stands raws home away kept standing same confined h =
      laid_slot (subst (λ u. IsPlaced q u x.content) e placed) (subst (λ u. IsLot q (lot_of x.name (home_of u x.content)) m) e lot) stands raws
      (λ v tree lt ne. home v tree lt (λ g. ne (g ∙ e))) (λ v lt ne. away v lt (λ g. ne (g ∙ e))) kept standing same confined h
