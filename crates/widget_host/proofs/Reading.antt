-- What can be relied on of the store and the page of a host.
use Rattle.std.proofs.Common.{◌≡◌, ℕ, zero, suc, ◌+◌, ◌≤◌, List, [], ◌∷◌, length, map, true, false, refl, sym, ap, ◌∙◌, subst, arith, Option, None, Some}
use Rattle.std.proofs.lemmas.Bool.{eqb-true}
use Rattle.std.specs.Prelude.{slice_get, slice_index_or, is_some, IfSome}
use Rattle.std.specs.Option.{option_and_then, option_map}
use Rattle.js_tree.specs.Trees.{trees}
use Rattle.js_names.specs.declared.code.Code.{Code}
use Rattle.js_names.specs.Code.{tree_in, trees_of}
use Rattle.store_cells.specs.declared.kind.Form.{Form}
use Rattle.store_cells.specs.declared.kind.Form.TheVariants as form
use Rattle.store_cells.specs.Born.{raw_place}
use Rattle.store_cells.specs.Cells.{PlainCell, form_at, is_raw, node_in}
use Rattle.store_cells.proofs.Places.{position_at}
use Rattle.page_image.specs.Image.{HasRoot}
use Rattle.native_image.specs.Sound.{HasRaw}
use Rattle.js_image.specs.Held.{IsConfined}
use Rattle.life_laws.specs.Life.{Going, Seen, image, shown}
use Rattle.native_image.specs.declared.handed.Shared.{Shared}
use Rattle.slot_picks.specs.declared.lives.Place.{Place}
use Rattle.slot_picks.specs.Turn.{Turn}
use Rattle.slot_picks.specs.Fine.{FineTurn}
use Rattle.slot_picks.specs.QueueLives.{going_of, life_seen, own_of, trees_in}
use Rattle.slot_picks.specs.Places.{HoldsItsOwn, accepts_of, codes_of, lent}
use Rattle.widget_host.specs.declared.host.Host.{Host}
use Rattle.widget_host.specs.Housed.{IsHoused, IsWhole, accepts, own_trees, scripts, seens}
use Rattle.widget_host.specs.Shapes.{HasOneRaw, IsReadOff, cells_of_host, cells_of_widgets}
use Rattle.widget_host.proofs.Lasts.{some_is}
use Rattle.widget_host.proofs.Counting.{cells_counted}
use Rattle.widget_host.proofs.Staying.{scripts_by}
use Rattle.widget_host.proofs.Shown.{fine_at, life_accepted, life_at, own_at, seen_of_life}

none_some : {A : Type 0} {a : A} → None ≡ Some a → ⊥
none_some e = cc

no_true : false ≡ true → ⊥
no_true e = cc

-- ## RawNodes

raw_form : (n : ℕ) (f : Form) → is_raw n f ≡ true → f ≡ form.RawNode n
raw_form n form.Object e = cc
raw_form n form.Array e = cc
raw_form n (form.Function p) e = cc
raw_form n (form.Native m) e = cc
raw_form n form.Scope e = cc
raw_form n form.Bunch e = cc
raw_form n (form.RawNode m) e = ap form.RawNode (sym (eqb-true n m e))
raw_form n form.Global e = cc

module _ (cells : List PlainCell) (n : ℕ) (law : (i m : ℕ) (c : PlainCell) → slice_get cells i ≡ Some c → node_in c.form ≡ Some m → raw_place m cells ≡ Some i) where
  form_there : (i : ℕ) (c : PlainCell) → slice_get cells i ≡ Some c → form_at cells i ≡ Some c.form
  form_there i c at = ap (option_and_then (λ (d : PlainCell). Some d.form)) at

  cell_there : (i : ℕ) (f : Form) → form_at cells i ≡ Some f → (c : PlainCell) × (slice_get cells i ≡ Some c) × (c.form ≡ f)
  cell_there i f is = by (slice_get cells i) refl is
    where
      by : (o : Option PlainCell) → slice_get cells i ≡ o → option_and_then (λ (d : PlainCell). Some d.form) o ≡ Some f → (c : PlainCell) × (slice_get cells i ≡ Some c) × (c.form ≡ f)
      by None e g = absurd (none_some g)
      by (Some c) e g = (c, e, some_is c.form f g)

  found : (i : ℕ) → form_at cells i ≡ Some (form.RawNode n) → raw_place n cells ≡ Some i
  found i is = let c = cell_there i (form.RawNode n) is in law i n c.0 c.1 (ap node_in c.2)

  pub one_raw : HasRaw cells n → HasOneRaw cells n
  one_raw has = by (raw_place n cells) refl has
    where
      by : (o : Option ℕ) → raw_place n cells ≡ o → is_some o ≡ true → HasOneRaw cells n
      by None e h = absurd (no_true h)
      by (Some i) e h =
          let c = position_at (λ (d : PlainCell). is_raw n d.form) cells i e in
          record {
            place = i;
            is = form_there i c.0 c.1 ∙ ap Some (raw_form n c.0.form c.2);
            one = λ j is. some_is j i (sym (found j is) ∙ e);
          }

-- ## What is seen of a life

read_shown : (h : Shared) (w : ℕ) (l : Place) (g : Option Going) → IsReadOff (trees_of l.codes.items) h w (shown g (own_of (lent h l) w l.life))
read_shown h w l None = record { heap = refl; scopes = refl; trees = refl; counts = refl }
read_shown h w l (Some t) = record { heap = refl; scopes = refl; trees = refl; counts = refl }

read_life : (h : Shared) (w : ℕ) (l : Place) → IsReadOff (trees_of l.codes.items) h w (image (life_seen (lent h l) w l.life))
read_life h w l = read_shown h w l (option_map (going_of (lent h l) w l.life) l.life.turn)

-- the scripts of a life
pub scripts_at : (ls : List Place) (v : ℕ) (l : Place) → slice_get ls v ≡ Some l → scripts_by v (codes_of ls) ≡ map tree_in l.codes.items
scripts_at [] v l at = absurd (none_some at)
scripts_at (y ∷ ls) zero l at = ap (λ (z : Place). map tree_in z.codes.items) (some_is y l at)
scripts_at (y ∷ ls) (suc v) l at = scripts_at ls v l at

trees_each : (cs : List Code) → map trees (map tree_in cs) ≡ trees_of cs
trees_each [] = refl
trees_each (c ∷ cs) = ap (λ fs. trees (tree_in c) ∷ fs) (trees_each cs)

none_behind : (ls : List Place) (v : ℕ) → length ls ≤ v → slice_index_or (accepts_of ls) v false ≡ false
none_behind [] v le = refl
none_behind (l ∷ ls) zero le = absurd (omega (arith, le))
none_behind (l ∷ ls) (suc v) le = none_behind ls v (omega (arith, le))

module _ (h : Host) where
  -- the trees of a life
  trees_at : (v : ℕ) (l : Place) → slice_get h.lives.places.items v ≡ Some l → trees_of l.codes.items ≡ own_trees h v
  unfolding scripts
  trees_at v l at = sym (ap (map trees) (scripts_at h.lives.places.items v l at) ∙ trees_each l.codes.items)

  pub read_off : (v : ℕ) (s : Seen) → accepts h v ≡ true → slice_get (seens h) v ≡ Some s → IsReadOff (own_trees h v) h.lives.shared v (image s)
  unfolding accepts seens
  read_off v s is at =
      let r = life_at h.lives.shared 0 v h.lives.places.items s at in
      subst (λ fs. IsReadOff fs h.lives.shared v (image s)) (trees_at v r.0 r.1)
      (subst (λ (t : Seen). IsReadOff (trees_of r.0.codes.items) h.lives.shared v (image t)) (sym (seen_of_life h.lives.shared v h.lives.places.items r.0 s r.1 is at)) (read_life h.lives.shared v r.0))

  -- ## What each holds

  module _ (housed : IsHoused h) where
    pub holds_own : (v : ℕ) (l : Place) → slice_get h.lives.places.items v ≡ Some l → l.life.accepted ≡ true → HoldsItsOwn h.lives.shared v l
    unfolding IsHoused
    holds_own v l at is = own_at h.lives.shared 0 v v h.lives.places.items l (omega arith) at housed.0.own is

    holds_accepted : (v : ℕ) → accepts h v ≡ true → (l : Place) × (slice_get h.lives.places.items v ≡ Some l) × HoldsItsOwn h.lives.shared v l
    unfolding accepts
    holds_accepted v is = let r = life_accepted h.lives.places.items v is in (r.0, r.1, holds_own v r.0 r.1 r.2)

    pub confined_at : (v : ℕ) → accepts h v ≡ true → IsConfined (own_trees h v) v h.lives.shared.store
    confined_at v is = let r = holds_accepted v is in subst (λ fs. IsConfined fs v h.lives.shared.store) (trees_at v r.0 r.1) r.2.confined

    pub root_at : (v : ℕ) → accepts h v ≡ true → HasRoot h.lives.shared.page v
    root_at v is = (holds_accepted v is).2.holds.home

    -- the cells are the host's and those of its lives
    pub counted_at : length h.lives.shared.store.cells ≡ cells_of_host h.lives.shared.store + cells_of_widgets h.lives.shared.store (length h.lives.places.items)
    unfolding IsHoused accepts
    counted_at = cells_counted h.lives.shared.store (length h.lives.places.items) (λ v le. (housed.0.others v (none_behind h.lives.places.items v le)).cells)

-- a turn has no more fuel left than it was granted
pub grant_kept : (h : Host) → IsWhole h → (v : ℕ) (l : Place) → slice_get h.lives.places.items v ≡ Some l → l.life.accepted ≡ true → IfSome l.life.turn (λ t. t.left ≤ l.life.grant)
grant_kept h whole v l at is = left_few l.life.turn (fine_at h.lives.shared 0 v v h.lives.places.items l (omega arith) at whole.slots.lives.fine is).turn
  where
    left_few : (o : Option Turn) → IfSome o (FineTurn (trees_in (lent h.lives.shared l)) v h.lives.shared.store h.lives.shared.page l.life.grant) → IfSome o (λ t. t.left ≤ l.life.grant)
    left_few None f = tt
    left_few (Some t) f = f.left
