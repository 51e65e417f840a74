-- What picks keep, as a host has it.
use Rattle.std.proofs.Common.{◌≡◌, ℕ, List, [], map, length, false, refl, sym, ap, ◌∙◌, subst}
use Rattle.std.specs.Prelude.{Err, Ok, OnOk, Result, slice_index_or}
use Rattle.std.specs.List.{IsDistinct}
use Rattle.std.specs.Str.{bytes_eq}
use Rattle.std.specs.declared.alloc.Global.{Global}
use Rattle.std.specs.declared.vec.Vec.{Vec}
use Rattle.std.proofs.lemmas.List.{length-map}
use Rattle.js_tree.specs.declared.tree.Tree.{Tree}
use Rattle.js_names.specs.declared.code.Code.{Code}
use Rattle.js_names.specs.Code.{tree_in}
use Rattle.object_store.specs.Owned.{Owned}
use Rattle.page_image.specs.Image.{own}
use Rattle.page_build.proofs.Homes.{away_by}
use Rattle.page_build.proofs.Pieces.{laid_passes}
use Rattle.page_build.proofs.Passing.{pages_here, pages_then}
use Rattle.page_build.specs.Standing.{HavePlaces}
use Rattle.page_plan.specs.Pages.{PagePiece}
use Rattle.slot_picks.specs.declared.lives.Lives.{Lives}
use Rattle.slot_picks.specs.declared.lives.Place.{Place}
use Rattle.slot_picks.specs.declared.slots.Slot.{Slot}
use Rattle.slot_picks.specs.Lives.{KeepsSlots, chains_of, spots_of}
use Rattle.slot_picks.specs.Places.{is_accepted}
use Rattle.widget_host.specs.declared.host.Host.{Host}
use Rattle.widget_host.specs.Housed.{IsApart, IsLaid, KeepsHost, KeepsPlan, accepts, channels, ends, fuels, homes, libraries, names, scripts, shared, spots}

-- lives stay apart
module _ (old new : Host) (k : KeepsSlots old.lives new.lives old.slots.items new.slots.items) (a : IsApart old) where
  was_none : (v : ℕ) → accepts new v ≡ false → is_accepted old.lives.places.items v ≡ false
  unfolding accepts
  was_none v none = ap (λ flags. slice_index_or flags v false) (sym k.lives.accepts) ∙ none

  pub apart_stays : IsApart new
  unfolding accepts names
  apart_stays = record {
    twenty = sym (length-map new.lives.places.items (λ (p : Place). p.life.slot)) ∙ ap length k.lives.homes ∙ length-map old.lives.places.items (λ (p : Place). p.life.slot) ∙ a.twenty;
    own = k.lives.holds a.own;
    others = λ v none.
        let before = a.others v (was_none v none) in
        let nodes : own new.lives.shared.page v ≡ [] = k.lives.nodes v (was_none v none) ∙ before.nodes in
        record {
          cells = record {
            heap = ap (λ (o : Owned). o.heap) (k.lives.cells v (was_none v none)) ∙ before.cells.heap;
            scopes = ap (λ (o : Owned). o.scopes) (k.lives.cells v (was_none v none)) ∙ before.cells.scopes;
          };
          nodes = nodes;
          unpaid = λ low. k.lives.cells v (was_none v none) ∙ before.unpaid low;
          away = λ low. away_by new.lives.shared.page v low (k.page.roots v low ∙ (before.away low).free) nodes;
        };
    standing = k.standing a.standing;
    distinct = subst (IsDistinct bytes_eq) (sym k.names) a.distinct;
  }

-- the scripts of the life at a place, by the codes of all
abbrev pub scripts_by : ℕ → List (Vec Code Global) → List Tree
scripts_by v all = slice_index_or (map (λ (codes : Vec Code Global). map tree_in codes.items) all) v []

-- so many slots stay
slots_long : (ss ts : List Slot) → map (λ (s : Slot). s.name) ts ≡ map (λ (s : Slot). s.name) ss → length ts ≡ length ss
slots_long ss ts e = sym (length-map ts (λ (s : Slot). s.name)) ∙ ap length e ∙ length-map ss (λ (s : Slot). s.name)

-- a spot for each slot
pub spots_long : (c : Lives) (ss : List Slot) → length (spots_of c ss) ≡ length ss
spots_long c ss = length-map (chains_of ss) _ ∙ length-map ss (λ (s : Slot). s.lives.items)

-- a host keeps what its slots do, where nothing else of it changes
module _ (old new : Host) (k : KeepsSlots old.lives new.lives old.slots.items new.slots.items) (pairs : new.channels ≡ old.channels) (libs : new.libs ≡ old.libs) (over : new.ends ≡ old.ends) where
  long : length (spots_of new.lives new.slots.items) ≡ length (spots_of old.lives old.slots.items)
  long = spots_long new.lives new.slots.items ∙ slots_long old.slots.items new.slots.items k.names ∙ sym (spots_long old.lives old.slots.items)

  pub laid_stays : (xs : List (List ℕ)) (pieces : List PagePiece) → IsLaid old xs pieces → IsLaid new xs pieces
  unfolding IsLaid names spots
  laid_stays xs pieces laid =
      let many : length xs ≡ length (spots_of old.lives old.slots.items) = ap length laid.0 ∙ length-map old.slots.items (λ (s : Slot). s.name) ∙ sym (spots_long old.lives old.slots.items) in (
        laid.0 ∙ sym k.names,
        laid.1,
        laid_passes old.lives.shared.page new.lives.shared.page (spots_of old.lives old.slots.items) (spots_of new.lives new.slots.items) k.page.host long pieces (subst (λ n. HavePlaces n pieces) many laid.1) laid.2,
      )

  pub host_stays : KeepsHost old new
  unfolding homes accepts scripts channels ends names fuels libraries spots shared
  host_stays = record {
    plan = record {
      channels = ap (λ c. c.items) pairs;
      libraries = ap (λ (c : Vec Code Global). map tree_in c.items) libs;
      names = k.names;
      fuels = k.fuels;
    };
    homes = k.lives.homes;
    accepts = λ v. ap (λ flags. slice_index_or flags v false) k.lives.accepts;
    scripts = λ v. ap (scripts_by v) k.lives.codes;
    ends = ap (λ c. c.items) over;
    page = k.page;
    laid = laid_stays;
  }

-- ## One call after another

pub plan_here : (h : Host) → KeepsPlan h h
plan_here h = record { channels = refl; libraries = refl; names = refl; fuels = refl }

pub plan_then : (old mid new : Host) → KeepsPlan old mid → KeepsPlan mid new → KeepsPlan old new
plan_then old mid new f g = record { channels = g.channels ∙ f.channels; libraries = g.libraries ∙ f.libraries; names = g.names ∙ f.names; fuels = g.fuels ∙ f.fuels }

pub host_here : (h : Host) → KeepsHost h h
host_here h = record { plan = plan_here h; homes = refl; accepts = λ v. refl; scripts = λ v. refl; ends = refl; page = pages_here (shared h).page (spots h); laid = λ xs pieces laid. laid }

pub host_then : (old mid new : Host) → KeepsHost old mid → KeepsHost mid new → KeepsHost old new
host_then old mid new f g = record {
  plan = plan_then old mid new f.plan g.plan;
  homes = g.homes ∙ f.homes;
  accepts = λ v. g.accepts v ∙ f.accepts v;
  scripts = λ v. g.scripts v ∙ f.scripts v;
  ends = g.ends ∙ f.ends;
  page = pages_then (shared old).page (shared mid).page (shared new).page (spots old) (spots mid) (spots new) f.page g.page;
  laid = λ xs pieces laid. g.laid xs pieces (f.laid xs pieces laid);
}

pub ok_then : {T E A : Type 0} (r : Result T E) (x y z : A) → OnOk r (x ≡ y) → y ≡ z → OnOk r (x ≡ z)
ok_then (Ok t) x y z e f = e ∙ f
ok_then (Err g) x y z e f = tt
