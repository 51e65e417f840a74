-- A store with the host's cells alone is confined, and no widget has anything in it.
use Rattle.std.proofs.Common.{◌≡◌, ℕ, zero, suc, ◌<◌, List, [], ◌∷◌, map, refl, sym, ap, subst, ◌∙◌, Some, None, slice_get, false, true, cond, arith, replicate}
use Rattle.std.specs.List.{AllByRecursion, filter}
use Rattle.std.proofs.lemmas.List.{get_or-replicate, length-replicate}
use Rattle.std.proofs.lemmas.Option.{slice_get-get_or}
use Rattle.permitted_table.specs.declared.native.HostEntry.{HostEntry}
use Rattle.permitted_table.specs.Table.{entries}
use Rattle.js_tree.specs.Forest.{Forest}
use Rattle.store_cells.specs.Cells.{PlainCell, is_visible}
use Rattle.store_cells.specs.Host.{entry_cell, first_store, host_cells, nothing_paid}
use Rattle.object_store.specs.Owned.{is_own_scope, own_cell, own_scope, owned}
use Rattle.page_nodes.specs.Entries.{body}
use Rattle.js_image.specs.Held.{IsConfined}
use Rattle.native_image.specs.Sound.{HasRaw}
use Rattle.page_load.specs.Laying.{HasNoCells, IsBare, IsUnused, nothing_owned}

-- a cell of the host is of no widget
abbrev IsHosts : ℕ → PlainCell → Type 0
IsHosts w c = (is_visible w c ≡ false) × (is_own_scope w c ≡ false)

all_hosts : (w : ℕ) (es : List HostEntry) → AllByRecursion (IsHosts w) (map entry_cell es)
all_hosts w [] = tt
all_hosts w (e ∷ es) = ((refl, refl), all_hosts w es)

hosts : (w : ℕ) → AllByRecursion (IsHosts w) host_cells
unfolding host_cells
hosts w = ((refl, refl), ((refl, refl), all_hosts w entries))

none_some : {A : Type 0} {a : A} → None ≡ Some a → ⊥
none_some e = cc

some_some : {A : Type 0} (a b : A) → Some a ≡ Some b → a ≡ b
some_some a b e = cc

all_at : {X : Type 0} (P : X → Type 0) (xs : List X) → AllByRecursion P xs → (i : ℕ) (x : X) → slice_get xs i ≡ Some x → P x
all_at P [] h i x at = absurd (none_some at)
all_at P (y ∷ xs) h zero x at = subst P (some_some y x at) h.0
all_at P (y ∷ xs) h (suc i) x at = all_at P xs h.1 i x at

no_bool : true ≡ false → ⊥
no_bool e = cc

first_confined : (fs : List Forest) (w : ℕ) → IsConfined fs w first_store
first_confined fs w = record {
  each = λ i c at. let h = all_at (IsHosts w) host_cells (hosts w) i c at in record {
    cell = λ v. absurd (no_bool (sym v ∙ h.0));
    scope = λ v. absurd (no_bool (sym v ∙ h.1));
  };
}

module _ (w : ℕ) where
  no_cells : (cs : List PlainCell) → AllByRecursion (IsHosts w) cs → filter (is_visible w) cs ≡ []
  no_cells [] h = refl
  no_cells (c ∷ cs) h = ap (λ b. cond b (c ∷ filter (is_visible w) cs) (filter (is_visible w) cs)) h.0.0 ∙ no_cells cs h.1

  no_scopes : (cs : List PlainCell) → AllByRecursion (IsHosts w) cs → filter (is_own_scope w) cs ≡ []
  no_scopes [] h = refl
  no_scopes (c ∷ cs) h = ap (λ b. cond b (c ∷ filter (is_own_scope w) cs) (filter (is_own_scope w) cs)) h.0.1 ∙ no_scopes cs h.1

  none_paid : w < 32 → slice_get (replicate 32 nothing_paid) w ≡ Some nothing_paid
  none_paid lt = slice_get-get_or (replicate 32 nothing_paid) w nothing_paid (let long = length-replicate 32 nothing_paid in omega (arith, lt, long)) ∙ ap Some (get_or-replicate 32 w nothing_paid nothing_paid lt)

  first_nothing : w < 32 → owned w first_store ≡ nothing_owned
  unfolding owned
  first_nothing lt = λ j. record {
    heap = map (own_cell w host_cells) (no_cells host_cells (hosts w) j);
    scopes = map (own_scope w host_cells) (no_scopes host_cells (hosts w) j);
    paid = none_paid lt j;
  }

  first_free : HasNoCells w first_store
  unfolding owned
  first_free = record { heap = ap (map (own_cell w host_cells)) (no_cells host_cells (hosts w)); scopes = ap (map (own_scope w host_cells)) (no_scopes host_cells (hosts w)) }

  pub first_bare : IsBare w first_store
  first_bare = record { cells = first_free; unpaid = first_nothing }

-- `body` has its cell
pub first_body : HasRaw first_store.cells body
unfolding host_cells
first_body = refl

pub first_unused : IsUnused first_store 0
first_unused = record { nothing = λ v le lt. first_nothing v lt; confined = first_confined }
