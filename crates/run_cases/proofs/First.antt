-- A store with the host's cells alone is confined.
use Rattle.std.proofs.Common.{◌≡◌, ℕ, zero, suc, List, [], ◌∷◌, map, refl, subst, Some, slice_get, false}
use Rattle.std.specs.List.{AllByRecursion}
use Rattle.permitted_table.specs.declared.native.HostEntry.{HostEntry}
use Rattle.permitted_table.specs.Table.{entries}
use Rattle.js_tree.specs.Forest.{Forest}
use Rattle.store_cells.specs.Cells.{PlainCell, is_visible}
use Rattle.store_cells.specs.Host.{entry_cell, first_store, host_cells}
use Rattle.object_store.specs.Owned.{is_own_scope}
use Rattle.js_image.specs.Held.{IsConfined}

-- a cell of the host is of no widget
abbrev IsHosts : PlainCell → Type 0
IsHosts c = (is_visible 0 c ≡ false) × (is_own_scope 0 c ≡ false)

all_hosts : (es : List HostEntry) → AllByRecursion IsHosts (map entry_cell es)
all_hosts [] = tt
all_hosts (e ∷ es) = ((refl, refl), all_hosts es)

hosts : AllByRecursion IsHosts host_cells
unfolding host_cells
hosts = ((refl, refl), ((refl, refl), all_hosts entries))

host_at : (cs : List PlainCell) → AllByRecursion IsHosts cs → (i : ℕ) (c : PlainCell) → slice_get cs i ≡ Some c → IsHosts c
host_at [] h i c at = absurd (cc)
host_at (d ∷ cs) h zero c at = let same : d ≡ c = cc in subst IsHosts same h.0
host_at (d ∷ cs) h (suc i) c at = host_at cs h.1 i c at

pub first_confined : (fs : List Forest) → IsConfined fs 0 first_store
first_confined fs = record {
  each = λ i c at. let h = host_at host_cells hosts i c at in record {
    cell = λ v. absurd (cc (v, h.0));
    scope = λ v. absurd (cc (v, h.1));
  };
}
