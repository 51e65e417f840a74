-- What the store holds for a widget, as the meaning has it.
use Rattle.std.specs.Prelude.{ℕ, ◌≡◌, ◌-◌, false, List, [], Option, Some, None, map, unwrap_or, if◌then◌else◌, Bool, nat_eq, nat_lt, position, refl, slice_index_or}
use Rattle.std.specs.Option.{option_map_or}
use Rattle.js_tree.specs.declared.nodes.FunId.{FunId}
use Rattle.js_tree.specs.Plain.{Fun}
use Rattle.js_tree.specs.Forest.{Forest, no_trees, fun_at}
use Rattle.plain_tree.specs.Trees.{End}
use Rattle.permitted_table.specs.declared.native.HostEntry.{HostEntry}
use Rattle.permitted_table.specs.declared.native.HostEntry.TheVariants as entry
use Rattle.permitted_table.specs.Table.{entries}
use Rattle.store_cells.specs.declared.value.Value.{Value as StoreValue}
use Rattle.store_cells.specs.declared.value.Value.TheVariants as value
use Rattle.store_cells.specs.declared.value.Number.TheVariants as number
use Rattle.store_cells.specs.declared.counts.Counts.{Counts}
use Rattle.store_cells.specs.Cells.{Cells, PlainCell}
use Rattle.store_cells.specs.Host.{object_prototype}
use Rattle.object_store.specs.Owned as store
use Rattle.object_store.specs.Owned.{OwnCell, OwnKind, OwnScope, OwnValue, Owned, owned, own_pairs, own_value}
use Rattle.widget_meaning.specs.Limits.{max_nodes}
use Rattle.widget_meaning.specs.Values.{Value, Undefined, Null, Truth, NaN, Num, Text, Own, Host}
use Rattle.widget_meaning.specs.OwnState.{Amounts, Cell, Kind, Object, Array, Function, Bunch, Pairs, Scope, State, with_own}
use Rattle.widget_meaning.specs.Scopes.{without_name}

-- What the store does not hold: the widget's nodes by birth, and the rest of its state, of which heap, scopes and the counts of the store are passed over.
pub record Rest : Type 0 where
  pub nodes : List ℕ
  pub state : State
  pub few : nat_lt max_nodes state.own.counts.nodes ≡ false

-- the entry of the permitted table at a place of the store
abbrev pub entry_at : ℕ → HostEntry
entry_at i = slice_index_or entries (i - object_prototype) entry.ObjectPrototype

-- a value
abbrev pub meant : OwnValue → Value
meant (store.Is value.Undefined) = Undefined
meant (store.Is value.Null) = Null
meant (store.Is (value.Bool b)) = Truth b
meant (store.Is (value.Num number.NaN)) = NaN
meant (store.Is (value.Num (number.Whole z))) = Num z
meant (store.Is (value.Text t)) = Text t
meant (store.Is (value.Ref i)) = Undefined
meant (store.Own n) = Own n
meant (store.Other i) = Host (entry_at i)

-- pairs of a name and a value
abbrev pub meant_pairs : List (List ℕ × OwnValue) → Pairs
meant_pairs ps = map (λ p. (p.0, meant p.1)) ps

-- the number of a page node
abbrev pub node_number : List ℕ → ℕ → ℕ
node_number nodes n = unwrap_or (position (nat_eq n) nodes) 0

-- a function of the trees; the name of a declared one is no variable of its own calls
abbrev pub function_in : List Forest → ℕ → FunId → Bool → Fun
function_in fs code fun declared =
    if declared then without_name (fun_at (slice_index_or fs code no_trees) fun) else fun_at (slice_index_or fs code no_trees) fun

module _ (fs : List Forest) (nodes : List ℕ) where
  -- what a cell is
  abbrev pub meant_kind : OwnKind → Kind
  meant_kind store.Object = Object
  meant_kind (store.Array n) = Array n
  meant_kind (store.Function code fun declared scope) = Function (function_in fs code fun declared) scope
  meant_kind (store.Bunch ns) = Bunch (map (node_number nodes) ns)

  -- a visible cell
  abbrev pub meant_cell : OwnCell → Cell
  meant_cell c = record { kind = meant_kind c.kind; prototype = option_map_or meant c.prototype Undefined; pairs = meant_pairs c.pairs }

-- a scope
abbrev pub meant_scope : OwnScope → Scope
meant_scope c = record { outer = c.outer; pairs = meant_pairs c.pairs }

-- what was paid in the store, and the nodes
abbrev pub meant_counts : ℕ → Option Counts → Amounts
meant_counts nodes None = record { units = 0; cells = 0; slots = 0; nodes = nodes }
meant_counts nodes (Some k) = record { units = k.units; cells = k.cells; slots = k.slots; nodes = nodes }

-- the state of a widget, from what it has in the store and the rest
abbrev pub state_of : List Forest → Rest → Owned → State
state_of fs r o = with_own r.state (record r.state.own {
  heap = map (meant_cell fs r.nodes) o.heap;
  scopes = map meant_scope o.scopes;
  counts = meant_counts r.state.own.counts.nodes o.paid;
})

-- the image of a store for one widget
abbrev pub image : List Forest → Rest → ℕ → Cells → State
image fs r w s = state_of fs r (owned w s)

module _ (w : ℕ) (cells : List PlainCell) where
  -- a value of the store as the widget has it
  abbrev pub seen : StoreValue → Value
  seen v = meant (own_value w cells v)

  -- several values
  abbrev pub all_seen : List StoreValue → List Value
  all_seen vs = map seen vs

  -- pairs of a name and a value
  abbrev pub seen_pairs : List (List ℕ × StoreValue) → Pairs
  seen_pairs ps = meant_pairs (own_pairs w cells ps)

-- a widget of which nothing is known beside the store
abbrev pub no_rest : Rest
no_rest = record {
  nodes = [];
  state = record {
    own = record {
      heap = [];
      scopes = [];
      forest = End;
      kept = [];
      timers = [];
      clock = 0;
      focus = None;
      log = [];
      uncaught = [];
      posts = [];
      counts = record { units = 0; cells = 0; slots = 0; nodes = 0 };
      turns = 0;
      spent = 0;
      missed = 0;
      gone = 0;
      stop = None;
      grant = 0;
    };
    dispatches = [];
  };
  few = refl;
}
