-- Reading JSON keeps an invariant.
use Rattle.serde_json.specs.Data as json
use Rattle.std.specs.Prelude.{ℕ, ◌+◌, Bool, true, false, List, [], ◌∷◌, ◌++◌, length}
use Rattle.std.specs.List.{fold}
use Rattle.widget_meaning.specs.Values.{Value, Text}
use Rattle.widget_meaning.specs.OwnState.{State, Cell, Kind, Object, Array, Function, Bunch, with_new_cell}
use Rattle.widget_meaning.specs.JsonValues.{give_read, read_value, from_json, cells_at, items_at, members_at}
use Rattle.widget_meaning.specs.Ways.{ByValue}
use Rattle.widget_meaning.specs.Keeps.{Invariant, Keeps, OfFunction}
use Rattle.widget_meaning.proofs.Keeping.{halted, either, charged, paid, faulted, R, found, wanted, born, gave}

-- none of these objects is a function
abbrev pub NoFunctions : List Cell → Type 0
NoFunctions [] = Unit {0}
NoFunctions (c ∷ cs) = OfFunction (λ o. ⊥) c.kind × NoFunctions cs

both : (cs ds : List Cell) → NoFunctions cs → NoFunctions ds → NoFunctions (cs ++ ds)
both [] ds h k = k
both (c ∷ cs) ds h k = (h.0, both cs ds h.1 k)

mutual
  no_functions : (n : ℕ) (d : json.Data) → NoFunctions (cells_at n d)
  no_functions n json.null = tt
  no_functions n (json.boolean b) = tt
  no_functions n (json.number x) = tt
  no_functions n (json.string bs) = tt
  no_functions n (json.array ds) = (tt, in_items (n + 1) 0 ds)
  no_functions n (json.object ms) = (tt, in_members (n + 1) ms)

  in_items : (n i : ℕ) (ds : json.Items) → NoFunctions (items_at n i ds).1
  in_items n i json.no_items = tt
  in_items n i (json.item d ds) = both (cells_at n d) _ (no_functions n d) (in_items (n + length (cells_at n d)) (i + 1) ds)

  in_members : (n : ℕ) (ms : json.Members) → NoFunctions (members_at n ms).1
  in_members n json.no_members = tt
  in_members n (json.member k d ms) = both (cells_at n d) _ (no_functions n d) (in_members (n + length (cells_at n d)) ms)

module _ (inv : Invariant) (many : ℕ) where
  any_kind : (k : Kind) → OfFunction (λ o. ⊥) k → OfFunction (inv.links.Older many) k
  any_kind (Function f o) h = absurd h
  any_kind Object h = tt
  any_kind (Array n) h = tt
  any_kind (Bunch ns) h = tt

  cells_kept : (s : State) (cs : List Cell) → R inv many s → NoFunctions cs → R inv many (fold with_new_cell s cs)
  cells_kept s [] hr h = hr
  cells_kept s (c ∷ cs) hr h = cells_kept (with_new_cell s c) cs (born inv many s.own.counts s.own.timers s.own.clock s.own.heap s.own.scopes s.own.forest (length s.own.kept) c hr (any_kind c.kind h.0)) h.1

  pub give_read_r : (x0 : Bool) (x1 : Value) (x2 : List Cell) (x3 : List (List ℕ)) (x4 : State) → R inv many x4 → NoFunctions x2 → Keeps inv many ByValue (give_read x0 x1 x2 x3 x4)
  give_read_r false v cs ts s hr h = search (halted) depth 8 fits 4000
  give_read_r true v cs ts s hr h = search (either, halted, paid, gave, cells_kept) depth 8 fits 4000

  pub read_value_r : (x0 : ℕ) (x1 : json.Data) (x2 : List Cell) (x3 : Value) (x4 : State) → R inv many x4 → NoFunctions x2 → Keeps inv many ByValue (read_value x0 x1 x2 x3 x4)
  read_value_r extra d cs v s hr h = search (wanted, charged, give_read_r)

  pub from_json_r : (x0 : Value) (x1 : State) → R inv many x1 → Keeps inv many ByValue (from_json x0 x1)
  from_json_r (Text t) s hr = search (found, read_value_r, no_functions)
  from_json_r v s hr = search (faulted)
