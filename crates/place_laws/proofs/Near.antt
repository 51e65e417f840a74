-- States whose functions have other places: how they are read and changed.
use Rattle.std.proofs.Common.{◌≡◌, ℕ, zero, suc, List, [], ◌∷◌, length, Option, Some, None, refl, sym, ap, subst, ◌∙◌}
use Rattle.std.specs.Prelude.{pos, if◌then◌else◌, unwrap_or, option_map}
use Rattle.std.proofs.lemmas.List.{map-append, map-set, length-map}
use Rattle.std.proofs.Math.ListN.{get_or-map}
use Rattle.permitted_table.specs.declared.native.HostEntry.TheVariants as host
use Rattle.permitted_table.specs.declared.native.HostEntry.{HostEntry}
use Rattle.widget_meaning.specs.Limits.{max_chain}
use Rattle.widget_meaning.specs.Values.{Value, Undefined, Null, Truth, NaN, Num, Text, Own, Host}
use Rattle.widget_meaning.specs.OwnState.{State, Cell, Kind, Object, Array, Function, Bunch, cell_at, kind_of, array_length, bunch_nodes, with_cell, with_new_cell, plain_object}
use Rattle.widget_meaning.specs.Properties.{is_length, own_property, kind_property, prototype, or_else, on_chain, along, property, get, keys, names_on_chain, names_of, is_function_kind, is_own_function, is_function, permitted_names, listed}
use Rattle.place_laws.specs.Bare.{bare_kind, bare_cell, bare_own}

-- a state with the places of its functions forgotten
abbrev pub bare : State → State
bare s = record { own = bare_own s.own; dispatches = s.dispatches }

-- the second state is the first one without places
pub record N (s z : State) : Type 0 where
  pub same : z ≡ bare s

pub itself : (s : State) → N s (bare s)
itself s = record { same = refl }

-- what is said of the bare state is said of the second
pub moved : (P : State → Type 0) (s z : State) → N s z → P (bare s) → P z
moved P s z e p = subst P (sym e.same) p

-- ## What is read

pub cell_bare : (s : State) (n : ℕ) → cell_at (bare s) n ≡ bare_cell (cell_at s n)
cell_bare s n = get_or-map bare_cell s.own.heap n (plain_object [])

pub births : (s : State) → length (bare s).own.heap ≡ length s.own.heap
births s = length-map s.own.heap bare_cell

kind_bare : (k : Kind) (c : Cell) (x : List ℕ) → kind_property (bare_kind k) c.pairs x ≡ kind_property k c.pairs x
kind_bare Object c x = refl
kind_bare (Array n) c x = refl
kind_bare (Function f o) c x = refl
kind_bare (Bunch ns) c x = refl

pub own_bare : (s : State) (v : Value) (x : List ℕ) → own_property (bare s) v x ≡ own_property s v x
own_bare s (Own n) x = ap (λ (c : Cell). kind_property c.kind c.pairs x) (cell_bare s n) ∙ kind_bare (cell_at s n).kind (cell_at s n) x
own_bare s (Host h) x = refl
own_bare s Undefined x = refl
own_bare s Null x = refl
own_bare s (Truth b) x = refl
own_bare s NaN x = refl
own_bare s (Num z) x = refl
own_bare s (Text t) x = refl

pub prototype_bare : (s : State) (v : Value) → prototype (bare s) v ≡ prototype s v
prototype_bare s (Own n) = ap (λ (c : Cell). Some c.prototype) (cell_bare s n)
prototype_bare s (Host h) = refl
prototype_bare s Undefined = refl
prototype_bare s Null = refl
prototype_bare s (Truth b) = refl
prototype_bare s NaN = refl
prototype_bare s (Num z) = refl
prototype_bare s (Text t) = refl

chain_bare : (m : ℕ) (s : State) (o : Option Value) (x : List ℕ) → on_chain m (bare s) o x ≡ on_chain m s o x
chain_bare zero s o x = refl
chain_bare (suc m) s None x = refl
chain_bare (suc m) s (Some o) x =
    (λ i. or_else (own_bare s o x i) (λ _. on_chain m (bare s) (prototype_bare s o i) x))
    ∙ ap (λ (r : Option Value). or_else (own_property s o x) (λ _. r)) (chain_bare m s (prototype s o) x)

along_bare : (s : State) (v : Value) (x : List ℕ) → along (bare s) v x ≡ along s v x
along_bare s v x = chain_bare (suc max_chain) s (Some v) x

pub property_bare : (s : State) (v : Value) (x : List ℕ) → property (bare s) v x ≡ property s v x
property_bare s Undefined x = refl
property_bare s Null x = refl
property_bare s (Truth b) x = along_bare s (Host host.BooleanPrototype) x
property_bare s NaN x = along_bare s (Host host.NumberPrototype) x
property_bare s (Num z) x = along_bare s (Host host.NumberPrototype) x
property_bare s (Text t) x = ap (λ (r : Option Value). if is_length x then Some (Num (pos (length t))) else r) (along_bare s (Host host.TextPrototype) x)
property_bare s (Own n) x = along_bare s (Own n) x
property_bare s (Host h) x = along_bare s (Host h) x

pub get_bare : (s : State) (v : Value) (x : List ℕ) → get (bare s) v x ≡ get s v x
get_bare s v x = ap (λ r. unwrap_or r Undefined) (property_bare s v x)

pub keys_bare : (s : State) (v : Value) → keys (bare s) v ≡ keys s v
keys_bare s (Own n) = ap (λ (c : Cell). permitted_names c.pairs) (cell_bare s n)
keys_bare s (Host h) = refl
keys_bare s Undefined = refl
keys_bare s Null = refl
keys_bare s (Truth b) = refl
keys_bare s NaN = refl
keys_bare s (Num z) = refl
keys_bare s (Text t) = refl

names_chain_bare : (m : ℕ) (s : State) (o : Option Value) (xs : List (List ℕ)) → names_on_chain m (bare s) o xs ≡ names_on_chain m s o xs
names_chain_bare zero s o xs = refl
names_chain_bare (suc m) s None xs = refl
names_chain_bare (suc m) s (Some (Own n)) xs =
    ap (λ (c : Cell). names_on_chain m (bare s) (Some c.prototype) (listed xs (permitted_names c.pairs))) (cell_bare s n)
    ∙ names_chain_bare m s (Some (cell_at s n).prototype) (listed xs (permitted_names (cell_at s n).pairs))
names_chain_bare (suc m) s (Some (Host h)) xs = refl
names_chain_bare (suc m) s (Some Undefined) xs = refl
names_chain_bare (suc m) s (Some Null) xs = refl
names_chain_bare (suc m) s (Some (Truth b)) xs = refl
names_chain_bare (suc m) s (Some NaN) xs = refl
names_chain_bare (suc m) s (Some (Num z)) xs = refl
names_chain_bare (suc m) s (Some (Text t)) xs = refl

pub names_bare : (s : State) (v : Value) → names_of (bare s) v ≡ names_of s v
names_bare s v = names_chain_bare (suc max_chain) s (Some v) []

-- what an object is
pub kind_of_bare : (s : State) (v : Value) → kind_of (bare s) v ≡ option_map bare_kind (kind_of s v)
kind_of_bare s (Own n) = ap (λ (c : Cell). Some c.kind) (cell_bare s n)
kind_of_bare s (Host h) = refl
kind_of_bare s Undefined = refl
kind_of_bare s Null = refl
kind_of_bare s (Truth b) = refl
kind_of_bare s NaN = refl
kind_of_bare s (Num z) = refl
kind_of_bare s (Text t) = refl

by_kind : {A : Type 0} (f : Option Kind → A) → ((k : Option Kind) → f (option_map bare_kind k) ≡ f k) → (s : State) (v : Value) → f (kind_of (bare s) v) ≡ f (kind_of s v)
by_kind f e s v = ap f (kind_of_bare s v) ∙ e (kind_of s v)

length_kind : (k : Option Kind) → array_length (option_map bare_kind k) ≡ array_length k
length_kind None = refl
length_kind (Some Object) = refl
length_kind (Some (Array n)) = refl
length_kind (Some (Function f o)) = refl
length_kind (Some (Bunch ns)) = refl

nodes_kind : (k : Option Kind) → bunch_nodes (option_map bare_kind k) ≡ bunch_nodes k
nodes_kind None = refl
nodes_kind (Some Object) = refl
nodes_kind (Some (Array n)) = refl
nodes_kind (Some (Function f o)) = refl
nodes_kind (Some (Bunch ns)) = refl

function_kind : (k : Option Kind) → is_function_kind (option_map bare_kind k) ≡ is_function_kind k
function_kind None = refl
function_kind (Some Object) = refl
function_kind (Some (Array n)) = refl
function_kind (Some (Function f o)) = refl
function_kind (Some (Bunch ns)) = refl

pub array_bare : (s : State) (v : Value) → array_length (kind_of (bare s) v) ≡ array_length (kind_of s v)
array_bare s v = by_kind array_length length_kind s v

pub bunch_bare : (s : State) (v : Value) → bunch_nodes (kind_of (bare s) v) ≡ bunch_nodes (kind_of s v)
bunch_bare s v = by_kind bunch_nodes nodes_kind s v

pub own_function_bare : (s : State) (v : Value) → is_own_function (bare s) v ≡ is_own_function s v
own_function_bare s v = by_kind is_function_kind function_kind s v

pub function_bare : (s : State) (v : Value) → is_function (bare s) v ≡ is_function s v
function_bare s (Own n) = own_function_bare s (Own n)
function_bare s (Host h) = host_function s h
  where
    host_function : (s : State) (h : HostEntry) → is_function (bare s) (Host h) ≡ is_function s (Host h)
    host_function s (host.Native w) = refl
    host_function s h = refl
function_bare s Undefined = refl
function_bare s Null = refl
function_bare s (Truth b) = refl
function_bare s NaN = refl
function_bare s (Num z) = refl
function_bare s (Text t) = refl

-- ## What is changed

pub born : (s z : State) (c : Cell) → N s z → N (with_new_cell s c) (with_new_cell z (bare_cell c))
born s z c e = moved (λ y. N (with_new_cell s c) (with_new_cell y (bare_cell c))) s z e
    (record { same = λ i. record { own = record s.own { heap = sym (map-append bare_cell s.own.heap (c ∷ [])) i }; dispatches = s.dispatches } })

pub written : (s z : State) (n : ℕ) (c : Cell) → N s z → N (with_cell s n c) (with_cell z n (bare_cell c))
written s z n c e = moved (λ y. N (with_cell s n c) (with_cell y n (bare_cell c))) s z e
    (record { same = λ i. record { own = record s.own { heap = sym (map-set bare_cell s.own.heap n c) i }; dispatches = s.dispatches } })
