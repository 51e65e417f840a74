-- Chains of prototypes: they stay short, and walks along them end by themselves.
use Rattle.std.proofs.Common.{◌≡◌, ℕ, zero, suc, ◌<◌, ◌≤◌, List, [], ◌∷◌, ◌++◌, length, refl, sym, ap, subst, Bool, true, false, arith}
use Rattle.std.specs.Prelude.{Option, Some, None, slice_set, option_map, nat_lt}
use Rattle.std.proofs.lemmas.Bool.{ltb-true, ltb-false}
use Rattle.permitted_table.specs.declared.native.HostEntry.{HostEntry}
use Rattle.permitted_table.specs.declared.native.HostEntry.TheVariants as host
use Rattle.permitted_table.specs.Table as table
use Rattle.widget_meaning.specs.HostTable.{host_prototype}
use Rattle.widget_meaning.specs.Limits.{max_chain}
use Rattle.widget_meaning.specs.Values.{Value, Undefined, Null, Truth, NaN, Num, Text, Own, Host}
use Rattle.widget_meaning.specs.OwnState.{State, Cell, cell_at, plain_object}
use Rattle.widget_meaning.specs.Properties.{prototype, own_property, or_else, on_chain, names_on_chain, listed, permitted_names}
use Rattle.widget_meaning.specs.AdsafeNatives.{chain_from}
use Rattle.meaning_laws.specs.There.{IsBelow, IsShort, cell_in, prototype_in}
use Rattle.meaning_laws.proofs.Each.{at_end, at_old, past_end}
use Rattle.meaning_laws.proofs.Later.{below_later}

-- a value that may be absent
abbrev pub OfBelow : ℕ → Option Value → Type 0
OfBelow n None = Unit {0}
OfBelow n (Some v) = IsBelow n v

host_below : (n : ℕ) (h : HostEntry) → OfBelow n (host_prototype h)
host_below n h = by (table.prototype_of h)
  where
    by : (o : Option HostEntry) → OfBelow n (option_map Host o)
    by None = tt
    by (Some g) = tt

pub nothing_short : (m : ℕ) (hs : List Cell) → IsShort m hs None
nothing_short zero hs = tt
nothing_short (suc m) hs = tt

-- an object that is born changes no chain of older ones
pub short_later : (m : ℕ) (hs : List Cell) (c : Cell) (o : Option Value) → ((n : ℕ) → IsBelow (length hs) (cell_in hs n).prototype)
    → OfBelow (length hs) o → IsShort m hs o → IsShort m (hs ++ c ∷ []) o
short_later zero hs c None ps b h = tt
short_later zero hs c (Some v) ps b h = h
short_later (suc m) hs c None ps b h = tt
short_later (suc m) hs c (Some Undefined) ps b h = nothing_short m (hs ++ c ∷ [])
short_later (suc m) hs c (Some Null) ps b h = nothing_short m (hs ++ c ∷ [])
short_later (suc m) hs c (Some (Truth x)) ps b h = nothing_short m (hs ++ c ∷ [])
short_later (suc m) hs c (Some NaN) ps b h = nothing_short m (hs ++ c ∷ [])
short_later (suc m) hs c (Some (Num x)) ps b h = nothing_short m (hs ++ c ∷ [])
short_later (suc m) hs c (Some (Text x)) ps b h = nothing_short m (hs ++ c ∷ [])
short_later (suc m) hs c (Some (Host x)) ps b h = short_later m hs c (host_prototype x) ps (host_below (length hs) x) h
short_later (suc m) hs c (Some (Own n)) ps b h =
    subst (λ d. IsShort m (hs ++ c ∷ []) (Some d.prototype)) (sym (at_old hs c (plain_object []) n b))
    (short_later m hs c (Some (cell_in hs n).prototype) ps (ps n) h)

less_le : (m n : ℕ) → m < n → m ≤ n
less_le m n h = omega arith

-- an older prototype is there
from_older : (hs : List Cell) → ((n : ℕ) → IsBelow n (cell_in hs n).prototype) → (n : ℕ) → IsBelow (length hs) (cell_in hs n).prototype
from_older hs h n = by (nat_lt n (length hs)) refl
  where
    by : (b : Bool) → nat_lt n (length hs) ≡ b → IsBelow (length hs) (cell_in hs n).prototype
    by true e = below_later n (length hs) _ (less_le n (length hs) (ltb-true n (length hs) e)) (h n)
    by false e = subst (λ c. IsBelow (length hs) c.prototype) (sym (past_end hs (plain_object []) n (ltb-false n (length hs) e))) tt

pub short_born : (hs : List Cell) (c : Cell) → ((n : ℕ) → IsBelow n (cell_in hs n).prototype)
    → ((n : ℕ) → IsShort (suc max_chain) hs (Some (Own n))) → IsBelow (length hs) c.prototype → IsShort max_chain hs (Some c.prototype)
    → (n : ℕ) → IsShort (suc max_chain) (hs ++ c ∷ []) (Some (Own n))
short_born hs c older h b q =
    let ps : (n : ℕ) → IsBelow (length hs) (cell_in hs n).prototype = from_older hs older in
    at_end (λ n d. IsShort max_chain (hs ++ c ∷ []) (Some d.prototype)) hs c (plain_object [])
    (λ n. short_later max_chain hs c (Some (cell_in hs n).prototype) ps (ps n) (h n))
    (short_later max_chain hs c (Some c.prototype) ps b q)

-- a write leaves each prototype
pub same_prototypes : (hs : List Cell) (i : ℕ) (c : Cell) → c.prototype ≡ (cell_in hs i).prototype
    → (n : ℕ) → (cell_in (slice_set hs i c) n).prototype ≡ (cell_in hs n).prototype
same_prototypes [] i c e n = refl
same_prototypes (d ∷ hs) zero c e zero = e
same_prototypes (d ∷ hs) zero c e (suc n) = refl
same_prototypes (d ∷ hs) (suc i) c e zero = refl
same_prototypes (d ∷ hs) (suc i) c e (suc n) = same_prototypes hs i c e n

pub short_still : (m : ℕ) (hs gs : List Cell) (o : Option Value) → ((n : ℕ) → (cell_in gs n).prototype ≡ (cell_in hs n).prototype)
    → IsShort m hs o → IsShort m gs o
short_still zero hs gs None e h = tt
short_still zero hs gs (Some v) e h = h
short_still (suc m) hs gs None e h = tt
short_still (suc m) hs gs (Some Undefined) e h = nothing_short m gs
short_still (suc m) hs gs (Some Null) e h = nothing_short m gs
short_still (suc m) hs gs (Some (Truth x)) e h = nothing_short m gs
short_still (suc m) hs gs (Some NaN) e h = nothing_short m gs
short_still (suc m) hs gs (Some (Num x)) e h = nothing_short m gs
short_still (suc m) hs gs (Some (Text x)) e h = nothing_short m gs
short_still (suc m) hs gs (Some (Host x)) e h = short_still m hs gs (host_prototype x) e h
short_still (suc m) hs gs (Some (Own n)) e h =
    subst (λ v. IsShort m gs (Some v)) (sym (e n)) (short_still m hs gs (Some (cell_in hs n).prototype) e h)

-- the prototype of a state is that in its objects
pub same_prototype : (s : State) (v : Value) → prototype s v ≡ prototype_in s.own.heap v
same_prototype s Undefined = refl
same_prototype s Null = refl
same_prototype s (Truth b) = refl
same_prototype s NaN = refl
same_prototype s (Num z) = refl
same_prototype s (Text t) = refl
same_prototype s (Own n) = refl
same_prototype s (Host h) = refl

one_less : (a b : ℕ) → suc a ≤ suc b → a ≤ b
one_less a b h = omega arith

not_below : (b : ℕ) → suc b ≤ 0 → ⊥
not_below b h = omega arith

-- a chain that is counted within a limit is short
pub counted_short : (k : ℕ) (s : State) (o : Option Value) → chain_from (suc k) s o ≤ k → IsShort k s.own.heap o
counted_short zero s None h = tt
counted_short zero s (Some v) h = not_below _ h
counted_short (suc k) s None h = tt
counted_short (suc k) s (Some v) h =
    subst (IsShort k s.own.heap) (same_prototype s v) (counted_short k s (prototype s v) (one_less (chain_from (suc k) s (prototype s v)) k h))

-- chains of the host's objects are short
pub host_short : (hs : List Cell) (h : HostEntry) → IsShort (suc max_chain) hs (Some (Host h))
host_short hs (host.Native w) = tt
host_short hs host.ObjectPrototype = tt
host_short hs host.ArrayPrototype = tt
host_short hs host.FunctionPrototype = tt
host_short hs host.BunchPrototype = tt
host_short hs host.TextPrototype = tt
host_short hs host.NumberPrototype = tt
host_short hs host.BooleanPrototype = tt
host_short hs host.Math = tt
host_short hs host.Adsafe = tt
host_short hs host.Dom = tt

-- and so are all
pub all_short : (hs : List Cell) (v : Value) → ((n : ℕ) → IsShort (suc max_chain) hs (Some (Own n))) → IsShort (suc max_chain) hs (Some v)
all_short hs Undefined h = tt
all_short hs Null h = tt
all_short hs (Truth b) h = tt
all_short hs NaN h = tt
all_short hs (Num z) h = tt
all_short hs (Text t) h = tt
all_short hs (Own n) h = h n
all_short hs (Host e) h = host_short hs e

-- ## Walks

none_there : (b : ℕ) (s : State) (x : List ℕ) → on_chain b s None x ≡ None
none_there zero s x = refl
none_there (suc b) s x = refl

pub read_ends : (b c : ℕ) → b ≤ c → (s : State) (o : Option Value) (x : List ℕ) → IsShort b s.own.heap o → on_chain c s o x ≡ on_chain b s o x
read_ends zero c l s None x h = none_there c s x
read_ends zero c l s (Some v) x h = absurd h
read_ends (suc b) zero l s o x h = absurd (not_below b l)
read_ends (suc b) (suc c) l s None x h = refl
read_ends (suc b) (suc c) l s (Some v) x h =
    ap (λ r. or_else (own_property s v x) (λ _. r))
    (read_ends b c (one_less b c l) s (prototype s v) x (subst (IsShort b s.own.heap) (sym (same_prototype s v)) h))

no_names : (b : ℕ) (s : State) (xs : List (List ℕ)) → names_on_chain b s None xs ≡ xs
no_names zero s xs = refl
no_names (suc b) s xs = refl

pub list_ends : (b c : ℕ) → b ≤ c → (s : State) (o : Option Value) (xs : List (List ℕ)) → IsShort b s.own.heap o → names_on_chain c s o xs ≡ names_on_chain b s o xs
list_ends zero c l s None xs h = no_names c s xs
list_ends zero c l s (Some v) xs h = absurd h
list_ends (suc b) zero l s o xs h = absurd (not_below b l)
list_ends (suc b) (suc c) l s None xs h = refl
list_ends (suc b) (suc c) l s (Some Undefined) xs h = refl
list_ends (suc b) (suc c) l s (Some Null) xs h = refl
list_ends (suc b) (suc c) l s (Some (Truth x)) xs h = refl
list_ends (suc b) (suc c) l s (Some NaN) xs h = refl
list_ends (suc b) (suc c) l s (Some (Num x)) xs h = refl
list_ends (suc b) (suc c) l s (Some (Text x)) xs h = refl
list_ends (suc b) (suc c) l s (Some (Host x)) xs h = refl
list_ends (suc b) (suc c) l s (Some (Own n)) xs h =
    list_ends b c (one_less b c l) s (Some (cell_at s n).prototype) (listed xs (permitted_names (cell_at s n).pairs)) h

none_counted : (b : ℕ) (s : State) → chain_from b s None ≡ 0
none_counted zero s = refl
none_counted (suc b) s = refl

pub count_ends : (b c : ℕ) → b ≤ c → (s : State) (o : Option Value) → IsShort b s.own.heap o → chain_from c s o ≡ chain_from b s o
count_ends zero c l s None h = none_counted c s
count_ends zero c l s (Some v) h = absurd h
count_ends (suc b) zero l s o h = absurd (not_below b l)
count_ends (suc b) (suc c) l s None h = refl
count_ends (suc b) (suc c) l s (Some v) h =
    ap suc (count_ends b c (one_less b c l) s (prototype s v) (subst (IsShort b s.own.heap) (sym (same_prototype s v)) h))
