-- What the code knows of the nodes that enclose.
use Rattle.std.specs.Prelude.{◌≡◌, ℕ, ◌+◌, ◌↔◌, List, [], ◌∷◌, map, count_by, unwrap_or, if◌then◌else◌}
use Rattle.std.specs.Str.{bytes_eq}
use Rattle.std.specs.BTreeMap.{BTreeMap, get}
use Rattle.std.specs.Ordering.{nat_cmp, is_eq}
use Rattle.std.specs.Cmp.Lexicographic.{slice_cmp}
use Rattle.js_tree.specs.Forest.{Forest}
use Rattle.js_tree.specs.Parts.{Spot, spot_at}
use Rattle.first_breach.specs.Lists.{In}
use Rattle.node_rules.specs.declared.enclosing.Jumps.{Jumps}
use Rattle.node_rules.specs.declared.enclosing.Opened.{Opened}
use Rattle.node_rules.specs.declared.enclosing.Enclosing.{Enclosing}
use Rattle.node_rules.specs.Binding.{Binds, jumps_in, no_jumps}

-- how often the open nodes bind a name
abbrev pub occurs : List ℕ → List Opened → ℕ
occurs q [] = 0
occurs q (o ∷ os) = count_by (bytes_eq q) o.names.items + occurs q os

-- how often a map counts a name
abbrev pub count_of : BTreeMap (List ℕ) ℕ → List ℕ → ℕ
count_of counts q = unwrap_or (get (slice_cmp nat_cmp) counts q) 0

-- one, where the name is this
abbrev pub one_for : List ℕ → List ℕ → ℕ
one_for name q = if is_eq (slice_cmp nat_cmp name q) then 1 else 0

-- the map says how often
abbrev pub IsCounted : Enclosing → Type 0
IsCounted e = (q : List ℕ) → count_of e.counts q ≡ occurs q e.stack.items

-- the nodes that enclose
abbrev pub env_of : Forest → List Opened → List Spot
env_of f os = map (λ o. spot_at f o.opener) os

-- the names of an open node are those that it binds
abbrev pub IsKnown : Forest → Opened → Type 0
IsKnown f o = (q : List ℕ) → In q o.names.items ↔ Binds (spot_at f o.opener) q

abbrev pub AreKnown : Forest → List Opened → Type 0
AreKnown f [] = Unit {0}
AreKnown f (o ∷ os) = IsKnown f o × AreKnown f os

-- each knows which jumps it allows
abbrev pub AreJumps : Forest → Jumps → List Opened → Type 0
AreJumps f around [] = Unit {0}
AreJumps f around (o ∷ os) = (o.jumps ≡ jumps_in around (spot_at f o.opener)) × AreJumps f o.jumps os

-- what the innermost says
abbrev pub jumps_of : Jumps → List Opened → Jumps
jumps_of around [] = around
jumps_of around (o ∷ os) = jumps_of o.jumps os

-- what holds of the open nodes
pub record IsEnclosing (f : Forest) (e : Enclosing) : Type 0 where
  pub known : AreKnown f e.stack.items
  pub jumps : AreJumps f no_jumps e.stack.items
  pub counted : IsCounted e
