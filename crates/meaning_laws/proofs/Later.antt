-- What is there stays there where more was born.
use Rattle.std.proofs.Common.{◌∙◌, refl, ℕ, ◌<◌, ◌≤◌, List, arith}
use Rattle.std.specs.Prelude.{Option, Some, None}
use Rattle.widget_meaning.specs.Values.{Value, Undefined, Null, Truth, NaN, Num, Text, Own, Host, Reference, Variable, Property, Found, Completion, Normal, Is, Refers, Return, Break, Continue, Throw}
use Rattle.widget_meaning.specs.OwnState.{Kind, Object, Array, Function, Bunch, Cell, Pairs, Kept}
use Rattle.widget_meaning.specs.Plan.{Loop, WhileLoop, DoLoop, ForLoop, ForInLoop, Hearing}
use Rattle.meaning_laws.specs.There.{Sizes, Grows, Told, IsBelow, ValueIs, ValuesAre, MaybeIs, PairsAre, NodeIs, NodesAre, OfNode, FunctionsAre, OfKind, CellIs, KeptIs, OfReference, ReferenceIs, OfCompletion, CompletionIs, OfLoop, LoopIs, HearingIs}
use Rattle.meaning_laws.proofs.Each.{every}

less : (i m n : ℕ) → m ≤ n → i < m → i < n
less i m n l h = omega arith

far : (m n k : ℕ) → m ≤ n → n ≤ k → m ≤ k
far m n k h i = omega arith

self : (n : ℕ) → n ≤ n
self n = omega arith

pub same_size : (m : Sizes) → Grows m m
same_size m = record { objects = self m.objects; nodes = self m.nodes; texts = refl }

pub through : (m n k : Sizes) → Grows m n → Grows n k → Grows m k
through m n k g h = record { objects = far m.objects n.objects k.objects g.objects h.objects; nodes = far m.nodes n.nodes k.nodes g.nodes h.nodes; texts = g.texts ∙ h.texts }

pub below_later : (m n : ℕ) (v : Value) → m ≤ n → IsBelow m v → IsBelow n v
below_later m n Undefined l h = tt
below_later m n Null l h = tt
below_later m n (Truth b) l h = tt
below_later m n NaN l h = tt
below_later m n (Num z) l h = tt
below_later m n (Text t) l h = tt
below_later m n (Own i) l h = less i m n l h
below_later m n (Host e) l h = tt

module _ (m n : Sizes) where
  pub told_later : (P : Type 0) → Grows m n → Told m P → Told n P
  told_later P g h = record { holds = λ e. h.holds (g.texts ∙ e) }

  pub value_later : (v : Value) → Grows m n → ValueIs m v → ValueIs n v
  value_later v g h = record { born = below_later m.objects n.objects v g.objects h.born; text = told_later _ g h.text }

  pub values_later : (vs : List Value) → Grows m n → ValuesAre m vs → ValuesAre n vs
  values_later vs g h = record { each = every (ValueIs m) (ValueIs n) (λ v k. value_later v g k) vs h.each }

  pub maybe_later : (o : Option Value) → Grows m n → MaybeIs m o → MaybeIs n o
  maybe_later None g h = record { value = tt }
  maybe_later (Some v) g h = record { value = value_later v g h.value }

  pub pairs_later : (ps : Pairs) → Grows m n → PairsAre m ps → PairsAre n ps
  pairs_later ps g h = record { each = every (λ p. ValueIs m p.1) (λ p. ValueIs n p.1) (λ p k. value_later p.1 g k) ps h.each }

  pub node_later : (i : ℕ) → Grows m n → NodeIs m i → NodeIs n i
  node_later i g h = record { born = less i m.nodes n.nodes g.nodes h.born }

  pub nodes_later : (ns : List ℕ) → Grows m n → NodesAre m ns → NodesAre n ns
  nodes_later ns g h = record { each = every (NodeIs m) (NodeIs n) (λ i k. node_later i g k) ns h.each }

  pub maybe_node_later : (o : Option ℕ) → Grows m n → OfNode m o → OfNode n o
  maybe_node_later None g h = tt
  maybe_node_later (Some i) g h = node_later i g h

  pub functions_later : (fs : List ℕ) → Grows m n → FunctionsAre m fs → FunctionsAre n fs
  functions_later fs g h = record { each = every (λ f. f < m.objects) (λ f. f < n.objects) (λ f k. less f m.objects n.objects g.objects k) fs h.each }

  pub kind_later : (k : Kind) → Grows m n → OfKind m k → OfKind n k
  kind_later Object g h = tt
  kind_later (Array i) g h = tt
  kind_later (Function f o) g h = told_later _ g h
  kind_later (Bunch ns) g h = nodes_later ns g h

  pub cell_later : (c : Cell) → Grows m n → CellIs m c → CellIs n c
  cell_later c g h = record { kind = kind_later c.kind g h.kind; prototype = value_later c.prototype g h.prototype; pairs = pairs_later c.pairs g h.pairs; names = told_later _ g h.names }

  pub kept_later : (k : Kept) → Grows m n → KeptIs m k → KeptIs n k
  kept_later k g h = record { handlers = every (λ x. x.func < m.objects) (λ x. x.func < n.objects) (λ x y. less x.func m.objects n.objects g.objects y) k.handlers h.handlers; mark = told_later _ g h.mark }

  pub of_reference_later : (r : Reference) → Grows m n → OfReference m r → OfReference n r
  of_reference_later (Variable x) g h = tt
  of_reference_later (Property v x) g h = (value_later v g h.0, told_later _ g h.1)
  of_reference_later (Found v) g h = value_later v g h

  pub reference_later : (r : Reference) → Grows m n → ReferenceIs m r → ReferenceIs n r
  reference_later r g h = record { value = of_reference_later r g h.value }

  pub of_completion_later : (o : Completion) → Grows m n → OfCompletion m o → OfCompletion n o
  of_completion_later Normal g h = tt
  of_completion_later (Is v) g h = value_later v g h
  of_completion_later (Refers r) g h = reference_later r g h
  of_completion_later (Return v) g h = value_later v g h
  of_completion_later Break g h = tt
  of_completion_later Continue g h = tt
  of_completion_later (Throw v) g h = value_later v g h

  pub completion_later : (o : Completion) → Grows m n → CompletionIs m o → CompletionIs n o
  completion_later o g h = record { value = of_completion_later o g h.value }

  pub of_loop_later : (l : Loop) → Grows m n → OfLoop m l → OfLoop n l
  of_loop_later (WhileLoop e b) g h = (told_later _ g h.0, told_later _ g h.1)
  of_loop_later (DoLoop b e) g h = (told_later _ g h.0, told_later _ g h.1)
  of_loop_later (ForLoop test next b) g h = (told_later _ g h.0, (told_later _ g h.1.0, told_later _ g h.1.1))
  of_loop_later (ForInLoop v x y ys b) g h = (value_later v g h.0, (told_later _ g h.1.0, (told_later _ g h.1.1.0, told_later _ g h.1.1.1)))

  pub loop_later : (l : Loop) → Grows m n → LoopIs m l → LoopIs n l
  loop_later l g h = record { value = of_loop_later l g h.value }

  pub hearing_later : (x : Hearing) → Grows m n → HearingIs m x → HearingIs n x
  hearing_later x g h = record {
    target = node_later x.target g h.target;
    node = node_later x.node g h.node;
    value = value_later x.value g h.value;
    event = value_later x.event g h.event;
    first = less x.first m.objects n.objects g.objects h.first;
    others = functions_later x.others g h.others;
    kind = told_later _ g h.kind;
  }
