-- Values that a widget comes to are there.
use Rattle.std.proofs.Common.{◌≡◌, ◌<◌, ℕ, zero, suc, pos, ℤ, ◌+◌, List, [], ◌∷◌, ◌++◌, length, Bool, true, false, subst, take, drop, arith}
use Rattle.std.specs.Prelude.{Option, Some, None, if◌then◌else◌, unwrap_or}
use Rattle.std.specs.List.{AllByRecursion, filter}
use Rattle.std.specs.Str.{bytes_eq}
use Rattle.std.specs.Option.{option_or}
use Rattle.js_tree.specs.Plain as tree
use Rattle.js_tree.specs.Plain.{Fun}
use Rattle.js_tree.specs.declared.nodes.Word.{Word}
use Rattle.js_tree.specs.declared.nodes.Word.TheVariants as word
use Rattle.code_units.specs.declared.whole.WholeRead.{WholeRead}
use Rattle.code_units.specs.declared.whole.WholeRead.TheVariants as read
use Rattle.permitted_table.specs.declared.native.HostEntry.{HostEntry}
use Rattle.permitted_table.specs.Table as table
use Rattle.permitted_table.specs.Table.{Global, Leads}
use Rattle.widget_meaning.specs.HostTable.{host_pairs, globals, global_value}
use Rattle.permitted_table.specs.declared.native.HostEntry.TheVariants as host
use Rattle.widget_meaning.specs.Limits.{max_chain}
use Rattle.widget_meaning.specs.Values.{Value, Undefined, Null, Truth, NaN, Num, Text, Own, Host, Reference, Variable, Property, Found, Normal, Is, Refers, Return, Break, Continue, Throw, nth, to_text, to_number}
use Rattle.widget_meaning.specs.OwnState.{State, Kind, Object, Array, Function, Bunch, Pairs, lookup, replaced, taken_out, cell_at, scope_at, kind_of, bunch_nodes}
use Rattle.widget_meaning.specs.Plan.{Place, Eval, Target, Exec, Pass, Call, Loop, WhileLoop, DoLoop, ForLoop, ForInLoop}
use Rattle.widget_meaning.specs.Properties.{is_length, kind_property, own_property, prototype, or_else, on_chain, property, get}
use Rattle.widget_meaning.specs.Scopes.{variable, value_in, scope_of, argument, first_of_name, call_scope}
use Rattle.widget_meaning.specs.Expressions.{referred, base_of, literal, word_value}
use Rattle.widget_meaning.specs.NativeForms.{element, elements, numbered_pairs}
use Rattle.meaning_laws.specs.There.{Sizes, Told, ValueIs, ValuesAre, MaybeIs, PairsAre, NodesAre, OfKind, CellIs, ReferenceIs, CompletionIs, LoopIs, JobIs}
use Rattle.meaning_laws.specs.Texts.{AreUnits, IsText, AreTexts, AreNames, ExprHasTexts, OptionHasTexts, StmtHasTexts}
use Rattle.meaning_laws.proofs.Units.{decimal_is, to_text_is}
use Rattle.meaning_laws.proofs.Numbers.{Within, OfRead, to_number_is}
use Rattle.widget_meaning.specs.JsonBack.{HasLength}
use Rattle.meaning_laws.proofs.Each.{each_both, each_taken, each_dropped, each_filtered, each_made}

module _ (m : Sizes) where
  -- ## Texts

  pub told : {P : Type 0} → P → Told m P
  told h = record { holds = λ e. h }

  pub also : {P Q : Type 0} → (P → Q) → Told m P → Told m Q
  also f h = record { holds = λ e. f (h.holds e) }

  pub together : {P Q : Type 0} → Told m P → Told m Q → Told m (P × Q)
  together h k = record { holds = λ e. (h.holds e, k.holds e) }

  pub first : {P Q : Type 0} → Told m (P × Q) → Told m P
  first h = record { holds = λ e. (h.holds e).0 }

  pub second : {P Q : Type 0} → Told m (P × Q) → Told m Q
  second h = record { holds = λ e. (h.holds e).1 }

  -- ## Values

  pub own_value : (n : ℕ) → n < m.objects → ValueIs m (Own n)
  own_value n h = record { born = h; text = told tt }

  pub undefined_is : ValueIs m Undefined
  undefined_is = record { born = tt; text = told tt }

  pub null_is : ValueIs m Null
  null_is = record { born = tt; text = told tt }

  pub truth_is : (b : Bool) → ValueIs m (Truth b)
  truth_is b = record { born = tt; text = told tt }

  pub nan_is : ValueIs m NaN
  nan_is = record { born = tt; text = told tt }

  pub num_is : (z : ℤ) → Told m (Within z) → ValueIs m (Num z)
  num_is z h = record { born = tt; text = h }

  pub text_is : (t : List ℕ) → Told m (IsText t) → ValueIs m (Text t)
  text_is t h = record { born = tt; text = h }

  pub host_is : (h : HostEntry) → ValueIs m (Host h)
  host_is h = record { born = tt; text = told tt }

  pub literal_is : (r : WholeRead) → OfRead r → ValueIs m (literal r)
  literal_is (read.Whole z) h = num_is z (told h)
  literal_is read.NotNumber h = nan_is
  literal_is read.Left h = nan_is

  pub word_is : (w : Word) → ValueIs m (word_value w)
  word_is word.Null = null_is
  word_is word.True = truth_is true
  word_is word.False = truth_is false
  word_is word.This = undefined_is

  -- the text of a primitive
  pub text_told : (v : Value) → ValueIs m v → Told m (IsText (to_text v))
  text_told v h = also (to_text_is v) h.text

  pub units_told : (v : Value) → ValueIs m v → Told m (AreUnits (to_text v))
  units_told v h = also (λ q. (to_text_is v q).0) h.text

  -- the number of a primitive
  pub read_told : (v : Value) → ValueIs m v → Told m (OfRead (to_number v))
  read_told v h = also (to_number_is v) h.text

  -- ## Lists of values

  pub no_values : ValuesAre m []
  no_values = record { each = tt }

  pub more_values : (v : Value) (vs : List Value) → ValueIs m v → ValuesAre m vs → ValuesAre m (v ∷ vs)
  more_values v vs h k = record { each = (h, k.each) }

  pub both_values : (vs ws : List Value) → ValuesAre m vs → ValuesAre m ws → ValuesAre m (vs ++ ws)
  both_values vs ws h k = record { each = each_both (ValueIs m) vs ws h.each k.each }

  pub taken_values : (n : ℕ) (vs : List Value) → ValuesAre m vs → ValuesAre m (take n vs)
  taken_values n vs h = record { each = each_taken (ValueIs m) n vs h.each }

  pub left_values : (n : ℕ) (vs : List Value) → ValuesAre m vs → ValuesAre m (drop n vs)
  left_values n vs h = record { each = each_dropped (ValueIs m) n vs h.each }

  nth_of : (n : ℕ) (vs : List Value) → AllByRecursion (ValueIs m) vs → ValueIs m (nth n vs)
  nth_of n [] h = undefined_is
  nth_of zero (v ∷ vs) h = h.0
  nth_of (suc n) (v ∷ vs) h = nth_of n vs h.1

  pub nth_is : (n : ℕ) (vs : List Value) → ValuesAre m vs → ValueIs m (nth n vs)
  nth_is n vs h = nth_of n vs h.each

  -- ## Values that may be absent

  pub no_value : MaybeIs m None
  no_value = record { value = tt }

  pub some_value : (v : Value) → ValueIs m v → MaybeIs m (Some v)
  some_value v h = record { value = h }

  pub or_undefined : (o : Option Value) → MaybeIs m o → ValueIs m (unwrap_or o Undefined)
  or_undefined None h = undefined_is
  or_undefined (Some v) h = h.value

  pub or_other : (o : Option Value) (k : Bool → Option Value) → MaybeIs m o → MaybeIs m (k true) → MaybeIs m (or_else o k)
  or_other None k h i = i
  or_other (Some v) k h i = h

  -- ## Names with their values

  pub no_pairs : PairsAre m []
  no_pairs = record { each = tt }

  pub more_pairs : (x : List ℕ) (v : Value) (ps : Pairs) → ValueIs m v → PairsAre m ps → PairsAre m ((x, v) ∷ ps)
  more_pairs x v ps h k = record { each = (h, k.each) }

  pub both_pairs : (ps qs : Pairs) → PairsAre m ps → PairsAre m qs → PairsAre m (ps ++ qs)
  both_pairs ps qs h k = record { each = each_both (λ p. ValueIs m p.1) ps qs h.each k.each }

  pub filtered_pairs : (t : List ℕ × Value → Bool) (ps : Pairs) → PairsAre m ps → PairsAre m (filter t ps)
  filtered_pairs t ps h = record { each = each_filtered (λ p. ValueIs m p.1) t ps h.each }

  pub numbered_are : (i : ℕ) (vs : List Value) → ValuesAre m vs → PairsAre m (numbered_pairs i vs)
  numbered_are i [] h = no_pairs
  numbered_are i (v ∷ vs) h = record { each = (h.each.0, (numbered_are (i + 1) vs (record { each = h.each.1 })).each) }

  replaced_each : (ps : Pairs) (x : List ℕ) (v : Value) → ValueIs m v → AllByRecursion (λ p. ValueIs m p.1) ps → AllByRecursion (λ p. ValueIs m p.1) (replaced ps x v)
  replaced_each [] x v h k = tt
  replaced_each (p ∷ ps) x v h k = by (bytes_eq x p.0) (replaced_each ps x v h k.1)
    where
      by : (b : Bool) → AllByRecursion (λ q. ValueIs m q.1) (replaced ps x v) → AllByRecursion (λ q. ValueIs m q.1) (if b then (p.0, v) ∷ ps else p ∷ replaced ps x v)
      by true i = (h, k.1)
      by false i = (k.0, i)

  pub replaced_are : (ps : Pairs) (x : List ℕ) (v : Value) → ValueIs m v → PairsAre m ps → PairsAre m (replaced ps x v)
  replaced_are ps x v h k = record { each = replaced_each ps x v h k.each }

  taken_each : (ps : Pairs) (x : List ℕ) → AllByRecursion (λ p. ValueIs m p.1) ps → AllByRecursion (λ p. ValueIs m p.1) (taken_out ps x)
  taken_each [] x k = tt
  taken_each (p ∷ ps) x k = by (bytes_eq x p.0) (taken_each ps x k.1)
    where
      by : (b : Bool) → AllByRecursion (λ q. ValueIs m q.1) (taken_out ps x) → AllByRecursion (λ q. ValueIs m q.1) (if b then ps else p ∷ taken_out ps x)
      by true i = k.1
      by false i = (k.0, i)

  pub taken_are : (ps : Pairs) (x : List ℕ) → PairsAre m ps → PairsAre m (taken_out ps x)
  taken_are ps x k = record { each = taken_each ps x k.each }

  -- the names

  pub both_names : (ps qs : Pairs) → Told m (AreNames ps) → Told m (AreNames qs) → Told m (AreNames (ps ++ qs))
  both_names ps qs h k = record { holds = λ e. each_both (λ p. IsText p.0) ps qs (h.holds e) (k.holds e) }

  pub filtered_names : (t : List ℕ × Value → Bool) (ps : Pairs) → Told m (AreNames ps) → Told m (AreNames (filter t ps))
  filtered_names t ps h = record { holds = λ e. each_filtered (λ p. IsText p.0) t ps (h.holds e) }

  numbered_each : (i : ℕ) (vs : List Value) → AreNames (numbered_pairs i vs)
  numbered_each i [] = tt
  numbered_each i (v ∷ vs) = (decimal_is i, numbered_each (i + 1) vs)

  pub numbered_names : (i : ℕ) (vs : List Value) → Told m (AreNames (numbered_pairs i vs))
  numbered_names i vs = told (numbered_each i vs)

  renamed_each : (ps : Pairs) (x : List ℕ) (v : Value) → AreNames ps → AreNames (replaced ps x v)
  renamed_each [] x v k = tt
  renamed_each (p ∷ ps) x v k = by (bytes_eq x p.0) (renamed_each ps x v k.1)
    where
      by : (b : Bool) → AreNames (replaced ps x v) → AreNames (if b then (p.0, v) ∷ ps else p ∷ replaced ps x v)
      by true i = (k.0, k.1)
      by false i = (k.0, i)

  pub replaced_names : (ps : Pairs) (x : List ℕ) (v : Value) → Told m (AreNames ps) → Told m (AreNames (replaced ps x v))
  replaced_names ps x v h = also (renamed_each ps x v) h

  left_each : (ps : Pairs) (x : List ℕ) → AreNames ps → AreNames (taken_out ps x)
  left_each [] x k = tt
  left_each (p ∷ ps) x k = by (bytes_eq x p.0) (left_each ps x k.1)
    where
      by : (b : Bool) → AreNames (taken_out ps x) → AreNames (if b then ps else p ∷ taken_out ps x)
      by true i = k.1
      by false i = (k.0, i)

  pub taken_names : (ps : Pairs) (x : List ℕ) → Told m (AreNames ps) → Told m (AreNames (taken_out ps x))
  taken_names ps x h = also (left_each ps x) h

  found_in : (ps : Pairs) (x : List ℕ) → AllByRecursion (λ p. ValueIs m p.1) ps → MaybeIs m (lookup ps x)
  found_in [] x k = no_value
  found_in (p ∷ ps) x k = by (bytes_eq x p.0) (found_in ps x k.1)
    where
      by : (b : Bool) → MaybeIs m (lookup ps x) → MaybeIs m (if b then Some p.1 else lookup ps x)
      by true i = some_value p.1 k.0
      by false i = i

  pub lookup_is : (ps : Pairs) (x : List ℕ) → PairsAre m ps → MaybeIs m (lookup ps x)
  lookup_is ps x k = found_in ps x k.each

  pub element_is : (ps : Pairs) (i : ℕ) → PairsAre m ps → ValueIs m (element ps i)
  element_is ps i h = or_undefined (lookup ps _) (lookup_is ps _ h)

  host_pairs_are : (h : HostEntry) → PairsAre m (host_pairs h)
  host_pairs_are h = record { each = each_made (λ p. ValueIs m p.1) _ (λ p. host_is p.1) (table.names_of h) }

  global_is : (g : Global) → ValueIs m (global_value g)
  global_is table.Undefined = undefined_is
  global_is table.NaN = nan_is
  global_is (Leads h) = host_is h

  globals_are : PairsAre m globals
  globals_are = record { each = each_made {B = List ℕ × Value} (λ p. ValueIs m p.1) (λ g. (g.0, global_value g.1)) (λ g. global_is g.1) table.globals }

  -- ## Properties

  -- what a state holds
  module _ (s : State) (objects : (n : ℕ) → CellIs m (cell_at s n)) (scopes : (n : ℕ) → PairsAre m (scope_at s n).pairs) (lengths : (n : ℕ) → HasLength (cell_at s n).kind) where
    kind_property_is : (k : Kind) (ps : Pairs) (x : List ℕ) → PairsAre m ps → HasLength k → MaybeIs m (kind_property k ps x)
    kind_property_is Object ps x h l = lookup_is ps x h
    kind_property_is (Function f o) ps x h l = lookup_is ps x h
    kind_property_is (Bunch ns) ps x h l = lookup_is ps x h
    kind_property_is (Array n) ps x h l = by (is_length x)
      where
        by : (b : Bool) → MaybeIs m (if b then Some (Num (pos n)) else lookup ps x)
        by true = some_value (Num (pos n)) (num_is (pos n) (told (omega (arith, l))))
        by false = lookup_is ps x h

    own_property_is : (v : Value) (x : List ℕ) → MaybeIs m (own_property s v x)
    own_property_is Undefined x = no_value
    own_property_is Null x = no_value
    own_property_is (Truth b) x = no_value
    own_property_is NaN x = no_value
    own_property_is (Num z) x = no_value
    own_property_is (Text t) x = no_value
    own_property_is (Own n) x = kind_property_is (cell_at s n).kind (cell_at s n).pairs x (objects n).pairs (lengths n)
    own_property_is (Host h) x = lookup_is (host_pairs h) x (host_pairs_are h)

    on_chain_is : (n : ℕ) (o : Option Value) (x : List ℕ) → MaybeIs m (on_chain n s o x)
    on_chain_is zero o x = no_value
    on_chain_is (suc n) None x = no_value
    on_chain_is (suc n) (Some v) x = or_other (own_property s v x) (λ b. on_chain n s (prototype s v) x) (own_property_is v x) (on_chain_is n (prototype s v) x)

    property_is : (v : Value) (x : List ℕ) → ValueIs m v → MaybeIs m (property s v x)
    property_is Undefined x h = no_value
    property_is Null x h = no_value
    property_is (Truth b) x h = on_chain_is (suc max_chain) (Some (Host host.BooleanPrototype)) x
    property_is NaN x h = on_chain_is (suc max_chain) (Some (Host host.NumberPrototype)) x
    property_is (Num z) x h = on_chain_is (suc max_chain) (Some (Host host.NumberPrototype)) x
    property_is (Text t) x h = by (is_length x)
      where
        by : (b : Bool) → MaybeIs m (if b then Some (Num (pos (length t))) else on_chain (suc max_chain) s (Some (Host host.TextPrototype)) x)
        by true = some_value (Num (pos (length t))) (num_is (pos (length t)) (also (λ q. q.1) h.text))
        by false = on_chain_is (suc max_chain) (Some (Host host.TextPrototype)) x
    property_is (Own n) x h = on_chain_is (suc max_chain) (Some (Own n)) x
    property_is (Host e) x h = on_chain_is (suc max_chain) (Some (Host e)) x

    pub got_is : (v : Value) (x : List ℕ) → ValueIs m v → ValueIs m (get s v x)
    got_is v x h = or_undefined (property s v x) (property_is v x h)

    value_in_is : (o : Option ℕ) (x : List ℕ) → ValueIs m (value_in s o x)
    value_in_is None x = or_undefined (lookup globals x) (lookup_is globals x globals_are)
    value_in_is (Some i) x = or_undefined (lookup (scope_at s i).pairs x) (lookup_is (scope_at s i).pairs x (scopes i))

    pub named_is : (p : Place) (x : List ℕ) → ValueIs m (variable s p x)
    named_is p x = value_in_is (scope_of s p x) x

    pub referred_of : (r : Reference) (p : Place) → ReferenceIs m r → ValueIs m (referred r p s)
    referred_of (Variable x) p h = named_is p x
    referred_of (Property v x) p h = got_is v x h.value.0
    referred_of (Found v) p h = h.value

    pub elements_of : (n len : ℕ) → ValuesAre m (elements s n len)
    elements_of n len = record { each = each_made (ValueIs m) (element (cell_at s n).pairs) (λ i. element_is (cell_at s n).pairs i (objects n).pairs) _ }

    pub bunch_of : (v : Value) (ns : List ℕ) → bunch_nodes (kind_of s v) ≡ Some ns → NodesAre m ns
    bunch_of Undefined ns e = cc
    bunch_of Null ns e = cc
    bunch_of (Truth b) ns e = cc
    bunch_of NaN ns e = cc
    bunch_of (Num z) ns e = cc
    bunch_of (Text t) ns e = cc
    bunch_of (Host h) ns e = cc
    bunch_of (Own n) ns e = by (cell_at s n).kind (objects n).kind e
      where
        same : (us vs : List ℕ) → Some us ≡ Some vs → us ≡ vs
        same us vs e = cc

        by : (k : Kind) → OfKind m k → bunch_nodes (Some k) ≡ Some ns → NodesAre m ns
        by Object h e = cc
        by (Array i) h e = cc
        by (Function f o) h e = cc
        by (Bunch us) h e = subst (NodesAre m) (same us ns e) h

  -- ## References, ends and jobs

  pub base_is : (r : Reference) → ReferenceIs m r → MaybeIs m (base_of r)
  base_is (Variable x) h = no_value
  base_is (Property v x) h = some_value v h.value.0
  base_is (Found v) h = no_value

  pub variable_is : (x : List ℕ) → ReferenceIs m (Variable x)
  variable_is x = record { value = tt }

  pub property_reference : (v : Value) (x : List ℕ) → ValueIs m v → Told m (IsText x) → ReferenceIs m (Property v x)
  property_reference v x h k = record { value = (h, k) }

  pub found_reference : (v : Value) → ValueIs m v → ReferenceIs m (Found v)
  found_reference v h = record { value = h }

  pub normal_end : CompletionIs m Normal
  normal_end = record { value = tt }

  pub break_end : CompletionIs m Break
  break_end = record { value = tt }

  pub continue_end : CompletionIs m Continue
  continue_end = record { value = tt }

  pub value_end : (v : Value) → ValueIs m v → CompletionIs m (Is v)
  value_end v h = record { value = h }

  pub reference_end : (r : Reference) → ReferenceIs m r → CompletionIs m (Refers r)
  reference_end r h = record { value = h }

  pub return_end : (v : Value) → ValueIs m v → CompletionIs m (Return v)
  return_end v h = record { value = h }

  pub throw_end : (v : Value) → ValueIs m v → CompletionIs m (Throw v)
  throw_end v h = record { value = h }

  pub eval_job : (e : tree.Expr) (p : Place) → Told m (ExprHasTexts e) → JobIs m (Eval e p)
  eval_job e p h = record { holds = h }

  pub target_job : (e : tree.Expr) (p : Place) → Told m (ExprHasTexts e) → JobIs m (Target e p)
  target_job e p h = record { holds = h }

  pub exec_job : (i : tree.Stmt) (p : Place) → Told m (StmtHasTexts i) → JobIs m (Exec i p)
  exec_job i p h = record { holds = h }

  pub pass_job : (l : Loop) (p : Place) → LoopIs m l → JobIs m (Pass l p)
  pass_job l p h = record { holds = h }

  pub call_job : (f : Value) (this : Option Value) (vs : List Value) (d : ℕ) → ValueIs m f → MaybeIs m this → ValuesAre m vs → JobIs m (Call f this vs d)
  call_job f this vs d h i k = record { holds = record { func = h; receiver = i; arguments = k } }

  pub while_loop : (e : tree.Expr) (b : List tree.Stmt) → Told m (ExprHasTexts e) → Told m (AllByRecursion StmtHasTexts b) → LoopIs m (WhileLoop e b)
  while_loop e b h k = record { value = (h, k) }

  pub do_loop : (b : List tree.Stmt) (e : tree.Expr) → Told m (ExprHasTexts e) → Told m (AllByRecursion StmtHasTexts b) → LoopIs m (DoLoop b e)
  do_loop b e h k = record { value = (h, k) }

  pub for_loop : (test : tree.OptionalExpr) (next : List tree.Expr) (b : List tree.Stmt)
      → Told m (OptionHasTexts test) → Told m (AllByRecursion ExprHasTexts next) → Told m (AllByRecursion StmtHasTexts b) → LoopIs m (ForLoop test next b)
  for_loop test next b h i k = record { value = (h, (i, k)) }

  pub for_in_loop : (v : Value) (x y : List ℕ) (ys : List (List ℕ)) (b : List tree.Stmt)
      → ValueIs m v → Told m (IsText y) → Told m (AreTexts ys) → Told m (AllByRecursion StmtHasTexts b) → LoopIs m (ForInLoop v x y ys b)
  for_in_loop v x y ys b h i j k = record { value = (h, (i, (j, k))) }

  -- ## The scope of a call

  argument_is : (ps : List (List ℕ)) (vs : List Value) (x : List ℕ) → ValuesAre m vs → MaybeIs m (argument ps vs x)
  argument_is [] vs x h = no_value
  argument_is (p ∷ ps) vs x h = by (argument ps (drop 1 vs) x) (bytes_eq p x) (argument_is ps (drop 1 vs) x (left_values 1 vs h))
    where
      by : (o : Option Value) (b : Bool) → MaybeIs m o → MaybeIs m (option_or o (if b then Some (nth 0 vs) else None))
      by (Some v) b i = i
      by None true i = some_value (nth 0 vs) (nth_is 0 vs h)
      by None false i = no_value

  or_this : (o : Option Value) (v : Value) → MaybeIs m o → ValueIs m v → ValueIs m (unwrap_or o v)
  or_this None v h i = i
  or_this (Some w) v h i = h.value

  first_is : (f : Fun) (v : Value) (vs : List Value) (x : List ℕ) → ValueIs m v → ValuesAre m vs → ValueIs m (first_of_name f v vs x)
  first_is (tree.FunAt at names name params body funs) v vs x h k = or_this (argument params vs x) _ (argument_is params vs x k) (by _)
    where
      by : (b : Bool) → ValueIs m (if b then v else Undefined)
      by true = h
      by false = undefined_is

  pub scope_of_call : (f : Fun) (outer : Option ℕ) (v : Value) (vs : List Value) → ValueIs m v → ValuesAre m vs → PairsAre m (call_scope f outer v vs).pairs
  scope_of_call f outer v vs h k = record { each = each_made (λ p. ValueIs m p.1) (λ x. (x, first_of_name f v vs x)) (λ x. first_is f v vs x h k) _ }
