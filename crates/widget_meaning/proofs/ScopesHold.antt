-- Scopes stand in older ones, and the bound on the search for a name is never met.
use Rattle.std.proofs.Common.{◌≡◌, ℕ, zero, suc, ◌+◌, ◌<◌, ◌≤◌, List, [], ◌∷◌, ◌++◌, length, refl, sym, ap, subst, arith}
use Rattle.std.specs.Prelude.{Option, Some, None, option_map, slice_index_or, slice_set}
use Rattle.std.proofs.lemmas.List.{length-set}
use Rattle.widget_meaning.specs.OwnState.{OwnState, State, Kind, Object, Array, Function, Bunch, Scope, lookup, plain_object, scope_at}
use Rattle.widget_meaning.specs.Plan.{Job, Eval, Target, Exec, Pass, Call, RunNative, Hear}
use Rattle.widget_meaning.specs.Properties.{or_else}
use Rattle.widget_meaning.specs.Scopes.{scope_having}
use Rattle.widget_meaning.specs.Alone.{beginning, loaded}
use Rattle.widget_meaning.specs.Keeps.{Links, Invariant, JobOf, OfFunction, no_scope}
use Rattle.widget_meaning.specs.ScopeLaws.{IsScope, AreLinked, HasScope, ScopeLaws}
use Rattle.widget_meaning.proofs.Keeping.{no_pages}
use Rattle.widget_meaning.proofs.KeepingRuns.{job_keeps}
use Rattle.widget_meaning.proofs.Rest.{standing, Stands, items_r, loaded_r}

-- a predicate on the elements of a list by their places
at_end : {A : Type 0} (P : ℕ → A → Type 0) (xs : List A) (x d : A) → ((n : ℕ) → P n (slice_index_or xs n d)) → P (length xs) x
    → (n : ℕ) → P n (slice_index_or (xs ++ x ∷ []) n d)
at_end P [] x d h q zero = q
at_end P [] x d h q (suc n) = h (suc n)
at_end P (y ∷ ys) x d h q zero = h zero
at_end P (y ∷ ys) x d h q (suc n) = at_end (λ m. P (suc m)) ys x d (λ m. h (suc m)) q n

at_set : {A : Type 0} (P : ℕ → A → Type 0) (xs : List A) (i : ℕ) (x d : A) → ((n : ℕ) → P n (slice_index_or xs n d)) → P i x
    → (n : ℕ) → P n (slice_index_or (slice_set xs i x) n d)
at_set P [] i x d h q n = h n
at_set P (y ∷ ys) zero x d h q zero = q
at_set P (y ∷ ys) zero x d h q (suc n) = h (suc n)
at_set P (y ∷ ys) (suc i) x d h q zero = h zero
at_set P (y ∷ ys) (suc i) x d h q (suc n) = at_set (λ m. P (suc m)) ys i x d (λ m. h (suc m)) q n

-- scopes
less : (i m n : ℕ) → m ≤ n → i < m → i < n
less i m n l h = omega arith

later : (m n : ℕ) (o : Option ℕ) → m ≤ n → IsScope m o → IsScope n o
later m n None l h = tt
later m n (Some i) l h = less i m n l h

function_later : (m n : ℕ) (k : Kind) → m ≤ n → OfFunction (IsScope m) k → OfFunction (IsScope n) k
function_later m n (Function f o) l h = later m n o l h
function_later m n Object l h = tt
function_later m n (Array x) l h = tt
function_later m n (Bunch ns) l h = tt

one_more : (m n : ℕ) → m < n → suc m < suc n
one_more m n h = omega arith

newest : (cs : List Scope) (c : Scope) → length cs < length (cs ++ c ∷ [])
newest [] c = omega arith
newest (d ∷ ds) c = one_more (length ds) _ (newest ds c)

less_le : (m n : ℕ) → m < n → m ≤ n
less_le m n h = omega arith

self : (n : ℕ) → n ≤ n
self n = omega arith

reaches : (m n k : ℕ) → m ≤ n → n ≤ k → m ≤ k
reaches m n k h i = omega arith

-- objects and scopes that are linked
abbrev linking : Links
linking = record {
  asked = λ n. n;
  enough = self;
  through = reaches;
  Linked = AreLinked;
  Older = IsScope;
  later = later;
  outermost = λ n. tt;
  newest = newest;
  function = λ hs cs n h. h.functions n;
  born = λ hs cs c h q. record {
    scopes = h.scopes;
    functions = at_end (λ n d. OfFunction (IsScope (length cs)) d.kind) hs c (plain_object []) h.functions q;
  };
  written = λ hs cs n c h q. record {
    scopes = h.scopes;
    functions = at_set (λ m d. OfFunction (IsScope (length cs)) d.kind) hs n c (plain_object []) h.functions q;
  };
  entered = λ hs cs c h q. record {
    scopes = at_end (λ n d. IsScope n d.outer) cs c no_scope h.scopes q;
    functions = λ n. function_later (length cs) _ _ (less_le (length cs) _ (newest cs c)) (h.functions n);
  };
  assigned = λ hs cs n ps h. record {
    scopes = at_set (λ m d. IsScope m d.outer) cs n (record (slice_index_or cs n no_scope) { pairs = ps }) no_scope h.scopes (h.scopes n);
    functions = λ m. subst (λ l. OfFunction (IsScope l) (slice_index_or hs m (plain_object [])).kind) (sym (length-set cs n _)) (h.functions m);
  };
}

abbrev scoped : Invariant
scoped = standing linking no_pages

abbrev Of : OwnState → Type 0
Of o = AreLinked o.heap o.scopes

at_rest : (o : OwnState) → Of o → Stands linking no_pages o.heap o.scopes o.forest (length o.kept)
at_rest o h = record { linked = h; page = tt }

first_objects : (n : ℕ) → OfFunction (IsScope 0) (slice_index_or (plain_object [] ∷ []) n (plain_object [])).kind
first_objects zero = tt
first_objects (suc n) = tt

-- a search
none_found : (n : ℕ) (s : State) (x : List ℕ) → scope_having n s None x ≡ None
none_found zero s x = refl
none_found (suc n) s x = refl

nothing_below : (i : ℕ) → i < 0 → ⊥
nothing_below i h = omega arith

at_most : (i n : ℕ) → i < suc n → i ≤ n
at_most i n h = omega arith

below : (m n : ℕ) → suc n ≤ suc m → n ≤ m
below m n h = omega arith

nothing_less : (n : ℕ) → suc n ≤ 0 → ⊥
nothing_less n h = omega arith

-- from a scope that is there every greater bound finds the same
ends : (n m : ℕ) → n ≤ m → (s : State) (o : Option ℕ) (x : List ℕ) → Of s.own → IsScope n o → scope_having m s o x ≡ scope_having n s o x
ends zero m l s None x h q = none_found m s x
ends zero m l s (Some i) x h q = absurd (nothing_below i q)
ends (suc n) zero l s o x h q = absurd (nothing_less n l)
ends (suc n) (suc m) l s None x h q = refl
ends (suc n) (suc m) l s (Some i) x h q =
    ap (λ r. or_else (option_map (λ v. i) (lookup (scope_at s i).pairs x)) (λ b. r))
    (ends n m (below m n l) s (scope_at s i).outer x h (later i n (scope_at s i).outer (at_most i n q) (h.scopes i)))

no_fewer : (n more : ℕ) → n ≤ n + more
no_fewer n more = omega arith

job_of : (j : Job) (s : State) → HasScope s j → JobOf scoped (length s.own.scopes) j
job_of (Eval e p) s h = h
job_of (Target e p) s h = h
job_of (Exec i p) s h = h
job_of (Pass l p) s h = h
job_of (Call f this vs d) s h = tt
job_of (RunNative f this vs d) s h = tt
job_of (Hear x) s h = tt

pub scope_laws : ScopeLaws
scope_laws = record {
  jobs = λ j s g h q. (job_keeps scoped (length s.own.scopes) j s g (record { holds = tt; linked = h; page = tt; wide = self (length s.own.scopes) }) (job_of j s q)).linked;
  kept = λ o is h. (items_r linking no_pages o is (at_rest o h)).linked;
  whole = λ w grant is. (items_r linking no_pages (loaded w grant) is
      (loaded_r linking no_pages w grant (at_rest (beginning w grant) (record { scopes = λ n. tt; functions = first_objects })))).linked;
  enough = λ s o x more h q. ends (length s.own.scopes) (length s.own.scopes + more) (no_fewer (length s.own.scopes) more) s o x h q;
}
