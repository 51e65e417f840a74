-- The open nodes bind what is counted, and allow the jumps that they say.
use Rattle.std.proofs.Common.{◌≡◌, ℕ, zero, suc, ◌+◌, ◌<◌, ◌≤◌, ◌↔◌, List, [], ◌∷◌, ◌++◌, refl, sym, ap, ◌∙◌, subst, inl, inr, ◌⊎◌, Bool, true, false, Option, Some, None, arith, length, get_or, take, count_by, cond, unwrap_or}
use Rattle.std.specs.Prelude.{if◌then◌else◌}
use Rattle.std.specs.Ordering.{nat_cmp, is_eq}
use Rattle.std.specs.Str.{bytes_eq}
use Rattle.std.specs.Cmp.Lexicographic.{slice_cmp, nat_list_eq_equiv}
use Rattle.std.proofs.lemmas.Map.Text.{is_eq-slice_cmp}
use Rattle.std.proofs.lemmas.List.Sums.{sum_by-cons, sum_by_more, sum_by_more_le}
use Rattle.std.proofs.lemmas.Slice.Eq.{bytes_eq-Decides}
use Rattle.js_tree.specs.Forest.{Forest}
use Rattle.js_tree.specs.Parts.{Spot, spot_at}
use Rattle.first_breach.specs.Lists.{In, here, later}
use Rattle.first_breach.proofs.Members.{in_none, in_one, in_split}
use Rattle.node_rules.specs.declared.enclosing.Jumps.{Jumps}
use Rattle.node_rules.specs.declared.enclosing.Opened.{Opened}
use Rattle.node_rules.specs.Binding.{Binds, IsBound, jumps_in, jumps_from}
use Rattle.node_rules.specs.Enclosing.{one_for, occurs, env_of, IsKnown, AreKnown, AreJumps, jumps_of}

pub known_more : (f : Forest) (os : List Opened) (o : Opened) → AreKnown f os → IsKnown f o → AreKnown f (os ++ o ∷ [])
known_more f [] o h k = (k, tt)
known_more f (t ∷ os) o h k = (h.0, known_more f os o h.1 k)

pub known_take : (f : Forest) (d : ℕ) (os : List Opened) → AreKnown f os → AreKnown f (take d os)
known_take f zero os h = tt
known_take f (suc d) [] h = tt
known_take f (suc d) (o ∷ os) h = (h.0, known_take f d os h.1)

pub env_take : (f : Forest) (d : ℕ) (os : List Opened) → env_of f (take d os) ≡ take d (env_of f os)
env_take f zero os = refl
env_take f (suc d) [] = refl
env_take f (suc d) (o ∷ os) = ap (λ l. spot_at f o.opener ∷ l) (env_take f d os)

pub env_length : (f : Forest) (os : List Opened) → length (env_of f os) ≡ length os
env_length f [] = refl
env_length f (o ∷ os) = ap suc (env_length f os)

pub occurs_more : (q : List ℕ) (os : List Opened) (o : Opened) → occurs q (os ++ o ∷ []) ≡ occurs q os + count_by (bytes_eq q) o.names.items
occurs_more q [] o = omega arith
occurs_more q (t ∷ os) o = omega (arith, occurs_more q os o)

-- a name is counted where it is in the list
count_first : (q n : List ℕ) (ns : List (List ℕ)) → count_by (bytes_eq q) (n ∷ ns) ≡ cond (bytes_eq q n) 1 0 + count_by (bytes_eq q) ns
count_first q n ns = sum_by-cons (λ m. cond (bytes_eq q m) 1 0) n ns

count_case : (q n : List ℕ) (ns : List (List ℕ)) (b : Bool) → bytes_eq q n ≡ b → 0 < cond b 1 0 + count_by (bytes_eq q) ns → (0 < count_by (bytes_eq q) ns → In q ns) → In q (n ∷ ns)
count_case q n ns true e h k = subst (λ t. In t (n ∷ ns)) (sym ((bytes_eq-Decides q n).0 e)) here
count_case q n ns false e h k = later (k (omega arith))

count_to : (q : List ℕ) (ns : List (List ℕ)) → 0 < count_by (bytes_eq q) ns → In q ns
count_to q [] h = absurd (omega arith)
count_to q (n ∷ ns) h = count_case q n ns (bytes_eq q n) refl (subst (λ k. 0 < k) (count_first q n ns) h) (count_to q ns)

count_here : (q n : List ℕ) (ns : List (List ℕ)) → q ≡ n → 0 < cond (bytes_eq q n) 1 0 + count_by (bytes_eq q) ns
count_here q n ns h =
    let g : Bool → ℕ = λ b. cond b 1 0 in
    let e : g (bytes_eq q n) ≡ 1 = ap g ((bytes_eq-Decides q n).1 h) in
    omega (arith, e)

count_from : (q : List ℕ) (ns : List (List ℕ)) → In q ns → 0 < count_by (bytes_eq q) ns
count_from q [] h = absurd (in_none h)
count_from q (n ∷ ns) h = elim (in_split (n ∷ []) ns h) [
  | inl i ↦ subst (λ k. 0 < k) (sym (count_first q n ns)) (count_here q n ns (in_one i))
  | inr i ↦ subst (λ k. 0 < k) (sym (count_first q n ns)) (let c = count_from q ns i in omega arith)
]

one_of : (a b : ℕ) → 0 < a + b → (0 < a) ⊎ (0 < b)
one_of zero b h = inr (omega arith)
one_of (suc a) b h = inl (omega arith)

bound_to : (f : Forest) (os : List Opened) (q : List ℕ) → AreKnown f os → 0 < occurs q os → IsBound (env_of f os) q
bound_to f [] q k h = absurd (omega arith)
bound_to f (o ∷ os) q k h = elim (one_of (count_by (bytes_eq q) o.names.items) (occurs q os) h) [
  | inl i ↦ record { by = spot_at f o.opener; is_in = here; binds = (k.0 q).0 (count_to q o.names.items i) }
  | inr i ↦ let b = bound_to f os q k.1 i in record { by = b.by; is_in = later b.is_in; binds = b.binds }
]

bound_from : (f : Forest) (os : List Opened) (q : List ℕ) (by : Spot) → AreKnown f os → In by (env_of f os) → Binds by q → 0 < occurs q os
bound_from f [] q by k i b = absurd (in_none i)
bound_from f (o ∷ os) q by k here b = omega (arith, count_from q o.names.items ((k.0 q).1 b))
bound_from f (o ∷ os) q by k (later i) b = omega (arith, bound_from f os q by k.1 i b)

pub bound_iff : (f : Forest) (os : List Opened) (q : List ℕ) → AreKnown f os → (0 < occurs q os) ↔ IsBound (env_of f os) q
bound_iff f os q k = (bound_to f os q k, (λ b. bound_from f os q b.by k b.is_in b.binds))

-- jumps
pub jumps_are : (f : Forest) (j : Jumps) (os : List Opened) → AreJumps f j os → jumps_of j os ≡ jumps_from j (env_of f os)
jumps_are f j [] h = refl
jumps_are f j (o ∷ os) h = jumps_are f o.jumps os h.1 ∙ ap (λ c. jumps_from c (env_of f os)) h.0

pub jumps_last : (j : Jumps) (os : List Opened) (n : ℕ) (o : Opened) → length os ≡ suc n → o ≡ get_or os n o → o.jumps ≡ jumps_of j os
jumps_last j [] n o e is = absurd (omega arith)
jumps_last j (t ∷ []) zero o e is = ap (λ (x : Opened). x.jumps) is
jumps_last j (t ∷ u ∷ os) zero o e is = absurd (omega arith)
jumps_last j (t ∷ []) (suc n) o e is = absurd (omega arith)
jumps_last j (t ∷ u ∷ os) (suc n) o e is = jumps_last t.jumps (u ∷ os) n o (omega arith) is

pub jumps_take : (f : Forest) (j : Jumps) (d : ℕ) (os : List Opened) → AreJumps f j os → AreJumps f j (take d os)
jumps_take f j zero os h = tt
jumps_take f j (suc d) [] h = tt
jumps_take f j (suc d) (o ∷ os) h = (h.0, jumps_take f o.jumps d os h.1)

pub jumps_more : (f : Forest) (j : Jumps) (os : List Opened) (o : Opened) → AreJumps f j os → o.jumps ≡ jumps_in (jumps_of j os) (spot_at f o.opener) → AreJumps f j (os ++ o ∷ [])
jumps_more f j [] o h e = (e, tt)
jumps_more f j (t ∷ os) o h e = (h.0, jumps_more f t.jumps os o h.1 e)

-- one value of an ordered map of counts is written
module _ (old new : List ℕ → Option ℕ) (name : List ℕ) (w : ℕ) (updates : (q : List ℕ) → new q ≡ cond (is_eq (slice_cmp nat_cmp name q)) (Some w) (old q)) where
  same_at : (q : List ℕ) → is_eq (slice_cmp nat_cmp name q) ≡ true → old q ≡ old name
  same_at q e = ap old (sym ((bytes_eq-Decides name q).0 (sym (is_eq-slice_cmp name q) ∙ e)))

  pub raised : w ≡ unwrap_or (old name) 0 + 1 → (q : List ℕ) → unwrap_or (new q) 0 ≡ unwrap_or (old q) 0 + one_for name q
  raised is q = ap (λ o. unwrap_or o 0) (updates q) ∙ by (is_eq (slice_cmp nat_cmp name q)) refl
    where
      by : (b : Bool) → is_eq (slice_cmp nat_cmp name q) ≡ b → unwrap_or (cond b (Some w) (old q)) 0 ≡ unwrap_or (old q) 0 + (if b then 1 else 0)
      by true e = is ∙ ap (λ o. unwrap_or o 0 + 1) (sym (same_at q e))
      by false e = omega arith

  pub lowered : w + 1 ≡ unwrap_or (old name) 0 → (q : List ℕ) → unwrap_or (new q) 0 + one_for name q ≡ unwrap_or (old q) 0
  lowered is q = ap (λ o. unwrap_or o 0 + one_for name q) (updates q) ∙ by (is_eq (slice_cmp nat_cmp name q)) refl
    where
      by : (b : Bool) → is_eq (slice_cmp nat_cmp name q) ≡ b → unwrap_or (cond b (Some w) (old q)) 0 + (if b then 1 else 0) ≡ unwrap_or (old q) 0
      by true e = is ∙ ap (λ o. unwrap_or o 0) (sym (same_at q e))
      by false e = omega arith

-- a name that was not there
pub counted_first : (old new : List ℕ → Option ℕ) (key name : List ℕ) → key ≡ name → old name ≡ None → ((q : List ℕ) → new q ≡ cond (is_eq (slice_cmp nat_cmp key q)) (Some 1) (old q)) → (q : List ℕ) → unwrap_or (new q) 0 ≡ unwrap_or (old q) 0 + one_for name q
counted_first old new key name same absent updates q =
    let missing : old key ≡ None = ap old same ∙ absent in
    let one : 1 ≡ unwrap_or (old key) 0 + 1 = omega (arith, ap (λ o. unwrap_or o 0) missing) in
    subst (λ k. unwrap_or (new q) 0 ≡ unwrap_or (old q) 0 + one_for k q) same (raised old new key 1 updates one q)

-- a name is counted where it is the same
one_same : (name q : List ℕ) → one_for name q ≡ cond (bytes_eq q name) 1 0
one_same name q = ap (λ b. cond b 1 0) (is_eq-slice_cmp name q ∙ nat_list_eq_equiv.symm name q)

-- one name more
pub more_step : (ns : List (List ℕ)) (i : ℕ) (x : List ℕ) → i < length ns → x ≡ get_or ns i x → (q : List ℕ) (next now was : ℕ) → next ≡ now + one_for x q → now ≡ was + count_by (bytes_eq q) (take i ns) → next ≡ was + count_by (bytes_eq q) (take (i + 1) ns)
more_step ns i x lt is q next now was d e =
    let f : List ℕ → ℕ = λ n. cond (bytes_eq q n) 1 0 in
    let one : one_for x q ≡ f (get_or ns i x) = one_same x q ∙ ap f is in
    omega (arith, sum_by_more f ns i x lt, one)

-- one name less
module _ (ns : List (List ℕ)) (i : ℕ) (x name : List ℕ) (lt : i < length ns) (is : x ≡ get_or ns i x) (same : name ≡ x) where
  pub less_room : (now was : ℕ) → now + count_by (bytes_eq name) (take i ns) ≡ was → count_by (bytes_eq name) ns ≤ was → 0 < now
  less_room now was e le =
      let f : List ℕ → ℕ = λ n. cond (bytes_eq name n) 1 0 in
      let t : bytes_eq name (get_or ns i x) ≡ true = (bytes_eq-Decides name (get_or ns i x)).1 (same ∙ is) in
      let one : f (get_or ns i x) ≡ 1 = ap (λ b. cond b 1 0) t in
      omega (arith, sum_by_more_le f ns i x lt, one)

  pub less_step : (q : List ℕ) (next now was : ℕ) → next + one_for name q ≡ now → now + count_by (bytes_eq q) (take i ns) ≡ was → next + count_by (bytes_eq q) (take (i + 1) ns) ≡ was
  less_step q next now was d e =
      let f : List ℕ → ℕ = λ n. cond (bytes_eq q n) 1 0 in
      let one : one_for name q ≡ f (get_or ns i x) = one_same name q ∙ ap f (same ∙ is) in
      omega (arith, sum_by_more f ns i x lt, one)
