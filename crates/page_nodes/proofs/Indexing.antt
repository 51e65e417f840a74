-- The index of ids stays exact.
use Rattle.std.proofs.Common.{◌≡◌, ℕ, zero, suc, ◌<◌, ◌≤◌, ◌+◌, List, [], ◌∷◌, Bool, true, false, refl, ap, sym, ◌∙◌, eqb, not, cond, length, arith, eqb-true, ◌||◌, ◌&&◌, set, take, eq-eqb, ne_eqb, subst, ◌≢◌, Option, Some, None, ⊎_elim, Result, Ok, Err}
use Rattle.std.specs.Prelude.{codes, is_err, MatchResult}
use Rattle.std.specs.Option.{option_eq}
use Rattle.std.specs.Str.{bytes_eq}
use Rattle.std.proofs.lemmas.Bool.{eqb-false, cases_lt}
use Rattle.std.proofs.lemmas.List.{get_or_past, take_all}
use Rattle.code_units.specs.declared.owner.Owner.{Owner}
use Rattle.code_units.specs.declared.owner.Owner.TheVariants as owner
use Rattle.plain_tree.specs.Trees.{Label, TextOf, ElementOf, PlainTrees}
use Rattle.page_nodes.specs.declared.ids.Ids.{Ids}
use Rattle.tree_ops.specs.Labels.{attribute_of, with_attribute, is_text}
use Rattle.page_nodes.specs.Adds.{IsAdded, Older}
use Rattle.page_nodes.specs.Entries.{Entry, at, no_entry, body_entry, listed, AreOwners}
use Rattle.page_nodes.specs.Ids.{has_id, with_id, is_under, rises}
use Rattle.page_nodes.specs.Index.{indexed, room_for, HasRoom, AreRising, SameNumbers, Puts, Takes, IsIndex}
use Rattle.page_nodes.specs.Moves.{KeepsNodes, IsRelabelled}
use Rattle.page_nodes.specs.Owners.{is_owner, same_owner, slot}
use Rattle.page_nodes.proofs.Lists.{cases, at_set}
use Rattle.page_nodes.proofs.Owners.{same_is, is_same, slot_is}
use Rattle.page_nodes.proofs.Rising.{rising_filter}
use Rattle.page_nodes.proofs.Adds.{taken_back}
use Rattle.tree_ops.proofs.Values.{attribute_set, attribute_other}

false_true : false ≡ true → ⊥
false_true e = cc

and_false : (b : Bool) → (b && false) ≡ false
and_false true = refl
and_false false = refl

or_false : (b : Bool) → (b || false) ≡ b
or_false true = refl
or_false false = refl

and_true : (b : Bool) → (b && true) ≡ b
and_true true = refl
and_true false = refl

-- owners by their places
same_slot : (o p : Owner) → is_owner o ≡ true → is_owner p ≡ true → eqb (slot o) (slot p) ≡ same_owner o p
same_slot o p i j = cases (λ b. eqb (slot o) (slot p) ≡ b) (same_owner o p) (λ e. eq-eqb (slot o) (slot p) (ap slot (same_is o p e))) (λ e. ne_eqb (slot o) (slot p) (λ s. false_true (sym e ∙ is_same o p (slot_is o p i j s))))

no_id : (o : Owner) (v : List ℕ) → has_id o v no_entry ≡ false
no_id o v = and_false (same_owner owner.Host o)

id_past : (k : List Entry) (o : Owner) (v : List ℕ) (x : ℕ) → length k ≤ x → has_id o v (at k x) ≡ false
id_past k o v x le = ap (has_id o v) (get_or_past k x no_entry le) ∙ no_id o v

id_same : (o : Owner) (v : List ℕ) (e f : Entry) → e.owner ≡ f.owner → attribute_of (codes "id") e.label ≡ attribute_of (codes "id") f.label → has_id o v e ≡ has_id o v f
id_same o v e f eo el = ap (λ q. same_owner q o && option_eq bytes_eq (attribute_of (codes "id") e.label) (Some v)) eo ∙ ap (λ a. same_owner f.owner o && option_eq bytes_eq a (Some v)) el

-- what the index gives
pub index_gives : (k : List Entry) (ids : Ids) (o : Owner) (v : List ℕ) (s : ℕ) → IsIndex k ids → is_owner o ≡ true → s ≡ slot o → indexed ids s v ≡ with_id k o v
index_gives k ids o v s c i e = ap (λ t. indexed ids t v) e ∙ rising_filter (λ n. has_id o v (at k n)) (length k) 0 (indexed ids (slot o) v) (c.in_order (slot o) v) (λ x _. c.exact o v x i) (λ x le. id_past k o v x (omega (arith, le)))

-- the first index
pub index_start : (k : List Entry) (ids : Ids) → k ≡ body_entry ∷ [] → ((s : ℕ) (v : List ℕ) → indexed ids s v ≡ []) → IsIndex k ids
index_start k ids e none = subst (λ y. IsIndex y ids) (sym e) (record {
  in_order = λ s v. ap (rises 0) (none s v);
  exact = λ o v x i. ap (listed x) (none (slot o) v) ∙ sym (no_one o v x);
})
  where
    no_one : (o : Owner) (v : List ℕ) (x : ℕ) → has_id o v (at (body_entry ∷ []) x) ≡ false
    no_one o v zero = and_false (same_owner owner.Host o)
    no_one o v (suc x) = and_false (same_owner owner.Host o)

-- the same numbers, or the same ids
pub index_same : (k : List Entry) (ids new : Ids) → SameNumbers ids new → IsIndex k ids → IsIndex k new
index_same k ids new h c = record { in_order = λ s v. ap (rises 0) (h s v) ∙ c.in_order s v; exact = λ o v x i. ap (listed x) (h (slot o) v) ∙ c.exact o v x i }

index_nodes : (k m : List Entry) (ids : Ids) → ((o : Owner) (v : List ℕ) (x : ℕ) → has_id o v (at m x) ≡ has_id o v (at k x)) → IsIndex k ids → IsIndex m ids
index_nodes k m ids h c = record { in_order = c.in_order; exact = λ o v x i. c.exact o v x i ∙ sym (h o v x) }

pub index_kept : (k m : List Entry) (ids : Ids) → KeepsNodes k m → IsIndex k ids → IsIndex m ids
index_kept k m ids h c = index_nodes k m ids (λ o v x. id_same o v (at m x) (at k x) (h.owners x) (ap (attribute_of (codes "id")) (h.labels x))) c

-- after a call that may have reserved room first
pub index_after : (k b m : List Entry) (ids : Ids) → b ≡ k → KeepsNodes b m → IsIndex k ids → IsIndex m ids
index_after k b m ids e h c = index_kept k m ids (subst (λ y. KeepsNodes y m) e h) c

-- another label with the same id
pub index_relabelled : (k m : List Entry) (ids : Ids) (n : ℕ) (l : Label) → IsRelabelled k m n l → attribute_of (codes "id") l ≡ attribute_of (codes "id") (at k n).label → IsIndex k ids → IsIndex m ids
index_relabelled k m ids n l h e c = index_nodes k m ids (λ o v x. id_same o v (at m x) (at k x) (h.owners x) (ap (attribute_of (codes "id")) (h.labels x) ∙ same x)) c
  where
    same : (x : ℕ) → attribute_of (codes "id") (cond (eqb x n) l (at k x).label) ≡ attribute_of (codes "id") (at k x).label
    same x = cases (λ b. attribute_of (codes "id") (cond b l (at k x).label) ≡ attribute_of (codes "id") (at k x).label) (eqb x n) (λ t. e ∙ ap (λ y. attribute_of (codes "id") (at k y).label) (sym (eqb-true x n t))) (λ _. refl)

no_attribute : (name : List ℕ) (l : Label) → is_text l ≡ true → attribute_of name l ≡ None
no_attribute name (TextOf text) h = refl
no_attribute name (ElementOf tag attributes) h = absurd (false_true h)

pub index_text : (k m : List Entry) (ids : Ids) (n : ℕ) (text : List ℕ) → is_text (at k n).label ≡ true → IsRelabelled k m n (TextOf text) → IsIndex k ids → IsIndex m ids
index_text k m ids n text t h c = index_relabelled k m ids n (TextOf text) h (sym (no_attribute (codes "id") (at k n).label t)) c

-- one node more
entered : (k m : List Entry) (ids new : Ids) (n s : ℕ) (q : Owner) (id : Option (List ℕ)) → IsIndex k ids → ((o : Owner) (v : List ℕ) (x : ℕ) → x ≢ n → has_id o v (at m x) ≡ has_id o v (at k x)) → ((o : Owner) (v : List ℕ) → has_id o v (at k n) ≡ false) → is_owner q ≡ true → s ≡ slot q → (at m n).owner ≡ q → attribute_of (codes "id") (at m n).label ≡ id → Puts ids new s id n → IsIndex m new
entered k m ids new n s q id c same none i es eo ea p = record {
  in_order = p.in_order;
  exact = λ o v x j. p.exact (slot o) v x ∙ cases (λ b. eqb n x ≡ b → (listed x (indexed ids (slot o) v) || (is_under s id (slot o) v && b)) ≡ has_id o v (at m x)) (eqb n x)
      (λ e _. let ex = eqb-true n x e in
      ap (λ b. b || (is_under s id (slot o) v && true)) (c.exact o v x j ∙ ap (λ y. has_id o v (at k y)) (sym ex) ∙ none o v) ∙ and_true (is_under s id (slot o) v)
      ∙ ap (λ b. b && option_eq bytes_eq id (Some v)) (ap (λ y. eqb y (slot o)) es ∙ same_slot q o i j)
      ∙ sym (ap (λ y. same_owner y o && option_eq bytes_eq (attribute_of (codes "id") (at m n).label) (Some v)) eo ∙ ap (λ a. same_owner q o && option_eq bytes_eq a (Some v)) ea)
      ∙ ap (λ y. has_id o v (at m y)) ex)
      (λ e _. ap (λ b. listed x (indexed ids (slot o) v) || b) (and_false (is_under s id (slot o) v)) ∙ or_false (listed x (indexed ids (slot o) v)) ∙ c.exact o v x j ∙ sym (same o v x (λ d. eqb-false n x e (sym d)))) refl;
}

-- one node less
left : (k m : List Entry) (ids new : Ids) (n s : ℕ) (q : Owner) (id : Option (List ℕ)) → IsIndex k ids → ((o : Owner) (v : List ℕ) (x : ℕ) → x ≢ n → has_id o v (at m x) ≡ has_id o v (at k x)) → ((o : Owner) (v : List ℕ) → has_id o v (at m n) ≡ false) → is_owner q ≡ true → s ≡ slot q → (at k n).owner ≡ q → attribute_of (codes "id") (at k n).label ≡ id → Takes ids new s id n → IsIndex m new
left k m ids new n s q id c same none i es eo ea p = record {
  in_order = p.in_order;
  exact = λ o v x j. p.exact (slot o) v x ∙ cases (λ b. (listed x (indexed ids (slot o) v) && not (is_under s id (slot o) v && b)) ≡ has_id o v (at m x)) (eqb n x)
      (λ e. let ex = eqb-true n x e in
      (λ i2. c.exact o v x j i2 && not (and_true (is_under s id (slot o) v) i2))
      ∙ ap (λ b. has_id o v (at k x) && not (b && option_eq bytes_eq id (Some v))) (ap (λ y. eqb y (slot o)) es ∙ same_slot q o i j)
      ∙ ap (λ b. b && not (same_owner q o && option_eq bytes_eq id (Some v))) (ap (λ y. has_id o v (at k y)) (sym ex) ∙ ap (λ y. same_owner y o && option_eq bytes_eq (attribute_of (codes "id") (at k n).label) (Some v)) eo ∙ ap (λ a. same_owner q o && option_eq bytes_eq a (Some v)) ea)
      ∙ never (same_owner q o && option_eq bytes_eq id (Some v))
      ∙ sym (ap (λ y. has_id o v (at m y)) (sym ex) ∙ none o v))
      (λ e. ap (λ b. listed x (indexed ids (slot o) v) && not b) (and_false (is_under s id (slot o) v)) ∙ and_true (listed x (indexed ids (slot o) v)) ∙ c.exact o v x j ∙ sym (same o v x (λ d. eqb-false n x e (sym d))));
}
  where
    never : (b : Bool) → (b && not b) ≡ false
    never true = refl
    never false = refl

-- the nodes up to one
at_taken : (n : ℕ) (k : List Entry) (x : ℕ) → x < n → at (take n k) x ≡ at k x
at_taken zero k x lt = absurd (omega (arith, lt))
at_taken (suc n) [] x lt = refl
at_taken (suc n) (y ∷ k) zero lt = refl
at_taken (suc n) (y ∷ k) (suc x) lt = at_taken n k x (omega (arith, lt))

at_cut : (n : ℕ) (k : List Entry) (x : ℕ) → n ≤ x → at (take n k) x ≡ no_entry
at_cut zero k x le = refl
at_cut (suc n) [] x le = refl
at_cut (suc n) (y ∷ k) zero le = absurd (omega (arith, le))
at_cut (suc n) (y ∷ k) (suc x) le = at_cut n k x (omega (arith, le))

next_same : (n : ℕ) (k : List Entry) (x : ℕ) → x ≢ n → at (take (n + 1) k) x ≡ at (take n k) x
next_same n k x ne = ⊎_elim (λ lt. at_taken (n + 1) k x (omega (arith, lt)) ∙ sym (at_taken n k x lt)) (λ le. let past : n + 1 ≤ x = omega (arith, le, ne) in at_cut (n + 1) k x past ∙ sym (at_cut n k x le)) (cases_lt x n)

pub entered_next : (k : List Entry) (ids mid new : Ids) (n s : ℕ) (id : Option (List ℕ)) → IsIndex (take n k) ids → SameNumbers ids mid → is_owner (at k n).owner ≡ true → s ≡ slot (at k n).owner → id ≡ attribute_of (codes "id") (at k n).label → Puts mid new s id n → IsIndex (take (n + 1) k) new
entered_next k ids mid new n s id c h i es ea p =
    let here : at (take (n + 1) k) n ≡ at k n = at_taken (n + 1) k n (omega arith) in
    entered (take n k) (take (n + 1) k) mid new n s (at k n).owner id (index_same (take n k) ids mid h c)
    (λ o v x ne. ap (has_id o v) (next_same n k x ne))
    (λ o v. ap (has_id o v) (at_cut n k n (omega arith)) ∙ no_id o v)
    i es (ap (λ (y : Entry). y.owner) here) (ap (λ (y : Entry). attribute_of (codes "id") y.label) here ∙ sym ea) p

pub left_last : (k : List Entry) (ids mid new : Ids) (n s : ℕ) (id : Option (List ℕ)) → IsIndex (take (n + 1) k) ids → is_owner (at k n).owner ≡ true → s ≡ slot (at k n).owner → id ≡ attribute_of (codes "id") (at k n).label → Takes ids mid s id n → SameNumbers mid new → IsIndex (take n k) new
left_last k ids mid new n s id c i es ea p h =
    let here : at (take (n + 1) k) n ≡ at k n = at_taken (n + 1) k n (omega arith) in
    index_same (take n k) mid new h
    (left (take (n + 1) k) (take n k) ids mid n s (at k n).owner id c
    (λ o v x ne. sym (ap (has_id o v) (next_same n k x ne)))
    (λ o v. ap (has_id o v) (at_cut n k n (omega arith)) ∙ no_id o v)
    i es (ap (λ (y : Entry). y.owner) here) (ap (λ (y : Entry). attribute_of (codes "id") y.label) here ∙ sym ea) p)

-- a node gets another id, or none
pub id_changed : (k m : List Entry) (a b c d e : Ids) (n s : ℕ) (old value : Option (List ℕ)) (name : List ℕ) → n < length k → bytes_eq name (codes "id") ≡ true → is_text (at k n).label ≡ false → IsIndex k a → SameNumbers a b → is_owner (at k n).owner ≡ true → s ≡ slot (at k n).owner → old ≡ attribute_of (codes "id") (at k n).label → IsRelabelled k m n (with_attribute name value (at k n).label) → Takes b c s old n → Puts c d s value n → SameNumbers d e → IsIndex m e
id_changed k m a b c d e n s old value name lt word element ix h i es eo r t p g =
    let gap = set k n no_entry in
    let aside : (o : Owner) (v : List ℕ) (x : ℕ) → x ≢ n → has_id o v (at gap x) ≡ has_id o v (at k x) = λ o v x ne. ap (has_id o v) (at_set k n x no_entry lt ∙ ap (λ z. cond z no_entry (at k x)) (ne_eqb x n ne)) in
    let hole : (o : Owner) (v : List ℕ) → has_id o v (at gap n) ≡ false = λ o v. ap (has_id o v) (at_set k n n no_entry lt ∙ ap (λ z. cond z no_entry (at k n)) (eq-eqb n n refl)) ∙ no_id o v in
    let without : IsIndex gap c = left k gap b c n s (at k n).owner old (index_same k a b h ix) aside hole i es refl (sym eo) t in
    let here : (at m n).label ≡ with_attribute name value (at k n).label = r.labels n ∙ ap (λ z. cond z (with_attribute name value (at k n).label) (at k n).label) (eq-eqb n n refl) in
    index_same m d e g
    (entered gap m c d n s (at k n).owner value without
    (λ o v x ne. id_same o v (at m x) (at k x) (r.owners x) (ap (attribute_of (codes "id")) (r.labels x ∙ ap (λ z. cond z (with_attribute name value (at k n).label) (at k x).label) (ne_eqb x n ne))) ∙ sym (aside o v x ne))
    hole i es (r.owners n) (ap (attribute_of (codes "id")) here ∙ attribute_set (codes "id") name value (at k n).label word element) p)

-- another attribute is set
pub index_other : (k m : List Entry) (ids : Ids) (n : ℕ) (name : List ℕ) (value : Option (List ℕ)) → bytes_eq name (codes "id") ≡ false → IsRelabelled k m n (with_attribute name value (at k n).label) → IsIndex k ids → IsIndex m ids
index_other k m ids n name value word r c = index_relabelled k m ids n (with_attribute name value (at k n).label) r (attribute_other (codes "id") name value (at k n).label word) c

pub rising_same : (ids new : Ids) → SameNumbers ids new → AreRising ids → AreRising new
rising_same ids new h g s v = ap (rises 0) (h s v) ∙ g s v

pub room_still : (ids new : Ids) (s : ℕ) (id : Option (List ℕ)) → ((t : ℕ) (v : List ℕ) → room_for ids t v ≤ room_for new t v) → HasRoom ids s id → HasRoom new s id
room_still ids new s id h r = record { room = λ v e. omega (arith, h s v, r.room v e) }

-- what a call says that has an id
pub room_there : (ids : Ids) (s : ℕ) (id : List ℕ) (o : Option (List ℕ)) → o ≡ Some id → 1 ≤ room_for ids s id → HasRoom ids s o
room_there ids s id o e h = record { room = λ v f. subst (λ w. 1 ≤ room_for ids s w) (same_some id v (sym e ∙ f)) h }
  where
    same_some : (a b : List ℕ) → Some a ≡ Some b → a ≡ b
    same_some a b g = cc

pub puts_there : (ids new : Ids) (s n : ℕ) (id : List ℕ) (o : Option (List ℕ)) → o ≡ Some id → AreRising new → ((t : ℕ) (v : List ℕ) (x : ℕ) → listed x (indexed new t v) ≡ (listed x (indexed ids t v) || (is_under s (Some id) t v && eqb n x))) → Puts ids new s o n
puts_there ids new s n id o e up ex = record { in_order = up; exact = λ t v x. ex t v x ∙ ap (λ q. listed x (indexed ids t v) || (is_under s q t v && eqb n x)) (sym e) }

pub takes_there : (ids new : Ids) (s n : ℕ) (id : List ℕ) (o : Option (List ℕ)) → o ≡ Some id → AreRising new → ((t : ℕ) (v : List ℕ) (x : ℕ) → listed x (indexed new t v) ≡ (listed x (indexed ids t v) && not (is_under s (Some id) t v && eqb n x))) → ((t : ℕ) (v : List ℕ) → room_for ids t v ≤ room_for new t v) → Takes ids new s o n
takes_there ids new s n id o e up ex room = record { in_order = up; exact = λ t v x. ex t v x ∙ ap (λ q. listed x (indexed ids t v) && not (is_under s q t v && eqb n x)) (sym e); room = room }

-- all nodes
pub index_whole : (k : List Entry) (ids : Ids) (n : ℕ) → n ≤ length k → length k ≤ n → IsIndex (take n k) ids → IsIndex k ids
index_whole k ids n le ge c = subst (λ y. IsIndex y ids) (take_all n k ge) c

-- a new tree's nodes have owners
pub owners_added : (k m : List Entry) (id : ℕ) (o : Owner) (p : PlainTrees) → AreOwners k → is_owner o ≡ true → IsAdded k m id o p → AreOwners m
owners_added k m id o p h i g n =
    ⊎_elim (λ lt. ap (λ (y : Entry). is_owner y.owner) (g.older.same n lt) ∙ h n)
    (λ le. ⊎_elim (λ lt. ap is_owner (g.own n le lt) ∙ i) (λ past. ap (λ (y : Entry). is_owner y.owner) (get_or_past m n no_entry past)) (cases_lt n (length m)))
    (cases_lt n (length k))

-- the older nodes are the beginning
pub index_older : (k m : List Entry) (ids : Ids) (n : ℕ) → n ≡ length k → Older k m → IsIndex k ids → IsIndex (take n m) ids
index_older k m ids n e h c = subst (λ y. IsIndex y ids) (sym (taken_back k m n e h)) c

pub index_back : (k m : List Entry) (ids : Ids) (n : ℕ) → n ≡ length k → Older k m → IsIndex (take n m) ids → IsIndex k ids
index_back k m ids n e h c = subst (λ y. IsIndex y ids) (taken_back k m n e h) c

pub when_refused : {T E : Type 0} (r : Result T E) (P Q : Type 0) → is_err r ≡ true → Q → MatchResult r (λ _. P) (λ _. Q)
when_refused (Ok x) P Q h q = absurd (false_true h)
when_refused (Err e) P Q h q = q
