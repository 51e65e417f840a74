-- Links up are cleared of many nodes, and then the lists of children are tidied.
use Rattle.std.proofs.Common.{◌≡◌, ℕ, suc, ◌+◌, ◌<◌, ◌≤◌, List, [], ◌∷◌, ◌++◌, Bool, true, false, refl, sym, ap, ◌∙◌, subst, eqb, not, cond, length, arith, eqb-true, eq-eqb, ◌||◌, get_or, take, Some, None, Option, ⊎_elim, set}
use Rattle.std.specs.Prelude.{is_some, unwrap_or}
use Rattle.std.specs.List.{filter}
use Rattle.std.proofs.Math.Seq.{take-suc}
use Rattle.std.proofs.lemmas.Bool.{eqb-false, or_cases}
use Rattle.std.proofs.lemmas.List.{length-set, get_or-set_same, get_or-set_other, take_all, take_more_set, get_or_past}
use Rattle.page_nodes.specs.Entries.{Entry, at, listed, minus, IsSound, no_entry}
use Rattle.page_nodes.specs.Many.{outside, below, AreRaised, AreTidied, AreCut}
use Rattle.page_nodes.specs.Moves.{KeepsNodes, AreNodes}
use Rattle.page_nodes.proofs.AtOnce.{listed-last, none_either, outside_more, outside_none, outside_off, same_function, turned}
use Rattle.page_nodes.proofs.Cut.{IsCut}
use Rattle.page_nodes.proofs.Detach.{taken, raised, cut_written, keeps_field, sets_field}
use Rattle.page_nodes.proofs.Lists.{cases, or_right}
use Rattle.page_nodes.proofs.Put.{kept_then}
use Rattle.page_nodes.proofs.Upward.{or_left, parent_in}

-- ## One node

or_none_is : (b : Bool) → b ≡ (b || false)
or_none_is true = refl
or_none_is false = refl

-- a list of one
pub one_only : (ns : List ℕ) (n : ℕ) → length ns ≡ 1 → n ≡ get_or ns 0 n → n ∷ [] ≡ ns
one_only [] n e h = absurd (omega (arith, e))
one_only (m ∷ []) n e h = ap (λ y. y ∷ []) h
one_only (m ∷ x ∷ ns) n e h = absurd (omega (arith, e))

-- a node is taken
pub one_cut : (k m : List Entry) (n : ℕ) → IsCut k m n → AreCut k m (n ∷ [])
one_cut k m n c = record {
  kept = record { made = c.length; labels = c.labels; owners = c.owners };
  children = λ x. c.children x ∙ sym (outside_none (minus n (at k x).children)) ∙ outside_more n [] (at k x).children;
  parents = λ x. c.parents x ∙ ap (λ b. cond b None (at k x).parent) (turned x n ∙ or_none_is (eqb n x));
}

-- by what was written
pub written_cut : (k : List Entry) → IsSound k → (n p : ℕ) (a m : List Entry) → n < length k → (at k n).parent ≡ Some p → a ≡ taken k p n → m ≡ raised a n → AreCut k m (n ∷ [])
written_cut k s n p a m nin u ea em = subst (λ y. AreCut k y (n ∷ [])) (sym (em ∙ ap (λ y. raised y n) ea)) (one_cut k _ n (cut_written k s n p (parent_in k s n p u) nin u))

-- ## The links up

some_same : (a b : ℕ) → Some a ≡ Some b → a ≡ b
some_same a b h = cc

was_some : (b : Bool) (u : Option ℕ) (p : ℕ) → cond b None u ≡ Some p → u ≡ Some p
was_some true u p h = cc
was_some false u p h = h

-- the first i are cleared, and their places have their parents
pub record RaisedTo (k d : List Entry) (ns ms : List ℕ) (i : ℕ) : Type 0 where
  pub long : length ms ≡ length ns
  pub rest : (j : ℕ) → i ≤ j → get_or ms j 0 ≡ get_or ns j 0
  pub inside : AreNodes k ms
  pub raised : AreRaised k d (take i ns) (take i ms)

pub raised_start : (k : List Entry) (ns : List ℕ) → AreNodes k ns → RaisedTo k k ns ns 0
raised_start k ns inside = record {
  long = refl;
  rest = λ j le. refl;
  inside = inside;
  raised = record { kept = record { made = refl; labels = λ x. refl; owners = λ x. refl }; children = λ x. refl; parents = λ x. refl; told = λ n p l u. absurd (no l) };
}
  where
    no : false ≡ true → ⊥
    no h = cc

-- one link is cleared
pub link_raised : (k d : List Entry) (n : ℕ) → n < length k → d ≡ raised k n → KeepsNodes k d × ((x : ℕ) → (at d x).children ≡ (at k x).children) × ((x : ℕ) → (at d x).parent ≡ cond (eqb n x) None (at k x).parent)
link_raised k d n lt e = subst (λ y. KeepsNodes k y × ((x : ℕ) → (at y x).children ≡ (at k x).children) × ((x : ℕ) → (at y x).parent ≡ cond (eqb n x) None (at k x).parent)) (sym e) (
  record { made = length-set k n _; labels = λ x. keeps_field (λ (y : Entry). y.label) k n _ lt refl x; owners = λ x. keeps_field (λ (y : Entry). y.owner) k n _ lt refl x },
  λ x. keeps_field (λ (y : Entry). y.children) k n _ lt refl x,
  λ x. sets_field (λ (y : Entry). y.parent) k n _ lt x ∙ ap (λ b. cond b None (at k x).parent) (turned x n),
)

module _ (k d d2 : List Entry) (ns ms : List ℕ) (i n v : ℕ) (s : IsSound k) (lt : i < length ms) (e : n ≡ get_or ms i 0) (f : RaisedTo k d ns ms i) (write : d2 ≡ raised d n) (parent : v ≡ unwrap_or (at d n).parent n) where
  is : n ≡ get_or ns i 0
  is = e ∙ f.rest i (omega arith)

  n_in : n < length k
  n_in = subst (λ y. y < length k) (sym e) (f.inside i lt)

  one_on : take (i + 1) ns ≡ take i ns ++ n ∷ []
  one_on = ap (λ j. take j ns) next ∙ take-suc ns i 0 (omega (arith, lt, f.long)) ∙ ap (λ y. take i ns ++ y ∷ []) (sym is)
    where
      next : i + 1 ≡ suc i
      next = omega arith

  now : KeepsNodes d d2 × ((x : ℕ) → (at d2 x).children ≡ (at d x).children) × ((x : ℕ) → (at d2 x).parent ≡ cond (eqb n x) None (at d x).parent)
  now = link_raised d d2 n (omega (arith, n_in, f.raised.kept.made)) write

  v_in : v < length k
  v_in = of (at d n).parent refl
    where
      of : (u : Option ℕ) → (at d n).parent ≡ u → v < length k
      of None h = subst (λ y. y < length k) (sym (parent ∙ ap (λ u. unwrap_or u n) h)) n_in
      of (Some p) h = subst (λ y. y < length k) (sym (parent ∙ ap (λ u. unwrap_or u n) h)) (parent_in k s n p (was_some (listed n (take i ns)) (at k n).parent p (sym (f.raised.parents n) ∙ h)))

  inside_now : AreNodes k (set ms i v)
  inside_now j l = cases (λ b. get_or (set ms i v) j 0 < length k) (eqb j i)
      (λ h. subst (λ y. y < length k) (sym (ap (λ z. get_or (set ms i v) z 0) (eqb-true j i h) ∙ get_or-set_same ms i v 0 lt)) v_in)
      (λ h. subst (λ y. y < length k) (sym (get_or-set_other ms i j v 0 (eqb-false j i h))) (f.inside j (omega (arith, l, length-set ms i v))))

  told_now : (m p : ℕ) → listed m (take (i + 1) ns) ≡ true → (at k m).parent ≡ Some p → listed p (take (i + 1) (set ms i v)) ≡ true
  told_now m p l u = ap (listed p) (take_more_set ms i v lt) ∙ listed-last p v (take i ms) ∙ ⊎_elim
      (λ h. or_left (listed p (take i ms)) (eqb v p) (f.raised.told m p h u))
      (λ h. newly (eqb-true n m h))
      (or_cases (listed m (take i ns)) (eqb n m) (sym (ap (listed m) one_on ∙ listed-last m n (take i ns)) ∙ l))
    where
      newly : n ≡ m → (listed p (take i ms) || eqb v p) ≡ true
      newly same = cases (λ b. (listed p (take i ms) || eqb v p) ≡ true) (listed n (take i ns))
          (λ h. or_left (listed p (take i ms)) (eqb v p) (f.raised.told n p h (ap (λ y. (at k y).parent) same ∙ u)))
          (λ h. or_right (listed p (take i ms)) (eqb v p) (eq-eqb v p (parent ∙ ap (λ o. unwrap_or o n) (f.raised.parents n ∙ ap (λ b. cond b None (at k n).parent) h ∙ ap (λ y. (at k y).parent) same ∙ u))))

  -- one more
  pub raised_more : RaisedTo k d2 ns (set ms i v) (i + 1)
  raised_more = record {
    long = length-set ms i v ∙ f.long;
    rest = λ j le. get_or-set_other ms i j v 0 (λ h. omega (arith, le, h)) ∙ f.rest j (omega (arith, le));
    inside = inside_now;
    raised = record {
      kept = kept_then k d d2 f.raised.kept (now.0);
      children = λ x. (now.1) x ∙ f.raised.children x;
      parents = λ x. (now.2) x ∙ ap (λ u. cond (eqb n x) None u) (f.raised.parents x) ∙ none_either (listed x (take i ns)) (eqb n x) (at k x).parent
          ∙ ap (λ b. cond b None (at k x).parent) (sym (ap (listed x) one_on ∙ listed-last x n (take i ns)));
      told = told_now;
    };
  }

-- all
pub raised_all : (k d : List Entry) (ns ms : List ℕ) (i : ℕ) → length ms ≤ i → RaisedTo k d ns ms i → AreRaised k d ns ms
raised_all k d ns ms i le f = subst (λ l. AreRaised k d l ms) (take_all i ns (omega (arith, le, f.long))) (subst (λ l. AreRaised k d (take i ns) l) (take_all i ms le) f.raised)

pub raised_inside : (k d : List Entry) (ns ms : List ℕ) (i : ℕ) → RaisedTo k d ns ms i → AreNodes d ms
raised_inside k d ns ms i f = λ j lt. omega (arith, f.inside j lt, f.raised.kept.made)

-- ## The lists of children

-- a number that none has
pub past : (k : List Entry) (n : ℕ) → length k ≤ n → false ≡ is_some (at k n).parent
past k n le = ap (λ (y : Entry). is_some y.parent) (sym (get_or_past k n no_entry le))

-- room that is put back
pub room_back : (b : Bool) (r1 r2 own1 own2 old : ℕ) → cond b own1 r1 ≡ old → own1 ≤ own2 → r2 ≡ cond b own2 r1 → old ≤ r2
room_back true r1 r2 own1 own2 old e le f = omega (arith, e, le, f)
room_back false r1 r2 own1 own2 old e le f = omega (arith, e, f)

twice : (f : ℕ → Bool) (xs : List ℕ) → filter f (filter f xs) ≡ filter f xs
twice f [] = refl
twice f (x ∷ xs) = cases (λ b. f x ≡ b → filter f (cond b (x ∷ filter f xs) (filter f xs)) ≡ cond b (x ∷ filter f xs) (filter f xs)) (f x)
    (λ _ e. ap (λ b. cond b (x ∷ filter f (filter f xs)) (filter f (filter f xs))) e ∙ ap (λ l. x ∷ l) (twice f xs))
    (λ _ _. twice f xs)
    refl

pub tidied_start : (k : List Entry) → AreTidied k k []
tidied_start k = record { kept = record { made = refl; labels = λ x. refl; owners = λ x. refl }; children = λ x. refl; parents = λ x. refl }

pub none_yet : (q : ℕ) → ◌≡◌ {A = Option ℕ} None (Some q) → listed q [] ≡ true
none_yet q h = cc

module _ (d m : List Entry) (ps : List ℕ) (i p : ℕ) (lt : i < length ps) (e : p ≡ get_or ps i 0) (a : AreTidied d m (take i ps)) where
  one_more : take (i + 1) ps ≡ take i ps ++ p ∷ []
  one_more = ap (λ j. take j ps) next ∙ take-suc ps i 0 lt ∙ ap (λ y. take i ps ++ y ∷ []) (sym e)
    where
      next : i + 1 ≡ suc i
      next = omega arith

  on : (x : ℕ) → (listed x (take i ps) || eqb p x) ≡ listed x (take (i + 1) ps)
  on x = sym (ap (listed x) one_more ∙ listed-last x p (take i ps))

  -- one list more is tidied
  pub tidied_more : (m2 : List Entry) → AreTidied m m2 (p ∷ []) → AreTidied d m2 (take (i + 1) ps)
  tidied_more m2 b = record {
    kept = kept_then d m m2 a.kept b.kept;
    children = λ x. b.children x
        ∙ ap (λ g. cond (eqb p x || false) (filter g (at m x).children) (at m x).children) (same_function (λ c. is_some (at m c).parent) (λ c. is_some (at d c).parent) (λ c. ap is_some (a.parents c)))
        ∙ ap (λ l. cond (eqb p x || false) (below d l) l) (a.children x)
        ∙ either (listed x (take i ps)) (eqb p x) (at d x).children
        ∙ ap (λ c. cond c (below d (at d x).children) (at d x).children) (on x);
    parents = λ x. b.parents x ∙ a.parents x;
  }
    where
      either : (u v : Bool) (cs : List ℕ) → cond (v || false) (below d (cond u (below d cs) cs)) (cond u (below d cs) cs) ≡ cond (u || v) (below d cs) cs
      either true true cs = twice (λ c. is_some (at d c).parent) cs
      either true false cs = refl
      either false true cs = refl
      either false false cs = refl

  -- one that is tidied already
  pub tidied_passed : listed p (take i ps) ≡ true → AreTidied d m (take (i + 1) ps)
  tidied_passed here = record {
    kept = a.kept;
    children = λ x. a.children x ∙ ap (λ c. cond c (below d (at d x).children) (at d x).children) (still x ∙ on x);
    parents = a.parents;
  }
    where
      none : (b : Bool) → b ≡ (b || false)
      none true = refl
      none false = refl

      still : (x : ℕ) → listed x (take i ps) ≡ (listed x (take i ps) || eqb p x)
      still x = cases (λ b. listed x (take i ps) ≡ (listed x (take i ps) || b)) (eqb p x)
          (λ h. let l : listed x (take i ps) ≡ true = ap (λ y. listed y (take i ps)) (sym (eqb-true p x h)) ∙ here in l ∙ sym (ap (λ b. b || true) l))
          (λ _. none (listed x (take i ps)))

  met : listed p (take (i + 1) ps) ≡ true
  met = sym (on p) ∙ or_right (listed p (take i ps)) (eqb p p) (eq-eqb p p refl)

  pub met_some : (q : ℕ) → Some p ≡ Some q → listed q (take (i + 1) ps) ≡ true
  met_some q h = subst (λ y. listed y (take (i + 1) ps) ≡ true) (some_same p q h) met

  pub passed : (q : ℕ) → listed q (take i ps) ≡ true → listed q (take (i + 1) ps) ≡ true
  passed q l = sym (on q) ∙ or_left (listed q (take i ps)) (eqb p q) l

pub tidied_all : (d m : List Entry) (ps : List ℕ) (i : ℕ) → length ps ≤ i → AreTidied d m (take i ps) → AreTidied d m ps
tidied_all d m ps i le a = subst (AreTidied d m) (take_all i ps le) a

-- the list is lifted out and put back
pub tidied_one : (k a m : List Entry) (p : ℕ) (cs : List ℕ) → p < length k → a ≡ set k p (record (at k p) { children = [] }) → cs ≡ below a (at k p).children → m ≡ set a p (record (at a p) { children = cs }) → AreTidied k m (p ∷ [])
tidied_one k a m p cs lt ea ec em =
    let lta : p < length a = omega (arith, lt, ap length ea, length-set k p (record (at k p) { children = [] })) in
    let parents : (x : ℕ) → (at a x).parent ≡ (at k x).parent = λ x. ap (λ y. (at y x).parent) ea ∙ keeps_field (λ (y : Entry). y.parent) k p _ lt refl x in
    let same : cs ≡ below k (at k p).children = ec ∙ ap (λ g. filter g (at k p).children) (same_function (λ c. is_some (at a c).parent) (λ c. is_some (at k c).parent) (λ c. ap is_some (parents c))) in
    subst (λ y. AreTidied k y (p ∷ [])) (sym em) (record {
      kept = record {
        made = length-set a p _ ∙ ap length ea ∙ length-set k p _;
        labels = λ x. keeps_field (λ (y : Entry). y.label) a p _ lta refl x ∙ ap (λ y. (at y x).label) ea ∙ keeps_field (λ (y : Entry). y.label) k p _ lt refl x;
        owners = λ x. keeps_field (λ (y : Entry). y.owner) a p _ lta refl x ∙ ap (λ y. (at y x).owner) ea ∙ keeps_field (λ (y : Entry). y.owner) k p _ lt refl x;
      };
      children = λ x. sets_field (λ (y : Entry). y.children) a p _ lta x ∙ ap (λ b. cond b cs (at a x).children) (turned x p)
          ∙ cases (λ b. eqb p x ≡ b → cond b cs (at a x).children ≡ cond (b || false) (below k (at k x).children) (at k x).children) (eqb p x)
          (λ _ h. same ∙ ap (λ y. below k (at k y).children) (eqb-true p x h))
          (λ _ h. ap (λ y. (at y x).children) ea ∙ sets_field (λ (y : Entry). y.children) k p _ lt x ∙ ap (λ b. cond b [] (at k x).children) (turned x p ∙ h))
          refl;
      parents = λ x. keeps_field (λ (y : Entry). y.parent) a p _ lta refl x ∙ parents x;
    })

-- ## Both

-- links up are cleared, and the lists of the parents are tidied in any order
pub raised_cut : (k d m : List Entry) (ns ms ps : List ℕ) → IsSound k → AreRaised k d ns ms → ((x : ℕ) → listed x ps ≡ listed x ms) → AreTidied d m ps → AreCut k m ns
raised_cut k d m ns ms ps s r same t = record {
  kept = kept_then k d m r.kept t.kept;
  children = λ x. t.children x ∙ ap (λ l. cond (listed x ps) (below d l) l) (r.children x) ∙ ap (λ b. cond b (below d (at k x).children) (at k x).children) (same x)
      ∙ cases (λ b. cond b (below d (at k x).children) (at k x).children ≡ outside ns (at k x).children) (listed x ms)
      (λ _. left x (at k x).children (λ c l. s.down x c l))
      (λ off. sym (outside_off ns (at k x).children (λ c l. stays x c off (s.down x c l))));
  parents = λ x. t.parents x ∙ r.parents x;
}
  where
    above : (b : Bool) (x : ℕ) → is_some (cond b None (Some x)) ≡ not b
    above true x = refl
    above false x = refl

    left : (x : ℕ) (cs : List ℕ) → ((c : ℕ) → listed c cs ≡ true → (at k c).parent ≡ Some x) → below d cs ≡ outside ns cs
    left x [] h = refl
    left x (c ∷ cs) h =
        ap (λ b. cond b (c ∷ below d cs) (below d cs)) (ap is_some (r.parents c ∙ ap (λ u. cond (listed c ns) None u) (h c (or_left (eqb c c) (listed c cs) (eq-eqb c c refl)))) ∙ above (listed c ns) x)
        ∙ ap (λ l. cond (not (listed c ns)) (c ∷ l) l) (left x cs (λ y l. h y (or_right (eqb c y) (listed y cs) l)))

    no : true ≡ false → ⊥
    no h = cc

    stays : (x c : ℕ) → listed x ms ≡ false → (at k c).parent ≡ Some x → listed c ns ≡ false
    stays x c off u = cases (λ b. listed c ns ≡ b → b ≡ false) (listed c ns) (λ h _. absurd (no (sym (r.told c x h u) ∙ off))) (λ _ _. refl) refl
