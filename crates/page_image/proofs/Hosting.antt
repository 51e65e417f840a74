-- What the host has of a page stays.
use Rattle.std.proofs.Common.{◌≡◌, ◌≢◌, ◌<◌, ◌≤◌, ℕ, List, [], ◌∷◌, Bool, true, false, refl, sym, ap, ◌∙◌, subst, length, cond, eqb, ne_eqb, ◌||◌, arith, Option, Some, None, ⊎_elim, Result, Ok, Err, OnOk, OnErr}
use Rattle.std.specs.Prelude.{nat_lt}
use Rattle.std.proofs.lemmas.Bool.{cases_Bool}
use Rattle.std.proofs.lemmas.Bool.Decides.{nat_tests}
use Rattle.code_units.specs.declared.owner.Owner.{Owner}
use Rattle.code_units.specs.declared.owner.Owner.TheVariants as owner
use Rattle.plain_tree.specs.Trees.{Label, PlainTrees, Trees, End, Node}
use Rattle.tree_ops.specs.Trees.{grafted, put_before, tops, without}
use Rattle.page_nodes.specs.Adds.{IsAdded}
use Rattle.page_nodes.specs.Entries.{Entry, at, body, limit, listed, read, tree, IsSound}
use Rattle.page_nodes.specs.Moves as page
use Rattle.page_nodes.specs.Moves.{Detached, Detaches, IsPut, IsRelabelled, KeepsNodes, Puts, detach_last, none_detached, none_put, put_last}
use Rattle.page_nodes.specs.Owners.{same_owner}
use Rattle.page_nodes.specs.Trees.{pruned}
use Rattle.page_nodes.proofs.AtOnce.{entry_same}
use Rattle.page_nodes.proofs.Shows.{Shows, none, one_more, shows_tree}
use Rattle.page_tree.specs.declared.page.Page.{Page}
use Rattle.page_tree.specs.Pages.{nodes, root, MayPutAll, ReplaceSteps, Replaces}
use Rattle.query_grammar.specs.Finds.{has_number}
use Rattle.query_grammar.proofs.Numbers.{has_both, has_first}
use Rattle.page_image.specs.Image.{owns}
use Rattle.page_image.specs.Stays.{HostStays}
use Rattle.page_image.proofs.Calls.{at_place}
use Rattle.page_image.proofs.Detaching.{detaches_keep}
use Rattle.page_image.proofs.Growing.{no_host}
use Rattle.page_image.proofs.Lists.{has_listed}
use Rattle.page_image.proofs.Looks.{not_the_body}
use Rattle.page_image.proofs.Moving.{puts_keep}
use Rattle.page_image.proofs.Results.{either}
use Rattle.page_image.proofs.Shown.{tops_shown}

no_true : false ≡ true → ⊥
no_true e = cc

some_is : (a b : ℕ) → ◌≡◌ {A = Option ℕ} (Some a) (Some b) → a ≡ b
some_is a b h = cc

none_some : (a : ℕ) → ◌≡◌ {A = Option ℕ} None (Some a) → ⊥
none_some a h = cc

-- ## The tops of trees

tops_without : (n : ℕ) (ts : Trees ℕ) → listed n (tops ts) ≡ false → tops (without n ts) ≡ tops ts
tops_without n End h = refl
tops_without n (Node m l ks ts) h = by (eqb m n) h (tops_without n ts)
  where
    by : (b : Bool) → (b || listed n (tops ts)) ≡ false → (listed n (tops ts) ≡ false → tops (without n ts) ≡ tops ts) → tops (cond b (without n ts) (Node m l (without n ks) (without n ts))) ≡ m ∷ tops ts
    by true g rest = absurd (no_true (sym g))
    by false g rest = ap (λ l. m ∷ l) (rest g)

tops_grafted : (t : ℕ) (s : Option ℕ) (us ts : Trees ℕ) → tops (grafted t s us ts) ≡ tops ts
tops_grafted t s us End = refl
tops_grafted t s us (Node m l ks ts) = ap (λ l. m ∷ l) (tops_grafted t s us ts)

-- the tops below the first node
abbrev kids : Trees ℕ → List ℕ
kids End = []
kids (Node n l ks ts) = tops ks

kids_shown : (k : List Entry) (n : ℕ) (ns : List ℕ) (us : Trees ℕ) → Shows k (n ∷ ns) us → kids us ≡ (at k n).children
kids_shown k n ns _ (one_more {ks = ks} hk hs) = tops_shown k (at k n).children ks hk

children_are : (k : List Entry) → IsSound k → (n : ℕ) → kids (tree k n) ≡ (at k n).children
children_are k s n = kids_shown k n [] (tree k n) (shows_tree k s n)

-- ## `body` in a page that changes

no_child : (k : List Entry) → IsSound k → (n : ℕ) → ((at k n).parent ≡ Some body → ⊥) → listed n (at k body).children ≡ false
no_child k s n top = ⊎_elim (λ e. absurd (top (s.down body n e))) (λ e. e) (cases_Bool (listed n (at k body).children))

body_by : (k m : List Entry) → IsSound k → IsSound m → KeepsNodes k m → kids (tree m body) ≡ kids (tree k body) → at m body ≡ at k body
body_by k m s t kept e = entry_same (at m body) (at k body) (kept.owners body) (t.top ∙ sym s.top) (sym (children_are m t body) ∙ e ∙ children_are k s body) (kept.labels body)

module _ (k m : List Entry) (s : IsSound k) (sound : IsSound m) (n : ℕ) (top : (at k n).parent ≡ Some body → ⊥) where
  abbrev ks : Trees ℕ
  ks = read k limit (at k body).children

  gone : tops (without n ks) ≡ tops ks
  gone = tops_without n ks (ap (listed n) (children_are k s body) ∙ no_child k s n top)

  body_detached : Detached k m n → at m body ≡ at k body
  body_detached c = body_by k m s sound c.kept (ap kids (c.trees body) ∙ gone)

  body_put : (t : ℕ) (next : Option ℕ) → t ≢ body → IsPut k m t next n → at m body ≡ at k body
  body_put t next ne c =
      let us = pruned n (tree k n) in
      body_by k m s sound c.kept (
      ap kids (c.trees body)
      ∙ ap (λ b. tops (cond b (put_before next us (grafted t next us (without n ks))) (grafted t next us (without n ks)))) (ne_eqb body t (λ e. ne (sym e)))
      ∙ tops_grafted t next us (without n ks)
      ∙ gone
      )

last : (a : Bool) {b : Bool} → b ≡ true → (a || b) ≡ true
last true e = refl
last false e = e

first : (a b : Bool) → a ≡ true → (a || b) ≡ true
first true b e = refl
first false b e = cc

-- what stands under `body` stood there
puts_top : (k : List Entry) (t : ℕ) (s : Option ℕ) (m : List Entry) (ns : List ℕ) → t ≢ body → Puts k t s ns m → (x : ℕ) → (at m x).parent ≡ Some body → (at k x).parent ≡ Some body
puts_top k t s m _ ne none_put x e = e
puts_top k t s m _ ne (put_last {ns = ns} {m = mid} {n = n} h sound may c) x e = by (eqb x n) (sym (c.parents x) ∙ e) (puts_top k t s mid ns ne h x)
  where
    by : (b : Bool) → cond b (Some t) (at mid x).parent ≡ Some body → ((at mid x).parent ≡ Some body → (at k x).parent ≡ Some body) → (at k x).parent ≡ Some body
    by true g rest = absurd (ne (some_is t body g))
    by false g rest = rest g

detaches_top : (k m : List Entry) (ns : List ℕ) → Detaches k ns m → (x : ℕ) → (at m x).parent ≡ Some body → (at k x).parent ≡ Some body
detaches_top k m _ none_detached x e = e
detaches_top k m _ (detach_last {ns = ns} {m = mid} {n = n} h sound c) x e = by (eqb x n) (sym (c.parents x) ∙ e) (detaches_top k mid ns h x)
  where
    by : (b : Bool) → cond b None (at mid x).parent ≡ Some body → ((at mid x).parent ≡ Some body → (at k x).parent ≡ Some body) → (at k x).parent ≡ Some body
    by true g rest = absurd (none_some body g)
    by false g rest = rest g

-- none of these nodes stands under `body`
abbrev NoTops : List Entry → List ℕ → Type 0
NoTops k ns = (n : ℕ) → has_number ns n ≡ true → (at k n).parent ≡ Some body → ⊥

body_puts : (k : List Entry) (t : ℕ) (s : Option ℕ) (m : List Entry) (ns : List ℕ) → t ≢ body → IsSound m → Puts k t s ns m → NoTops k ns → at m body ≡ at k body
body_puts k t s m _ ne sm none_put top = refl
body_puts k t s m _ ne sm (put_last {ns = ns} {m = mid} {n = n} h sound may c) top =
    body_put mid m sound sm n (λ e. top n (has_both n ns (n ∷ []) ∙ last (has_number ns n) (has_first n [])) (puts_top k t s mid ns ne h n e)) t s ne c
    ∙ body_puts k t s mid ns ne sound h (λ x l. top x (has_both x ns (n ∷ []) ∙ first (has_number ns x) (has_number (n ∷ []) x) l))

body_detaches : (k m : List Entry) (ns : List ℕ) → IsSound m → Detaches k ns m → NoTops k ns → at m body ≡ at k body
body_detaches k m _ sm none_detached top = refl
body_detaches k m _ sm (detach_last {ns = ns} {m = mid} {n = n} h sound c) top =
    body_detached mid m sound sm n (λ e. top n (has_both n ns (n ∷ []) ∙ last (has_number ns n) (has_first n [])) (detaches_top k mid ns h n e)) c
    ∙ body_detaches k mid ns sound h (λ x l. top x (has_both x ns (n ∷ []) ∙ first (has_number ns x) (has_number (n ∷ []) x) l))

-- ## Pages

pub host_same : (old new : Page) → nodes new ≡ nodes old → HostStays old new
host_same old new e = record {
  made = omega (arith, ap length e);
  owners = λ n lt. ap (λ k. (at k n).owner) e;
  top = ap (λ k. at k body) e;
  trees = λ n lt ne h. ap (λ k. tree k n) e;
  none_comes = λ n lt h. omega (arith, lt, ap length e);
}

pub host_then : (p q r : Page) → HostStays p q → HostStays q r → HostStays p r
host_then p q r f g = record {
  made = omega (arith, f.made, g.made);
  owners = λ n lt. g.owners n (omega (arith, lt, f.made)) ∙ f.owners n lt;
  top = g.top ∙ f.top;
  trees = λ n lt ne h. g.trees n (omega (arith, lt, f.made)) ne (f.owners n lt ∙ h) ∙ f.trees n lt ne h;
  none_comes = λ n lt h. (let low = g.none_comes n lt h in f.none_comes n low (sym (g.owners n low) ∙ h));
}

-- a node of a widget that is no root does not stand under `body`
not_top : (p : Page) (w n : ℕ) → owns p w n ≡ true → root p (at (nodes p) n).owner ≢ Some n → (at (nodes p) n).parent ≡ Some body → ⊥
not_top p w n h ne e = ne (p.rooted.under n e (no_host p w n h))

-- the host is no widget
other_host : (p : Page) (w t n : ℕ) → owns p w t ≡ true → (at (nodes p) n).owner ≡ owner.Host → (at (nodes p) n).owner ≡ (at (nodes p) t).owner → ⊥
other_host p w t n h e g = no_true (sym (no_host p w t h) ∙ ap (λ o. same_owner o owner.Host) (sym g ∙ e))

module _ (old new : Page) (w t : ℕ) (h : owns old w t ≡ true) where
  by_one : length (nodes new) ≡ length (nodes old) → ((x : ℕ) → (at (nodes new) x).owner ≡ (at (nodes old) x).owner) → page.OthersStay (nodes old) (nodes new) t → at (nodes new) body ≡ at (nodes old) body → HostStays old new
  by_one made owners others top = record {
    made = omega (arith, made);
    owners = λ n lt. owners n;
    top = top;
    trees = λ n lt ne e. others n ne (other_host old w t n h e);
    none_comes = λ n lt e. omega (arith, lt, made);
  }

  -- a node is taken from its parent
  pub detach_host : root old (at (nodes old) t).owner ≢ Some t → Detached (nodes old) (nodes new) t → page.OthersStay (nodes old) (nodes new) t → HostStays old new
  detach_host ne c others = by_one c.kept.made c.kept.owners others (body_detached (nodes old) (nodes new) old.arena.sound new.arena.sound t (not_top old w t h ne) c)

  -- a node gets another label
  pub label_host : (l : Label) → IsRelabelled (nodes old) (nodes new) t l → page.OthersStay (nodes old) (nodes new) t → HostStays old new
  label_host l c others = by_one c.made c.owners others (entry_same (at (nodes new) body) (at (nodes old) body) (c.owners body) (c.parents body) (c.children body) (c.labels body ∙ ap (λ b. cond b l (at (nodes old) body).label) (ne_eqb body t (λ e. not_the_body old w t h (sym e)))))

  pub label_host_either : {T E : Type 0} (r : Result T E) (l : Label) → OnOk r (IsRelabelled (nodes old) (nodes new) t l) → OnErr r (nodes new ≡ nodes old) → page.OthersStay (nodes old) (nodes new) t → HostStays old new
  label_host_either r l a b others = either r (IsRelabelled (nodes old) (nodes new) t l) (nodes new ≡ nodes old) (HostStays old new) (λ c. label_host l c others) (host_same old new) a b

  -- its children are taken from it
  pub empty_host : Detaches (nodes old) (at (nodes old) t).children (nodes new) → page.OthersStay (nodes old) (nodes new) t → HostStays old new
  empty_host c others =
      let q = detaches_keep (nodes old) (nodes new) (at (nodes old) t).children c in
      by_one q.made q.owners others (body_detaches (nodes old) (nodes new) (at (nodes old) t).children new.arena.sound c (λ n l e. not_the_body old w t h (some_is t body (sym (old.arena.sound.down t n (sym (has_listed n (at (nodes old) t).children) ∙ l)) ∙ e))))

  -- nodes are put under it
  module _ (ns : List ℕ) (own : (n : ℕ) → has_number ns n ≡ true → owns old w n ≡ true) where
    inside_tops : (u : ℕ) → MayPutAll (nodes old) (root old) u ns → NoTops (nodes old) ns
    inside_tops u may n l =
        let q = at_place ns n l in
        not_top old w n (own n l) (subst (λ x. root old (at (nodes old) x).owner ≢ Some x) q.2 (may.inside q.0 q.1).no_root)

    pub append_host : {T E : Type 0} (r : Result T E) → OnOk r (MayPutAll (nodes old) (root old) t ns) → OnOk r (Puts (nodes old) t None ns (nodes new)) → OnErr r (nodes new ≡ nodes old) → page.OthersStay (nodes old) (nodes new) t → HostStays old new
    append_host r may done same others = by r may done same
      where
        put : MayPutAll (nodes old) (root old) t ns → Puts (nodes old) t None ns (nodes new) → HostStays old new
        put m c =
            let q = puts_keep (nodes old) t None (nodes new) ns c in
            by_one q.made q.owners others (body_puts (nodes old) t None (nodes new) ns (not_the_body old w t h) new.arena.sound c (inside_tops t m))

        by : {T E : Type 0} (r : Result T E) → OnOk r (MayPutAll (nodes old) (root old) t ns) → OnOk r (Puts (nodes old) t None ns (nodes new)) → OnErr r (nodes new ≡ nodes old) → HostStays old new
        by (Ok x) m c e = put m c
        by (Err x) m c e = host_same old new e

    -- they come in its place
    pub replace_host : {T E : Type 0} (r : Result T E) → OnOk r (Replaces (nodes old) (nodes new) (root old) t ns) → OnOk r (ReplaceSteps (nodes old) (nodes new) t ns) → OnErr r (nodes new ≡ nodes old) → page.OthersStay (nodes old) (nodes new) t → HostStays old new
    replace_host r done steps same others = by r done steps same
      where
        put : Replaces (nodes old) (nodes new) (root old) t ns → ReplaceSteps (nodes old) (nodes new) t ns → HostStays old new
        put c d =
            let q = puts_keep (nodes old) d.parent (Some t) d.page ns d.put in
            let high = not_top old w t h (c.1).no_root in
            let low : d.parent ≢ body = λ e. high (d.is ∙ ap Some e) in
            by_one (d.taken.kept.made ∙ q.made) (λ x. d.taken.kept.owners x ∙ q.owners x) others (
            body_detached d.page (nodes new) d.sound new.arena.sound t (λ e. high (puts_top (nodes old) d.parent (Some t) d.page ns low d.put t e)) d.taken
            ∙ body_puts (nodes old) d.parent (Some t) d.page ns low d.sound d.put (inside_tops c.0 (c.1).may)
            )

        by : {T E : Type 0} (r : Result T E) → OnOk r (Replaces (nodes old) (nodes new) (root old) t ns) → OnOk r (ReplaceSteps (nodes old) (nodes new) t ns) → OnErr r (nodes new ≡ nodes old) → HostStays old new
        by (Ok x) c d e = put c d
        by (Err x) c d e = host_same old new e

-- nodes are taken from their parents
pub detach_all_host : (old new : Page) (w : ℕ) (ns : List ℕ) → ((n : ℕ) → has_number ns n ≡ true → owns old w n ≡ true) → ((n : ℕ) → has_number ns n ≡ true → root old (at (nodes old) n).owner ≢ Some n) → Detaches (nodes old) ns (nodes new) → page.OthersOfAllStay (nodes old) (nodes new) ns → HostStays old new
detach_all_host old new w ns own ne c others =
    let q = detaches_keep (nodes old) (nodes new) ns c in
    record {
      made = omega (arith, q.made);
      owners = λ n lt. q.owners n;
      top = body_detaches (nodes old) (nodes new) ns new.arena.sound c (λ n l. not_top old w n (own n l) (ne n l));
      trees = λ n lt nb e. others n nb (λ t l. other_host old w t n (own t (has_listed t ns ∙ l)) e);
      none_comes = λ n lt e. omega (arith, lt, q.made);
    }

-- a tree is added that is none of the host's
pub added_host : (old new : Page) (id : ℕ) (o : Owner) (p : PlainTrees) → same_owner o owner.Host ≡ false → IsAdded (nodes old) (nodes new) id o p → HostStays old new
added_host old new id o p other c = record {
  made = c.older.long;
  owners = λ n lt. ap (λ (e : Entry). e.owner) (c.older.same n lt);
  top = c.older.same body old.arena.sound.some;
  trees = λ n lt ne h. c.older.trees n lt;
  none_comes = λ n lt h. older n lt h (nat_lt n (length (nodes old))) refl;
}
  where
    older : (n : ℕ) → n < length (nodes new) → (at (nodes new) n).owner ≡ owner.Host → (b : Bool) → nat_lt n (length (nodes old)) ≡ b → n < length (nodes old)
    older n lt h true e = grind (arith, nat_tests, e)
    older n lt h false e =
        let high : length (nodes old) ≤ n = grind (arith, nat_tests, e) in
        absurd (no_true (sym other ∙ ap (λ x. same_owner x owner.Host) (sym (c.own n high lt) ∙ h)))
