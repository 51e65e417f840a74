-- The libraries that a good file names are listed.
use Rattle.std.proofs.Common.{◌≡◌, ℕ, zero, suc, ◌<◌, List, [], ◌∷◌, ◌++◌, length, All, Option, Some, None, Bool, true, false, cond, codes, ◌&&◌, not, inl, inr, refl, sym, subst, ◌∙◌, arith, if◌then◌else◌}
use Rattle.std.specs.Prelude.{◌⊎◌, slice_index_or, filter, find, filter_map, option_map}
use Rattle.std.specs.List.{cons_option, list_any, flat_map}
use Rattle.std.specs.Str.{bytes_eq}
use Rattle.first_breach.specs.Lists.{In, here, later}
use Rattle.first_breach.proofs.Members.{in_front, in_back, in_split, in_none, in_one}
use Rattle.plain_tree.specs.declared.plain.Attr.{Attr}
use Rattle.plain_tree.specs.Trees.{Trees, End, Node, TextOf, ElementOf}
use Rattle.plain_tree.specs.Plains.{Places}
use Rattle.widget_form.specs.declared.form.Form.{Form}
use Rattle.widget_form.specs.Elements.{Element, element, elements, tops, roots, is_div, is_script, is_named, first_named, is_script_element, scripts}
use Rattle.widget_form.specs.Rows.{IsGood}
use Rattle.widget_form.specs.Forms.{source, root_scripts}
use Rattle.slot_check.specs.Slots.{IsSlot}

split_cons : {X : Type 0} {x y : X} (ys : List X) → In x (y ∷ ys) → (x ≡ y) ⊎ In x ys
split_cons ys here = inl refl
split_cons ys (later rest) = inr rest

-- members of lists that were picked
picked : {X : Type 0} (p : X → Bool) (y : X) (ys : List X) (x : X) → (In x (filter p ys) → In x ys × (p x ≡ true)) → p y ≡ true → (x ≡ y) ⊎ In x (filter p ys) → In x (y ∷ ys) × (p x ≡ true)
picked p y ys x rest e (inl same) = (subst (λ z. In z (y ∷ ys)) (sym same) here, subst (λ z. p z ≡ true) (sym same) e)
picked p y ys x rest e (inr more) = let r = rest more in (later r.0, r.1)

filter_step : {X : Type 0} (p : X → Bool) (y : X) (ys : List X) (x : X) → (In x (filter p ys) → In x ys × (p x ≡ true)) → (b : Bool) → p y ≡ b → In x (cond b (y ∷ filter p ys) (filter p ys)) → In x (y ∷ ys) × (p x ≡ true)
filter_step p y ys x rest true e there = picked p y ys x rest e (split_cons (filter p ys) there)
filter_step p y ys x rest false e there = let r = rest there in (later r.0, r.1)

in_filter : {X : Type 0} (p : X → Bool) (xs : List X) (x : X) → In x (filter p xs) → In x xs × (p x ≡ true)
in_filter p [] x is = absurd (in_none is)
in_filter p (y ∷ ys) x is = filter_step p y ys x (in_filter p ys x) (p y) refl is

find_step : {X : Type 0} (p : X → Bool) (y : X) (ys : List X) (x : X) → (find p ys ≡ Some x → In x ys × (p x ≡ true)) → (b : Bool) → p y ≡ b → cond b (Some y) (find p ys) ≡ Some x → In x (y ∷ ys) × (p x ≡ true)
find_step p y ys x rest true e there = let same : y ≡ x = cc in (subst (λ z. In z (y ∷ ys)) same here, subst (λ z. p z ≡ true) same e)
find_step p y ys x rest false e there = let r = rest there in (later r.0, r.1)

in_find : {X : Type 0} (p : X → Bool) (xs : List X) (x : X) → find p xs ≡ Some x → In x xs × (p x ≡ true)
in_find p [] x is = cc
in_find p (y ∷ ys) x is = find_step p y ys x (in_find p ys x) (p y) refl is

record FromFlat (f : Element → List Element) (rs : List Element) (s : Element) : Type 0 where
  from : Element
  is_in : In from rs
  there : In s (f from)

flat_step : (f : Element → List Element) (r : Element) (rs : List Element) (s : Element) → (In s (flat_map f rs) → FromFlat f rs s) → In s (f r) ⊎ In s (flat_map f rs) → FromFlat f (r ∷ rs) s
flat_step f r rs s rest (inl first) = record { from = r; is_in = here; there = first }
flat_step f r rs s rest (inr more) = let b = rest more in record { from = b.from; is_in = later b.is_in; there = b.there }

in_flat : (f : Element → List Element) (rs : List Element) (s : Element) → In s (flat_map f rs) → FromFlat f rs s
in_flat f [] s is = absurd (in_none is)
in_flat f (r ∷ rs) s is = flat_step f r rs s (in_flat f rs s) (in_split (f r) (flat_map f rs) is)

-- members of the elements of a file
top_step : (x e : Element) (some all below : List Element) → (In e some → In e all) → (e ≡ x) ⊎ In e some → In e (x ∷ (below ++ all))
top_step x e some all below rest (inl same) = subst (λ z. In z (x ∷ (below ++ all))) (sym same) here
top_step x e some all below rest (inr more) = later (in_back below (rest more))

in_tops : (ts : Trees Places) (e : Element) → In e (tops ts) → In e (elements ts)
in_tops End e is = is
in_tops (Node m (TextOf us) ks ts) e is = in_tops ts e is
in_tops (Node m (ElementOf tag attrs) ks ts) e is = top_step (element m tag attrs ks) e (tops ts) (elements ts) (elements ks) (in_tops ts e) (split_cons (tops ts) is)

root_step : (x r e : Element) (some : List Element) (all below : List Element) → elements x.kids ≡ below → (In r some → In e all) → In e (elements r.kids) → (b : Bool) → In r (if b then x ∷ [] else some) → In e (x ∷ (below ++ all))
root_step x r e some all below kids rest under true one =
    let same : r ≡ x = in_one one in
    later (in_front all (subst (λ l. In e l) kids (subst (λ z. In e (elements z.kids)) same under)))
root_step x r e some all below kids rest under false more = later (in_back below (rest more))

in_roots : (ts : Trees Places) (r e : Element) → In e (elements r.kids) → In r (roots ts) → In e (elements ts)
in_roots End r e under is = absurd (in_none is)
in_roots (Node m (TextOf us) ks ts) r e under is = in_roots ts r e under is
in_roots (Node m (ElementOf tag attrs) ks ts) r e under is = root_step (element m tag attrs ks) r e (roots ts) (elements ts) (elements ks) refl (in_roots ts r e under) under (is_div tag) is

all_more : {X : Type 0} (P : X → Type 0) (x : X) (xs : List X) → P x → ((k : ℕ) (d : X) → k < length xs → P (slice_index_or xs k d)) → (k : ℕ) (d : X) → k < length (x ∷ xs) → P (slice_index_or (x ∷ xs) k d)
all_more P x xs first rest zero d within = first
all_more P x xs first rest (suc k) d within = rest k d (omega arith)

-- what holds of the sources of scripts
source_step : (P : List ℕ → Type 0) (more : List (List ℕ)) → All P more → (o : Option (List ℕ)) → ((v : List ℕ) → o ≡ Some v → P v) → All P (cons_option o more)
source_step P more rest None holds = rest
source_step P more rest (Some v) holds = all_more P v more (holds v refl) rest

all_sources : (P : List ℕ → Type 0) (ss : List Element) → ((s : Element) (v : List ℕ) → In s ss → source s ≡ Some v → P v) → All P (filter_map source ss)
all_sources P [] holds = λ k d within. absurd (omega arith)
all_sources P (s ∷ ss) holds = source_step P (filter_map source ss) (all_sources P ss (λ t v is. holds t v (later is))) (source s) (λ v e. holds s v here e)

all_three : (x y z : Bool) → x ≡ true → y ≡ true → z ≡ false → (x && y && not z) ≡ true
all_three true true false a b c = refl
all_three true true true a b c = cc
all_three true false z a b c = cc
all_three false y z a b c = cc

module _ (name : List ℕ) (libs : List (List ℕ)) (file : Trees Places) (good : IsGood name libs file) where
  -- a `src` of a script that is not listed breaks M11
  unlisted : (s : Element) (a : Attr) → In s (elements file) → is_script s.tag ≡ true → In a s.attrs → is_named (codes "src") a ≡ true → list_any (bytes_eq a.value) libs ≡ false → ⊥
  unlisted s a place script inside named missing =
      good 11 a.value_at (inr (inr (inr (inr (record {
        item = s;
        is_in = place;
        broken = inr (record {
          item = a;
          is_in = inside;
          broken = inr (record {
            passed = all_three (is_script s.tag) (is_named (codes "src") a) (list_any (bytes_eq a.value) libs) script named missing;
            broken = record { same_rule = refl; same_place = refl };
          });
        });
      })))))

  listed_value : (s : Element) (a : Attr) → In s (elements file) → is_script s.tag ≡ true → In a s.attrs → is_named (codes "src") a ≡ true → list_any (bytes_eq a.value) libs ≡ true
  listed_value s a place script inside named = by (list_any (bytes_eq a.value) libs) refl where
    by : (b : Bool) → list_any (bytes_eq a.value) libs ≡ b → b ≡ true
    by true e = refl
    by false e = absurd (unlisted s a place script inside named e)

  -- a script of the root names a library that is listed
  listed_source : (s : Element) (v : List ℕ) → In s (root_scripts file) → source s ≡ Some v → list_any (bytes_eq v) libs ≡ true
  listed_source s v is names = by (first_named (codes "src") s.attrs) refl names where
    root : FromFlat scripts (roots file) s
    root = in_flat scripts (roots file) s is

    script : In s (tops root.from.kids) × (is_script_element s ≡ true)
    script = in_filter is_script_element (tops root.from.kids) s root.there

    place : In s (elements file)
    place = in_roots file root.from s (in_tops root.from.kids s script.0) root.is_in

    by : (o : Option Attr) → first_named (codes "src") s.attrs ≡ o → option_map (λ a. a.value) o ≡ Some v → list_any (bytes_eq v) libs ≡ true
    by None e same = cc
    by (Some a) e same =
        let found = in_find (is_named (codes "src")) s.attrs a e in
        let value : a.value ≡ v = cc in
        subst (λ x. list_any (bytes_eq x) libs ≡ true) value (listed_value s a place script.1 found.0 found.1)

pub listed_names : (name : List ℕ) (libs : List (List ℕ)) (file : Trees Places) → IsGood name libs file → All (λ n. list_any (bytes_eq n) libs ≡ true) (filter_map source (root_scripts file))
listed_names name libs file good = all_sources (λ lib. list_any (bytes_eq lib) libs ≡ true) (root_scripts file) (listed_source name libs file good)

pub listed_keys : (name : List ℕ) (keys : List (List ℕ)) (bytes : List ℕ) (form : Form) (shown : List (List ℕ)) → shown ≡ form.libs.items → IsSlot name keys bytes form → All (λ n. list_any (bytes_eq n) keys ≡ true) shown
listed_keys name keys bytes form shown same h =
    subst (All (λ n. list_any (bytes_eq n) keys ≡ true)) (sym (same ∙ h.parts.libs)) (listed_names name keys h.file h.good)
