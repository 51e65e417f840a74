-- Nodes that are found.
use Rattle.std.proofs.Common.{◌≡◌, ℕ, ◌+◌, ◌<◌, ◌≤◌, List, [], ◌∷◌, ◌++◌, Bool, true, false, refl, sym, ap, ◌∙◌, subst, map, length, take, get_or, eqb, eqb-true, arith, Option, None, Some, if◌then◌else◌, not, ⊎_elim}
use Rattle.std.specs.Prelude.{Result, Ok, Err, IfOk, nat_eq, option_to_list, min, ◌-◌, ◌*◌, ◌^◌}
use Rattle.native_common.specs.Numbers.{counted}
use Rattle.std.specs.declared.vec.Vec.{Vec}
use Rattle.std.specs.declared.alloc.Global.{Global}
use Rattle.std.specs.List.{IsDistinct, filter, filter_map}
use Rattle.std.proofs.lemmas.Bool.{or_cases}
use Rattle.std.proofs.lemmas.List.{append-nil, length-map}
use Rattle.code_units.specs.declared.owner.Owner.TheVariants as owner
use Rattle.page_nodes.specs.Entries.{distinct}
use Rattle.page_tree.specs.declared.page.Page.{Page}
use Rattle.page_tree.specs.Documents.{document}
use Rattle.page_tree.specs.Pages.{nodes, root}
use Rattle.query_grammar.specs.Finds.{has_number}
use Rattle.query_grammar.specs.Renumbering.{renumbered}
use Rattle.query_grammar.specs.Steps.{Step}
use Rattle.widget_meaning.specs.BunchReads as means
use Rattle.widget_meaning.specs.OwnState.{State, kept_at}
use Rattle.widget_meaning.specs.PageForms.{once}
use Rattle.widget_meaning.specs.Queries.{finds, read_query}
use Rattle.js_image.specs.Image.{no_rest}
use Rattle.page_image.specs.Held.{OptionIn}
use Rattle.page_image.specs.Image.{forest, number, own, owns}
use Rattle.native_image.proofs.Nodes.{own_distinct}
use Rattle.js_tree.specs.Forest.{Forest}
use Rattle.store_cells.specs.Cells.{Cells, own_count}
use Rattle.query_grammar.specs.Queries.{QuerySpells}
use Rattle.query_text.specs.declared.QueryFault.{QueryFault}
use Rattle.query_text.specs.declared.QueryFault.TheVariants as fault
use Rattle.widget_meaning.specs.PageForms.{next_node}
use Rattle.widget_meaning.proofs.TextsHold.{query_laws}
use Rattle.event_loop.specs.declared.around.Loop.{Loop}
use Rattle.event_loop.specs.Around as around
use Rattle.page_image.specs.Around.{Shows, kept_of}
use Rattle.native_image.specs.Image.{Outside, beside, image}
use Rattle.native_image.specs.Sound.{IsSound}
use Rattle.native_image.proofs.Joint.{image_shows}
use Rattle.native_image.proofs.Meeting.{no_outside}
use Rattle.bunch_read.specs.Finding.{AreApart, Opens, added, begins_next}
use Rattle.bunch_read.proofs.Documents.{found_apart}
use Rattle.bunch_read.proofs.Lists.{filter_push, found_push, has_own, has_push, map_push, mapped_one, once_push, take_whole}
use Rattle.bunch_read.proofs.Once.{distinct_once, distinct_push, filter_less, once_distinct}

no_true : false ≡ true → ⊥
no_true e = cc

-- ## Those that are not protected

pub left_out : (xs : List ℕ) (n : ℕ) (b : Bool) → b ≡ true → xs ≡ xs ++ (if not b then n ∷ [] else [])
left_out xs n b e = sym (ap (λ c. xs ++ (if not c then n ∷ [] else [])) e ∙ append-nil xs)

pub put_in : (xs : List ℕ) (n : ℕ) (b : Bool) → b ≡ false → xs ++ n ∷ [] ≡ xs ++ (if not b then n ∷ [] else [])
put_in xs n b e = sym (ap (λ c. xs ++ (if not c then n ∷ [] else [])) e)

module _ (p : Page) (w : ℕ) (s : State) where
  abbrev is_open : ℕ → Bool
  is_open n = not (kept_at s n).is_protected

  pub opens_none : Opens p w s [] []
  opens_none = record { image = refl; own = λ n e. absurd (no_true e) }

  pub opens_more : (list ns new : List ℕ) (i : ℕ) → i < length list → owns p w (get_or list i 0) ≡ true → Opens p w s (take i list) ns → new ≡ ns ++ (if is_open (number p w (get_or list i 0)) then get_or list i 0 ∷ [] else []) → Opens p w s (take (i + 1) list) new
  opens_more list ns new i lt mine h e = record {
    image =
        ap (map (number p w)) e ∙ by (is_open (number p w x))
        ∙ ap (λ l. l ++ (if is_open (number p w x) then number p w x ∷ [] else [])) h.image
        ∙ sym (ap (filter is_open) (mapped_one (number p w) list i lt) ∙ filter_push is_open (map (number p w) (take i list)) (number p w x));
    own = λ n f. own (is_open (number p w x)) n (sym (ap (λ l. has_number l n) e) ∙ f);
  }
    where
      x : ℕ
      x = get_or list i 0

      by : (b : Bool) → map (number p w) (ns ++ (if b then x ∷ [] else [])) ≡ map (number p w) ns ++ (if b then number p w x ∷ [] else [])
      by true = map_push (number p w) ns x
      by false = ap (map (number p w)) (append-nil ns) ∙ sym (append-nil (map (number p w) ns))

      own : (b : Bool) (n : ℕ) → has_number (ns ++ (if b then x ∷ [] else [])) n ≡ true → owns p w n ≡ true
      own true n f = ⊎_elim (λ q. h.own n q) (λ q. ap (owns p w) (eqb-true n x q) ∙ mine) (or_cases (has_number ns n) (eqb n x) (sym (has_push ns x n) ∙ f))
      own false n f = h.own n (sym (ap (λ l. has_number l n) (append-nil ns)) ∙ f)

  pub opens_all : (list ns : List ℕ) (i : ℕ) → length list ≤ i → Opens p w s (take i list) ns → Opens p w s list ns
  opens_all list ns i le h = subst (λ l. Opens p w s l ns) (take_whole list i le) h

-- ## The starts of a query

pub starts_next : (s : State) (qs : List Step) (ns : List ℕ) → begins_next qs ≡ true → means.starts s qs ns ≡ filter (λ n. not (kept_at s n).is_protected) ns
starts_next s [] ns e = absurd (no_true e)
starts_next s (q ∷ qs) ns e = ap (λ b. if b then filter (λ n. not (kept_at s n).is_protected) ns else ns) e

pub starts_all : (s : State) (qs : List Step) (ns : List ℕ) → begins_next qs ≡ false → means.starts s qs ns ≡ ns
starts_all s [] ns e = refl
starts_all s (q ∷ qs) ns e = ap (λ b. if b then filter (λ n. not (kept_at s n).is_protected) ns else ns) e

-- ## What is found

module _ (p : Page) (w : ℕ) (lt : w < 32) (stands : distinct (document (nodes p) (root p (owner.Widget w)) (owner.Widget w)) ≡ true) where
  -- a state with this page and this focus
  abbrev pub seen_at : Option ℕ → State
  seen_at at = record no_rest.state { own = record no_rest.state.own { forest = forest p w; focus = renumbered (number p w) at } }

  pub all_apart : {E : Type 0} (r : Result (Vec ℕ Global) E) (at : Option ℕ) (starts : List ℕ) (qs : List Step) → IsDistinct nat_eq (map (number p w) starts) → IfOk r (λ ns. map (number p w) ns.items ≡ finds (seen_at at) (map (number p w) starts) qs) → IfOk r (λ ns. (n : ℕ) → has_number ns.items n ≡ true → owns p w n ≡ true) → IfOk r (λ ns. AreApart p w ns.items)
  all_apart (Ok ns) at starts qs d h own = record { own = own; apart = found_apart p w lt stands (seen_at at) refl starts ns.items qs d h }
  all_apart (Err e) at starts qs d h own = h

-- the numbers of those that are not protected differ
pub open_distinct : (p : Page) (w : ℕ) (s : State) (list ns : List ℕ) → ((n : ℕ) → has_number list n ≡ true → owns p w n ≡ true) → IsDistinct nat_eq list → Opens p w s list ns → IsDistinct nat_eq (map (number p w) ns)
open_distinct p w s list ns own d h =
    subst (IsDistinct eqb) (sym h.image)
    (distinct_once (filter (λ n. not (kept_at s n).is_protected) (map (number p w) list))
    (λ n. omega (arith, filter_less n (λ m. not (kept_at s m).is_protected) (map (number p w) list), once_distinct (map (number p w) list) (own_distinct p w list own d) n)))

-- ## Parents

module _ (p : Page) (w : ℕ) where
  pub apart_push : (ns : List ℕ) (y : ℕ) → AreApart p w ns → owns p w y ≡ true → has_number ns y ≡ false → AreApart p w (ns ++ y ∷ [])
  apart_push ns y h mine new = record {
    own = λ n f. ⊎_elim (λ q. h.own n q) (λ q. ap (owns p w) (eqb-true n y q) ∙ mine) (or_cases (has_number ns n) (eqb n y) (sym (has_push ns y n) ∙ f));
    apart = distinct_push ns y h.apart new;
  }

  -- a parent is kept where it was not kept before
  pub parent_added : (old new : List ℕ) (above : ℕ) → AreApart p w old → owns p w above ≡ true → new ≡ (if has_number old above then old else old ++ above ∷ []) → map (number p w) new ≡ added (map (number p w) old) (Some (number p w above))
  parent_added old new above h mine e =
      ap (map (number p w)) e ∙ by (has_number old above)
      ∙ sym (ap (λ b. if b then map (number p w) old else map (number p w) old ++ number p w above ∷ []) (has_own p w old above h.own mine))
    where
      by : (b : Bool) → map (number p w) (if b then old else old ++ above ∷ []) ≡ (if b then map (number p w) old else map (number p w) old ++ number p w above ∷ [])
      by true = refl
      by false = map_push (number p w) old above

  pub parent_apart : (old new : List ℕ) (above : ℕ) → AreApart p w old → owns p w above ≡ true → new ≡ (if has_number old above then old else old ++ above ∷ []) → AreApart p w new
  parent_apart old new above h mine e = subst (AreApart p w) (sym e) (by (has_number old above) refl)
    where
      by : (b : Bool) → has_number old above ≡ b → AreApart p w (if b then old else old ++ above ∷ [])
      by true q = h
      by false q = apart_push old above h mine q

-- the parents of one node more
pub once_more : (f : ℕ → ℕ) (q : ℕ → Option ℕ) (xs : List ℕ) (i : ℕ) → i < length xs → once [] (filter_map q (map f (take (i + 1) xs))) ≡ added (once [] (filter_map q (map f (take i xs)))) (q (f (get_or xs i 0)))
once_more f q xs i lt =
    ap (λ l. once [] (filter_map q l)) (mapped_one f xs i lt)
    ∙ ap (once []) (found_push q (map f (take i xs)) (f (get_or xs i 0)))
    ∙ by (q (f (get_or xs i 0)))
  where
    by : (o : Option ℕ) → once [] (filter_map q (map f (take i xs)) ++ option_to_list o) ≡ added (once [] (filter_map q (map f (take i xs)))) o
    by None = ap (once []) (append-nil (filter_map q (map f (take i xs))))
    by (Some y) = once_push [] (filter_map q (map f (take i xs))) y

pub none_apart : (p : Page) (w : ℕ) → AreApart p w []
none_apart p w = record { own = λ n e. absurd (no_true e); apart = distinct_once [] (λ n. omega arith) }

pub above_own : (p : Page) (w : ℕ) (o : Option ℕ) (n : ℕ) → o ≡ Some n → OptionIn (owns p w) o → owns p w n ≡ true
above_own p w o n e h = subst (OptionIn (owns p w)) e h

pub to_focus : (p : Page) (w : ℕ) (o u : Option ℕ) → u ≡ o → OptionIn (owns p w) o → OptionIn (owns p w) u
to_focus p w o u e h = subst (OptionIn (owns p w)) (sym e) h

-- the starts where protected nodes are left out
module _ (p : Page) (w : ℕ) (s : State) (list kept l : List ℕ) (e : l ≡ kept) (h : Opens p w s list kept) where
  pub open_own : (n : ℕ) → has_number l n ≡ true → owns p w n ≡ true
  open_own n f = h.own n (sym (ap (λ x. has_number x n) e) ∙ f)

  pub open_apart : ((n : ℕ) → has_number list n ≡ true → owns p w n ≡ true) → IsDistinct nat_eq list → IsDistinct nat_eq (map (number p w) l)
  open_apart own d = subst (λ x. IsDistinct nat_eq (map (number p w) x)) (sym e) (open_distinct p w s list kept own d h)

  pub open_starts : (qs : List Step) → begins_next qs ≡ true → map (number p w) l ≡ means.starts s qs (map (number p w) list)
  open_starts qs b = ap (map (number p w)) e ∙ h.image ∙ sym (starts_next s qs (map (number p w) list) b)

-- what is shown of page and loop
pub shown_by : (w : ℕ) (c : Cells) (p : Page) (l : Loop) → IsSound w c p l → (g : ℕ → ℕ) × (s : State) × Shows p w g l s.own
shown_by w c p l sound = (own_count w c.cells, image [] no_outside w (beside c p l None), image_shows w [] no_outside c p l None sound.holds)

-- ## Queries

pub read_is : (us : List ℕ) (steps : List Step) → QuerySpells us steps → read_query us ≡ Some steps
read_is us steps h = (query_laws us steps).found h

pub read_none : (us : List ℕ) → ((steps : List Step) → QuerySpells us steps → ⊥) → read_query us ≡ None
read_none us none = by (read_query us) refl
  where
    by : (o : Option (List Step)) → read_query us ≡ o → o ≡ None
    by None e = refl
    by (Some steps) e = absurd (none steps ((query_laws us steps).spelled e))

pub bad_query : (f : QueryFault) (k : ℕ) → f ≡ fault.BadQuery k → f ≡ fault.Memory → ⊥
bad_query f k e g = by (sym e ∙ g)
  where
    by : fault.BadQuery k ≡ fault.Memory → ⊥
    by h = cc

-- how many nodes the widget has had
pub next_is : (w : ℕ) (c : Cells) (p : Page) (l : Loop) (b : Option Bool) (fs : List Forest) (x : Outside) → next_node (image fs x w (beside c p l b)) ≡ length (own p w)
next_is w c p l b fs x = length-map (own p w) (λ n. kept_of (own_count w c.cells) (around.kept l n))

-- steps times nodes
pub times : (a b c n m : ℕ) → a ≡ n → b ≡ m → c ≡ min (a * b) (2 ^ 64 - 1) → c ≡ counted (n * m)
times a b c n m e f g = g ∙ (λ j. min (e j * f j) (2 ^ 64 - 1))
