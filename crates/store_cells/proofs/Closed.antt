-- The closed cells stay: those of the host, and Bunches with their hidden Arrays.
use Rattle.std.proofs.Common.{◌≡◌, ℕ, zero, suc, ◌<◌, List, [], ◌∷◌, ◌++◌, length, refl, sym, ap, ◌∙◌, subst, Option, Some, None, Bool, true, false, eqb, if◌then◌else◌, true≢false, slice_get}
use Rattle.std.specs.Option.{option_map, option_and_then}
use Rattle.std.proofs.lemmas.Option.{slice_get-map}
use Rattle.code_units.specs.declared.owner.Owner.{Owner}
use Rattle.store_cells.specs.declared.kind.Form.{Form}
use Rattle.store_cells.specs.declared.cell.Head.{Head}
use Rattle.store_cells.specs.Cells.{PlainCell, is_bunch, node_in, form_at, widget_of, writer_in}
use Rattle.store_cells.specs.Bunches.{AreBunches, AreCellsOf, IsBunch, hidden_array, node_at}
use Rattle.store_cells.specs.Host.{AreHost}
use Rattle.store_cells.specs.Numbered.{NumberedCell, plain, cells_of, heads}
use Rattle.store_cells.specs.Shape.{AreClosed, Wrote}
use Rattle.store_cells.proofs.Lists.{none_some, some_same, by_push, get_first, get_within}
use Rattle.store_cells.proofs.Hosts.{apart, is_same, changed_apart, host_changed, host_push, writer_widget}

-- nodes at places, where forms stay
module _ (before after : List PlainCell) where
  pub cells_of_stay : ((k : ℕ) → form_at after k ≡ form_at before k) → (refs nodes : List ℕ) → AreCellsOf before refs nodes → AreCellsOf after refs nodes
  cells_of_stay same [] [] h = tt
  cells_of_stay same [] (n ∷ nodes) h = h
  cells_of_stay same (r ∷ refs) [] h = h
  cells_of_stay same (r ∷ refs) (n ∷ nodes) h = (ap (option_and_then node_in) (same r) ∙ h.0, cells_of_stay same refs nodes h.1)

-- an open cell is written
module _ (before after : List PlainCell) (i w : ℕ) (c : PlainCell) (at : slice_get before i ≡ Some c) (writer : writer_in c.owner c.form ≡ Some w) (others : (k : ℕ) → (i ≡ k → ⊥) → slice_get after k ≡ slice_get before k) (forms : (k : ℕ) → form_at after k ≡ form_at before k) where
  pub form_is : (cells : List PlainCell) (k : ℕ) (d : PlainCell) → slice_get cells k ≡ Some d → form_at cells k ≡ Some d.form
  form_is cells k d e = ap (option_and_then (λ (x : PlainCell). Some x.form)) e

  pub no_writer : (d : PlainCell) → writer_in d.owner d.form ≡ None → slice_get before i ≡ Some d → ⊥
  no_writer d e g = none_some (sym e ∙ ap (λ (x : PlainCell). writer_in x.owner x.form) (some_same d c (sym g ∙ at)) ∙ writer)

  bunch_closed : (o : Owner) (f : Form) → is_bunch f ≡ true → writer_in o f ≡ None
  bunch_closed o f e = ap (λ b. if b then None else widget_of o) e

  abbrev pub bunch_stays : (d : PlainCell) → IsBunch before d → IsBunch after d
  bunch_stays d h = record {
    array = h.array;
    refs = h.refs;
    nodes = h.nodes;
    pairs = h.pairs;
    hidden = others h.array (λ e. no_writer (hidden_array h.refs) refl (ap (slice_get before) e ∙ h.hidden)) ∙ h.hidden;
    lead = cells_of_stay before after forms h.refs h.nodes h.lead;
    distinct = h.distinct;
  }

  some_form : (a b : Form) → Some a ≡ Some b → a ≡ b
  some_form a b e = cc

  pub bunches_changed : AreBunches before → AreBunches after
  bunches_changed h = record { each = λ k d g bunch. by k d g bunch (eqb i k) refl }
    where
      by : (k : ℕ) (d : PlainCell) → slice_get after k ≡ Some d → is_bunch d.form ≡ true → (b : Bool) → eqb i k ≡ b → IsBunch after d
      by k d g bunch false e = bunch_stays d (h.each k d (sym (others k (apart i k e)) ∙ g) bunch)
      by k d g bunch true e =
          let same : d.form ≡ c.form = some_form d.form c.form (sym (form_is after k d g) ∙ forms k ∙ ap (form_at before) (sym (is_same i k e)) ∙ form_is before i c at) in
          absurd (none_some (sym (bunch_closed c.owner c.form (ap is_bunch (sym same) ∙ bunch)) ∙ writer))

-- the form at a place is that of the head there
form_head : (names : List (List ℕ)) (cs : List NumberedCell) (k : ℕ) → form_at (cells_of names cs) k ≡ option_and_then (λ (h : Head). Some h.form) (slice_get (heads cs) k)
form_head names [] k = refl
form_head names (c ∷ cs) zero = refl
form_head names (c ∷ cs) (suc k) = form_head names cs k

pub forms_stay : (old new : List (List ℕ)) (cs after : List NumberedCell) → heads after ≡ heads cs → (k : ℕ) → form_at (cells_of new after) k ≡ form_at (cells_of old cs) k
forms_stay old new cs after e k = form_head new after k ∙ ap (λ (hs : List Head). option_and_then (λ (h : Head). Some h.form) (slice_get hs k)) e ∙ sym (form_head old cs k)

pub closed_wrote : (old new : List (List ℕ)) (cs after : List NumberedCell) (i w : ℕ) (c : NumberedCell) (f : PlainCell → PlainCell) → AreClosed (cells_of old cs) → slice_get cs i ≡ Some c → writer_in c.head.owner c.head.form ≡ Some w → Wrote old cs new after i f → AreClosed (cells_of new after)
closed_wrote old new cs after i w c f h at writer wrote = record {
  host = subst AreHost (sym wrote.done) (host_changed (cells_of old cs) i (plain old c) w f h.host here (writer_widget (plain old c) w writer));
  bunches = bunches_changed (cells_of old cs) (cells_of new after) i w (plain old c) here writer (λ k e. ap (λ (l : List PlainCell). slice_get l k) wrote.done ∙ changed_apart (cells_of old cs) i k f e) (forms_stay old new cs after wrote.heads) h.bunches;
}
  where
    here : slice_get (cells_of old cs) i ≡ Some (plain old c)
    here = slice_get-map (plain old) cs i ∙ ap (option_map (plain old)) at

-- more cells
module _ (cells more : List PlainCell) where
  form_older : (k : ℕ) → k < length cells → form_at (cells ++ more) k ≡ form_at cells k
  form_older k lt = ap (option_and_then (λ (d : PlainCell). Some d.form)) (get_first cells more k lt)

  node_within : (k n : ℕ) → node_at cells k ≡ Some n → k < length cells
  node_within k n e = by (slice_get cells k) refl e
    where
      by : (o : Option PlainCell) → slice_get cells k ≡ o → option_and_then node_in (option_and_then (λ (d : PlainCell). Some d.form) o) ≡ Some n → k < length cells
      by None g e = absurd (none_some e)
      by (Some d) g e = get_within cells k d g

  pub cells_of_older : (refs nodes : List ℕ) → AreCellsOf cells refs nodes → AreCellsOf (cells ++ more) refs nodes
  cells_of_older [] [] h = tt
  cells_of_older [] (n ∷ nodes) h = h
  cells_of_older (r ∷ refs) [] h = h
  cells_of_older (r ∷ refs) (n ∷ nodes) h = (ap (option_and_then node_in) (form_older r (node_within r n h.0)) ∙ h.0, cells_of_older refs nodes h.1)

  abbrev pub bunch_older : (d : PlainCell) → IsBunch cells d → IsBunch (cells ++ more) d
  bunch_older d h = record {
    array = h.array;
    refs = h.refs;
    nodes = h.nodes;
    pairs = h.pairs;
    hidden = get_first cells more h.array (get_within cells h.array (hidden_array h.refs) h.hidden) ∙ h.hidden;
    lead = cells_of_older h.refs h.nodes h.lead;
    distinct = h.distinct;
  }

-- one more cell
module _ (cells : List PlainCell) (x : PlainCell) where
  pub bunches_push : AreBunches cells → is_bunch x.form ≡ false → AreBunches (cells ++ x ∷ [])
  bunches_push h none = record {
    each = by_push cells x (λ i d. is_bunch d.form ≡ true → IsBunch (cells ++ x ∷ []) d) (λ i d g bunch. bunch_older cells (x ∷ []) d (h.each i d g bunch)) (λ bunch. absurd (true≢false (sym bunch ∙ none)));
  }

  pub closed_push : AreClosed cells → is_bunch x.form ≡ false → AreClosed (cells ++ x ∷ [])
  closed_push h none = record {
    host = host_push cells x h.host;
    bunches = bunches_push h.bunches none;
  }
