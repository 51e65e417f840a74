-- The value of an event at its node.
use Rattle.std.proofs.Common.{◌≡◌, ℕ, Bool, true, false, List, refl, sym, ap, ◌∙◌, Option, Some, None, if◌then◌else◌}
use Rattle.std.specs.Prelude.{codes, option_and_then}
use Rattle.std.specs.Option.{option_map_or}
use Rattle.std.specs.Str.{bytes_eq}
use Rattle.plain_tree.specs.Trees.{ElementOf, Label, TextOf, Trees}
use Rattle.tree_ops.specs.Labels.{is_text, tag_of, with_attribute}
use Rattle.widget_meaning.specs.Items.{with_value}
use Rattle.widget_meaning.specs.OwnState.{OwnState}
use Rattle.widget_meaning.specs.Trees.{label_of, relabelled}
use Rattle.page_image.specs.Image.{relabel_in}
use Rattle.life_queue.specs.Lives.{is_input_label}

no_true : false ≡ true → ⊥
no_true e = cc

-- whether a tag is that of an `input`
abbrev pub is_named : Option (List ℕ) → Bool
is_named None = false
is_named (Some t) = bytes_eq t (codes "input")

pub named : (l : Option Label) (o : Option (List ℕ)) → o ≡ option_and_then tag_of l → is_named o ≡ is_input_label l
named None o e = ap is_named e
named (Some (TextOf t)) o e = ap is_named e
named (Some (ElementOf tag attrs)) o e = ap is_named e

-- an `input` is no text node
pub is_element : (l : Option Label) → is_input_label l ≡ true → option_map_or is_text l false ≡ false
is_element None h = absurd (no_true h)
is_element (Some (TextOf t)) h = absurd (no_true h)
is_element (Some (ElementOf tag attrs)) h = refl

same_forest : (o : OwnState) (ts : Trees ℕ) → o.forest ≡ ts → o ≡ record o { forest = ts }
same_forest o ts e = λ j. record o { forest = e j }

-- there is no value
pub none_set : (l : Option Label) (n : ℕ) (o : OwnState) (ts : Trees ℕ) → o.forest ≡ ts → with_value l n None o ≡ record o { forest = ts }
none_set None n o ts e = same_forest o ts e
none_set (Some (TextOf t)) n o ts e = same_forest o ts e
none_set (Some (ElementOf tag attrs)) n o ts e = same_forest o ts e

-- another node keeps what it has
pub not_set : (l : Option Label) (n : ℕ) (v : List ℕ) (o : OwnState) (ts : Trees ℕ) → is_input_label l ≡ false → o.forest ≡ ts → with_value l n (Some v) o ≡ record o { forest = ts }
not_set None n v o ts h e = same_forest o ts e
not_set (Some (TextOf t)) n v o ts h e = same_forest o ts e
not_set (Some (ElementOf tag attrs)) n v o ts h e =
    ap (λ (b : Bool). if b then record o { forest = relabelled n (with_attribute (codes "value") (Some v) (ElementOf tag attrs)) o.forest } else o) h ∙ same_forest o ts e

-- an `input` has it
pub is_set : (l : Option Label) (n : ℕ) (v : List ℕ) (o : OwnState) (ts us : Trees ℕ) → is_input_label l ≡ true → label_of n ts ≡ l → o.forest ≡ ts
    → us ≡ relabel_in (with_attribute (codes "value") (Some v)) ts n → with_value l n (Some v) o ≡ record o { forest = us }
is_set None n v o ts us h at e f = absurd (no_true h)
is_set (Some (TextOf t)) n v o ts us h at e f = absurd (no_true h)
is_set (Some (ElementOf tag attrs)) n v o ts us h at e f =
    ap (λ (b : Bool). if b then record o { forest = relabelled n (with_attribute (codes "value") (Some v) (ElementOf tag attrs)) o.forest } else o) h
    ∙ ap (λ (x : Trees ℕ). let p : OwnState = record o { forest = x } in p)
    (ap (relabelled n (with_attribute (codes "value") (Some v) (ElementOf tag attrs))) e
    ∙ sym (f ∙ ap (λ (k : Option Label). option_map_or (λ l. relabelled n (with_attribute (codes "value") (Some v) l) ts) k ts) at))
