-- Names that are gathered entry by entry, or item by item.
use Rattle.std.proofs.Common.{◌≡◌, ℕ, ◌<◌, ◌≤◌, ◌+◌, List, [], ◌∷◌, ◌++◌, length, take, get_or, refl, ap, sym, ◌∙◌}
use Rattle.std.specs.Prelude.{String, string_bytes}
use Rattle.std.specs.List.{flat_map}
use Rattle.std.specs.declared.alloc.Global.{Global}
use Rattle.std.proofs.lemmas.List.{flat_map_more, take_more, take_all, map-append, append_assoc}
use Rattle.trace_reader.specs.declared.item.TraceItem.{TraceItem}
use Rattle.trace_reader.specs.Said.{said}
use Rattle.run_steps.specs.Page.{texts, swap_file, swap_files}

pub flat_more : {X : Type 0} (f : X → List (List ℕ)) (es : List X) (i : ℕ) (e : X) (old new : List (List ℕ)) → i < length es → e ≡ get_or es i e → old ≡ flat_map f (take i es) → new ≡ old ++ f e → new ≡ flat_map f (take (i + 1) es)
flat_more f es i e old new within is before after =
    let whole : take (i + 1) es ≡ take i es ++ e ∷ [] = take_more es i e within ∙ ap (λ x. take i es ++ x ∷ []) (sym is) in
    after ∙ ap (λ ns. ns ++ f e) before ∙ flat_map_more f [] (take i es) e ∙ sym (ap (flat_map f) whole)

pub flat_all : {X : Type 0} (f : X → List (List ℕ)) (es : List X) (i : ℕ) (names : List (List ℕ)) → length es ≤ i → names ≡ flat_map f (take i es) → names ≡ flat_map f es
flat_all f es i names past gathered = gathered ∙ ap (flat_map f) (take_all i es past)

pub names_more : (first : List (List ℕ)) (more : List (String Global)) (i : ℕ) (d : String Global) (name : List ℕ) (old new : List (List ℕ)) → i < length more → d ≡ get_or more i d → name ≡ string_bytes d → old ≡ first ++ texts (take i more) → new ≡ old ++ name ∷ [] → new ≡ first ++ texts (take (i + 1) more)
names_more first more i d name old new within item shown before after =
    let whole : texts (take (i + 1) more) ≡ texts (take i more) ++ name ∷ [] =
    ap texts (take_more more i d within) ∙ map-append string_bytes (take i more) (get_or more i d ∷ []) ∙ ap (λ x. texts (take i more) ++ x ∷ []) (sym (shown ∙ ap string_bytes item)) in
    after ∙ ap (λ ns. ns ++ name ∷ []) before ∙ append_assoc first (texts (take i more)) (name ∷ []) ∙ sym (ap (λ ns. first ++ ns) whole)

pub names_all : (first : List (List ℕ)) (more : List (String Global)) (i : ℕ) (names : List (List ℕ)) → length more ≤ i → names ≡ first ++ texts (take i more) → names ≡ first ++ texts more
names_all first more i names past gathered = gathered ∙ ap (λ ns. first ++ texts ns) (take_all i more past)

-- the file of an item that is a swap
abbrev pub swapped : TraceItem → List (List ℕ)
swapped item = swap_file (said item)

pub all_swapped : (items : List TraceItem) → flat_map swapped items ≡ swap_files items
all_swapped [] = refl
all_swapped (t ∷ ts) = ap (λ ns. swapped t ++ ns) (all_swapped ts)
