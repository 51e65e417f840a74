-- The printed form of a style, and what is printed of its first pairs.
use Rattle.std.proofs.Common.{◌≡◌, ◌≢◌, ℕ, ◌≤◌, List, [], ◌∷◌, ◌++◌, Bool, true, false, Some, None, Option, refl, sym, ap, ◌∙◌, subst, length, cond, append_assoc, append-nil, Bor}
use Rattle.std.specs.Prelude.{◌==◌, slice_range, codes}
use Rattle.std.specs.Str.{bytes_eq}
use Rattle.std.proofs.lemmas.Slice.Eq.{bytes_eq-Decides}
use Rattle.exact_refusals.specs.Judge.{Outcome, Read, Refused, Deeper}
use Rattle.style_text.specs.declared.StyleFault.{StyleFault}
use Rattle.style_text.specs.declared.StyleFault.TheVariants as fault
use Rattle.style_text.specs.Styles.{Pair, StyleSpells, print_style}
use Rattle.style_text.specs.Machine.{Next, Start, begin, goes}
use Rattle.style_text.specs.Form.{form_of, style_form}
use Rattle.style_text.specs.Reads.{Refuses, IsProperty, IsWhole}
use Rattle.style_text.specs.Separated.{separated, IsBehind}
use Rattle.style_text.specs.Used.{marks_of}
use Rattle.style_text.proofs.Complete.{complete}
use Rattle.style_text.proofs.Sound.{sound}
use Rattle.style_text.proofs.Cuts.{no_unit_at}
use Rattle.style_text.proofs.Reading.{refused_later, refused_value}
use Rattle.style_text.proofs.Printing.{nonzero, print_none, print_last}

-- ## The printed form

pub form_spelled : (us : List ℕ) (pairs : List Pair) → StyleSpells us pairs → style_form us ≡ print_style pairs
unfolding style_form
form_spelled us pairs h = ap (form_of us) (complete us pairs h)

pub form_other : (us : List ℕ) → ((pairs : List Pair) → StyleSpells us pairs → ⊥) → style_form us ≡ us
unfolding style_form
form_other us never = by_outcome (goes us begin 0) refl
  where
    by_outcome : (o : Outcome (List Pair)) → goes us begin 0 ≡ o → form_of us o ≡ us
    by_outcome (Read pairs) e = absurd (never pairs (sound us pairs e))
    by_outcome (Refused left) e = refl
    by_outcome (Deeper left) e = refl

pub form_refused : (us : List ℕ) (e : StyleFault) → Refuses us begin 0 e → style_form us ≡ us
unfolding style_form
form_refused us (fault.BadStyle place) h = ap (form_of us) (h.1)
form_refused us fault.Memory h = absurd h

form_read : (us : List ℕ) (pairs : List Pair) (at : ℕ) → length us ≤ at → goes us begin 0 ≡ goes us (Next pairs) at → style_form us ≡ print_style pairs
form_read us pairs at le h = form_spelled us pairs (sound us pairs (h ∙ read_all))
  where
    read_all : goes us (Next pairs) at ≡ Read pairs
    read_all = rw (no_unit_at us at le) refl

-- ## What stands behind

cancel : (a b c : List ℕ) → a ++ b ≡ a ++ c → b ≡ c
cancel [] b c e = e
cancel (u ∷ a) b c e = cancel a b c (cc)

pub behind_more : (front text a : List ℕ) (rest : Bor (List ℕ)) (r : Option (Bor (List ℕ))) → text ≡ front ++ rest.now → IsBehind a rest.now r → IsBehind (front ++ a) text r
behind_more front text a rest None e h = λ more x. h more (cancel front rest.now (a ++ more) (sym e ∙ x ∙ append_assoc front a more))
behind_more front text a rest (Some r) e h = e ∙ ap (λ l. front ++ l) h ∙ sym (append_assoc front a r.now)

pub behind_none : (front text a : List ℕ) → ((more : List ℕ) → text ≢ front ++ more) → (more : List ℕ) → text ≢ (front ++ a) ++ more
behind_none front text a h more x = h (a ++ more) (x ∙ append_assoc front a more)

pub behind_parts : (front text separator property value : List ℕ) (first : Bool) (r : Option (Bor (List ℕ))) → separator ≡ cond first [] (codes "; ") → IsBehind ((((front ++ separator) ++ property) ++ codes ": ") ++ value) text r → IsBehind (front ++ separated first (property, value)) text r
behind_parts front text separator property value first r e h =
    let s = cond first [] (codes "; ") in
    let same : (((front ++ separator) ++ property) ++ codes ": ") ++ value ≡ front ++ (s ++ ((property ++ codes ": ") ++ value)) =
    ap (λ l. (((front ++ l) ++ property) ++ codes ": ") ++ value) e ∙ simp append_assoc in
    subst (λ l. IsBehind l text r) same h

-- ## The pairs that are read

-- the pairs before a place, and what stands in the text behind them
pub record IsPrinted (us text : List ℕ) (used : List Bool) (first : Bool) (at : ℕ) (rest : Option (Bor (List ℕ))) : Type 0 where
  pub pairs : List Pair
  pub marks : used ≡ marks_of pairs
  pub start : first ≡ (length pairs == 0)
  pub read : goes us begin 0 ≡ goes us (Next pairs) at
  pub behind : IsBehind (print_style pairs) text rest

-- one more pair
pub one_more : (us text : List ℕ) (used new_used : List Bool) (first : Bool) (at end start stop next : ℕ) (rest new_rest : Option (Bor (List ℕ))) (p : IsPrinted us text used first at rest) →
    ((pairs : List Pair) → used ≡ marks_of pairs → IsProperty us pairs at end start) →
    IsWhole us start stop next →
    ((pairs : List Pair) (value : List ℕ) → used ≡ marks_of pairs → new_used ≡ marks_of (pairs ++ (slice_range us at end, value) ∷ [])) →
    (IsBehind (print_style p.pairs) text rest → IsBehind (print_style p.pairs ++ separated first (slice_range us at end, slice_range us start stop)) text new_rest) →
    IsPrinted us text new_used false next new_rest
one_more us text used new_used first at end start stop next rest new_rest p property value marks behind =
    let pair : Pair = (slice_range us at end, slice_range us start stop) in
    record {
      pairs = p.pairs ++ pair ∷ [];
      marks = marks p.pairs (slice_range us start stop) p.marks;
      start = later p.pairs;
      read = p.read ∙ (property p.pairs p.marks).goes_on ∙ value.goes_on p.pairs (slice_range us at end);
      behind = rw (print_last p.pairs pair, ← p.start) (behind p.behind);
    }
  where
    later : (ps : List Pair) → false ≡ (length (ps ++ (slice_range us at end, slice_range us start stop) ∷ []) == 0)
    later [] = refl
    later (q ∷ ps) = sym (nonzero (length (ps ++ (slice_range us at end, slice_range us start stop) ∷ [])))

pub no_pair : (us text : List ℕ) (used : List Bool) (at : ℕ) (rest : Bor (List ℕ)) → used ≡ marks_of [] → rest.now ≡ text → goes us begin 0 ≡ goes us (Next []) at → IsPrinted us text used true at (Some rest)
no_pair us text used at rest m e h = record { pairs = []; marks = m; start = refl; read = h; behind = rw print_none (sym e) }

-- a property or a value is refused
pub property_refused : (us text : List ℕ) (used : List Bool) (first : Bool) (at : ℕ) (rest : Option (Bor (List ℕ))) (e : StyleFault) → IsPrinted us text used first at rest → ((pairs : List Pair) → used ≡ marks_of pairs → Refuses us (Next pairs) at e) → style_form us ≡ us
property_refused us text used first at rest e p h = form_refused us e (refused_later us begin (Next p.pairs) 0 at e p.read (h p.pairs p.marks))

pub value_refused : (us text : List ℕ) (used : List Bool) (first : Bool) (at end start : ℕ) (rest : Option (Bor (List ℕ))) (e : StyleFault) → IsPrinted us text used first at rest → ((pairs : List Pair) → used ≡ marks_of pairs → IsProperty us pairs at end start) → ((pairs : List Pair) (property : List ℕ) → Refuses us (Start pairs property) start e) → style_form us ≡ us
value_refused us text used first at end start rest e p property h = form_refused us e (refused_value us p.pairs p.pairs at end start e refl (property p.pairs p.marks) h p.read)

-- ## The end

not_same : (front text : List ℕ) → (front ≡ text → ⊥) → false ≡ bytes_eq front text
not_same front text ne = by_test (bytes_eq front text) refl
  where
    by_test : (b : Bool) → bytes_eq front text ≡ b → false ≡ b
    by_test false e = refl
    by_test true e = absurd (ne ((bytes_eq-Decides front text).0 e))

longer : (front : List ℕ) (u : ℕ) (rest : List ℕ) → front ≡ front ++ u ∷ rest → ⊥
longer [] u rest e = cc
longer (v ∷ front) u rest e = longer front u rest (cc)

same_rest : (front rest : List ℕ) → (length rest == 0) ≡ bytes_eq front (front ++ rest)
same_rest front [] = sym ((bytes_eq-Decides front (front ++ [])).1 (sym (append-nil front)))
same_rest front (u ∷ rest) = nonzero (length rest) ∙ not_same front (front ++ u ∷ rest) (longer front u rest)

pub all_printed : (us text : List ℕ) (used : List Bool) (first : Bool) (at : ℕ) (rest : Bor (List ℕ)) → length us ≤ at → IsPrinted us text used first at (Some rest) → (length rest.now == 0) ≡ bytes_eq (style_form us) text
all_printed us text used first at rest le p =
    same_rest (print_style p.pairs) rest.now ∙ ap (bytes_eq (print_style p.pairs)) (sym p.behind) ∙ ap (λ l. bytes_eq l text) (sym (form_read us p.pairs at le p.read))

pub not_printed : (us text : List ℕ) (used : List Bool) (first : Bool) (at : ℕ) → length us ≤ at → IsPrinted us text used first at None → false ≡ bytes_eq (style_form us) text
not_printed us text used first at le p =
    not_same (print_style p.pairs) text (λ e. p.behind [] (sym e ∙ sym (append-nil (print_style p.pairs))))
    ∙ ap (λ l. bytes_eq l text) (sym (form_read us p.pairs at le p.read))
