-- Bytes that were appended so far, and what comes next.
use Rattle.std.proofs.Common.{◌≡◌, ℕ, List, [], ◌++◌, refl, sym, ap, ◌∙◌, append_assoc, append-nil}
use Rattle.std.specs.Prelude.{Result, Ok, Err, IsErr, MatchResult}
use Rattle.js_print.specs.Writing.{AppendsFront}

-- of the whole, `next` is still to come
pub record Goes (start now whole next : List ℕ) : Type 0 where
  pub taken : List ℕ
  pub now_is : now ≡ start ++ taken
  pub whole_is : whole ≡ taken ++ next

pub goes_start : (start whole : List ℕ) → Goes start start whole whole
goes_start start whole = record { taken = []; now_is = sym (append-nil start); whole_is = refl }

pub goes_on : (start now later whole a b : List ℕ) → Goes start now whole (a ++ b) → later ≡ now ++ a → Goes start later whole b
goes_on start now later whole a b h e = record {
  taken = h.taken ++ a;
  now_is = e ∙ ap (λ l. l ++ a) h.now_is ∙ append_assoc start h.taken a;
  whole_is = h.whole_is ∙ sym (append_assoc h.taken a b);
}

-- a refusal that appended nothing
pub goes_no : (start now whole next : List ℕ) → Goes start now whole next → AppendsFront start now whole
goes_no start now whole next h = record { taken = h.taken; rest = next; new_is = h.now_is; whole_is = h.whole_is }

-- a refusal that appended a front of what comes next
pub goes_part : (start now later whole a b : List ℕ) → Goes start now whole (a ++ b) → AppendsFront now later a → AppendsFront start later whole
goes_part start now later whole a b h p = record {
  taken = h.taken ++ p.taken;
  rest = p.rest ++ b;
  new_is = p.new_is ∙ ap (λ l. l ++ p.taken) h.now_is ∙ append_assoc start h.taken p.taken;
  whole_is = h.whole_is ∙ ap (λ l. h.taken ++ (l ++ b)) p.whole_is ∙ ap (λ l. h.taken ++ l) (append_assoc p.taken p.rest b) ∙ sym (append_assoc h.taken p.taken (p.rest ++ b));
}

-- what holds where a call was refused
pub refused : {T E : Type 0} (r : Result T E) (P : T → Type 0) (Q : Type 0) → IsErr r → Q → MatchResult r P (λ _. Q)
refused (Ok x) P Q h q = cc
refused (Err e) P Q h q = q

-- a refused call that appended nothing
pub goes_refused : {T E : Type 0} (r : Result T E) (P : T → Type 0) (start now later whole text next : List ℕ) → IsErr r → Goes start now text next → text ≡ whole → later ≡ now → MatchResult r P (λ _. AppendsFront start later whole)
goes_refused r P start now later whole text next h g e same = refused r P (AppendsFront start later whole) h (rw (sym e, same) (goes_no start now text next g))

pub front_more : (old new a b : List ℕ) → AppendsFront old new a → AppendsFront old new (a ++ b)
front_more old new a b h = record { taken = h.taken; rest = h.rest ++ b; new_is = h.new_is; whole_is = ap (λ l. l ++ b) h.whole_is ∙ append_assoc h.taken h.rest b }

pub front_none : (old whole : List ℕ) → AppendsFront old old whole
front_none old whole = record { taken = []; rest = whole; new_is = sym (append-nil old); whole_is = refl }
