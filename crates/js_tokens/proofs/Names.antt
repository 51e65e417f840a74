-- A name is found by its bytes.
use Rattle.std.proofs.Common.{◌≡◌, ℕ, ◌-◌, List, ◌∷◌, take, drop, Bool, true, ap, ◌∙◌, subst, sym}
use Rattle.std.proofs.lemmas.Bool.{or_left}
use Rattle.js_tokens.specs.declared.class.Class.TheVariants as class
use Rattle.js_tokens.specs.Characters.{class_of, is_letter, is_digit, is_part}
use Rattle.js_tokens.specs.Words.{is_reserved}
use Rattle.js_tokens.specs.Lexes.{Run, front}
use Rattle.js_tokens.specs.Lexes.Run.{more}
use Rattle.js_tokens.specs.Cursor.{from, IsPlace, IsNext, IsEnd}
use Rattle.js_tokens.specs.Scan as scan
use Rattle.js_tokens.specs.Scan.{after_run, word_kind, found, found_at}
use Rattle.js_tokens.proofs.Runs.{run_sound}
use Rattle.js_tokens.proofs.Longest.{at_class}
use Rattle.js_tokens.proofs.Slices.{front_bytes}

name_run : (text : List ℕ) (at c next end : ℕ) → IsNext text at c next → class_of c ≡ class.Letter → after_run is_part (from text next) ≡ from text end → Run is_part (from text at) (from text end)
name_run text at c next end n e r =
    let letter : is_part c ≡ true = or_left (is_letter c) (is_digit c) (at_class c class.Letter e) in
    subst (λ l. Run is_part l (from text end)) (sym n.here) (more letter (subst (λ l. Run is_part (from text next) l) r (run_sound is_part (from text next))))

pub word_found : (text bytes : List ℕ) (at c next end : ℕ) (b : Bool) → IsPlace text at → IsNext text at c next → class_of c ≡ class.Letter → IsEnd text next (after_run is_part (from text next)) end → bytes ≡ text → b ≡ is_reserved (take (end - at) (drop at bytes)) → found (from text at) ≡ scan.Token (word_kind b) (from text end)
word_found text bytes at c next end b p n e r same is =
    let run = name_run text at c next end n e r.rest_is in
    let here : front (from text at) (from text end) ≡ take (end - at) (drop at text) = front_bytes text at end p r.place run in
    let word : is_reserved (front (from text at) (from text end)) ≡ b = ap is_reserved here ∙ ap (λ l. is_reserved (take (end - at) (drop at l))) (sym same) ∙ sym is in
    let at_letter : found (c ∷ from text next) ≡ scan.Token (word_kind (is_reserved (front (c ∷ from text next) (after_run is_part (from text next))))) (after_run is_part (from text next)) = ap (λ x. found_at x c (from text next)) e in
    ap found n.here ∙ at_letter
    ∙ ap (λ l. scan.Token (word_kind (is_reserved (front (c ∷ from text next) l))) l) r.rest_is
    ∙ ap (λ l. scan.Token (word_kind (is_reserved (front l (from text end)))) (from text end)) (sym n.here)
    ∙ ap (λ x. scan.Token (word_kind x) (from text end)) word
