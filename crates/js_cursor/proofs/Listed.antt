-- Names, and labels.
use Rattle.std.proofs.Common.{◌≡◌, ℕ, suc, ◌+◌, ◌<◌, ◌≤◌, List, [], ◌∷◌, ◌++◌, Option, None, refl, ap, sym, ◌∙◌, length, length-append, arith, append_assoc}
use Rattle.std.specs.Prelude.{All, ◌≢◌}
use Rattle.std.proofs.lemmas.List.Elements.{All-push}
use Rattle.js_grammar.specs.declared.Sign.{Sign}
use Rattle.js_grammar.specs.declared.Sign.TheVariants as sign
use Rattle.js_grammar.specs.Grammar.{Token, Lexeme, texts, places}
use Rattle.js_grammar.specs.Machine.{Frame, Step, step, Wants, FirstName, MoreNames, NextName, NamesEnd, FunBody, Statement, MaybeLabel, Labelled}
use Rattle.js_cursor.specs.declared.refusal.Refusal.TheVariants as refusal
use Rattle.js_cursor.specs.Reads.{goes, lexeme_at, Next, IsOther, Refuses}
use Rattle.js_cursor.specs.Named.{ReadsParams, labelled}
use Rattle.js_cursor.proofs.Reading.{other_refused, take_one, take_to, refuse_one}

pub record ParamsSoFar (ts : List Token) (at place d : ℕ) (names : List (List ℕ)) (before after : List ℕ) : Type 0 where
  pub in_text : place < length ts
  pub later : at < place
  pub params : List Lexeme
  pub named : names ≡ texts params
  pub placed : after ≡ before ++ places params
  pub leads : (w : Lexeme) (own : Option Lexeme) (k : List Frame) → goes ts (Wants (FirstName (suc d) ∷ NamesEnd d w own ∷ k)) at ≡ goes ts (Wants (MoreNames (suc d) params ∷ NamesEnd d w own ∷ k)) place

texts_push : (xs : List Lexeme) (x : Lexeme) → texts (xs ++ x ∷ []) ≡ texts xs ++ x.text ∷ []
texts_push [] x = refl
texts_push (y ∷ xs) x = ap (λ l. y.text ∷ l) (texts_push xs x)

places_push : (xs : List Lexeme) (x : Lexeme) → places (xs ++ x ∷ []) ≡ places xs ++ x.at ∷ []
places_push [] x = refl
places_push (y ∷ xs) x = ap (λ l. y.at ∷ l) (places_push xs x)

pub params_begin : (ts : List Token) (at d : ℕ) (start names : List (List ℕ)) (before after : List ℕ) → suc d ≤ 200 → Next ts at sign.Name → at + 1 < length ts → start ≡ [] → names ≡ start ++ (lexeme_at ts at).text ∷ [] → after ≡ before ++ (lexeme_at ts at).at ∷ [] → ParamsSoFar ts at (at + 1) d names before after
params_begin ts at d start names before after le here inside none named placed = record {
  in_text = inside;
  later = omega arith;
  params = lexeme_at ts at ∷ [];
  named = named ∙ ap (λ l. l ++ (lexeme_at ts at).text ∷ []) none;
  placed = placed;
  leads = λ w own k. take_one ts (Wants (FirstName (suc d) ∷ NamesEnd d w own ∷ k)) (Wants (MoreNames (suc d) (lexeme_at ts at ∷ []) ∷ NamesEnd d w own ∷ k)) at (suc d) sign.Name here refl le;
}

module _ (ts : List Token) (at place d : ℕ) (names : List (List ℕ)) (before after : List ℕ) (le : suc d ≤ 200) (so_far : ParamsSoFar ts at place d names before after) where
  pub params_end : Next ts place sign.Close → place + 1 < length ts → ReadsParams d ts at names before after (place + 1)
  params_end here inside = record {
    in_text = inside;
    later = omega (arith, so_far.later);
    params = so_far.params;
    named = so_far.named;
    placed = so_far.placed;
    leads = λ w own k. so_far.leads w own k ∙ take_one ts (Wants (MoreNames (suc d) so_far.params ∷ NamesEnd d w own ∷ k)) (Wants (FunBody d w own so_far.params ∷ k)) place (suc d) sign.Close here refl le;
  }

  pub params_more : (next : ℕ) (more : List (List ℕ)) (last : List ℕ) → Next ts place sign.Comma → Next ts (place + 1) sign.Name → next ≡ place + 1 + 1 → next < length ts → more ≡ names ++ (lexeme_at ts (place + 1)).text ∷ [] → last ≡ after ++ (lexeme_at ts (place + 1)).at ∷ [] → ParamsSoFar ts at next d more before last
  params_more next more last here mark to inside more_is last_is =
      let x = lexeme_at ts (place + 1) in
      record {
        in_text = inside;
        later = omega (arith, so_far.later, to);
        params = so_far.params ++ x ∷ [];
        named = more_is ∙ ap (λ l. l ++ x.text ∷ []) so_far.named ∙ sym (texts_push so_far.params x);
        placed = last_is ∙ ap (λ l. l ++ x.at ∷ []) so_far.placed ∙ append_assoc before (places so_far.params) (x.at ∷ []) ∙ ap (λ l. before ++ l) (sym (places_push so_far.params x));
        leads = λ w own k. so_far.leads w own k ∙ take_one ts (Wants (MoreNames (suc d) so_far.params ∷ NamesEnd d w own ∷ k)) (Wants (NextName (suc d) so_far.params ∷ NamesEnd d w own ∷ k)) place (suc d) sign.Comma here refl le ∙ take_to ts (Wants (NextName (suc d) so_far.params ∷ NamesEnd d w own ∷ k)) (Wants (MoreNames (suc d) (so_far.params ++ x ∷ []) ∷ NamesEnd d w own ∷ k)) (place + 1) next (suc d) sign.Name mark refl le to;
      }

  no_next : (w : Lexeme) (own : Option Lexeme) (xs : List Lexeme) (k : List Frame) (s : Sign) (x : Lexeme) → s ≢ sign.Name → ◌≡◌ {A = Step} (step (Wants (NextName (suc d) xs ∷ NamesEnd d w own ∷ k)) (s, x)) None
  no_next w own xs k sign.Name x h = absurd (h refl)
  no_next w own xs k _ x h = refl

  no_param : (w : Lexeme) (own : Option Lexeme) (xs : List Lexeme) (k : List Frame) (s : Sign) (x : Lexeme) → s ≢ sign.Close → s ≢ sign.Comma → ◌≡◌ {A = Step} (step (Wants (MoreNames (suc d) xs ∷ NamesEnd d w own ∷ k)) (s, x)) None
  no_param w own xs k sign.Close x p q = absurd (p refl)
  no_param w own xs k sign.Comma x p q = absurd (q refl)
  no_param w own xs k _ x p q = refl

  pub params_unnamed : Next ts place sign.Comma → place + 1 < length ts → IsOther ts (place + 1) sign.Name → (w : Lexeme) (own : Option Lexeme) → Refuses (λ k. Wants (FirstName (suc d) ∷ NamesEnd d w own ∷ k)) ts at (refusal.Syntax (place + 1))
  params_unnamed here inside other w own = other_refused _ ts at (place + 1) sign.Name (λ k. Wants (NextName (suc d) so_far.params ∷ NamesEnd d w own ∷ k)) inside other
      (λ k. so_far.leads w own k ∙ take_one ts (Wants (MoreNames (suc d) so_far.params ∷ NamesEnd d w own ∷ k)) (Wants (NextName (suc d) so_far.params ∷ NamesEnd d w own ∷ k)) place (suc d) sign.Comma here refl le) (no_next w own so_far.params)

  pub params_stuck : (s : Sign) → Next ts place s → s ≢ sign.Close → s ≢ sign.Comma → (w : Lexeme) (own : Option Lexeme) → Refuses (λ k. Wants (FirstName (suc d) ∷ NamesEnd d w own ∷ k)) ts at (refusal.Syntax place)
  params_stuck s here p q w own = (so_far.in_text, λ k. so_far.leads w own k ∙ refuse_one ts (Wants (MoreNames (suc d) so_far.params ∷ NamesEnd d w own ∷ k)) place s here (no_param w own so_far.params k s (lexeme_at ts place) p q))

-- ## Labels

labelled_push : (ts : List Token) (xs : List ℕ) (x : ℕ) (k : List Frame) → labelled ts (xs ++ x ∷ []) k ≡ Labelled (lexeme_at ts x) ∷ labelled ts xs k
labelled_push ts [] x k = refl
labelled_push ts (y ∷ xs) x k = labelled_push ts xs x (Labelled (lexeme_at ts y) ∷ k)

pub record LabelsSoFar (ts : List Token) (at : ℕ) (labels : List ℕ) (place : ℕ) : Type 0 where
  pub in_text : place < length ts
  pub long : at + length labels + length labels ≡ place
  pub tokens : All (λ x. x + 1 < length ts) labels
  pub leads : (d : ℕ) (k : List Frame) → d ≤ 200 → goes ts (Wants (Statement d ∷ k)) at ≡ goes ts (Wants (Statement d ∷ labelled ts labels k)) place

pub labels_more : (ts : List Token) (at place : ℕ) (labels : List ℕ) → LabelsSoFar ts at labels place → Next ts place sign.Name → Next ts (place + 1) sign.Colon → place + 2 < length ts → LabelsSoFar ts at (labels ++ place ∷ []) (place + 2)
labels_more ts at place labels h name colon inside =
    let x = lexeme_at ts place in
    let longer = length-append labels (place ∷ []) in
    record {
      in_text = inside;
      long = omega (arith, h.long, longer);
      tokens = All-push (λ x. x + 1 < length ts) labels place h.tokens (omega (arith, inside));
      leads = λ d k le.
          h.leads d k le
          ∙ take_one ts (Wants (Statement d ∷ labelled ts labels k)) (Wants (MaybeLabel d x ∷ labelled ts labels k)) place d sign.Name name refl le
          ∙ take_to ts (Wants (MaybeLabel d x ∷ labelled ts labels k)) (Wants (Statement d ∷ Labelled x ∷ labelled ts labels k)) (place + 1) (place + 2) d sign.Colon colon refl le (omega arith)
          ∙ ap (λ l. goes ts (Wants (Statement d ∷ l)) (place + 2)) (sym (labelled_push ts labels place k));
    }
