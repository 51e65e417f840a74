-- The machine over characters, and bytes that it refuses.
use Rattle.std.proofs.Common.{◌≡◌, ℕ, zero, suc, ◌+◌, List, [], ◌∷◌, ◌++◌, true, Option, Some, None, length, refl, ap, sym, subst, ◌∙◌, arith, nat_lt, append_assoc, length-append, encode_utf8, encode_utf8_all}
use Rattle.std.specs.Char.{len_utf8}
use Rattle.std.specs.Str.{IsUtf8, IsAscii, chars}
use Rattle.std.proofs.lemmas.Bool.{ltb-true}
use Rattle.std.proofs.lemmas.Str.{IsUtf8-append, IsUtf8-from_ascii, chars-IsAscii, chars-append, chars-encodes, cons_from_encodes, length-encode}
use Rattle.std.proofs.Math.Utf8.{scalars, scalar}
use Rattle.markup_grammar.specs.Signs.{located, sign_of}
use Rattle.markup_grammar.specs.Grammar.{Content, Spells}
use Rattle.markup_grammar.specs.Machine.{State, begin, step, run, finished}
use Rattle.markup_grammar.specs.Judge.{Outcome, Reached, Stuck, goes_on, reads}
use Rattle.markup_grammar.specs.Markup.{MarkupSpells, Begins}
use Rattle.markup_grammar.proofs.Complete.{complete}
use Rattle.markup_grammar.proofs.Sound.{sound}
use Rattle.markup_grammar.proofs.Close.{Good, GoodO, step_good, is_ascii, parts}
use Rattle.markup_grammar.proofs.Closing.{closing, closes, closing_ascii}
use Rattle.plain_tree.specs.Trees.{Trees}
use Rattle.plain_tree.specs.Plains.{Places}

-- how many bytes these characters take
abbrev pub size : List ℕ → ℕ
size [] = 0
size (c ∷ cs) = len_utf8 c + size cs

pub size_is : (cs : List ℕ) → length (encode_utf8_all cs) ≡ size cs
size_is [] = refl
size_is (c ∷ cs) = length-append (encode_utf8 c) (encode_utf8_all cs) ∙ (let e = length-encode c in let f = size_is cs in omega (arith, e, f))

state_is : (a b : State) → Reached a ≡ Reached b → a ≡ b
state_is a b e = cc

place_is : (a b : ℕ) → Stuck a ≡ Stuck b → a ≡ b
place_is a b e = cc

-- ## What is read

pub run_reached : (cs : List ℕ) (st last : State) (at : ℕ) → reads st at cs ≡ Reached last → run (Some st) (located at cs) ≡ Some last
run_reached [] st last at e = ap Some (state_is st last e)
run_reached (c ∷ cs) st last at e = of (λ next h. run_reached cs next last (at + len_utf8 c) h) (step st (sign_of c) (record { code = c; at = at })) e
  where
    of : ((next : State) → reads next (at + len_utf8 c) cs ≡ Reached last → run (Some next) (located (at + len_utf8 c) cs) ≡ Some last) → (o : Option State) → goes_on o at (λ next. reads next (at + len_utf8 c) cs) ≡ Reached last → run o (located (at + len_utf8 c) cs) ≡ Some last
    of rec None h = cc
    of rec (Some next) h = rec next h

pub run_stuck : (cs : List ℕ) (st : State) (at place : ℕ) → reads st at cs ≡ Stuck place → run (Some st) (located at cs) ≡ None
run_stuck [] st at place e = cc
run_stuck (c ∷ cs) st at place e = of (λ next h. run_stuck cs next (at + len_utf8 c) place h) (step st (sign_of c) (record { code = c; at = at })) e
  where
    of : ((next : State) → reads next (at + len_utf8 c) cs ≡ Stuck place → run (Some next) (located (at + len_utf8 c) cs) ≡ None) → (o : Option State) → goes_on o at (λ next. reads next (at + len_utf8 c) cs) ≡ Stuck place → run o (located (at + len_utf8 c) cs) ≡ None
    of rec None h = refl
    of rec (Some next) h = rec next h

pub reads_append : (front cs : List ℕ) (st last : State) (at : ℕ) → reads st at front ≡ Reached last → reads st at (front ++ cs) ≡ reads last (at + size front) cs
reads_append [] cs st last at e = ap (λ s. reads s at cs) (state_is st last e) ∙ ap (λ n. reads last n cs) (omega arith)
reads_append (c ∷ front) cs st last at e = of (λ next h. reads_append front cs next last (at + len_utf8 c) h) (step st (sign_of c) (record { code = c; at = at })) e
  where
    of : ((next : State) → reads next (at + len_utf8 c) front ≡ Reached last → reads next (at + len_utf8 c) (front ++ cs) ≡ reads last (at + len_utf8 c + size front) cs) → (o : Option State) → goes_on o at (λ next. reads next (at + len_utf8 c) front) ≡ Reached last → goes_on o at (λ next. reads next (at + len_utf8 c) (front ++ cs)) ≡ reads last (at + (len_utf8 c + size front)) cs
    of rec None h = cc
    of rec (Some next) h = rec next h ∙ ap (λ n. reads last n cs) (omega arith)

pub run_append : (front cs : List ℕ) (st last : State) (at : ℕ) → reads st at front ≡ Reached last → run (Some st) (located at (front ++ cs)) ≡ run (Some last) (located (at + size front) cs)
run_append [] cs st last at e = ap (λ s. run (Some s) (located at cs)) (state_is st last e) ∙ ap (λ n. run (Some last) (located n cs)) (omega arith)
run_append (c ∷ front) cs st last at e = of (λ next h. run_append front cs next last (at + len_utf8 c) h) (step st (sign_of c) (record { code = c; at = at })) e
  where
    of : ((next : State) → reads next (at + len_utf8 c) front ≡ Reached last → run (Some next) (located (at + len_utf8 c) (front ++ cs)) ≡ run (Some last) (located (at + len_utf8 c + size front) cs)) → (o : Option State) → goes_on o at (λ next. reads next (at + len_utf8 c) front) ≡ Reached last → run o (located (at + len_utf8 c) (front ++ cs)) ≡ run (Some last) (located (at + (len_utf8 c + size front)) cs)
    of rec None h = cc
    of rec (Some next) h = rec next h ∙ ap (λ n. run (Some last) (located n cs)) (omega arith)

pub reads_good : (cs : List ℕ) (st last : State) (at : ℕ) → Good st → reads st at cs ≡ Reached last → Good last
reads_good [] st last at g e = subst Good (state_is st last e) g
reads_good (c ∷ cs) st last at g e = of (λ next q h. reads_good cs next last (at + len_utf8 c) q h) (step st (sign_of c) (record { code = c; at = at })) (step_good st (sign_of c) (record { code = c; at = at }) refl g) e
  where
    of : ((next : State) → Good next → reads next (at + len_utf8 c) cs ≡ Reached last → Good last) → (o : Option State) → GoodO o → goes_on o at (λ next. reads next (at + len_utf8 c) cs) ≡ Reached last → Good last
    of rec None q h = cc
    of rec (Some next) q h = rec next q h

-- where the machine is stuck
pub record Split (cs : List ℕ) (st : State) (at place : ℕ) : Type 0 where
  pub front : List ℕ
  pub code : ℕ
  pub back : List ℕ
  pub last : State
  pub same : cs ≡ front ++ code ∷ back
  pub reached : reads st at front ≡ Reached last
  pub refused : step last (sign_of code) (record { code = code; at = place }) ≡ None
  pub place_same : place ≡ at + size front

pub splits : (cs : List ℕ) (st : State) (at place : ℕ) → reads st at cs ≡ Stuck place → Split cs st at place
splits [] st at place e = cc
splits (c ∷ cs) st at place e = of (λ next h. splits cs next (at + len_utf8 c) place h) (step st (sign_of c) (record { code = c; at = at })) refl e
  where
    of : ((next : State) → reads next (at + len_utf8 c) cs ≡ Stuck place → Split cs next (at + len_utf8 c) place) → (o : Option State) → step st (sign_of c) (record { code = c; at = at }) ≡ o → goes_on o at (λ next. reads next (at + len_utf8 c) cs) ≡ Stuck place → Split (c ∷ cs) st at place
    of rec None q h = let p : at ≡ place = place_is at place h in
        record { front = []; code = c; back = cs; last = st; same = refl; reached = refl; refused = subst (λ n. step st (sign_of c) (record { code = c; at = n }) ≡ None) p q; place_same = omega (arith, p) }
    of rec (Some next) q h = let s = rec next h in
        record {
          front = c ∷ s.front;
          code = s.code;
          back = s.back;
          last = s.last;
          same = ap (λ l. c ∷ l) s.same;
          reached = ap (λ o. goes_on o at (λ n. reads n (at + len_utf8 c) s.front)) q ∙ s.reached;
          refused = s.refused;
          place_same = let p = s.place_same in omega (arith, p);
        }

-- ## Fronts of texts

ascii_is : (us : List ℕ) → is_ascii us ≡ true → IsAscii us
ascii_is [] e i = omega arith
ascii_is (u ∷ us) e zero = ltb-true u 128 (parts (nat_lt u 128) (is_ascii us) e).0
ascii_is (u ∷ us) e (suc i) = ascii_is us (parts (nat_lt u 128) (is_ascii us) e).1 i

-- what the machine reads begins a text
pub begins : (front : List ℕ) (st : State) → IsUtf8 front → reads begin 0 (chars front) ≡ Reached st → Begins front
begins front st u e =
    let good : Good st = reads_good (chars front) begin st 0 (tt, tt) e in
    let more : List ℕ = closing st in
    let ascii : IsAscii more = ascii_is more (closing_ascii st good) in
    let end = closes st good (0 + size (chars front)) in
    let cs : chars (front ++ more) ≡ chars front ++ more = chars-append front more u ∙ ap (λ l. chars front ++ l) (chars-IsAscii more ascii) in (
      more,
      end.0,
      (
        IsUtf8-append front more u (IsUtf8-from_ascii more ascii),
        subst (λ l. Spells (Content 0 end.0) (located 0 l) []) (sym cs) (sound (ap finished (run_append (chars front) more begin st 0 e) ∙ end.1)),
      ),
    )

-- what is spelled is read
pub spelled_reads : (bytes : List ℕ) (ts : Trees Places) → MarkupSpells bytes ts → (st : State) × (reads begin 0 (chars bytes) ≡ Reached st) × (finished (Some st) ≡ Some ts)
spelled_reads bytes ts m = of (reads begin 0 (chars bytes)) refl
  where
    of : (o : Outcome) → reads begin 0 (chars bytes) ≡ o → (st : State) × (reads begin 0 (chars bytes) ≡ Reached st) × (finished (Some st) ≡ Some ts)
    of (Reached st) e = (st, e, sym (ap finished (run_reached (chars bytes) begin st 0 e)) ∙ complete m.1)
    of (Stuck place) e = absurd (none_is ts (sym (ap finished (run_stuck (chars bytes) begin 0 place e)) ∙ complete m.1))
      where
        none_is : (t : Trees Places) → None ≡ Some t → ⊥
        none_is t h = cc

-- what is read to an end is spelled
pub read_spells : (bytes : List ℕ) (ts : Trees Places) (st : State) → IsUtf8 bytes → reads begin 0 (chars bytes) ≡ Reached st → finished (Some st) ≡ Some ts → MarkupSpells bytes ts
read_spells bytes ts st u e f = (u, sound (ap finished (run_reached (chars bytes) begin st 0 e) ∙ f))

front_splits : (front es rest : List ℕ) → encode_utf8_all es ≡ encode_utf8_all front ++ rest → (ds : List ℕ) × (es ≡ front ++ ds) × (encode_utf8_all ds ≡ rest)
front_splits [] es rest e = (es, refl, e)
front_splits (c ∷ front) es rest e =
    let p = cons_from_encodes es (encode_utf8_all front ++ rest) c (e ∙ append_assoc (encode_utf8 c) (encode_utf8_all front) rest) in
    let q = front_splits front p.0 rest p.2 in
    (q.0, p.1 ∙ ap (λ l. c ∷ l) q.1, q.2)

scalar_at : (xs : List ℕ) (c : ℕ) (ys : List ℕ) → scalars (xs ++ c ∷ ys) ≡ true → scalar c ≡ true
scalar_at [] c ys e = (parts (scalar c) (scalars ys) e).0
scalar_at (x ∷ xs) c ys e = scalar_at xs c ys (parts (scalar x) (scalars (xs ++ c ∷ ys)) e).1

-- the character behind a front of some content goes on
pub next_char : (front more : List ℕ) (b : ℕ) (st : State) (ts : Trees Places) → reads begin 0 front ≡ Reached st → MarkupSpells (encode_utf8_all front ++ b ∷ more) ts →
    (c : ℕ) × (rest : List ℕ) × (b ∷ more ≡ encode_utf8 c ++ rest) × (step st (sign_of c) (record { code = c; at = size front }) ≡ None → ⊥) × (scalar c ≡ true)
next_char front more b st ts e m = of split.0 split.1 split.2
  where
    text : List ℕ
    text = encode_utf8_all front ++ b ∷ more

    split : (ds : List ℕ) × (m.0.0 ≡ front ++ ds) × (encode_utf8_all ds ≡ b ∷ more)
    split = front_splits front m.0.0 (b ∷ more) m.0.1.1

    read : (st2 : State) × (reads begin 0 (chars text) ≡ Reached st2) × (finished (Some st2) ≡ Some ts)
    read = spelled_reads text ts m

    cs : chars text ≡ m.0.0
    cs = ap chars (sym m.0.1.1) ∙ chars-encodes m.0.0 m.0.1.0

    none_stuck : (c : ℕ) (ds : List ℕ) → m.0.0 ≡ front ++ c ∷ ds → step st (sign_of c) (record { code = c; at = size front }) ≡ None → ⊥
    none_stuck c ds q h = clash (size front) read.0
        (sym (ap (λ o. goes_on o (size front) (λ n. reads n (size front + len_utf8 c) ds)) h) ∙ ap (λ n. reads st n (c ∷ ds)) (let z : size front ≡ 0 + size front = omega arith in z) ∙ sym (reads_append front (c ∷ ds) begin st 0 e) ∙ sym (ap (reads begin 0) (cs ∙ q)) ∙ read.1)
      where
        clash : (p : ℕ) (s : State) → Stuck p ≡ Reached s → ⊥
        clash p s k = cc

    of : (ds : List ℕ) → m.0.0 ≡ front ++ ds → encode_utf8_all ds ≡ b ∷ more → (c : ℕ) × (rest : List ℕ) × (b ∷ more ≡ encode_utf8 c ++ rest) × (step st (sign_of c) (record { code = c; at = size front }) ≡ None → ⊥) × (scalar c ≡ true)
    of [] q r = cc
    of (c ∷ ds) q r = (c, encode_utf8_all ds, sym r, none_stuck c ds q, scalar_at front c ds (sym (ap scalars q) ∙ m.0.1.0))
