-- What is spelled is taken by the machine, and gives the same trees.
use Rattle.std.proofs.Common.{◌≡◌, ℕ, suc, List, [], ◌∷◌, ◌++◌, Bool, true, false, Some, length, refl, ap, ◌∙◌, nat_lt}
use Rattle.markup_grammar.specs.declared.Sign.{Sign}
use Rattle.markup_grammar.specs.declared.Sign.TheVariants as sign
use Rattle.markup_grammar.specs.Signs.{Spot, Char, quote}
use Rattle.markup_grammar.specs.Grammar.{limit, Blanks, Attribute, Attributes, Head, Thing, Content, Closed, Element, Spells}
use Rattle.markup_grammar.specs.Grammar.Blanks.{no_blank, and_blank}
use Rattle.markup_grammar.specs.Grammar.Attribute.{valued, bare}
use Rattle.markup_grammar.specs.Grammar.Attributes.{no_attribute, and_attribute}
use Rattle.markup_grammar.specs.Grammar.Head.{head}
use Rattle.markup_grammar.specs.Grammar.Spells.{no_text, and_text, nothing, and_element, void_element, void_slash, script, element}
use Rattle.markup_grammar.specs.Machine as machine
use Rattle.markup_grammar.specs.Machine.{Opening, Open, InText, InValue, State, State_at, In, Between, Begun, TagName, Spaced, AttributeName, Ending, Ended, RawEnding, step, run, begin, finished}
use Rattle.markup_grammar.proofs.Runs.{if_true, if_false, going, blanks_run, tag_run, attribute_name_run, word_run, text_run, value_run, raw_run}
use Rattle.plain_tree.specs.declared.plain.Attr.{Attr}
use Rattle.plain_tree.specs.Names.{is_bare}
use Rattle.plain_tree.specs.Trees.{Trees, End, beside}
use Rattle.plain_tree.specs.Plains.{Places, text_node}

-- the state has these trees, the last of which may be a text that goes on
pub data Has : State → Trees Places → List Open → Type 0 where
  closed : {ts : Trees Places} {k : List Open} → Has (State_at Between ts k) ts k
  text : {ts : Trees Places} {k : List Open} {at : ℕ} {us : List ℕ} → Has (State_at (In (InText at us)) ts k) (beside ts (text_node us at)) k

has_less : {st : State} {ts : Trees Places} {k : List Open} → Has st ts k → (x : Spot) → step st sign.Less x ≡ Some (State_at (Begun x.at) ts k)
has_less closed x = refl
has_less text x = refl

has_end : {st : State} {ts : Trees Places} → Has st ts [] → finished (Some st) ≡ Some ts
has_end closed = refl
has_end text = refl

-- what may follow a name or a value in a head
abbrev is_tail : Sign → Bool
is_tail sign.Blank = true
is_tail sign.Greater = true
is_tail sign.Slash = true
is_tail _ = false

-- the state is behind a part of this head
abbrev Follows : State → Opening → Trees Places → List Open → Type 0
Follows st h ts k = (s : Sign) → is_tail s ≡ true → (x : Spot) → step st s x ≡ machine.in_head h ts k s x

tag_follows : (at : ℕ) (us : List ℕ) (ts : Trees Places) (k : List Open) → Follows (State_at (TagName at us) ts k) (record { tag = us; attrs = []; at = at }) ts k
tag_follows at us ts k sign.Blank e x = refl
tag_follows at us ts k sign.Greater e x = refl
tag_follows at us ts k sign.Slash e x = refl
tag_follows at us ts k _ e x = cc

spaced_follows : (h : Opening) (ts : Trees Places) (k : List Open) → Follows (State_at (Spaced h) ts k) h ts k
spaced_follows h ts k sign.Blank e x = refl
spaced_follows h ts k sign.Greater e x = refl
spaced_follows h ts k sign.Slash e x = refl
spaced_follows h ts k _ e x = cc

bare_follows : (h : Opening) (at : ℕ) (us : List ℕ) (ts : Trees Places) (k : List Open) → is_bare us ≡ true → Follows (State_at (AttributeName h at us) ts k) (record h { attrs = h.attrs ++ record { name = us; value = us; at = at; value_at = at } ∷ [] }) ts k
bare_follows h at us ts k b sign.Blank e x = if_true _ _ b
bare_follows h at us ts k b sign.Greater e x = if_true _ _ b
bare_follows h at us ts k b sign.Slash e x = if_true _ _ b
bare_follows h at us ts k b _ e x = cc

quote_opens : (h : Opening) (at : ℕ) (us : List ℕ) (ts : Trees Places) (k : List Open) (double : Bool) (x : Spot) → machine.assigned h at us ts k (quote double) x ≡ Some (State_at (In (InValue h us at (suc x.at) double [])) ts k)
quote_opens h at us ts k true x = refl
quote_opens h at us ts k false x = refl

quote_closes : (h : Opening) (name : List ℕ) (at value_at : ℕ) (double : Bool) (us : List ℕ) (ts : Trees Places) (k : List Open) (x : Spot) → machine.in_run (InValue h name at value_at double us) ts k (quote double) x ≡ Some (machine.valued h name at value_at us ts k)
quote_closes h name at value_at true us ts k x = refl
quote_closes h name at value_at false us ts k x = refl

attribute_run : {a : Attr} {cs rest : List Char} (h : Opening) (ts : Trees Places) (k : List Open) → Attribute a cs rest → (st : State) × (run (Some (State_at (Spaced h) ts k)) cs ≡ run (Some st) rest) × Follows st (record h { attrs = h.attrs ++ a ∷ [] }) ts k
attribute_run h ts k (valued {double = double} {q = q} {r = r} {name = name} {us = us} {at = at} {ds = ds} {rest = rest} n v) = (
  machine.valued h name at (suc q.at) us ts k,
  attribute_name_run h ts k n ∙ going (quote_opens h at name ts k double q) ds ∙ value_run h name at (suc q.at) ts k v ∙ going (quote_closes h name at (suc q.at) double us ts k r) rest,
  λ s e x. refl,
)
attribute_run h ts k (bare {name = name} {at = at} n e) = (State_at (AttributeName h at name) ts k, attribute_name_run h ts k n, bare_follows h at name ts k e)

attributes_run : {attrs : List Attr} {cs rest : List Char} (at : ℕ) (tag : List ℕ) (ts : Trees Places) (k : List Open) → Attributes attrs cs rest → (st : State) × (run (Some (State_at (TagName at tag) ts k)) cs ≡ run (Some st) rest) × Follows st (record { tag = tag; attrs = attrs; at = at }) ts k
attributes_run at tag ts k no_attribute = (State_at (TagName at tag) ts k, refl, tag_follows at tag ts k)
attributes_run at tag ts k (and_attribute {b = b} {attrs = attrs} {ds = ds} others blanks a) =
    let p = attributes_run at tag ts k others in
    let h : Opening = record { tag = tag; attrs = attrs; at = at } in
    let q = attribute_run h ts k a in
    (q.0, p.1 ∙ going (p.2 sign.Blank refl b) ds ∙ blanks_run h ts k blanks ∙ q.1, q.2)

blanks_follow : {cs rest : List Char} (st : State) (h : Opening) (ts : Trees Places) (k : List Open) → Follows st h ts k → Blanks cs rest → (other : State) × (run (Some st) cs ≡ run (Some other) rest) × Follows other h ts k
blanks_follow st h ts k f no_blank = (st, refl, f)
blanks_follow st h ts k f (and_blank {x = x} {rest = rest} b) =
    let p = blanks_follow st h ts k f b in
    (State_at (Spaced h) ts k, p.1 ∙ going (p.2 sign.Blank refl x) rest, spaced_follows h ts k)

head_run : {tag : List ℕ} {attrs : List Attr} {at : ℕ} {cs rest : List Char} {st : State} (ts : Trees Places) (k : List Open) → Has st ts k → nat_lt (length k) limit ≡ true → Head tag attrs at cs rest → (other : State) × (run (Some st) cs ≡ run (Some other) rest) × Follows other (record { tag = tag; attrs = attrs; at = at }) ts k
head_run ts k has few (head {x = x} {tag = tag} {attrs = attrs} {cs = cs} name attributes blanks) =
    let p = attributes_run x.at tag ts k attributes in
    let q = blanks_follow p.0 (record { tag = tag; attrs = attrs; at = x.at }) ts k p.2 blanks in
    (q.0, going (has_less has x) cs ∙ tag_run x.at ts k few name ∙ p.1 ∙ q.1, q.2)

-- the state is behind the name of an end tag
ended_run : {cs rest : List Char} (st : State) (ts : Trees Places) (k : List Open) → ((s : Sign) (x : Spot) → step st s x ≡ machine.ended ts k s x) → Blanks cs rest → (other : State) × (run (Some st) cs ≡ run (Some other) rest) × ((s : Sign) (x : Spot) → step other s x ≡ machine.ended ts k s x)
ended_run st ts k f no_blank = (st, refl, f)
ended_run st ts k f (and_blank {x = x} {rest = rest} b) =
    let p = ended_run st ts k f b in
    (State_at Ended ts k, p.1 ∙ going (p.2 sign.Blank x) rest, λ s y. refl)

-- what the machine does over a thing
abbrev Goal : Thing → List Char → List Char → Type 0
Goal (Content d ts) cs rest = (k : List Open) → length k ≡ d → (st : State) × (run (Some (State_at Between End k)) cs ≡ run (Some st) rest) × Has st ts k
Goal (Closed d ts) cs rest = (k : List Open) → length k ≡ d → run (Some (State_at Between End k)) cs ≡ run (Some (State_at Between ts k)) rest
Goal (Element d e) cs rest = (k : List Open) → length k ≡ d → (ts : Trees Places) (st : State) → Has st ts k → run (Some st) cs ≡ run (Some (State_at Between (beside ts e) k)) rest

few_are : {d : ℕ} (k : List Open) → length k ≡ d → nat_lt d limit ≡ true → nat_lt (length k) limit ≡ true
few_are k l e = ap (λ n. nat_lt n limit) l ∙ e

taken : {t : Thing} {cs rest : List Char} → Spells t cs rest → Goal t cs rest
taken (no_text {ts = ts} s) = λ k l. (State_at Between ts k, taken s k l, closed)
taken (and_text {ts = ts} {us = us} {at = at} s t) = λ k l. (State_at (In (InText at us)) ts k, taken s k l ∙ text_run ts k t, text)
taken nothing = λ k l. refl
taken (and_element {ts = ts} c e) = λ k l. let p = taken c k l in p.1 ∙ taken e k l ts p.0 p.2
taken (void_element {g = g} {rest = rest} few h void) = λ k l ts st has.
    let p = head_run ts k has (few_are k l few) h in
    p.1 ∙ going (p.2 sign.Greater refl g ∙ ap Some (if_true _ _ void)) rest
taken (void_slash {s = s} {g = g} {rest = rest} few h void) = λ k l ts st has.
    let p = head_run ts k has (few_are k l few) h in
    p.1 ∙ going (p.2 sign.Slash refl s ∙ if_true _ _ void) ((sign.Greater, g) ∷ rest)
taken (script {g = g} {tag = tag} {us = us} {attrs = attrs} {at = at} {ds = ds} few h void is raw w) = λ k l ts st has.
    let p = head_run ts k has (few_are k l few) h in
    let o : Opening = record { tag = tag; attrs = attrs; at = at } in
    p.1 ∙ going (p.2 sign.Greater refl g ∙ ap Some (if_false _ _ void ∙ if_true _ _ is)) ds
    ∙ raw_run o (suc g.at) ts k raw
    ∙ word_run (λ ws. State_at (RawEnding o (suc g.at) us ws) ts k) (λ u ws s x. refl) w
taken (element {g = g} {l = l} {s = s} {h = h} {tag = tag} {attrs = attrs} {at = at} {ts = ts} {ds = ds} {es = es} {rest = rest} few hd void is content w blanks) = λ k e before st has.
    let p = head_run before k has (few_are k e few) hd in
    let o : Open = record { before = before; head = record { tag = tag; attrs = attrs; at = at } } in
    let c = taken content (o ∷ k) (ap suc e) in
    let b = ended_run (State_at (Ending []) ts (o ∷ k)) ts (o ∷ k) (λ s2 x. refl) blanks in
    p.1 ∙ going (p.2 sign.Greater refl g ∙ ap Some (if_false _ _ void ∙ if_false _ _ is)) ds
    ∙ c.1 ∙ going (has_less c.2 l) ((sign.Slash, s) ∷ es)
    ∙ word_run (λ us. State_at (Ending us) ts (o ∷ k)) (λ u us s2 x. refl) w
    ∙ b.1 ∙ going (b.2 sign.Greater h) rest

pub complete : {cs : List Char} {ts : Trees Places} → Spells (Content 0 ts) cs [] → finished (run (Some begin) cs) ≡ Some ts
complete s = let p = taken s [] refl in ap finished p.1 ∙ has_end p.2
