-- A slot breaks one rule first.
use Rattle.std.proofs.Common.{◌≡◌, ℕ, ◌+◌, List, Option, Some, refl, sym, ap, subst, ◌∙◌}
use Rattle.js_tree.specs.Plain.{Stmts}
use Rattle.adsafe_rules.specs.declared.scope.Scope.TheVariants as scope
use Rattle.adsafe_rules.specs.declared.scope.Scope.{Scope}
use Rattle.plain_tree.specs.Trees.{Trees}
use Rattle.plain_tree.specs.Plains.{Places}
use Rattle.markup_grammar.proofs.Answers.{one_reading}
use Rattle.widget_form.specs.declared.form.Span.{Span}
use Rattle.slot_check.specs.Slots.{FirstOfSlot}
use Rattle.script_check.specs.Script.{ScriptFirst, LibFirst, IsCleanScript}
use Rattle.script_check.proofs.Verdicts.{one_first, not_clean}
use Rattle.trace_text.specs.declared.line.Rule.{Rule}
use Rattle.trace_text.specs.declared.line.Rule.TheVariants as rule
use Rattle.slot_check.specs.Sources.{Source, Slot, keys_of, IsLibrary, script_text}
use Rattle.slot_check.specs.Slot.{IsFile, id_span, named_libs, last_span, IsIdClean, AreClean, more, LibrariesFirst, here, later, SlotFirst, markup, id_script, library, go_script, IsCleanSlot}
use Rattle.slot_check.proofs.OneRule.{markup_once, no_file}

some_is : {A : Type 0} (x y : A) → Some x ≡ Some y → x ≡ y
some_is x y e = cc

-- the library of a name is one
one_library : (libs : List Source) (name : List ℕ) (p q : ℕ) (l m : Source) → IsLibrary libs name p l → IsLibrary libs name q m → l ≡ m
one_library libs name p q l m a b =
    let same : p ≡ q = some_is p q (sym a.first ∙ b.first) in
    let there : Some l ≡ Some m = cc (a.there, b.there, same) in
    some_is l m there

pub record Same (r q : Rule) (a b : Source) (x y : ℕ) : Type 0 where
  pub rule : r ≡ q
  pub source : a ≡ b
  pub at : x ≡ y

-- the first library that breaks a rule is one
record SameFirst (n m : ℕ) (a b : Source) (x y : ℕ) : Type 0 where
  number : n ≡ m
  source : a ≡ b
  at : x ≡ y

same_lib : (n m x y : ℕ) (a b : Source) → a ≡ b → LibFirst a.bytes n x → LibFirst b.bytes m y → SameFirst n m a b x y
same_lib n m x y a b e f g =
    let at_b = subst (λ s. LibFirst s.bytes n x) e f in
    let same = one_first b.bytes scope.Lib n x m y at_b g in
    record { number = same.0; source = e; at = same.1 }

lib_not_clean : (libs : List Source) (name : List ℕ) (p q : ℕ) (l m : Source) (n x : ℕ) → IsLibrary libs name p l → IsLibrary libs name q m → LibFirst l.bytes n x → IsCleanScript m.bytes scope.Lib → ⊥
lib_not_clean libs name p q l m n x a b first clean =
    not_clean m.bytes scope.Lib n x (subst (λ s. LibFirst s.bytes n x) (one_library libs name p q l m a b) first) clean

libs_once : (libs : List Source) (names : List (List ℕ)) (n m x y : ℕ) (a b : Source) → LibrariesFirst libs names n a x → LibrariesFirst libs names m b y → SameFirst n m a b x y
libs_once libs names n m x y a b (here {name = k} {place = p} i f) (here {place = q} j g) = same_lib n m x y a b (one_library libs k p q a b i j) f g
libs_once libs names n m x y a b (here {name = k} {place = p} i f) (later {place = q} {lib = l} j clean rest) = absurd (lib_not_clean libs k p q a l n x i j f clean)
libs_once libs names n m x y a b (later {name = k} {place = p} {lib = l} i clean rest) (here {place = q} j g) = absurd (lib_not_clean libs k q p b l m y j i g clean)
libs_once libs names n m x y a b (later {rest = ks} i clean f) (later j also g) = libs_once libs ks n m x y a b f g

libs_not_clean : (libs : List Source) (names : List (List ℕ)) (n x : ℕ) (a : Source) (places : List ℕ) (programs : List Stmts) → LibrariesFirst libs names n a x → AreClean libs names places programs → ⊥
libs_not_clean libs names n x a places programs (here {name = k} {place = p} i f) (more {place = q} {lib = l} {program = program} j script rest) = lib_not_clean libs k p q a l n x i j f (record { program = program; script = script })
libs_not_clean libs names n x a places programs (later {rest = ks} i clean f) (more {places = ps} {programs = gs} j script rest) = libs_not_clean libs ks n x a ps gs f rest

module _ (s : Slot) where
  -- the file of a slot is one
  same_file : (f g : Trees Places) → IsFile s f → IsFile s g → f ≡ g
  same_file f g h k = one_reading s.file.bytes f g h.spelled k.spelled

  unmarked : {T : Type 0} (n x : ℕ) (f : Trees Places) → FirstOfSlot s.name (keys_of s.libs) s.file.bytes n x → IsFile s f → T
  unmarked n x f m h = absurd (no_file s.name (keys_of s.libs) s.file.bytes n x f m h.spelled h.good)

  -- a script at a span breaks one rule first
  span_once : (scope : Scope) (a b : Span) (n m x y : ℕ) → a ≡ b → ScriptFirst (script_text s.file.bytes a) scope n x → ScriptFirst (script_text s.file.bytes b) scope m y → Same (rule.A n) (rule.A m) s.file s.file (a.from + x) (b.from + y)
  span_once scope a b n m x y e p q =
      let same = one_first (script_text s.file.bytes b) scope n x m y (subst (λ z. ScriptFirst (script_text s.file.bytes z) scope n x) e p) q in
      record { rule = ap rule.A same.0; source = refl; at = ap (λ z. z.from + x) e ∙ ap (λ z. b.from + z) same.1 }

  same_span : (span : Trees Places → Option Span) (f g : Trees Places) (a b : Span) → IsFile s f → IsFile s g → span f ≡ Some a → span g ≡ Some b → a ≡ b
  same_span span f g a b h k e d = some_is a b (sym e ∙ ap span (same_file f g h k) ∙ d)

  id_not_clean : (f g : Trees Places) (a : Span) (n x : ℕ) → IsFile s f → IsFile s g → id_span f ≡ Some a → ScriptFirst (script_text s.file.bytes a) (scope.Id s.name) n x → IsIdClean s.name s.file.bytes (id_span g) → ⊥
  id_not_clean f g a n x h k e p clean =
      let there : id_span g ≡ Some a = sym (ap id_span (same_file f g h k)) ∙ e in
      not_clean (script_text s.file.bytes a) (scope.Id s.name) n x p (subst (IsIdClean s.name s.file.bytes) there clean)

  lib_once : (f g : Trees Places) (n m x y : ℕ) (a b : Source) → IsFile s f → IsFile s g → LibrariesFirst s.libs (named_libs f) n a x → LibrariesFirst s.libs (named_libs g) m b y → Same (rule.A n) (rule.A m) a b x y
  lib_once f g n m x y a b h k p q =
      let same = libs_once s.libs (named_libs g) n m x y a b (subst (λ t. LibrariesFirst s.libs (named_libs t) n a x) (same_file f g h k) p) q in
      record { rule = ap rule.A same.number; source = same.source; at = same.at }

  lib_clean : (f g : Trees Places) (n x : ℕ) (a : Source) (places : List ℕ) (programs : List Stmts) → IsFile s f → IsFile s g → LibrariesFirst s.libs (named_libs f) n a x → AreClean s.libs (named_libs g) places programs → ⊥
  lib_clean f g n x a places programs h k p clean = libs_not_clean s.libs (named_libs g) n x a places programs (subst (λ t. LibrariesFirst s.libs (named_libs t) n a x) (same_file f g h k) p) clean

  pub first_once : (r q : Rule) (a b : Source) (x y : ℕ) → SlotFirst s r a x → SlotFirst s q b y → Same r q a b x y
  first_once r q a b x y (markup {number = n} m) (markup {number = k} l) =
      let same = markup_once s.name (keys_of s.libs) s.file.bytes n x k y m l in
      record { rule = ap rule.M same.0; source = refl; at = same.1 }
  first_once r q a b x y (markup {number = n} m) (id_script {file = g} k d p) = unmarked n x g m k
  first_once r q a b x y (markup {number = n} m) (library {file = g} k c p) = unmarked n x g m k
  first_once r q a b x y (markup {number = n} m) (go_script {file = g} k c d t p) = unmarked n x g m k
  first_once r q a b x y (id_script {file = f} h e p) (markup {number = n} m) = unmarked n y f m h
  first_once r q a b x y (id_script {file = f} {span = v} {number = n} {at = i} h e p) (id_script {file = g} {span = w} {number = m} {at = j} k d o) = span_once (scope.Id s.name) v w n m i j (same_span id_span f g v w h k e d) p o
  first_once r q a b x y (id_script {file = f} {span = v} {number = n} {at = i} h e p) (library {file = g} k c o) = absurd (id_not_clean f g v n i h k e p c)
  first_once r q a b x y (id_script {file = f} {span = v} {number = n} {at = i} h e p) (go_script {file = g} k c d t o) = absurd (id_not_clean f g v n i h k e p c)
  first_once r q a b x y (library {file = f} h c p) (markup {number = n} m) = unmarked n y f m h
  first_once r q a b x y (library {file = f} h c p) (id_script {file = g} {span = w} {number = m} {at = j} k d o) = absurd (id_not_clean g f w m j k h d o c)
  first_once r q a b x y (library {file = f} {number = n} h c p) (library {file = g} {number = m} k d o) = lib_once f g n m x y a b h k p o
  first_once r q a b x y (library {file = f} {number = n} h c p) (go_script {file = g} {places = ps} {programs = gs} k e d t o) = absurd (lib_clean f g n x a ps gs h k p d)
  first_once r q a b x y (go_script {file = f} h c d t p) (markup {number = n} m) = unmarked n y f m h
  first_once r q a b x y (go_script {file = f} h c d t p) (id_script {file = g} {span = w} {number = m} {at = j} k e o) = absurd (id_not_clean g f w m j k h e o c)
  first_once r q a b x y (go_script {file = f} {places = ps} {programs = gs} h c d t p) (library {file = g} {number = m} k e o) = absurd (lib_clean g f m y b ps gs k h o d)
  first_once r q a b x y (go_script {file = f} {span = v} {number = n} {at = i} h c d t p) (go_script {file = g} {span = w} {number = m} {at = j} k e l u o) = span_once (scope.Go s.name) v w n m i j (same_span last_span f g v w h k t u) p o

  pub first_not_clean : (r : Rule) (a : Source) (x : ℕ) → SlotFirst s r a x → IsCleanSlot s → ⊥
  first_not_clean r a x (markup {number = n} m) c = unmarked n x c.file m c.widget.has
  first_not_clean r a x (id_script {file = f} {span = v} {number = n} {at = i} h e p) c = id_not_clean f c.file v n i h c.widget.has e p c.widget.id
  first_not_clean r a x (library {file = f} {number = n} h e p) c = lib_clean f c.file n x a c.places c.programs h c.widget.has p c.widget.libs
  first_not_clean r a x (go_script {file = f} {span = v} {number = n} {at = i} h e d t p) c =
      let same = same_span last_span f c.file v c.widget.span h c.widget.has t c.widget.there in
      not_clean (script_text s.file.bytes c.widget.span) (scope.Go s.name) n i (subst (λ z. ScriptFirst (script_text s.file.bytes z) (scope.Go s.name) n i) same p) (record { program = c.script; script = c.widget.last })
