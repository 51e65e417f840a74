-- What is known of blocks as one more is read.
use Rattle.std.proofs.Common.{◌≡◌, ℕ, true, false, ◌||◌, List, [], ◌∷◌, ◌++◌, map, length, refl, sym, ap, ◌∙◌, Some, None, if◌then◌else◌}
use Rattle.std.specs.Prelude.{codes}
use Rattle.std.specs.Borrow.{Bor}
use Rattle.std.specs.List.{list_any}
use Rattle.std.specs.Str.{bytes_eq}
use Rattle.std.proofs.lemmas.List.{length-map, map-append}
use Rattle.reach_cert.specs.declared.fault.CertFault.{CertFault}
use Rattle.reach_cert.specs.declared.fault.CertFault.TheVariants as fault
use Rattle.reach_cert.specs.Blocks.{words_of, IsWidget, IsBlock, AreBlocks}
use Rattle.reach_cert.specs.Certs.{Slot, Refused}
use Rattle.reach_cert.specs.Machine.{State, Between, Inside, Ahead, Refuses, goes, is_free, named, behind_first, first_text, step_first, text_is, text_behind}
use Rattle.reach_cert.specs.Shape.{is_used, slot_name}
use Rattle.reach_cert.specs.Words.{behind}
use Rattle.reach_cert.proofs.Steps.{carried, stopped, moved, later_both, fewer_later, fewer_then, one_read, refused_named, widget_named, slot_none}

-- ## Names

pub names_count : (names : List (Bor (List ℕ))) (slots : List Slot) → words_of names ≡ map slot_name slots → length names ≡ length slots
names_count names slots same = sym (length-map names (λ s. s.now)) ∙ ap length same ∙ length-map slots slot_name

pub names_used : (names : List (Bor (List ℕ))) (word : List ℕ) (slots : List Slot) → words_of names ≡ map slot_name slots → list_any (λ name. bytes_eq name word) (words_of names) ≡ is_used slots word
names_used names word slots same = ap (list_any (λ name. bytes_eq name word)) same ∙ each slots
  where
    each : (slots : List Slot) → list_any (λ name. bytes_eq name word) (map slot_name slots) ≡ is_used slots word
    each [] = refl
    each (slot ∷ slots) = ap (λ b. bytes_eq (slot_name slot) word || b) (each slots)

-- a further block may have the name
abbrev pub Allows : List (List ℕ) → List ℕ → Type 0
Allows names word = (slots : List Slot) → names ≡ map slot_name slots → is_free slots word ≡ true

pub not_allowed : (slots : List Slot) (word : List ℕ) (next : State) (a : Ahead) → is_free slots word ≡ false → step_first (Between slots) a.lines ≡ named slots word next → Refuses (Between slots) a (fault.BadCert a.number)
not_allowed slots word next a not is = stopped (Between slots) a.number a.lines refl (is ∙ ap (λ b. if b then Some next else None) not)

-- ## A block

module _ (names : List (List ℕ)) (old : Ahead) (goes_on : text_is (codes "end") old.lines ≡ false) where
  pub no_block : text_behind (codes "refused ") old.lines ≡ None → text_behind (codes "widget ") old.lines ≡ None → (slots : List Slot) → Refuses (Between slots) old (fault.BadCert old.number)
  no_block e f slots = stopped (Between slots) old.number old.lines refl (slot_none slots (first_text old.lines) goes_on e f)

  module _ (word : List ℕ) (refused : text_behind (codes "refused ") old.lines ≡ Some word) where
    pub refused_step : (slots : List Slot) → step_first (Between slots) old.lines ≡ named slots word (Between (slots ++ Refused word ∷ []))
    refused_step slots = refused_named slots (first_text old.lines) word goes_on refused

    pub refused_block : (after : List (List ℕ)) (new : Ahead) → new ≡ behind_first old → after ≡ names ++ word ∷ [] → Allows names word → IsBlock names after old new (Refused word)
    refused_block after new gone kept free =
        record {
          after_is = kept;
          read = λ slots same. moved (Between slots) (Between (slots ++ Refused word ∷ [])) old new gone (refused_step slots ∙ ap (λ b. if b then Some (Between (slots ++ Refused word ∷ [])) else None) (free slots same));
          fewer = one_read (behind (codes "refused ")) old new word refused gone;
        }

  module _ (word : List ℕ) (unrefused : text_behind (codes "refused ") old.lines ≡ None) (widget : text_behind (codes "widget ") old.lines ≡ Some word) where
    pub widget_step : (slots : List Slot) → step_first (Between slots) old.lines ≡ named slots word (Inside slots word [])
    widget_step slots = widget_named slots (first_text old.lines) word goes_on unrefused widget

    -- with the name as the reader has it
    module _ (name : List ℕ) (same : name ≡ word) (mid : Ahead) (gone : mid ≡ behind_first old) (free : Allows names word) where
      widget_moved : (slots : List Slot) → names ≡ map slot_name slots → goes (Between slots) old.lines ≡ goes (Inside slots name []) mid.lines
      widget_moved slots told =
          moved (Between slots) (Inside slots word []) old mid gone (widget_step slots ∙ ap (λ b. if b then Some (Inside slots word []) else None) (free slots told))
          ∙ ap (λ w. goes (Inside slots w []) mid.lines) (sym same)

      pub widget_refused : (e : CertFault) → ((slots : List Slot) → Refuses (Inside slots name []) mid e) → (slots : List Slot) → names ≡ map slot_name slots → Refuses (Between slots) old e
      widget_refused e refuses slots told = carried (Between slots) (Inside slots name []) old mid (widget_moved slots told) e (fewer_later old mid (one_read (behind (codes "widget ")) old mid word widget gone)) (refuses slots)

      pub widget_block : (after : List (List ℕ)) (new : Ahead) (slot : Slot) → after ≡ names ++ word ∷ [] → IsWidget name mid new slot → IsBlock names after old new slot
      widget_block after new slot kept is =
          record {
            after_is = kept ∙ ap (λ w. names ++ w ∷ []) (sym (is.named ∙ same));
            read = λ slots told. widget_moved slots told ∙ is.read slots;
            fewer = fewer_then old mid new (one_read (behind (codes "widget ")) old mid word widget gone) is.later;
          }

-- ## Blocks

pub blocks_more : (names after : List (List ℕ)) (old mid new : Ahead) (slots : List Slot) (slot : Slot) → AreBlocks names old mid slots → IsBlock names after mid new slot → AreBlocks after old new (slots ++ slot ∷ [])
blocks_more names after old mid new slots slot so_far block =
    record {
      names_are = block.after_is ∙ ap (λ l. l ++ slot_name slot ∷ []) so_far.names_are ∙ sym (map-append slot_name slots (slot ∷ []));
      read = so_far.read ∙ block.read slots so_far.names_are;
      later = later_both old mid new so_far.later (fewer_later mid new block.fewer);
    }
