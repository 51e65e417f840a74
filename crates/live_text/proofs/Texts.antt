-- Texts that are answered.
use Rattle.std.proofs.Common.{◌≡◌, ℕ, ◌+◌, ◌-◌, ◌≤◌, Bor, List, [], ◌∷◌, ◌++◌, codes, string_bytes, map, length, take, drop, refl, sym, ap, subst, ◌∙◌, append_assoc, append-nil, length-append, take_all, arith}
use Rattle.std.proofs.lemmas.List.{take-append-le}
use Rattle.std.specs.Prelude.{decimal}
use Rattle.std.specs.List.{flat_map}
use Rattle.trace_text.specs.Report.{concat, escaped, text_inside, until_member, rule_mark, rule_number, run_members, run_notes, page_line, line_text}
use Rattle.trace_text.specs.declared.line.Line.{Line}
use Rattle.trace_text.specs.declared.line.Line.TheVariants.{Ran, Short, Refused, Accepted, LibAccepted, LibRefused, Page}
use Rattle.live_text.specs.Answer.{shown, object_of, quoted, entry_text, next_entry, entries_text}
use Rattle.live_text.specs.declared.entry.Entry.{Entry}

-- a front of what is joined
take_front : (xs ys : List ℕ) → take (length xs) (xs ++ ys) ≡ xs
take_front xs ys = take-append-le (length xs) xs ys (omega arith) ∙ take_all (length xs) xs (omega arith)

-- ## A line of a report

-- the bytes end with a line feed
pub record EndsFeed (bytes : List ℕ) : Type 0 where
  pub front : List ℕ
  pub is : bytes ≡ front ++ 10 ∷ []

ends_append : (a b : List ℕ) → EndsFeed b → EndsFeed (a ++ b)
ends_append a b end = record { front = a ++ end.front; is = ap (λ l. a ++ l) end.is ∙ sym (append_assoc a end.front (10 ∷ [])) }

ends_concat : (parts : List (List ℕ)) (end : List ℕ) → EndsFeed end → EndsFeed (concat (parts ++ end ∷ []))
ends_concat [] end is = subst EndsFeed (sym (append-nil end)) is
ends_concat (part ∷ parts) end is = ends_append part (concat (parts ++ end ∷ [])) (ends_concat parts end is)

line_ends : (line : Line) → EndsFeed (line_text line)
line_ends (Ran run) = ends_append (run_members run) _ (ends_append (run_notes run.log.items run.uncaught.items) _ (record { front = codes "}"; is = refl }))
line_ends (Short run) = ends_append (run_members run) _ (record { front = codes "}"; is = refl })
line_ends (Refused name until file rule at) =
    ends_concat (codes "{\"widget\":\"" ∷ text_inside name ∷ codes "\"" ∷ until_member until
    ∷ codes ",\"file\":\"" ∷ escaped (string_bytes file)
    ∷ codes "\",\"refused\":\"" ∷ rule_mark rule ∷ decimal (rule_number rule)
    ∷ codes "\",\"at\":[" ∷ decimal at.line ∷ codes "," ∷ decimal at.column ∷ []) (codes "]}\n") (record { front = codes "]}"; is = refl })
line_ends (Accepted name file) =
    ends_concat (codes "{\"widget\":\"" ∷ text_inside name ∷ codes "\",\"file\":\"" ∷ escaped (string_bytes file) ∷ []) (codes "\",\"accepted\":true}\n") (record { front = codes "\",\"accepted\":true}"; is = refl })
line_ends (LibAccepted file) =
    ends_concat (codes "{\"file\":\"" ∷ escaped (string_bytes file) ∷ []) (codes "\",\"accepted\":true}\n") (record { front = codes "\",\"accepted\":true}"; is = refl })
line_ends (LibRefused file rule at) =
    ends_concat (codes "{\"file\":\"" ∷ escaped (string_bytes file)
    ∷ codes "\",\"refused\":\"" ∷ rule_mark rule ∷ decimal (rule_number rule)
    ∷ codes "\",\"at\":[" ∷ decimal at.line ∷ codes "," ∷ decimal at.column ∷ []) (codes "]}\n") (record { front = codes "]}"; is = refl })
line_ends (Page text) =
    ends_concat (codes "{\"page\":\"" ∷ escaped text.items ∷ []) (codes "\"}\n") (record { front = codes "\"}"; is = refl })

without_feed : (bytes : List ℕ) → EndsFeed bytes → bytes ≡ take (length bytes - 1) bytes ++ 10 ∷ []
without_feed bytes end =
    let long : length bytes - 1 ≡ length end.front = let same = ap length end.is in let sum = length-append end.front (10 ∷ []) in omega arith in
    let front : take (length bytes - 1) bytes ≡ end.front =
    ap (λ n. take n bytes) long ∙ ap (take (length end.front)) end.is ∙ take_front end.front (10 ∷ []) in
    end.is ∙ ap (λ l. l ++ 10 ∷ []) (sym front)

pub object_and_feed : (line : Line) → line_text line ≡ object_of line ++ codes "\n"
object_and_feed line = without_feed (line_text line) (line_ends line)

-- ## The text of a page line

page_is : (text : List ℕ) → page_line text ≡ codes "{\"page\":" ++ (quoted text ++ codes "}\n")
page_is text = ap (λ l. codes "{\"page\":\"" ++ l) (sym (append_assoc (escaped text) (codes "\"") (codes "}\n")))

page_length : (text : List ℕ) → length (page_line text) ≡ length (quoted text) + 10
page_length text =
    let is = ap length (page_is text) in
    let one = length-append (codes "{\"page\":") (quoted text ++ codes "}\n") in
    let two = length-append (quoted text) (codes "}\n") in
    omega arith

pub page_long : (bytes text : List ℕ) → bytes ≡ page_line text → 10 ≤ length bytes
page_long bytes text is = let long = page_length text in let same = ap length is in omega arith

pub page_inside : (bytes text : List ℕ) → bytes ≡ page_line text → take (length bytes - 10) (drop 8 bytes) ≡ quoted text
page_inside bytes text is =
    let long : length bytes - 10 ≡ length (quoted text) = let all = page_length text in let same = ap length is in omega arith in
    ap (λ n. take n (drop 8 bytes)) long ∙ ap (λ l. take (length (quoted text)) (drop 8 l)) (is ∙ page_is text) ∙ take_front (quoted text) (codes "}\n")

-- ## Answers

-- three pieces, one after the other
pub three_pieces : (old a n z one two three m : List ℕ) → one ≡ old ++ a → two ≡ one ++ m → m ≡ n → three ≡ two ++ z → three ≡ old ++ (a ++ (n ++ z))
three_pieces old a n z one two three m first second same third =
    third ∙ ap (λ l. l ++ z) (second ∙ ap (λ l. one ++ l) same ∙ ap (λ l. l ++ n) first) ∙ append_assoc (old ++ a) n z ∙ append_assoc old a (n ++ z)

flat_map_map : {X Y : Type 0} (f : Y → List ℕ) (g : X → Y) (xs : List X) → flat_map f (map g xs) ≡ flat_map (λ x. f (g x)) xs
flat_map_map f g [] = refl
flat_map_map f g (x ∷ xs) = ap (λ l. f (g x) ++ l) (flat_map_map f g xs)

pub entries_parts : (entries rest : List (Bor Entry)) (first : Bor Entry) → entries ≡ first ∷ rest
    → entries_text (map (λ e. shown e.now) entries) ≡ entry_text (shown first.now) ++ flat_map (λ e. next_entry (shown e.now)) rest
entries_parts entries rest first is =
    ap (λ es. entries_text (map (λ e. shown e.now) es)) is ∙ ap (λ l. entry_text (shown first.now) ++ l) (flat_map_map next_entry (λ e. shown e.now) rest)
