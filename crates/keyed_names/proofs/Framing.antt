-- One file more in the message.
use Rattle.std.proofs.Common.{◌≡◌, ℕ, ◌+◌, ◌<◌, List, [], ◌∷◌, ◌++◌, length, take, get_or, map, sym, ap, ◌∙◌, Bor, append-nil, append_assoc}
use Rattle.std.specs.List.{flat_map}
use Rattle.std.specs.Hash as fed
use Rattle.std.proofs.lemmas.List.{take_more, map-append}
use Rattle.std.proofs.lemmas.List.Concat.{flat_map-append}
use Rattle.keyed_names.specs.Keying.{framed}

abbrev pub message : List (Bor (List ℕ)) → List ℕ
message files = flat_map framed (map (λ file. file.now) files)

pub message_more : (files : List (Bor (List ℕ))) (i : ℕ) (d : Bor (List ℕ)) → i < length files → (message (take i files) ++ fed.le_bytes 8 (length (get_or files i d).now)) ++ (get_or files i d).now ≡ message (take (i + 1) files)
message_more files i d l =
    let x = get_or files i d in
    sym (
    ap message (take_more files i d l)
    ∙ ap (λ fs. flat_map framed fs) (map-append (λ file. file.now) (take i files) (x ∷ []))
    ∙ flat_map-append framed (map (λ file. file.now) (take i files)) (x.now ∷ [])
    ∙ ap (λ m. message (take i files) ++ m) (append-nil (framed x.now))
    ∙ sym (append_assoc (message (take i files)) (fed.le_bytes 8 (length x.now)) x.now)
    )
