-- Posts that are delivered one after the other.
use Rattle.std.proofs.Common.{◌≡◌, ℕ, ◌+◌, ◌<◌, ◌≤◌, Bool, true, false, ◌&&◌, if◌then◌else◌, cond, nat_eq, List, [], ◌∷◌, ◌++◌, map, length, get_or, set, drop, refl, sym, ◌∙◌, ap, subst, arith}
use Rattle.std.proofs.lemmas.Bool.Decides.{nat_tests}
use Rattle.std.proofs.lemmas.List.{append-nil, append_assoc, drop_all, drop_more, get_or-map, get_or-set_same, get_or-set_other, length-map, map-set}
use Rattle.post_rounds.specs.declared.posts.Post.{Post}
use Rattle.post_rounds.specs.News.{is_declared, name, news_from, value_of}
use Rattle.post_rounds.specs.Events.{sent}

-- an event, or none
abbrev pub maybe : Bool → List ℕ → List (List ℕ)
maybe b v = if b then v ∷ [] else []

split : (d t : Bool) (f : Post → List ℕ) (p : Post) (rest : List Post)
    → (if d then map f (cond t (p ∷ rest) rest) else []) ≡ maybe (d && t) (f p) ++ (if d then map f rest else [])
split true true f p rest = refl
split true false f p rest = refl
split false t f p rest = refl

by_number : (events : List (List (List ℕ))) (r w : ℕ) (v : List ℕ) (b : Bool) → nat_eq r w ≡ b → r < length events → get_or (set events r (get_or events r [] ++ v ∷ [])) w [] ≡ get_or events w [] ++ maybe b v
by_number events r w v true met in_r =
    let same : r ≡ w = grind (arith, nat_tests) in
    subst (λ n. get_or (set events r (get_or events r [] ++ v ∷ [])) n [] ≡ get_or events n [] ++ v ∷ []) same (get_or-set_same events r (get_or events r [] ++ v ∷ []) [] in_r)
by_number events r w v false differ in_r =
    get_or-set_other events r w (get_or events r [] ++ v ∷ []) [] (λ same. let met : nat_eq r w ≡ true = grind (arith, nat_tests) in cc) ∙ sym (append-nil (get_or events w []))

-- the posts of one sender more are delivered
pub sender_more : (channels : List (ℕ × ℕ)) (names : List (List ℕ)) (s w : ℕ) (posts : List Post) (fresh rest : List (List Post)) (old new total : List (List ℕ))
    → fresh ≡ posts ∷ rest → new ≡ old ++ sent channels names s w posts → old ++ news_from channels names w s fresh ≡ total → new ++ news_from channels names w (s + 1) rest ≡ total
sender_more channels names s w posts fresh rest old new total are is so_far =
    ap (λ (es : List (List ℕ)). es ++ news_from channels names w (s + 1) rest) is
    ∙ (append_assoc old (sent channels names s w posts) (news_from channels names w (s + 1) rest) ∙ (ap (λ (ps : List (List Post)). old ++ news_from channels names w s ps) (sym are) ∙ so_far))

none : (d : Bool) (f : Post → List ℕ) → (if d then map f [] else []) ≡ []
none true f = refl
none false f = refl

-- all posts of a sender are delivered
pub posts_all : (channels : List (ℕ × ℕ)) (names : List (List ℕ)) (s w i : ℕ) (posts : List Post) (new total : List (List ℕ))
    → length posts ≤ i → new ++ sent channels names s w (drop i posts) ≡ total → new ≡ total
posts_all channels names s w i posts new total past so_far =
    sym (append-nil new) ∙ (ap (λ (es : List (List ℕ)). new ++ es) (sym (none (is_declared channels s w) (value_of (name names s)))) ∙ (ap (λ (ps : List Post). new ++ sent channels names s w ps) (sym (drop_all i posts past)) ∙ so_far))

-- the posts of the next sender
pub sender_next : {X : Type 0} (f : X → List Post) (xs : List X) (i : ℕ) (x : X) (posts : List Post)
    → i < length xs → x ≡ get_or xs i x → posts ≡ f x → drop i (map f xs) ≡ posts ∷ drop (i + 1) (map f xs)
sender_next f xs i x posts in_i at is =
    let there : i < length (map f xs) = omega (arith, length-map xs f) in
    drop_more (map f xs) i [] there ∙ ap (λ (ps : List Post). ps ∷ drop (i + 1) (map f xs)) (get_or-map f xs i x [] in_i ∙ (ap f (sym at) ∙ sym is))

-- those of all senders
pub senders_all : (channels : List (ℕ × ℕ)) (names : List (List ℕ)) (w i : ℕ) (fresh : List (List Post)) (new total : List (List ℕ))
    → length fresh ≤ i → new ++ news_from channels names w i (drop i fresh) ≡ total → new ≡ total
senders_all channels names w i fresh new total past so_far =
    sym (append-nil new) ∙ (ap (λ (ps : List (List Post)). new ++ news_from channels names w i ps) (sym (drop_all i fresh past)) ∙ so_far)

-- one element more in one of the lists
pub push_at : {X : Type 0} (f : X → List (List ℕ)) (xs : List X) (r : ℕ) (old new : X) (v : List ℕ)
    → r < length xs → old ≡ get_or xs r old → f new ≡ f old ++ v ∷ [] → map f (set xs r new) ≡ set (map f xs) r (get_or (map f xs) r [] ++ v ∷ [])
push_at f xs r old new v in_r is more =
    map-set f xs r new ∙ ap (set (map f xs) r) (more ∙ ap (λ (es : List (List ℕ)). es ++ v ∷ []) (ap f is ∙ sym (get_or-map f xs r old [] in_r)))
