-- All slots together get at most one event for each fresh post.
use Rattle.std.proofs.Common.{◌≡◌, ℕ, ◌+◌, ◌≤◌, Bool, true, false, cond, if◌then◌else◌, List, [], ◌∷◌, map, length, refl, sym, ◌∙◌, ap, arith}
use Rattle.std.proofs.lemmas.List.{length-append, length-map}
use Rattle.std.proofs.lemmas.List.FromFn.{fill_by_all}
use Rattle.std.proofs.lemmas.List.Sums.{sum_by-cons}
use Rattle.std.proofs.lemmas.Map.Keys.{IsDistinct-head, IsDistinct-tail}
use Rattle.std.proofs.lemmas.Slice.Eq.{bytes_eq-Decides}
use Rattle.std.specs.List.{AllByRecursion, IsDistinct, filter, range_with_len, sum_by}
use Rattle.std.specs.Str.{bytes_eq}
use Rattle.post_rounds.specs.declared.posts.Post.{Post}
use Rattle.post_rounds.specs.News.{all_news, is_declared, is_to, name, news, news_from, value_of}
use Rattle.post_rounds.specs.Events.{sent}
use Rattle.post_rounds.proofs.Tests.{fails}

-- a sum over numbers
abbrev pub total : (ℕ → ℕ) → List ℕ → ℕ
total f [] = 0
total f (w ∷ ws) = f w + total f ws

total_zero : (f : ℕ → ℕ) (ws : List ℕ) → ((w : ℕ) → f w ≡ 0) → total f ws ≡ 0
total_zero f [] h = refl
total_zero f (w ∷ ws) h = let here : f w ≡ 0 = h w in let later : total f ws ≡ 0 = total_zero f ws h in omega arith

total_le : (f g : ℕ → ℕ) (ws : List ℕ) → ((w : ℕ) → f w ≤ g w) → total f ws ≤ total g ws
total_le f g [] h = omega arith
total_le f g (w ∷ ws) h = let here : f w ≤ g w = h w in let later : total f ws ≤ total g ws = total_le f g ws h in omega arith

total_add : (f g : ℕ → ℕ) (ws : List ℕ) → total (λ w. f w + g w) ws ≡ total f ws + total g ws
total_add f g [] = refl
total_add f g (w ∷ ws) = let later : total (λ v. f v + g v) ws ≡ total f ws + total g ws = total_add f g ws in omega arith

total_same : (f g : ℕ → ℕ) (ws : List ℕ) → ((w : ℕ) → f w ≡ g w) → total f ws ≡ total g ws
total_same f g [] h = refl
total_same f g (w ∷ ws) h = let here : f w ≡ g w = h w in let later : total f ws ≡ total g ws = total_same f g ws h in omega arith

-- the slots of a list of names that have one name
abbrev pub count : (List ℕ → Bool) → List (List ℕ) → ℕ
count t [] = 0
count t (x ∷ xs) = cond (t x) 1 0 + count t xs

total_names : (t : List ℕ → Bool) (f : ℕ → List ℕ) (ws : List ℕ) → total (λ w. cond (t (f w)) 1 0) ws ≡ count t (map f ws)
total_names t f [] = refl
total_names t f (w ∷ ws) = let later : total (λ v. cond (t (f v)) 1 0) ws ≡ count t (map f ws) = total_names t f ws in omega arith

none_else : (x to : List ℕ) (xs : List (List ℕ)) → x ≡ to → AllByRecursion (λ y. bytes_eq x y ≡ false) xs → count (λ y. bytes_eq y to) xs ≡ 0
none_else x to [] is apart = refl
none_else x to (y ∷ ys) is apart =
    let other : bytes_eq y to ≡ false = fails (bytes_eq y to) (λ met. let also : bytes_eq x y ≡ true = (bytes_eq-Decides x y).1 (is ∙ sym ((bytes_eq-Decides y to).0 met)) in let differ : bytes_eq x y ≡ false = apart.0 in cc) in
    ap (λ b. cond b 1 0 + count (λ z. bytes_eq z to) ys) other ∙ (let later : count (λ z. bytes_eq z to) ys ≡ 0 = none_else x to ys is apart.1 in omega arith)

by_test : (x to : List ℕ) (xs : List (List ℕ)) (b : Bool) → bytes_eq x to ≡ b → IsDistinct bytes_eq (x ∷ xs) → count (λ y. bytes_eq y to) xs ≤ 1 → cond b 1 0 + count (λ y. bytes_eq y to) xs ≤ 1
by_test x to xs true met distinct later =
    let no_more : count (λ y. bytes_eq y to) xs ≡ 0 = none_else x to xs ((bytes_eq-Decides x to).0 met) (IsDistinct-head bytes_eq x xs distinct) in omega arith
by_test x to xs false differ distinct later = omega arith

-- where names differ, one slot at most has this one
at_most_one : (to : List ℕ) (xs : List (List ℕ)) → IsDistinct bytes_eq xs → count (λ y. bytes_eq y to) xs ≤ 1
at_most_one to [] distinct = omega arith
at_most_one to (x ∷ xs) distinct = by_test x to xs (bytes_eq x to) refl distinct (at_most_one to xs (IsDistinct-tail bytes_eq x xs distinct))

all_names : (names : List (List ℕ)) → names ≡ map (name names) (range_with_len 0 (length names))
all_names names = fill_by_all (name names) names (length names) [] refl (λ w in_w. refl)

-- a post counts for one slot at most
one_post : (names : List (List ℕ)) (post : Post) → IsDistinct bytes_eq names → total (λ w. cond (is_to (name names w) post) 1 0) (range_with_len 0 (length names)) ≤ 1
one_post names post distinct =
    let is_all : total (λ w. cond (is_to (name names w) post) 1 0) (range_with_len 0 (length names)) ≡ count (λ y. bytes_eq y post.to) (map (name names) (range_with_len 0 (length names))) =
    total_names (λ y. bytes_eq y post.to) (name names) (range_with_len 0 (length names)) in
    let same : count (λ y. bytes_eq y post.to) (map (name names) (range_with_len 0 (length names))) ≡ count (λ y. bytes_eq y post.to) names = ap (count (λ y. bytes_eq y post.to)) (sym (all_names names)) in
    let few : count (λ y. bytes_eq y post.to) names ≤ 1 = at_most_one post.to names distinct in
    omega arith

kept_more : (b : Bool) (post : Post) (rest : List Post) → length (cond b (post ∷ rest) rest) ≡ cond b 1 0 + length rest
kept_more true post rest = omega arith
kept_more false post rest = omega arith

-- and all posts of a sender count for as many slots at most
all_posts : (names : List (List ℕ)) (posts : List Post) → IsDistinct bytes_eq names → total (λ w. length (filter (is_to (name names w)) posts)) (range_with_len 0 (length names)) ≤ length posts
all_posts names [] distinct = let no_post = total_zero (λ w. 0) (range_with_len 0 (length names)) (λ w. refl) in omega arith
all_posts names (post ∷ posts) distinct =
    let slots : List ℕ = range_with_len 0 (length names) in
    let here : total (λ w. cond (is_to (name names w) post) 1 0) slots ≤ 1 = one_post names post distinct in
    let later : total (λ w. length (filter (is_to (name names w)) posts)) slots ≤ length posts = all_posts names posts distinct in
    let both : total (λ w. cond (is_to (name names w) post) 1 0 + length (filter (is_to (name names w)) posts)) slots ≡ total (λ w. cond (is_to (name names w) post) 1 0) slots + total (λ w. length (filter (is_to (name names w)) posts)) slots =
    total_add (λ w. cond (is_to (name names w) post) 1 0) (λ w. length (filter (is_to (name names w)) posts)) slots in
    let same : total (λ w. length (filter (is_to (name names w)) (post ∷ posts))) slots ≡ total (λ w. cond (is_to (name names w) post) 1 0 + length (filter (is_to (name names w)) posts)) slots =
    total_same (λ w. length (filter (is_to (name names w)) (post ∷ posts))) (λ w. cond (is_to (name names w) post) 1 0 + length (filter (is_to (name names w)) posts)) slots (λ w. kept_more (is_to (name names w) post) post (filter (is_to (name names w)) posts)) in
    omega arith

heard_le : (b : Bool) (f : Post → List ℕ) (kept : List Post) → length (if b then map f kept else []) ≤ length kept
heard_le true f kept = let same = length-map kept f in omega arith
heard_le false f kept = omega arith

from_senders : (channels : List (ℕ × ℕ)) (names : List (List ℕ)) (s : ℕ) (fresh : List (List Post)) → IsDistinct bytes_eq names
    → total (λ w. length (news_from channels names w s fresh)) (range_with_len 0 (length names)) ≤ sum_by length fresh
from_senders channels names s [] distinct = let no_post = total_zero (λ w. 0) (range_with_len 0 (length names)) (λ w. refl) in omega arith
from_senders channels names s (posts ∷ fresh) distinct =
    let slots : List ℕ = range_with_len 0 (length names) in
    let here : total (λ w. length (sent channels names s w posts)) slots ≤ total (λ w. length (filter (is_to (name names w)) posts)) slots =
    total_le (λ w. length (sent channels names s w posts)) (λ w. length (filter (is_to (name names w)) posts)) slots (λ w. heard_le (is_declared channels s w) (value_of (name names s)) (filter (is_to (name names w)) posts)) in
    let few : total (λ w. length (filter (is_to (name names w)) posts)) slots ≤ length posts = all_posts names posts distinct in
    let later : total (λ w. length (news_from channels names w (s + 1) fresh)) slots ≤ sum_by length fresh = from_senders channels names (s + 1) fresh distinct in
    let both : total (λ w. length (sent channels names s w posts) + length (news_from channels names w (s + 1) fresh)) slots ≡ total (λ w. length (sent channels names s w posts)) slots + total (λ w. length (news_from channels names w (s + 1) fresh)) slots =
    total_add (λ w. length (sent channels names s w posts)) (λ w. length (news_from channels names w (s + 1) fresh)) slots in
    let same : total (λ w. length (news_from channels names w s (posts ∷ fresh))) slots ≡ total (λ w. length (sent channels names s w posts) + length (news_from channels names w (s + 1) fresh)) slots =
    total_same (λ w. length (news_from channels names w s (posts ∷ fresh))) (λ w. length (sent channels names s w posts) + length (news_from channels names w (s + 1) fresh)) slots (λ w. length-append (sent channels names s w posts) (news_from channels names w (s + 1) fresh)) in
    let sums : sum_by length (posts ∷ fresh) ≡ length posts + sum_by length fresh = sum_by-cons length posts fresh in
    omega arith

lengths : (f : ℕ → List (List ℕ)) (ws : List ℕ) → sum_by length (map f ws) ≡ total (λ w. length (f w)) ws
lengths f [] = refl
lengths f (w ∷ ws) = sum_by-cons length (f w) (map f ws) ∙ ap (λ n. length (f w) + n) (lengths f ws)

pub events : (channels : List (ℕ × ℕ)) (names : List (List ℕ)) (fresh : List (List Post)) → IsDistinct bytes_eq names → sum_by length (all_news channels names fresh) ≤ sum_by length fresh
events channels names fresh distinct =
    let same : sum_by length (all_news channels names fresh) ≡ total (λ w. length (news channels names fresh w)) (range_with_len 0 (length names)) = lengths (news channels names fresh) (range_with_len 0 (length names)) in
    let few : total (λ w. length (news channels names fresh w)) (range_with_len 0 (length names)) ≤ sum_by length fresh = from_senders channels names 0 fresh distinct in
    omega arith
