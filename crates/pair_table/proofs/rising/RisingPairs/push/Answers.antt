use Rattle.std.proofs.Common.{◌≡◌, ◌∙◌, ◌++◌, ◌∷◌, [], ℕ, List, ap, arith, eqb, length, length-append, subst, sym}
use Rattle.std.specs.List.{IsDistinct}
use Rattle.std.specs.Map.{keys_of, lookup}
use Rattle.std.proofs.lemmas.List.{map-append}
use Rattle.std.proofs.lemmas.Map.Entries.{length-keys_of}
use Rattle.pair_table.specs.Pairs.{Pairs}
use Rattle.pair_table.specs.Rising.{IsRising}
use Rattle.pair_table.proofs.Places.{distinct_push, insert_last}
use Rattle.pair_table.proofs.Rises.{rising_more}
use Rattle.pair_table.proofs.rising.RisingPairs.push.Goals as goal

pub next_upto-self-inside-requires : goal.next_upto-self-inside-requires
next_upto-self-inside-requires g c = omega (arith, c.self.invariant.within, length-keys_of c.self.inside.list.items, c.len-len.ensures, c.self.inside.list.ok.0)

pub invariant_of-self-2 : goal.invariant_of-self-2
invariant_of-self-2 g c =
    let es = c.self.inside.list.items in
    let ks = keys_of es in
    let n = c.args.n in
    let none = ap (λ (p : Pairs g.row.V.Denot). lookup (eqb n) p.entries) c.self.view_is ∙ c.requires in
    let items = c.push_reserved.ensures.items ∙ ap (λ (l : List (ℕ × g.row.V.Denot)). l ++ (n, c.args.value) ∷ []) c.in_ok-make_room.ensures.items in
    let keys : keys_of (es ++ (n, c.args.value) ∷ []) ≡ ks ++ n ∷ [] = map-append (λ (e : ℕ × g.row.V.Denot). e.0) es ((n, c.args.value) ∷ []) in
    let len : c.len-len.result ≡ length ks = omega (arith, length-keys_of es, c.len-len.ensures, c.self.inside.list.ok.0) in
    let more = c.next_upto-self-inside.ensures in
    subst (λ (l : List (ℕ × g.row.V.Denot)). IsRising c.next_upto-self-inside.result (keys_of l)) (sym items)
    (subst (IsRising c.next_upto-self-inside.result) (sym keys)
    (rising_more c.self.inside.upto c.next_upto-self-inside.result ks n c.self.invariant (subst (IsDistinct eqb) keys (distinct_push n c.args.value es c.self.invariant.differ none)) (length-append ks (n ∷ [])) (omega (arith, more.within, len))
    more.near (λ p lt le. more.last p lt le ∙ len)))

pub returns-clause-entries : goal.returns-clause-entries
returns-clause-entries g c =
    c.push_reserved.ensures.items
    ∙ ap (λ (l : List (ℕ × g.row.V.Denot)). l ++ (c.args.n, c.args.value) ∷ []) (c.in_ok-make_room.ensures.items ∙ ap (λ (p : Pairs g.row.V.Denot). p.entries) c.self.view_is)
    ∙ insert_last c.args.n c.args.value c.args.self.now.entries c.requires

pub returns-clause-spare : goal.returns-clause-spare
returns-clause-spare g c =
    let was = ap (λ (p : Pairs g.row.V.Denot). p.spare) c.self.view_is in
    let long = ap length c.push_reserved.ensures.items ∙ length-append c.make_room.new.list.items ((c.args.n, c.args.value) ∷ []) in
    let same = ap length c.in_ok-make_room.ensures.items in
    omega (arith, was, long, same, c.in_ok-make_room.ensures.capacity, c.push_reserved.ensures.capacity, c.next_upto-self-inside.ensures.grown)
