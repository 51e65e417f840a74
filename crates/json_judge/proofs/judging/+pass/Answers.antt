use Rattle.std.proofs.Common.{◌≡◌, ◌-◌, ◌<◌, [], ◌∷◌, ◌++◌, length, Some, None, refl, ap, ◌∙◌, arith}
use Rattle.std.proofs.lemmas.Result.{IfOk-weaker}
use Rattle.json.specs.Token.{Token}
use Rattle.json.specs.Json.{parse_map, after_end_array, read_key, items, value}
use Rattle.json.specs.Reads.{token_of}
use Rattle.json.proofs.Grammar.{value_is, read_key-shorter}
use Rattle.serde_json.specs.Data.{no_items, no_members, put}
use Rattle.serde_json.specs.Read.{of_json, of_items, converted}
use Rattle.json_judge.proofs.Kept.{all_before, all_last, held_none, items_refused, key_put, keys_put, keys_refused}
use Rattle.json_judge.proofs.Passed.{array_refused, deep_array, deep_object, either_true, number_refused, object_refused, on_err, on_err_weaker, passed, passes_array, passes_number, passes_object}
use Rattle.json_judge.proofs.Turns.{item_read, item_refused, items_over, member_read, member_refused, key_refused, members_over, items_before, one_more_item, none_before}
use Rattle.json_judge.proofs.judging.+pass.Goals as goal

-- ## Values

pub pass_value-returns-in_err-token-clause-err : goal.pass_value-returns-in_err-token-clause-err
pass_value-returns-in_err-token-clause-err t c =
    let empty : c.args.reader.now ≡ [] = grind arith in
    on_err c.from_residual.result (ap (converted of_json) (ap (value c.args.depth) empty ∙ value_is c.args.depth []))

pub pass_value-returns-in-String-clause-ok : goal.pass_value-returns-in-String-clause-ok
pass_value-returns-in-String-clause-ok t c =
    let first : c.args.reader.now ≡ token_of c.in_ok-token.token ∷ c.next.new.self = grind arith in
    passed c.args.depth c.args.reader.now c.next.new.self _ (ap (converted of_json) (ap (value c.args.depth) (first ∙ ap (λ k. token_of k ∷ c.next.new.self) c.in-String.is) ∙ value_is c.args.depth _))

pub pass_value-returns-in-Bool-clause-ok : goal.pass_value-returns-in-Bool-clause-ok
pass_value-returns-in-Bool-clause-ok t c =
    let first : c.args.reader.now ≡ token_of c.in_ok-token.token ∷ c.next.new.self = grind arith in
    passed c.args.depth c.args.reader.now c.next.new.self _ (ap (converted of_json) (ap (value c.args.depth) (first ∙ ap (λ k. token_of k ∷ c.next.new.self) c.in-Bool.is) ∙ value_is c.args.depth _))

pub pass_value-returns-in-Null-clause-ok : goal.pass_value-returns-in-Null-clause-ok
pass_value-returns-in-Null-clause-ok t c =
    let first : c.args.reader.now ≡ token_of c.in_ok-token.token ∷ c.next.new.self = grind arith in
    passed c.args.depth c.args.reader.now c.next.new.self _ (ap (converted of_json) (ap (value c.args.depth) (first ∙ ap (λ k. token_of k ∷ c.next.new.self) c.in-Null.is) ∙ value_is c.args.depth _))

pub pass_value-returns-then-is_in_range-clause-ok : goal.pass_value-returns-then-is_in_range-clause-ok
pass_value-returns-then-is_in_range-clause-ok t c =
    let first : c.args.reader.now ≡ token_of c.in_ok-token.token ∷ c.next.new.self = grind arith in
    passes_number c.args.depth c.args.reader.now c.next.new.self c.in-Number.text.now (first ∙ ap (λ k. token_of k ∷ c.next.new.self) c.in-Number.is) (grind arith)

pub pass_value-returns-else-is_in_range-clause-err : goal.pass_value-returns-else-is_in_range-clause-err
pass_value-returns-else-is_in_range-clause-err t c =
    let first : c.args.reader.now ≡ token_of c.in_ok-token.token ∷ c.next.new.self = grind arith in
    number_refused c.args.depth c.args.reader.now c.next.new.self c.in-Number.text.now (first ∙ ap (λ k. token_of k ∷ c.next.new.self) c.in-Number.is) (grind arith)

pub pass_value-returns-in-EndObject-clause-err : goal.pass_value-returns-in-EndObject-clause-err
pass_value-returns-in-EndObject-clause-err t c =
    let first : c.args.reader.now ≡ token_of c.in_ok-token.token ∷ c.next.new.self = grind arith in
    let none : value c.args.depth c.args.reader.now ≡ None = rw (value_is c.args.depth c.args.reader.now, first) (grind arith) in
    ap (converted of_json) none

pub pass_value-returns-then-depth-eq0-clause-err : goal.pass_value-returns-then-depth-eq0-clause-err
pass_value-returns-then-depth-eq0-clause-err t c =
    let first : c.args.reader.now ≡ token_of c.in_ok-token.token ∷ c.next.new.self = grind arith in
    deep_array c.args.depth c.args.reader.now c.next.new.self (first ∙ ap (λ k. token_of k ∷ c.next.new.self) c.in-BeginArray.is) (omega arith)

pub pass_value-returns-then-depth-eq0-2-clause-err : goal.pass_value-returns-then-depth-eq0-2-clause-err
pass_value-returns-then-depth-eq0-2-clause-err t c =
    let first : c.args.reader.now ≡ token_of c.in_ok-token.token ∷ c.next.new.self = grind arith in
    deep_object c.args.depth c.args.reader.now c.next.new.self (first ∙ ap (λ k. token_of k ∷ c.next.new.self) c.in-BeginObject.is) (omega arith)

pub pass_value-returns-else-depth-eq0-clause-ok : goal.pass_value-returns-else-depth-eq0-clause-ok
pass_value-returns-else-depth-eq0-clause-ok t c =
    let first : c.args.reader.now ≡ token_of c.in_ok-token.token ∷ c.next.new.self = grind arith in
    let is : c.args.reader.now ≡ Token.begin_array ∷ c.next.new.self = first ∙ ap (λ k. token_of k ∷ c.next.new.self) c.in-BeginArray.is in
    let deep : 0 < c.args.depth = omega arith in
    IfOk-weaker c.pass_items.result _ _ (λ b h. passes_array c.args.depth c.args.reader.now c.next.new.self c.pass_items.new.reader b is deep h) c.pass_items.ensures.ok

pub pass_value-returns-else-depth-eq0-clause-err : goal.pass_value-returns-else-depth-eq0-clause-err
pass_value-returns-else-depth-eq0-clause-err t c =
    let first : c.args.reader.now ≡ token_of c.in_ok-token.token ∷ c.next.new.self = grind arith in
    let is : c.args.reader.now ≡ Token.begin_array ∷ c.next.new.self = first ∙ ap (λ k. token_of k ∷ c.next.new.self) c.in-BeginArray.is in
    let deep : 0 < c.args.depth = omega arith in
    on_err_weaker c.pass_items.result (array_refused c.args.depth c.args.reader.now c.next.new.self is deep) c.pass_items.ensures.err

pub pass_value-returns-else-depth-eq0-2-clause-ok : goal.pass_value-returns-else-depth-eq0-2-clause-ok
pass_value-returns-else-depth-eq0-2-clause-ok t c =
    let first : c.args.reader.now ≡ token_of c.in_ok-token.token ∷ c.next.new.self = grind arith in
    let is : c.args.reader.now ≡ Token.begin_object ∷ c.next.new.self = first ∙ ap (λ k. token_of k ∷ c.next.new.self) c.in-BeginObject.is in
    let deep : 0 < c.args.depth = omega arith in
    IfOk-weaker c.pass_members.result _ _ (λ b h. passes_object c.args.depth c.args.reader.now c.next.new.self c.pass_members.new.reader b is deep h) c.pass_members.ensures.ok

pub pass_value-returns-else-depth-eq0-2-clause-err : goal.pass_value-returns-else-depth-eq0-2-clause-err
pass_value-returns-else-depth-eq0-2-clause-err t c =
    let first : c.args.reader.now ≡ token_of c.in_ok-token.token ∷ c.next.new.self = grind arith in
    let is : c.args.reader.now ≡ Token.begin_object ∷ c.next.new.self = first ∙ ap (λ k. token_of k ∷ c.next.new.self) c.in-BeginObject.is in
    let deep : 0 < c.args.depth = omega arith in
    on_err_weaker c.pass_members.result (object_refused c.args.depth c.args.reader.now c.next.new.self is deep) c.pass_members.ensures.err

-- ## Items

pub pass_items-items-init : goal.pass_items-items-init
pass_items-items-init t c =
    let all = converted of_items (items (value c.args.depth) (length c.args.reader.now) c.args.reader.now) in
    (length c.args.reader.now, [], omega arith, none_before all, omega arith, λ e. absurd (cc))

pub pass_items-returns-in_err-inner-clause-err : goal.pass_items-returns-in_err-inner-clause-err
pass_items-returns-in_err-inner-clause-err t c =
    let p = value c.args.depth in
    let l = c.items in
    let n = l.invariant.0 in
    let ds = l.invariant.1 in
    let going : (after_end_array l.reader ≡ None) × (c.take_end_array.new.self ≡ l.reader) = grind arith in
    on_err c.from_residual.result (l.invariant.3 ∙ ap (parse_map (items_before ds)) (item_refused p n l.reader going.0 (rw (← going.1) c.in_err-inner.ensures.err)))

pub pass_items-items-preserved : goal.pass_items-items-preserved
pass_items-items-preserved t c =
    let p = value c.args.depth in
    let l = c.items in
    let n = l.invariant.0 in
    let ds = l.invariant.1 in
    let going : (after_end_array l.reader ≡ None) × (c.take_end_array.new.self ≡ l.reader) = grind arith in
    let done = c.in_ok-inner.ensures in
    let d = done.ok.given in
    let r = c.pass_value.new.reader in
    let less : length r < length l.reader = rw (← going.1) done.shorter in
    let turn = item_read p n l.reader r d (omega (arith, l.invariant.2)) going.0 (rw (← going.1) done.ok.read) in (
      n - 1,
      ds ++ d ∷ [],
      omega (arith, l.invariant.2),
      l.invariant.3 ∙ ap (parse_map (items_before ds)) turn ∙ one_more_item ds d _,
      omega (arith, l.invariant.4),
      λ e. either_true l.refused c.in_ok-inner.inner c.either-refused.result c.either-refused.ensures e (λ h. all_before ds d (l.invariant.5 h)) (λ h. all_last ds d (done.ok.names h)),
    )

pub pass_items-returns-clause-ok : goal.pass_items-returns-clause-ok
pass_items-returns-clause-ok t c =
    let p = value c.args.depth in
    let l = c.items in
    let n = l.invariant.0 in
    let ds = l.invariant.1 in
    let r = c.take_end_array.new.self in
    record {
      given = items_before ds no_items;
      read = l.invariant.3 ∙ ap (parse_map (items_before ds)) (items_over p n l.reader r l.invariant.2 (grind arith));
      names = λ e. items_refused ds no_items (l.invariant.5 e);
    }

-- ## Members

pub pass_members-members-init : goal.pass_members-members-init
pass_members-members-init t c = (length c.args.reader.now, no_members, omega arith, refl, omega arith, (λ e. absurd (cc)), held_none c.new-held.result no_members c.new-held.ensures.empty)

pub pass_members-returns-in_err-name-clause-err : goal.pass_members-returns-in_err-name-clause-err
pass_members-returns-in_err-name-clause-err t c =
    let l = c.members in
    on_err c.from_residual.result (l.invariant.3 ∙ key_refused (value c.args.depth) l.invariant.1 l.invariant.0 l.reader c.in_err-name.ensures.value)

pub pass_members-returns-in_err-inner-clause-err : goal.pass_members-returns-in_err-inner-clause-err
pass_members-returns-in_err-inner-clause-err t c =
    let l = c.members in
    let k = c.in-Some.name.now in
    let s = c.next_key.new.self in
    let named : read_key l.reader ≡ Some (Some k, s) = grind arith in
    on_err c.from_residual-in_err-inner.result (l.invariant.3 ∙ member_refused (value c.args.depth) l.invariant.1 l.invariant.0 k l.reader s named c.in_err-inner.ensures.err)

pub pass_members-members-preserved : goal.pass_members-members-preserved
pass_members-members-preserved t c =
    let p = value c.args.depth in
    let l = c.members in
    let n = l.invariant.0 in
    let old = l.invariant.1 in
    let k = c.in-Some.name.now in
    let s = c.next_key.new.self in
    let named : read_key l.reader ≡ Some (Some k, s) = grind arith in
    let done = c.in_ok-inner.ensures in
    let d = done.ok.given in
    let r = c.pass_value.new.reader in
    let less = read_key-shorter l.reader (Some k) s named in
    let lesser = done.shorter in (
      n - 1,
      put k d old,
      omega (arith, l.invariant.2),
      l.invariant.3 ∙ member_read p old n k l.reader s r d (omega (arith, l.invariant.2)) named done.ok.read,
      omega (arith, l.invariant.4),
      (λ e. either_true l.refused c.is_refused.result c.either-refused.result c.either-refused.ensures e (λ h. keys_put k d old (l.invariant.5 h)) (λ h. key_put k d old (c.is_refused.ensures h))),
      c.hold.ensures old d done.ok.names l.invariant.6,
    )

pub pass_members-returns-clause-ok : goal.pass_members-returns-clause-ok
pass_members-returns-clause-ok t c =
    let p = value c.args.depth in
    let l = c.members in
    let n = l.invariant.0 in
    let old = l.invariant.1 in
    record {
      given = old;
      read = l.invariant.3 ∙ members_over p old n l.reader c.next_key.new.self l.invariant.2 (grind arith);
      names = λ e. either_true l.refused c.is_held.result c.either.result c.either.ensures e (λ h. keys_refused old (l.invariant.5 h)) (c.is_held.ensures old l.invariant.6);
    }
