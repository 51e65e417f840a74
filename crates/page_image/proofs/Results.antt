-- What holds of an answer.
use Rattle.std.specs.Prelude.{IsErrAnd}
use Rattle.std.proofs.Common.{◌≡◌, sym, subst, Result, Ok, Err, OnOk, OnErr, IfOk, IfErr}

pub ok_then : {T E : Type 0} (r : Result T E) (P Q : Type 0) → (P → Q) → OnOk r P → OnOk r Q
ok_then (Ok x) P Q f h = f h
ok_then (Err x) P Q f h = h

pub err_then : {T E : Type 0} (r : Result T E) (P Q : Type 0) → (P → Q) → OnErr r P → OnErr r Q
err_then (Ok x) P Q f h = h
err_then (Err x) P Q f h = f h

pub either : {T E : Type 0} (r : Result T E) (P Q R : Type 0) → (P → R) → (Q → R) → OnOk r P → OnErr r Q → R
either (Ok x) P Q R f g p q = f p
either (Err x) P Q R f g p q = g q

pub if_ok_then : {T E : Type 0} (r : Result T E) (P Q : T → Type 0) → ((x : T) → P x → Q x) → IfOk r P → IfOk r Q
if_ok_then (Ok x) P Q f h = f x h
if_ok_then (Err x) P Q f h = h

pub if_err_then : {T E : Type 0} (r : Result T E) (P Q : E → Type 0) → ((x : E) → P x → Q x) → IfErr r P → IfErr r Q
if_err_then (Ok x) P Q f h = h
if_err_then (Err x) P Q f h = f x h

pub ok_both : {T E : Type 0} (r : Result T E) (A B Q : Type 0) → (A → B → Q) → OnOk r A → OnOk r B → OnOk r Q
ok_both (Ok x) A B Q f a b = f a b
ok_both (Err x) A B Q f a b = a

pub err_both : {T E : Type 0} (r : Result T E) (A B Q : Type 0) → (A → B → Q) → OnErr r A → OnErr r B → OnErr r Q
err_both (Ok x) A B Q f a b = a
err_both (Err x) A B Q f a b = f a b

-- what does not speak of what is given
pub if_ok_on : {T E : Type 0} (r : Result T E) (P : T → Type 0) (Q : Type 0) → ((x : T) → P x → Q) → IfOk r P → OnOk r Q
if_ok_on (Ok x) P Q f h = f x h
if_ok_on (Err x) P Q f h = h

pub if_either : {T E : Type 0} (r : Result T E) (P : T → Type 0) (Q R : Type 0) → ((x : T) → P x → R) → (Q → R) → IfOk r P → OnErr r Q → R
if_either (Ok x) P Q R f g p q = f x p
if_either (Err x) P Q R f g p q = g q

-- an error that is handed on as it is
pub handed_on : {T E : Type 0} (r : Result T E) (e : E) (P : E → Type 0) → IsErrAnd r (λ y. y ≡ e) → P e → IfErr r P
handed_on (Ok x) e P q h = absurd q
handed_on (Err x) e P q h = subst P (sym q) h

pub err_holds : {T E : Type 0} (r : Result T E) (e : E) (P : Type 0) → IsErrAnd r (λ y. y ≡ e) → P → OnErr r P
err_holds (Ok x) e P q h = absurd q
err_holds (Err x) e P q h = h
