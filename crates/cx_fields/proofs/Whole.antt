-- A whole file is read as it is spelled.
use Rattle.std.proofs.Common.{◌≡◌, ℕ, ◌+◌, ◌≤◌, Bool, true, false, cond, eqb, List, [], ◌++◌, length, Result, Ok, Err, refl, sym, ap, subst, ◌∙◌, arith}
use Rattle.std.proofs.lemmas.Bool.{eqb-true}
use Rattle.std.proofs.lemmas.List.{append-nil, nil_from_length}
use Rattle.cx_fields.specs.declared.bounds.Bounds.{Bounds}
use Rattle.cx_fields.specs.declared.fault.BytesFault.{BytesFault}
use Rattle.cx_fields.specs.declared.fault.Why.TheVariants.{Trailing}
use Rattle.cx_fields.specs.Reading.{Unread, Reading, continued, fault, ended, from_start}
use Rattle.cx_fields.specs.Parts.{unbounded, whole_of}
use Rattle.cx_fields.proofs.Format.{IsBytes, IsFormat, ok_is, continued_ok}

abbrev done : {A : Type 0} → A → Result A BytesFault
done x = Ok x

ended_ok : {A : Type 0} (r : Result (A × Unread) BytesFault) (v : A) → ended r ≡ Ok v → (rest : Unread) × (r ≡ Ok (v, rest)) × (rest.bytes ≡ [])
ended_ok {A} (Ok read) v e = by_length (eqb (length read.1.bytes) 0) refl e where
  by_length : (b : Bool) → eqb (length read.1.bytes) 0 ≡ b → cond b (Ok read.0) (fault read.1.at Trailing) ≡ Ok v → (rest : Unread) × (done read ≡ done (v, rest)) × (rest.bytes ≡ [])
  by_length true t e = (read.1, ap (λ (x : A). done (x, read.1)) (ok_is read.0 v e), nil_from_length read.1.bytes (eqb-true _ _ t))
  by_length false t e = absurd cc
ended_ok (Err f) v e = absurd cc

-- what a whole file holds
pub record Spelled {A : Type 0} (spell : A → List ℕ) (Holds : A → Type 0) (bytes : List ℕ) (value : A) : Type 0 where
  pub same : bytes ≡ spell value
  pub holds : Holds value
  pub short : length (spell value) ≤ 134217728

pub whole_takes : {A : Type 0} (file : Bounds → Reading A) (tables : A → Bounds) (spell : A → List ℕ) (Holds : Bounds → A → Type 0)
    → ((bounds : Bounds) → IsFormat (file bounds) spell (Holds bounds)) → ((bounds : Bounds) (value : A) → Holds bounds value → Holds unbounded value)
    → (bytes : List ℕ) (value : A) → IsBytes bytes → whole_of file tables bytes ≡ Ok value → Spelled spell (λ v. Holds (tables v) v) bytes value
unfolding whole_of
whole_takes {A} file tables spell Holds format looser bytes value fits e =
    let start = from_start bytes in
    let last = ended_ok (continued (file unbounded start) (λ v rest. file (tables v) start)) value e in
    let b = continued_ok (file unbounded start) (λ v rest. file (tables v) start) (value, last.0) last.1 in
    let x = b.0 in
    let second = (format (tables x.0)).takes start (value, last.0) fits b.2 in
    let same : bytes ≡ spell value = second.0.parts ∙ ap (λ (rest : List ℕ). spell value ++ rest) last.2 ∙ append-nil (spell value) in
    let short : length (spell value) ≤ 134217728 = omega (arith, second.0.place, second.0.within (omega arith)) in
    let again : file unbounded (from_start (spell value ++ [])) ≡ Ok (value, record { at = 0 + length (spell value); bytes = [] }) = (format unbounded).again value 0 [] (looser (tables x.0) value second.1) (omega arith) in
    let here : file unbounded start ≡ Ok (value, record { at = 0 + length (spell value); bytes = [] }) = ap (λ (text : List ℕ). file unbounded (from_start text)) (same ∙ sym (append-nil (spell value))) ∙ again in
    let one : x.0 ≡ value = ap (λ (y : A × Unread). y.0) (ok_is x (value, record { at = 0 + length (spell value); bytes = [] }) (sym b.1 ∙ here)) in
    record { same = same; holds = subst (λ (v : A). Holds (tables v) value) one second.1; short = short }

pub whole_again : {A : Type 0} (file : Bounds → Reading A) (tables : A → Bounds) (spell : A → List ℕ) (Holds : Bounds → A → Type 0)
    → ((bounds : Bounds) → IsFormat (file bounds) spell (Holds bounds)) → ((bounds : Bounds) (value : A) → Holds bounds value → Holds unbounded value)
    → (value : A) → Holds (tables value) value → length (spell value) ≤ 134217728 → whole_of file tables (spell value) ≡ Ok value
unfolding whole_of
whole_again {A} file tables spell Holds format looser value h short =
    let go : (bytes : List ℕ) → bytes ≡ spell value ++ [] → ended (continued (file unbounded (from_start bytes)) (λ v rest. file (tables v) (from_start bytes))) ≡ Ok value
    = λ bytes e. rw e (rw ((format unbounded).again value 0 [] (looser (tables value) value h) (omega arith)) (rw ((format (tables value)).again value 0 [] h (omega arith)) refl)) in
    go (spell value) (sym (append-nil (spell value)))
