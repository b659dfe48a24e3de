-- A reading and a spelling that are each other's inverse, and the ways to join them.
use Rattle.std.proofs.Common.{◌≡◌, ℕ, zero, suc, ◌+◌, ◌-◌, ◌^◌, ◌<◌, ◌≤◌, Bool, true, false, cond, ltb, List, [], ◌∷◌, ◌++◌, length, get_or, take, drop, Result, Ok, Err, refl, sym, ap, subst, ◌∙◌, append_assoc, arith, inl, inr}
use Rattle.std.specs.Int.{w32, from_be_bytes, to_be_bytes}
use Rattle.std.proofs.lemmas.Bool.{cases_lt, ltb-false, le-ltb}
use Rattle.std.proofs.lemmas.List.{take_at, drop_at, take-append-drop, length-append, length-take, get_or-drop, get_or-take, get_or_past}
use Rattle.std.proofs.lemmas.Nat.{be_bytes_4, from_be_bytes-to_be_bytes_4}
use Rattle.cx_fields.specs.declared.fault.BytesFault.{BytesFault}
use Rattle.cx_fields.specs.declared.fault.Why.{Why}
use Rattle.cx_fields.specs.declared.fault.Why.TheVariants.{Magic, Version, Cut, Limit, Range}
use Rattle.std.specs.Prelude.{⊤, eqb}
use Rattle.std.specs.List.{flat_map, AllByRecursion}
use Rattle.std.proofs.lemmas.List.{nil_from_length}
use Rattle.std.proofs.lemmas.List.Concat.{flat_map-cons}
use Rattle.std.proofs.lemmas.Bool.Decides.{nat_tests}
use Rattle.cx_code.specs.Spelling.{number, flag, text, list}
use Rattle.cx_code.specs.Storable.{IsShort}
use Rattle.cx_fields.specs.Reading.{Unread, Reading, continued, ◌>>=◌, give, fault, allowed, judged, is_between, bytes_at, byte_at, number_at, number_in, byte_in, zero_at, text_at, flag_at, each_at, many_at, list_at, head_at}

abbrev pub IsBytes : List ℕ → Type 0
IsBytes bytes = (i : ℕ) → get_or bytes i 0 < 256

IsBytes-drop : (n : ℕ) (bytes : List ℕ) → IsBytes bytes → IsBytes (drop n bytes)
IsBytes-drop n bytes h i = rw get_or-drop (h (n + i))

pub IsBytes-take : (n : ℕ) (bytes : List ℕ) → IsBytes bytes → IsBytes (take n bytes)
IsBytes-take n bytes h i =
    elim (cases_lt i n) [
      | inl lt ↦ rw (get_or-take n bytes i 0 lt) (h i)
      | inr le ↦ rw (get_or_past (take n bytes) i 0 (omega (arith, length-take n bytes))) (omega arith)
    ]

-- what a reading took from the front
pub record Takes (start : Unread) (text : List ℕ) (rest : Unread) : Type 0 where
  pub parts : start.bytes ≡ text ++ rest.bytes
  pub place : rest.at ≡ start.at + length text
  pub within : start.at ≤ 134217728 → rest.at ≤ 134217728
  pub fits : IsBytes rest.bytes

-- what is read is spelled so, and what is spelled so is read
pub record IsFormat {A : Type 0} (read : Reading A) (spell : A → List ℕ) (Holds : A → Type 0) : Type 0 where
  pub takes : (start : Unread) (x : A × Unread) → IsBytes start.bytes → read start ≡ Ok x → Takes start (spell x.0) x.1 × Holds x.0
  pub again : (value : A) (at : ℕ) (rest : List ℕ) → Holds value → at + length (spell value) ≤ 134217728
      → read (record { at = at; bytes = spell value ++ rest }) ≡ Ok (value, record { at = at + length (spell value); bytes = rest })

abbrev done : {A : Type 0} → A → Result A BytesFault
done x = Ok x

pub ok_is : {A : Type 0} (x y : A) → done x ≡ done y → x ≡ y
ok_is x y e = cc

-- the parts of two steps that did not fail
pub continued_ok : {A B : Type 0} (r : Result (A × Unread) BytesFault) (next : A → Reading B) (y : B × Unread) → continued r next ≡ Ok y
    → (x : A × Unread) × (r ≡ Ok x) × (next x.0 x.1 ≡ Ok y)
continued_ok (Ok x) next y e = (x, refl, e)
continued_ok (Err f) next y e = absurd cc

-- a value that passed its test
allowed_ok : {A : Type 0} (test : A → Bool) (why : Why) (at : ℕ) (r : Result (A × Unread) BytesFault) (y : A × Unread) → allowed test why at r ≡ Ok y
    → (r ≡ Ok y) × (test y.0 ≡ true)
allowed_ok {A} test why at (Ok x) y e = passed (test x.0) refl e where
  passed : (b : Bool) → test x.0 ≡ b → cond b (Ok x) (fault at why) ≡ Ok y → (done x ≡ Ok y) × (test y.0 ≡ true)
  passed true t e = (e, subst (λ (z : A × Unread). test z.0 ≡ true) (ok_is x y e) t)
  passed false t e = absurd cc
allowed_ok test why at (Err f) y e = absurd cc

-- a test that did not fail
pub guard_ok : {A : Type 0} (b : Bool) (d : BytesFault) (x : Result A BytesFault) (y : A) → cond b (Err d) x ≡ Ok y → (b ≡ false) × (x ≡ Ok y)
guard_ok true d x y e = absurd cc
guard_ok false d x y e = (refl, e)

-- ---- the joints

pub finished : {C : Type 0} (made : C) → IsFormat (give made) (λ c. []) (λ c. c ≡ made)
finished {C} made = record {
  takes = λ start x fits e. subst (λ (y : C × Unread). Takes start [] y.1 × (y.0 ≡ made)) (ok_is (made, start) x e)
      (record { parts = refl; place = omega arith; within = λ h. h; fits = fits }, refl);
  again = λ value at rest h le. rw h (ap (λ (n : ℕ). done (made, record { at = n; bytes = rest })) (omega arith));
}

pub followed : {A C : Type 0} {f : Reading A} {s : A → List ℕ} {P : A → Type 0} {k : A → Reading C} {t : C → List ℕ} {Q : A → C → Type 0}
    → IsFormat f s P → (part : C → A) → ((a : A) (c : C) → P a → Q a c → part c ≡ a) → ((a : A) → P a → IsFormat (k a) t (Q a))
    → IsFormat (f >>= k) (λ c. s (part c) ++ t c) (λ c. P (part c) × Q (part c) c)
followed {A} {C} {f} {s} {P} {k} {t} {Q} first part same next = record {
  takes = λ start x fits e.
      let b = continued_ok (f start) k x e in
      let y = b.0 in
      let one = first.takes start y fits b.1 in
      let two = (next y.0 one.1).takes y.1 x one.0.fits b.2 in
      let both : Takes start (s y.0 ++ t x.0) x.1 = record {
        parts = one.0.parts ∙ ap (λ (bytes : List ℕ). s y.0 ++ bytes) two.0.parts ∙ sym (append_assoc (s y.0) (t x.0) x.1.bytes);
        place = omega (arith, one.0.place, two.0.place, length-append (s y.0) (t x.0));
        within = λ h. two.0.within (one.0.within h);
        fits = two.0.fits;
      } in
      subst (λ (a : A). Takes start (s a ++ t x.0) x.1 × (P a × Q a x.0)) (sym (same y.0 x.0 one.1 two.1)) (both, (one.1, two.1));
  again = λ value at rest h le.
      let p = part value in
      let len = length-append (s p) (t value) in
      let middle = at + length (s p) in
      let one = first.again p at (t value ++ rest) h.0 (omega (arith, len)) in
      let two = (next p h.0).again value middle rest h.1 (omega (arith, len)) in
      let regrouped : (s p ++ t value) ++ rest ≡ s p ++ (t value ++ rest) = append_assoc (s p) (t value) rest in
      let place : middle + length (t value) ≡ at + length (s p ++ t value) = omega (arith, len) in
      let go : (bytes : List ℕ) → bytes ≡ s p ++ (t value ++ rest) → (f >>= k) (record { at = at; bytes = bytes }) ≡ Ok (value, record { at = middle + length (t value); bytes = rest })
      = λ bytes e. rw e (rw one two) in
      go ((s p ++ t value) ++ rest) regrouped ∙ ap (λ (n : ℕ). done (value, record { at = n; bytes = rest })) place;
}

pub restated : {A : Type 0} {f : Reading A} {s s' : A → List ℕ} {P P' : A → Type 0}
    → IsFormat f s P → ((a : A) → P a → s a ≡ s' a) → ((a : A) → P a → P' a) → ((a : A) → P' a → P a) → IsFormat f s' P'
restated {A} {f} {s} {s'} {P} {P'} format same to from = record {
  takes = λ start x fits e.
      let h = format.takes start x fits e in
      (subst (λ (text : List ℕ). Takes start text x.1) (same x.0 h.1) h.0, to x.0 h.1);
  again = λ value at rest h le.
      let p = from value h in
      subst (λ (text : List ℕ). at + length text ≤ 134217728 → f (record { at = at; bytes = text ++ rest }) ≡ Ok (value, record { at = at + length text; bytes = rest }))
      (same value p) (λ room. format.again value at rest p room) le;
}

pub judged_format : {A : Type 0} {f : Reading A} {s : A → List ℕ} {P : A → Type 0} (test : A → Bool) (why : Why) → IsFormat f s P → IsFormat (judged test why f) s (λ a. P a × (test a ≡ true))
judged_format {A} {f} {s} {P} test why format = record {
  takes = λ start x fits e.
      let b = allowed_ok test why start.at (f start) x e in
      let h = format.takes start x fits b.0 in
      (h.0, (h.1, b.1));
  again = λ value at rest h le. rw (format.again value at rest h.0 le) (rw h.1 refl);
}

-- ---- bytes

pub bytes_format : (count : ℕ) → IsFormat (bytes_at count) (λ bytes. bytes) (λ bytes. length bytes ≡ count)
unfolding bytes_at
bytes_format count = record {
  takes = λ start x fits e.
      let rest : Unread = record { at = start.at + count; bytes = drop count start.bytes } in
      let g = guard_ok (ltb (length start.bytes) count) (record { at = start.at; why = Cut }) (cond (ltb 134217728 (start.at + count)) (fault start.at Limit) (Ok (take count start.bytes, rest))) x e in
      let l = guard_ok (ltb 134217728 (start.at + count)) (record { at = start.at; why = Limit }) (Ok (take count start.bytes, rest)) x g.1 in
      let long : count ≤ length start.bytes = ltb-false _ _ g.0 in
      let room : start.at + count ≤ 134217728 = ltb-false _ _ l.0 in
      let len : length (take count start.bytes) ≡ count = omega (arith, length-take count start.bytes) in
      subst (λ (y : List ℕ × Unread). Takes start y.0 y.1 × (length y.0 ≡ count)) (ok_is (take count start.bytes, rest) x l.1)
      (record { parts = sym (take-append-drop count start.bytes); place = omega (arith, len); within = λ h. room; fits = IsBytes-drop count start.bytes fits }, len);
  again = λ value at rest h le.
      let long : ltb (length (value ++ rest)) count ≡ false = le-ltb _ _ (omega (arith, length-append value rest)) in
      let room : ltb 134217728 (at + count) ≡ false = le-ltb _ _ (omega arith) in
      rw (long, room, take_at value rest count h, drop_at value rest count h) (rw h refl);
}

IsBytes-front : (a b : List ℕ) → IsBytes (a ++ b) → IsBytes a
IsBytes-front a b h = rw (take_at a b (length a) refl) at (IsBytes-take (length a) (a ++ b) h)

one_byte : (bytes : List ℕ) → length bytes ≡ 1 → get_or bytes 0 0 ∷ [] ≡ bytes
one_byte [] len = absurd cc
one_byte (b ∷ []) len = refl
one_byte (b ∷ c ∷ bytes) len = absurd (omega (arith, len))

pub byte_format : IsFormat byte_at (λ b. b ∷ []) (λ b. ⊤)
unfolding byte_at
byte_format = record {
  takes = λ start x fits e.
      let b = continued_ok (bytes_at 1 start) (λ bytes. give (get_or bytes 0 0)) x e in
      let one = (bytes_format 1).takes start b.0 fits b.1 in
      subst (λ (y : ℕ × Unread). Takes start (y.0 ∷ []) y.1 × ⊤) (ok_is (get_or b.0.0 0 0, b.0.1) x b.2)
      (subst (λ (text : List ℕ). Takes start text b.0.1) (sym (one_byte b.0.0 one.1)) one.0, tt);
  again = λ value at rest h le. rw ((bytes_format 1).again (value ∷ []) at rest refl le) refl;
}

pub number_format : IsFormat number_at number (λ n. n < 2 ^ 32)
unfolding number_at number
number_format = record {
  takes = λ start x fits e.
      let b = continued_ok (bytes_at 4 start) (λ bytes. give (from_be_bytes w32 bytes)) x e in
      let one = (bytes_format 4).takes start b.0 fits b.1 in
      let small : IsBytes b.0.0 = IsBytes-front b.0.0 b.0.1.bytes (subst IsBytes one.0.parts fits) in
      let same : to_be_bytes w32 (from_be_bytes w32 b.0.0) ≡ b.0.0 = be_bytes_4 b.0.0 _ one.1 small refl in
      subst (λ (y : ℕ × Unread). Takes start (to_be_bytes w32 y.0) y.1 × (y.0 < 2 ^ 32)) (ok_is (from_be_bytes w32 b.0.0, b.0.1) x b.2)
      (subst (λ (text : List ℕ). Takes start text b.0.1) (sym same) one.0, omega (arith, small 0, small 1, small 2, small 3));
  again = λ value at rest h le. rw ((bytes_format 4).again (to_be_bytes w32 value) at rest refl le) (rw (from_be_bytes-to_be_bytes_4 value h) refl);
}

-- ---- numbers within a range, and texts

pub record IsIn (low end n : ℕ) : Type 0 where
  pub from : low ≤ n
  pub below : n < end

-- an index is within its bound, and of 32 bits
abbrev pub IsWithin : ℕ → ℕ → Type 0
IsWithin end n = IsIn 0 end n × (n < 2 ^ 32)

pub within : (end n : ℕ) → n < end → n < 2 ^ 32 → IsWithin end n
within end n below word = (record { from = omega arith; below = below }, word)

pub looser : (end n : ℕ) → IsWithin end n → IsWithin (2 ^ 32) n
looser end n h = within (2 ^ 32) n h.1 h.1

is_in : (low end n : ℕ) → is_between low end n ≡ true → IsIn low end n
is_in low end n h = record { from = grind (arith, nat_tests); below = grind (arith, nat_tests) }

passes : (low end n : ℕ) → IsIn low end n → is_between low end n ≡ true
passes low end n h = grind (arith, nat_tests, h.from, h.below)

pub number_in_format : (low end : ℕ) (why : Why) → IsFormat (number_in low end why) number (λ n. IsIn low end n × (n < 2 ^ 32))
unfolding number_in
number_in_format low end why = restated (judged_format (is_between low end) why number_format) (λ n h. refl) (λ n h. (is_in low end n h.1, h.0)) (λ n h. (h.1, passes low end n h.0))

pub byte_in_format : (low end : ℕ) (why : Why) → IsFormat (byte_in low end why) (λ b. b ∷ []) (IsIn low end)
unfolding byte_in
byte_in_format low end why = restated (judged_format (is_between low end) why byte_format) (λ n h. refl) (λ n h. is_in low end n h.1) (λ n h. (tt, passes low end n h))

pub zero_format : IsFormat zero_at number (λ n. n ≡ 0)
unfolding zero_at
zero_format = restated (number_in_format 0 1 Range) (λ n h. refl) (λ n h. omega (arith, h.0.below)) (λ n h. (record { from = omega arith; below = omega arith }, omega arith))

pub text_format : IsFormat text_at text IsShort
unfolding text_at
text_format = restated (followed (number_in_format 0 134217729 Limit) (λ bytes. length bytes) (λ count bytes p h. h) (λ count h. bytes_format count))
    (λ bytes h. refl)
    (λ bytes h. omega (arith, h.0.0.below))
    (λ bytes h. ((record { from = omega arith; below = omega arith }, omega arith), refl))

one_flag : (b : ℕ) → IsIn 0 2 b → flag (eqb b 1) ≡ b ∷ []
one_flag zero h = refl
one_flag (suc zero) h = refl
one_flag (suc (suc b)) h = absurd (omega (arith, h.below))

pub flag_format : IsFormat flag_at flag (λ b. ⊤)
unfolding flag_at
flag_format = record {
  takes = λ start x fits e.
      let b = continued_ok (byte_in 0 2 Range start) (λ value. give (eqb value 1)) x e in
      let one = (byte_in_format 0 2 Range).takes start b.0 fits b.1 in
      subst (λ (y : Bool × Unread). Takes start (flag y.0) y.1 × ⊤) (ok_is (eqb b.0.0 1, b.0.1) x b.2)
      (subst (λ (text : List ℕ). Takes start text b.0.1) (sym (one_flag b.0.0 one.1)) one.0, tt);
  again = elim [
    | true ↦ λ at rest h le. rw ((byte_in_format 0 2 Range).again 1 at rest (record { from = omega arith; below = omega arith }) le) refl
    | false ↦ λ at rest h le. rw ((byte_in_format 0 2 Range).again 0 at rest (record { from = omega arith; below = omega arith }) le) refl
  ];
}

-- ---- lists

-- each value holds with the room that those before it left
abbrev pub HoldsEach : {A : Type 0} → (A → ℕ) → (ℕ → A → Type 0) → ℕ → List A → Type 0
HoldsEach weight P room [] = ⊤
HoldsEach weight P room (x ∷ xs) = P room x × HoldsEach weight P (room - weight x) xs

each_again : {A : Type 0} (weight : A → ℕ) (item : ℕ → Reading A) (s : A → List ℕ) (P : ℕ → A → Type 0) (count room : ℕ) → IsFormat (item room) s (P room)
    → ((room : ℕ) → IsFormat (each_at weight item room count) (flat_map s) (λ xs. (length xs ≡ count) × HoldsEach weight P room xs))
    → (xs : List A) (at : ℕ) (rest : List ℕ) → (length xs ≡ suc count) × HoldsEach weight P room xs → at + length (flat_map s xs) ≤ 134217728
    → each_at weight item room (suc count) (record { at = at; bytes = flat_map s xs ++ rest }) ≡ Ok (xs, record { at = at + length (flat_map s xs); bytes = rest })
unfolding each_at
each_again weight item s P count room first others [] at rest h le = absurd (omega (arith, h.0))
each_again {A} weight item s P count room first others (x ∷ xs) at rest h le =
    let cons : flat_map s (x ∷ xs) ≡ s x ++ flat_map s xs = flat_map-cons s x xs in
    let len : length (flat_map s (x ∷ xs)) ≡ length (s x) + length (flat_map s xs) = ap length cons ∙ length-append (s x) (flat_map s xs) in
    let middle = at + length (s x) in
    let one = first.again x at (flat_map s xs ++ rest) h.1.0 (omega (arith, len, le)) in
    let two = (others (room - weight x)).again xs middle rest (omega (arith, h.0), h.1.1) (omega (arith, len, le)) in
    let regrouped : flat_map s (x ∷ xs) ++ rest ≡ s x ++ (flat_map s xs ++ rest) = ap (λ (bytes : List ℕ). bytes ++ rest) cons ∙ append_assoc (s x) (flat_map s xs) rest in
    let place : middle + length (flat_map s xs) ≡ at + length (flat_map s (x ∷ xs)) = omega (arith, len) in
    let go : (bytes : List ℕ) → bytes ≡ s x ++ (flat_map s xs ++ rest) → each_at weight item room (suc count) (record { at = at; bytes = bytes }) ≡ Ok (x ∷ xs, record { at = middle + length (flat_map s xs); bytes = rest })
    = λ bytes e. rw e (rw one (rw two refl)) in
    go (flat_map s (x ∷ xs) ++ rest) regrouped ∙ ap (λ (n : ℕ). done (x ∷ xs, record { at = n; bytes = rest })) place

pub each_format : {A : Type 0} (weight : A → ℕ) (item : ℕ → Reading A) (s : A → List ℕ) (P : ℕ → A → Type 0) → ((room : ℕ) → IsFormat (item room) s (P room))
    → (count room : ℕ) → IsFormat (each_at weight item room count) (flat_map s) (λ xs. (length xs ≡ count) × HoldsEach weight P room xs)
unfolding each_at
each_format weight item s P format zero room = restated (finished []) (λ xs h. rw h refl) (λ xs h. rw h (refl, tt)) (λ xs h. nil_from_length xs h.0)
each_format {A} weight item s P format (suc count) room = record {
  takes = λ start x fits e.
      let b = continued_ok (item room start) (λ first. each_at weight item (room - weight first) count >>= λ others. give (first ∷ others)) x e in
      let c = continued_ok (each_at weight item (room - weight b.0.0) count b.0.1) (λ others. give (b.0.0 ∷ others)) x b.2 in
      let one = (format room).takes start b.0 fits b.1 in
      let two = (each_format weight item s P format count (room - weight b.0.0)).takes b.0.1 c.0 one.0.fits c.1 in
      let len = length-append (s b.0.0) (flat_map s c.0.0) in
      let both : Takes start (flat_map s (b.0.0 ∷ c.0.0)) c.0.1 = rw flat_map-cons (record {
        parts = one.0.parts ∙ ap (λ (bytes : List ℕ). s b.0.0 ++ bytes) two.0.parts ∙ sym (append_assoc (s b.0.0) (flat_map s c.0.0) c.0.1.bytes);
        place = omega (arith, one.0.place, two.0.place, len);
        within = λ h. two.0.within (one.0.within h);
        fits = two.0.fits;
      }) in
      subst (λ (y : List A × Unread). Takes start (flat_map s y.0) y.1 × ((length y.0 ≡ suc count) × HoldsEach weight P room y.0)) (ok_is (b.0.0 ∷ c.0.0, c.0.1) x c.2)
      (both, (ap suc two.1.0, (one.1, two.1.1)));
  again = each_again weight item s P count room (format room) (each_format weight item s P format count);
}

-- every value holds, where none has a weight
all_hold : {A : Type 0} (P : A → Type 0) (xs : List A) → HoldsEach (λ x. 0) (λ room. P) 0 xs → AllByRecursion P xs
all_hold P [] h = tt
all_hold P (x ∷ xs) h = (h.0, all_hold P xs h.1)

each_holds : {A : Type 0} (P : A → Type 0) (xs : List A) → AllByRecursion P xs → HoldsEach (λ x. 0) (λ room. P) 0 xs
each_holds P [] h = tt
each_holds P (x ∷ xs) h = (h.0, each_holds P xs h.1)

pub many_format : {A : Type 0} {f : Reading A} {s : A → List ℕ} {P : A → Type 0} → IsFormat f s P → (count : ℕ) → IsFormat (many_at f count) (flat_map s) (λ xs. (length xs ≡ count) × AllByRecursion P xs)
many_format {A} {f} {s} {P} format count = restated (each_format (λ x. 0) (λ room. f) s (λ room. P) (λ room. format) count 0)
    (λ xs h. refl) (λ xs h. (h.0, all_hold P xs h.1)) (λ xs h. (h.0, each_holds P xs h.1))

pub list_format : {A : Type 0} {f : Reading A} {s : A → List ℕ} {P : A → Type 0} → IsFormat f s P → IsFormat (list_at f) (list s) (λ xs. (length xs < 2 ^ 32) × AllByRecursion P xs)
unfolding list_at
list_format format = restated (followed number_format (λ xs. length xs) (λ count xs p h. h.0) (λ count h. many_format format count))
    (λ xs h. refl) (λ xs h. (h.0, h.1.1)) (λ xs h. (h.0, (refl, h.1)))

-- ---- what a file begins with

pub head_format : (word : ℕ) → word < 2 ^ 32 → IsFormat (head_at word) (λ version. number word ++ 1 ∷ []) (λ version. version ≡ 1)
unfolding head_at
head_format word small = restated (followed (number_in_format word (word + 1) Magic) (λ version. word) (λ magic version p h. omega (arith, p.0.from, p.0.below)) (λ magic p. byte_in_format 1 2 Version))
    (λ version h. let e : version ≡ 1 = omega (arith, h.1.from, h.1.below) in rw e refl)
    (λ version h. omega (arith, h.1.from, h.1.below))
    (λ version h. ((record { from = omega arith; below = omega arith }, small), record { from = omega arith; below = omega arith }))
