-- The expressions that are built are typed.
use Rattle.std.proofs.Common.{◌≡◌, ℕ, suc, ◌+◌, ◌≤◌, ◌&&◌, Bool, true, false, if◌then◌else◌, List, [], ◌∷◌, map, Option, Some, None, IfSome, slice_get, pos, nat_le, nat_eq, ◌==◌, ◌||◌, refl, subst, ⊎_elim, arith, lit≤}
use Rattle.std.proofs.lemmas.Bool.{and_parts, or_cases, leb-true, le-leb, eqb-true, cond_both}
use Rattle.std.proofs.lemmas.Option.{IfSome_then}
use Rattle.cx_syntax.specs.declared.mark.Mark.{Mark}
use Rattle.cx_syntax.specs.declared.mark.Mark.TheVariants as M
use Rattle.cx_syntax.specs.declared.mark.Word.{Word}
use Rattle.cx_syntax.specs.declared.mark.Word.TheVariants as W
use Rattle.cx_syntax.specs.Tree as grammar
use Rattle.cx_syntax.specs.Tree.{leaf, paren}
use Rattle.cx_includes.specs.declared.assembled.Assembled.{Assembled}
use Rattle.cx_core.specs.declared.number.IntegerType.{IntegerType}
use Rattle.cx_core.specs.declared.number.IntegerType.TheVariants as types
use Rattle.cx_core.specs.declared.number.BinaryOperator.{BinaryOperator}
use Rattle.cx_core.specs.declared.number.UnaryOperator.{UnaryOperator}
use Rattle.cx_core.specs.Number.{in_range}
use Rattle.cx_core.specs.Operators.{integer_of}
use Rattle.cx_core.specs.Tree.{ObjectType, Expr, operand}
use Rattle.cx_typed.specs.Typed.{Slots, greatest_int, IsRead, IsConverted, HasType, Gives, IsCondition}
use Rattle.cx_front.specs.declared.names.Variable.{Variable}
use Rattle.cx_front.specs.declared.names.Slot.{Slot}
use Rattle.cx_front.specs.Literal.{is_decimal, decimal_value, int_value, escaped, char_value}
use Rattle.cx_front.specs.Front.{Names, Typed, word_at, scalar_of, or_later, found_from, found, conversion, as_type, as_condition, number_of, truth_of, variable_of, leaf_of, unary_operator, binary_operator, with_operand, with_both, with_operands, expr_in}
use Rattle.cx_front.proofs.Options.{both_is, map_is}

-- the types of the variables
abbrev pub slots_of : Names → Slots
slots_of names = map (λ (v : Variable). v.of) names

-- as it is read, the expression gives a number of the type
abbrev IsValue : Slots → Option ObjectType → Expr → IntegerType → Type 0
IsValue slots None e type = HasType slots e type
IsValue slots (Some object) e type = IsRead slots object e type

abbrev pub IsTypedAs : Slots → Typed → Type 0
IsTypedAs slots e = IsValue slots e.read e.of e.type

-- ---- literals

abbrev IsNumberOf : IntegerType → ℕ → Type 0
IsNumberOf type n = (n ≤ greatest_int) × (in_range type (pos n) ≡ true)

int_is : (n : ℕ) → n ≤ greatest_int → IsNumberOf types.Int n
int_is n h = (h, le-leb n greatest_int h)

char_is : (n : ℕ) → n ≤ 127 → IsNumberOf types.Char n
char_is n h = (omega arith, le-leb n 127 h)

int_value_is : (word : List ℕ) → IfSome (int_value word) (IsNumberOf types.Int)
int_value_is word =
    let small = nat_le (decimal_value word) greatest_int in
    cond_both (is_decimal word && small) (Some (decimal_value word)) None (λ o. IfSome o (IsNumberOf types.Int))
    (λ h. int_is (decimal_value word) (leb-true (decimal_value word) greatest_int (and_parts (is_decimal word) small h).1)) (λ h. tt)

escape_is : (is_it : Bool) (value : ℕ) (other : Option ℕ) → value ≤ 127 → IfSome other (IsNumberOf types.Char) → IfSome (if is_it then Some value else other) (IsNumberOf types.Char)
escape_is true value other small h = char_is value small
escape_is false value other small h = h

itself_is : (byte : ℕ) → (byte == 92 || byte == 39 || byte == 34) ≡ true → byte ≤ 127
itself_is byte h =
    ⊎_elim (λ two. ⊎_elim (λ e. omega (arith, eqb-true byte 92 e)) (λ e. omega (arith, eqb-true byte 39 e)) (or_cases (byte == 92) (byte == 39) two)) (λ e. omega (arith, eqb-true byte 34 e))
    (or_cases (byte == 92 || byte == 39) (byte == 34) h)

escaped_is : (byte : ℕ) → IfSome (escaped byte) (IsNumberOf types.Char)
escaped_is byte =
    escape_is (byte == 110) 10 _ (lit≤ tt) (escape_is (byte == 116) 9 _ (lit≤ tt) (escape_is (byte == 114) 13 _ (lit≤ tt) (escape_is (byte == 48) 0 _ (lit≤ tt)
    (cond_both (byte == 92 || byte == 39 || byte == 34) (Some byte) None (λ o. IfSome o (IsNumberOf types.Char)) (λ h. char_is byte (itself_is byte h)) (λ h. tt)))))

char_value_is : (word : List ℕ) → IfSome (char_value word) (IsNumberOf types.Char)
char_value_is (quote ∷ byte ∷ close ∷ []) =
    cond_both (nat_le byte 127) (Some byte) None (λ o. IfSome o (IsNumberOf types.Char)) (λ h. char_is byte (leb-true byte 127 h)) (λ h. tt)
char_value_is (quote ∷ backslash ∷ byte ∷ close ∷ []) = escaped_is byte
char_value_is other = tt

number_is : (slots : Slots) (type : IntegerType) (value : Option ℕ) → IfSome value (IsNumberOf type) → IfSome (number_of type value) (IsTypedAs slots)
unfolding HasType
number_is slots type None h = tt
number_is slots type (Some n) h = h

truth_is : (slots : Slots) (k : Word) → IfSome (truth_of k) (IsTypedAs slots)
unfolding HasType
truth_is slots W.True = (lit≤ tt, refl)
truth_is slots W.False = (lit≤ tt, refl)
truth_is slots other = tt

-- ---- variables

pub integer_is : (type : IntegerType) → integer_of (scalar_of type) ≡ Some type
integer_is types.Bool = refl
integer_is types.Char = refl
integer_is types.Int = refl
integer_is types.Unsigned = refl
integer_is types.LongLong = refl
integer_is types.UnsignedLongLong = refl

-- the slot of a variable that is among them, the first one's being `first`
abbrev IsSlotFrom : ℕ → Names → Slot → Type 0
IsSlotFrom first names s = (i : ℕ) × (s.slot ≡ first + i) × (slice_get (slots_of names) i ≡ Some s.of)

later_is : (P : Slot → Type 0) (a b : Option Slot) → IfSome a P → IfSome b P → IfSome (or_later a b) P
later_is P a None h k = h
later_is P a (Some s) h k = k

found_from_is : (first name : ℕ) (names : Names) → IfSome (found_from first name names) (IsSlotFrom first names)
found_from_is first name [] = tt
found_from_is first name (v ∷ names) =
    let here : Slot = record { slot = first; of = v.of } in
    later_is (IsSlotFrom first (v ∷ names)) (if nat_eq v.name name then Some here else None) (found_from (suc first) name names)
    (cond_both (nat_eq v.name name) (Some here) None (λ o. IfSome o (IsSlotFrom first (v ∷ names))) (λ h. (0, omega arith, refl)) (λ h. tt))
    (IfSome_then (found_from (suc first) name names) (found_from_is (suc first) name names) (λ s h. (suc h.0, omega arith, h.2)))

abbrev pub IsSlot : Names → Slot → Type 0
IsSlot names s = slice_get (slots_of names) s.slot ≡ Some s.of

pub found_is : (names : Names) (name : ℕ) → IfSome (found name names) (IsSlot names)
found_is names name =
    IfSome_then (found name names) (found_from_is 0 name names) (λ s h.
    let e : h.0 ≡ s.slot = omega arith in
    subst (λ (i : ℕ). slice_get (slots_of names) i ≡ Some s.of) e h.2)

variable_is : (names : Names) (s : Slot) → IsSlot names s → IsTypedAs (slots_of names) (variable_of s)
variable_is names s h = (integer_is s.of, h)

-- ---- conversions

value_gives : (slots : Slots) (read : Option ObjectType) (to : Option IntegerType) (e : Expr) (from type : IntegerType) → IsValue slots read e from → IsConverted to from type → Gives slots (operand read to e) type
unfolding HasType
value_gives slots None to e from type h c = (from, h, c)
value_gives slots (Some object) to e from type h c = (from, h, c)

converts : (from to : IntegerType) → IsConverted (conversion from to) from to
converts types.Int types.Int = refl
converts types.Bool types.Bool = refl
converts types.Char types.Char = refl
converts from to = refl

pub gives_type : (slots : Slots) (to : IntegerType) (e : Typed) → IsTypedAs slots e → Gives slots (as_type to e) to
gives_type slots to e h = value_gives slots e.read (conversion e.type to) e.of e.type to h (converts e.type to)

pub is_condition : (slots : Slots) (e : Typed) → IsTypedAs slots e → IsCondition slots (as_condition e)
is_condition slots e h = (e.type, value_gives slots e.read None e.of e.type e.type h refl)

-- ---- expressions

leaf_is : (names : Names) (word : List ℕ) (m : Mark) → IfSome (leaf_of names word m) (IsTypedAs (slots_of names))
leaf_is names word M.Number = number_is (slots_of names) types.Int (int_value word) (int_value_is word)
leaf_is names word M.Char = number_is (slots_of names) types.Char (char_value word) (char_value_is word)
leaf_is names word (M.Word k) = truth_is (slots_of names) k
leaf_is names word (M.Name n) = map_is (IsTypedAs (slots_of names)) (IsSlot names) variable_of (found n names) (found_is names n) (variable_is names)
leaf_is names word other = tt

unary_is : (slots : Slots) (operator : UnaryOperator) (e : Typed) → IsTypedAs slots e → IsTypedAs slots (with_operand operator e)
unfolding HasType
unary_is slots operator e h = (refl, refl, gives_type slots _ e h)

binary_is : (slots : Slots) (operator : Option BinaryOperator) (l r : Option Typed) → IfSome l (IsTypedAs slots) → IfSome r (IsTypedAs slots) → IfSome (with_operands operator l r) (IsTypedAs slots)
unfolding HasType
binary_is slots None l r h k = tt
binary_is slots (Some operator) l r h k = both_is (IsTypedAs slots) (IsTypedAs slots) (IsTypedAs slots) (with_both operator) l r h k (λ a b f g. (refl, refl, gives_type slots types.Int a f, gives_type slots types.Int b g))

any_operator : (operator : Option UnaryOperator) → IfSome operator (λ _. Unit {0})
any_operator None = tt
any_operator (Some operator) = tt

pub expr_is : (list : Assembled) (names : Names) (t : grammar.Expr) → IfSome (expr_in list names t) (IsTypedAs (slots_of names))
expr_is list names (leaf i m) = leaf_is names (word_at list i) m
expr_is list names (paren i e j) = expr_is list names e
expr_is list names (grammar.unary i p e) =
    both_is (IsTypedAs (slots_of names)) (λ (_ : UnaryOperator). Unit {0}) (IsTypedAs (slots_of names)) with_operand (unary_operator p) (expr_in list names e) (any_operator (unary_operator p)) (expr_is list names e)
    (λ operator typed _ h. unary_is (slots_of names) operator typed h)
expr_is list names (grammar.binary i l p j r) =
    binary_is (slots_of names) (binary_operator p) (expr_in list names l) (expr_in list names r) (expr_is list names l) (expr_is list names r)
expr_is list names other = tt
