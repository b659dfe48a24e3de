-- A typed statement leaves a typed state typed, with the variables that are visible behind it, and is left for the next one or by a `return` of a number of `int`.
use Rattle.std.proofs.Common.{◌≡◌, ℕ, zero, suc, Bool, List, [], ◌∷◌, ◌++◌, length, Option, Some, None}
use Rattle.cx_types.specs.declared.value_type.Scalar.{Scalar}
use Rattle.cx_core.specs.declared.number.IntegerType.{IntegerType}
use Rattle.cx_core.specs.declared.number.IntegerType.TheVariants as integers
use Rattle.cx_core.specs.declared.unit.Assertion.{Assertion}
use Rattle.cx_core.specs.Words.{Definer}
use Rattle.cx_core.specs.Tree.{scalar, Check, variable, assign, putchar, Operand, operand, value, Stmt, Stmts, empty, expression, variable_declaration, block, if_else, while_loop, contract_assert, return_value, done, next}
use Rattle.cx_core.specs.Store.{Address, Value, number, address, null, function, violation}
use Rattle.cx_core.specs.Event.{out, going}
use Rattle.cx_core.specs.Outcome.{whole, Frame, State, Does, Nothing, nothing, ◌>>=◌, ◌>>◌, gives, throws, skip, some, current_frame, keep}
use Rattle.cx_core.specs.Program.{Program}
use Rattle.cx_core.specs.Leaving.{Calls, full_expression, object}
use Rattle.cx_core.specs.Check.{truth}
use Rattle.cx_core.specs.Operators.{integer_of, bind, converted, number_of, stored, assignment}
use Rattle.cx_core.specs.Library.{byte_of, putchar_call}
use Rattle.cx_core.specs.Statements.{Completion, on_to_next, break, continue, return, completed, sequence, after_turn, turns, loop, variable_of}
use Rattle.cx_core.specs.Calls.{result_stored, returned}
use Rattle.cx_core.specs.Meaning.{object_place, expr, used, init, evaluated, stmt, stmts}
use Rattle.cx_typed.specs.Typed.{Slots, with_slot, seen_behind, Gives, IsCondition, IsTypedDiscarded, IsTypedDeclaration, IsTypedWith, IsTyped, AreTyped}
use Rattle.cx_typed.proofs.Comes.{Comes, With, Always, comes_less, either_comes, then_comes, gives_comes, ends_come, if_comes, spend_comes, append_comes}
use Rattle.cx_typed.proofs.Objects.{Types, IsIn, IsPlace}
use Rattle.cx_typed.proofs.States.{TypedBy, Typed, Made, typed_by, typed, some_comes, made_comes, fewer, write_comes, make_comes, bind_comes, keep_comes}
use Rattle.cx_typed.proofs.Scopes.{scope_comes, full_expression_comes}
use Rattle.cx_typed.proofs.Expressions.{Keeps, then_keeps, gives_keeps, spend_keeps, place_keeps, variable_keeps, used_keeps}
use Rattle.cx_typed.proofs.Checks.{condition_keeps, check_keeps}

-- how a typed statement is left
abbrev pub IsLeft : Completion → Type 0
IsLeft on_to_next = Unit {0}
IsLeft (return v) = IsIn integers.Int v
IsLeft completion = ⊥

-- the states before a part are typed with the one list of variables, and those behind it with the other
abbrev pub Leads : {A : Type 0} → (A → Type 0) → (before behind : Slots) → Does A → Type 0
Leads P before behind m = Comes (Typed before) (With P (Typed behind)) m

pub then_leads : {A B : Type 0} (before between behind : Slots) {P : B → Type 0} {m : Does A} {next : A → Does B} (Q : A → Type 0)
    → Leads Q before between m → ((a : A) → Q a → Leads P between behind (next a)) → Leads P before behind (m >>= next)
then_leads before between behind Q h k = then_comes (Typed between) Q throws h k

completed_leads : (before behind : Slots) (m : Does Nothing) → Leads Always before behind m → Leads IsLeft before behind (completed m)
completed_leads before behind m h = then_leads before behind behind Always h (λ _ _. gives_comes (Typed behind) IsLeft on_to_next (tt {0}))

module _ (program : Program) (calls : Calls) where
  -- ---- expressions whose value is discarded

  module _ (types : Types) (slots : Slots) where
    stored_keeps : (type : IntegerType) (place v : Value) → IsPlace types type place → IsIn type v → Keeps types slots Always (stored place v)
    stored_keeps type place v h is = then_keeps types slots (λ a. types a.object ≡ type) (place_keeps types slots type place h) (λ a at. write_comes types slots type a v at is)

    assignment_keeps : (type : IntegerType) (left right : Does Value) → Keeps types slots (IsPlace types type) left → Keeps types slots (IsIn type) right → Keeps types slots Always (assignment left right)
    assignment_keeps type left right h k =
        then_keeps types slots (IsIn type) k
        (λ v is. then_keeps types slots (IsPlace types type) h
        (λ place at. then_keeps types slots Always (spend_keeps types slots)
        (λ _ _. then_keeps types slots Always (stored_keeps type place v at is) (λ _ _. gives_keeps types slots Always place (tt {0})))))

    number_keeps : (type : IntegerType) (v : Value) → IsIn type v → Keeps types slots Always (some (number_of v))
    number_keeps type (number n) h = gives_keeps types slots Always n (tt {0})
    number_keeps type (address a) h = absurd h
    number_keeps type null h = absurd h
    number_keeps type (function v) h = absurd h
    number_keeps type (violation v) h = absurd h

    putchar_keeps : (type : IntegerType) (m : Does Value) → Keeps types slots (IsIn type) m → Keeps types slots Always (putchar_call m)
    putchar_keeps type m h =
        let spends = spend_keeps types slots in
        then_keeps types slots (IsIn type) h
        (λ v is. then_keeps types slots Always (number_keeps type v is)
        (λ n _. then_keeps types slots Always spends
        (λ _ _. then_keeps types slots Always
        (then_keeps types slots Always (then_keeps types slots Always spends (λ _ _. append_comes (TypedBy types slots) (typed_by types slots).of_objects (out (byte_of n)))) (λ _ _. gives_keeps types slots Always nothing (tt {0})))
        (λ _ _. gives_keeps types slots Always _ (tt {0})))))

    ended_keeps : (m : Does Value) → Keeps types slots Always m → Keeps types slots Always (full_expression program calls m >> skip)
    ended_keeps m h =
        then_keeps types slots Always (full_expression_comes (TypedBy types slots) (TypedBy types slots) (typed_by types slots) (typed_by types slots) program calls Always m h) (λ _ _. gives_keeps types slots Always nothing (tt {0}))

    -- what is neither read nor converted
    plain_keeps : (m : Does Value) → Keeps types slots Always m → Keeps types slots Always (converted None None m)
    plain_keeps m h = then_keeps types slots Always (then_keeps types slots Always h (λ v _. gives_keeps types slots Always v (tt {0}))) (λ v _. gives_keeps types slots Always v (tt {0}))

    discarded_keeps : (a : Operand) → IsTypedDiscarded slots a → Keeps types slots Always (full_expression program calls (used program calls a) >> skip)
    unfolding expr
    discarded_keeps (operand None None (assign (variable slot) a)) h = ended_keeps _ (plain_keeps _ (assignment_keeps h.0 _ _ (variable_keeps types slots program calls slot h.0 h.1) (used_keeps types slots program calls a h.0 h.2)))
    discarded_keeps (operand None None (putchar a)) h = ended_keeps _ (plain_keeps _ (putchar_keeps integers.Int _ (used_keeps types slots program calls a integers.Int h)))
    discarded_keeps other h = absurd h

    -- ---- `return`

    abbrev HasNoResult : Frame → Type 0
    HasNoResult frame = frame.result ≡ None

    frame_keeps : Keeps types slots HasNoResult current_frame
    unfolding current_frame
    frame_keeps = record { comes = λ s i. (i.no_result, i) }

    -- there is no result object
    result_keeps : (result : Option Value) (v : Value) → result ≡ None → IsIn integers.Int v → Keeps types slots (IsIn integers.Int) (result_stored program calls result v)
    result_keeps None v none h = gives_keeps types slots (IsIn integers.Int) v h
    result_keeps (Some place) v none h = absurd cc

    returned_keeps : (a : Operand) → Gives slots a integers.Int → Keeps types slots (IsIn integers.Int) (returned program calls (used program calls a))
    returned_keeps a h =
        full_expression_comes (TypedBy types slots) (TypedBy types slots) (typed_by types slots) (typed_by types slots) program calls (IsIn integers.Int) _
        (then_keeps types slots (IsIn integers.Int) (used_keeps types slots program calls a integers.Int h) (λ v is. then_keeps types slots HasNoResult frame_keeps (λ frame none. result_keeps frame.result v none is)))

    -- ---- a variable's first value

    init_keeps : (a : Operand) (type : IntegerType) (place : Address) → types place.object ≡ type → Gives slots a type → Keeps types slots Always (init program calls (value a) place)
    unfolding expr
    init_keeps a type place at h = then_keeps types slots (IsIn type) (used_keeps types slots program calls a type h) (λ v is. write_comes types slots type place v at is)

  module _ (slots : Slots) (s : Scalar) (type : IntegerType) (slot : ℕ) (a : Operand) (is_last : slot ≡ length slots) (h : Gives (slots ++ type ∷ []) a type) where
    bound_leads : (n : ℕ) → Comes (Made slots type n) (With Always (Typed (slots ++ type ∷ []))) (bind slot (object_place n) >> init program calls (value a) (record { object = n; leaf = 0 }))
    bound_leads n =
        then_comes (Made (slots ++ type ∷ []) type n) Always throws (bind_comes slots type n slot is_last)
        (λ _ _. made_comes Always (slots ++ type ∷ []) type n _ (λ types at. init_keeps types (slots ++ type ∷ []) a type (record { object = n; leaf = 0 }) at h))

    object_leads : Leads Always slots (slots ++ type ∷ []) (object program calls keep (scalar s) (λ p. bind slot (address p) >> init program calls (value a) p))
    object_leads =
        then_leads slots slots (slots ++ type ∷ []) Always (gives_comes (Typed slots) Always 1 (tt {0}))
        (λ leaves _. either_comes (Typed slots) (Made slots type) (With Always (Typed (slots ++ type ∷ []))) _ _ throws (make_comes slots type leaves)
        (λ n. then_comes (Typed (slots ++ type ∷ [])) Always throws
        (then_comes (Typed (slots ++ type ∷ [])) Always _ (bound_leads n) (λ x _. gives_comes (Typed (slots ++ type ∷ [])) Always x (tt {0})))
        (λ _ _. then_leads (slots ++ type ∷ []) (slots ++ type ∷ []) (slots ++ type ∷ []) Always (keep_comes (slots ++ type ∷ []) (whole n (scalar s)) (tt {0})) (λ _ _. gives_comes (Typed (slots ++ type ∷ [])) Always n (tt {0})))))

    declared_leads : Leads Always slots (slots ++ type ∷ []) (variable_of program calls slot (scalar s) (init program calls (value a)))
    declared_leads =
        full_expression_comes (Typed slots) (Typed (slots ++ type ∷ [])) (typed slots) (typed (slots ++ type ∷ [])) program calls Always _
        (then_leads slots (slots ++ type ∷ []) (slots ++ type ∷ []) Always object_leads (λ _ _. gives_comes (Typed (slots ++ type ∷ [])) Always nothing (tt {0})))

  declaration_leads : (slots : Slots) (s : Scalar) (slot : ℕ) (a : Operand) (type : Option IntegerType) → IsTypedDeclaration slots slot type a
      → Leads Always slots (with_slot slots type) (variable_of program calls slot (scalar s) (init program calls (value a)))
  declaration_leads slots s slot a None h = absurd h
  declaration_leads slots s slot a (Some type) h = declared_leads slots s type slot a h.0 h.1

  -- ---- what is visible behind a statement is visible before it, but for a variable that it declares

  fewer_slots : (slots : Slots) (type : Option IntegerType) (t : State) → Typed (with_slot slots type) t → Typed slots t
  fewer_slots slots None t i = i
  fewer_slots slots (Some type) t i = fewer slots type t i

  fewer_behind : (slots : Slots) (s : Stmt Check) (t : State) → Typed (seen_behind slots s) t → Typed slots t
  fewer_behind slots (variable_declaration slot (scalar s) i) t h = fewer_slots slots (integer_of s) t h
  fewer_behind slots other t h = h

  within_leads : (before slots : Slots) (s : Stmt Check) (m : Does Completion) → Leads IsLeft before (seen_behind slots s) m → Leads IsLeft before slots m
  within_leads before slots s m h = comes_less (Typed before) (Typed before) (With IsLeft (Typed (seen_behind slots s))) (With IsLeft (Typed slots)) m (λ _ i. i) (λ completion t i. (i.0, fewer_behind slots s t i.1)) h

  -- ---- loops

  module _ (slots : Slots) (condition : Does Bool) (body : Does Completion) (h : Leads Always slots slots condition) (k : Leads IsLeft slots slots body) where
    abbrev rest : ℕ → Does Completion
    rest n = turns n condition (gives on_to_next) body

    turn_leads : (n : ℕ) → Leads IsLeft slots slots (rest n) → (completion : Completion) → IsLeft completion → Leads IsLeft slots slots (after_turn (gives on_to_next) (rest n) completion)
    turn_leads n l on_to_next is = then_leads slots slots slots IsLeft (gives_comes (Typed slots) IsLeft on_to_next (tt {0})) (λ _ _. l)
    turn_leads n l (return v) is = gives_comes (Typed slots) IsLeft (return v) is
    turn_leads n l break is = absurd is
    turn_leads n l continue is = absurd is

    turns_lead : (n : ℕ) → Leads IsLeft slots slots (rest n)
    unfolding turns
    turns_lead zero = ends_come (Typed slots) (With IsLeft (Typed slots)) going (tt {0})
    turns_lead (suc n) =
        then_leads slots slots slots Always (spend_comes (Typed slots) (typed slots).of_objects)
        (λ _ _. then_leads slots slots slots Always h
        (λ b _. if_comes (Typed slots) (With IsLeft (Typed slots)) b _ _ (then_leads slots slots slots IsLeft k (turn_leads n (turns_lead n))) (gives_comes (Typed slots) IsLeft on_to_next (tt {0}))))

    loop_leads : Leads IsLeft slots slots (loop condition (gives on_to_next) body)
    unfolding loop
    loop_leads = record { comes = λ s i. (turns_lead s.budget).comes s i }

  -- ---- statements

  module _ (default : program.handler ≡ None) (assertions : List Assertion) where
    condition_leads : (slots : Slots) (c : Operand) → IsCondition slots c → Leads Always slots slots (evaluated program calls c >>= truth)
    condition_leads slots c h = some_comes Always slots _ (λ types. condition_keeps types slots program calls default c h)

    sequence_leads : (slots : Slots) (rest : Does Completion) → Leads IsLeft slots slots rest → (completion : Completion) → IsLeft completion → Leads IsLeft slots slots (sequence rest completion)
    sequence_leads slots rest h on_to_next is = h
    sequence_leads slots rest h (return v) is = gives_comes (Typed slots) IsLeft (return v) is
    sequence_leads slots rest h break is = absurd is
    sequence_leads slots rest h continue is = absurd is

    mutual
      unfolding stmt IsTypedWith

      pub stmt_leads : (s : Stmt Check) (slots : Slots) → IsTyped assertions slots s → Leads IsLeft slots (seen_behind slots s) (stmt program calls s)
      stmt_leads empty slots h = gives_comes (Typed slots) IsLeft on_to_next (tt {0})
      stmt_leads (expression a) slots h = completed_leads slots slots _ (some_comes Always slots _ (λ types. discarded_keeps types slots a h))
      stmt_leads (variable_declaration slot (scalar s) (value a)) slots h = completed_leads slots (with_slot slots (integer_of s)) _ (declaration_leads slots s slot a (integer_of s) h)
      stmt_leads (block b) slots h = scope_comes (Typed slots) (Typed slots) (typed slots) (typed slots) program calls IsLeft _ (stmts_lead b slots h)
      stmt_leads (if_else c a b) slots h =
          then_leads slots slots slots Always (condition_leads slots c h.0)
          (λ x _. if_comes (Typed slots) (With IsLeft (Typed slots)) x _ _ (within_leads slots slots a _ (stmt_leads a slots h.2)) (within_leads slots slots b _ (stmt_leads b slots h.4)))
      stmt_leads (while_loop c body) slots h = loop_leads slots _ _ (condition_leads slots c h.0) (within_leads slots slots body _ (stmt_leads body slots h.2))
      stmt_leads (contract_assert c predicate) slots h =
          completed_leads slots slots _ (some_comes Always slots _ (λ types. check_keeps types slots program calls default Definer (record { of = c; predicate = predicate }) h.1))
      stmt_leads (return_value a) slots h = then_leads slots slots slots (IsIn integers.Int) (some_comes (IsIn integers.Int) slots _ (λ types. returned_keeps types slots a h)) (λ v is. gives_comes (Typed slots) IsLeft (return v) is)
      stmt_leads other slots h = absurd h

      pub stmts_lead : (b : Stmts Check) (slots : Slots) → AreTyped assertions slots b → Leads IsLeft slots slots (stmts program calls b)
      stmts_lead done slots h = gives_comes (Typed slots) IsLeft on_to_next (tt {0})
      stmts_lead (next s rest) slots h =
          within_leads slots slots s _ (then_leads slots (seen_behind slots s) (seen_behind slots s) IsLeft (stmt_leads s slots h.0) (sequence_leads (seen_behind slots s) (stmts program calls rest) (stmts_lead rest (seen_behind slots s) h.1)))
