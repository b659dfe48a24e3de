-- The trees of the typed program, one for each production of the profile's grammar: this project's own form of a program whose names are resolved and whose conversions, reads, temporaries, constructions and destructions are explicit. In the trees of a unit functions, classes, globals and assertions go by their index in the unit's tables; in those of a program they have the program's numbers, and a check stands for each assertion.
use Rattle.std.specs.Prelude.{ℕ, Bool, List, Option, ℤ}
use Rattle.cx_types.specs.declared.value_type.Scalar.{Scalar}
use Rattle.cx_core.specs.declared.number.IntegerType.{IntegerType}
use Rattle.cx_core.specs.declared.number.BinaryOperator.{BinaryOperator}
use Rattle.cx_core.specs.declared.number.UnaryOperator.{UnaryOperator}
use Rattle.cx_core.specs.declared.number.Query.{Query}
use Rattle.cx_core.specs.Words.{AssertionKind, Semantic}

-- the type of an object, const aside; that of a function by its number in a table
pub data ObjectType : Type 0 where
  scalar : Scalar → ObjectType
  pointer : (to : ObjectType) → ObjectType
  function_pointer : (type : ℕ) → ObjectType
  class : (index : ℕ) → ObjectType

-- what a call through a pointer gives that isn't a class object, by the pointer's type
pub data PointedResult : Type 0 where
  void_result scalar_result reference_result : PointedResult

-- a literal, an enumerator, or the first value of a global
pub data Constant : Type 0 where
  number : ℤ → Constant
  nullptr : Constant

mutual
  -- an lvalue and a class object give their place, any other expression its value
  pub data Expr : Type 0 where
    literal : Constant → Expr
    -- the name of a variable or parameter that isn't global, by its slot in the call
    variable : (slot : ℕ) → Expr
    global : (index : ℕ) → Expr
    this : Expr
    -- the name of a function that isn't what is called
    function_name : (function : ℕ) → Expr
    -- the result name of a postcondition
    result_name : Expr
    -- what initialises a catch parameter: the exception object, which no name names
    exception_object : Expr
    unary : UnaryOperator → IntegerType → Operand → Expr
    binary : BinaryOperator → IntegerType → Operand → Operand → Expr
    logical_and : Operand → Operand → Expr
    logical_or : Operand → Operand → Expr
    conditional : Operand → Operand → Operand → Expr
    -- to an integer type or `bool`; the conversion is the operand's
    cast : Operand → Expr
    assign : Expr → Operand → Expr
    -- computed in one type, stored as another
    compound_assign : BinaryOperator → (computed stored : IntegerType) → Expr → Operand → Expr
    -- `++` and `--` add and subtract 1
    prefix_step : BinaryOperator → IntegerType → Expr → Expr
    postfix_step : BinaryOperator → IntegerType → Expr → Expr
    indirection : Operand → Expr
    -- of an object expression, the field that begins at a leaf of it, or the object of a member call at leaf 0
    member : (leaf : ℕ) → Expr → Expr
    call : (function : ℕ) → Args → Expr
    -- a call of what a pointer holds
    call_through : PointedResult → Operand → Args → Expr
    temporary : ObjectType → Init → Expr
    -- the object of a class that a call of what a pointer holds gives, as a temporary
    temporary_through : (class : ℕ) → Operand → Args → Expr
    putchar : Operand → Expr
    getchar : Expr
    puts : (text : List ℕ) → Expr
    puts_comment : Expr → Expr
    query : Query → Expr → Expr

  -- an operand: an expression under a standard conversion sequence [conv], which reads it as an object of a type or not,
  -- and then converts the value to an integer type or not
  pub data Operand : Type 0 where
    operand : (read : Option ObjectType) → (to : Option IntegerType) → Expr → Operand

  -- how an object at a place is initialised
  pub data Init : Type 0 where
    value : Operand → Init
    construct : (constructor : ℕ) → Args → Init
    zero_first : (class : ℕ) → Init → Init
    -- the object is the result of a call
    result_of : (function : ℕ) → Args → Init
    result_through : Operand → Args → Init

  -- the arguments in order, the object of a member call first: each is bound to a reference, or initialises an object
  pub data Args : Type 0 where
    no_more : Args
    by_reference : Expr → Args → Args
    by_value : ObjectType → Init → Args → Args

-- a contract assertion, as its violation tells it
pub record Assertion : Type 0 where
  pub kind : AssertionKind
  pub name : List ℕ
  pub file : List ℕ
  pub line : ℕ
  pub column : ℕ
  pub comment : List ℕ

-- an assertion as one party evaluates it in a block of checks: under which semantic, and how often
pub record Check : Type 0 where
  pub assertion : Assertion
  pub semantic : Semantic
  pub times : ℕ

-- a function contract specifier: what stands for its assertion, an index or a check, and its predicate
pub record Specifier (A : Type 0) : Type 0 where
  pub of : A
  pub predicate : Operand

-- the parameter of a handler; one that isn't a reference is an object, also without a name
pub data CatchParameter : Type 0 where
  -- a reference without a name
  unnamed : CatchParameter
  reference : (slot : ℕ) → CatchParameter
  object : (slot : ℕ) → (is_named : Bool) → Init → CatchParameter

-- the condition of a `for` may be absent
pub data Condition : Type 0 where
  always : Condition
  while : Operand → Condition

mutual
  -- statements, where an A stands for an assertion
  pub data Stmt (A : Type 0) : Type 0 where
    empty : Stmt A
    -- its value is discarded; what is an lvalue isn't read
    expression : Operand → Stmt A
    variable_declaration : (slot : ℕ) → ObjectType → Init → Stmt A
    reference_declaration : (slot : ℕ) → Expr → Stmt A
    block : Stmts A → Stmt A
    if_else : Operand → Stmt A → Stmt A → Stmt A
    while_loop : Operand → Stmt A → Stmt A
    for_loop : (first : Stmt A) → Condition → (step : Stmt A) → (body : Stmt A) → Stmt A
    break : Stmt A
    continue : Stmt A
    return : Stmt A
    return_value : Operand → Stmt A
    return_reference : Expr → Stmt A
    return_object : Init → Stmt A
    contract_assert : A → (predicate : Operand) → Stmt A
    throw : ObjectType → Init → Stmt A
    rethrow : Stmt A
    try : Stmts A → Handlers A → Stmt A

  pub data Stmts (A : Type 0) : Type 0 where
    done : Stmts A
    next : Stmt A → Stmts A → Stmts A

  pub data Handlers (A : Type 0) : Type 0 where
    none : Handlers A
    catch_all : Stmts A → Handlers A → Handlers A
    catch : ObjectType → CatchParameter → Stmts A → Handlers A → Handlers A
