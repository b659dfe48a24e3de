-- The trees of the grammar: one constructor a production, with its parts in order and the place of each token, after the draft's grammar summary [gram].
-- A name is its number and its place. The first place of an expression is that of its first token.
use Rattle.std.specs.Prelude.{ℕ, Option}
use Rattle.cx_syntax.specs.declared.mark.Punct.{Punct}
use Rattle.cx_syntax.specs.declared.mark.Word.{Word}
use Rattle.cx_syntax.specs.declared.mark.Mark.{Mark}

pub data Base : Type 0 where
  -- void, bool, char, int, unsigned
  word_base : Word → (at : ℕ) → Base
  unsigned_int long_long : (at second : ℕ) → Base
  unsigned_long_long : (at second third : ℕ) → Base
  class_base : (name at : ℕ) → Base
  -- std :: contracts :: NAME, with the mark of the name `contracts`
  library_base : (at scope : ℕ) → Mark → (contracts second name name_at : ℕ) → Base

-- from left to right, each with the place of the `const` after it
pub data Stars : Type 0 where
  no_stars : Stars
  star : Stars → (at : ℕ) → (constant : Option ℕ) → Stars

pub data TypeTree : Type 0 where
  type_tree : (constant : Option ℕ) → Base → Stars → (reference : Option ℕ) → TypeTree

mutual
  pub data Expr : Type 0 where
    leaf : (at : ℕ) → Mark → Expr
    paren : (at : ℕ) → Expr → (close : ℕ) → Expr
    temporary : (at name : ℕ) → Args → Expr
    word_cast : (at : ℕ) → Word → (open_at : ℕ) → Expr → (close : ℕ) → Expr
    static_cast : (at less : ℕ) → TypeTree → (greater open_at : ℕ) → Expr → (close : ℕ) → Expr
    standard : (at scope name name_at : ℕ) → Expr
    library : (at scope : ℕ) → Mark → (contracts second type_name type_at third name name_at : ℕ) → Expr
    member : (at : ℕ) → Expr → Punct → (operator name name_at : ℕ) → Expr
    call : (at : ℕ) → Expr → Args → Expr
    stepped : (at : ℕ) → Expr → Punct → (operator : ℕ) → Expr
    unary : (at : ℕ) → Punct → Expr → Expr
    binary : (at : ℕ) → Expr → Punct → (operator : ℕ) → Expr → Expr
    choose : (at : ℕ) → Expr → (question : ℕ) → Expr → (colon : ℕ) → Expr → Expr
    assign : (at : ℕ) → Expr → Punct → (operator : ℕ) → Expr → Expr

  -- in parentheses
  pub data Args : Type 0 where
    no_args : (at close : ℕ) → Args
    args : (at : ℕ) → Several → (close : ℕ) → Args

  -- one or more, with commas
  pub data Several : Type 0 where
    one : Expr → Several
    also : Several → (comma : ℕ) → Expr → Several

pub data Init : Type 0 where
  no_init : Init
  equals : (at : ℕ) → Expr → Init
  parens : (at : ℕ) → Several → (close : ℕ) → Init

pub data Local : Type 0 where
  local : TypeTree → (name name_at : ℕ) → Init → Local

pub data OptionalName : Type 0 where
  unnamed : OptionalName
  named : (name at : ℕ) → OptionalName

pub data Param : Type 0 where
  param : TypeTree → OptionalName → Param

pub data Catching : Type 0 where
  any_catch : (at : ℕ) → Catching
  typed_catch : Param → Catching

mutual
  pub data Block : Type 0 where
    block : (at : ℕ) → Stmts → (close : ℕ) → Block

  pub data Stmt : Type 0 where
    compound : Block → Stmt
    empty : (at : ℕ) → Stmt
    evaluate : Expr → (semicolon : ℕ) → Stmt
    declare : Local → (semicolon : ℕ) → Stmt
    branch : (at open_at : ℕ) → Expr → (close : ℕ) → Stmt → Stmt
    branches : (at open_at : ℕ) → Expr → (close : ℕ) → Stmt → (other : ℕ) → Stmt → Stmt
    while_loop : (at open_at : ℕ) → Expr → (close : ℕ) → Stmt → Stmt
    -- first comes an empty statement, an expression statement or a declaration
    for_loop : (at open_at : ℕ) → Stmt → Option Expr → (semicolon : ℕ) → Option Expr → (close : ℕ) → Stmt → Stmt
    returns : (at : ℕ) → Option Expr → (semicolon : ℕ) → Stmt
    breaks continues : (at semicolon : ℕ) → Stmt
    throws : (at : ℕ) → Option Expr → (semicolon : ℕ) → Stmt
    tries : (at : ℕ) → Block → Handlers → Stmt
    asserts : (at open_at : ℕ) → Expr → (close semicolon : ℕ) → Stmt

  pub data Stmts : Type 0 where
    no_stmts : Stmts
    more_stmts : Stmts → Stmt → Stmts

  pub data Handler : Type 0 where
    handler : (at open_at : ℕ) → Catching → (close : ℕ) → Block → Handler

  -- one or more
  pub data Handlers : Type 0 where
    one_handler : Handler → Handlers
    more_handlers : Handlers → Handler → Handlers

-- with the mark of the name `pre` or `post`
pub data Spec : Type 0 where
  before : Mark → (at open_at : ℕ) → Expr → (close : ℕ) → Spec
  after : Mark → (at open_at : ℕ) → Expr → (close : ℕ) → Spec
  after_named : Mark → (at open_at name name_at colon : ℕ) → Expr → (close : ℕ) → Spec

pub data Specs : Type 0 where
  no_specs : Specs
  more_specs : Specs → Spec → Specs

-- [noexcept] spec*
pub data Suffix : Type 0 where
  suffix : (noexcept : Option ℕ) → Specs → Suffix

-- one or more, with commas
pub data ParamRow : Type 0 where
  one_param : Param → ParamRow
  more_params : ParamRow → (comma : ℕ) → Param → ParamRow

-- in parentheses
pub data Params : Type 0 where
  no_params : (at close : ℕ) → Params
  params : (at : ℕ) → ParamRow → (close : ℕ) → Params

pub data MemberInit : Type 0 where
  member_init : (name at : ℕ) → Args → MemberInit

-- one or more, with commas
pub data InitRow : Type 0 where
  one_init : MemberInit → InitRow
  more_inits : InitRow → (comma : ℕ) → MemberInit → InitRow

pub data Inits : Type 0 where
  no_inits : Inits
  inits : (at : ℕ) → InitRow → Inits

pub data Tail : Type 0 where
  declared : (at : ℕ) → Tail
  defined : Block → Tail

-- the end of a constructor in its class
pub data Making : Type 0 where
  unmade : (at : ℕ) → Making
  made : Inits → Block → Making

pub data Constant : Type 0 where
  plain : (at : ℕ) → Mark → Constant
  negative : (at number : ℕ) → Constant

pub data GlobalInit : Type 0 where
  without : GlobalInit
  with_value : (at : ℕ) → Constant → GlobalInit

pub data Member : Type 0 where
  access : (at : ℕ) → Word → (colon : ℕ) → Member
  field : TypeTree → (name name_at semicolon : ℕ) → Member
  method : (virtual : Option ℕ) → TypeTree → (name name_at : ℕ) → Params → (constant : Option ℕ) → Suffix → Tail → Member
  constructor : (explicit : Option ℕ) → (name name_at : ℕ) → Params → Suffix → Making → Member
  destructor : (virtual : Option ℕ) → (tilde name name_at open_at close : ℕ) → Suffix → Tail → Member

pub data Members : Type 0 where
  no_members : Members
  more_members : Members → Member → Members

pub data Item : Type 0 where
  class_named : (at : ℕ) → Word → (name name_at semicolon : ℕ) → Item
  class_defined : (at : ℕ) → Word → (name name_at open_at : ℕ) → Members → (close semicolon : ℕ) → Item
  external : (at : ℕ) → TypeTree → (name name_at semicolon : ℕ) → Item
  global : TypeTree → (name name_at : ℕ) → GlobalInit → (semicolon : ℕ) → Item
  function : (inlined : Option ℕ) → TypeTree → (name name_at : ℕ) → Params → Suffix → Tail → Item
  outer_method : (inlined : Option ℕ) → TypeTree → (class class_at scope name name_at : ℕ) → Params → (constant : Option ℕ) → Suffix → Block → Item
  outer_constructor : (inlined : Option ℕ) → (class class_at scope name name_at : ℕ) → Params → Suffix → Inits → Block → Item
  outer_destructor : (inlined : Option ℕ) → (class class_at scope tilde name name_at open_at close : ℕ) → Suffix → Block → Item

pub data UnitTree : Type 0 where
  no_items : UnitTree
  more_items : UnitTree → Item → UnitTree
