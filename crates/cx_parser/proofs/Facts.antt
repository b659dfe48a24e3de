-- Facts of single punctuators, keywords and marks, by computation.
use Rattle.std.proofs.Common.{◌≡◌, ◌<◌, Bool, true, false, eqb, [], ◌∷◌, Option, Some, None, refl, arith}
use Rattle.cx_syntax.specs.declared.mark.Punct.{Punct}
use Rattle.cx_syntax.specs.declared.mark.Punct.TheVariants as P
use Rattle.cx_syntax.specs.declared.mark.Word.{Word}
use Rattle.cx_syntax.specs.declared.mark.Word.TheVariants as W
use Rattle.cx_syntax.specs.declared.mark.Mark.{Mark}
use Rattle.cx_syntax.specs.declared.mark.Mark.TheVariants as M
use Rattle.cx_table.specs.declared.symbol.Act.TheVariants.{DoNoFlag, DoDeclare}
use Rattle.cx_table.specs.declared.symbol.Part.TheVariants.{Assign, LocalPart, SimplePart, MemberRest, Declaration}
use Rattle.cx_table.specs.declared.symbol.Symbol.TheVariants.{Make, Read}
use Rattle.cx_syntax.specs.Same.{same_punct}
use Rattle.cx_syntax.specs.Shaped.{is_assign, is_cast, is_leaf, is_member, is_prefix, is_step, is_word_base, looseness}
use Rattle.cx_table.specs.Moves.{item_word, member_word, push, s, simple_move, stmt_move}
use Rattle.cx_table.specs.Sorts.{is_end, is_free, is_mark, is_word, loose}

pub member_facts : (p : Punct) → is_member p ≡ true → (looseness p ≡ 0) × (is_step p ≡ false) × (same_punct P.Scope p ≡ false) × (same_punct P.Colon p ≡ false)
member_facts P.Dot h = (refl, refl, refl, refl)
member_facts P.Arrow h = (refl, refl, refl, refl)
member_facts _ h = absurd (cc)

pub step_facts : (p : Punct) → is_step p ≡ true → (looseness p ≡ 0) × (same_punct P.Scope p ≡ false) × (same_punct P.Colon p ≡ false)
step_facts P.Increment h = (refl, refl, refl)
step_facts P.Decrement h = (refl, refl, refl)
step_facts _ h = absurd (cc)

pub assign_facts : (p : Punct) → is_assign p ≡ true → (looseness p ≡ 11) × (same_punct P.Colon p ≡ false)
assign_facts P.Assign h = (refl, refl)
assign_facts P.PlusAssign h = (refl, refl)
assign_facts P.MinusAssign h = (refl, refl)
assign_facts P.StarAssign h = (refl, refl)
assign_facts P.SlashAssign h = (refl, refl)
assign_facts P.PercentAssign h = (refl, refl)
assign_facts P.AndAssign h = (refl, refl)
assign_facts P.OrAssign h = (refl, refl)
assign_facts P.XorAssign h = (refl, refl)
assign_facts P.ShiftLeftAssign h = (refl, refl)
assign_facts P.ShiftRightAssign h = (refl, refl)
assign_facts _ h = absurd (cc)

pub question_facts : (p : Punct) → eqb (looseness p) 11 ≡ true → is_assign p ≡ false → P.Question ≡ p
question_facts P.Question h n = refl
question_facts _ h n = absurd (cc)

pub scope_facts : (p : Punct) → 0 < looseness p → same_punct P.Scope p ≡ false
scope_facts P.Scope h = absurd (omega arith)
scope_facts _ h = refl

pub colon_facts : (p : Punct) → looseness p < 12 → same_punct P.Colon p ≡ false
colon_facts P.Colon h = absurd (omega arith)
colon_facts _ h = refl

no_question_mark : (p : Punct) → looseness p ≡ 12 → same_punct P.Question p ≡ false
no_question_mark P.Question h = absurd (omega arith)
no_question_mark _ h = refl

pub no_question : (o : Option Mark) → loose o ≡ 12 → is_mark P.Question o ≡ false
no_question (Some (M.Punct p)) h = no_question_mark p h
no_question (Some _) h = refl
no_question None h = refl

pub cast_facts : (k : Word) → is_cast k ≡ true → (is_leaf (M.Word k) ≡ false) × (is_free (M.Word k) ≡ false)
cast_facts W.Bool h = (refl, refl)
cast_facts W.Char h = (refl, refl)
cast_facts W.Int h = (refl, refl)
cast_facts W.Unsigned h = (refl, refl)
cast_facts _ h = absurd (cc)

-- what no expression, type or statement begins with
abbrev pub Opens : Option Mark → Type 0
Opens o = (is_end o ≡ false) × (is_word W.Else o ≡ false) × (is_mark P.CloseBrace o ≡ false) × (is_word W.Catch o ≡ false)

pub leaf_opens : (m : Mark) → is_leaf m ≡ true → Opens (Some m)
leaf_opens (M.Name n) h = (refl, refl, refl, refl)
leaf_opens M.Number h = (refl, refl, refl, refl)
leaf_opens M.Char h = (refl, refl, refl, refl)
leaf_opens M.Text h = (refl, refl, refl, refl)
leaf_opens (M.Word W.True) h = (refl, refl, refl, refl)
leaf_opens (M.Word W.False) h = (refl, refl, refl, refl)
leaf_opens (M.Word W.Nullptr) h = (refl, refl, refl, refl)
leaf_opens (M.Word W.This) h = (refl, refl, refl, refl)
leaf_opens _ h = absurd (cc)

pub cast_opens : (k : Word) → is_cast k ≡ true → Opens (Some (M.Word k))
cast_opens W.Bool h = (refl, refl, refl, refl)
cast_opens W.Char h = (refl, refl, refl, refl)
cast_opens W.Int h = (refl, refl, refl, refl)
cast_opens W.Unsigned h = (refl, refl, refl, refl)
cast_opens _ h = absurd (cc)

pub prefix_opens : (p : Punct) → is_prefix p ≡ true → Opens (Some (M.Punct p))
prefix_opens P.Minus h = (refl, refl, refl, refl)
prefix_opens P.Plus h = (refl, refl, refl, refl)
prefix_opens P.Not h = (refl, refl, refl, refl)
prefix_opens P.Tilde h = (refl, refl, refl, refl)
prefix_opens P.Star h = (refl, refl, refl, refl)
prefix_opens P.And h = (refl, refl, refl, refl)
prefix_opens P.Increment h = (refl, refl, refl, refl)
prefix_opens P.Decrement h = (refl, refl, refl, refl)
prefix_opens _ h = absurd (cc)

-- a keyword that is a base type, at each place where a type may begin
pub base_facts : (k : Word) → is_word_base k ≡ true → (is_word W.Const (Some (M.Word k)) ≡ false) × Opens (Some (M.Word k)) × (stmt_move (Some (M.Word k)) ≡ push (Read SimplePart ∷ [])) × (simple_move (M.Word k) ≡ push (Read LocalPart ∷ s P.Semicolon ∷ Make DoDeclare ∷ [])) × (member_word k ≡ push (Make DoNoFlag ∷ Read MemberRest ∷ [])) × (item_word k ≡ push (Make DoNoFlag ∷ Read (Declaration true) ∷ []))
base_facts W.Void h = (refl, (refl, refl, refl, refl), refl, refl, refl, refl)
base_facts W.Bool h = (refl, (refl, refl, refl, refl), refl, refl, refl, refl)
base_facts W.Char h = (refl, (refl, refl, refl, refl), refl, refl, refl, refl)
base_facts W.Int h = (refl, (refl, refl, refl, refl), refl, refl, refl, refl)
base_facts W.Unsigned h = (refl, (refl, refl, refl, refl), refl, refl, refl, refl)
base_facts _ h = absurd (cc)

-- a mark that begins an expression and no type begins a simple statement
pub free_facts : (m : Mark) → is_free m ≡ true → stmt_move (Some m) ≡ push (Read SimplePart ∷ [])
free_facts (M.Word W.If) h = absurd (cc)
free_facts (M.Word W.While) h = absurd (cc)
free_facts (M.Word W.For) h = absurd (cc)
free_facts (M.Word W.Return) h = absurd (cc)
free_facts (M.Word W.Break) h = absurd (cc)
free_facts (M.Word W.Continue) h = absurd (cc)
free_facts (M.Word W.Throw) h = absurd (cc)
free_facts (M.Word W.Try) h = absurd (cc)
free_facts (M.Word W.ContractAssert) h = absurd (cc)
free_facts (M.Punct P.OpenBrace) h = absurd (cc)
free_facts _ h = refl
