-- Each move keeps what the stacks promise.
use Rattle.std.proofs.Common.{zero, suc, List, ◌∷◌, Option}
use Rattle.cx_syntax.specs.declared.mark.Mark.{Mark}
use Rattle.cx_table.specs.declared.symbol.Part.{Part}
use Rattle.cx_table.specs.declared.symbol.Part.TheVariants.{Assign, AssignTail, Cond, CondTail, Operand, LevelTail, Primary, PostTail, StdRest, StdMore, ArgsRest, SeveralTail, TypePart, BasePart, UnsignedTail, StarTail, OptWord, OptSign, LocalPart, InitPart, OptExpr, SimplePart, SimpleStd, StmtPart, BlockPart, StmtsPart, ElseTail, HandlerPart, HandlersTail, CatchPart, ParamPart, OptName, ParamsRest, ParamsTail, SuffixPart, SpecsPart, PostRest, PostName, TailPart, MakingPart, InitsPart, MemberInitPart, InitsTail, MembersPart, MemberPart, MemberRest, MemberClass, MemberName, VirtualRest, ItemsPart, ItemPart, ClassRest, Declaration, AfterClass, Special, AfterType, AfterName, ConstantPart}
use Rattle.cx_table.specs.declared.symbol.Symbol.{Symbol}
use Rattle.cx_table.specs.declared.symbol.Symbol.TheVariants.{Read}
use Rattle.cx_parser.proofs.KeepsExpressions.{k_args, k_assign, k_assign_tail, k_cond, k_cond_tail, k_operand, k_optional, k_post, k_primary, k_several, k_std_more, k_std_rest, k_tail, k_unary}
use Rattle.cx_parser.proofs.KeepsFunctions.{k_init_row, k_inits, k_making, k_member_init, k_name, k_param, k_params, k_post_name, k_post_rest, k_row, k_specs, k_suffix, k_tail_part}
use Rattle.cx_parser.proofs.KeepsItems.{k_after_class, k_after_name, k_after_type, k_class, k_constant, k_declaration, k_item, k_items, k_member, k_member_class, k_member_name, k_member_rest, k_members, k_special, k_virtual}
use Rattle.cx_parser.proofs.KeepsStatements.{k_base, k_block, k_catch, k_else, k_handler, k_handlers, k_init, k_local, k_opt_sign, k_opt_word, k_simple, k_simple_std, k_star, k_stmt, k_stmts, k_type, k_unsigned}
use Rattle.cx_parser.proofs.Kept.{Kept}
use Rattle.cx_parser.proofs.Typed.{Fn, Typed}
use Rattle.cx_values.specs.Values.{Values}
use Rattle.cx_table.specs.Moves.{move}

pub kept : (x : Part) (k : List Symbol) (o : Option Mark) (vs : Values) (c : Fn) → Typed (Read x ∷ k) o vs c → Kept (move x o) k o vs c
kept Assign k o vs c h = k_assign k o vs c h
kept AssignTail k o vs c h = k_assign_tail k o vs c h
kept Cond k o vs c h = k_cond k o vs c h
kept CondTail k o vs c h = k_cond_tail k o vs c h
kept (Operand zero) k o vs c h = k_unary k o vs c h
kept (Operand (suc n)) k o vs c h = k_operand k n o vs c h
kept (LevelTail zero) k o vs c h = tt {0}
kept (LevelTail (suc n)) k o vs c h = k_tail k n o vs c h
kept Primary k o vs c h = k_primary k o vs c h
kept PostTail k o vs c h = k_post k o vs c h
kept StdRest k o vs c h = k_std_rest k o vs c h
kept StdMore k o vs c h = k_std_more k o vs c h
kept ArgsRest k o vs c h = k_args k o vs c h
kept SeveralTail k o vs c h = k_several k o vs c h
kept TypePart k o vs c h = k_type k o vs c h
kept BasePart k o vs c h = k_base k o vs c h
kept UnsignedTail k o vs c h = k_unsigned k o vs c h
kept (StarTail n) k o vs c h = k_star k n o vs c h
kept (OptWord j) k o vs c h = k_opt_word k j o vs c h
kept (OptSign p) k o vs c h = k_opt_sign k p o vs c h
kept LocalPart k o vs c h = k_local k o vs c h
kept InitPart k o vs c h = k_init k o vs c h
kept OptExpr k o vs c h = k_optional k o vs c h
kept SimplePart k o vs c h = k_simple k o vs c h
kept SimpleStd k o vs c h = k_simple_std k o vs c h
kept StmtPart k o vs c h = k_stmt k o vs c h
kept BlockPart k o vs c h = k_block k o vs c h
kept StmtsPart k o vs c h = k_stmts k o vs c h
kept ElseTail k o vs c h = k_else k o vs c h
kept HandlerPart k o vs c h = k_handler k o vs c h
kept HandlersTail k o vs c h = k_handlers k o vs c h
kept CatchPart k o vs c h = k_catch k o vs c h
kept ParamPart k o vs c h = k_param k o vs c h
kept OptName k o vs c h = k_name k o vs c h
kept ParamsRest k o vs c h = k_params k o vs c h
kept ParamsTail k o vs c h = k_row k o vs c h
kept SuffixPart k o vs c h = k_suffix k o vs c h
kept SpecsPart k o vs c h = k_specs k o vs c h
kept PostRest k o vs c h = k_post_rest k o vs c h
kept PostName k o vs c h = k_post_name k o vs c h
kept TailPart k o vs c h = k_tail_part k o vs c h
kept MakingPart k o vs c h = k_making k o vs c h
kept InitsPart k o vs c h = k_inits k o vs c h
kept MemberInitPart k o vs c h = k_member_init k o vs c h
kept InitsTail k o vs c h = k_init_row k o vs c h
kept MembersPart k o vs c h = k_members k o vs c h
kept MemberPart k o vs c h = k_member k o vs c h
kept MemberRest k o vs c h = k_member_rest k o vs c h
kept MemberClass k o vs c h = k_member_class k o vs c h
kept MemberName k o vs c h = k_member_name k o vs c h
kept VirtualRest k o vs c h = k_virtual k o vs c h
kept ItemsPart k o vs c h = k_items k o vs c h
kept ItemPart k o vs c h = k_item k o vs c h
kept ClassRest k o vs c h = k_class k o vs c h
kept (Declaration g) k o vs c h = k_declaration k g o vs c h
kept (AfterClass g) k o vs c h = k_after_class k g o vs c h
kept Special k o vs c h = k_special k o vs c h
kept (AfterType g) k o vs c h = k_after_type k g o vs c h
kept (AfterName g) k o vs c h = k_after_name k g o vs c h
kept ConstantPart k o vs c h = k_constant k o vs c h
