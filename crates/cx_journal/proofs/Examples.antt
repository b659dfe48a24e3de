-- The texts of some journals, computed.
use Rattle.std.specs.Prelude.{◌≡◌, refl, [], ◌∷◌, ◌++◌, pos, negsuc, codes}
use Rattle.std.specs.Fmt.{digits}
use Rattle.cx_core.specs.Words.{Definer, Caller, Holds, False, Threw, Pre, Observe, Enforce, PredicateFalse, EvaluationException, Overflow, Returned, ContractTerminated, Terminated, Undefined, TooDeep, StepsSpent}
use Rattle.cx_core.specs.Event.{out, input, input_end, begin, verdict, handler, throw, catch, destroyed}
use Rattle.cx_journal.specs.Lines.{causes_text, place_text, kind_text, told_text}

-- `int main(){ contract_assert(1 < 2); return 7; }`
holding : told_text (record {
  journal = begin (record { assertion = codes "main#assert1"; party = Definer; semantic = Enforce }) ∷ verdict Holds ∷ [];
  ending = Returned (pos 7);
  steps = 20;
}) ≡ codes "begin main#assert1 definer enforce\nverdict holds\nending returned 7\n"
unfolding told_text causes_text place_text kind_text digits
holding = refl

-- a function whose Caller and Definer find a false precondition
violated : told_text (record {
  journal = begin (record { assertion = codes "f#pre1"; party = Caller; semantic = Observe }) ∷ verdict False
      ∷ handler (record { kind = Pre; semantic = Observe; mode = PredicateFalse; file = codes "h.h"; line = 1; column = 14; assertion = codes "f#pre1"; comment = codes "x > 0" })
      ∷ begin (record { assertion = codes "f#pre1"; party = Definer; semantic = Enforce }) ∷ verdict Threw
      ∷ handler (record { kind = Pre; semantic = Enforce; mode = EvaluationException; file = codes "h.h"; line = 12; column = 140; assertion = codes "f#pre1"; comment = codes "x > 0" })
      ∷ [];
  ending = ContractTerminated;
  steps = 40;
}) ≡ codes "begin f#pre1 caller observe\nverdict false\nhandler pre predicate_false observe h.h:1:14 f#pre1\n"
    ++ codes "begin f#pre1 definer enforce\nverdict threw\nhandler pre evaluation_exception enforce h.h:12:140 f#pre1\nending contract-terminated\n"
unfolding told_text causes_text place_text kind_text digits
violated = refl

-- objects, exceptions, output and input
others : told_text (record {
  journal = throw (codes "unsigned long long") ∷ out 98 ∷ destroyed (codes "M") 18446744073709551615 1 ∷ catch (codes "E") ∷ input 0 ∷ input_end ∷ [];
  ending = Undefined Overflow;
  steps = 9;
}) ≡ codes "throw unsigned long long\nout 98\ndestroyed M 18446744073709551615 1\ncatch E\nin 0\nin end\nending undefined: overflow\n"
unfolding told_text causes_text place_text kind_text digits
others = refl

-- no events, and the other endings
cut : told_text (record { journal = []; ending = StepsSpent; steps = 1000 }) ≡ codes "ending steps spent: 1000\n"
unfolding told_text causes_text place_text kind_text digits
cut = refl

negative : told_text (record { journal = []; ending = Returned (negsuc 41); steps = 2 }) ≡ codes "ending returned -42\n"
unfolding told_text causes_text place_text kind_text digits
negative = refl

terminated : told_text (record { journal = []; ending = Terminated; steps = 2 }) ≡ codes "ending terminated\n"
unfolding told_text
terminated = refl

deep : told_text (record { journal = []; ending = TooDeep; steps = 2 }) ≡ codes "ending too deep\n"
unfolding told_text
deep = refl
