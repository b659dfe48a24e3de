-- An image by its bytes, one by one.
use Rattle.std.proofs.Common.{◌≡◌, [], ◌∷◌, pos, true, refl}
use Rattle.cx_code.specs.declared.image.Image.{Image}
use Rattle.cx_code.specs.declared.run.Ending.TheVariants as endings
use Rattle.cx_code.specs.Operation.{operation_of}
use Rattle.cx_code.specs.Spelling.{image_spelling, number}
use Rattle.cx_code.specs.State.{initial}
use Rattle.cx_code.specs.Unwind.{unwound}
use Rattle.cx_code.specs.Run.{run_from, step, with_front}
use Rattle.cx_machine_tests.specs.Checked.{is_valid}
use Rattle.cx_machine_tests.specs.Named.{push, ret, called, ran, Row}

-- one function, which returns 7
abbrev least : Image
least = record {
  texts = [];
  types = [];
  globals = [];
  assertions = [];
  main = 0;
  handler = 0;
  functions = record (called 0 0 true (push 7 ∷ ret ∷ []) []) { name = 109 ∷ 97 ∷ 105 ∷ 110 ∷ [] } ∷ [];
}

least_is_spelled : image_spelling least ≡ 67 ∷ 88 ∷ 73 ∷ 77 ∷ 1 ∷ 0 ∷ 0 ∷ 0 ∷ 0 ∷ 0 ∷ 0 ∷ 0 ∷ 0 ∷ 0 ∷ 0 ∷ 0 ∷ 0 ∷ 0 ∷ 0 ∷ 0 ∷ 1 ∷ 0 ∷ 0 ∷ 0 ∷ 4 ∷ 109 ∷ 97 ∷ 105 ∷ 110 ∷ 1 ∷ 0 ∷ 0 ∷ 0 ∷ 0 ∷ 0 ∷ 0 ∷ 0 ∷ 0 ∷ 1 ∷ 0 ∷ 0 ∷ 0 ∷ 2 ∷ 1 ∷ 0 ∷ 0 ∷ 0 ∷ 0 ∷ 0 ∷ 0 ∷ 0 ∷ 7 ∷ 39 ∷ 0 ∷ 0 ∷ 0 ∷ 0 ∷ 0 ∷ 0 ∷ 0 ∷ 0 ∷ 0 ∷ 0 ∷ 0 ∷ 0 ∷ 0 ∷ 0 ∷ 0 ∷ 0 ∷ 0 ∷ 0 ∷ 0 ∷ 0 ∷ 0 ∷ 0 ∷ 0 ∷ 0 ∷ []
unfolding image_spelling number
least_is_spelled = refl

least_returns_7 : Row least [] 1000 (ran [] (endings.Returned (pos 7)) 2)
unfolding is_valid image_spelling number run_from step with_front unwound initial operation_of
least_returns_7 = record { valid = refl; runs = refl }
