-- Runs of small images, step by step as the definition computes them.
use Rattle.std.proofs.Common.{◌≡◌, ℕ, List, [], ◌∷◌, pos, true, false, refl}
use Rattle.cx_code.specs.declared.code.Instruction.{Instruction}
use Rattle.cx_code.specs.declared.code.Region.{Region}
use Rattle.cx_code.specs.declared.image.Image.{Image}
use Rattle.cx_code.specs.declared.image.Function.{Function}
use Rattle.cx_code.specs.declared.image.TypeEntry.{TypeEntry}
use Rattle.cx_code.specs.declared.run.Event.TheVariants as events
use Rattle.cx_code.specs.declared.run.Ending.TheVariants as endings
use Rattle.cx_code.specs.Operation.{operation_of}
use Rattle.cx_code.specs.State.{initial}
use Rattle.cx_code.specs.Unwind.{unwound}
use Rattle.cx_code.specs.Run.{machine, run_from, step, with_front}

i : ℕ → ℕ → ℕ → Instruction
i code a b = record { code = code; a = a; b = b }

function : List Instruction → List Region → ℕ → ℕ → Function
function code regions parameters slots = record { name = []; counted = true; parameters = parameters; slots = slots; result = true; code = code; regions = regions }

image : List Function → List TypeEntry → Image
image functions types = record { texts = []; types = types; globals = []; functions = functions; assertions = []; main = 0; handler = 0 }

-- a call of a function that adds 1 to its argument
adds : Image
adds = image (function (i 1 0 41 ∷ i 38 1 1 ∷ i 39 0 0 ∷ []) [] 0 0 ∷ function (i 7 0 0 ∷ i 1 0 1 ∷ i 18 3 0 ∷ i 39 0 0 ∷ []) [] 1 1 ∷ []) []

calls : machine adds [] 100 ≡ record { journal = []; ending = endings.Returned (pos 42); steps = 7 }
unfolding adds image function i machine run_from step with_front unwound initial operation_of
calls = refl

-- an int is thrown in a callee, and caught: the object is 1
throws : Image
throws = image
    (function (i 38 1 0 ∷ i 39 0 0 ∷ i 51 0 0 ∷ i 11 0 0 ∷ i 52 0 0 ∷ i 39 0 0 ∷ []) (record { start = 0; end = 1; kind = 2; of = 1; target = 2; depth = 0 } ∷ []) 0 0
    ∷ function (i 9 1 0 ∷ i 7 0 0 ∷ i 1 0 9 ∷ i 12 0 0 ∷ i 7 0 0 ∷ i 49 0 0 ∷ []) [] 0 1
    ∷ record (function (i 7 0 0 ∷ i 10 0 0 ∷ i 39 0 0 ∷ []) [] 1 1) { result = false } ∷ [])
    (record { name = []; leaves = 1; dropper = 3 } ∷ [])

caught : machine throws [] 100 ≡ record { journal = events.Throw 0 ∷ events.Catch 0 ∷ []; ending = endings.Returned (pos 9); steps = 16 }
unfolding throws image function i machine run_from step with_front unwound initial operation_of
caught = refl
