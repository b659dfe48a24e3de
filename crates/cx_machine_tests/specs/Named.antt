-- Hand-made images, by names of their instructions.
use Rattle.std.specs.Prelude.{◌≡◌, ℕ, ◌+◌, ◌*◌, Bool, true, false, List, [], ◌∷◌}
use Rattle.cx_code.specs.declared.code.Instruction.{Instruction}
use Rattle.cx_code.specs.declared.code.Region.{Region}
use Rattle.cx_code.specs.declared.image.Image.{Image}
use Rattle.cx_code.specs.declared.image.Function.{Function}
use Rattle.cx_code.specs.declared.image.Initial.TheVariants as initials
use Rattle.cx_code.specs.declared.image.AssertionKind.TheVariants as assertions
use Rattle.cx_code.specs.declared.run.Event.{Event}
use Rattle.cx_code.specs.declared.run.Ending.{Ending}
use Rattle.cx_code.specs.declared.run.Run.{Run}
use Rattle.cx_code.specs.Run.{machine}
use Rattle.cx_machine_tests.specs.Checked.{is_valid}

-- ---- instructions, in the order of the codes

abbrev pub i : ℕ → ℕ → ℕ → Instruction
i code a b = record { code = code; a = a; b = b }

abbrev pub push : ℕ → Instruction
push n = i 1 0 n

abbrev pub push_wide : ℕ → ℕ → Instruction
push_wide high low = i 1 high low

abbrev pub push_big : ℕ → ℕ → Instruction
push_big high low = i 2 high low

abbrev pub push_null : Instruction
push_null = i 3 0 0

abbrev pub dup : Instruction
dup = i 4 0 0

abbrev pub pop : Instruction
pop = i 5 0 0

abbrev pub swap : Instruction
swap = i 6 0 0

abbrev pub get : ℕ → Instruction
get slot = i 7 slot 0

abbrev pub set : ℕ → Instruction
set slot = i 8 slot 0

abbrev pub make : ℕ → ℕ → Instruction
make leaves slot = i 9 leaves slot

abbrev pub end_object : Instruction
end_object = i 10 0 0

abbrev pub load : Instruction
load = i 11 0 0

abbrev pub store : Instruction
store = i 12 0 0

abbrev pub offset : ℕ → Instruction
offset by = i 13 by 0

abbrev pub copy : Instruction
copy = i 14 0 0

abbrev pub neg : ℕ → Instruction
neg type = i 15 type 0

abbrev pub logical_not : ℕ → Instruction
logical_not type = i 16 type 0

abbrev pub compl : ℕ → Instruction
compl type = i 17 type 0

abbrev pub add : ℕ → Instruction
add type = i 18 type 0

abbrev pub sub : ℕ → Instruction
sub type = i 19 type 0

abbrev pub mul : ℕ → Instruction
mul type = i 20 type 0

abbrev pub div : ℕ → Instruction
div type = i 21 type 0

abbrev pub rem : ℕ → Instruction
rem type = i 22 type 0

abbrev pub shl : ℕ → Instruction
shl type = i 23 type 0

abbrev pub shr : ℕ → Instruction
shr type = i 24 type 0

abbrev pub bit_and : ℕ → Instruction
bit_and type = i 25 type 0

abbrev pub bit_or : ℕ → Instruction
bit_or type = i 26 type 0

abbrev pub bit_xor : ℕ → Instruction
bit_xor type = i 27 type 0

abbrev pub eq : Instruction
eq = i 28 0 0

abbrev pub ne : Instruction
ne = i 29 0 0

abbrev pub lt : Instruction
lt = i 30 0 0

abbrev pub le : Instruction
le = i 31 0 0

abbrev pub gt : Instruction
gt = i 32 0 0

abbrev pub ge : Instruction
ge = i 33 0 0

abbrev pub conv : ℕ → Instruction
conv type = i 34 type 0

abbrev pub jump : ℕ → Instruction
jump to = i 35 to 0

abbrev pub jump_zero : ℕ → Instruction
jump_zero to = i 36 to 0

abbrev pub jump_nonzero : ℕ → Instruction
jump_nonzero to = i 37 to 0

abbrev pub call : ℕ → ℕ → Instruction
call function count = i 38 function count

abbrev pub ret : Instruction
ret = i 39 0 0

abbrev pub global : ℕ → Instruction
global index = i 40 index 0

abbrev pub out : Instruction
out = i 41 0 0

abbrev pub read : Instruction
read = i 42 0 0

abbrev pub text_at : Instruction
text_at = i 43 0 0

abbrev pub text_of : ℕ → Instruction
text_of text = i 43 (text + 1) 0

abbrev pub begin : ℕ → ℕ → ℕ → Instruction
begin assertion party semantic = i 44 assertion (8 * party + semantic)

abbrev pub verdict : ℕ → Instruction
verdict assertion = i 45 assertion 0

abbrev pub violate : ℕ → ℕ → ℕ → Instruction
violate assertion mode semantic = i 46 assertion (8 * mode + semantic)

abbrev pub field : ℕ → Instruction
field which = i 47 which 0

abbrev pub contract_end : Instruction
contract_end = i 48 0 0

abbrev pub throw : ℕ → Instruction
throw type = i 49 type 0

abbrev pub rethrow : Instruction
rethrow = i 50 0 0

abbrev pub held : Instruction
held = i 51 0 0

abbrev pub release : Instruction
release = i 52 0 0

abbrev pub resume : Instruction
resume = i 53 0 0

abbrev pub destroyed : ℕ → Instruction
destroyed class = i 54 class 0

abbrev pub flow : Instruction
flow = i 55 0 0

-- ---- types of numbers

abbrev pub bool : ℕ
bool = 1

abbrev pub char : ℕ
char = 2

abbrev pub int : ℕ
int = 3

abbrev pub unsigned : ℕ
unsigned = 4

abbrev pub long : ℕ
long = 5

abbrev pub unsigned_long : ℕ
unsigned_long = 6

-- ---- images

abbrev pub region : ℕ → ℕ → ℕ → ℕ → ℕ → ℕ → Region
region start behind kind of target depth = record { start = start; end = behind; kind = kind; of = of; target = target; depth = depth }

abbrev pub called : ℕ → ℕ → Bool → List Instruction → List Region → Function
called parameters slots result code regions = record { name = []; counted = true; parameters = parameters; slots = slots; result = result; code = code; regions = regions }

-- it tells of the object, and ends it
abbrev pub dropper : Function
dropper = called 1 1 false (get 0 ∷ destroyed 0 ∷ get 0 ∷ end_object ∷ ret ∷ []) []

-- objects 1 and 2 are the globals, and the exceptions of type 0 are dropped by function 1; the handler and the dropper of type 1 are told by their indices plus 1
abbrev pub image_of : List Function → ℕ → ℕ → Image
image_of functions handler other = record {
  texts = (65 ∷ 66 ∷ []) ∷ [] ∷ [];
  types = record { name = []; leaves = 1; dropper = 2 } ∷ record { name = []; leaves = 2; dropper = other } ∷ [];
  globals = record { name = []; initial = initials.Number 0 7 } ∷ record { name = []; initial = initials.Null } ∷ [];
  functions = functions;
  assertions = record { function = 0; kind = assertions.Pre; ordinal = 1; file = 0; comment = 1; line = 4; column = 13 } ∷ [];
  main = 0;
  handler = handler;
}

-- main, the dropper, and other functions
abbrev pub program : List Instruction → List Region → List Function → ℕ → ℕ → Image
program code regions functions handler other = image_of (called 0 3 true code regions ∷ dropper ∷ functions) handler other

abbrev pub plain : List Instruction → Image
plain code = program code [] [] 0 2

abbrev pub ran : List Event → Ending → ℕ → Run
ran journal ending steps = record { journal = journal; ending = ending; steps = steps }

-- the image is valid, and its run on the input, in at most so many steps, is this one
pub record Row (image : Image) (input : List ℕ) (limit : ℕ) (run : Run) : Type 0 where
  pub valid : is_valid image ≡ true
  pub runs : machine image input limit ≡ run
