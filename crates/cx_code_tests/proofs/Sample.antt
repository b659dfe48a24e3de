-- A file can hold the image of the tests.
use Rattle.std.proofs.Common.{◌≡◌, List, [], ◌∷◌, true, false, codes, sym, subst, rules}
use Rattle.cx_code.specs.declared.code.Instruction.{Instruction}
use Rattle.cx_code.specs.declared.code.Region.{Region}
use Rattle.cx_code.specs.declared.image.Image.{Image}
use Rattle.cx_code.specs.declared.image.Function.{Function}
use Rattle.cx_code.specs.declared.image.Initial.TheVariants as initials
use Rattle.cx_code.specs.declared.image.AssertionKind.TheVariants as kinds
use Rattle.cx_code.specs.Spelling.{image_spelling, number}
use Rattle.cx_code.specs.Storable.{IsStorable}

abbrev code : List Instruction
code = record { code = 1; a = 0; b = 258 } ∷ record { code = 39; a = 0; b = 0 } ∷ []

-- an exception of the one type that is thrown at the return goes on at the start
abbrev catches : Region
catches = record { start = 1; end = 2; kind = 2; of = 1; target = 0; depth = 0 }

abbrev body : Function
body = record { name = codes "m"; counted = true; parameters = 0; slots = 3; result = true; code = code; regions = catches ∷ [] }

abbrev hook : Function
hook = record { name = codes "h"; counted = false; parameters = 1; slots = 1; result = false; code = record { code = 39; a = 0; b = 0 } ∷ []; regions = [] }

abbrev sample : Image
sample = record {
  texts = codes "a" ∷ [];
  types = record { name = codes "E"; leaves = 256; dropper = 2 } ∷ [];
  globals = record { name = codes "g"; initial = initials.Number 1 2 } ∷ [];
  functions = body ∷ hook ∷ [];
  assertions = record { function = 0; kind = kinds.Assert; ordinal = 1; file = 0; comment = 0; line = 4; column = 5 } ∷ [];
  main = 0;
  handler = 2;
}

storable : IsStorable sample
unfolding image_spelling number
storable = search rules

pub storable_when : (image : Image) → image ≡ sample → IsStorable image
storable_when image is = subst IsStorable (sym is) storable
