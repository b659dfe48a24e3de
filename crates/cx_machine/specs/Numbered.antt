-- This defines when a number of the machine is that of an item, and when it is a place in a text; it is this project's own.
use Rattle.std.specs.Prelude.{◌≡◌, ℕ, ℤ, pos, negsuc, List, Some, None, slice_get, ⊤}
use Rattle.cx_code.specs.Act.{byte_of}

abbrev pub IsNoItem : {T : Type 0} → List T → ℤ → Type 0
IsNoItem items (pos n) = slice_get items n ≡ None
IsNoItem items (negsuc n) = ⊤

abbrev pub IsItem : {T : Type 0} → List T → ℤ → T → Type 0
IsItem items (pos n) item = slice_get items n ≡ Some item
IsItem items (negsuc n) item = ⊥

abbrev pub IsNoByte : List ℕ → ℤ → Type 0
IsNoByte bytes (pos n) = ⊥
IsNoByte bytes (negsuc n) = ⊤

-- the byte, or -1 behind the end
abbrev pub IsByte : List ℕ → ℤ → ℤ → Type 0
IsByte bytes (pos n) byte = byte ≡ byte_of (slice_get bytes n)
IsByte bytes (negsuc n) byte = ⊥
