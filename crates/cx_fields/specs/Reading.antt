-- Reading a file field by field from the left, with the first fault that is met; the format is this project's own.
use Rattle.std.specs.Prelude.{◌≡◌, ℕ, zero, suc, ◌+◌, ◌-◌, ◌==◌, ◌&&◌, nat_lt, nat_le, List, [], ◌∷◌, length, take, drop, Bool, if◌then◌else◌, Result, Ok, Err, slice_index}
use Rattle.std.specs.Int.{w32, from_be_bytes}
use Rattle.cx_fields.specs.declared.fault.BytesFault.{BytesFault}
use Rattle.cx_fields.specs.declared.fault.Why.{Why}
use Rattle.cx_fields.specs.declared.fault.Why.TheVariants.{Magic, Version, Cut, Limit, Range, Index, Trailing}
use Rattle.cx_fields.specs.declared.fault.ReadFault.{ReadFault}
use Rattle.cx_fields.specs.declared.fault.ReadFault.TheVariants as faults
use Rattle.cx_fields.specs.declared.rest.Rest.{Rest}

abbrev pub why_number : Why → ℕ
why_number Magic = 1
why_number Version = 2
why_number Cut = 3
why_number Limit = 4
why_number Range = 5
why_number Index = 6
why_number Trailing = 7

-- the bytes of a file that are not read yet, and the place of the first of them
pub record Unread : Type 0 where
  pub at : ℕ
  pub bytes : List ℕ

-- a reading takes a value from the front, or meets a fault
abbrev pub Reading : Type 0 → Type 0
Reading A = Unread → Result (A × Unread) BytesFault

abbrev pub continued : {A B : Type 0} → Result (A × Unread) BytesFault → (A → Reading B) → Result (B × Unread) BytesFault
continued (Ok read) next = next read.0 read.1
continued (Err fault) next = Err fault

infixl 10 ◌>>=◌
abbrev pub ◌>>=◌ : {A B : Type 0} → Reading A → (A → Reading B) → Reading B
(first >>= next) rest = continued (first rest) next

abbrev pub give : {A : Type 0} → A → Reading A
give value rest = Ok (value, rest)

abbrev pub fault : {A : Type 0} → ℕ → Why → Result A BytesFault
fault at why = Err (record { at = at; why = why })

-- a field of so many bytes: it isn't cut, and ends within the largest file
unfoldable pub bytes_at : ℕ → Reading (List ℕ)
bytes_at count rest =
    if nat_lt (length rest.bytes) count then fault rest.at Cut else
    if nat_lt 134217728 (rest.at + count) then fault rest.at Limit else
    Ok (take count rest.bytes, record { at = rest.at + count; bytes = drop count rest.bytes })

-- what was read at a place, where it passes a test
abbrev pub allowed : {A : Type 0} → (A → Bool) → Why → ℕ → Result (A × Unread) BytesFault → Result (A × Unread) BytesFault
allowed test why at (Ok read) = if test read.0 then Ok read else fault at why
allowed test why at (Err other) = Err other

-- a field whose value must pass a test
abbrev pub judged : {A : Type 0} → (A → Bool) → Why → Reading A → Reading A
judged test why field rest = allowed test why rest.at (field rest)

unfoldable pub byte_at : Reading ℕ
byte_at = do
  bytes ← bytes_at 1
  give (slice_index bytes 0)

unfoldable pub number_at : Reading ℕ
number_at = do
  bytes ← bytes_at 4
  give (from_be_bytes w32 bytes)

abbrev pub is_between : ℕ → ℕ → ℕ → Bool
is_between low end n = nat_le low n && nat_lt n end

-- a number from low up to the one before end
unfoldable pub number_in : ℕ → ℕ → Why → Reading ℕ
number_in low end why = judged (is_between low end) why number_at

unfoldable pub byte_in : ℕ → ℕ → Why → Reading ℕ
byte_in low end why = judged (is_between low end) why byte_at

-- a number that is zero
unfoldable pub zero_at : Reading ℕ
zero_at = number_in 0 1 Range

-- a text: its length, and its bytes
unfoldable pub text_at : Reading (List ℕ)
text_at = do
  count ← number_in 0 134217729 Limit
  bytes_at count

unfoldable pub flag_at : Reading Bool
flag_at = do
  value ← byte_in 0 2 Range
  give (value == 1)

-- values one after the other; room is the first weight that none of them may have, and each value takes its weight of it
unfoldable pub each_at : {A : Type 0} → (A → ℕ) → (ℕ → Reading A) → ℕ → ℕ → Reading (List A)
each_at weight item room zero = give []
each_at weight item room (suc count) = do
  first ← item room
  others ← each_at weight item (room - weight first) count
  give (first ∷ others)

abbrev pub many_at : {A : Type 0} → Reading A → ℕ → Reading (List A)
many_at item count = each_at (λ value. 0) (λ room. item) 0 count

-- a count, and so many items
unfoldable pub list_at : {A : Type 0} → Reading A → Reading (List A)
list_at item = do
  count ← number_at
  many_at item count

-- what a file begins with: the word of its format as a number, and version 1
unfoldable pub head_at : ℕ → Reading ℕ
head_at word = do
  magic ← number_in word (word + 1) Magic
  byte_in 1 2 Version

-- nothing follows the last field
abbrev pub ended : {A : Type 0} → Result (A × Unread) BytesFault → Result A BytesFault
ended (Ok read) = if length read.1.bytes == 0 then Ok read.0 else fault read.1.at Trailing
ended (Err other) = Err other

abbrev pub from_start : List ℕ → Unread
from_start bytes = record { at = 0; bytes = bytes }

-- what a function returned, seen by view, is what reading gives, unless memory ran out
abbrev pub Fails : {Y : Type 0} → ReadFault → Result Y BytesFault → Type 0
Fails faults.OutOfMemory read = Unit {0}
Fails (faults.Bad fault) read = read ≡ Err fault

abbrev pub Gives : {X Y : Type 0} → (X → Y) → Result X ReadFault → Result Y BytesFault → Type 0
Gives view (Ok x) read = read ≡ Ok (view x)
Gives view (Err e) read = Fails e read

-- what the program's reader hasn't read
abbrev pub unread : Rest → Unread
unread rest = record { at = rest.at; bytes = rest.bytes.now }
