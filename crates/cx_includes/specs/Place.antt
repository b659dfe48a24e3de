-- The lines and columns of the bytes of a file; this project's own.
use Rattle.std.specs.Prelude.{ℕ, ◌+◌, ◌==◌, List, [], ◌∷◌, take, count_by, if◌then◌else◌}
use Rattle.cx_lexer.specs.Bytes.{newline}
use Rattle.cx_includes.specs.declared.part.Spot.{Spot}

-- the line of a place, from 1
abbrev pub line_at : List ℕ → ℕ → ℕ
line_at text place = 1 + count_by (λ byte. byte == newline) (take place text)

-- how many bytes come after the last newline
abbrev pub bytes_since_newline : ℕ → List ℕ → ℕ
bytes_since_newline since [] = since
bytes_since_newline since (byte ∷ bytes) = bytes_since_newline (if byte == newline then 0 else since + 1) bytes

-- the column of a place, from 1, in bytes
abbrev pub column_at : List ℕ → ℕ → ℕ
column_at text place = 1 + bytes_since_newline 0 (take place text)

abbrev pub spot_at : List ℕ → ℕ → Spot
spot_at text place = record { line = line_at text place; column = column_at text place }
