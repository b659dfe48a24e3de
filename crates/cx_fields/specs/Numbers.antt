-- Numbers that 32 bits hold, as each of the program's does; where a clause speaks of every value of ghost numbers, this is its premise.
use Rattle.std.specs.Prelude.{ℕ, ◌<◌, ◌^◌, ⊤}
use Rattle.cx_code.specs.declared.code.Instruction.{Instruction}
use Rattle.cx_code.specs.declared.code.Region.{Region}
use Rattle.cx_code.specs.declared.image.Initial.{Initial}
use Rattle.cx_code.specs.declared.image.Initial.TheVariants as initials
use Rattle.cx_code.specs.declared.image.Assertion.{Assertion}

abbrev pub IsWord : ℕ → Type 0
IsWord n = n < 2 ^ 32

pub record OfWords (i : Instruction) : Type 0 where
  pub a : IsWord i.a
  pub b : IsWord i.b

pub record OfPlaces (r : Region) : Type 0 where
  pub start : IsWord r.start
  pub end : IsWord r.end
  pub of : IsWord r.of
  pub target : IsWord r.target
  pub depth : IsWord r.depth

abbrev pub OfHalves : Initial → Type 0
OfHalves (initials.Number high low) = IsWord high × IsWord low
OfHalves initials.Null = ⊤

pub record OfPosition (a : Assertion) : Type 0 where
  pub ordinal : IsWord a.ordinal
  pub line : IsWord a.line
  pub column : IsWord a.column
