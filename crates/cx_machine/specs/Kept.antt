-- This defines how often an exception is held or pending, and what is noted of that; it is this project's own.
use Rattle.std.specs.Prelude.{ℕ, zero, suc, ◌+◌, ◌-◌, ◌==◌, List, [], ◌∷◌, Option, Some, None, if◌then◌else◌, count_by, sum_by}
use Rattle.std.specs.Map.{count_at}
use Rattle.std.specs.Ordering.{nat_cmp}
use Rattle.std.specs.BTreeMap.{get}
use Rattle.cx_code.specs.State.{Exception, Frame}
use Rattle.cx_machine.specs.declared.kept.Kept.{Kept}

-- how many of some exceptions have a number
abbrev pub times : ℕ → List Exception → ℕ
times number exceptions = count_by (λ (exception : Exception). number == exception.number) exceptions

-- how often an exception is held, or pending in the last frame or in one below it
abbrev pub times_kept : List Exception → List Exception → List Frame → ℕ → ℕ
times_kept held pending below number = times number held + times number pending + sum_by (λ (frame : Frame). times number frame.pending) below

-- a count is noted while it is over zero
abbrev pub over_zero : ℕ → Option ℕ
over_zero zero = None
over_zero (suc n) = Some (suc n)

-- what is to be noted at each number
unfoldable pub counts_due : List Exception → List Exception → List Frame → ℕ → Option ℕ
counts_due held pending below number = over_zero (times_kept held pending below number)

-- what is noted at each number
unfoldable pub counts_in : Kept → ℕ → Option ℕ
counts_in kept number = get nat_cmp kept.counts number

-- the same, but for one number
abbrev pub changed : (ℕ → Option ℕ) → ℕ → Option ℕ → ℕ → Option ℕ
changed counts number now other = if other == number then now else counts other

-- one more or one less for a number
unfoldable pub one_more : (ℕ → Option ℕ) → ℕ → ℕ → Option ℕ
one_more counts number = changed counts number (Some (count_at counts number + 1))

unfoldable pub one_less : (ℕ → Option ℕ) → ℕ → ℕ → Option ℕ
one_less counts number = changed counts number (over_zero (count_at counts number - 1))

-- one less for each of some exceptions
abbrev pub less : (ℕ → Option ℕ) → List Exception → ℕ → Option ℕ
less counts [] = counts
less counts (exception ∷ exceptions) = less (one_less counts exception.number) exceptions
