-- What clap gives for the words is what is defined of them.
use Rattle.std.proofs.Common.{◌≡◌, ◌∙◌, refl, sym, ap, subst, inl, inr, true, List, ℕ, [], ◌∷◌, Some, None}
use Rattle.clap.specs.Words.{App, HasMatchesOf, found_of, kind_of, matches_of, rows_of}
use Rattle.clap.specs.Simple.{is_simple}
use Rattle.clap.specs.Faults.{fault_of, is_simple_and_free}
use Rattle.clap.specs.Kinds.{HasKind, IsAmong, Kinds}
use Rattle.clap.specs.declared.error.Error.{Error}
use Rattle.clap.specs.declared.error.kind.ErrorKind.{ErrorKind}
use Rattle.clap.specs.declared.error.kind.ErrorKind.TheVariants as kind
use Rattle.clap.specs.declared.parser.matches.ArgMatches.{ArgMatches}
use Rattle.clap.proofs.OnLiterals.{clap_on_literals}
use Rattle.cx_words.specs.Command.{command}
use Rattle.cx_words.specs.Words.{Given, given_in, given_of, unless_refused}

command_is_simple : is_simple command ≡ true
unfolding clap_on_literals
command_is_simple = refl

command_is_free : is_simple_and_free command ≡ true
unfolding clap_on_literals
command_is_free = refl

-- words that clap takes
pub taken : (a : App) (words : List (List ℕ)) (m : ArgMatches) → a ≡ command → (is_simple_and_free a ≡ true → fault_of a words ≡ [])
    → HasMatchesOf a words m → given_of words ≡ Some (given_in (rows_of (found_of m)))
unfolding given_of
taken a words m is faultless matches =
    let none : fault_of command words ≡ [] = subst (λ (x : App). is_simple_and_free x ≡ true → fault_of x words ≡ []) is faultless command_is_free in
    let rows : rows_of (found_of m) ≡ matches_of command words = (subst (λ (x : App). HasMatchesOf x words m) is matches command_is_simple).0 in
    ap (λ kinds. unless_refused kinds (given_in (matches_of command words))) none ∙ ap (λ found. Some (given_in found)) (sym rows)

some_kind : (k : ErrorKind) (kinds : Kinds) (given : Given) → IsAmong k kinds → unless_refused kinds given ≡ None
some_kind k [] given h = absurd h
some_kind k (kind ∷ kinds) given h = refl

-- words that clap refuses
pub refused : (a : App) (words : List (List ℕ)) (e : Error) → a ≡ command → (is_simple_and_free a ≡ true → HasKind (fault_of a words) e)
    → (kind_of e ≡ kind.OutOfMemory → ⊥) → given_of words ≡ None
unfolding given_of
refused a words e is kinds other =
    elim (subst (λ (x : App). is_simple_and_free x ≡ true → HasKind (fault_of x words) e) is kinds command_is_free) [
      | inl memory ↦ absurd (other memory)
      | inr among ↦ some_kind (kind_of e) (fault_of command words) (given_in (matches_of command words)) among
    ]
