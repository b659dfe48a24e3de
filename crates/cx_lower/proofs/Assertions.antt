-- The assertions of the image of a unit are those of the unit's table, and the place of each is found by its name.
use Rattle.std.proofs.Common.{◌≡◌, ℕ, zero, suc, ◌+◌, ◌^◌, ◌≤◌, List, [], ◌∷◌, ◌++◌, length, drop, Some, true, false, cond, inl, inr, refl, sym, ap, subst, ◌∙◌, arith, codes, add-one}
use Rattle.std.specs.Prelude.{slice_get}
use Rattle.std.specs.Fmt.{decimal}
use Rattle.std.specs.Str.{bytes_eq}
use Rattle.std.proofs.lemmas.Bool.{cases_Bool}
use Rattle.std.proofs.lemmas.Fmt.{decimal_injective}
use Rattle.std.proofs.lemmas.List.{append_cancel_left, length-map}
use Rattle.std.proofs.Math.Seq.{drop-append_seam}
use Rattle.std.proofs.lemmas.Option.{slice_get_within}
use Rattle.std.proofs.lemmas.Slice.Eq.{bytes_eq-Decides}
use Rattle.cx_code.specs.declared.image.Image.{Image}
use Rattle.cx_code.specs.Violation.{text_at, name_of}
use Rattle.cx_core.specs.declared.unit.CoreUnit.{CoreUnit}
use Rattle.cx_core.specs.declared.unit.Assertion.{Assertion}
use Rattle.cx_core.specs.View.{assertion_of}
use Rattle.cx_core.specs.Tree as tree
use Rattle.cx_core.specs.Tree.{Stmts, Check}
use Rattle.cx_core.specs.Words.{Assert}
use Rattle.cx_emit.specs.Checks.{IsAssertion}
use Rattle.cx_typed.specs.Built.{most_weight}
use Rattle.cx_typed.specs.Typed.{IsListed}
use Rattle.cx_typed.specs.Unit.{AreNumbered}
use Rattle.cx_lower.specs.Tables.{comments_of, other_files, entry_of, entries_of, index_of, image_of, image_with}

-- ---- names

abbrev name_at : ℕ → List ℕ
name_at ordinal = codes "main#assert" ++ decimal ordinal

named_at : (ordinal : ℕ) (assertions : List Assertion) (i : ℕ) (e : Assertion) → AreNumbered ordinal assertions → slice_get assertions i ≡ Some e → e.name ≡ name_at (ordinal + i)
named_at ordinal [] i e numbered at = absurd cc
named_at ordinal (a ∷ more) zero e numbered at =
    let same : a ≡ e = cc in
    let number : ordinal ≡ ordinal + 0 = omega arith in
    ap (λ (x : Assertion). x.name) (sym same) ∙ numbered.1 ∙ ap name_at number
named_at ordinal (a ∷ more) (suc i) e numbered at =
    let number : ordinal + 1 + i ≡ ordinal + suc i = omega arith in
    named_at (ordinal + 1) more i e numbered.2 at ∙ ap name_at number

-- the names of a numbered table differ
pub index_is : (ordinal : ℕ) (assertions : List Assertion) (i : ℕ) (e : Assertion) → AreNumbered ordinal assertions → ordinal + length assertions ≤ 2 ^ 64 → slice_get assertions i ≡ Some e → index_of assertions e.name ≡ i
index_is ordinal [] i e numbered few at = absurd cc
index_is ordinal (a ∷ more) zero e numbered few at =
    let same : a ≡ e = cc in
    let equal : bytes_eq a.name e.name ≡ true = (bytes_eq-Decides a.name e.name).1 (ap (λ (x : Assertion). x.name) same) in
    rw equal refl
index_is ordinal (a ∷ more) (suc i) e numbered few at =
    elim (cases_Bool (bytes_eq a.name e.name)) [
      | inl equal ↦
          let below = slice_get_within more i e at in
          let same : name_at ordinal ≡ name_at (ordinal + 1 + i) = sym numbered.1 ∙ (bytes_eq-Decides a.name e.name).0 equal ∙ named_at (ordinal + 1) more i e numbered.2 at in
          let twice : ordinal ≡ ordinal + 1 + i = decimal_injective ordinal (ordinal + 1 + i) (omega arith) (omega arith) (append_cancel_left (codes "main#assert") (decimal ordinal) (decimal (ordinal + 1 + i)) same) in
          absurd (omega (arith, twice))
      | inr other ↦ rw other (ap suc (index_is (ordinal + 1) more i e numbered.2 (omega arith) at))
    ]

-- ---- entries

-- the image's assertions from an index on are these
abbrev AreAssertions : Image → (index : ℕ) → List Assertion → Type 0
AreAssertions image index [] = Unit {0}
AreAssertions image index (a ∷ more) = IsAssertion image index (assertion_of a) × AreAssertions image (index + 1) more

-- the first of those that are left
next_of : {X : Type 0} (xs : List X) (at : ℕ) (first : X) (rest : List X) → drop at xs ≡ first ∷ rest → (slice_get xs at ≡ Some first) × (drop (suc at) xs ≡ rest)
next_of [] zero first rest e = absurd cc
next_of [] (suc at) first rest e = absurd cc
next_of (x ∷ xs) zero first rest e = let head : Some x ≡ Some first = cc in let tail : xs ≡ rest = cc in (head, tail)
next_of (x ∷ xs) (suc at) first rest e = next_of xs at first rest e

entry_tells : (image : Image) (index file ordinal : ℕ) (a : Assertion) → slice_get image.assertions index ≡ Some (entry_of file ordinal a) → text_at image file ≡ a.file → text_at image ordinal ≡ a.comment → name_of (slice_get image.functions 0) ≡ codes "main"
    → a.kind ≡ Assert → a.name ≡ name_at ordinal → IsAssertion image index (assertion_of a)
entry_tells image index file ordinal a at names comments main kind name = record {
  same_name = rw (at, main, name) refl;
  same_violation = λ mode semantic. rw (at, names, comments, main, kind, name) refl;
}

entries_tell : (image : Image) (name : List ℕ) (other ordinal index : ℕ) (assertions : List Assertion) (rest : List (List ℕ)) → name_of (slice_get image.functions 0) ≡ codes "main" → text_at image 0 ≡ name → AreNumbered ordinal assertions
    → drop ordinal image.texts ≡ comments_of assertions ++ rest → drop other image.texts ≡ other_files name assertions → drop index image.assertions ≡ entries_of name other ordinal assertions
    → AreAssertions image index assertions
entries_tell image name other ordinal index [] rest main own numbered comments files entries = tt
entries_tell image name other ordinal index (a ∷ more) rest main own numbered comments files entries =
    let comment = next_of image.texts ordinal a.comment (comments_of more ++ rest) comments in
    let told : text_at image ordinal ≡ a.comment = rw comment.0 refl in
    let later : drop (ordinal + 1) image.texts ≡ comments_of more ++ rest = rw add-one comment.1 in
    let own_entries = entry_of 0 ordinal a ∷ entries_of name other (ordinal + 1) more in
    let other_entries = entry_of other ordinal a ∷ entries_of name (other + 1) (ordinal + 1) more in
    let next_index : index + 1 ≡ suc index = add-one index in
    let cases =
    elim (bytes_eq a.file name) as (λ v. bytes_eq a.file name ≡ v → drop other image.texts ≡ cond v (other_files name more) (a.file ∷ other_files name more) → drop index image.assertions ≡ cond v own_entries other_entries → AreAssertions image index (a ∷ more)) [
      | true ↦ λ is left entered.
          let entry = next_of image.assertions index (entry_of 0 ordinal a) (entries_of name other (ordinal + 1) more) entered in
          let entries_then : drop (index + 1) image.assertions ≡ entries_of name other (ordinal + 1) more = rw next_index entry.1 in
          (entry_tells image index 0 ordinal a entry.0 (own ∙ sym ((bytes_eq-Decides a.file name).0 is)) told main numbered.0 numbered.1, entries_tell image name other (ordinal + 1) (index + 1) more rest main own numbered.2 later left entries_then)
      | false ↦ λ is left entered.
          let file = next_of image.texts other a.file (other_files name more) left in
          let named : text_at image other ≡ a.file = rw file.0 refl in
          let left_then : drop (other + 1) image.texts ≡ other_files name more = rw add-one file.1 in
          let entry = next_of image.assertions index (entry_of other ordinal a) (entries_of name (other + 1) (ordinal + 1) more) entered in
          let entries_then : drop (index + 1) image.assertions ≡ entries_of name (other + 1) (ordinal + 1) more = rw next_index entry.1 in
          (entry_tells image index other ordinal a entry.0 named told main numbered.0 numbered.1, entries_tell image name (other + 1) (ordinal + 1) (index + 1) more rest main own numbered.2 later left_then entries_then)
    ] in
    cases refl files entries

assertion_at : (image : Image) (index : ℕ) (assertions : List Assertion) (i : ℕ) (e : Assertion) → AreAssertions image index assertions → slice_get assertions i ≡ Some e → IsAssertion image (index + i) (assertion_of e)
assertion_at image index [] i e are at = absurd cc
assertion_at image index (a ∷ more) zero e are at =
    let same : a ≡ e = cc in
    let place : index ≡ index + 0 = omega arith in
    subst (λ (k : ℕ). IsAssertion image k (assertion_of e)) place (subst (λ (x : Assertion). IsAssertion image index (assertion_of x)) same are.0)
assertion_at image index (a ∷ more) (suc i) e are at =
    let place : index + 1 + i ≡ index + suc i = omega arith in
    subst (λ (k : ℕ). IsAssertion image k (assertion_of e)) place (assertion_at image (index + 1) more i e are.1 at)

are_assertions : (unit : CoreUnit) (b : Stmts Check) → AreNumbered 1 unit.assertions → AreAssertions (image_of unit b) 0 unit.assertions
unfolding image_with
are_assertions unit b numbered =
    let comments = comments_of unit.assertions in
    let files = other_files unit.name unit.assertions in
    let count : length unit.assertions + 1 ≡ suc (length comments) = omega (arith, length-map unit.assertions (λ (a : Assertion). a.comment)) in
    let behind : drop (length unit.assertions + 1) (unit.name ∷ (comments ++ files)) ≡ files = rw count (drop-append_seam comments files) in
    entries_tell (image_of unit b) unit.name (length unit.assertions + 1) 1 0 unit.assertions files refl refl numbered refl behind refl

-- a listed assertion is the image's at the place that its name gives
pub listed_is : (unit : CoreUnit) (b : Stmts Check) → AreNumbered 1 unit.assertions → length unit.assertions ≤ most_weight → (a : tree.Assertion) → IsListed unit.assertions a → IsAssertion (image_of unit b) (index_of unit.assertions a.name) a
listed_is unit b numbered few a listed =
    let i = listed.0 in
    let e = listed.1 in
    let place : 0 + i ≡ index_of unit.assertions e.name = omega (arith, index_is 1 unit.assertions i e numbered (omega (arith, few)) listed.2) in
    let told = subst (λ (k : ℕ). IsAssertion (image_of unit b) k (assertion_of e)) place (assertion_at (image_of unit b) 0 unit.assertions i e (are_assertions unit b numbered) listed.2) in
    subst (λ (x : tree.Assertion). IsAssertion (image_of unit b) (index_of unit.assertions x.name) x) (sym listed.3) told
