-- A file can hold the image of a unit.
use Rattle.std.proofs.Common.{◌≡◌, ℕ, suc, ◌+◌, ◌*◌, ◌<◌, ◌≤◌, List, [], ◌∷◌, ◌++◌, length, ap, ◌∙◌, arith, length-append, lit≤, lit<, true, false, cond, codes, refl}
use Rattle.std.specs.Prelude.{sum_by}
use Rattle.std.specs.List.{flat_map, AllByRecursion}
use Rattle.std.specs.Str.{bytes_eq}
use Rattle.std.proofs.lemmas.Grind.{flat_map-append}
use Rattle.std.proofs.lemmas.List.{length-map}
use Rattle.std.proofs.lemmas.List.Sums.{sum_by-cons}
use Rattle.std.proofs.lemmas.List.Elements.{All-from_recursion, All-nil, All-cons, All-append, All-weaker}
use Rattle.cx_code.specs.declared.code.Instruction.{Instruction}
use Rattle.cx_code.specs.declared.image.Image.{Image}
use Rattle.cx_code.specs.declared.image.Assertion as entry
use Rattle.cx_code.specs.declared.image.Function.{Function}
use Rattle.cx_code.specs.Spelling.{number, text, assertion, image_spelling}
use Rattle.cx_code.specs.Spelling as encoded
use Rattle.cx_code.specs.Storable.{IsShort, IsStorable, IsStorableType, IsStorableGlobal, IsStorableRegion, IsStorableFunction, IsStorableAssertion}
use Rattle.cx_core.specs.declared.unit.CoreUnit.{CoreUnit}
use Rattle.cx_core.specs.declared.unit.Assertion.{Assertion}
use Rattle.cx_core.specs.Tree.{Stmts, Check}
use Rattle.cx_typed.specs.Weight.{stmts_weight}
use Rattle.cx_typed.specs.Built.{most_weight, most_comments, longest_name}
use Rattle.cx_lower.specs.Code.{body_code, check_code}
use Rattle.cx_lower.specs.Tables.{comments_of, other_files, entry_of, entries_of, index_of, main_function, body_function, image_of, image_with}
use Rattle.cx_lower.proofs.Lengths.{length_body, short_check, few_stmts}

-- it has few and short statements and assertions
pub record IsSmall (unit : CoreUnit) (b : Stmts Check) : Type 0 where
  pub light : stmts_weight b ≤ most_weight
  pub few_assertions : length unit.assertions ≤ most_weight
  pub comments : sum_by (λ (a : Assertion). length a.comment) unit.assertions ≤ most_comments
  pub files : AllByRecursion (λ (a : Assertion). length a.file ≤ longest_name) unit.assertions
  pub name : length unit.name ≤ longest_name

-- ---- lists

-- the length of a list of fields that are each no longer than a number
length_fields : {X : Type 0} (field : X → List ℕ) (most : ℕ) (xs : List X) → AllByRecursion (λ x. length (field x) ≤ most) xs → length (flat_map field xs) ≤ most * length xs
length_fields field most [] each = omega arith
length_fields field most (x ∷ xs) each = omega (arith, each.0, length_fields field most xs each.1, length-append (field x) (flat_map field xs))

-- ---- numbers and texts

length_number : (n : ℕ) → length (number n) ≡ 4
unfolding number
length_number n = refl

length_text : (bytes : List ℕ) → length (text bytes) ≡ 4 + length bytes
length_text bytes = omega (arith, length-append (number (length bytes)) bytes, length_number (length bytes))

length_list : {X : Type 0} (field : X → List ℕ) (xs : List X) → length (encoded.list field xs) ≡ 4 + length (flat_map field xs)
length_list field xs = omega (arith, length-append (number (length xs)) (flat_map field xs), length_number (length xs))

-- each comment is no longer than all of them
short_comments : (most : ℕ) (assertions : List Assertion) → sum_by (λ (a : Assertion). length a.comment) assertions ≤ most → AllByRecursion (λ (bytes : List ℕ). length bytes ≤ most) (comments_of assertions)
short_comments most [] le = tt
short_comments most (a ∷ assertions) le =
    let sum = sum_by-cons (λ (a : Assertion). length a.comment) a assertions in
    (omega (arith, sum), short_comments most assertions (omega (arith, sum)))

length_comments : (assertions : List Assertion) → length (flat_map text (comments_of assertions)) ≡ 4 * length assertions + sum_by (λ (a : Assertion). length a.comment) assertions
length_comments [] = refl
length_comments (a ∷ assertions) =
    omega (arith, length_comments assertions, sum_by-cons (λ (a : Assertion). length a.comment) a assertions, length_text a.comment, length-append (text a.comment) (flat_map text (comments_of assertions)))

-- the names of other files are short
short_files : (name : List ℕ) (most : ℕ) (assertions : List Assertion) → AllByRecursion (λ (a : Assertion). length a.file ≤ most) assertions → AllByRecursion (λ (bytes : List ℕ). length bytes ≤ most) (other_files name assertions)
short_files name most [] each = tt
short_files name most (a ∷ assertions) each =
    let rest = short_files name most assertions each.1 in
    elim (bytes_eq a.file name) as (λ v. AllByRecursion (λ (bytes : List ℕ). length bytes ≤ most) (cond v (other_files name assertions) (a.file ∷ other_files name assertions)))
    [ true ↦ rest | false ↦ (each.0, rest) ]

-- and there are at most as many as assertions
few_files : (name : List ℕ) (assertions : List Assertion) → length (other_files name assertions) ≤ length assertions
few_files name [] = omega arith
few_files name (a ∷ assertions) =
    elim (bytes_eq a.file name) as (λ v. length (cond v (other_files name assertions) (a.file ∷ other_files name assertions)) ≤ suc (length assertions))
    [ true ↦ omega (arith, few_files name assertions) | false ↦ omega (arith, few_files name assertions) ]

few_comments : (assertions : List Assertion) → length (comments_of assertions) ≡ length assertions
few_comments assertions = length-map assertions (λ (a : Assertion). a.comment)

-- texts that are no longer than a number
length_texts : (most : ℕ) (texts : List (List ℕ)) → AllByRecursion (λ (bytes : List ℕ). length bytes ≤ most) texts → length (flat_map text texts) ≤ (4 + most) * length texts
length_texts most [] each = omega arith
length_texts most (t ∷ ts) each = omega (arith, each.0, length_text t, length_texts most ts each.1, length-append (text t) (flat_map text ts))

-- ---- assertions

pub length_entries : (name : List ℕ) (other ordinal : ℕ) (assertions : List Assertion) → length (entries_of name other ordinal assertions) ≡ length assertions
length_entries name other ordinal [] = refl
length_entries name other ordinal (a ∷ assertions) =
    elim (bytes_eq a.file name) as (λ v. length (cond v (entry_of 0 ordinal a ∷ entries_of name other (ordinal + 1) assertions) (entry_of other ordinal a ∷ entries_of name (other + 1) (ordinal + 1) assertions)) ≡ suc (length assertions))
    [ true ↦ ap suc (length_entries name other (ordinal + 1) assertions) | false ↦ ap suc (length_entries name (other + 1) (ordinal + 1) assertions) ]

each_entry_short : (name : List ℕ) (other ordinal : ℕ) (assertions : List Assertion) → AllByRecursion (λ (e : entry.Assertion). length (assertion e) ≤ 25) (entries_of name other ordinal assertions)
unfolding number
each_entry_short name other ordinal [] = tt
each_entry_short name other ordinal (a ∷ assertions) =
    elim (bytes_eq a.file name)
    as (λ v. AllByRecursion (λ (e : entry.Assertion). length (assertion e) ≤ 25) (cond v (entry_of 0 ordinal a ∷ entries_of name other (ordinal + 1) assertions) (entry_of other ordinal a ∷ entries_of name (other + 1) (ordinal + 1) assertions)))
    [ true ↦ (lit≤ tt, each_entry_short name other (ordinal + 1) assertions) | false ↦ (lit≤ tt, each_entry_short name (other + 1) (ordinal + 1) assertions) ]

each_entry_stored : (image : Image) (name : List ℕ) (other ordinal : ℕ) (assertions : List Assertion) → 1 ≤ ordinal → ordinal + length assertions ≤ other → other + length (other_files name assertions) ≤ length image.texts → 0 < length image.functions
    → AllByRecursion (IsStorableAssertion image) (entries_of name other ordinal assertions)
each_entry_stored image name other ordinal [] some le room main = tt
each_entry_stored image name other ordinal (a ∷ assertions) some le room main =
    let own = entry_of 0 ordinal a ∷ entries_of name other (ordinal + 1) assertions in
    let others = entry_of other ordinal a ∷ entries_of name (other + 1) (ordinal + 1) assertions in
    let cases =
    elim (bytes_eq a.file name) as (λ v. other + length (cond v (other_files name assertions) (a.file ∷ other_files name assertions)) ≤ length image.texts → AllByRecursion (IsStorableAssertion image) (cond v own others)) [
      | true ↦ λ h. (record { function = main; ordinal = some; file = omega arith; comment = omega arith }, each_entry_stored image name other (ordinal + 1) assertions (omega arith) (omega arith) h main)
      | false ↦ λ h. (record { function = main; ordinal = some; file = omega arith; comment = omega arith }, each_entry_stored image name (other + 1) (ordinal + 1) assertions (omega arith) (omega arith) (omega arith) main)
    ] in
    cases room

-- ---- functions

each_instruction_short : (code : List Instruction) → AllByRecursion (λ (i : Instruction). length (encoded.instruction i) ≤ 9) code
unfolding number
each_instruction_short [] = tt
each_instruction_short (i ∷ is) = (lit≤ tt, each_instruction_short is)

main_stored : IsStorableFunction main_function
main_stored = record {
  name = lit≤ tt;
  parameters = lit≤ tt;
  slots = lit≤ tt;
  code = lit≤ tt;
  regions = lit< tt;
  each_region = All-nil IsStorableRegion;
}

body_stored : (index : List ℕ → ℕ) (b : Stmts Check) → stmts_weight b ≤ most_weight → IsStorableFunction (body_function (check_code index) b)
body_stored index b light = record {
  name = lit≤ tt;
  parameters = omega arith;
  slots = omega (arith, few_stmts b 0);
  code = omega (arith, length_body (check_code index) (short_check index) b);
  regions = lit< tt;
  each_region = All-nil IsStorableRegion;
}

length_7 : (a b c d e f g : List ℕ) → length (a ++ b ++ c ++ d ++ e ++ f ++ g) ≡ length a + length b + length c + length d + length e + length f + length g
length_7 a b c d e f g =
    omega (arith, length-append (a ++ b ++ c ++ d ++ e ++ f) g, length-append (a ++ b ++ c ++ d ++ e) f, length-append (a ++ b ++ c ++ d) e, length-append (a ++ b ++ c) d, length-append (a ++ b) c, length-append a b)

-- a function with a name of at most 5 bytes and without regions
length_function : (function : Function) → length function.name ≤ 5 → function.regions ≡ [] → length (encoded.function function) ≤ 27 + length (flat_map encoded.instruction function.code)
length_function function short none =
    let code = function.code in
    let regions : length (encoded.list encoded.region function.regions) ≡ 4 = rw none (length_list encoded.region []) in
    let whole = length_7 (text function.name) (encoded.flag function.counted) (number function.parameters) (number function.slots) (encoded.flag function.result) (encoded.list encoded.instruction code) (encoded.list encoded.region function.regions) in
    omega (arith, whole, length_text function.name, length_number function.parameters, length_number function.slots, length_list encoded.instruction code, regions)

-- ---- the image

length_spelling : (t u g f a m h : List ℕ) → length (codes "CXIM" ++ (1 ∷ []) ++ t ++ u ++ g ++ f ++ a ++ m ++ h) ≡ 5 + (length t + length u + length g + length f + length a + length m + length h)
length_spelling t u g f a m h =
    let front = codes "CXIM" ++ 1 ∷ [] in
    omega (arith, length-append (front ++ t ++ u ++ g ++ f ++ a ++ m) h, length-append (front ++ t ++ u ++ g ++ f ++ a) m, length-append (front ++ t ++ u ++ g ++ f) a, length-append (front ++ t ++ u ++ g) f, length-append (front ++ t ++ u) g, length-append (front ++ t) u, length-append front t)

module _ (unit : CoreUnit) (b : Stmts Check) (small : IsSmall unit b) where
  abbrev comments : List (List ℕ)
  comments = comments_of unit.assertions

  abbrev files : List (List ℕ)
  files = other_files unit.name unit.assertions

  abbrev entries : List entry.Assertion
  entries = entries_of unit.name (length unit.assertions + 1) 1 unit.assertions

  abbrev index : List ℕ → ℕ
  index = index_of unit.assertions

  texts_fit : length (encoded.list text (unit.name ∷ (comments ++ files))) ≤ 20000000
  texts_fit =
      let file_texts = length_texts 1024 files (short_files unit.name 1024 unit.assertions small.files) in
      let files_short : length (flat_map text files) ≤ 5000000 = omega (arith, file_texts, few_files unit.name unit.assertions, small.few_assertions) in
      let comments_short : length (flat_map text comments) ≤ 10000000 = omega (arith, length_comments unit.assertions, small.comments, small.few_assertions) in
      let both_texts : length (flat_map text (comments ++ files)) ≡ length (flat_map text comments) + length (flat_map text files) = ap length (flat_map-append text comments files) ∙ length-append (flat_map text comments) (flat_map text files) in
      omega (arith, length_list text (unit.name ∷ (comments ++ files)), length-append (text unit.name) (flat_map text (comments ++ files)), length_text unit.name, small.name, both_texts, comments_short, files_short)

  functions_fit : length (encoded.list encoded.function (main_function ∷ body_function (check_code index) b ∷ [])) ≤ 1000000
  functions_fit =
      let body = body_function (check_code index) b in
      let main_code = length_fields encoded.instruction 9 main_function.code (each_instruction_short main_function.code) in
      let body_is = length_fields encoded.instruction 9 (body_code (check_code index) b) (each_instruction_short (body_code (check_code index) b)) in
      omega (arith, length_list encoded.function (main_function ∷ body ∷ []), length-append (encoded.function main_function) (flat_map encoded.function (body ∷ [])), length-append (encoded.function body) [], length_function main_function (lit≤ tt) refl, length_function body (lit≤ tt) refl, main_code, body_is, length_body (check_code index) (short_check index) b, small.light)

  entries_fit : length (encoded.list assertion entries) ≤ 200000
  entries_fit =
      omega (arith, length_list assertion entries, length_fields assertion 25 entries (each_entry_short unit.name (length unit.assertions + 1) 1 unit.assertions), length_entries unit.name (length unit.assertions + 1) 1 unit.assertions, small.few_assertions)

  bytes_fit : IsShort (image_spelling (image_of unit b))
  unfolding image_spelling image_with
  bytes_fit =
      let texts = encoded.list text (unit.name ∷ (comments ++ files)) in
      let types = encoded.list encoded.type_entry [] in
      let globals = encoded.list encoded.global [] in
      let functions = encoded.list encoded.function (main_function ∷ body_function (check_code index) b ∷ []) in
      let whole = length_spelling texts types globals functions (encoded.list assertion entries) (number 0) (number 0) in
      omega (arith, whole, texts_fit, functions_fit, entries_fit, length_list encoded.type_entry [], length_list encoded.global [], length_number 0)

  pub is_storable : IsStorable (image_of unit b)
  unfolding image_with
  is_storable =
      let image = image_of unit b in
      let other = length unit.assertions + 1 in
      let all = length-append comments files in
      let count = few_comments unit.assertions in
      let comments_short = All-from_recursion IsShort comments (short_comments 134217728 unit.assertions (omega (arith, small.comments))) in
      let files_all = All-from_recursion (λ (bytes : List ℕ). length bytes ≤ 1024) files (short_files unit.name 1024 unit.assertions small.files) in
      let files_short = All-weaker (λ (bytes : List ℕ). length bytes ≤ 1024) IsShort (λ bytes le. omega arith) files files_all in
      record {
        texts = omega (arith, count, small.few_assertions, all, few_files unit.name unit.assertions);
        each_text = All-cons IsShort unit.name (comments ++ files) (omega (arith, small.name)) (All-append IsShort comments files comments_short files_short);
        types = lit< tt;
        each_type = All-nil (IsStorableType image);
        globals = lit< tt;
        each_global = All-nil IsStorableGlobal;
        functions = lit≤ tt;
        each_function = All-from_recursion IsStorableFunction (main_function ∷ body_function (check_code index) b ∷ []) (main_stored, (body_stored index b small.light, tt));
        instructions = omega (arith, length_body (check_code index) (short_check index) b, small.light);
        assertions = omega (arith, length_entries unit.name other 1 unit.assertions, small.few_assertions);
        each_assertion = All-from_recursion (IsStorableAssertion image) entries (each_entry_stored image unit.name other 1 unit.assertions (lit≤ tt) (omega arith) (omega (arith, count, all)) (lit< tt));
        main = lit< tt;
        handler = lit≤ tt;
        bytes = bytes_fit;
      }
