-- What is taken for a unit makes its assembled list: each file is told, and there are no more tokens than bytes.
use Rattle.std.proofs.Common.{◌≡◌, ℕ, suc, ◌+◌, ◌≤◌, List, [], ◌∷◌, ◌++◌, Some, length, map, refl, sym, ap, subst, arith, inl, inr, ⊎_elim}
use Rattle.std.specs.Prelude.{is_some, position}
use Rattle.std.specs.List.{All}
use Rattle.std.specs.Str.{bytes_eq}
use Rattle.std.proofs.lemmas.Bool.{cond_both}
use Rattle.std.proofs.lemmas.List.{length_push}
use Rattle.std.proofs.lemmas.List.Elements.{All-cons, All-head, All-nil, All-push, All-tail}
use Rattle.cx_outside.specs.Folder.{Folder}
use Rattle.cx_includes.specs.declared.assembled.Assembled.{Assembled}
use Rattle.cx_syntax.specs.declared.token.Token.{Token}
use Rattle.cx_includes.specs.declared.assembled.Placed.{Placed}
use Rattle.cx_includes.specs.declared.assembled.SourceFile.{SourceFile}
use Rattle.cx_includes.specs.declared.part.Directive.TheVariants as directives
use Rattle.cx_includes.specs.declared.part.Part.{Part}
use Rattle.cx_includes.specs.declared.part.Part.TheVariants as parts
use Rattle.cx_includes.specs.declared.part.Spot.{Spot}
use Rattle.cx_includes.specs.Directive.{name_in}
use Rattle.cx_includes.specs.Unit.{IsAssembled, Taken, Takes, index_of, most_bytes, nothing_taken, opened, with_file}
use Rattle.cx_includes.specs.Assembled.{IsListOf}
use Rattle.cx_judged.specs.Laws.{ListOrFault}
use Rattle.cx_judged.proofs.Readings.{few_tokens, tokens_in, tokens_push}
use Rattle.cx_judged.proofs.Assemblies.{unit_ends}

abbrev placed_at : Taken → List ℕ → Token → Spot → Placed
placed_at now name token spot = record { token = token; file = index_of now.files name; line = spot.line; column = spot.column }

module _ (folder : Folder) where
  abbrev IsTold : List ℕ → Type 0
  IsTold name = (text : List ℕ) × (folder name ≡ Some text)

  told_with : (files : List (List ℕ)) (name : List ℕ) → All IsTold files → IsTold name → All IsTold (with_file files name)
  told_with files name all told = cond_both (is_some (position (bytes_eq name) files)) files (files ++ name ∷ []) (All IsTold) (λ before. all) (λ first. All-push IsTold files name all told)

  -- what is kept while parts are taken
  record Kept (all : List Part) (before after : Taken) : Type 0 where
    told : All IsTold before.files → All IsTold after.files
    small : before.bytes ≤ most_bytes → after.bytes ≤ most_bytes
    few : length after.tokens + before.bytes ≤ length before.tokens + tokens_in all + after.bytes

  kept : (depth : ℕ) (name text : List ℕ) (all : List Part) (before after : Taken) → Takes folder depth name text all before after → Kept all before after
  kept depth name text all before after Takes.none = record { told = λ h. h; small = λ h. h; few = omega arith }
  kept depth name text all before after (Takes.token {front = front} {now = now} token spot so_far) =
      let one = kept depth name text front before now so_far in
      let more = tokens_push front (parts.Token token spot) in
      let longer = length_push now.tokens (placed_at now name token spot) in
      record { told = one.told; small = one.small; few = let few = one.few in omega (arith, longer) }
  kept depth name text all before after (Takes.once {front = front} {now = now} line so_far) =
      let one = kept depth name text front before now so_far in
      let more = tokens_push front (parts.Line directives.Once line) in
      record { told = one.told; small = one.small; few = let few = one.few in omega arith }
  kept depth name text all before after (Takes.contracts {front = front} {now = now} line so_far) =
      let one = kept depth name text front before now so_far in
      let more = tokens_push front (parts.Line directives.Contracts line) in
      record { told = one.told; small = one.small; few = let few = one.few in omega arith }
  kept depth name text all before after (Takes.cstdio {front = front} {now = now} line so_far) =
      let one = kept depth name text front before now so_far in
      let more = tokens_push front (parts.Line directives.Cstdio line) in
      record { told = one.told; small = one.small; few = let few = one.few in omega arith }
  kept depth name text all before after (Takes.again {front = front} {now = now} span line so_far short once) =
      let one = kept depth name text front before now so_far in
      let more = tokens_push front (parts.Line (directives.File span) line) in
      record { told = one.told; small = one.small; few = let few = one.few in omega arith }
  kept depth name text all before after (Takes.include {front = front} {now = now} span line inner own so_far opens reads inside) =
      let one = kept depth name text front before now so_far in
      let more = tokens_push front (parts.Line (directives.File span) line) in
      let two = kept (suc depth) (name_in text span) inner own (opened now (name_in text span) inner) after inside in
      let within = few_tokens inner own reads in
      record {
        told = λ h. two.told (told_with now.files (name_in text span) (one.told h) (inner, opens.told));
        small = λ h. two.small opens.small;
        few = let few = one.few in let fewer = two.few in omega arith;
      }

  -- the files of names that are told
  record Files (names : List (List ℕ)) : Type 0 where
    files : List SourceFile
    named : map (λ (file : SourceFile). file.name) files ≡ names
    texts : All (λ (file : SourceFile). folder file.name ≡ Some file.text) files

  files_of : (names : List (List ℕ)) → All IsTold names → Files names
  files_of [] told = record { files = []; named = refl; texts = All-nil (λ (file : SourceFile). folder file.name ≡ Some file.text) }
  files_of (name ∷ names) told =
      let first = All-head IsTold name names told in
      let rest = files_of names (All-tail IsTold name names told) in
      let file : SourceFile = record { name = name; text = first.0 } in
      record {
        files = file ∷ rest.files;
        named = ap (λ l. name ∷ l) rest.named;
        texts = All-cons (λ (file : SourceFile). folder file.name ≡ Some file.text) file rest.files first.1 rest.texts;
      }

  list_of : (name : List ℕ) (taken : Taken) → IsAssembled folder name taken → (list : Assembled) × IsListOf folder name list
  list_of name taken is =
      let all = kept 0 name is.text is.all (opened nothing_taken name is.text) taken is.takes in
      let told = all.told (told_with [] name (All-nil IsTold) (is.text, is.told)) in
      let within = few_tokens is.text is.all is.reading in
      let own = is.small in
      let small : taken.bytes ≤ most_bytes = all.small (omega arith) in
      let few = all.few in
      let files = files_of taken.files told in
      let list : Assembled = record { files = files.files; placed = taken.tokens; contracts = taken.contracts; cstdio = taken.cstdio; small = omega arith } in (
        list,
        record {
          bytes = taken.bytes;
          assembled = subst (IsAssembled folder name) (λ i. record { files = sym files.named i; bytes = taken.bytes; tokens = taken.tokens; contracts = taken.contracts; cstdio = taken.cstdio }) is;
          texts = files.texts;
        },
      )

pub list_or_fault : ListOrFault
list_or_fault folder name = ⊎_elim (λ assembled. inl (list_of folder name assembled.0 assembled.1)) inr (unit_ends folder name)
