-- A unit has one list at most, one first fault at most, and not both.
use Rattle.std.proofs.Common.{◌≡◌, ℕ, suc, ◌≤◌, List, [], ◌∷◌, ◌++◌, length, refl, sym, ◌∙◌, ap, subst, arith, append_assoc}
use Rattle.std.proofs.lemmas.List.{append-nil}
use Rattle.std.proofs.lemmas.Option.{same_Some, none-some}
use Rattle.cx_outside.specs.Folder.{Folder}
use Rattle.cx_syntax.specs.declared.token.Token.{Token}
use Rattle.cx_includes.specs.declared.assembly.AssembleFault.{AssembleFault}
use Rattle.cx_includes.specs.declared.part.Directive.TheVariants as directives
use Rattle.cx_includes.specs.declared.part.Part.{Part}
use Rattle.cx_includes.specs.declared.part.Part.TheVariants as parts
use Rattle.cx_includes.specs.declared.part.Spot.{Spot}
use Rattle.cx_includes.specs.declared.part.Span.{Span}
use Rattle.cx_includes.specs.Directive.{name_in}
use Rattle.cx_includes.specs.Parts.{IsReading}
use Rattle.cx_includes.specs.Unit.{Taken, nothing_taken, opened, with_token, with_contracts, with_cstdio, longest_file_name, IsTakenAlready, Opens, Takes, IsAssembled}
use Rattle.cx_includes.specs.Fault.{IsAtFault, Fails, IsFirstFault}
use Rattle.cx_includes.proofs.OneReading.{one_reading}

-- the parts of a file taken from the first one on
data Runs (folder : Folder) : (depth : ℕ) (name text : List ℕ) → List Part → Taken → Taken → Type 0 where
  none : {depth : ℕ} {name text : List ℕ} {a : Taken} → Runs folder depth name text [] a a
  token : {depth : ℕ} {name text : List ℕ} {rest : List Part} {a c : Taken} {token : Token} {spot : Spot} → Runs folder depth name text rest (with_token a name token spot) c → Runs folder depth name text (parts.Token token spot ∷ rest) a c
  once : {depth : ℕ} {name text : List ℕ} {rest : List Part} {a c : Taken} {line : ℕ} → Runs folder depth name text rest a c → Runs folder depth name text (parts.Line directives.Once line ∷ rest) a c
  contracts : {depth : ℕ} {name text : List ℕ} {rest : List Part} {a c : Taken} {line : ℕ} → Runs folder depth name text rest (with_contracts a) c → Runs folder depth name text (parts.Line directives.Contracts line ∷ rest) a c
  cstdio : {depth : ℕ} {name text : List ℕ} {rest : List Part} {a c : Taken} {line : ℕ} → Runs folder depth name text rest (with_cstdio a) c → Runs folder depth name text (parts.Line directives.Cstdio line ∷ rest) a c
  again : {depth : ℕ} {name text : List ℕ} {rest : List Part} {a c : Taken} {span : Span} {line : ℕ} → length (name_in text span) ≤ longest_file_name → IsTakenAlready folder a (name_in text span) → Runs folder depth name text rest a c → Runs folder depth name text (parts.Line (directives.File span) line ∷ rest) a c
  include : {depth : ℕ} {name text : List ℕ} {rest : List Part} {a b c : Taken} {span : Span} {line : ℕ} (inner : List ℕ) (all : List Part) → Opens folder depth a (name_in text span) inner → IsReading inner all
      → Runs folder (suc depth) (name_in text span) inner all (opened a (name_in text span) inner) b → Runs folder depth name text rest b c → Runs folder depth name text (parts.Line (directives.File span) line ∷ rest) a c

-- and up to the first fault
data Breaks (folder : Folder) : (depth : ℕ) (name text : List ℕ) → List Part → Taken → AssembleFault → Type 0 where
  token : {depth : ℕ} {name text : List ℕ} {rest : List Part} {a : Taken} {f : AssembleFault} {token : Token} {spot : Spot} → Breaks folder depth name text rest (with_token a name token spot) f → Breaks folder depth name text (parts.Token token spot ∷ rest) a f
  once : {depth : ℕ} {name text : List ℕ} {rest : List Part} {a : Taken} {f : AssembleFault} {line : ℕ} → Breaks folder depth name text rest a f → Breaks folder depth name text (parts.Line directives.Once line ∷ rest) a f
  contracts : {depth : ℕ} {name text : List ℕ} {rest : List Part} {a : Taken} {f : AssembleFault} {line : ℕ} → Breaks folder depth name text rest (with_contracts a) f → Breaks folder depth name text (parts.Line directives.Contracts line ∷ rest) a f
  cstdio : {depth : ℕ} {name text : List ℕ} {rest : List Part} {a : Taken} {f : AssembleFault} {line : ℕ} → Breaks folder depth name text rest (with_cstdio a) f → Breaks folder depth name text (parts.Line directives.Cstdio line ∷ rest) a f
  again : {depth : ℕ} {name text : List ℕ} {rest : List Part} {a : Taken} {f : AssembleFault} {span : Span} {line : ℕ} → length (name_in text span) ≤ longest_file_name → IsTakenAlready folder a (name_in text span) → Breaks folder depth name text rest a f → Breaks folder depth name text (parts.Line (directives.File span) line ∷ rest) a f
  include : {depth : ℕ} {name text : List ℕ} {rest : List Part} {a b : Taken} {f : AssembleFault} {span : Span} {line : ℕ} (inner : List ℕ) (all : List Part) → Opens folder depth a (name_in text span) inner → IsReading inner all
      → Runs folder (suc depth) (name_in text span) inner all (opened a (name_in text span) inner) b → Breaks folder depth name text rest b f → Breaks folder depth name text (parts.Line (directives.File span) line ∷ rest) a f
  here : {depth : ℕ} {name text : List ℕ} {rest : List Part} {a : Taken} {f : AssembleFault} {part : Part} → IsAtFault folder depth name text a part f → Breaks folder depth name text (part ∷ rest) a f
  within : {depth : ℕ} {name text : List ℕ} {rest : List Part} {a : Taken} {f : AssembleFault} {span : Span} {line : ℕ} (inner : List ℕ) (all : List Part) → Opens folder depth a (name_in text span) inner → IsReading inner all
      → Breaks folder (suc depth) (name_in text span) inner all (opened a (name_in text span) inner) f → Breaks folder depth name text (parts.Line (directives.File span) line ∷ rest) a f

-- ---- from the relations of the definitions

runs_then : (folder : Folder) (depth : ℕ) (name text : List ℕ) (front rest : List Part) (a b c : Taken) → Takes folder depth name text front a b → Runs folder depth name text rest b c → Runs folder depth name text (front ++ rest) a c
runs_then folder depth name text front rest a b c Takes.none run = run
runs_then folder depth name text front rest a b c (Takes.token {front = xs} {now = now} tok spot x) run = subst (λ l. Runs folder depth name text l a c) (sym (append_assoc xs _ rest)) (runs_then folder depth name text xs _ a now c x (Runs.token run))
runs_then folder depth name text front rest a b c (Takes.once {front = xs} {now = now} line x) run = subst (λ l. Runs folder depth name text l a c) (sym (append_assoc xs _ rest)) (runs_then folder depth name text xs _ a now c x (Runs.once {line = line} run))
runs_then folder depth name text front rest a b c (Takes.contracts {front = xs} {now = now} line x) run = subst (λ l. Runs folder depth name text l a c) (sym (append_assoc xs _ rest)) (runs_then folder depth name text xs _ a now c x (Runs.contracts {line = line} run))
runs_then folder depth name text front rest a b c (Takes.cstdio {front = xs} {now = now} line x) run = subst (λ l. Runs folder depth name text l a c) (sym (append_assoc xs _ rest)) (runs_then folder depth name text xs _ a now c x (Runs.cstdio {line = line} run))
runs_then folder depth name text front rest a b c (Takes.again {front = xs} {now = now} span line x short before) run = subst (λ l. Runs folder depth name text l a c) (sym (append_assoc xs _ rest)) (runs_then folder depth name text xs _ a now c x (Runs.again {line = line} short before run))
runs_then folder depth name text front rest a b c (Takes.include {front = xs} {now = now} {after = after} span line inner all x opens reading y) run =
    let whole = subst (λ l. Runs folder (suc depth) (name_in text span) inner l (opened now (name_in text span) inner) after) (append-nil all) (runs_then folder (suc depth) (name_in text span) inner all [] (opened now (name_in text span) inner) after after y Runs.none) in
    subst (λ l. Runs folder depth name text l a c) (sym (append_assoc xs _ rest)) (runs_then folder depth name text xs _ a now c x (Runs.include {line = line} inner all opens reading whole run))

to_runs : (folder : Folder) (depth : ℕ) (name text : List ℕ) (all : List Part) (a b : Taken) → Takes folder depth name text all a b → Runs folder depth name text all a b
to_runs folder depth name text all a b takes = subst (λ l. Runs folder depth name text l a b) (append-nil all) (runs_then folder depth name text all [] a b b takes Runs.none)

breaks_then : (folder : Folder) (depth : ℕ) (name text : List ℕ) (front rest : List Part) (a b : Taken) (f : AssembleFault) → Takes folder depth name text front a b → Breaks folder depth name text rest b f → Breaks folder depth name text (front ++ rest) a f
breaks_then folder depth name text front rest a b f Takes.none run = run
breaks_then folder depth name text front rest a b f (Takes.token {front = xs} {now = now} tok spot x) run = subst (λ l. Breaks folder depth name text l a f) (sym (append_assoc xs _ rest)) (breaks_then folder depth name text xs _ a now f x (Breaks.token run))
breaks_then folder depth name text front rest a b f (Takes.once {front = xs} {now = now} line x) run = subst (λ l. Breaks folder depth name text l a f) (sym (append_assoc xs _ rest)) (breaks_then folder depth name text xs _ a now f x (Breaks.once {line = line} run))
breaks_then folder depth name text front rest a b f (Takes.contracts {front = xs} {now = now} line x) run = subst (λ l. Breaks folder depth name text l a f) (sym (append_assoc xs _ rest)) (breaks_then folder depth name text xs _ a now f x (Breaks.contracts {line = line} run))
breaks_then folder depth name text front rest a b f (Takes.cstdio {front = xs} {now = now} line x) run = subst (λ l. Breaks folder depth name text l a f) (sym (append_assoc xs _ rest)) (breaks_then folder depth name text xs _ a now f x (Breaks.cstdio {line = line} run))
breaks_then folder depth name text front rest a b f (Takes.again {front = xs} {now = now} span line x short before) run = subst (λ l. Breaks folder depth name text l a f) (sym (append_assoc xs _ rest)) (breaks_then folder depth name text xs _ a now f x (Breaks.again {line = line} short before run))
breaks_then folder depth name text front rest a b f (Takes.include {front = xs} {now = now} {after = after} span line inner all x opens reading y) run =
    subst (λ l. Breaks folder depth name text l a f) (sym (append_assoc xs _ rest)) (breaks_then folder depth name text xs _ a now f x (Breaks.include {line = line} inner all opens reading (to_runs folder (suc depth) (name_in text span) inner all (opened now (name_in text span) inner) after y) run))

to_breaks : (folder : Folder) (depth : ℕ) (name text : List ℕ) (all : List Part) (a : Taken) (f : AssembleFault) → Fails folder depth name text all a f → Breaks folder depth name text all a f
to_breaks folder depth name text all a f (Fails.here {front = xs} {part = part} {now = now} rest x at) = breaks_then folder depth name text xs (part ∷ rest) a now f x (Breaks.here at)
to_breaks folder depth name text all a f (Fails.within {front = xs} {now = now} rest span line inner own x opens reading y) =
    breaks_then folder depth name text xs _ a now f x (Breaks.within {line = line} inner own opens reading (to_breaks folder (suc depth) (name_in text span) inner own (opened now (name_in text span) inner) f y))

-- ---- one way

module _ (folder : Folder) where
  same_inner : (depth depth' : ℕ) (a : Taken) (name x y : List ℕ) → Opens folder depth a name x → Opens folder depth' a name y → x ≡ y
  same_inner depth depth' a name x y p q = same_Some x y (sym p.told ∙ q.told)

  same_all : (x y : List ℕ) (v w : List Part) → x ≡ y → IsReading x v → IsReading y w → w ≡ v
  same_all x y v w same p q = one_reading y w v q (subst (λ t. IsReading t v) same p)

  moved_run : (depth : ℕ) (name x y : List ℕ) (v w : List Part) (a b : Taken) → x ≡ y → w ≡ v → Runs folder depth name y w (opened a name y) b → Runs folder depth name x v (opened a name x) b
  moved_run depth name x y v w a b same all run = subst (λ t. Runs folder depth name t v (opened a name t) b) (sym same) (subst (λ l. Runs folder depth name y l (opened a name y) b) all run)

  moved_break : (depth : ℕ) (name x y : List ℕ) (v w : List Part) (a : Taken) (f : AssembleFault) → x ≡ y → w ≡ v → Breaks folder depth name y w (opened a name y) f → Breaks folder depth name x v (opened a name x) f
  moved_break depth name x y v w a f same all run = subst (λ t. Breaks folder depth name t v (opened a name t) f) (sym same) (subst (λ l. Breaks folder depth name y l (opened a name y) f) all run)

  again_no_fault : (depth : ℕ) (name text : List ℕ) (a : Taken) (span : Span) (line : ℕ) (f : AssembleFault) → length (name_in text span) ≤ longest_file_name → IsTakenAlready folder a (name_in text span) → IsAtFault folder depth name text a (parts.Line (directives.File span) line) f → ⊥
  again_no_fault depth name text a span line f short taken_once (IsAtFault.long_name long) = omega arith
  again_no_fault depth name text a span line f short taken_once (IsAtFault.deep fits fresh deep) = fresh taken_once
  again_no_fault depth name text a span line f short taken_once (IsAtFault.missing fits shallow told) = none-some _ (sym told ∙ taken_once.told)
  again_no_fault depth name text a span line f short taken_once (IsAtFault.large fits fresh shallow told much) = fresh taken_once

  opens_no_fault : (depth : ℕ) (name text : List ℕ) (a : Taken) (span : Span) (line : ℕ) (inner : List ℕ) (f : AssembleFault) → Opens folder depth a (name_in text span) inner → IsAtFault folder depth name text a (parts.Line (directives.File span) line) f → ⊥
  opens_no_fault depth name text a span line inner f opens (IsAtFault.long_name long) = let short = opens.short in omega arith
  opens_no_fault depth name text a span line inner f opens (IsAtFault.deep fits fresh deep) = let shallow = opens.shallow in omega arith
  opens_no_fault depth name text a span line inner f opens (IsAtFault.missing fits shallow told) = none-some _ (sym told ∙ opens.told)
  opens_no_fault depth name text a span line inner f opens (IsAtFault.large {inner = other} fits fresh shallow told much) = let small = opens.small in let same = ap length (same_Some inner other (sym opens.told ∙ told)) in omega arith

  at_same : (depth : ℕ) (name text : List ℕ) (a : Taken) (part : Part) (f g : AssembleFault) → IsAtFault folder depth name text a part f → IsAtFault folder depth name text a part g → f ≡ g
  at_same depth name text a part f g IsAtFault.lexical IsAtFault.lexical = refl
  at_same depth name text a part f g IsAtFault.bad_line IsAtFault.bad_line = refl
  at_same depth name text a part f g (IsAtFault.long_name x) (IsAtFault.long_name y) = refl
  at_same depth name text a part f g (IsAtFault.long_name x) (IsAtFault.deep s n d) = absurd (omega arith)
  at_same depth name text a part f g (IsAtFault.long_name x) (IsAtFault.missing s d t) = absurd (omega arith)
  at_same depth name text a part f g (IsAtFault.long_name x) (IsAtFault.large s n d t m) = absurd (omega arith)
  at_same depth name text a part f g (IsAtFault.deep s n d) (IsAtFault.long_name y) = absurd (omega arith)
  at_same depth name text a part f g (IsAtFault.deep s n d) (IsAtFault.deep s2 n2 d2) = refl
  at_same depth name text a part f g (IsAtFault.deep s n d) (IsAtFault.missing s2 d2 t2) = absurd (omega arith)
  at_same depth name text a part f g (IsAtFault.deep s n d) (IsAtFault.large s2 n2 d2 t2 m2) = absurd (omega arith)
  at_same depth name text a part f g (IsAtFault.missing s d t) (IsAtFault.long_name y) = absurd (omega arith)
  at_same depth name text a part f g (IsAtFault.missing s d t) (IsAtFault.deep s2 n2 d2) = absurd (omega arith)
  at_same depth name text a part f g (IsAtFault.missing s d t) (IsAtFault.missing s2 d2 t2) = refl
  at_same depth name text a part f g (IsAtFault.missing s d t) (IsAtFault.large s2 n2 d2 t2 m2) = absurd (none-some _ (sym t ∙ t2))
  at_same depth name text a part f g (IsAtFault.large s n d t m) (IsAtFault.long_name y) = absurd (omega arith)
  at_same depth name text a part f g (IsAtFault.large s n d t m) (IsAtFault.deep s2 n2 d2) = absurd (omega arith)
  at_same depth name text a part f g (IsAtFault.large s n d t m) (IsAtFault.missing s2 d2 t2) = absurd (none-some _ (sym t2 ∙ t))
  at_same depth name text a part f g (IsAtFault.large s n d t m) (IsAtFault.large s2 n2 d2 t2 m2) = refl

  runs_same : (depth : ℕ) (name text : List ℕ) (xs : List Part) (a b c : Taken) → Runs folder depth name text xs a b → Runs folder depth name text xs a c → b ≡ c
  runs_same depth name text xs a b c Runs.none Runs.none = refl
  runs_same depth name text xs a b c (Runs.token {rest = rest} x) (Runs.token y) = runs_same depth name text rest _ b c x y
  runs_same depth name text xs a b c (Runs.once {rest = rest} x) (Runs.once y) = runs_same depth name text rest _ b c x y
  runs_same depth name text xs a b c (Runs.contracts {rest = rest} x) (Runs.contracts y) = runs_same depth name text rest _ b c x y
  runs_same depth name text xs a b c (Runs.cstdio {rest = rest} x) (Runs.cstdio y) = runs_same depth name text rest _ b c x y
  runs_same depth name text xs a b c (Runs.again {rest = rest} s o x) (Runs.again s2 o2 y) = runs_same depth name text rest a b c x y
  runs_same depth name text xs a b c (Runs.again s o x) (Runs.include inner all opens reading y z) = absurd (opens.fresh o)
  runs_same depth name text xs a b c (Runs.include inner all opens reading x y) (Runs.again s o z) = absurd (opens.fresh o)
  runs_same depth name text xs a b c (Runs.include {rest = rest} {b = m} {span = span} inner all opens reading x y) (Runs.include {b = n} other own opens_too reading_too z w) =
      let same = same_inner depth depth a (name_in text span) inner other opens opens_too in
      let between = runs_same (suc depth) (name_in text span) inner all (opened a (name_in text span) inner) m n x (moved_run (suc depth) (name_in text span) inner other all own a n same (same_all inner other all own same reading reading_too) z) in
      runs_same depth name text rest m b c y (subst (λ k. Runs folder depth name text rest k c) (sym between) w)

  apart : (depth : ℕ) (name text : List ℕ) (xs : List Part) (a b : Taken) (f : AssembleFault) → Runs folder depth name text xs a b → Breaks folder depth name text xs a f → ⊥
  apart depth name text xs a b f Runs.none y = elim y [ ]
  apart depth name text xs a b f (Runs.token {rest = rest} x) (Breaks.token y) = apart depth name text rest _ b f x y
  apart depth name text xs a b f (Runs.token x) (Breaks.here at) = elim at [ ]
  apart depth name text xs a b f (Runs.once {rest = rest} x) (Breaks.once y) = apart depth name text rest _ b f x y
  apart depth name text xs a b f (Runs.once x) (Breaks.here at) = elim at [ ]
  apart depth name text xs a b f (Runs.contracts {rest = rest} x) (Breaks.contracts y) = apart depth name text rest _ b f x y
  apart depth name text xs a b f (Runs.contracts x) (Breaks.here at) = elim at [ ]
  apart depth name text xs a b f (Runs.cstdio {rest = rest} x) (Breaks.cstdio y) = apart depth name text rest _ b f x y
  apart depth name text xs a b f (Runs.cstdio x) (Breaks.here at) = elim at [ ]
  apart depth name text xs a b f (Runs.again {rest = rest} s o x) (Breaks.again s2 o2 y) = apart depth name text rest a b f x y
  apart depth name text xs a b f (Runs.again s o x) (Breaks.include inner all opens reading y z) = opens.fresh o
  apart depth name text xs a b f (Runs.again {span = span} {line = line} s o x) (Breaks.here at) = again_no_fault depth name text a span line f s o at
  apart depth name text xs a b f (Runs.again s o x) (Breaks.within inner all opens reading y) = opens.fresh o
  apart depth name text xs a b f (Runs.include inner all opens reading x y) (Breaks.again s o z) = opens.fresh o
  apart depth name text xs a b f (Runs.include {rest = rest} {b = m} {span = span} inner all opens reading x y) (Breaks.include {b = n} other own opens_too reading_too z w) =
      let same = same_inner depth depth a (name_in text span) inner other opens opens_too in
      let between = runs_same (suc depth) (name_in text span) inner all (opened a (name_in text span) inner) m n x (moved_run (suc depth) (name_in text span) inner other all own a n same (same_all inner other all own same reading reading_too) z) in
      apart depth name text rest m b f y (subst (λ k. Breaks folder depth name text rest k f) (sym between) w)
  apart depth name text xs a b f (Runs.include {span = span} {line = line} inner all opens reading x y) (Breaks.here at) = opens_no_fault depth name text a span line inner f opens at
  apart depth name text xs a b f (Runs.include {b = m} {span = span} inner all opens reading x y) (Breaks.within other own opens_too reading_too z) =
      let same = same_inner depth depth a (name_in text span) inner other opens opens_too in
      apart (suc depth) (name_in text span) inner all (opened a (name_in text span) inner) m f x (moved_break (suc depth) (name_in text span) inner other all own a f same (same_all inner other all own same reading reading_too) z)

  breaks_same : (depth : ℕ) (name text : List ℕ) (xs : List Part) (a : Taken) (f g : AssembleFault) → Breaks folder depth name text xs a f → Breaks folder depth name text xs a g → f ≡ g
  breaks_same depth name text xs a f g (Breaks.token {rest = rest} x) (Breaks.token y) = breaks_same depth name text rest _ f g x y
  breaks_same depth name text xs a f g (Breaks.token x) (Breaks.here at) = elim at [ ]
  breaks_same depth name text xs a f g (Breaks.once {rest = rest} x) (Breaks.once y) = breaks_same depth name text rest _ f g x y
  breaks_same depth name text xs a f g (Breaks.once x) (Breaks.here at) = elim at [ ]
  breaks_same depth name text xs a f g (Breaks.contracts {rest = rest} x) (Breaks.contracts y) = breaks_same depth name text rest _ f g x y
  breaks_same depth name text xs a f g (Breaks.contracts x) (Breaks.here at) = elim at [ ]
  breaks_same depth name text xs a f g (Breaks.cstdio {rest = rest} x) (Breaks.cstdio y) = breaks_same depth name text rest _ f g x y
  breaks_same depth name text xs a f g (Breaks.cstdio x) (Breaks.here at) = elim at [ ]
  breaks_same depth name text xs a f g (Breaks.again {rest = rest} s o x) (Breaks.again s2 o2 y) = breaks_same depth name text rest a f g x y
  breaks_same depth name text xs a f g (Breaks.again s o x) (Breaks.include inner all opens reading y z) = absurd (opens.fresh o)
  breaks_same depth name text xs a f g (Breaks.again {span = span} {line = line} s o x) (Breaks.here at) = absurd (again_no_fault depth name text a span line g s o at)
  breaks_same depth name text xs a f g (Breaks.again s o x) (Breaks.within inner all opens reading y) = absurd (opens.fresh o)
  breaks_same depth name text xs a f g (Breaks.include inner all opens reading x y) (Breaks.again s o z) = absurd (opens.fresh o)
  breaks_same depth name text xs a f g (Breaks.include {rest = rest} {b = m} {span = span} inner all opens reading x y) (Breaks.include {b = n} other own opens_too reading_too z w) =
      let same = same_inner depth depth a (name_in text span) inner other opens opens_too in
      let between = runs_same (suc depth) (name_in text span) inner all (opened a (name_in text span) inner) m n x (moved_run (suc depth) (name_in text span) inner other all own a n same (same_all inner other all own same reading reading_too) z) in
      breaks_same depth name text rest m f g y (subst (λ k. Breaks folder depth name text rest k g) (sym between) w)
  breaks_same depth name text xs a f g (Breaks.include {span = span} {line = line} inner all opens reading x y) (Breaks.here at) = absurd (opens_no_fault depth name text a span line inner g opens at)
  breaks_same depth name text xs a f g (Breaks.include {b = m} {span = span} inner all opens reading x y) (Breaks.within other own opens_too reading_too z) =
      let same = same_inner depth depth a (name_in text span) inner other opens opens_too in
      absurd (apart (suc depth) (name_in text span) inner all (opened a (name_in text span) inner) m g x (moved_break (suc depth) (name_in text span) inner other all own a g same (same_all inner other all own same reading reading_too) z))
  breaks_same depth name text xs a f g (Breaks.here at) (Breaks.token y) = elim at [ ]
  breaks_same depth name text xs a f g (Breaks.here at) (Breaks.once y) = elim at [ ]
  breaks_same depth name text xs a f g (Breaks.here at) (Breaks.contracts y) = elim at [ ]
  breaks_same depth name text xs a f g (Breaks.here at) (Breaks.cstdio y) = elim at [ ]
  breaks_same depth name text xs a f g (Breaks.here at) (Breaks.again {span = span} {line = line} s o y) = absurd (again_no_fault depth name text a span line f s o at)
  breaks_same depth name text xs a f g (Breaks.here at) (Breaks.include {span = span} {line = line} inner all opens reading x y) = absurd (opens_no_fault depth name text a span line inner f opens at)
  breaks_same depth name text xs a f g (Breaks.here {part = part} at) (Breaks.here at_too) = at_same depth name text a part f g at at_too
  breaks_same depth name text xs a f g (Breaks.here at) (Breaks.within {span = span} {line = line} inner all opens reading x) = absurd (opens_no_fault depth name text a span line inner f opens at)
  breaks_same depth name text xs a f g (Breaks.within inner all opens reading x) (Breaks.again s o y) = absurd (opens.fresh o)
  breaks_same depth name text xs a f g (Breaks.within {span = span} inner all opens reading x) (Breaks.include {b = n} other own opens_too reading_too z w) =
      let same = same_inner depth depth a (name_in text span) inner other opens opens_too in
      absurd (apart (suc depth) (name_in text span) inner all (opened a (name_in text span) inner) n f (moved_run (suc depth) (name_in text span) inner other all own a n same (same_all inner other all own same reading reading_too) z) x)
  breaks_same depth name text xs a f g (Breaks.within {span = span} {line = line} inner all opens reading x) (Breaks.here at) = absurd (opens_no_fault depth name text a span line inner g opens at)
  breaks_same depth name text xs a f g (Breaks.within {span = span} inner all opens reading x) (Breaks.within other own opens_too reading_too z) =
      let same = same_inner depth depth a (name_in text span) inner other opens opens_too in
      breaks_same (suc depth) (name_in text span) inner all (opened a (name_in text span) inner) f g x (moved_break (suc depth) (name_in text span) inner other all own a g same (same_all inner other all own same reading reading_too) z)

  -- ---- of a unit

  module _ (name : List ℕ) where
    pub one_taken : (a b : Taken) → IsAssembled folder name a → IsAssembled folder name b → a ≡ b
    one_taken a b x y =
        let same = same_Some x.text y.text (sym x.told ∙ y.told) in
        let first = to_runs folder 0 name x.text x.all (opened nothing_taken name x.text) a x.takes in
        let second = to_runs folder 0 name y.text y.all (opened nothing_taken name y.text) b y.takes in
        runs_same 0 name x.text x.all (opened nothing_taken name x.text) a b first (moved_run 0 name x.text y.text x.all y.all nothing_taken b same (same_all x.text y.text x.all y.all same x.reading y.reading) second)

    pub not_both : (a : Taken) (f : AssembleFault) → IsAssembled folder name a → IsFirstFault folder name f → ⊥
    not_both a f x (IsFirstFault.no_unit told) = none-some _ (sym told ∙ x.told)
    not_both a f x (IsFirstFault.large_unit {text = text} told much) = let small = x.small in let same = ap length (same_Some x.text text (sym x.told ∙ told)) in omega arith
    not_both a f x (IsFirstFault.first {text = text} {all = all} told small reading fails) =
        let same = same_Some x.text text (sym x.told ∙ told) in
        let run = to_runs folder 0 name x.text x.all (opened nothing_taken name x.text) a x.takes in
        let break = to_breaks folder 0 name text all (opened nothing_taken name text) f fails in
        apart 0 name x.text x.all (opened nothing_taken name x.text) a f run (moved_break 0 name x.text text x.all all nothing_taken f same (same_all x.text text x.all all same x.reading reading) break)

    pub one_fault : (f g : AssembleFault) → IsFirstFault folder name f → IsFirstFault folder name g → f ≡ g
    one_fault f g (IsFirstFault.no_unit t) (IsFirstFault.no_unit u) = refl
    one_fault f g (IsFirstFault.no_unit t) (IsFirstFault.large_unit u m) = absurd (none-some _ (sym t ∙ u))
    one_fault f g (IsFirstFault.no_unit t) (IsFirstFault.first u s r b) = absurd (none-some _ (sym t ∙ u))
    one_fault f g (IsFirstFault.large_unit t m) (IsFirstFault.no_unit u) = absurd (none-some _ (sym u ∙ t))
    one_fault f g (IsFirstFault.large_unit t m) (IsFirstFault.large_unit u n) = refl
    one_fault f g (IsFirstFault.large_unit {text = x} t m) (IsFirstFault.first {text = y} u s r b) = let same = ap length (same_Some x y (sym t ∙ u)) in absurd (omega arith)
    one_fault f g (IsFirstFault.first t s r b) (IsFirstFault.no_unit u) = absurd (none-some _ (sym u ∙ t))
    one_fault f g (IsFirstFault.first {text = x} t s r b) (IsFirstFault.large_unit {text = y} u m) = let same = ap length (same_Some x y (sym t ∙ u)) in absurd (omega arith)
    one_fault f g (IsFirstFault.first {text = x} {all = v} t s r b) (IsFirstFault.first {text = y} {all = w} u s2 r2 b2) =
        let same = same_Some x y (sym t ∙ u) in
        let first = to_breaks folder 0 name x v (opened nothing_taken name x) f b in
        let second = to_breaks folder 0 name y w (opened nothing_taken name y) g b2 in
        breaks_same 0 name x v (opened nothing_taken name x) f g first (moved_break 0 name x y v w nothing_taken g same (same_all x y v w same r r2) second)
