-- What a unit has for a list or a first fault, it gets.
use Rattle.std.proofs.Common.{◌≡◌, ℕ, ◌<◌, ◌^◌, List, [], ◌∷◌, Option, Some, Result, Ok, Err, length, map, refl, sym, ◌∙◌, ap, subst, inl, inr}
use Rattle.std.specs.Prelude.{IfOk, IfErr}
use Rattle.std.specs.List.{All}
use Rattle.std.specs.Coded.{le_prop}
use Rattle.std.proofs.lemmas.List.Elements.{All-head, All-tail}
use Rattle.std.proofs.lemmas.Option.{same_Some}
use Rattle.cx_outside.specs.Folder.{Folder}
use Rattle.cx_includes.specs.declared.assembled.Assembled.{Assembled}
use Rattle.cx_includes.specs.declared.assembled.Placed.{Placed}
use Rattle.cx_includes.specs.declared.assembled.SourceFile.{SourceFile}
use Rattle.cx_includes.specs.declared.assembly.AssembleFault.{AssembleFault}
use Rattle.cx_includes.specs.declared.assembly.AssembleFault.TheVariants as faults
use Rattle.cx_includes.specs.Unit.{Taken}
use Rattle.cx_includes.specs.Fault.{IsFirstFault}
use Rattle.cx_includes.specs.Assembled.{taken_of, IsListOf, IsListOver, HasCause, GetsList, GetsFault}
use Rattle.cx_includes.proofs.OneAssembly.{one_taken, one_fault, not_both}

head_is : (x y : List ℕ) (xs ys : List (List ℕ)) → x ∷ xs ≡ y ∷ ys → x ≡ y
head_is x y xs ys e = cc

tail_is : (x y : List ℕ) (xs ys : List (List ℕ)) → x ∷ xs ≡ y ∷ ys → xs ≡ ys
tail_is x y xs ys e = cc

no_cons : (x : List ℕ) (xs : List (List ℕ)) → [] ≡ x ∷ xs → ⊥
no_cons x xs e = absurd (cc)

files_same : (folder : Folder) (xs ys : List SourceFile) → map (λ (f : SourceFile). f.name) xs ≡ map (λ (f : SourceFile). f.name) ys → All (λ (f : SourceFile). folder f.name ≡ Some f.text) xs → All (λ (f : SourceFile). folder f.name ≡ Some f.text) ys → xs ≡ ys
files_same folder [] [] names p q = refl
files_same folder [] (y ∷ ys) names p q = absurd (no_cons _ _ names)
files_same folder (x ∷ xs) [] names p q = absurd (no_cons _ _ (sym names))
files_same folder (x ∷ xs) (y ∷ ys) names p q =
    let name = head_is x.name y.name (map (λ (f : SourceFile). f.name) xs) (map (λ (f : SourceFile). f.name) ys) names in
    let text = same_Some x.text y.text (sym (All-head (λ (f : SourceFile). folder f.name ≡ Some f.text) x xs p) ∙ ap folder name ∙ All-head (λ (f : SourceFile). folder f.name ≡ Some f.text) y ys q) in
    let rest = files_same folder xs ys (tail_is x.name y.name (map (λ (f : SourceFile). f.name) xs) (map (λ (f : SourceFile). f.name) ys) names) (All-tail (λ (f : SourceFile). folder f.name ≡ Some f.text) x xs p) (All-tail (λ (f : SourceFile). folder f.name ≡ Some f.text) y ys q) in
    λ i. record { name = name i; text = text i } ∷ rest i

unit_same : (u v : Assembled) → u.files ≡ v.files → u.placed ≡ v.placed → u.contracts ≡ v.contracts → u.cstdio ≡ v.cstdio → u ≡ v
unit_same u v files placed contracts cstdio =
    let Small : List Placed → Type 0 = λ l. (s : length l < 2 ^ 32) → u ≡ record { files = u.files; placed = l; contracts = u.contracts; cstdio = u.cstdio; small = s } in
    let own : Small u.placed = λ s. ap (λ t. record { files = u.files; placed = u.placed; contracts = u.contracts; cstdio = u.cstdio; small = t }) (small_same (length u.placed) u.small s) in
    subst Small placed own v.small ∙ (λ i. record { files = files i; placed = v.placed; contracts = contracts i; cstdio = cstdio i; small = v.small })
  where
    small_same : (n : ℕ) (s t : n < 2 ^ 32) → s ≡ t
    small_same n s t = le_prop s t

pub one_list : (folder : Folder) (name : List ℕ) (u v : Assembled) → IsListOf folder name u → IsListOf folder name v → u ≡ v
one_list folder name u v x y =
    let same = one_taken folder name (taken_of u x.bytes) (taken_of v y.bytes) x.assembled y.assembled in
    unit_same u v (files_same folder u.files v.files (ap (λ (t : Taken). t.files) same) x.texts y.texts) (ap (λ (t : Taken). t.tokens) same) (ap (λ (t : Taken). t.contracts) same) (ap (λ (t : Taken). t.cstdio) same)

pub list_and_fault : (folder : Folder) (name : List ℕ) (u : Assembled) (f : AssembleFault) → IsListOf folder name u → IsFirstFault folder name f → ⊥
list_and_fault folder name u f x y = not_both folder name (taken_of u x.bytes) f x.assembled y

module _ (content : Option Folder) (name : List ℕ) (rose : Type 0) (folder : Folder) (is : content ≡ Some folder) where
  pub only_list : (result : Result Assembled AssembleFault) → IfOk result (λ unit. IsListOver content name unit) → IfErr result (HasCause content name rose) → (unit : Assembled) → IsListOf folder name unit → GetsList unit result
  only_list (Ok gets) list cause unit has = one_list folder name gets unit (subst (λ c. IsListOver c name gets) is list) has
  only_list (Err faults.OutOfMemory) list cause unit has = tt
  only_list (Err faults.Failed) list cause unit has = tt
  only_list (Err (faults.Missing x)) list cause unit has = list_and_fault folder name unit (faults.Missing x) has (subst (λ c. HasCause c name rose (faults.Missing x)) is cause)
  only_list (Err (faults.Lex x y z w)) list cause unit has = list_and_fault folder name unit (faults.Lex x y z w) has (subst (λ c. HasCause c name rose (faults.Lex x y z w)) is cause)
  only_list (Err (faults.BadLine x y)) list cause unit has = list_and_fault folder name unit (faults.BadLine x y) has (subst (λ c. HasCause c name rose (faults.BadLine x y)) is cause)
  only_list (Err (faults.Depth x y)) list cause unit has = list_and_fault folder name unit (faults.Depth x y) has (subst (λ c. HasCause c name rose (faults.Depth x y)) is cause)
  only_list (Err (faults.Large x)) list cause unit has = list_and_fault folder name unit (faults.Large x) has (subst (λ c. HasCause c name rose (faults.Large x)) is cause)

  pub only_fault : (result : Result Assembled AssembleFault) → IfOk result (λ unit. IsListOver content name unit) → IfErr result (HasCause content name rose) → (fault : AssembleFault) → IsFirstFault folder name fault → GetsFault fault result
  only_fault (Ok gets) list cause fault has = list_and_fault folder name gets fault (subst (λ c. IsListOver c name gets) is list) has
  only_fault (Err faults.OutOfMemory) list cause fault has = inr tt
  only_fault (Err faults.Failed) list cause fault has = inr tt
  only_fault (Err (faults.Missing x)) list cause fault has = inl (one_fault folder name (faults.Missing x) fault (subst (λ c. HasCause c name rose (faults.Missing x)) is cause) has)
  only_fault (Err (faults.Lex x y z w)) list cause fault has = inl (one_fault folder name (faults.Lex x y z w) fault (subst (λ c. HasCause c name rose (faults.Lex x y z w)) is cause) has)
  only_fault (Err (faults.BadLine x y)) list cause fault has = inl (one_fault folder name (faults.BadLine x y) fault (subst (λ c. HasCause c name rose (faults.BadLine x y)) is cause) has)
  only_fault (Err (faults.Depth x y)) list cause fault has = inl (one_fault folder name (faults.Depth x y) fault (subst (λ c. HasCause c name rose (faults.Depth x y)) is cause) has)
  only_fault (Err (faults.Large x)) list cause fault has = inl (one_fault folder name (faults.Large x) fault (subst (λ c. HasCause c name rose (faults.Large x)) is cause) has)
