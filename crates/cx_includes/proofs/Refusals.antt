-- Why a file could not be had, where the files tell it.
use Rattle.std.proofs.Common.{◌≡◌, ℕ, ◌+◌, ◌-◌, ◌≤◌, List, Option, Some, None, refl, sym, subst, arith}
use Rattle.cx_outside.specs.Folder.{Folder, WhereTold, IsLong}
use Rattle.cx_includes.specs.declared.assembly.AssembleFault.TheVariants as faults
use Rattle.cx_includes.specs.Unit.{most_bytes}
use Rattle.cx_includes.specs.Taking.{IsRefused}

pub had_missing : (content : Option Folder) (rose : Type 0) (name other : List ℕ) (bytes : ℕ) → other ≡ name → WhereTold content (λ folder. folder name ≡ None) rose
    → WhereTold content (λ folder. IsRefused name bytes folder (faults.Missing other)) rose
had_missing None rose name other bytes same told = told
had_missing (Some folder) rose name other bytes same told = subst (λ n. IsRefused name bytes folder (faults.Missing n)) (sym same) (IsRefused.missing told)

long : (told : Option (List ℕ)) (name : List ℕ) (bytes : ℕ) (folder : Folder) → folder name ≡ told → bytes ≤ most_bytes → IsLong told (most_bytes - bytes) → IsRefused name bytes folder (faults.Large (most_bytes + 1))
long None name bytes folder is fits longer = absurd longer
long (Some text) name bytes folder is fits longer = IsRefused.large is (omega arith)

pub had_large : (content : Option Folder) (rose : Type 0) (name : List ℕ) (bytes count : ℕ) → count ≡ most_bytes + 1 → bytes ≤ most_bytes → WhereTold content (λ folder. IsLong (folder name) (most_bytes - bytes)) rose
    → WhereTold content (λ folder. IsRefused name bytes folder (faults.Large count)) rose
had_large None rose name bytes count same fits told = told
had_large (Some folder) rose name bytes count same fits told = subst (λ n. IsRefused name bytes folder (faults.Large n)) (sym same) (long (folder name) name bytes folder refl fits told)
