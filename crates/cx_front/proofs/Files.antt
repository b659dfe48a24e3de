-- What a list says of a file.
use Rattle.std.proofs.Common.{◌≡◌, ℕ, zero, suc, ◌<◌, ◌≤◌, List, [], ◌∷◌, length, sym, ap, arith}
use Rattle.std.specs.Prelude.{slice_get, IfSome, IsSomeAnd, unwrap_or}
use Rattle.std.specs.Option.{option_map}
use Rattle.cx_includes.specs.declared.assembled.SourceFile.{SourceFile}

-- a file of which something holds is there
pub is_there : (files : List SourceFile) (file : ℕ) (P : SourceFile → Type 0) → IsSomeAnd (slice_get files file) P → file < length files
is_there [] file P h = absurd h
is_there (x ∷ xs) zero P h = omega arith
is_there (x ∷ xs) (suc file) P h = omega (arith, is_there xs file P h)

pub text_is : (files : List SourceFile) (file end : ℕ) (text : List ℕ) → IsSomeAnd (slice_get files file) (λ (source : SourceFile). end ≤ length source.text) → IfSome (slice_get files file) (λ (source : SourceFile). text ≡ source.text)
    → (unwrap_or (option_map (λ (source : SourceFile). source.text) (slice_get files file)) [] ≡ text) × (end ≤ length text)
text_is [] file end text within same = absurd within
text_is (x ∷ xs) zero end text within same = (sym same, omega (arith, within, ap length same))
text_is (x ∷ xs) (suc file) end text within same = text_is xs file end text within same
