-- The bytes of files, as far as they can be counted.
use Rattle.std.proofs.Common.{◌≡◌, ℕ, zero, suc, ◌+◌, ◌<◌, List, [], ◌∷◌, length, take, sym, ap, ◌∙◌, arith, add-one}
use Rattle.std.specs.Prelude.{slice_get, IfSome, min, sum_by}
use Rattle.std.proofs.lemmas.List.Sums.{sum_by-cons}
use Rattle.cx_includes.specs.declared.assembled.SourceFile.{SourceFile}

abbrev pub size : SourceFile → ℕ
size file = length file.text

size_more : (files : List SourceFile) (k : ℕ) (text : List ℕ) → k < length files → IfSome (slice_get files k) (λ (source : SourceFile). text ≡ source.text) → sum_by size (take (suc k) files) ≡ sum_by size (take k files) + length text
size_more [] k text lt is = absurd (omega arith)
size_more (x ∷ xs) zero text lt is = omega (arith, ap length is, sum_by-cons size x [])
size_more (x ∷ xs) (suc k) text lt is =
    let more : sum_by size (take (suc k) xs) ≡ sum_by size (take k xs) + length text = size_more xs k text (omega arith) is in
    omega (arith, more, sum_by-cons size x (take (suc k) xs), sum_by-cons size x (take k xs))

capped : (a b n s : ℕ) → a ≡ min b 4294967295 → s ≡ min (a + n) 4294967295 → s ≡ min (b + n) 4294967295
capped a b n s at step = omega arith

-- one more file
pub bytes_more : (files : List SourceFile) (k : ℕ) (text : List ℕ) (bytes next : ℕ) → k < length files → IfSome (slice_get files k) (λ (source : SourceFile). text ≡ source.text)
    → bytes ≡ min (sum_by size (take k files)) 4294967295 → next ≡ min (bytes + length text) 4294967295 → next ≡ min (sum_by size (take (k + 1) files)) 4294967295
bytes_more files k text bytes next lt is at step =
    capped bytes (sum_by size (take k files)) (length text) next at step
    ∙ ap (λ (n : ℕ). min n 4294967295) (sym (size_more files k text lt is))
    ∙ ap (λ (i : ℕ). min (sum_by size (take i files)) 4294967295) (sym (add-one k))
