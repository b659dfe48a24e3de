-- Lines that are added one after the other.
use Rattle.std.proofs.Common.{◌≡◌, ℕ, suc, ◌+◌, ◌-◌, ◌<◌, List, ◌++◌, ap, ◌∙◌, append_assoc, arith}
use Rattle.std.specs.List.{flat_map}
use Rattle.cx_generated.specs.Generated.{numbers_from}

one_less : (first end : ℕ) → first < end → end - first ≡ suc (end - (first + 1))
one_less first end more = omega (arith, more)

pub line_added : (line : ℕ → List ℕ) (text after : List ℕ) (first end : ℕ) → first < end → after ≡ text ++ line first
    → after ++ flat_map line (numbers_from (first + 1) (end - (first + 1))) ≡ text ++ flat_map line (numbers_from first (end - first))
line_added line text after first end more added =
    rw (one_less first end more)
    (ap (λ t. t ++ flat_map line (numbers_from (first + 1) (end - (first + 1)))) added
    ∙ append_assoc text (line first) (flat_map line (numbers_from (first + 1) (end - (first + 1)))))

-- four words with a number behind each, and a last word
pub words_added : (a i b j c k d l e t1 t2 t3 t4 t5 t6 t7 t8 t9 : List ℕ) → t1 ≡ a → t2 ≡ t1 ++ i → t3 ≡ t2 ++ b → t4 ≡ t3 ++ j → t5 ≡ t4 ++ c → t6 ≡ t5 ++ k → t7 ≡ t6 ++ d → t8 ≡ t7 ++ l → t9 ≡ t8 ++ e
    → t9 ≡ a ++ i ++ b ++ j ++ c ++ k ++ d ++ l ++ e
words_added a i b j c k d l e t1 t2 t3 t4 t5 t6 t7 t8 t9 h1 h2 h3 h4 h5 h6 h7 h8 h9 =
    h9 ∙ ap (λ t. t ++ e) (h8 ∙ ap (λ t. t ++ l) (h7 ∙ ap (λ t. t ++ d) (h6 ∙ ap (λ t. t ++ k) (h5 ∙ ap (λ t. t ++ c)
    (h4 ∙ ap (λ t. t ++ j) (h3 ∙ ap (λ t. t ++ b) (h2 ∙ ap (λ t. t ++ i) h1)))))))
