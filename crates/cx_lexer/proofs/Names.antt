-- The scanner's names are the longest ones.
use Rattle.std.proofs.Common.{◌≡◌, Bool, true, false, ℕ, zero, suc, ◌+◌, ◌<◌, ◌≤◌, List, [], ◌∷◌, length, take, cond, refl, sym, ◌∙◌, ap, arith, subst}
use Rattle.std.proofs.Math.Numerals.{one-add}
use Rattle.std.specs.List.{list_all, prefix_len}
use Rattle.std.proofs.lemmas.Bool.{cond_both, cond-true, and_from, and_right, and_left, or_left}
use Rattle.std.proofs.lemmas.List.Sums.{prefix_len-le-length}
use Rattle.cx_lexer.specs.Bytes.{starts_name, continues_name}
use Rattle.cx_lexer.specs.Name.{is_name}
use Rattle.cx_lexer.specs.Scan.{IsLongest}
use Rattle.cx_lexer.proofs.Fronts.{behind}

module _ (test : ℕ → Bool) where
  run_more : (x : ℕ) (xs : List ℕ) → prefix_len test (x ∷ xs) ≡ cond (test x) (suc (prefix_len test xs)) 0
  run_more x xs = ap (λ n. cond (test x) n 0) (one-add (prefix_len test xs))

  run_passes : (xs : List ℕ) → list_all test (take (prefix_len test xs) xs) ≡ true
  run_passes [] = refl
  run_passes (x ∷ xs) =
      let P : ℕ → Type 0 = λ n. list_all test (take n (x ∷ xs)) ≡ true in
      subst P (sym (run_more x xs)) (cond_both (test x) (suc (prefix_len test xs)) 0 P (λ e. and_from _ _ e (run_passes xs)) (λ e. refl))

  run_longest : (xs : List ℕ) (m : ℕ) → prefix_len test xs < m → m ≤ length xs → list_all test (take m xs) ≡ false
  run_longest xs zero above within = absurd (omega arith)
  run_longest [] (suc m) above within = absurd (omega arith)
  run_longest (x ∷ xs) (suc m) above within =
      cond_both (test x) (1 + prefix_len test xs) 0 (λ n. n < suc m → list_all test (x ∷ take m xs) ≡ false)
      (λ e h. and_right _ _ (run_longest xs m (omega arith) (omega arith)))
      (λ e h. and_left _ _ e)
      above

-- the scanner's name is the longest
pub name_longest : (a : ℕ) (xs : List ℕ) → starts_name a ≡ true → IsLongest is_name (a ∷ xs) (prefix_len continues_name (a ∷ xs))
unfolding is_name
name_longest a xs starts =
    let length_is : prefix_len continues_name (a ∷ xs) ≡ suc (prefix_len continues_name xs) = cond-true _ _ _ (or_left _ _ starts) ∙ omega arith in
    rw length_is (record {
      within = omega (arith, prefix_len-le-length continues_name xs);
      passes = and_from _ _ starts (run_passes continues_name xs);
      longest = behind is_name (a ∷ xs) _ (λ m above within. and_right _ _ (run_longest continues_name xs m (omega arith) (omega arith)));
    })
