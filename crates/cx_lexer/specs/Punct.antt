-- Operators and punctuators, after [lex.operators], without the alternative tokens and those of the preprocessor.
use Rattle.std.specs.Prelude.{Bool, ℕ, List, [], ◌∷◌, codes, bytes_eq}
use Rattle.std.specs.List.{list_any}

unfoldable pub puncts : List (List ℕ)
puncts =
    codes "{" ∷ codes "}" ∷ codes "(" ∷ codes ")" ∷ codes "[" ∷ codes "]" ∷ codes ";" ∷ codes ":" ∷ codes "::" ∷
    codes "," ∷ codes "." ∷ codes "->" ∷ codes "?" ∷ codes "+" ∷ codes "-" ∷ codes "*" ∷ codes "/" ∷ codes "%" ∷
    codes "&" ∷ codes "|" ∷ codes "^" ∷ codes "~" ∷ codes "!" ∷ codes "=" ∷ codes "==" ∷ codes "!=" ∷ codes "<" ∷
    codes ">" ∷ codes "<=" ∷ codes ">=" ∷ codes "<<" ∷ codes ">>" ∷ codes "&&" ∷ codes "||" ∷ codes "++" ∷
    codes "--" ∷ codes "+=" ∷ codes "-=" ∷ codes "*=" ∷ codes "/=" ∷ codes "%=" ∷ codes "&=" ∷ codes "|=" ∷
    codes "^=" ∷ codes "<<=" ∷ codes ">>=" ∷ codes "<=>" ∷ codes "..." ∷ codes ".*" ∷ codes "->*" ∷ []

unfoldable pub is_punct : List ℕ → Bool
is_punct bytes = list_any (λ punct. bytes_eq punct bytes) puncts
