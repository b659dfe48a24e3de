use Rattle.std.proofs.Common.{◌≡◌, ℕ, zero, suc, ◌∷◌, map, replicate, None, refl, ap, ◌∙◌}
use Rattle.cx_plain_state.specs.Seen.{leaf_of}
use Rattle.cx_plain_state.proofs.store.unset.Goals as goal

unset_seen : (n : ℕ) → map leaf_of (replicate n None) ≡ replicate n None
unset_seen zero = refl
unset_seen (suc n) = ap (λ leaves. None ∷ leaves) (unset_seen n)

pub returns : goal.returns
returns c = ap (map leaf_of) c.in_ok-none_of.ensures ∙ unset_seen c.args.count
