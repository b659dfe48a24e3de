use Rattle.std.proofs.Common.{◌≡◌, ℕ, true, List, map, take}
use Rattle.std.specs.List.{list_any}
use Rattle.std.specs.Str.{bytes_eq}
use Rattle.cx_words.specs.Value.{are_distinct}
use Rattle.cx_words.proofs.Apart.{has_text}
use Rattle.cx_words.proofs.distinct.are_distinct.Given as goal

abbrev pub invariant-loop-name : goal.invariant-loop-name
invariant-loop-name l = record {
  seen : (text : List ℕ) → has_text l.seen.keys text ≡ list_any (bytes_eq text) (map (λ name. name.now) (take l.name-index l.names));
  distinct : are_distinct (map (λ name. name.now) (take l.name-index l.names)) ≡ true;
}
