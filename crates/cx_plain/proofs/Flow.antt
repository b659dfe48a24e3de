-- What comes after a part that is made of parts: the parts in turn.
use Rattle.std.proofs.Common.{◌≡◌, refl, sym, ◌∙◌, Bool, true, false, if◌then◌else◌}
use Rattle.cx_core.specs.Words.{Terminated}
use Rattle.cx_core.specs.Event.{ended}
use Rattle.cx_core.specs.Outcome.{Outcome, on, thrown, over, Exception, Does, Nothing, after, either, gives, throws, ends, ◌>>=◌, ◌>>◌, finally, undone_by, edge}
use Rattle.cx_core.specs.Leaving.{edge_if}

after_after : {A B C : Type 0} (o : Outcome A) (f : A → Does B) (h : Exception → Does B) (N : B → Does C) (H : Exception → Does C)
    → after (after o f h) N H ≡ after o (λ a s. after (f a s) N H) (λ e s. after (h e s) N H)
after_after (on a s) f h N H = refl
after_after (thrown e s) f h N H = refl
after_after (over answer trace) f h N H = refl

module _ {A B C : Type 0} where
  pub flow_either : (m : Does A) (f : A → Does B) (h : Exception → Does B) (N : B → Does C) (H : Exception → Does C)
      → either (either m f h) N H ≡ either m (λ a. either (f a) N H) (λ e. either (h e) N H)
  unfolding either
  flow_either m f h N H = λ i s. after_after (m s) f h N H i

  pub flow : (m : Does A) (f : A → Does B) (N : B → Does C) (H : Exception → Does C)
      → either (m >>= f) N H ≡ either m (λ a. either (f a) N H) H
  unfolding either throws
  flow m f N H = λ i s. after_after (m s) f throws N H i

-- where the same part comes first and what follows is the same, all is the same
pub both : {A B D C : Type 0} (m : Does A) (f : A → Does B) (f' : A → Does D) (N : B → Does C) (M : D → Does C) (H : Exception → Does C)
    → ((a : A) → either (f a) N H ≡ either (f' a) M H) → either (m >>= f) N H ≡ either (m >>= f') M H
both m f f' N M H h = flow m f N H ∙ (λ i. either m (λ a. h a i) H) ∙ sym (flow m f' M H)

module _ {A C : Type 0} where
  finally_after : (o : Outcome A) (last : Does Nothing) (N : A → Does C) (H : Exception → Does C)
      → after (after o (λ a. last >> gives a) (λ e. last >> throws e)) N H ≡ after o (λ a. either last (λ _. N a) H) (λ e. either last (λ _. H e) H)
  unfolding either gives throws
  finally_after (on a s) last N H = after_after (last s) (λ _. gives a) throws N H
  finally_after (thrown e s) last N H = after_after (last s) (λ _. throws e) throws N H
  finally_after (over answer trace) last N H = refl

  pub finally_flow : (m : Does A) (last : Does Nothing) (N : A → Does C) (H : Exception → Does C)
      → either (finally m last) N H ≡ either m (λ a. either last (λ _. N a) H) (λ e. either last (λ _. H e) H)
  unfolding either
  finally_flow m last N H = λ i s. finally_after (m s) last N H i

  undone_after : (o : Outcome A) (last : Does Nothing) (N : A → Does C) (H : Exception → Does C)
      → after (after o gives (λ e. last >> throws e)) N H ≡ after o N (λ e. either last (λ _. H e) H)
  unfolding either gives throws
  undone_after (on a s) last N H = refl
  undone_after (thrown e s) last N H = after_after (last s) (λ _. throws e) throws N H
  undone_after (over answer trace) last N H = refl

  pub undone_flow : (m : Does A) (last : Does Nothing) (N : A → Does C) (H : Exception → Does C)
      → either (undone_by m last) N H ≡ either m N (λ e. either last (λ _. H e) H)
  unfolding either
  undone_flow m last N H = λ i s. undone_after (m s) last N H i

  pub edge_flow : (m : Does A) (N : A → Does C) (H : Exception → Does C) → either (edge m) N H ≡ either m N (λ e. ends (ended Terminated))
  unfolding either gives ends
  edge_flow m N H = λ i s. after_after (m s) gives (λ e. ends (ended Terminated)) N H i

  pub edge_if_flow : (b : Bool) (m : Does A) (N : A → Does C) (H : Exception → Does C)
      → either (edge_if b m) N H ≡ either m N (λ e. if b then ends (ended Terminated) else H e)
  edge_if_flow true m N H = edge_flow m N H
  edge_if_flow false m N H = refl
