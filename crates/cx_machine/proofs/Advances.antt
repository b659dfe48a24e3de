-- What a step leaves, by what came of it.
use Rattle.std.proofs.Common.{◌≡◌, ◌≢◌, ℕ, ◌≤◌, Bool, true, false, List, [], ◌∷◌, ◌++◌, length, Option, Some, None, ◌+◌, take, ◌==◌, if◌then◌else◌, refl, sym, ap, subst, ◌∙◌, append_assoc, arith}
use Rattle.std.proofs.lemmas.List.{append-nil}
use Rattle.std.proofs.Math.Seq.{take-length, take-append-add}
use Rattle.std.specs.Io.KnownBytes.{Appends}
use Rattle.cx_code.specs.declared.image.Image.{Image}
use Rattle.cx_code.specs.declared.run.Cause.{Cause}
use Rattle.cx_code.specs.declared.run.Cause.TheVariants as causes
use Rattle.cx_code.specs.declared.run.Event.{Event}
use Rattle.cx_code.specs.declared.run.Ending.{Ending}
use Rattle.cx_code.specs.declared.run.Ending.TheVariants.{Returned, ContractTerminated, Terminated, Undefined, TooDeep, StepsSpent, Stopped, NotStarted}
use Rattle.cx_code.specs.State.{State}
use Rattle.cx_code.specs.Act.{Goes, Ends}
use Rattle.cx_code.specs.Run.{step}
use Rattle.cx_code.specs.Output.{written_out, written_out_at}
use Rattle.cx_code.specs.Violation.{written, written_at}
use Rattle.cx_frame.specs.Made.{IsOwn}
use Rattle.cx_outside.specs.Fault.{Rose}
use Rattle.cx_outside.specs.Stream.{TakesFront}
use Rattle.cx_outside.specs.Told.{Appends-nothing, Appends-then}
use Rattle.cx_machine.specs.declared.report.Report.{Report}
use Rattle.cx_machine.specs.Advance.{IsAdvance, IsRunCause, TakesSome, IsCut, without_event, with_event, HasRun, HasCome}
use Rattle.cx_machine.specs.Outcome.{lines_of}

written-append : (image : Image) (a b : List Event) → written image (a ++ b) ≡ written image a ++ written image b
written-append image [] b = refl
written-append image (e ∷ a) b = ap (λ (t : List ℕ). written_at image e ++ t) (written-append image a b) ∙ sym (append_assoc (written_at image e) (written image a) (written image b))

lines_append : (b : Bool) (x y z : List ℕ) → z ≡ x ++ y → (if b then z else []) ≡ (if b then x else []) ++ (if b then y else [])
lines_append true x y z e = e
lines_append false x y z e = refl

lines-append : (image : Image) (a b : List Event) → lines_of image (a ++ b) ≡ lines_of image a ++ lines_of image b
lines-append image a b = lines_append (image.handler == 0) (written image a) (written image b) (written image (a ++ b)) (written-append image a b)

no_lines : (b : Bool) → ◌≡◌ {A = List ℕ} (if b then [] else []) []
no_lines true = refl
no_lines false = refl

pub lines-none : (image : Image) → lines_of image [] ≡ []
lines-none image = no_lines (image.handler == 0)

written_out-append : (a b : List Event) → written_out (a ++ b) ≡ written_out a ++ written_out b
written_out-append [] b = refl
written_out-append (e ∷ a) b = ap (λ (t : List ℕ). written_out_at e ++ t) (written_out-append a b) ∙ sym (append_assoc (written_out_at e) (written_out a) (written_out b))

-- ---- one step

pub quiet : (image : Image) (s s' : State) (report : Report) (taken : Option (List ℕ)) → step image s ≡ Goes s' None → IsAdvance image s s' None report report taken taken
quiet image s s' report taken e = record {
  made = rw e refl;
  journal = rw e (sym (append-nil report.journal));
  output = rw e (sym (append-nil report.out));
  lines = rw (e, lines-none image) (Appends-nothing taken);
  own = tt;
}

pub noted : (image : Image) (s s' : State) (event : Event) (before now : Report) (taken takes : Option (List ℕ)) → step image s ≡ Goes s' (Some event) → now.journal ≡ before.journal ++ event ∷ []
    → now.out ≡ before.out ++ written_out_at event → Appends taken takes (lines_of image (event ∷ [])) → IsAdvance image s s' None before now taken takes
noted image s s' event before now taken takes e journal out lines = record {
  made = rw e refl;
  journal = rw e journal;
  output = rw (e, append-nil) out;
  lines = rw e lines;
  own = tt;
}

pub ended : (image : Image) (s s' : State) (ending : Ending) (report : Report) (taken : Option (List ℕ)) → (step image s ≡ Ends ending None) × IsOwn ending → IsAdvance image s s' (Some ending) report report taken taken
ended image s s' ending report taken h = record {
  made = rw h.0 refl;
  journal = rw h.0 (sym (append-nil report.journal));
  output = rw h.0 (sym (append-nil report.out));
  lines = rw (h.0, lines-none image) (Appends-nothing taken);
  own = h.1;
}

-- ---- several

pub lines_on : (image : Image) (a b c : Option (List ℕ)) (journal more next : List Event) → Appends a b (lines_of image journal) → Appends b c (lines_of image more) → next ≡ journal ++ more → Appends a c (lines_of image next)
lines_on image a b c journal more next p q e =
    let both = Appends-then a b c (lines_of image journal) (lines_of image more) p q in
    subst (λ (t : List ℕ). Appends a c t) (sym (ap (lines_of image) e ∙ lines-append image journal more)) both

-- what was taken whole is a front of itself
pub front_whole : (a b : Option (List ℕ)) (x : List ℕ) → Appends a b x → TakesFront a b x
front_whole a b x p = (length x, subst (λ (t : List ℕ). Appends a b t) (sym (take-length x)) p)

front_then : (a b c : Option (List ℕ)) (x y : List ℕ) → Appends a b x → TakesFront b c y → TakesFront a c (x ++ y)
front_then a b c x y p q = (length x + q.0, subst (λ (t : List ℕ). Appends a c t) (sym (take-append-add x y q.0)) (Appends-then a b c x (take q.0 y) p q.1))

pub some_front : (cause : Cause) (a b : Option (List ℕ)) (x : List ℕ) → TakesSome cause a b x → TakesFront a b x
some_front causes.NoMemory a b x none = (0, none)
some_front causes.Read a b x some = some
some_front causes.Out a b x some = some
some_front causes.Err a b x some = some

-- the lines of a run that was stopped in a step
pub lines_cut : (image : Image) (cause : Cause) (a b c : Option (List ℕ)) (journal more last : List Event) → Appends a b (lines_of image journal) → IsCut image cause more journal last b c → TakesFront a c (lines_of image last)
lines_cut image cause a b c journal more last p (without_event same none) =
    let all = subst (λ (t : List ℕ). Appends a c t) (append-nil (lines_of image journal)) (Appends-then a b c (lines_of image journal) [] p none) in
    front_whole a c (lines_of image last) (subst (λ (j : List Event). Appends a c (lines_of image j)) (sym same) all)
lines_cut image cause a b c journal more last p (with_event e some) =
    let both = front_then a b c (lines_of image journal) (lines_of image more) p (some_front cause b c (lines_of image more) some) in
    subst (λ (t : List ℕ). TakesFront a c t) (sym (ap (lines_of image) e ∙ lines-append image journal more)) both

pub out_on : (before now : List ℕ) (journal more next : List Event) → before ≡ written_out journal → now ≡ before ++ written_out more → next ≡ journal ++ more → now ≡ written_out next
out_on before now journal more next is more_is e = more_is ∙ ap (λ (t : List ℕ). t ++ written_out more) is ∙ sym (written_out-append journal more) ∙ sym (ap written_out e)

-- a run that ends by itself has run
pub has_come : (ending : Ending) (image : Image) (bytes : List ℕ) (limit steps : ℕ) (report : Report) (taken takes : Option (List ℕ)) (rose : Type 0) → IsOwn ending
    → HasRun image bytes limit ending steps report taken takes → HasCome ending image bytes limit steps report taken takes rose
has_come (Returned n) image bytes limit steps report taken takes rose own has = has
has_come ContractTerminated image bytes limit steps report taken takes rose own has = has
has_come Terminated image bytes limit steps report taken takes rose own has = has
has_come (Undefined kind) image bytes limit steps report taken takes rose own has = has
has_come TooDeep image bytes limit steps report taken takes rose own has = has
has_come StepsSpent image bytes limit steps report taken takes rose own has = has
has_come (Stopped cause) image bytes limit steps report taken takes rose own has = absurd own
has_come NotStarted image bytes limit steps report taken takes rose own has = absurd own

-- a fault since a later moment is one since an earlier moment
pub since_earlier : (cause : Cause) (first later now : ℕ) → first ≤ later → IsRunCause cause (Rose later now) → IsRunCause cause (Rose first now)
since_earlier causes.NoMemory first later now le h = tt
since_earlier causes.Read first later now le h = h
since_earlier causes.Out first later now le h = h
since_earlier causes.Err first later now le h = omega arith

pub is_started : (ending : Ending) → IsOwn ending → ending ≢ NotStarted
is_started (Returned n) own e = absurd cc
is_started ContractTerminated own e = absurd cc
is_started Terminated own e = absurd cc
is_started (Undefined kind) own e = absurd cc
is_started TooDeep own e = absurd cc
is_started StepsSpent own e = absurd cc
is_started (Stopped cause) own e = absurd own
is_started NotStarted own e = absurd own
