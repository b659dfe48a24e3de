-- A run of the machine of an image, with the names of its events.
use Rattle.std.proofs.Common.{◌≡◌, ℕ, zero, suc, ◌+◌, List, [], ◌∷◌, ◌++◌, map, reverse, Option, Some, None, refl, sym, ap, ◌∙◌, arith, append-nil, append_assoc}
use Rattle.std.specs.Option.{option_map, option_to_list}
use Rattle.std.proofs.lemmas.List.{reverse-append}
use Rattle.cx_code.specs.declared.image.Image.{Image}
use Rattle.cx_code.specs.declared.run.Event.{Event as Noted}
use Rattle.cx_code.specs.State.{State}
use Rattle.cx_code.specs.Act.{Step, Goes, Ends}
use Rattle.cx_code.specs.Run as code
use Rattle.cx_core.specs.Words.{Ending}
use Rattle.cx_core.specs.Event.{Event}
use Rattle.cx_core.specs.Runs.{MachineRun}
use Rattle.cx_simulation.specs.Machine.{noted, onwards, run_from}
use Rattle.cx_simulation.specs.ImageMachine.{named, progress, image_step, named_run}

abbrev pub run_of : List Event → Ending → ℕ → MachineRun
run_of journal ending steps = record { journal = journal; ending = ending; steps = steps }

-- behind so many steps, with these events
abbrev pub behind : List Event → ℕ → MachineRun → MachineRun
behind trace taken run = record { journal = reverse trace ++ run.journal; ending = run.ending; steps = taken + run.steps }

front_named : (image : Image) (event : Option Noted) (trace : List Event) (rest : List Noted)
    → reverse (noted (option_map (named image) event) trace) ++ map (named image) rest ≡ reverse trace ++ map (named image) (option_to_list event ++ rest)
front_named image None trace rest = refl
front_named image (Some e) trace rest = ap (λ l. l ++ map (named image) rest) (reverse-append (named image e ∷ []) trace) ∙ append_assoc (reverse trace) (named image e ∷ []) (map (named image) rest)

pub same_run : (a b : List Event) (ending : Ending) (i j : ℕ) → a ≡ b → i ≡ j → run_of a ending i ≡ run_of b ending j
same_run a b ending i j e f = ap (λ l. run_of l ending i) e ∙ ap (λ k. run_of b ending k) f

module _ (image : Image) where
  pub runs_named : (n : ℕ) (s : State) (trace : List Event) (taken : ℕ) → run_from (image_step image) n s trace taken ≡ behind trace taken (named_run image (code.run_from image n s))
  unfolding run_from code.run_from code.with_front
  runs_named zero s trace taken = same_run _ _ _ _ _ (sym (append-nil (reverse trace))) (omega arith)
  runs_named (suc n) s trace taken = go (runs_named n) (code.step image s)
    where
      go : ((d : State) (u : List Event) (k : ℕ) → run_from (image_step image) n d u k ≡ behind u k (named_run image (code.run_from image n d))) → (p : Step)
          → onwards (image_step image) (progress image p) trace (λ d after. run_from (image_step image) n d after (suc taken)) (λ ending after. record { journal = reverse after; ending = ending; steps = suc taken })
          ≡ behind trace taken (named_run image (code.after p (code.run_from image n)))
      go more (Goes d event) =
          more d (noted (option_map (named image) event) trace) (suc taken)
          ∙ same_run _ _ _ _ _ (front_named image event trace (code.run_from image n d).journal) (omega arith)
      go more (Ends ending event) = same_run _ _ _ _ _ (sym (append-nil _) ∙ front_named image event trace []) (omega arith)
