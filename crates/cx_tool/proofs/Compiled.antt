-- An image that is verified is still the one that was compiled.
use Rattle.std.proofs.Common.{◌≡◌, Result, Ok, Err, sym, subst}
use Rattle.std.specs.Prelude.{IfOk, IfErr, OnOk}
use Rattle.cx_tool.specs.declared.answer.Answer.TheVariants as answers
use Rattle.cx_includes.specs.declared.assembled.Assembled.{Assembled}
use Rattle.cx_code.specs.declared.image.Image.{Image}
use Rattle.cx_code.specs.declared.violation.Semantic.{Semantic}
use Rattle.cx_tool.specs.declared.answer.Answer.{Answer}
use Rattle.cx_tool.specs.Report.{IsCompiled}

pub still_compiled : (list : Assembled) (semantic : Semantic) (image : Image) (r : Result Image Answer) → IfOk r (λ valid. valid ≡ image) → IsCompiled list semantic image → IfOk r (IsCompiled list semantic)
still_compiled list semantic image (Ok valid) same compiled = subst (IsCompiled list semantic) (sym same) compiled
still_compiled list semantic image (Err answer) same compiled = tt

-- what holds of the image that was compiled holds of the one that is verified
pub still_so : (P : Image → Type 0) (image : Image) (r : Result Image Answer) → IfOk r (λ valid. valid ≡ image) → P image → IfOk r P
still_so P image (Ok valid) same p = subst P (sym same) p
still_so P image (Err answer) same p = tt

pub whatever : {X : Type 0} (r : Result Image Answer) → X → OnOk r X
whatever (Ok valid) x = x
whatever (Err answer) x = tt

pub only_wants : {Q : Answer → Type 0} (r : Result Image Answer) → IfErr r (λ answer. answer ≡ answers.OutOfMemory) → ((answer : Answer) → answer ≡ answers.OutOfMemory → Q answer) → IfErr r Q
only_wants (Ok valid) want so = tt
only_wants (Err answer) want so = so answer want
