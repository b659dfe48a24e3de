use Rattle.std.proofs.Common.{◌≡◌, true, arith}
use Rattle.cx_words.specs.Value.{is_decimal}
use Rattle.cx_words.proofs.Numbers.{not_a_number}
use Rattle.cx_words.proofs.value.number_in.Goals as goal

pub returns-in-Err : goal.returns-in-Err
returns-in-Err c =
    let decimal : is_decimal c.args.word.now ≡ true = cc in
    not_a_number c.args.most c.args.word.now (omega arith) decimal c.in-Err.ensures.value.0
