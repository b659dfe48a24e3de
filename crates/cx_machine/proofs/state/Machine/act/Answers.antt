use Rattle.std.proofs.Common.{◌≡◌, subst, to_z, of_z, rules}
use Rattle.std.specs.Int.{w64}
use Rattle.std.proofs.lemmas.Int.{to_z-of_z}
use Rattle.cx_code.specs.declared.operation.Operation.{Operation}
use Rattle.cx_machine.specs.States.{state_of}
use Rattle.cx_machine.specs.Due.{IsDue}
use Rattle.cx_machine.proofs.Made.{leaves_fit}
use Rattle.cx_machine.proofs.Needs.{room, has_function, call_slots, hook_slots, below_room, droppers}
use Rattle.cx_machine.proofs.state.Machine.act.Goals as goal

pub make-requires-clause-some_leaf : goal.make-requires-clause-some_leaf
make-requires-clause-some_leaf g c = (leaves_fit c.args.image.now c.in-Make.leaves c.in-Make.slot (state_of c.args.self.now (g.M.Memory.store c.args.memory.now)) (subst (λ (o : Operation). IsDue c.args.image.now o (state_of c.args.self.now (g.M.Memory.store c.args.memory.now))) c.in-Make.is c.requires.due)).0

pub make-requires-clause-few : goal.make-requires-clause-few
make-requires-clause-few g c = (leaves_fit c.args.image.now c.in-Make.leaves c.in-Make.slot (state_of c.args.self.now (g.M.Memory.store c.args.memory.now)) (subst (λ (o : Operation). IsDue c.args.image.now o (state_of c.args.self.now (g.M.Memory.store c.args.memory.now))) c.in-Make.is c.requires.due)).1

pub end-requires-clause-room : goal.end-requires-clause-room
end-requires-clause-room g c = room c.args.image.now c.args.operation (state_of c.args.self.now (g.M.Memory.store c.args.memory.now)) c.requires.due

pub load-requires-clause-room : goal.load-requires-clause-room
load-requires-clause-room g c = room c.args.image.now c.args.operation (state_of c.args.self.now (g.M.Memory.store c.args.memory.now)) c.requires.due

pub store-requires-clause-room : goal.store-requires-clause-room
store-requires-clause-room g c = room c.args.image.now c.args.operation (state_of c.args.self.now (g.M.Memory.store c.args.memory.now)) c.requires.due

pub offset-requires-clause-room : goal.offset-requires-clause-room
offset-requires-clause-room g c = room c.args.image.now c.args.operation (state_of c.args.self.now (g.M.Memory.store c.args.memory.now)) c.requires.due

pub copy-requires-clause-room : goal.copy-requires-clause-room
copy-requires-clause-room g c = room c.args.image.now c.args.operation (state_of c.args.self.now (g.M.Memory.store c.args.memory.now)) c.requires.due

pub negate-requires-clause-room : goal.negate-requires-clause-room
negate-requires-clause-room g c = room c.args.image.now c.args.operation (state_of c.args.self.now (g.M.Memory.store c.args.memory.now)) c.requires.due

pub logical_not-requires-clause-room : goal.logical_not-requires-clause-room
logical_not-requires-clause-room g c = room c.args.image.now c.args.operation (state_of c.args.self.now (g.M.Memory.store c.args.memory.now)) c.requires.due

pub complement-requires-clause-room : goal.complement-requires-clause-room
complement-requires-clause-room g c = room c.args.image.now c.args.operation (state_of c.args.self.now (g.M.Memory.store c.args.memory.now)) c.requires.due

pub add-requires-clause-room : goal.add-requires-clause-room
add-requires-clause-room g c = room c.args.image.now c.args.operation (state_of c.args.self.now (g.M.Memory.store c.args.memory.now)) c.requires.due

pub subtract-requires-clause-room : goal.subtract-requires-clause-room
subtract-requires-clause-room g c = room c.args.image.now c.args.operation (state_of c.args.self.now (g.M.Memory.store c.args.memory.now)) c.requires.due

pub multiply-requires-clause-room : goal.multiply-requires-clause-room
multiply-requires-clause-room g c = room c.args.image.now c.args.operation (state_of c.args.self.now (g.M.Memory.store c.args.memory.now)) c.requires.due

pub divide-requires-clause-room : goal.divide-requires-clause-room
divide-requires-clause-room g c = room c.args.image.now c.args.operation (state_of c.args.self.now (g.M.Memory.store c.args.memory.now)) c.requires.due

pub remainder-requires-clause-room : goal.remainder-requires-clause-room
remainder-requires-clause-room g c = room c.args.image.now c.args.operation (state_of c.args.self.now (g.M.Memory.store c.args.memory.now)) c.requires.due

pub shift_left-requires-clause-room : goal.shift_left-requires-clause-room
shift_left-requires-clause-room g c = room c.args.image.now c.args.operation (state_of c.args.self.now (g.M.Memory.store c.args.memory.now)) c.requires.due

pub shift_right-requires-clause-room : goal.shift_right-requires-clause-room
shift_right-requires-clause-room g c = room c.args.image.now c.args.operation (state_of c.args.self.now (g.M.Memory.store c.args.memory.now)) c.requires.due

pub bit_and-requires-clause-room : goal.bit_and-requires-clause-room
bit_and-requires-clause-room g c = room c.args.image.now c.args.operation (state_of c.args.self.now (g.M.Memory.store c.args.memory.now)) c.requires.due

pub bit_or-requires-clause-room : goal.bit_or-requires-clause-room
bit_or-requires-clause-room g c = room c.args.image.now c.args.operation (state_of c.args.self.now (g.M.Memory.store c.args.memory.now)) c.requires.due

pub bit_xor-requires-clause-room : goal.bit_xor-requires-clause-room
bit_xor-requires-clause-room g c = room c.args.image.now c.args.operation (state_of c.args.self.now (g.M.Memory.store c.args.memory.now)) c.requires.due

pub equal-requires-clause-room : goal.equal-requires-clause-room
equal-requires-clause-room g c = room c.args.image.now c.args.operation (state_of c.args.self.now (g.M.Memory.store c.args.memory.now)) c.requires.due

pub not_equal-requires-clause-room : goal.not_equal-requires-clause-room
not_equal-requires-clause-room g c = room c.args.image.now c.args.operation (state_of c.args.self.now (g.M.Memory.store c.args.memory.now)) c.requires.due

pub less-requires-clause-room : goal.less-requires-clause-room
less-requires-clause-room g c = room c.args.image.now c.args.operation (state_of c.args.self.now (g.M.Memory.store c.args.memory.now)) c.requires.due

pub less_or_equal-requires-clause-room : goal.less_or_equal-requires-clause-room
less_or_equal-requires-clause-room g c = room c.args.image.now c.args.operation (state_of c.args.self.now (g.M.Memory.store c.args.memory.now)) c.requires.due

pub greater-requires-clause-room : goal.greater-requires-clause-room
greater-requires-clause-room g c = room c.args.image.now c.args.operation (state_of c.args.self.now (g.M.Memory.store c.args.memory.now)) c.requires.due

pub greater_or_equal-requires-clause-room : goal.greater_or_equal-requires-clause-room
greater_or_equal-requires-clause-room g c = room c.args.image.now c.args.operation (state_of c.args.self.now (g.M.Memory.store c.args.memory.now)) c.requires.due

pub convert-requires-clause-room : goal.convert-requires-clause-room
convert-requires-clause-room g c = room c.args.image.now c.args.operation (state_of c.args.self.now (g.M.Memory.store c.args.memory.now)) c.requires.due

pub jump_zero-requires-clause-room : goal.jump_zero-requires-clause-room
jump_zero-requires-clause-room g c = room c.args.image.now c.args.operation (state_of c.args.self.now (g.M.Memory.store c.args.memory.now)) c.requires.due

pub jump_nonzero-requires-clause-room : goal.jump_nonzero-requires-clause-room
jump_nonzero-requires-clause-room g c = room c.args.image.now c.args.operation (state_of c.args.self.now (g.M.Memory.store c.args.memory.now)) c.requires.due

pub call-requires-clause-slots : goal.call-requires-clause-slots
call-requires-clause-slots g c = call_slots c.args.image.now c.in-Call.function c.in-Call.count (state_of c.args.self.now (g.M.Memory.store c.args.memory.now)) (subst (λ (o : Operation). IsDue c.args.image.now o (state_of c.args.self.now (g.M.Memory.store c.args.memory.now))) c.in-Call.is c.requires.due)

pub give_back-requires-clause-its_function : goal.give_back-requires-clause-its_function
give_back-requires-clause-its_function g c = has_function c.args.image.now c.args.operation (state_of c.args.self.now (g.M.Memory.store c.args.memory.now)) c.requires.due

pub give_back-requires-clause-room : goal.give_back-requires-clause-room
give_back-requires-clause-room g c = below_room c.args.image.now c.args.operation (state_of c.args.self.now (g.M.Memory.store c.args.memory.now)) c.requires.due

pub global-requires : goal.global-requires
global-requires g c = record { room = room c.args.image.now c.args.operation (state_of c.args.self.now (g.M.Memory.store c.args.memory.now)) c.requires.due }

pub write-requires-clause-room : goal.write-requires-clause-room
write-requires-clause-room g c = room c.args.image.now c.args.operation (state_of c.args.self.now (g.M.Memory.store c.args.memory.now)) c.requires.due

pub read-requires : goal.read-requires
read-requires g c = record { room = room c.args.image.now c.args.operation (state_of c.args.self.now (g.M.Memory.store c.args.memory.now)) c.requires.due }

pub text_at-requires-clause-room : goal.text_at-requires-clause-room
text_at-requires-clause-room g c = room c.args.image.now c.args.operation (state_of c.args.self.now (g.M.Memory.store c.args.memory.now)) c.requires.due

pub text_of-requires-clause-room : goal.text_of-requires-clause-room
text_of-requires-clause-room g c = room c.args.image.now c.args.operation (state_of c.args.self.now (g.M.Memory.store c.args.memory.now)) c.requires.due

pub begin-requires : goal.begin-requires
begin-requires g c = record { room = room c.args.image.now c.args.operation (state_of c.args.self.now (g.M.Memory.store c.args.memory.now)) c.requires.due }

pub verdict-requires-clause-room : goal.verdict-requires-clause-room
verdict-requires-clause-room g c = room c.args.image.now c.args.operation (state_of c.args.self.now (g.M.Memory.store c.args.memory.now)) c.requires.due

pub violate-requires-clause-room : goal.violate-requires-clause-room
violate-requires-clause-room g c = room c.args.image.now c.args.operation (state_of c.args.self.now (g.M.Memory.store c.args.memory.now)) c.requires.due

pub violate-requires-clause-slots : goal.violate-requires-clause-slots
violate-requires-clause-slots g c = hook_slots c.args.image.now c.args.image.now.handler c.requires.due.valid c.requires.due.valid.handler

pub ask-requires-clause-room : goal.ask-requires-clause-room
ask-requires-clause-room g c = room c.args.image.now c.args.operation (state_of c.args.self.now (g.M.Memory.store c.args.memory.now)) c.requires.due

pub give_held-requires : goal.give_held-requires
give_held-requires g c = record { room = room c.args.image.now c.args.operation (state_of c.args.self.now (g.M.Memory.store c.args.memory.now)) c.requires.due }

pub release-requires-clause-room : goal.release-requires-clause-room
release-requires-clause-room g c = room c.args.image.now c.args.operation (state_of c.args.self.now (g.M.Memory.store c.args.memory.now)) c.requires.due

pub release-requires-clause-droppers : goal.release-requires-clause-droppers
release-requires-clause-droppers g c = droppers c.args.image.now c.args.operation (state_of c.args.self.now (g.M.Memory.store c.args.memory.now)) c.requires.due

pub destroyed-requires-clause-room : goal.destroyed-requires-clause-room
destroyed-requires-clause-room g c = room c.args.image.now c.args.operation (state_of c.args.self.now (g.M.Memory.store c.args.memory.now)) c.requires.due

pub returns-in-Push-clause-ok : goal.returns-in-Push-clause-ok
returns-in-Push-clause-ok g c =
    let n : to_z w64 (of_z w64 c.in-Push.n) ≡ c.in-Push.n = to_z-of_z w64 c.in-Push.n (search rules) in
    rw c.in-Push.is (rw n at (c.push.ensures.ok c.args.image.now (state_of c.args.self.now (g.M.Memory.store c.args.memory.now))))

pub returns-in-Push-clause-err : goal.returns-in-Push-clause-err
returns-in-Push-clause-err g c =
    let n : to_z w64 (of_z w64 c.in-Push.n) ≡ c.in-Push.n = to_z-of_z w64 c.in-Push.n (search rules) in
    rw c.in-Push.is (rw n at (c.push.ensures.err c.args.image.now (state_of c.args.self.now (g.M.Memory.store c.args.memory.now))))

pub returns-in-PushBig-clause-ok : goal.returns-in-PushBig-clause-ok
returns-in-PushBig-clause-ok g c = rw c.in-PushBig.is (c.push_big.ensures.ok c.args.image.now (state_of c.args.self.now (g.M.Memory.store c.args.memory.now)))

pub returns-in-PushBig-clause-err : goal.returns-in-PushBig-clause-err
returns-in-PushBig-clause-err g c = rw c.in-PushBig.is (c.push_big.ensures.err c.args.image.now (state_of c.args.self.now (g.M.Memory.store c.args.memory.now)))

pub returns-in-PushNull-clause-ok : goal.returns-in-PushNull-clause-ok
returns-in-PushNull-clause-ok g c = rw c.in-PushNull.is (c.push_null.ensures.ok c.args.image.now (state_of c.args.self.now (g.M.Memory.store c.args.memory.now)))

pub returns-in-PushNull-clause-err : goal.returns-in-PushNull-clause-err
returns-in-PushNull-clause-err g c = rw c.in-PushNull.is (c.push_null.ensures.err c.args.image.now (state_of c.args.self.now (g.M.Memory.store c.args.memory.now)))

pub returns-in-Duplicate-clause-ok : goal.returns-in-Duplicate-clause-ok
returns-in-Duplicate-clause-ok g c = rw c.in-Duplicate.is (c.duplicate.ensures.ok c.args.image.now (state_of c.args.self.now (g.M.Memory.store c.args.memory.now)))

pub returns-in-Duplicate-clause-err : goal.returns-in-Duplicate-clause-err
returns-in-Duplicate-clause-err g c = rw c.in-Duplicate.is (c.duplicate.ensures.err c.args.image.now (state_of c.args.self.now (g.M.Memory.store c.args.memory.now)))

pub returns-in-Discard-clause-ok : goal.returns-in-Discard-clause-ok
returns-in-Discard-clause-ok g c = rw c.in-Discard.is (c.discard.ensures.ok c.args.image.now (state_of c.args.self.now (g.M.Memory.store c.args.memory.now)))

pub returns-in-Discard-clause-err : goal.returns-in-Discard-clause-err
returns-in-Discard-clause-err g c = rw c.in-Discard.is (c.discard.ensures.err c.args.image.now (state_of c.args.self.now (g.M.Memory.store c.args.memory.now)))

pub returns-in-Swap-clause-ok : goal.returns-in-Swap-clause-ok
returns-in-Swap-clause-ok g c = rw c.in-Swap.is (c.swap.ensures.ok c.args.image.now (state_of c.args.self.now (g.M.Memory.store c.args.memory.now)))

pub returns-in-Swap-clause-err : goal.returns-in-Swap-clause-err
returns-in-Swap-clause-err g c = rw c.in-Swap.is (c.swap.ensures.err c.args.image.now (state_of c.args.self.now (g.M.Memory.store c.args.memory.now)))

pub returns-in-Get-clause-ok : goal.returns-in-Get-clause-ok
returns-in-Get-clause-ok g c = rw c.in-Get.is (c.get.ensures.ok c.args.image.now (state_of c.args.self.now (g.M.Memory.store c.args.memory.now)))

pub returns-in-Get-clause-err : goal.returns-in-Get-clause-err
returns-in-Get-clause-err g c = rw c.in-Get.is (c.get.ensures.err c.args.image.now (state_of c.args.self.now (g.M.Memory.store c.args.memory.now)))

pub returns-in-Set-clause-ok : goal.returns-in-Set-clause-ok
returns-in-Set-clause-ok g c = rw c.in-Set.is (c.set.ensures.ok c.args.image.now (state_of c.args.self.now (g.M.Memory.store c.args.memory.now)))

pub returns-in-Set-clause-err : goal.returns-in-Set-clause-err
returns-in-Set-clause-err g c = rw c.in-Set.is (c.set.ensures.err c.args.image.now (state_of c.args.self.now (g.M.Memory.store c.args.memory.now)))

pub returns-in-Make-clause-ok : goal.returns-in-Make-clause-ok
returns-in-Make-clause-ok g c = rw c.in-Make.is (c.make.ensures.ok c.args.image.now (state_of c.args.self.now (g.M.Memory.store c.args.memory.now)))

pub returns-in-Make-clause-err : goal.returns-in-Make-clause-err
returns-in-Make-clause-err g c = rw c.in-Make.is (c.make.ensures.err c.args.image.now (state_of c.args.self.now (g.M.Memory.store c.args.memory.now)))

pub returns-in-End-clause-ok : goal.returns-in-End-clause-ok
returns-in-End-clause-ok g c = rw c.in-End.is (c.end.ensures.ok c.args.image.now (state_of c.args.self.now (g.M.Memory.store c.args.memory.now)))

pub returns-in-End-clause-err : goal.returns-in-End-clause-err
returns-in-End-clause-err g c = rw c.in-End.is (c.end.ensures.err c.args.image.now (state_of c.args.self.now (g.M.Memory.store c.args.memory.now)))

pub returns-in-Load-clause-ok : goal.returns-in-Load-clause-ok
returns-in-Load-clause-ok g c = rw c.in-Load.is (c.load.ensures.ok c.args.image.now (state_of c.args.self.now (g.M.Memory.store c.args.memory.now)))

pub returns-in-Load-clause-err : goal.returns-in-Load-clause-err
returns-in-Load-clause-err g c = rw c.in-Load.is (c.load.ensures.err c.args.image.now (state_of c.args.self.now (g.M.Memory.store c.args.memory.now)))

pub returns-in-Store-clause-ok : goal.returns-in-Store-clause-ok
returns-in-Store-clause-ok g c = rw c.in-Store.is (c.store.ensures.ok c.args.image.now (state_of c.args.self.now (g.M.Memory.store c.args.memory.now)))

pub returns-in-Store-clause-err : goal.returns-in-Store-clause-err
returns-in-Store-clause-err g c = rw c.in-Store.is (c.store.ensures.err c.args.image.now (state_of c.args.self.now (g.M.Memory.store c.args.memory.now)))

pub returns-in-Offset-clause-ok : goal.returns-in-Offset-clause-ok
returns-in-Offset-clause-ok g c = rw c.in-Offset.is (c.offset.ensures.ok c.args.image.now (state_of c.args.self.now (g.M.Memory.store c.args.memory.now)))

pub returns-in-Offset-clause-err : goal.returns-in-Offset-clause-err
returns-in-Offset-clause-err g c = rw c.in-Offset.is (c.offset.ensures.err c.args.image.now (state_of c.args.self.now (g.M.Memory.store c.args.memory.now)))

pub returns-in-Copy-clause-ok : goal.returns-in-Copy-clause-ok
returns-in-Copy-clause-ok g c = rw c.in-Copy.is (c.copy.ensures.ok c.args.image.now (state_of c.args.self.now (g.M.Memory.store c.args.memory.now)))

pub returns-in-Copy-clause-err : goal.returns-in-Copy-clause-err
returns-in-Copy-clause-err g c = rw c.in-Copy.is (c.copy.ensures.err c.args.image.now (state_of c.args.self.now (g.M.Memory.store c.args.memory.now)))

pub returns-in-Negate-clause-ok : goal.returns-in-Negate-clause-ok
returns-in-Negate-clause-ok g c = rw c.in-Negate.is (c.negate.ensures.ok c.args.image.now (state_of c.args.self.now (g.M.Memory.store c.args.memory.now)))

pub returns-in-Negate-clause-err : goal.returns-in-Negate-clause-err
returns-in-Negate-clause-err g c = rw c.in-Negate.is (c.negate.ensures.err c.args.image.now (state_of c.args.self.now (g.M.Memory.store c.args.memory.now)))

pub returns-in-Not-clause-ok : goal.returns-in-Not-clause-ok
returns-in-Not-clause-ok g c = rw c.in-Not.is (c.logical_not.ensures.ok c.args.image.now (state_of c.args.self.now (g.M.Memory.store c.args.memory.now)))

pub returns-in-Not-clause-err : goal.returns-in-Not-clause-err
returns-in-Not-clause-err g c = rw c.in-Not.is (c.logical_not.ensures.err c.args.image.now (state_of c.args.self.now (g.M.Memory.store c.args.memory.now)))

pub returns-in-Complement-clause-ok : goal.returns-in-Complement-clause-ok
returns-in-Complement-clause-ok g c = rw c.in-Complement.is (c.complement.ensures.ok c.args.image.now (state_of c.args.self.now (g.M.Memory.store c.args.memory.now)))

pub returns-in-Complement-clause-err : goal.returns-in-Complement-clause-err
returns-in-Complement-clause-err g c = rw c.in-Complement.is (c.complement.ensures.err c.args.image.now (state_of c.args.self.now (g.M.Memory.store c.args.memory.now)))

pub returns-in-Add-clause-ok : goal.returns-in-Add-clause-ok
returns-in-Add-clause-ok g c = rw c.in-Add.is (c.add.ensures.ok c.args.image.now (state_of c.args.self.now (g.M.Memory.store c.args.memory.now)))

pub returns-in-Add-clause-err : goal.returns-in-Add-clause-err
returns-in-Add-clause-err g c = rw c.in-Add.is (c.add.ensures.err c.args.image.now (state_of c.args.self.now (g.M.Memory.store c.args.memory.now)))

pub returns-in-Subtract-clause-ok : goal.returns-in-Subtract-clause-ok
returns-in-Subtract-clause-ok g c = rw c.in-Subtract.is (c.subtract.ensures.ok c.args.image.now (state_of c.args.self.now (g.M.Memory.store c.args.memory.now)))

pub returns-in-Subtract-clause-err : goal.returns-in-Subtract-clause-err
returns-in-Subtract-clause-err g c = rw c.in-Subtract.is (c.subtract.ensures.err c.args.image.now (state_of c.args.self.now (g.M.Memory.store c.args.memory.now)))

pub returns-in-Multiply-clause-ok : goal.returns-in-Multiply-clause-ok
returns-in-Multiply-clause-ok g c = rw c.in-Multiply.is (c.multiply.ensures.ok c.args.image.now (state_of c.args.self.now (g.M.Memory.store c.args.memory.now)))

pub returns-in-Multiply-clause-err : goal.returns-in-Multiply-clause-err
returns-in-Multiply-clause-err g c = rw c.in-Multiply.is (c.multiply.ensures.err c.args.image.now (state_of c.args.self.now (g.M.Memory.store c.args.memory.now)))

pub returns-in-Divide-clause-ok : goal.returns-in-Divide-clause-ok
returns-in-Divide-clause-ok g c = rw c.in-Divide.is (c.divide.ensures.ok c.args.image.now (state_of c.args.self.now (g.M.Memory.store c.args.memory.now)))

pub returns-in-Divide-clause-err : goal.returns-in-Divide-clause-err
returns-in-Divide-clause-err g c = rw c.in-Divide.is (c.divide.ensures.err c.args.image.now (state_of c.args.self.now (g.M.Memory.store c.args.memory.now)))

pub returns-in-Remainder-clause-ok : goal.returns-in-Remainder-clause-ok
returns-in-Remainder-clause-ok g c = rw c.in-Remainder.is (c.remainder.ensures.ok c.args.image.now (state_of c.args.self.now (g.M.Memory.store c.args.memory.now)))

pub returns-in-Remainder-clause-err : goal.returns-in-Remainder-clause-err
returns-in-Remainder-clause-err g c = rw c.in-Remainder.is (c.remainder.ensures.err c.args.image.now (state_of c.args.self.now (g.M.Memory.store c.args.memory.now)))

pub returns-in-ShiftLeft-clause-ok : goal.returns-in-ShiftLeft-clause-ok
returns-in-ShiftLeft-clause-ok g c = rw c.in-ShiftLeft.is (c.shift_left.ensures.ok c.args.image.now (state_of c.args.self.now (g.M.Memory.store c.args.memory.now)))

pub returns-in-ShiftLeft-clause-err : goal.returns-in-ShiftLeft-clause-err
returns-in-ShiftLeft-clause-err g c = rw c.in-ShiftLeft.is (c.shift_left.ensures.err c.args.image.now (state_of c.args.self.now (g.M.Memory.store c.args.memory.now)))

pub returns-in-ShiftRight-clause-ok : goal.returns-in-ShiftRight-clause-ok
returns-in-ShiftRight-clause-ok g c = rw c.in-ShiftRight.is (c.shift_right.ensures.ok c.args.image.now (state_of c.args.self.now (g.M.Memory.store c.args.memory.now)))

pub returns-in-ShiftRight-clause-err : goal.returns-in-ShiftRight-clause-err
returns-in-ShiftRight-clause-err g c = rw c.in-ShiftRight.is (c.shift_right.ensures.err c.args.image.now (state_of c.args.self.now (g.M.Memory.store c.args.memory.now)))

pub returns-in-BitAnd-clause-ok : goal.returns-in-BitAnd-clause-ok
returns-in-BitAnd-clause-ok g c = rw c.in-BitAnd.is (c.bit_and.ensures.ok c.args.image.now (state_of c.args.self.now (g.M.Memory.store c.args.memory.now)))

pub returns-in-BitAnd-clause-err : goal.returns-in-BitAnd-clause-err
returns-in-BitAnd-clause-err g c = rw c.in-BitAnd.is (c.bit_and.ensures.err c.args.image.now (state_of c.args.self.now (g.M.Memory.store c.args.memory.now)))

pub returns-in-BitOr-clause-ok : goal.returns-in-BitOr-clause-ok
returns-in-BitOr-clause-ok g c = rw c.in-BitOr.is (c.bit_or.ensures.ok c.args.image.now (state_of c.args.self.now (g.M.Memory.store c.args.memory.now)))

pub returns-in-BitOr-clause-err : goal.returns-in-BitOr-clause-err
returns-in-BitOr-clause-err g c = rw c.in-BitOr.is (c.bit_or.ensures.err c.args.image.now (state_of c.args.self.now (g.M.Memory.store c.args.memory.now)))

pub returns-in-BitXor-clause-ok : goal.returns-in-BitXor-clause-ok
returns-in-BitXor-clause-ok g c = rw c.in-BitXor.is (c.bit_xor.ensures.ok c.args.image.now (state_of c.args.self.now (g.M.Memory.store c.args.memory.now)))

pub returns-in-BitXor-clause-err : goal.returns-in-BitXor-clause-err
returns-in-BitXor-clause-err g c = rw c.in-BitXor.is (c.bit_xor.ensures.err c.args.image.now (state_of c.args.self.now (g.M.Memory.store c.args.memory.now)))

pub returns-in-Equal-clause-ok : goal.returns-in-Equal-clause-ok
returns-in-Equal-clause-ok g c = rw c.in-Equal.is (c.equal.ensures.ok c.args.image.now (state_of c.args.self.now (g.M.Memory.store c.args.memory.now)))

pub returns-in-Equal-clause-err : goal.returns-in-Equal-clause-err
returns-in-Equal-clause-err g c = rw c.in-Equal.is (c.equal.ensures.err c.args.image.now (state_of c.args.self.now (g.M.Memory.store c.args.memory.now)))

pub returns-in-NotEqual-clause-ok : goal.returns-in-NotEqual-clause-ok
returns-in-NotEqual-clause-ok g c = rw c.in-NotEqual.is (c.not_equal.ensures.ok c.args.image.now (state_of c.args.self.now (g.M.Memory.store c.args.memory.now)))

pub returns-in-NotEqual-clause-err : goal.returns-in-NotEqual-clause-err
returns-in-NotEqual-clause-err g c = rw c.in-NotEqual.is (c.not_equal.ensures.err c.args.image.now (state_of c.args.self.now (g.M.Memory.store c.args.memory.now)))

pub returns-in-Less-clause-ok : goal.returns-in-Less-clause-ok
returns-in-Less-clause-ok g c = rw c.in-Less.is (c.less.ensures.ok c.args.image.now (state_of c.args.self.now (g.M.Memory.store c.args.memory.now)))

pub returns-in-Less-clause-err : goal.returns-in-Less-clause-err
returns-in-Less-clause-err g c = rw c.in-Less.is (c.less.ensures.err c.args.image.now (state_of c.args.self.now (g.M.Memory.store c.args.memory.now)))

pub returns-in-LessOrEqual-clause-ok : goal.returns-in-LessOrEqual-clause-ok
returns-in-LessOrEqual-clause-ok g c = rw c.in-LessOrEqual.is (c.less_or_equal.ensures.ok c.args.image.now (state_of c.args.self.now (g.M.Memory.store c.args.memory.now)))

pub returns-in-LessOrEqual-clause-err : goal.returns-in-LessOrEqual-clause-err
returns-in-LessOrEqual-clause-err g c = rw c.in-LessOrEqual.is (c.less_or_equal.ensures.err c.args.image.now (state_of c.args.self.now (g.M.Memory.store c.args.memory.now)))

pub returns-in-Greater-clause-ok : goal.returns-in-Greater-clause-ok
returns-in-Greater-clause-ok g c = rw c.in-Greater.is (c.greater.ensures.ok c.args.image.now (state_of c.args.self.now (g.M.Memory.store c.args.memory.now)))

pub returns-in-Greater-clause-err : goal.returns-in-Greater-clause-err
returns-in-Greater-clause-err g c = rw c.in-Greater.is (c.greater.ensures.err c.args.image.now (state_of c.args.self.now (g.M.Memory.store c.args.memory.now)))

pub returns-in-GreaterOrEqual-clause-ok : goal.returns-in-GreaterOrEqual-clause-ok
returns-in-GreaterOrEqual-clause-ok g c = rw c.in-GreaterOrEqual.is (c.greater_or_equal.ensures.ok c.args.image.now (state_of c.args.self.now (g.M.Memory.store c.args.memory.now)))

pub returns-in-GreaterOrEqual-clause-err : goal.returns-in-GreaterOrEqual-clause-err
returns-in-GreaterOrEqual-clause-err g c = rw c.in-GreaterOrEqual.is (c.greater_or_equal.ensures.err c.args.image.now (state_of c.args.self.now (g.M.Memory.store c.args.memory.now)))

pub returns-in-Convert-clause-ok : goal.returns-in-Convert-clause-ok
returns-in-Convert-clause-ok g c = rw c.in-Convert.is (c.convert.ensures.ok c.args.image.now (state_of c.args.self.now (g.M.Memory.store c.args.memory.now)))

pub returns-in-Convert-clause-err : goal.returns-in-Convert-clause-err
returns-in-Convert-clause-err g c = rw c.in-Convert.is (c.convert.ensures.err c.args.image.now (state_of c.args.self.now (g.M.Memory.store c.args.memory.now)))

pub returns-in-Jump-clause-ok : goal.returns-in-Jump-clause-ok
returns-in-Jump-clause-ok g c = rw c.in-Jump.is (c.jump.ensures.ok c.args.image.now (state_of c.args.self.now (g.M.Memory.store c.args.memory.now)))

pub returns-in-Jump-clause-err : goal.returns-in-Jump-clause-err
returns-in-Jump-clause-err g c = rw c.in-Jump.is (c.jump.ensures.err c.args.image.now (state_of c.args.self.now (g.M.Memory.store c.args.memory.now)))

pub returns-in-JumpZero-clause-ok : goal.returns-in-JumpZero-clause-ok
returns-in-JumpZero-clause-ok g c = rw c.in-JumpZero.is (c.jump_zero.ensures.ok c.args.image.now (state_of c.args.self.now (g.M.Memory.store c.args.memory.now)))

pub returns-in-JumpZero-clause-err : goal.returns-in-JumpZero-clause-err
returns-in-JumpZero-clause-err g c = rw c.in-JumpZero.is (c.jump_zero.ensures.err c.args.image.now (state_of c.args.self.now (g.M.Memory.store c.args.memory.now)))

pub returns-in-JumpNonzero-clause-ok : goal.returns-in-JumpNonzero-clause-ok
returns-in-JumpNonzero-clause-ok g c = rw c.in-JumpNonzero.is (c.jump_nonzero.ensures.ok c.args.image.now (state_of c.args.self.now (g.M.Memory.store c.args.memory.now)))

pub returns-in-JumpNonzero-clause-err : goal.returns-in-JumpNonzero-clause-err
returns-in-JumpNonzero-clause-err g c = rw c.in-JumpNonzero.is (c.jump_nonzero.ensures.err c.args.image.now (state_of c.args.self.now (g.M.Memory.store c.args.memory.now)))

pub returns-in-Global-clause-ok : goal.returns-in-Global-clause-ok
returns-in-Global-clause-ok g c = rw c.in-Global.is (c.global.ensures.ok c.args.image.now (state_of c.args.self.now (g.M.Memory.store c.args.memory.now)))

pub returns-in-Global-clause-err : goal.returns-in-Global-clause-err
returns-in-Global-clause-err g c = rw c.in-Global.is (c.global.ensures.err c.args.image.now (state_of c.args.self.now (g.M.Memory.store c.args.memory.now)))

pub returns-in-Out-clause-ok : goal.returns-in-Out-clause-ok
returns-in-Out-clause-ok g c = rw c.in-Out.is (c.write.ensures.ok c.args.image.now (state_of c.args.self.now (g.M.Memory.store c.args.memory.now)))

pub returns-in-Out-clause-err : goal.returns-in-Out-clause-err
returns-in-Out-clause-err g c = rw c.in-Out.is (c.write.ensures.err c.args.image.now (state_of c.args.self.now (g.M.Memory.store c.args.memory.now)))

pub returns-in-In-clause-ok : goal.returns-in-In-clause-ok
returns-in-In-clause-ok g c = rw c.in-In.is (c.read.ensures.ok c.args.image.now (g.M.Memory.store c.args.memory.now))

pub returns-in-In-clause-err : goal.returns-in-In-clause-err
returns-in-In-clause-err g c = rw c.in-In.is (c.read.ensures.err c.args.image.now (g.M.Memory.store c.args.memory.now))

pub returns-in-Begin-clause-ok : goal.returns-in-Begin-clause-ok
returns-in-Begin-clause-ok g c = rw c.in-Begin.is (c.begin.ensures.ok c.args.image.now (state_of c.args.self.now (g.M.Memory.store c.args.memory.now)))

pub returns-in-Begin-clause-err : goal.returns-in-Begin-clause-err
returns-in-Begin-clause-err g c = rw c.in-Begin.is (c.begin.ensures.err c.args.image.now (state_of c.args.self.now (g.M.Memory.store c.args.memory.now)))

pub returns-in-Verdict-clause-ok : goal.returns-in-Verdict-clause-ok
returns-in-Verdict-clause-ok g c = rw c.in-Verdict.is (c.verdict.ensures.ok c.args.image.now (state_of c.args.self.now (g.M.Memory.store c.args.memory.now)))

pub returns-in-Verdict-clause-err : goal.returns-in-Verdict-clause-err
returns-in-Verdict-clause-err g c = rw c.in-Verdict.is (c.verdict.ensures.err c.args.image.now (state_of c.args.self.now (g.M.Memory.store c.args.memory.now)))

pub returns-in-Throw-clause-ok : goal.returns-in-Throw-clause-ok
returns-in-Throw-clause-ok g c = rw c.in-Throw.is (c.throw.ensures.ok c.args.image.now (g.M.Memory.store c.args.memory.now))

pub returns-in-Throw-clause-err : goal.returns-in-Throw-clause-err
returns-in-Throw-clause-err g c = rw c.in-Throw.is (c.throw.ensures.err c.args.image.now (g.M.Memory.store c.args.memory.now))

pub returns-in-Rethrow-clause-ok : goal.returns-in-Rethrow-clause-ok
returns-in-Rethrow-clause-ok g c = rw c.in-Rethrow.is (c.rethrow.ensures.ok c.args.image.now (g.M.Memory.store c.args.memory.now))

pub returns-in-Rethrow-clause-err : goal.returns-in-Rethrow-clause-err
returns-in-Rethrow-clause-err g c = rw c.in-Rethrow.is (c.rethrow.ensures.err c.args.image.now (g.M.Memory.store c.args.memory.now))

pub returns-in-Held-clause-ok : goal.returns-in-Held-clause-ok
returns-in-Held-clause-ok g c = rw c.in-Held.is (c.give_held.ensures.ok c.args.image.now (g.M.Memory.store c.args.memory.now))

pub returns-in-Held-clause-err : goal.returns-in-Held-clause-err
returns-in-Held-clause-err g c = rw c.in-Held.is (c.give_held.ensures.err c.args.image.now (g.M.Memory.store c.args.memory.now))

pub returns-in-Resume-clause-ok : goal.returns-in-Resume-clause-ok
returns-in-Resume-clause-ok g c = rw c.in-Resume.is (c.resume.ensures.ok c.args.image.now (g.M.Memory.store c.args.memory.now))

pub returns-in-Resume-clause-err : goal.returns-in-Resume-clause-err
returns-in-Resume-clause-err g c = rw c.in-Resume.is (c.resume.ensures.err c.args.image.now (g.M.Memory.store c.args.memory.now))

pub returns-in-Destroyed-clause-ok : goal.returns-in-Destroyed-clause-ok
returns-in-Destroyed-clause-ok g c = rw c.in-Destroyed.is (c.destroyed.ensures.ok c.args.image.now (state_of c.args.self.now (g.M.Memory.store c.args.memory.now)))

pub returns-in-Destroyed-clause-err : goal.returns-in-Destroyed-clause-err
returns-in-Destroyed-clause-err g c = rw c.in-Destroyed.is (c.destroyed.ensures.err c.args.image.now (state_of c.args.self.now (g.M.Memory.store c.args.memory.now)))
