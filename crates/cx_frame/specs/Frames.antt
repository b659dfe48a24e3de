-- This defines which frame of the machine's definition a frame is; it is this project's own.
use Rattle.cx_code.specs.State.{State}
use Rattle.cx_code.specs.State as states
use Rattle.cx_code.specs.Act.{with_frame}
use Rattle.cx_frame.specs.declared.frame.Frame.{Frame}

abbrev pub frame_in : Frame → states.Frame
frame_in frame = record { function = frame.function; place = frame.place; operands = frame.operands; slots = frame.slots.items; pending = frame.pending }

-- the state with this frame as the last one
abbrev pub framed : State → Frame → State
framed s frame = with_frame s (frame_in frame)
