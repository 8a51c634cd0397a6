use Rattle.std.proofs.Common.{take, Ok}
use Rattle.std.specs.List.{flat_map}
use Rattle.cany_log.specs.Written.{IsWritten}
use Rattle.cany_check.proofs.Texts.LineFacts.{message_text}
use Rattle.cany_check.proofs.text.message_lines.write_messages.Given as goal

abbrev pub invariant-loop-i : goal.invariant-loop-i
invariant-loop-i g l =
    IsWritten (flat_map (message_text l.account) (take l.i l.account.messages)) (Ok tt)
    (g.K.Sink.taken l.initial.sink) (g.K.Sink.taken l.sink) (g.K.Sink.faults l.initial.sink) (g.K.Sink.faults l.sink)
