use Rattle.std.proofs.Common.{◌≡◌, ◌+◌, ◌*◌, ◌≤◌, ◌++◌, length}
use Rattle.queue.specs.Waiting.{waiting}
use Rattle.state.specs.Reply.{all_codes}
use Rattle.terminal.specs.Reply.{content}
use Rattle.terminal.proofs.reply.Reply.strokes.Given as goal

abbrev pub invariant-loop-stroke : goal.invariant-loop-stroke
invariant-loop-stroke l =
    (goal.iterator-loop-stroke).can_next l.stroke-iterator
    × (goal.iterator-loop-stroke).is_finite l.stroke-iterator
    × (content l.self ++ all_codes l.terminal l.stroke-iterator ≡ all_codes l.terminal (waiting l.strokes))
    × (length (content l.self) + 3 * length l.stroke-iterator ≤ 3 * length (waiting l.strokes))
