use Rattle.std.proofs.Common.{◌+◌, ◌*◌, min, refl, ◌∙◌, arith}
use Rattle.plane.specs.Layout.{shown}
use Rattle.plane.proofs.CountLaws.{changes_most}
use Rattle.plane.proofs.RunLaws.{Done, further}
use Rattle.plane.proofs.change.change_row.Given.{Over}
use Rattle.plane.proofs.change.change_row.Goals as goal

-- a whole eight
whole : (g : Over) (c : goal.After-memory-in-loop-k-1 g) → let a = c.args in let lay = g.C.Cell.layout a.across a.up in Done a.y a.run.now.start (min a.run.now.end (8 * (c.loop-k.k + 1))) (g.H.Change.becomes a.change.now a.run.now.start (shown lay (g.C.Cell.numbers a.memory.now))) (shown lay (g.C.Cell.numbers a.memory.now)) (shown lay (g.C.Cell.numbers c.change_eight-count-in-loop-k.new.memory)) (c.loop-k.count + c.change_eight-count-in-loop-k.result)
whole g c =
    let a = c.args in
    let lay = g.C.Cell.layout a.across a.up in
    let numbers = g.C.Cell.numbers in
    let run = a.run.now in
    let l = c.loop-k in
    let part = c.change_eight-count-in-loop-k in
    further a.y run.start (g.H.Change.becomes a.change.now run.start) (shown lay (numbers a.memory.now)) (shown lay (numbers l.memory)) (shown lay (numbers part.new.memory)) (min run.end (8 * l.k)) _ _ (min run.end (8 * (l.k + 1))) l.count part.result (g.met.H.Change.steady a.change.now lay a.y run.start run.end (min run.end (8 * l.k)) (shown lay (numbers a.memory.now)) c.requires.fits) l.invariant.done (record { picture = part.ensures.picture; count = part.ensures.count }) (omega arith) (omega arith) (omega arith) (omega arith)

-- the start of the last eight
last : (g : Over) (c : goal.After-memory-then-last-run-1 g) → let a = c.args in let lay = g.C.Cell.layout a.across a.up in Done a.y a.run.now.start a.run.now.end (g.H.Change.becomes a.change.now a.run.now.start (shown lay (g.C.Cell.numbers a.memory.now))) (shown lay (g.C.Cell.numbers a.memory.now)) (shown lay (g.C.Cell.numbers c.change_eight-count-then-last-run.new.memory)) (c.loop-k.count + c.change_eight-count-then-last-run.result)
last g c =
    let a = c.args in
    let lay = g.C.Cell.layout a.across a.up in
    let numbers = g.C.Cell.numbers in
    let run = a.run.now in
    let l = c.loop-k in
    let part = c.change_eight-count-then-last-run in
    further a.y run.start (g.H.Change.becomes a.change.now run.start) (shown lay (numbers a.memory.now)) (shown lay (numbers l.memory)) (shown lay (numbers part.new.memory)) (min run.end (8 * l.k)) c.max-last.result run.end run.end l.count part.result (g.met.H.Change.steady a.change.now lay a.y run.start run.end (min run.end (8 * l.k)) (shown lay (numbers a.memory.now)) c.requires.fits) l.invariant.done (record { picture = part.ensures.picture; count = part.ensures.count }) (omega arith) refl (omega arith) (omega arith)

pub overflow_add-count : goal.overflow_add-count
overflow_add-count g c =
    let a = c.args in
    let lay = g.C.Cell.layout a.across a.up in
    omega (arith, (whole g c).count, changes_most a.y (shown lay (g.C.Cell.numbers a.memory.now)) (shown lay (g.C.Cell.numbers c.change_eight-count-in-loop-k.new.memory)), (g.met.C.Cell.blocks a.across a.up).wide)

pub loop-k-preserved : goal.loop-k-preserved
loop-k-preserved g c = record { length = c.change_eight-count-in-loop-k.ensures.length ∙ c.loop-k.invariant.length; done = whole g c }

pub overflow_add-count-then-last-run : goal.overflow_add-count-then-last-run
overflow_add-count-then-last-run g c =
    let a = c.args in
    let lay = g.C.Cell.layout a.across a.up in
    omega (arith, (last g c).count, changes_most a.y (shown lay (g.C.Cell.numbers a.memory.now)) (shown lay (g.C.Cell.numbers c.change_eight-count-then-last-run.new.memory)), (g.met.C.Cell.blocks a.across a.up).wide)

pub returns-then-last-run : goal.returns-then-last-run
returns-then-last-run g c =
    let d = last g c in
    record { length = c.change_eight-count-then-last-run.ensures.length ∙ c.loop-k.invariant.length; picture = d.picture; count = d.count }
