-- Pens.
use Rattle.std.specs.Prelude.{false}
use Rattle.raster.specs.declared.operation.Operation.TheVariants.{Copy, Clear}
use Rattle.regions.specs.declared.pen.Pen.{Pen}

-- operations 3, plain
abbrev pub new : Pen
new = record { drawing = Copy; text = Copy; reversed = false }

-- operations 0, plain
abbrev pub eraser : Pen
eraser = record { drawing = Clear; text = Clear; reversed = false }
