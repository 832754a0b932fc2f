-- A new terminal, and what ESC c leaves of one.
use Rattle.std.specs.Prelude.{ℕ, ◌-◌, min, Bool, true, false, pos}
use Rattle.parser.specs.declared.emulation.Emulation.TheVariants.{Native}
use Rattle.parser.specs.declared.machine.Parser.{Parser}
use Rattle.parser.specs.declared.machine.State.TheVariants.{Ground}
use Rattle.raster.specs.declared.operation.Operation.TheVariants.{Copy}
use Rattle.raster.specs.declared.region.Point.{Point}
use Rattle.raster.specs.declared.region.Region.{Region}
use Rattle.state.specs.declared.setup.Setup.{Setup}
use Rattle.state.specs.declared.terminal.Gin.TheVariants.{Off}
use Rattle.state.specs.declared.terminal.Place.{Place}
use Rattle.state.specs.declared.terminal.Terminal.{Terminal}

-- the home position of a region of this height, (0, height - 16); the cut at 32,767 is above every height that is installed
abbrev pub home : ℕ → Point
home h = record { x = pos 0; y = pos (min 32767 (h - 16)) }

-- the whole plane
abbrev pub whole : Setup → Region
whole s = record { left = 0; bottom = 0; width = s.size.width; height = s.size.height }

-- a new terminal with this lock and pointer: native, the whole plane as region 0, operation 3, at home; last point set,
-- other modes off; no graphics input, and no sequence begun
abbrev pub made : Setup → Bool → Place → Terminal
made s l p = record {
  setup = s;
  emulation = Native;
  modes = record { last_point = true; keys = record { cursor_keys = false; keypad_application = false } };
  window = record { number = 0; area = whole s; position = home s.size.height; pen = record { drawing = Copy } };
  locked = l;
  pointer = p;
  gin = Off;
  parser = record { state = Ground };
}

-- unlocked, with the pointer at (0, 0)
abbrev pub new : Setup → Terminal
new s = made s false (record { x = 0; y = 0 })

-- all new but the pointer and the lock
abbrev pub renewed : Terminal → Terminal
renewed t = made t.setup t.locked t.pointer

abbrev pub with_parser : Parser → Terminal → Terminal
with_parser v t = record t { parser = v }
