-- A region as it is defined.
use Rattle.std.specs.Prelude.{◌-◌, false, pos}
use Rattle.raster.specs.declared.region.Point.{Point}
use Rattle.regions.specs.declared.area.Area.{Area}
use Rattle.regions.specs.declared.window.Window.{Window}
use Rattle.regions.specs.Pen.{new as new_pen}

-- (0, height - 16)
abbrev pub home : Area → Point
home a = record { x = pos 0; y = pos (a.region.height - 16) }

abbrev pub new : Area → Window
new a = record { area = a; position = home a; held = false; pen = new_pen }
