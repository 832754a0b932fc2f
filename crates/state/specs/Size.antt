-- Whether a picture has the terminal's size.
use Rattle.std.specs.Prelude.{Bool, ◌&&◌, ◌==◌}
use Rattle.plane.specs.Picture.{Picture}
use Rattle.state.specs.declared.terminal.Terminal.{Terminal}

abbrev pub same_size : Terminal → Picture → Bool
same_size t p = p.wide == t.setup.size.width && p.high == t.setup.size.height
