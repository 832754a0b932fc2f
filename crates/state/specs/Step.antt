-- The rules as tables over actions: the state, the picture and the waiting strokes after each, and what it replies.
-- State and replies are never handed the picture.
use Rattle.std.specs.Prelude.{true, false, List, [], ◌∷◌, ◌++◌}
use Rattle.keyboard.specs.declared.stroke.Stroke.{Stroke}
use Rattle.plane.specs.Picture.{Picture}
use Rattle.raster.specs.Clear.{cleared}
use Rattle.raster.specs.Line.{lined}
use Rattle.state.specs.declared.action.Action.{Action}
use Rattle.state.specs.declared.action.Action.TheVariants.{Nothing, Control, Draw, Gin, Key, Aim}
use Rattle.state.specs.declared.action.Control.TheVariants.{Lock, Unlock, Acknowledge, Report, Reset}
use Rattle.state.specs.declared.action.Drawing.TheVariants.{Move, Line}
use Rattle.state.specs.declared.action.GinAction.{GinAction}
use Rattle.state.specs.declared.action.GinAction.TheVariants.{Enter, Begin, Lose, Leave}
use Rattle.state.specs.declared.action.KeyAction.{KeyAction}
use Rattle.state.specs.declared.action.KeyAction.TheVariants.{Hold}
use Rattle.state.specs.declared.terminal.Gin.TheVariants.{Off, On, AfterEscape}
use Rattle.state.specs.declared.terminal.Terminal.{Terminal}
use Rattle.state.specs.Terminal.{whole, renewed}

abbrev pub state_after : Terminal → Action → Terminal
state_after t Nothing = t
state_after t (Control Lock) = record t { locked = true }
state_after t (Control Unlock) = record t { locked = false }
state_after t (Control Acknowledge) = t
state_after t (Control Report) = t
state_after t (Control Reset) = renewed t
state_after t (Draw (Move to)) = record t { window = record t.window { position = to } }
state_after t (Draw (Line to)) = record t { window = record t.window { position = to } }
state_after t (Gin Enter) = record t { gin = On }
state_after t (Gin Begin) = record t { gin = AfterEscape }
state_after t (Gin Lose) = record t { gin = On }
state_after t (Gin Leave) = record t { gin = Off }
state_after t (Gin GinAction.Report) = record t { gin = Off }
state_after t (Gin (GinAction.Send k)) = record t { gin = Off }
state_after t (Key (Hold k)) = t
state_after t (Key (KeyAction.Send k)) = t
state_after t (Aim p) = record t { pointer = p }

-- a line runs from the position with the drawing operation, inside the region; all new means that every pixel is 0
abbrev pub picture_after : Terminal → Action → Picture → Picture
picture_after t Nothing p = p
picture_after t (Control Lock) p = p
picture_after t (Control Unlock) p = p
picture_after t (Control Acknowledge) p = p
picture_after t (Control Report) p = p
picture_after t (Control Reset) p = cleared (whole t.setup) p
picture_after t (Draw (Move to)) p = p
picture_after t (Draw (Line to)) p = lined t.window.area t.window.pen.drawing t.window.position to t.modes.last_point p
picture_after t (Gin g) p = p
picture_after t (Key k) p = p
picture_after t (Aim a) p = p

abbrev pub strokes_after : List Stroke → Action → List Stroke
strokes_after ks Nothing = ks
strokes_after ks (Control Lock) = ks
strokes_after ks (Control Unlock) = []
strokes_after ks (Control Acknowledge) = ks
strokes_after ks (Control Report) = ks
strokes_after ks (Control Reset) = ks
strokes_after ks (Draw d) = ks
strokes_after ks (Gin g) = ks
strokes_after ks (Key (Hold k)) = ks ++ (k ∷ [])
strokes_after ks (Key (KeyAction.Send k)) = ks
strokes_after ks (Aim a) = ks
