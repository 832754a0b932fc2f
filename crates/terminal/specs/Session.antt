-- A session as the set that the rules speak of, and whose it is.
use Rattle.std.specs.Prelude.{◌≡◌}
use Rattle.line.specs.Wire.{Wire}
use Rattle.plane.specs.Picture.{Picture}
use Rattle.queue.specs.Waiting.{waiting, places}
use Rattle.runs.specs.Set.{Set, set_of}
use Rattle.terminal.specs.declared.session.Session.{Session}

-- by what a plane shows and a line carries
abbrev pub seen : {P L : Type 0} → (P → Picture) → (L → Wire) → Session P L → Set
seen shows carries s = set_of s.terminal.now s.face.now (shows s.plane.now) (waiting s.strokes.now) (places s.strokes.now) (carries s.line.now)

-- the two lend the same: no call exchanges the terminal, the face, the plane, the line or the queue for another
pub record SameLoans {P L : Type 0} (s t : Session P L) : Type 0 where
  pub terminal : t.terminal.ghost_name ≡ s.terminal.ghost_name
  pub face : t.face ≡ s.face
  pub plane : t.plane.ghost_name ≡ s.plane.ghost_name
  pub line : t.line.ghost_name ≡ s.line.ghost_name
  pub strokes : t.strokes.ghost_name ≡ s.strokes.ghost_name
