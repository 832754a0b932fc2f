-- The eight regions, and what selecting, defining and moving make of them.
use Rattle.std.specs.Prelude.{false, if◌then◌else◌, ◌||◌, List, [], ◌∷◌, ◌==◌, slice_index_or, slice_set, refl}
use Rattle.std.proofs.lemmas.Bool.{leb-true}
use Rattle.raster.specs.declared.operation.Operation.{Operation}
use Rattle.raster.specs.declared.region.Point.{Point}
use Rattle.regions.specs.declared.area.Area.{Area}
use Rattle.regions.specs.declared.pen.Pen.{Pen}
use Rattle.regions.specs.declared.regions.Regions.{Regions}
use Rattle.regions.specs.declared.size.Size.{Size}
use Rattle.regions.specs.declared.slot.Slot.{Slot}
use Rattle.regions.specs.declared.window.Window.{Window}
use Rattle.regions.specs.Area.{whole}
use Rattle.regions.specs.Slot.{first}
use Rattle.regions.specs.Window.{new as new_window}

-- the regions of a list, of which one is selected
abbrev pub table : List Window → Slot → Regions
table ws s = record { windows = ws; selected = s }

-- all are the whole plane, and region 0 is selected
abbrev pub new : Size → Regions
new s =
    let w : Window = new_window (whole s) in
    table (w ∷ w ∷ w ∷ w ∷ w ∷ w ∷ w ∷ w ∷ []) first

-- there are eight, so that this is never met
abbrev pub ninth : Window
ninth = new_window (whole (record { width = 16; height = 16; wide = leb-true 16 16 refl; high = leb-true 16 16 refl; narrow = leb-true 16 1024 refl; low = leb-true 16 1024 refl }))

abbrev pub window_of : Regions → Slot → Window
window_of r s = slice_index_or r.windows s.number ninth

-- the one that is selected
abbrev pub chosen : Regions → Window
chosen r = window_of r r.selected

abbrev pub with_window : Slot → Window → Regions → Regions
with_window s w r = table (slice_set r.windows s.number w) r.selected

-- the selected region at another position, with no wrap held
abbrev pub moved_to : Point → Regions → Regions
moved_to to r = with_window r.selected (record (chosen r) { position = to; held = false }) r

abbrev pub with_pen : Pen → Regions → Regions
with_pen p r = with_window r.selected (record (chosen r) { pen = p }) r

-- with another drawing operation, or text operation
abbrev pub drawing_by : Operation → Regions → Regions
drawing_by o r = with_pen (record (chosen r).pen { drawing = o }) r

abbrev pub texting_by : Operation → Regions → Regions
texting_by o r = with_pen (record (chosen r).pen { text = o }) r

abbrev pub selecting : Slot → Regions → Regions
selecting s r = table r.windows s

-- region 0 and the selected one are never defined anew
abbrev pub defining : Slot → Area → Regions → Regions
defining s a r = if s.number == 0 || s.number == r.selected.number then r else with_window s (new_window a) r
