-- The box of a figure.
use Rattle.std.specs.Prelude.{List, map, Float}
use Rattle.std.specs.Float.{binary32}
use Rattle.std.specs.Float.Ieee.{add, div}
use Rattle.emath.specs.Plane as plane
use Rattle.emath.specs.declared.rect.Rect.{Rect}
use Rattle.path.specs.declared.point.PathPoint.{PathPoint}

-- the box of the points' places
abbrev pub box_of : List PathPoint → Rect
box_of points = plane.box_of (map (λ p. p.pos) points)

-- the box of a stroke: its points' box, widened on every side by w/2 + f
abbrev pub stroke_box : Float → Float → List PathPoint → Rect
stroke_box feathering width points = plane.expanded (box_of points) (add binary32 (div binary32 width plane.two) feathering)
