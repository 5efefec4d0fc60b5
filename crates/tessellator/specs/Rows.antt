-- Figures as rows of vertices beside a path.
use Rattle.std.specs.Prelude.{List, map}
use Rattle.std.specs.List.{flat_map}
use Rattle.emath.specs.declared.plane.Pos2.{Pos2}
use Rattle.path.specs.Points.{place_of}
use Rattle.path.specs.declared.point.PathPoint.{PathPoint}
use Rattle.ecolor.specs.declared.vertex.Vertex.{Vertex}
use Rattle.tessellator.specs.declared.row.Paint.{Paint}
use Rattle.tessellator.specs.declared.row.Row.{Row}

-- the vertex of a row at a point, where `brush` makes a vertex at a place
abbrev pub vertex_of : (Paint → Pos2 → Vertex) → PathPoint → Row → Vertex
vertex_of brush point row = brush row.paint (place_of row.side point)

-- the vertices of one point, and of all of them
abbrev pub vertices_at : (Paint → Pos2 → Vertex) → List Row → PathPoint → List Vertex
vertices_at brush rows point = map (vertex_of brush point) rows

abbrev pub row_vertices : (Paint → Pos2 → Vertex) → List Row → List PathPoint → List Vertex
row_vertices brush rows points = flat_map (vertices_at brush rows) points
