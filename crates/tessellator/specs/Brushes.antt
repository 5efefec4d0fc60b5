-- How the vertex of a row is made at a place.
use Rattle.emath.specs.declared.plane.Pos2.{Pos2}
use Rattle.ecolor.specs.Colors.{faded, transparent}
use Rattle.ecolor.specs.Vertices.{untextured}
use Rattle.ecolor.specs.declared.color.Color32.{Color32}
use Rattle.ecolor.specs.declared.vertex.Vertex.{Vertex}
use Rattle.tessellator.specs.declared.row.Paint.{Paint}
use Rattle.tessellator.specs.declared.row.Paint.TheVariants.{Flat, Core, Faded}

-- the colour of a vertex, where `rule` says the core's
abbrev pub color_of : (Pos2 → Color32) → Paint → Pos2 → Color32
color_of rule (Flat color) place = color
color_of rule Core place = rule place
color_of rule (Faded factor) place = faded factor (rule place)

abbrev pub colored : (Pos2 → Color32) → Paint → Pos2 → Vertex
colored rule paint place = untextured place (color_of rule paint place)

-- a fill has no core
abbrev pub flat_color : Paint → Color32
flat_color (Flat color) = color
flat_color Core = transparent
flat_color (Faded factor) = transparent

abbrev pub plain : Paint → Pos2 → Vertex
plain paint place = untextured place (flat_color paint)

abbrev pub textured : (Pos2 → Pos2) → Paint → Pos2 → Vertex
textured rule paint place = record { pos = place; uv = rule place; color = flat_color paint }
