-- Vertices and textures.
use Rattle.std.specs.Prelude.{Bool, false, ◌==◌}
use Rattle.emath.specs.Plane as plane
use Rattle.emath.specs.declared.plane.Pos2.{Pos2}
use Rattle.ecolor.specs.declared.color.Color32.{Color32}
use Rattle.ecolor.specs.declared.vertex.TextureId.{TextureId}
use Rattle.ecolor.specs.declared.vertex.TextureId.TheVariants.{Managed, User}
use Rattle.ecolor.specs.declared.vertex.Vertex.{Vertex}

abbrev pub default_texture : TextureId
default_texture = Managed 0

-- the default texture is Managed 0
abbrev pub is_default : TextureId → Bool
is_default (Managed number) = number == 0
is_default (User number) = false

abbrev pub same_texture : TextureId → TextureId → Bool
same_texture (Managed a) (Managed b) = a == b
same_texture (User a) (User b) = a == b
same_texture (Managed a) (User b) = false
same_texture (User a) (Managed b) = false

abbrev pub origin : Pos2
origin = record { x = plane.zero; y = plane.zero }

abbrev pub untextured : Pos2 → Color32 → Vertex
untextured place color = record { pos = place; uv = origin; color = color }
