-- The meaning of the rule of two tones.
use Rattle.std.specs.Prelude.{if◌then◌else◌}
use Rattle.std.specs.Float.Ieee.{lt}
use Rattle.emath.specs.declared.plane.Pos2.{Pos2}
use Rattle.ecolor.specs.declared.color.Color32.{Color32}
use Rattle.two_tone.specs.declared.TwoTone.{TwoTone}

abbrev pub tone_at : TwoTone → Pos2 → Color32
tone_at tones p = if lt p.x tones.border then tones.left else tones.right
