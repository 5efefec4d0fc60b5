-- The runs of triangles, as the code goes through them.
use Rattle.std.specs.Prelude.{List, [], ◌∷◌, map}
use Rattle.tessellator.specs.Triangles.{Triangle, named}
use Rattle.cutting.specs.Cutting.{lowest, highest, cut}
use Rattle.cutting.specs.Spans.{span_of}
use Rattle.cutting.specs.declared.run.Run.{Run}
use Rattle.cutting.specs.declared.run.Runs.{Runs}
use Rattle.cutting.specs.declared.span.Span.{Span}

abbrev pub span_of_run : List Triangle → Span
span_of_run [] = record { least = 0; greatest = 0 }
span_of_run (t ∷ ts) = record { least = lowest (span_of t).least ts; greatest = highest (span_of t).greatest ts }

-- a run with its span
abbrev pub with_span : List Triangle → Span × List Triangle
with_span ts = (span_of_run ts, ts)

abbrev pub seen : Run → Span × List Triangle
seen run = (run.span, map named run.triangles.now)

-- the runs that are still to come
abbrev pub runs_left : Runs → List (Span × List Triangle)
runs_left s = map with_span (cut (map named s.0.now))
