use Rattle.std.proofs.Common.{[], ◌∷◌, length, sym, ap, ◌∙◌, arith}
use Rattle.path.specs.Held.{held, extended}
use Rattle.path.specs.Lines.{corner_points}
use Rattle.path.proofs.Growing.{put, put_both}
use Rattle.path.proofs.path.build.Path.push_corner.Goals as goal

pub returns-in-Mitre : goal.returns-in-Mitre
returns-in-Mitre c =
    let one = ap (λ k. length (corner_points c.args.at k)) c.in-Mitre.is in
    put _ _ (_ ∷ []) (omega (arith, c.requires)) c.push.ensures
    ∙ ap (λ k. extended (held c.args.self.now) (corner_points c.args.at k)) (sym c.in-Mitre.is)

pub returns-in-Cut : goal.returns-in-Cut
returns-in-Cut c =
    let two = ap (λ k. length (corner_points c.args.at k)) c.in-Cut.is in
    put_both _ _ _ _ _ (omega (arith, c.requires)) c.push-in-Cut.ensures c.push-in-Cut-2.ensures
    ∙ ap (λ k. extended (held c.args.self.now) (corner_points c.args.at k)) (sym c.in-Cut.is)
