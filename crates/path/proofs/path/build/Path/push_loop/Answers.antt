use Rattle.std.proofs.Common.{ap, ◌∙◌}
use Rattle.path.specs.Held.{held, extended}
use Rattle.path.specs.Lines.{loop_corners}
use Rattle.path.proofs.Growing.{begins, next_of, last_of}
use Rattle.path.proofs.Loops.{corners_length, bend_goes_on, bend_ends}
use Rattle.path.proofs.path.build.Path.push_loop.Goals as goal

pub loop-next-init : goal.loop-next-init
loop-next-init c = begins _ _ (simp corners_length c.requires)

pub loop-next-preserved : goal.loop-next-preserved
loop-next-preserved c =
    let here = c.loop-next in
    bend_goes_on _ here.normal here.at _ _ _ _ _ c.edge_normal.ensures c.between-turn.ensures
    (next_of (loop_corners c.edge_normal-closing.result here.normal here.at) _ _ _ c.loop-next-test.true here.invariant)
    c.push.ensures

pub returns : goal.returns
returns c =
    let here = c.loop-next in
    bend_ends _ _ _ _ _ c.between.ensures (last_of (loop_corners c.edge_normal-closing.result here.normal here.at) _ _ c.loop-next-test.false here.invariant) c.push-2.ensures
    ∙ ap (λ n. extended (held c.args.self.now) (loop_corners n n c.args.first c.args.rest.now)) c.edge_normal-closing.ensures
