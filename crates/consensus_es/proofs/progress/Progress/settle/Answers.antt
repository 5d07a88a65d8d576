use Rattle.consensus_es.proofs.{Words.{subst, sym, cond, ◌+◌, ◌<◌, waits_left, state_of}, Settling.{Going, going_on, going_fewer, gone}}
use Rattle.std.specs.FinSet as set
use Rattle.consensus_es.proofs.progress.Progress.settle.Goals as goal

pub loop-more-preserved : goal.loop-more-preserved
loop-more-preserved c =
    let n = c.args.membership.now.processes in
    let own = c.args.membership.now.own in
    let q = set.contains c.args.suspects.now in
    let g = subst (Going n own q c.args.self.now c.loop-more.self c.args.out.now.items c.loop-more.out.items) c.loop-more-test.true c.loop-more.invariant in
    going_on n own q c.args.self.now c.args.out.now.items c.loop-more.self c.end_wait.new.self c.loop-more.out.items c.end_wait.new.out.items c.in_ok-more.more g c.in_ok-more.ensures

pub loop-more-smaller : goal.loop-more-smaller
loop-more-smaller c =
    let n = c.args.membership.now.processes in
    let own = c.args.membership.now.own in
    let q = set.contains c.args.suspects.now in
    let less = going_fewer n own q c.args.self.now c.args.out.now.items c.loop-more.self c.end_wait.new.self c.loop-more.out.items c.end_wait.new.out.items c.in_ok-more.more c.in_ok-more.ensures in
    subst (λ z. waits_left n own (state_of c.end_wait.new.self) + cond c.in_ok-more.more 1 0 < waits_left n own (state_of c.loop-more.self) + cond z 1 0) (sym c.loop-more-test.true) less

pub returns : goal.returns
returns c =
    let n = c.args.membership.now.processes in
    let own = c.args.membership.now.own in
    let q = set.contains c.args.suspects.now in
    gone n own q c.args.self.now c.args.out.now.items c.loop-more.self c.loop-more.out.items (subst (Going n own q c.args.self.now c.loop-more.self c.args.out.now.items c.loop-more.out.items) c.loop-more-test.false c.loop-more.invariant)
