use Rattle.windows.proofs.{Words.{◌≡◌, IfOk, subst, IfSome, All-pop, IsStart}, Joined.{popped, answer_at, answers_more}}
use Rattle.windows.proofs.workers.+start_workers.Goals as goal

pub start_worker-requires-after_bounds : goal.start_worker-requires-after_bounds
start_worker-requires-after_bounds g t c κs within =
    subst (λ r. IfSome r (IsStart g.M.Process.mind c.args.shared.now)) c.in-Some.is (All-pop (IsStart g.M.Process.mind c.args.shared.now) c.args.starts.items c.pop.new.self.items c.pop.result c.pop.ensures.items c.requires.starts).1

pub start_workers-rest-requires-clause-starts : goal.start_workers-rest-requires-clause-starts
start_workers-rest-requires-clause-starts g t c κs within =
    (All-pop (IsStart g.M.Process.mind c.args.shared.now) c.args.starts.items c.pop.new.self.items c.pop.result c.pop.ensures.items c.requires.starts).0

pub returns-in-Ok-clause-works : goal.returns-in-Ok-clause-works
returns-in-Ok-clause-works g t c =
    let child = c.in-Ok.child in
    let shared = subst (λ r. IfOk r (λ h. h.promise.shared.value ≡ c.args.shared.now)) c.in-Ok.is c.start_worker.ensures.shared in
    let start = subst (λ r. IfOk r (λ h. h.promise.start.value ≡ c.in-Some.start)) c.in-Ok.is c.start_worker.ensures.start in
    answers_more g.M.Process.mind c.args.shared.now c.args.starts.items c.pop.new.self.items c.in-Some.start
    (popped c.args.starts.items c.pop.new.self.items c.pop.result c.in-Some.start c.pop.ensures.items c.in-Some.is) c.start_workers-rest.result c.join-mine.result c.start_workers-rest.ensures.works
    (answer_at g.M.Process.mind child.promise.shared.value c.args.shared.now child.promise.start.value c.in-Some.start c.join-mine.result shared start c.join-mine.ensures)
    c.all_works.result c.all_works.ensures.ok c.all_works.ensures.err
