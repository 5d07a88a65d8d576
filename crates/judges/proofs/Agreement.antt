-- Agreement, validity and integrity of the rotating coordinator, in every trace. Begin here.
--
-- 1. Joined: what is asked of the machines. Each mind has a coordinator above lower parts that send none of its letters and
--    note none of its decisions, and never suspects itself. That a scenario's minds are such is shown in `Instances`, beside
--    this folder, from laws of the base detector alone.
-- 2. Local: facts of one process, of its state and of all that it did so far. They speak of `Sent`, what anybody has sent
--    in the whole run, and say nothing else of the others: an estimate stamped t > 0 is round t's proposal; a proposal is the
--    best of a majority's estimates; who acknowledged round r stamps its later estimates r or more; a Decide has a majority's
--    acknowledgements behind it. One input keeps these facts, wait by wait.
-- 3. Coordinators: so they are an invariant of the list steps. A ghost log has what each process did so far, and each letter on
--    its way is in it. `Sent` is read from the log of the whole run.
-- 4. Locking: what follows for the values. A value that a majority acknowledged in round r is locked. A later proposal is the
--    best of a majority's estimates; two majorities meet, so one of these is of a process that acknowledged, its
--    stamp is r or more, and by induction on the round every proposal from r on has the locked value. Hence one locked value;
--    and by going back from stamp to stamp, it was some process's proposal.
-- 5. At the end of a trace (Coordinators) every decision is of a locked value, and no process notes two answers.
-- 6. Agreed: this said of the outcomes, whose decisions are those among the notes of the entries (Answering).
pub mod Answering
pub mod Locking
pub mod Local
pub mod Joined
pub mod Coordinators
pub mod Agreed
