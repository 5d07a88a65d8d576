-- What the workers of a window do.
use Rattle.std.specs.{Prelude.{◌≡◌, ◌↔◌, ◌<◌, ◌≤◌, ◌-◌, ◌++◌, ℕ, Bool, nat_eq, filter, List, [], length, map, ◌∷◌, Result, IfOk, IfErr, IsErrOf, vec_len}, List.{All, AllPairs, Contains, flat_map, Sorted.{IsPermutation}}, Global.{Vec}}
use Rattle.{process_api.specs.{Mind.{Mind}, declared.{message.Letter.{Letter}, run_error.RunError.{RunError, TheVariants.{Limit}}}}, scenario_record.specs.Record.{Record}, steps.specs.Seat.{own_of}, trace_laws.specs.History.{IsIn}}
use Rattle.mailboxes.specs.Mailboxes.{MailboxId, SlipView, IsSlipOf, unused, posted_to}
use Rattle.windows.specs.{Berth.{IsBerth, IsBerthOf, IsLong, RanTo, with_letters}, Stage.{IsRefusal, IsRefusalOfOne}, declared.{berth.Berth.{Berth}, workers.{Work.{Work}, Start.{Start}}, shared.{Shared.{Shared}, Window.{Window}}}}
use Rattle.deques.specs.Deques.{DequeId, HandView, RestView, all_put}

-- one run of a berth: the berth as it was taken, the berth as it was left, and the letters that were posted, in order
pub record Stay (M : Type 0) : Type 0 where
  pub before : Berth M
  pub after : Berth M
  pub letters : List Letter

-- whether a letter is to receiver r
abbrev pub is_to : ℕ → Letter → Bool
is_to r x = nat_eq (x.key.receiver - 1) (r - 1)

module _ {M : Type 0} where
  abbrev pub stay : Berth M → Berth M → List Letter → Stay M
  stay before after letters = record { before = before; after = after; letters = letters }

  -- the berths that were taken, and those that were left
  abbrev pub taken_in : List (Stay M) → List (Berth M)
  taken_in stays = map (λ t. t.before) stays

  abbrev pub left_in : List (Stay M) → List (Berth M)
  left_in stays = map (λ t. t.after) stays

  abbrev pub sent_in : List (Stay M) → List Letter
  sent_in stays = flat_map (λ t. t.letters) stays

  -- a letter to receiver r is one of these runs
  abbrev pub IsSent : List (Stay M) → (r : ℕ) → Letter → Type 0
  IsSent stays r x = (t : Stay M) × IsIn t stays × IsIn x t.letters × (x.key.receiver - 1 ≡ r - 1)

  module _ (mind : M → Mind) (s : Record) where
    -- a process of the scenario, for which nothing was done in this window yet
    abbrev pub IsReady : Berth M → Type 0
    IsReady b = IsBerthOf mind s b × (b.part.items ≡ [])

    -- the process took its events below the end, and stays in its berth
    abbrev pub IsStay : (end : ℕ) → Stay M → Type 0
    IsStay end t = RanTo mind s (own_of mind t.before.seat) end t.before t.after t.letters
        × ((p most : ℕ) → IsBerth mind s p most t.before → IsBerth mind s p most t.after)

    -- one of the processes has
    abbrev pub HasLong : (end left : ℕ) → List (Berth M) → Type 0
    HasLong end left berths = (b : Berth M) × Contains berths b × IsLong mind s end left b

    -- of these mailboxes: each berth that was taken was run and is among the done, and the slip has these runs' letters
    pub record AreRunBy (end : ℕ) (mailboxes : List MailboxId) (taken : List (Berth M)) (slip : SlipView)
        (done : List (Berth M)) : Type 0 where
      pub of_mailboxes : IsSlipOf mailboxes slip
      pub stays : List (Stay M)
      pub each : All (IsStay end) stays
      pub taken_are : IsPermutation (taken_in stays) taken
      pub done_are : left_in stays ≡ done
      pub posted : slip ≡ with_letters (unused mailboxes) (sent_in stays)

    -- a worker ran what it took from these deques
    pub record IsWork (end : ℕ) (deques : List DequeId) (mailboxes : List MailboxId) (hand : HandView (Berth M))
        (slip : SlipView) (done : List (Berth M)) : Type 0 where
      pub of_deques : hand.deques ≡ deques
      pub run : AreRunBy end mailboxes hand.taken slip done

    -- what the starter took itself, after the workers: with it each berth was taken, as often as it was put in
    pub record IsRest (end : ℕ) (mailboxes : List MailboxId) (old new : RestView (Berth M)) (slip : SlipView)
        (done : List (Berth M)) : Type 0 where
      pub rest : List (Berth M)
      pub run : AreRunBy end mailboxes rest slip done
      pub taken : IsPermutation (old.taken ++ rest) new.taken
      pub same : IsPermutation (all_put old.own) new.taken

    -- each of these processes had its window, or nothing to run; the slips have just these runs' letters, in order
    pub record AreRun (end : ℕ) (mailboxes : List MailboxId) (olds news : List (Berth M))
        (slips : List SlipView) : Type 0 where
      pub stays : List (Stay M)
      pub each : All (IsStay end) stays
      pub olds_are : IsPermutation (taken_in stays) olds
      pub news_are : left_in stays ≡ news
      pub of_mailboxes : All (IsSlipOf mailboxes) slips
      pub posted : (r : ℕ) → 1 ≤ r → r ≤ s.processes → posted_to slips r ≡ filter (is_to r) (sent_in stays)

    -- in the order of the processes; a letter is among those to a receiver just where one of the runs sent it
    pub record IsOutcome (end : ℕ) (olds news : List (Berth M)) (slips : List SlipView) : Type 0 where
      pub stays : List (Stay M)
      pub each : All (IsStay end) stays
      pub olds_are : taken_in stays ≡ olds
      pub news_are : left_in stays ≡ news
      pub letters : (r : ℕ) → 1 ≤ r → r ≤ s.processes → (x : Letter) → IsIn x (posted_to slips r) ↔ IsSent stays r x

  -- all that had been dealt to these workers once they are joined
  abbrev pub given_to : List (Work M) → List (Berth M)
  given_to works = all_put (map (λ w. w.hand.own) works)

  -- whatever these workers did, with a mailbox for each process, it is brought together
  abbrev pub BringsTogether : (M → Mind) → List DequeId → List (Work M) → (taken done : List (Berth M))
      → List SlipView → Type 0
  BringsTogether mind deques works taken done slips =
      (s : Record) (end : ℕ) (mailboxes : List MailboxId) → length mailboxes ≡ s.processes
      → All (λ w. IsWork mind s end deques mailboxes w.hand w.slip w.done.items) works
      → AreRun mind s end mailboxes taken done slips

  -- of these deques and these mailboxes, and nothing was taken or posted yet
  pub record IsFresh (deques : List DequeId) (mailboxes : List MailboxId) (hand : HandView (Berth M))
      (slip : SlipView) : Type 0 where
    pub of_deques : hand.deques ≡ deques
    pub none_taken : hand.taken ≡ []
    pub none_posted : slip ≡ unused mailboxes

-- each key is below those after it
abbrev pub RiseBy : {X : Type 0} → (X → ℕ) → List X → Type 0
RiseBy key xs = AllPairs (λ x y. key x < key y) xs

-- of these mailboxes are a slip and a tray, whose letters wait to be posted by the slip
pub record ArePosting (mailboxes : List MailboxId) (slip : SlipView) (tray : List (List Letter)) : Type 0 where
  pub by_slip : IsSlipOf mailboxes slip
  pub posted : length slip.posted ≡ length mailboxes
  pub waiting : length tray ≡ length mailboxes

module _ {M : Type 0} (mind : M → Mind) where
  -- nothing was done in these berths for this window yet
  abbrev pub AreReady : Window → List (Berth M) → Type 0
  AreReady w berths = All (IsReady mind w.streams) berths

  -- one of these processes has more events below the window's end than entries fit
  abbrev pub IsOneTooLong : Window → List (Berth M) → Type 0
  IsOneTooLong w berths = HasLong mind w.streams w.end w.left berths

  module _ {G : Type 0} (w : Shared M G) where
    -- a worker's beginning: its hand and slip are of this window and unused; what was put in is all ready to take
    abbrev pub IsStart : Start M → Type 0
    IsStart s = IsFresh w.fronts.now.items w.mailboxes.now s.hand s.slip × AreReady w.window.now s.hand.known

    -- by this hand and this slip a worker did this work in this window
    abbrev pub IsWorkBy : HandView (Berth M) → SlipView → List (Berth M) → Type 0
    IsWorkBy hand slip done =
        IsWork mind w.window.now.streams w.window.now.end w.fronts.now.items w.mailboxes.now hand slip done

    -- this berth was run too: by the slip, and it is among those that were done
    abbrev pub RunsOneMore : Berth M → (old new : SlipView) → (before after : List (Berth M)) → Type 0
    RunsOneMore b old new before after =
        (taken : List (Berth M)) → AreRunBy mind w.window.now.streams w.window.now.end w.mailboxes.now taken old before
        → AreRunBy mind w.window.now.streams w.window.now.end w.mailboxes.now (taken ++ b ∷ []) new after

    -- a worker's work in this window
    abbrev pub IsWorkIn : Work M → Type 0
    IsWorkIn x = IsWorkBy x.hand x.slip x.done.items

    -- A worker answers its work, with the deque that was its own; or that memory was refused; or the limit, where one
    -- of the berths that it knows is too long
    pub record IsAnswerTo (s : Start M) (r : Result (Work M) RunError) : Type 0 where
      pub own : IfOk r (λ x. x.hand.own ≡ s.hand.own)
      pub work : IfOk r IsWorkIn
      pub errors : IfErr r IsRefusalOfOne
      pub limit : IsErrOf r Limit → IsOneTooLong w.window.now s.hand.known

    -- What the workers that began so answer together: the work of each, or why there is none. It is the limit only
    -- where one of the berths that all of them know is too long
    pub record AreAnswers (starts : List (Start M)) (r : Result (Vec (Work M)) RunError) : Type 0 where
      pub count : IfOk r (λ works. vec_len works ≡ length starts)
      pub own : IfOk r (λ works. map (λ x. x.hand.own) works.items ≡ map (λ b. b.hand.own) starts)
      pub works : IfOk r (λ works. All IsWorkIn works.items)
      pub errors : IfErr r IsRefusal
      pub limit : IsErrOf r Limit → (known : List (Berth M))
          → All (λ b. b.hand.known ≡ known) starts → IsOneTooLong w.window.now known

    -- what the starter ran itself, after the workers
    abbrev pub IsRestIn : (old new : RestView (Berth M)) → SlipView → List (Berth M) → Type 0
    IsRestIn old new slip done = IsRest mind w.window.now.streams w.window.now.end w.mailboxes.now old new slip done

  -- each of these processes had its window
  abbrev pub HadWindow : Window → List MailboxId → (olds news : List (Berth M)) → List SlipView → Type 0
  HadWindow w mailboxes olds news slips = AreRun mind w.streams w.end mailboxes olds news slips
