-- What is brought together after a window.
use Rattle.windows.proofs.Words.{◌≡◌, ◌⊎◌, ◌↔◌, ℕ, zero, suc, ◌-◌, ◌<◌, inl, inr, List, [], ◌∷◌, ◌++◌, length, map, replicate, set, get_or, refl, sym, ap, ◌∙◌, subst, append_assoc, append-nil, arith, cond, filter, ⊎_elim, All, swap, IsPermutation, IsNonDecreasingBy, apply_swaps, SwapsInRange, cases_eq, eq-eqb, ne_eqb, eqb-true, map-append, map-set, length-map, length-set, length-replicate, get_or-set_other, get_or-map, get_or-replicate, flat_map-append, All-nil, All-push, All-append, All-map, All-take, All-drop, Contains-append_left, filter-append, IsPermutation-refl, IsPermutation-trans, IsPermutation-sym, IsPermutation-middle, IsPermutation-append, IsPermutation-append_left, IsPermutation-push_more, IsPermutation-map, All-permutation, Contains-permutation, Mind, Letter, Record, MailboxId, SlipView, IsSlipOf, unused, filed, list_of, posted_to, IsIn, own_of, NoneBelow, in_filter, filter_in, in_append, in_left, in_right, all_filed, with_letters, DequeId, RestView, all_put, Stay, stay, taken_in, is_to, sent_in, IsSent, IsStay, IsReady, IsFresh, AreRunBy, AreRun, IsRest, HasLong, IsOutcome, RiseBy, Start, Berth, slip_of, HandView, TookOne, IsWork}
use Rattle.windows.proofs.{Ranked.{in_permutation, same_order, sorted_is}, Letters.{filed_more}}
use Rattle.std.proofs.{Math.Seq.{take-append_seam, drop-append_seam}, lemmas.Grind.{get_or-set_at}}

-- ---- who waits

module _ {X : Type 0} where
  pub one_put : (ys put put' idle : List X) (b : X) → IsPermutation ys (put ++ idle) → put' ≡ put ++ b ∷ [] → IsPermutation (ys ++ b ∷ []) (put' ++ idle)
  one_put ys put put' idle b same is =
      IsPermutation-push_more ys (put ++ idle) (put' ++ idle) b same
      (subst (λ l. IsPermutation (b ∷ (put ++ idle)) l) (sym (ap (λ l. l ++ idle) is ∙ append_assoc put (b ∷ []) idle)) (IsPermutation-sym _ _ (IsPermutation-middle put b idle)))

  pub one_idle : (ys put idle idle' : List X) (b : X) → IsPermutation ys (put ++ idle) → idle' ≡ idle ++ b ∷ [] → IsPermutation (ys ++ b ∷ []) (put ++ idle')
  one_idle ys put idle idle' b same is =
      subst (IsPermutation (ys ++ b ∷ [])) (append_assoc put idle (b ∷ []) ∙ ap (λ l. put ++ l) (sym is)) (IsPermutation-append_left (b ∷ []) _ _ same)

all_of_map : {X Y : Type 0} (P : Y → Type 0) (f : X → Y) (xs : List X) → All P (map f xs) → All (λ x. P (f x)) xs
all_of_map P f xs h k d lt = subst P (get_or-map f xs k d (f d) lt) (h k (f d) (subst (λ n. k < n) (sym (length-map xs f)) lt))

-- ---- permutations lift through a function

module _ {X Y : Type 0} (f : X → Y) where
  map-swap : (xs : List X) (i j : ℕ) → map f (swap xs i j) ≡ swap (map f xs) i j
  map-swap [] i j = refl
  map-swap (d ∷ ys) i j = map-set f (set (d ∷ ys) i (get_or (d ∷ ys) j d)) j (get_or (d ∷ ys) i d)
      ∙ (λ k. set ((map-set f (d ∷ ys) i (get_or (d ∷ ys) j d) ∙ ap (set (map f (d ∷ ys)) i) (sym (get_or_map (d ∷ ys) j d))) k) j (sym (get_or_map (d ∷ ys) i d) k))
    where
      get_or_map : (xs : List X) (i : ℕ) (d : X) → get_or (map f xs) i (f d) ≡ f (get_or xs i d)
      get_or_map [] i d = refl
      get_or_map (x ∷ xs) zero d = refl
      get_or_map (x ∷ xs) (suc i) d = get_or_map xs i d

  map_swaps : (xs : List X) (ps : List (ℕ × ℕ)) → map f (apply_swaps xs ps) ≡ apply_swaps (map f xs) ps
  map_swaps xs [] = refl
  map_swaps xs (p ∷ ps) = map-swap (apply_swaps xs ps) p.0 p.1 ∙ ap (λ l. swap l p.0 p.1) (map_swaps xs ps)

  lifted : (xs : List X) (ys : List Y) → IsPermutation (map f xs) ys → (zs : List X) × IsPermutation xs zs × (map f zs ≡ ys)
  lifted xs ys p = (apply_swaps xs p.moves, record { moves = p.moves; below = subst (λ n. SwapsInRange n p.moves) (length-map xs f) p.below; is = refl }, map_swaps xs p.moves ∙ sym p.is)

-- ---- which letters the slips have

module _ (r : ℕ) where
  one_filed : (rows : List (List Letter)) (y : Letter) → r - 1 < length rows → list_of (filed rows y) r ≡ list_of rows r ++ filter (is_to r) (y ∷ [])
  one_filed rows y lt = go (cases_eq (r - 1) (y.key.receiver - 1))
    where
      go : (r - 1 ≡ y.key.receiver - 1) ⊎ (r - 1 ≡ y.key.receiver - 1 → ⊥) → list_of (filed rows y) r ≡ list_of rows r ++ filter (is_to r) (y ∷ [])
      go (inl e) = get_or-set_at rows (y.key.receiver - 1) (r - 1) (list_of rows y.key.receiver ++ y ∷ []) [] e (omega (arith, e, lt))
          ∙ (λ i. get_or rows (sym e i) [] ++ cond (sym (eq-eqb (y.key.receiver - 1) (r - 1) (sym e)) i) (y ∷ []) [])
      go (inr n) = get_or-set_other rows (y.key.receiver - 1) (r - 1) (list_of rows y.key.receiver ++ y ∷ []) [] n ∙ sym (append-nil (list_of rows r))
          ∙ ap (λ b. list_of rows r ++ cond b (y ∷ []) []) (sym (ne_eqb (y.key.receiver - 1) (r - 1) (λ e. n (sym e))))

  all_filed_at : (rows : List (List Letter)) (letters : List Letter) → r - 1 < length rows → list_of (all_filed rows letters) r ≡ list_of rows r ++ filter (is_to r) letters
  all_filed_at rows [] lt = sym (append-nil (list_of rows r))
  all_filed_at rows (y ∷ letters) lt =
      all_filed_at (filed rows y) letters (subst (λ n. r - 1 < n) (sym (length-set rows (y.key.receiver - 1) (list_of rows y.key.receiver ++ y ∷ []))) lt)
      ∙ ap (λ l. l ++ filter (is_to r) letters) (one_filed rows y lt)
      ∙ append_assoc (list_of rows r) (filter (is_to r) (y ∷ [])) (filter (is_to r) letters) ∙ ap (λ l. list_of rows r ++ l) (sym (filter-append (is_to r) (y ∷ []) letters))

  -- by a slip that was unused before
  posted_by : (mailboxes : List MailboxId) (letters : List Letter) → r - 1 < length mailboxes → list_of (with_letters (unused mailboxes) letters).posted r ≡ filter (is_to r) letters
  posted_by mailboxes letters lt =
      let n = length mailboxes in
      all_filed_at (replicate n []) letters (omega (arith, lt, length-replicate {A = List Letter} n [])) ∙ ap (λ l. l ++ filter (is_to r) letters) (get_or-replicate n (r - 1) [] [] lt)

  -- a letter of some runs to the receiver
  module _ {M : Type 0} where
    from_sent : (stays : List (Stay M)) (x : Letter) → IsIn x (sent_in stays) → (t : Stay M) × IsIn t stays × IsIn x t.letters
    from_sent [] x i = absurd i
    from_sent (t ∷ stays) x i = ⊎_elim (λ (j : IsIn x t.letters). (t, inl refl, j)) (λ (j : IsIn x (sent_in stays)). let s = from_sent stays x j in (s.0, inr s.1, s.2)) (in_append x t.letters (sent_in stays) i)

    to_sent : (stays : List (Stay M)) (t : Stay M) (x : Letter) → IsIn t stays → IsIn x t.letters → IsIn x (sent_in stays)
    to_sent [] t x i j = absurd i
    to_sent (u ∷ stays) t x (inl e) j = in_left x u.letters (sent_in stays) (subst (λ (v : Stay M). IsIn x v.letters) e j)
    to_sent (u ∷ stays) t x (inr i) j = in_right x u.letters (sent_in stays) (to_sent stays t x i j)

    is_sent : (stays : List (Stay M)) (x : Letter) → IsIn x (filter (is_to r) (sent_in stays)) ↔ IsSent stays r x
    is_sent stays x = (
      (λ i. let f = in_filter (is_to r) x (sent_in stays) i in let s = from_sent stays x f.0 in (s.0, s.1, s.2, eqb-true _ _ f.1)),
      (λ s. filter_in (is_to r) x (sent_in stays) (to_sent stays s.0 x s.1 s.2) (eq-eqb _ _ s.3)),
    )

-- ---- runs are brought together

module _ {M : Type 0} (mind : M → Mind) (s : Record) (end : ℕ) (mailboxes : List MailboxId) where
  pub run_none : (olds news : List (Berth M)) (slips : List SlipView) → olds ≡ [] → news ≡ [] → slips ≡ [] → AreRun mind s end mailboxes olds news slips
  run_none olds news slips o n p = record {
    stays = [];
    each = All-nil (IsStay mind s end);
    olds_are = subst (IsPermutation []) (sym o) (IsPermutation-refl []);
    news_are = sym n;
    of_mailboxes = subst (All (IsSlipOf mailboxes)) (sym p) (All-nil (IsSlipOf mailboxes));
    posted = λ r low high. ap (λ l. posted_to l r) p;
  }

  pub run_taken_as : (olds olds' news : List (Berth M)) (slips : List SlipView) → AreRun mind s end mailboxes olds news slips → IsPermutation olds olds' → AreRun mind s end mailboxes olds' news slips
  run_taken_as olds olds' news slips run same = record {
    stays = run.stays;
    each = run.each;
    olds_are = IsPermutation-trans _ _ _ run.olds_are same;
    news_are = run.news_are;
    of_mailboxes = run.of_mailboxes;
    posted = run.posted;
  }

  -- what was run by one slip more joins
  pub run_joined : length mailboxes ≡ s.processes → (slip : SlipView) (mine ran olds news news' : List (Berth M)) (slips slips' : List SlipView) → AreRun mind s end mailboxes olds news slips
      → AreRunBy mind s end mailboxes ran slip mine → news' ≡ news ++ mine → slips' ≡ slips ++ slip ∷ [] → AreRun mind s end mailboxes (olds ++ ran) news' slips'
  run_joined count slip mine ran olds news news' slips slips' run one n p = record {
    stays = run.stays ++ one.stays;
    each = All-append (IsStay mind s end) run.stays one.stays run.each one.each;
    olds_are = subst (λ l. IsPermutation l (olds ++ ran)) (sym (map-append (λ (t : Stay M). t.before) run.stays one.stays)) (IsPermutation-append _ _ _ _ run.olds_are one.taken_are);
    news_are = map-append (λ (t : Stay M). t.after) run.stays one.stays ∙ (λ i. run.news_are i ++ one.done_are i) ∙ sym n;
    of_mailboxes = subst (All (IsSlipOf mailboxes)) (sym p) (All-push (IsSlipOf mailboxes) slips slip run.of_mailboxes one.of_mailboxes);
    posted = λ r low high. ap (λ l. posted_to l r) p ∙ flat_map-append (λ (v : SlipView). list_of v.posted r) slips (slip ∷ [])
        ∙ (λ i. run.posted r low high i ++ (append-nil (list_of slip.posted r) ∙ ap (λ (v : SlipView). list_of v.posted r) one.posted ∙ posted_by r mailboxes (sent_in one.stays) (omega (arith, low, high, count))) i)
        ∙ sym (filter-append (is_to r) (sent_in run.stays) (sent_in one.stays)) ∙ ap (filter (is_to r)) (sym (flat_map-append (λ (t : Stay M). t.letters) run.stays one.stays));
  }

  abbrev idle : List (Berth M) → List (Stay M)
  idle bs = map (λ b. stay b b []) bs

  idle_map : (f : Stay M → Berth M) → ((b : Berth M) → f (stay b b []) ≡ b) → (bs : List (Berth M)) → map f (idle bs) ≡ bs
  idle_map f same [] = refl
  idle_map f same (b ∷ bs) = λ i. same b i ∷ idle_map f same bs i

  idle_silent : (bs : List (Berth M)) → sent_in (idle bs) ≡ []
  idle_silent [] = refl
  idle_silent (b ∷ bs) = idle_silent bs

  idle_stay : (b : Berth M) → NoneBelow end b.pending → IsStay mind s end (stay b b [])
  idle_stay b none = (record { history = []; run = (none, refl, refl, refl); part = sym (append-nil b.part.items) }, λ p most is. is)

  -- those with nothing to run join
  pub run_with_idle : (olds put rest done news : List (Berth M)) (slips : List SlipView) → AreRun mind s end mailboxes put done slips → IsPermutation olds (put ++ rest)
      → All (λ b. NoneBelow end b.pending) rest → news ≡ done ++ rest → AreRun mind s end mailboxes olds news slips
  run_with_idle olds put rest done news slips run same none is = record {
    stays = run.stays ++ idle rest;
    each = All-append (IsStay mind s end) run.stays (idle rest) run.each (All-map (IsStay mind s end) (λ b. stay b b []) rest (λ k d l. idle_stay (get_or rest k d) (none k d l)));
    olds_are = subst (λ l. IsPermutation l olds) (sym (map-append (λ (t : Stay M). t.before) run.stays (idle rest) ∙ ap (λ l. taken_in run.stays ++ l) (idle_map (λ t. t.before) (λ b. refl) rest)))
        (IsPermutation-trans _ _ _ (IsPermutation-append_left rest _ _ run.olds_are) (IsPermutation-sym olds (put ++ rest) same));
    news_are = map-append (λ (t : Stay M). t.after) run.stays (idle rest) ∙ (λ i. run.news_are i ++ idle_map (λ t. t.after) (λ b. refl) rest i) ∙ sym is;
    of_mailboxes = run.of_mailboxes;
    posted = λ r low high. run.posted r low high
        ∙ ap (filter (is_to r)) (sym (flat_map-append (λ (t : Stay M). t.letters) run.stays (idle rest) ∙ ap (λ l. sent_in run.stays ++ l) (idle_silent rest) ∙ append-nil (sent_in run.stays)));
  }

  -- ---- in the order of the processes

  same_owner : (t : Stay M) → IsReady mind s t.before → IsStay mind s end t → own_of mind t.after.seat ≡ own_of mind t.before.seat
  same_owner t ready ran = (ran.1 ready.0.0 _ ready.0.1).is ∙ sym ready.0.1.is

  pub outcome : (olds done news : List (Berth M)) (slips : List SlipView) → AreRun mind s end mailboxes olds done slips
      → All (IsReady mind s) olds → RiseBy (λ b. own_of mind b.seat) olds → IsPermutation done news → IsNonDecreasingBy (λ b. own_of mind b.seat) news
      → IsOutcome mind s end olds news slips
  outcome olds done news slips run ready rises order up =
      let own : Berth M → ℕ = λ b. own_of mind b.seat in
      let l = lifted (λ (t : Stay M). t.after) run.stays news (subst (λ bs. IsPermutation bs news) (sym run.news_are) order) in
      let stays : List (Stay M) = l.0 in
      let each : All (IsStay mind s end) stays = All-permutation (IsStay mind s end) run.stays stays l.1 run.each in
      let mixed : IsPermutation olds (taken_in stays) =
      IsPermutation-trans _ _ _ (IsPermutation-sym _ _ run.olds_are) (IsPermutation-map (λ (t : Stay M). t.before) run.stays stays l.1) in
      let mine : All (λ t. IsReady mind s t.before) stays = all_of_map (IsReady mind s) (λ (t : Stay M). t.before) stays (All-permutation (IsReady mind s) _ _ mixed ready) in
      let same : All (λ (t : Stay M). own t.before ≡ own t.after) stays = λ k d lt. sym (same_owner (get_or stays k d) (mine k d lt) (each k d lt)) in
      record {
        stays = stays;
        each = each;
        olds_are = sorted_is own olds (taken_in stays) rises mixed (same_order own (λ (t : Stay M). t.before) (λ (t : Stay M). t.after) stays same (subst (IsNonDecreasingBy own) (sym l.2) up));
        news_are = l.2;
        letters = λ r low high x.
            let there = is_sent r run.stays x in (
              (λ i. moved run.stays stays l.1 r x (there.0 (subst (IsIn x) (run.posted r low high) i))),
              (λ e. subst (IsIn x) (sym (run.posted r low high)) (there.1 (moved stays run.stays (IsPermutation-sym _ _ l.1) r x e))),
            );
      }
    where
      moved : (ts us : List (Stay M)) → IsPermutation ts us → (r : ℕ) (x : Letter) → IsSent ts r x → IsSent us r x
      moved ts us p r x (t, i, j, to) = (t, in_permutation ts us p t i, j, to)

-- ---- for the code

module _ {X : Type 0} (P : X → Type 0) where
  pub all_front : (xs ys : List X) → All P (xs ++ ys) → All P xs
  all_front xs ys h = subst (All P) (take-append_seam xs ys) (All-take P (length xs) (xs ++ ys) h)

  pub all_back : (xs ys : List X) → All P (xs ++ ys) → All P ys
  all_back xs ys h = subst (All P) (drop-append_seam xs ys) (All-drop P (length xs) (xs ++ ys) h)

  pub all_dealt : (olds put rest : List X) → IsPermutation olds (put ++ rest) → All P olds → All P put × All P rest
  all_dealt olds put rest same h = let all = All-permutation P olds (put ++ rest) same h in (all_front put rest all, all_back put rest all)

pub fresh_at : {M : Type 0} (deques deques' : List DequeId) (m m' : List MailboxId) (starts : List (Start M)) → All (λ b. IsFresh deques m b.hand b.slip) starts → deques ≡ deques' → m ≡ m'
    → All (λ b. IsFresh deques' m' b.hand b.slip) starts
fresh_at {M} deques deques' m m' starts fresh d e = subst (λ (l : List DequeId × List MailboxId). All (λ (b : Start M). IsFresh l.0 l.1 b.hand b.slip) starts) (λ i. (d i, e i)) fresh

module _ {M : Type 0} (mind : M → Mind) (s : Record) (end : ℕ) where
  pub long_among : (left : ℕ) (olds news : List (Berth M)) → IsPermutation olds news → HasLong mind s end left news → HasLong mind s end left olds
  long_among left olds news same (b, there, long) = (b, Contains-permutation news olds b (IsPermutation-sym olds news same) there, long)

  pub long_dealt : (left : ℕ) (olds waiting put rest : List (Berth M)) → IsPermutation olds (waiting ++ rest) → IsPermutation waiting put → HasLong mind s end left put → HasLong mind s end left olds
  long_dealt left olds waiting put rest same dealt long =
      let w = long_among left waiting put dealt long in
      long_among left olds (waiting ++ rest) same (w.0, Contains-append_left waiting rest w.0 w.1, w.2)

  pub run_at : (m m' : List MailboxId) (waiting put put' done : List (Berth M)) (slips : List SlipView) → AreRun mind s end m put done slips → m ≡ m' → put ≡ put' → IsPermutation waiting put'
      → AreRun mind s end m' waiting done slips
  run_at m m' waiting put put' done slips run e same dealt =
      run_taken_as mind s end m' put' waiting done slips (subst (λ l. AreRun mind s end l put' done slips) e (subst (λ l. AreRun mind s end m l done slips) same run)) (IsPermutation-sym waiting put' dealt)

  pub run_of_parts : (m m2 : List MailboxId) (old new : RestView (Berth M)) (put done mine done' : List (Berth M)) (slips slips' : List SlipView) (slip : SlipView)
      → AreRun mind s end m old.taken done slips → IsRest mind s end m2 old new slip mine → m2 ≡ m → all_put old.own ≡ put → done' ≡ done ++ mine → slips' ≡ slips ++ slip ∷ []
      → length m ≡ s.processes → AreRun mind s end m put done' slips'
  run_of_parts m m2 old new put done mine done' slips slips' slip are rest e same d p count =
      let run : AreRunBy mind s end m rest.rest slip mine = subst (λ l. AreRunBy mind s end l rest.rest slip mine) e rest.run in
      let all : AreRun mind s end m (old.taken ++ rest.rest) done' slips' = run_joined mind s end m count slip mine rest.rest old.taken done done' slips slips' are run d p in
      run_taken_as mind s end m _ put done' slips' all (IsPermutation-trans _ _ _ rest.taken (IsPermutation-sym _ _ (subst (λ l. IsPermutation l new.taken) same rest.same)))

-- ---- a worker's work grows by one berth at a time

module _ {M : Type 0} where
  sent_more : (slip : SlipView) (stays : List (Stay M)) (t : Stay M) → with_letters (with_letters slip (sent_in stays)) t.letters ≡ with_letters slip (sent_in (stays ++ t ∷ []))
  sent_more slip stays t = ap (slip_of slip.mailboxes) (filed_more slip.posted (sent_in stays) t.letters
      ∙ ap (all_filed slip.posted) (sym (flat_map-append (λ (u : Stay M). u.letters) stays (t ∷ []) ∙ ap (λ l. sent_in stays ++ l) (append-nil t.letters))))

  module _ (mind : M → Mind) (s : Record) (end : ℕ) (mailboxes : List MailboxId) where
    pub run_begins : (taken : List (Berth M)) (slip : SlipView) (done : List (Berth M)) → taken ≡ [] → slip ≡ unused mailboxes → done ≡ [] → AreRunBy mind s end mailboxes taken slip done
    run_begins taken slip done t p d = record {
      of_mailboxes = ap (λ (v : SlipView). v.mailboxes) p;
      stays = [];
      each = All-nil (IsStay mind s end);
      taken_are = subst (IsPermutation []) (sym t) (IsPermutation-refl []);
      done_are = sym d;
      posted = p;
    }

    pub run_more : (slip slip' : SlipView) (done done' : List (Berth M)) (before after : Berth M) (letters : List Letter) → IsStay mind s end (stay before after letters) → IsSlipOf mailboxes slip' → slip' ≡ with_letters slip letters
        → done' ≡ done ++ after ∷ [] → (taken : List (Berth M)) → AreRunBy mind s end mailboxes taken slip done → AreRunBy mind s end mailboxes (taken ++ before ∷ []) slip' done'
    run_more slip slip' done done' before after letters one of posts adds taken run = record {
      of_mailboxes = of;
      stays = run.stays ++ stay before after letters ∷ [];
      each = All-push (IsStay mind s end) run.stays (stay before after letters) run.each one;
      taken_are = subst (λ l. IsPermutation l (taken ++ before ∷ [])) (sym (map-append (λ (t : Stay M). t.before) run.stays (stay before after letters ∷ [])))
          (IsPermutation-append_left (before ∷ []) _ _ run.taken_are);
      done_are = map-append (λ (t : Stay M). t.after) run.stays (stay before after letters ∷ []) ∙ ap (λ l. l ++ after ∷ []) run.done_are ∙ sym adds;
      posted = posts ∙ ap (λ v. with_letters v letters) run.posted ∙ sent_more (unused mailboxes) run.stays (stay before after letters);
    }

    module _ (deques : List DequeId) where
      pub work_begins : (hand : HandView (Berth M)) (slip : SlipView) (done : List (Berth M)) → IsFresh deques mailboxes hand slip → done ≡ [] → IsWork mind s end deques mailboxes hand slip done
      work_begins hand slip done fresh none = record { of_deques = fresh.of_deques; run = run_begins hand.taken slip done fresh.none_taken fresh.none_posted none }

      pub work_more : (hand hand' : HandView (Berth M)) (slip slip' : SlipView) (done done' : List (Berth M)) (b : Berth M) → IsWork mind s end deques mailboxes hand slip done → TookOne hand hand' b
          → AreRunBy mind s end mailboxes (hand.taken ++ b ∷ []) slip' done' → IsWork mind s end deques mailboxes hand' slip' done'
      work_more hand hand' slip slip' done done' b work (taken, is, takes, among) run = record {
        of_deques = ap (λ (h : HandView (Berth M)). h.deques) is ∙ work.of_deques;
        run = record { of_mailboxes = run.of_mailboxes; stays = run.stays; each = run.each; taken_are = IsPermutation-trans _ _ _ run.taken_are (subst (IsPermutation (hand.taken ++ b ∷ [])) (sym (ap (λ (h : HandView (Berth M)). h.taken) is)) takes); done_are = run.done_are; posted = run.posted };
      }
