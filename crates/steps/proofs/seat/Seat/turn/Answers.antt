use Rattle.steps.proofs.Words.{[], ◌++◌, cond, false, ◌≡◌, ◌≤◌, ap, sym, subst, ◌∙◌, arith, vec_len, Mind, is_mind_at, Record, crash, place_in, setting_of, process_of, own_of, IsSeated, has_crashed, dead, lost, made_by, noted, sent}
use Rattle.{std.specs.Prelude.{IsTrue, ℕ}, trace_laws.specs.Step.{kind_of as kind_for}, steps.specs.Inside.Links.{entry_of}}
use Rattle.process_api.proofs.{Minds.{mind_place, same_own}, Keeping.{react_keeps}}
use Rattle.process_api.specs.{React.{react}, declared.message.StepInput.{StepInput}}
use Rattle.steps.proofs.seat.Seat.turn.Goals as goal

-- a process's mind stays one, of the same process
kept : (s : Record) (p now : ℕ) (x : StepInput) (before after : Mind) → after ≡ (react before now x).state → 1 ≤ s.processes → IsTrue (is_mind_at (place_in s p) before)
    → IsTrue (is_mind_at (place_in s p) after) × (after.lower.place.own ≡ p)
kept s p now x before after is some was =
    let still = subst (λ m. IsTrue (is_mind_at (place_in s p) m)) (sym is) (react_keeps (place_in s p) before now x some was) in
    (still, same_own after.lower.place (place_in s p) (mind_place (place_in s p) after still))

pub returns-clause-own : goal.returns-clause-own
returns-clause-own g c =
    let mind = g.M.Process.mind in
    let key = c.args.event in
    let was = c.requires.seated.1 in
    (kept c.args.streams.now (own_of mind c.args.self.now) key.0.tick key.1 (mind c.args.self.now.machine) (mind c.on_input.new.self) c.in_ok-on_input.ensures.mind (omega (arith, was.low, was.high)) was.is_mind).1

pub returns-clause-seated : goal.returns-clause-seated
returns-clause-seated g c =
    let mind = g.M.Process.mind in
    let s = c.args.streams.now in
    let seat = c.args.self.now in
    let key = c.args.event in
    let was = c.requires.seated.1 in
    let p = own_of mind seat in
    let after : Mind = mind c.on_input.new.self in
    let still = kept s p key.0.tick key.1 (mind seat.machine) after c.in_ok-on_input.ensures.mind (omega (arith, was.low, was.high)) was.is_mind in
    let stays : p ≡ after.lower.place.own = sym still.1 in
    let same = c.deref_mut-links.ensures.value in
    let places = rw same at c.in_ok-done.ensures.places in
    let horizon = rw same at c.in_ok-done.ensures.horizon in
    let room = rw same at c.in_ok-done.ensures.room in
    λ most (h : IsSeated mind s most seat). record {
      low = subst (λ q. 1 ≤ q) stays h.low;
      high = subst (λ q. q ≤ s.processes) stays h.high;
      is_mind = subst (λ q. IsTrue (is_mind_at (place_in s q) after)) stays still.0;
      horizon = horizon ∙ h.horizon;
      crash = h.crash ∙ ap (crash s) stays;
      places = sym c.perform.new.self.counts.ok.0 ∙ (places ∙ (seat.links.value.counts.ok.0 ∙ h.places));
      counts = λ q. omega (arith, room q, h.counts q);
    }

pub returns-clause-entry : goal.returns-clause-entry
returns-clause-entry g c =
    let s = c.args.streams.now in
    let S = setting_of s in
    let seat = c.args.self.now in
    let before = process_of g.M.Process.mind seat in
    let key = c.args.event.0 in
    let x = c.args.event.1 in
    let answer = S.react before.mind key.tick x in
    let crash_is : seat.crash ≡ crash s key.receiver = c.requires.seated.1.crash ∙ ap (crash s) (sym c.requires.own) in
    let up : has_crashed (crash s key.receiver) key.tick ≡ false = ap (λ k. has_crashed k key.tick) (sym crash_is) ∙ (sym c.is_down.ensures ∙ c.if-is_down.false) in
    let does : c.on_input.new.out.items ≡ answer.actions = c.in_ok-on_input.ensures.actions ∙ ap (λ xs. xs ++ answer.actions) c.clear.ensures.items in
    let did = rw c.deref_mut-links.ensures.value at c.in_ok-done.ensures.done in
    c.entry-2.ensures ∙ ((λ i. entry_of key (c.kind_of-kind.ensures i) (did i))
    ∙ ((λ i. record {
      key = key;
      kind = kind_for x;
      sent = sent (does i);
      lost = lost S key.receiver key.tick before.counts (does i);
      notes = noted (does i);
    }) ∙ sym (ap (λ b. (cond b (record { process = before; entry = dead key; added = [] }) (made_by S before key x answer)).entry) up)))
