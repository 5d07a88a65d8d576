-- As many letters are lost as the entries of the trace count.
use Rattle.runs.proofs.Words.{◌≡◌, ℕ, ◌+◌, refl, sym, ap, ◌∙◌, Bool, true, false, cond, List, [], ◌∷◌, map, nat_le, arith, ◌==◌, sum_by-append, sum_by-cons, EntryRecord, Action, Key, StepInput, Record, Fate, Posted, posting, posted_by, posted_in, posted_along, setting_of, Setting, has_crashed, one_run, letter_of, due_of, fate_of, AreLetters, AreLostAs, is_lost, Letter}
use Rattle.{runs.proofs.OneStep.{step_cases}, std.specs.List.{count_by, sum_by}}
use Rattle.process_api.specs.declared.action.Action.TheVariants.{Send, Wake, Note}
use Rattle.streams.specs.declared.fate.Fate.TheVariants as link
use Rattle.trace_laws.specs.{Step.{Process, counted, is_lost as loses, lost, lost_by, step}, World.{World, Pair, IsTrace, Run, entries, opening, taken}}
use Rattle.reporting.specs.declared.letter.LetterFate.TheVariants as fate

module _ {Mind : Type 0} (S : Setting Mind) where
  -- what a letter adds
  abbrev one : Posted → ℕ
  one l = cond (loses l.fate) 1 0

  abbrev many : List Posted → ℕ
  many ls = sum_by one ls

  of_action : (p now : ℕ) (counts : ℕ → ℕ) (a : Action) → many (posting S p now counts a) ≡ lost_by S p now counts a
  of_action p now counts (Send to what) = go (to == p)
    where
      go : (b : Bool) → many (cond b [] (record { key = record { tick = now; receiver = to; sender = p; number = counts to + 1 }; payload = what; fate = S.fate p to (counts to + 1) now } ∷ []))
          ≡ cond b 0 (cond (loses (S.fate p to (counts to + 1) now)) 1 0)
      go true = refl
      go false = omega arith
  of_action p now counts (Wake pause tag) = refl
  of_action p now counts (Note note) = refl

  of_actions : (p now : ℕ) (counts : ℕ → ℕ) (actions : List Action) → many (posted_by S p now counts actions) ≡ lost S p now counts actions
  of_actions p now counts [] = refl
  of_actions p now counts (a ∷ actions) =
      let parts = sum_by-append one (posting S p now counts a) (posted_by S p now (counted p counts a) actions) in
      let first = of_action p now counts a in
      let rest = of_actions p now (counted p counts a) actions in
      omega (arith, parts, first, rest)

  of_step : (before : Process Mind) (key : Key) (x : StepInput) → many (posted_in S before key x) ≡ (step S before key x).entry.lost
  of_step before key x =
      step_cases S before key x (λ m posted. many posted ≡ m.entry.lost) refl (of_actions key.receiver key.tick before.counts (S.react before.mind key.tick x).actions)

  of_run : (end : ℕ) (w new : World Mind) (h : List Pair) → Run S end w h new → many (posted_along S w h) ≡ sum_by (λ e. e.lost) (entries h)
  of_run end w new [] run = refl
  of_run end w new (s ∷ h) run =
      let before = w.process s.0.key.receiver in
      let parts = sum_by-append one (posted_in S before s.0.key s.1) (posted_along S (taken S w s.0.key s.1) h) in
      let first = of_step before s.0.key s.1 in
      let entry : s.0.lost ≡ (step S before s.0.key s.1).entry.lost = ap (λ (e : EntryRecord). e.lost) run.2 in
      let rest = of_run end (taken S w s.0.key s.1) new h run.3 in
      let whole = sum_by-cons (λ (e : EntryRecord). e.lost) s.0 (entries h) in
      omega (arith, parts, first, entry, rest, whole)

  told_fate : (l : Posted) → is_lost (fate_of S l.key.receiver (due_of l.key.tick l.fate)) ≡ loses l.fate
  told_fate l = go l.fate
    where
      crashed : (b : Bool) → is_lost (cond b fate.Dead fate.Taken) ≡ false
      crashed true = refl
      crashed false = refl

      late : (b c : Bool) → is_lost (cond b fate.Late (cond c fate.Dead fate.Taken)) ≡ false
      late true c = refl
      late false c = crashed c

      go : (f : Fate) → is_lost (fate_of S l.key.receiver (due_of l.key.tick f)) ≡ loses f
      go link.Lost = refl
      go (link.Delay ticks) = late (nat_le S.horizon (l.key.tick + ticks)) (has_crashed (S.crash l.key.receiver) (l.key.tick + ticks))

  told_lost : (ls : List Posted) → count_by (λ t. is_lost t.fate) (map (letter_of S) ls) ≡ many ls
  told_lost [] = refl
  told_lost (l ∷ ls) =
      let first = ap (λ b. cond b 1 0) (told_fate l) in
      sum_by-cons (λ (t : Letter). cond (is_lost t.fate) 1 0) (letter_of S l) (map (letter_of S) ls)
      ∙ (ap (λ n. n + count_by (λ t. is_lost t.fate) (map (letter_of S) ls)) first ∙ (ap (λ n. one l + n) (told_lost ls) ∙ sym (sum_by-cons one l ls)))

pub letters_lost : (s : Record) (letters : List Letter) (trace : List EntryRecord) → AreLetters s letters → IsTrace (setting_of s) trace → AreLostAs trace letters
letters_lost s letters trace (posted, (history, last, run, is), told) (other, end, same, was) =
    let S = setting_of s in
    let histories : other ≡ history = (one_run S S.horizon (opening S) other history end last same run).0 in
    ap (count_by (λ t. is_lost t.fate)) told
    ∙ (told_lost S posted ∙ (ap (many S) is ∙ (of_run S S.horizon (opening S) last history run ∙ ap (sum_by (λ e. e.lost)) (sym (was ∙ ap entries histories)))))
