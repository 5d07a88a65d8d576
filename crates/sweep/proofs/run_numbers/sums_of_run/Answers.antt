use Rattle.sweep.proofs.Words.{◌≡◌, ℕ, false, cond, not, ◌&&◌, nat_lt, refl, ap, sym, ◌∙◌, arith, rules, list_all, lt-ltb, le-ltb, do_disagree, has_decided, TraceSums}
use Rattle.sweep.proofs.run_numbers.sums_of_run.Goals.{then-decisions-gt0, else-decisions-gt0}
use Rattle.sweep.proofs.run_numbers.sums_of_run.Goals as goal

pub returns : goal.returns
returns c os decided =
    let summary = c.args.summary.now in
    let d = c.args.decisions.to_decide in
    let all : c.do_all_decide-are_all.result ≡ list_all has_decided os = c.do_all_decide-are_all.ensures os decided in
    let both : c.if-decisions-gt0.from ≡ (nat_lt 0 d && c.do_all_decide-are_all.result) = elim c.if-decisions-gt0.branch [
      | then-decisions-gt0 w ↦ w.from-is ∙ sym (ap (λ b. b && c.do_all_decide-are_all.result) (lt-ltb 0 d (omega arith)))
      | else-decisions-gt0 w ↦ let none : nat_lt 0 d ≡ false = le-ltb 0 d (omega arith) in w.from-is ∙ none ∙ sym (ap (λ b. b && c.do_all_decide-are_all.result) none)
    ] in
    let counted_all : c.from-3.result ≡ cond c.if-decisions-gt0.from 1 0 = search rules in
    let counted_not : c.from-4.result ≡ cond (not c.do_all_decide-are_all.result) 1 0 = search rules in
    let counted_differ : c.from-5.result ≡ cond c.do_disagree.result 1 0 = search rules in
    record {
      runs = refl;
      limited = refl;
      traces = ap {B = TraceSums} (λ n. record { entries = n; sent = summary.sent; lost = summary.lost }) c.from.ensures;
      pair_ticks = c.sum_ends.ensures.value;
      pair_ticks_high = c.sum_ends.ensures.within;
      pairs = c.sum_pairs-pairs.ensures.sums;
      pairs_high = c.sum_pairs-pairs.ensures.within;
      squared = c.saturating_mul.ensures;
      verdicts = c.of_verdicts.ensures;
      bounds = refl;
      decisions = refl;
      counts = record {
        with_mistakes = search rules;
        all_decided = counted_all ∙ ap {B = ℕ} (λ b. cond b 1 0) (both ∙ ap (λ b. nat_lt 0 d && b) all);
        undecided = counted_not ∙ ap {B = ℕ} (λ b. cond (not b) 1 0) all;
        disagreements = counted_differ ∙ ap {B = ℕ} (λ b. cond b 1 0) (c.do_disagree.ensures ∙ ap do_disagree c.deref.ensures.value);
      };
    }
