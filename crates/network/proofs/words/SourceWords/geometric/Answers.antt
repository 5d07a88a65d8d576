use Rattle.network.proofs.{Basics.{◌≡◌, ℕ, ◌+◌, ◌-◌, ◌*◌, ◌/◌, ◌^◌, ◌<◌, if◌then◌else◌, ap, sym, ◌∙◌, arith, pow_more, after, digits, is_one, odds, to_come}, Coming.{after-after, after-first, after-none}}
use Rattle.network.proofs.Odds.{digits-more, digits-zero, first_low, geometric-is, next_low, odds-more, odds-zero}
use Rattle.network.proofs.words.SourceWords.geometric.Goals as goal

pub loop-digit-init : goal.loop-digit-init
loop-digit-init c = record {
  odds = ap (λ m. 2 ^ 32 * (m - 1) / m) c.from-mean.ensures ∙ odds-zero c.args.mean;
  low = first_low c.from-mean.result (omega (arith, c.from-mean.ensures, c.requires.low));
  drawn = digits-zero c.args.mean (to_come c.args.self.now);
  small = omega arith;
  words = after-none (to_come c.args.self.now);
}

pub loop-digit-preserved : goal.loop-digit-preserved
loop-digit-preserved c =
    let words = to_come c.args.self.now in
    let at = c.loop-digit.invariant in
    let digit = c.loop-digit.digit in
    let word : c.next.result ≡ words digit = c.next.ensures.value ∙ (ap (λ (w : ℕ → ℕ). w 0) at.words ∙ after-first digit words) in
    let said : c.digit_of-drawn.result ≡ (if is_one (odds c.args.mean digit) (words digit) then 2 ^ digit else 0) =
    c.digit_of-drawn.ensures.value ∙ (λ i. if is_one (at.odds i) (word i) then 2 ^ digit else 0) in
    let more : c.loop-digit.drawn + c.digit_of-drawn.result
    ≡ digits c.args.mean words digit + (if is_one (odds c.args.mean digit) (words digit) then 2 ^ digit else 0) =
    λ i. at.drawn i + said i in
    record {
      odds = ap (λ n. n * n / 2 ^ 32) at.odds ∙ sym (odds-more c.args.mean digit);
      low = next_low c.loop-digit.odds at.low;
      drawn = more ∙ sym (digits-more c.args.mean words digit);
      small = omega (arith, at.small, c.digit_of-drawn.ensures.high, pow_more 2 digit);
      words = c.next.ensures.rest ∙ (ap (after 1) at.words ∙ after-after 1 digit words);
    }

pub returns : goal.returns
returns c =
    let words = to_come c.args.self.now in
    let at = c.loop-digit.invariant in
    let end : c.loop-digit.digit ≡ 28 = omega arith in
    let small : c.loop-digit.drawn < 2 ^ 28 = rw end at at.small in
    record {
      value = geometric-is c.args.mean words c.loop-digit.drawn (at.drawn ∙ ap (digits c.args.mean words) end);
      rest = at.words ∙ ap (λ n. after n words) end;
      low = omega arith;
      high = omega (arith, small);
    }
