use Rattle.network.proofs.Basics.{◌≡◌, ◌<◌, ◌^◌, after, digits, odds, to_come}
use Rattle.network.proofs.words.SourceWords.geometric.Given as goal

-- the digits so far
abbrev pub invariant-loop-digit : goal.invariant-loop-digit
invariant-loop-digit l = record {
  odds : l.odds ≡ odds l.fn.mean l.digit;
  low : l.odds < 2 ^ 32;
  drawn : l.drawn ≡ digits l.fn.mean (to_come l.fn.self) l.digit;
  small : l.drawn < 2 ^ l.digit;
  words : to_come l.self ≡ after l.digit (to_come l.fn.self);
}
