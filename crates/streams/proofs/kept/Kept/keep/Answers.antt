use Rattle.std.proofs.Common.{rules, ◌≡◌, ◌≢◌, ◌<◌, ◌++◌, ◌%◌, ℕ, take, drop, get_or, length, set, sym, subst}
use Rattle.std.proofs.Math.Seq.{take-append_seam}
use Rattle.std.proofs.lemmas.List.{length-set}
use Rattle.streams.specs.Fate.{none, IsBefore, IsRun}
use Rattle.streams.proofs.AtHand.{AreIn, drawn_anew}
use Rattle.streams.proofs.kept.Kept.keep.Goals as goal

pub returns-then-len-places-clause-drawn : goal.returns-then-len-places-clause-drawn
returns-then-len-places-clause-drawn c seed from before are =
    let begins = c.args.self.now.begins.items in
    let old = c.deref_mut.result.now in
    let new = c.draw_run.new.pairs in
    let rest = drop (length new) c.args.self.now.pairs.items in
    let at = c.from-place.result in
    let begin = c.args.begin in
    let is_place : c.args.to ≡ at = search rules in
    let places : c.len-places.result ≡ length begins = search rules in
    let there : at < length begins = search rules in
    let same : length new ≡ length old = search rules in
    let len : length new ≡ c.args.self.now.pairs.len = search rules in
    let others = subst (λ n. (k : ℕ) → k % n ≢ at → get_or new k none ≡ get_or old k none) places
    c.draw_run.ensures.others in
    let run = subst (λ n. IsRun 32 seed from at begin n new) places (c.draw_run.ensures.run seed from begin
    c.requires.begin (subst (λ n. IsBefore seed from n begin c.args.generator) is_place before)) in
    subst (λ n. AreIn n seed from (set begins at begin) (take c.args.self.now.pairs.len (new ++ rest)))
    (sym (length-set begins at begin))
    (subst (AreIn (length begins) seed from (set begins at begin))
    (sym (subst (λ n. take n (new ++ rest) ≡ new) len (take-append_seam new rest)))
    (drawn_anew seed from at begin begins old new there same others run
    (subst (AreIn (length begins) seed from begins) (sym c.deref_mut.ensures.value) are)))
