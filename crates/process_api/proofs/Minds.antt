-- What a test of a mind says.
use Rattle.process_api.proofs.Basics.{◌≡◌, refl, sym, Bool, true, false, ◌&&◌, true≢false, IsTrue, Mind, is_mind_at, is_paced, trusts_itself, stands_at, Place, same_place}
use borrow.Author.Tests.{eqb-true}

pub both_true : (a b : Bool) → (a && b) ≡ true → (a ≡ true) × (b ≡ true)
both_true true b h = (refl, h)
both_true false b h = absurd (true≢false (sym h))

pub and_true : (a b : Bool) → a ≡ true → b ≡ true → (a && b) ≡ true
and_true a b f g = λ i. f i && g i

pub same_own : (a b : Place) → IsTrue (same_place a b) → a.own ≡ b.own
same_own a b h = eqb-true a.own b.own (both_true _ _ h).0

pub same_count : (a b : Place) → IsTrue (same_place a b) → a.processes ≡ b.processes
same_count a b h = eqb-true a.processes b.processes (both_true _ _ (both_true _ _ h).1).0

module _ (place : Place) (m : Mind) (is : IsTrue (is_mind_at place m)) where
  pub mind_place : IsTrue (same_place m.lower.place place)
  mind_place = (both_true _ _ (both_true _ _ is).0).0

  pub mind_paced : IsTrue (is_paced m.lower)
  mind_paced = (both_true _ _ (both_true _ _ is).0).1

  pub mind_trusts : IsTrue (trusts_itself m.lower)
  mind_trusts = (both_true _ _ (both_true _ _ is).1).0

  pub mind_stands : IsTrue (stands_at place m.algorithm)
  mind_stands = (both_true _ _ (both_true _ _ is).1).1
