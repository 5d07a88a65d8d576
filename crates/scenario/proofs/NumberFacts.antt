-- Lemmas on the numbers of a table.
use Rattle.scenario.proofs.Words.{◌≡◌, refl, true, no_members, number_or, text_or, is_fresh, is_outside, is_other_kind, is_bad_timeout, is_bad_detector, is_bad_link}

-- where there is no table its numbers are out of their ranges
pub no_detector : is_bad_detector no_members ≡ true
unfolding is_bad_detector is_other_kind is_fresh is_bad_timeout is_outside number_or text_or
no_detector = refl

pub no_link_table : is_bad_link no_members ≡ true
unfolding is_bad_link is_outside number_or
no_link_table = refl
