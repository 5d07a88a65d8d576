-- The least pair below the lookahead, of a record and of its parts.
use Rattle.scenario.proofs.Words.{◌≡◌, ℕ, List, find, refl, Record, is_below, pairs, pair_below, link_in, Link}

pub below_of_parts : (s : Record) (n lookahead : ℕ) (links : List Link) → n ≡ s.processes → lookahead ≡ s.lookahead → links ≡ s.links
    → pair_below s ≡ find (is_below (link_in n links) lookahead) (pairs n)
unfolding pair_below
below_of_parts s n lookahead links e f g = rw (e, f, g) refl
