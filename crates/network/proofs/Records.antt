-- Records that are played again and again, for some links at once.
use Rattle.network.proofs.{Basics.{◌≡◌, ℕ, ◌+◌, ◌*◌, ◌/◌, ◌%◌, ap, sym, ◌∙◌, List, flat_map, range_with_len, Words, on_each, replayed, replayed_in, Ends, Replay}, Adding.{each_group}}

pub replayed-turns : (r : Replay) (words : Words) (links : List Ends) (horizon place : ℕ) → place ≡ words 0 % r.lasts
    → on_each links (replayed r words horizon)
    ≡ flat_map (λ m. on_each links (replayed_in r.outages.items (m * r.lasts) place horizon)) (range_with_len 0 ((horizon + place) / r.lasts + 1))
unfolding replayed
replayed-turns r words links horizon place is =
    each_group links (λ m. replayed_in r.outages.items (m * r.lasts) (words 0 % r.lasts) horizon) (range_with_len 0 ((horizon + words 0 % r.lasts) / r.lasts + 1))
    ∙ ap (λ p. flat_map (λ m. on_each links (replayed_in r.outages.items (m * r.lasts) p horizon)) (range_with_len 0 ((horizon + p) / r.lasts + 1))) (sym is)
