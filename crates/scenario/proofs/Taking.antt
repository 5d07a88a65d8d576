-- The crashes and the links of a file, by what is held in their places.
use Rattle.scenario.proofs.Words.{◌≡◌, ℕ, ◌+◌, ◌*◌, ◌<◌, ◌==◌, List, map, length, get_or, Option, None, ap, sym, ◌∙◌, arith, subst, option_map, unwrap_or, range_with_len, ext_get_or, length-map, get_or-map, get_or-map-range_with_len, length-map-range_with_len, Members, crash_process, crash_tick, crash_among, crashes_among, delays_of, pair_of, same_pair, link_among, links_among, IsProcess, AreProcesses, Link}
use Rattle.scenario.proofs.{Slots.{AreHeld, once, find_first}, KeyFacts.{process_keys, pair_keys, pair_place, pair_within}, Grid.{grid_at, grid_length, grid_whole}}

pub crashes_whole : (n : ℕ) (ticks : List (Option ℕ)) (tables : List Members) → AreHeld (process_keys n) (once crash_tick) ticks tables → ticks ≡ crashes_among tables n
unfolding crashes_among crash_among
crashes_whole n ticks tables hold =
    ext_get_or None ticks (map (crash_among tables) (range_with_len 1 n)) (hold.full ∙ sym (length-map-range_with_len (crash_among tables) 1 n))
    (λ i lt.
    let high : i < n = subst (λ m. i < m) hold.full lt in
    let good : IsProcess n (i + 1) = record { low = omega arith; high = omega arith } in
    ap (λ j. get_or ticks j None) (omega arith)
    ∙ (hold.held (i + 1) good ∙ (ap (option_map crash_tick) (sym (find_first (λ c. crash_process c == i + 1) tables))
    ∙ sym (get_or-map-range_with_len (crash_among tables) 1 n i (i + 1) None high (omega arith)))))

-- the link of a pair, in the links of all pairs
pub link_at : (common : Link) (tables : List Members) (n : ℕ) (pair : ℕ × ℕ) (d : Link) → AreProcesses n pair
    → get_or (links_among common tables n) (pair_place n pair) d ≡ link_among common tables pair
unfolding links_among
link_at common tables n pair d good = grid_at (link_among common tables) n pair d good

pub links_length : (common : Link) (tables : List Members) (n : ℕ) → length (links_among common tables n) ≡ n * n
unfolding links_among
links_length common tables n = grid_length (link_among common tables) n

pub links_whole : (common : Link) (n : ℕ) (own : List (Option Link)) (tables : List Members) → AreHeld (pair_keys n) (once delays_of) own tables
    → map (λ l. unwrap_or l common) own ≡ links_among common tables n
unfolding links_among link_among
links_whole common n own tables hold =
    grid_whole (link_among common tables) n common (map (λ l. unwrap_or l common) own) (length-map own (λ l. unwrap_or l common) ∙ hold.full)
    (λ pair good.
    get_or-map (λ l. unwrap_or l common) own (pair_place n pair) None common (subst (λ m. pair_place n pair < m) (sym hold.full) (pair_within n pair good))
    ∙ ap (λ o. unwrap_or o common) (hold.held pair good ∙ ap (option_map delays_of) (sym (find_first (λ l. same_pair (pair_of l) pair) tables))))
