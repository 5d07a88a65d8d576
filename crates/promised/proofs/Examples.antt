-- Worked bounds: what the definitions give, by computing. The numbers were reckoned by hand, from tick to tick.
use Rattle.promised.proofs.Words.{◌≡◌, ℕ, refl, Some, None, Option, true, false, DetectorNumbers, Timeout, Freshness, Link, detected_by, is_late, is_timely, latency, needed, WatchedLink}
use Rattle.process_api.specs.declared.numbers.Watch.TheVariants.{All}

-- beats at ticks 0, 4, 8 and so on, and checks at ticks 3, 6, 9 and so on
abbrev time_outs : DetectorNumbers
time_outs = Timeout (record { period = 4; check = 3; timeout = 5; grow = 2; watch = All })

-- beats at ticks 10, 20 and so on, and points at ticks 13, 23 and so on
abbrev points : DetectorNumbers
points = Freshness (record { eta = 10; delta = 3; watch = All })

-- letters that take 1 or 2 ticks
abbrev link : Link
link = record { min = 1; max = 2; loss = 0 }

-- the crash of whom the observer trusted so often before
abbrev by_time_outs : (trusts crash : ℕ) → ℕ
by_time_outs = detected_by time_outs link

abbrev by_points : (trusts crash : ℕ) → ℕ
by_points = detected_by points link

-- no letter comes: 5 ticks of silence at the check of tick 6, and 9 after two trusts
at_once : by_time_outs 0 0 ≡ 6
at_once = refl

at_once_grown : by_time_outs 2 0 ≡ 9
at_once_grown = refl

-- the beat of tick 4 isn't sent, and that of tick 0 comes by tick 2
at_a_beat : by_time_outs 0 4 ≡ 9
at_a_beat = refl

at_a_beat_grown : by_time_outs 2 4 ≡ 12
at_a_beat_grown = refl

-- the beat of tick 4 comes by tick 6
after_a_beat : by_time_outs 0 5 ≡ 12
after_a_beat = refl

after_a_beat_grown : by_time_outs 2 5 ≡ 15
after_a_beat_grown = refl

-- the beat of tick 8 comes by tick 10, and the check of tick 15 finds 5 ticks of silence
after_the_next : by_time_outs 0 9 ≡ 15
after_the_next = refl

after_the_next_grown : by_time_outs 2 9 ≡ 21
after_the_next_grown = refl

-- points: the first heartbeat never comes, nor does one that is due at the tick of the crash, whatever was trusted
first_point : by_points 0 0 ≡ 13
first_point = refl

first_point_trusted : by_points 2 0 ≡ 13
first_point_trusted = refl

at_the_first : by_points 0 10 ≡ 13
at_the_first = refl

at_the_first_trusted : by_points 2 10 ≡ 13
at_the_first_trusted = refl

after_the_first : by_points 0 11 ≡ 23
after_the_first = refl

after_the_first_trusted : by_points 2 11 ≡ 23
after_the_first_trusted = refl

at_the_second : by_points 0 20 ≡ 23
at_the_second = refl

after_the_second : by_points 0 21 ≡ 33
after_the_second = refl

-- a link whose sender crashes at this tick
abbrev watched : (crash : Option ℕ) → WatchedLink
watched crash = record { link = link; has_outage = false; crash = crash }

-- the heartbeat of tick 20 was the last, and the point of the next one is tick 33
ticks_after : latency points (watched (Some 21)) ≡ Some 12
ticks_after = refl

-- the heartbeat that is due at tick 20 isn't sent, and its point is tick 23
soon_after : latency points (watched (Some 20)) ≡ Some 3
soon_after = refl

no_crash : latency points (watched None) ≡ None
no_crash = refl

-- that is late where the horizon is tick 33
late : is_late points 33 (watched (Some 21)) ≡ true
late = refl

just_in_time : is_late points 34 (watched (Some 21)) ≡ false
just_in_time = refl

-- beats come 5 ticks apart at most, and that is what time-outs wait for; points wait for the slowest letter
needed_by_time_outs : needed time_outs link ≡ 5
needed_by_time_outs = refl

needed_by_points : needed points link ≡ 2
needed_by_points = refl

waits_long_enough : is_timely time_outs link ≡ true
waits_long_enough = refl

waits_too_short : is_timely time_outs (record { min = 1; max = 3; loss = 0 }) ≡ false
waits_too_short = refl
