use Rattle.study_commands.proofs.Words.{◌≡◌, ◌++◌, take, map, length, zip, filter_map, range_with_len, choices, dealt_of, dealt_to, keys_of}
use Rattle.study_commands.proofs.dealt_ticks.push_dealt.Given as goal

abbrev pub invariant-loop-place : goal.invariant-loop-place
invariant-loop-place l =
    map dealt_of l.all.items ≡ map dealt_of l.fn.all.items ++ filter_map (dealt_to (choices l.axis))
    (take l.place (zip (range_with_len 0 (length (keys_of (choices l.axis)))) (keys_of (choices l.axis))))
