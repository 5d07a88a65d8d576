-- When a refused run is told with how a range is written.
use Rattle.std.specs.{Prelude.{Bool, false, ◌&&◌, ◌||◌, ◌==◌}, Char.{is_ascii_digit}, List.{list_all}}
use Rattle.study.specs.{Settings.{Given, number, text}, Words.{Word, has}}

-- digits and colons alone, as if a word said a range
abbrev pub is_like_range : Word → Bool
is_like_range w = has 58 w && list_all (λ b. is_ascii_digit b || b == 58) w

-- a key is set to such a text
abbrev pub is_set_like_range : Given → Bool
is_set_like_range (number z) = false
is_set_like_range (text w) = is_like_range w
