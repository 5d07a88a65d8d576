-- What becomes of a letter to another process: it depends on its place and tick of sending alone, not on earlier draws.
use Rattle.std.specs.{Prelude.{ℕ, ◌+◌, ◌-◌, ◌*◌, ◌%◌, ◌^◌, List, ◌++◌, replicate, nat_lt, Bool, if◌then◌else◌, ◌≡◌, ◌≤◌, ◌<◌, length, slice_index_or}, Int.{w64, to_le_bytes}, List.{list_any}}
use Rattle.{rand_chacha.specs.ChaCha.{word_at, key_of, ChaCha}, scenario_record.specs.{Record.{covers, Record, link, outages_on}, declared.link.Link.{Link}}, streams.specs.declared.{fate.Fate.{Fate, TheVariants.{Lost, Delay}}, kept.{Pair.{Pair}, Kept.{Kept}}}}

-- the key: the seed as 8 bytes, the least first, and then 24 zero bytes
unfoldable pub key_of_seed : ℕ → List ℕ
key_of_seed seed = key_of (to_le_bytes w64 seed ++ replicate 24 0)

-- the stream of the link from one process to another
abbrev pub stream_of : (from to : ℕ) → ℕ
stream_of from to = (from - 1) * 65536 + (to - 1)

-- the 32-bit word at a place, counted up to 2^68, of the link's stream: ChaCha with 8 rounds, which are 4 double rounds
unfoldable pub word : (seed from to place : ℕ) → ℕ
word seed from to place = word_at 4 (key_of_seed seed) (stream_of from to) (place % 2 ^ 68)

-- the fate by a letter's two words: so many of 1,000 are lost, others take a delay from min to max
abbrev pub fate_by : Link → (a b : ℕ) → Fate
fate_by l a b = if nat_lt (a % 1000) l.loss then Lost else Delay (l.min + b % (l.max - l.min + 1))

-- the fate of letter k of a link by its two words, those at places 2(k - 1) and 2(k - 1) + 1
abbrev pub fate_by_words : Link → (seed from to number : ℕ) → Fate
fate_by_words l seed from to number =
    fate_by l (word seed from to (2 * (number - 1))) (word seed from to (2 * (number - 1) + 1))

-- a letter that is sent on the link at this tick is lost in an outage
abbrev pub is_cut : Record → (from to sent_at : ℕ) → Bool
is_cut s from to sent_at = list_any (covers sent_at) (outages_on s from to)

-- a letter's fate by its number on the link, from 1, and tick of sending; outages don't move the places of words
unfoldable pub fate_of : Record → (from to number sent_at : ℕ) → Fate
fate_of s from to number sent_at =
    if is_cut s from to sent_at then Lost else fate_by_words (link s from to) s.seed from to number

-- the two words are those of a letter with this number on the link
pub record AreWordsOf (seed from to number first second : ℕ) : Type 0 where
  pub first_word : first ≡ word seed from to (2 * (number - 1))
  pub second_word : second ≡ word seed from to (2 * (number - 1) + 1)

-- of no letter
abbrev pub none : Pair
none = record { first = 0; second = 0 }

-- in so many rows, the pairs at the receiver's place are the words of letters k, k + 1 and so on of its link
abbrev pub IsRun : (rows seed from to k places : ℕ) → List Pair → Type 0
IsRun rows seed from to k places pairs = (row : ℕ) → row < rows → let at = row * places + to in at < length pairs
    → k + row < 2 ^ 64 → let p = slice_index_or pairs at none in AreWordsOf seed from to (k + row) p.first p.second

-- each receiver's 32 pairs are of its letters, counted on from the first that is kept, unless none is
abbrev pub AreDrawn : (seed from : ℕ) → Kept → Type 0
AreDrawn seed from kept = (to : ℕ) → let begin = slice_index_or kept.begins.items to 0 in 1 ≤ begin
    → IsRun 32 seed from to begin (length kept.begins.items) kept.pairs.items

-- no receiver's place is beyond those that processes can have
abbrev pub Fits : Kept → Type 0
Fits kept = length kept.begins.items ≤ 65536

-- the generator of the link's stream, where the word at a place comes next
abbrev pub stands_at : (seed from to place : ℕ) → ChaCha
stands_at seed from to place = record { key = key_of_seed seed; stream = stream_of from to; word_pos = place }

-- where the words of the letter with this number come next
abbrev pub IsBefore : (seed from to number : ℕ) → ChaCha → Type 0
IsBefore seed from to number generator = generator ≡ stands_at seed from to (2 * (number - 1))
