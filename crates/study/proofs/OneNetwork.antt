-- A network file stands for one network: what is laid and what is drawn are one.
use Rattle.study.proofs.Basics.{◌≡◌, ℕ, zero, suc, ◌+◌, ◌-◌, ◌*◌, ◌/◌, ◌%◌, min, List, [], ◌∷◌, ◌++◌, map, filter, length, slice_index, nat_lt, true, false, refl, sym, ◌∙◌, ap, AllZip, flat_map, range_with_len, take_while, enumerate_from, Members, on_each, of_each, of_burst, of_cut, of_pause, of_replay, drawn_of, LinkOutage}
use Rattle.study.proofs.OneOrder.{one_sorted}
use Rattle.network.specs.{Laid.{holds, links_between, links_of, only}, Words.{Words, after, place_of, stream_number, stream_of, words_of}}
use Rattle.network.specs.Drawn.{ticks_of, words_taken, first_ticks_of, first_words_taken, geometric, digits_drawn, Coming, cut_at, coming, episodes, replayed, replayed_in}
use Rattle.network.specs.Reading.{Said, ticks, values, mean, said_of, SaysLink, SaysBurst, SaysCut, SaysPause, SaysReplay, SaysNetwork}
use Rattle.network.specs.declared.{group.Group.TheVariants.{All}, spell.Spell.{Spell}, rhythm.Rhythm.{Rhythm}, network.{LinkTable.{LinkTable}, Burst.{Burst}, Cut.{Cut}, Pause.{Pause}, Replay.{Replay}, Network.{Network}}}
use Rattle.network.specs.declared.kind.Kind.TheVariants as kind
use Rattle.network.specs.declared.spell.Spell.TheVariants as spell

-- ---- gaps and lengths by what is said of them

abbrev ticks_by : Said → Words → ℕ
ticks_by (ticks n) words = n
ticks_by (values vs) words = slice_index vs (words 0 % length vs)
ticks_by (mean m) words = geometric m words

abbrev taken_by : Said → ℕ
taken_by (ticks n) = 0
taken_by (values vs) = 1
taken_by (mean m) = digits_drawn

abbrev first_ticks_by : Said → Words → ℕ
first_ticks_by (ticks n) words = words 0 % n
first_ticks_by (values vs) words = words 1 % slice_index vs (words 0 % length vs)
first_ticks_by (mean m) words = geometric m words - 1

abbrev first_taken_by : Said → ℕ
first_taken_by (ticks n) = 1
first_taken_by (values vs) = 2
first_taken_by (mean m) = digits_drawn

ticks_said : (s : Spell) (words : Words) → ticks_of s words ≡ ticks_by (said_of s) words
unfolding ticks_of
ticks_said (spell.Ticks n) words = refl
ticks_said _ words = refl

taken_said : (s : Spell) → words_taken s ≡ taken_by (said_of s)
unfolding words_taken
taken_said (spell.Ticks n) = refl
taken_said _ = refl

first_ticks_said : (s : Spell) (words : Words) → first_ticks_of s words ≡ first_ticks_by (said_of s) words
unfolding first_ticks_of
first_ticks_said (spell.Ticks n) words = refl
first_ticks_said _ words = refl

first_taken_said : (s : Spell) → first_words_taken s ≡ first_taken_by (said_of s)
unfolding first_words_taken
first_taken_said (spell.Ticks n) = refl
first_taken_said _ = refl

module _ (a b : Spell) (said : said_of a ≡ said_of b) where
  one_ticks : (words : Words) → ticks_of a words ≡ ticks_of b words
  one_ticks words = ticks_said a words ∙ (ap (λ s. ticks_by s words) said ∙ sym (ticks_said b words))

  one_taken : words_taken a ≡ words_taken b
  one_taken = taken_said a ∙ (ap taken_by said ∙ sym (taken_said b))

  one_first : (words : Words) → first_ticks_of a words ≡ first_ticks_of b words
  one_first words = first_ticks_said a words ∙ (ap (λ s. first_ticks_by s words) said ∙ sym (first_ticks_said b words))

  one_first_taken : first_words_taken a ≡ first_words_taken b
  one_first_taken = first_taken_said a ∙ (ap first_taken_by said ∙ sym (first_taken_said b))

-- ---- rhythms

module _ (a b : Rhythm) (gap : said_of a.gap ≡ said_of b.gap) (long : said_of a.length ≡ said_of b.length) where
  abbrev comes : ℕ → Words → Coming
  comes begin words = record { begin = begin; words = words }

  one_until : (e : Coming) → e.begin + ticks_of a.length e.words ≡ e.begin + ticks_of b.length e.words
  one_until e = ap (λ n. e.begin + n) (one_ticks a.length b.length long e.words)

  one_coming : (words : Words) (k : ℕ) → coming a words k ≡ coming b words k
  unfolding coming
  one_coming words zero =
      λ i. comes (one_first a.gap b.gap gap words i) (after (one_first_taken a.gap b.gap gap i) words)
  one_coming words (suc k) =
      let e = coming a words k in
      let rest : after (words_taken a.length) e.words ≡ after (words_taken b.length) e.words =
      ap (λ n. after n e.words) (one_taken a.length b.length long) in
      let step : ticks_of a.gap (after (words_taken a.length) e.words) ≡ ticks_of b.gap (after (words_taken b.length) e.words) =
      one_ticks a.gap b.gap gap (after (words_taken a.length) e.words) ∙ ap (ticks_of b.gap) rest in
      let left : after (words_taken a.gap) (after (words_taken a.length) e.words) ≡ after (words_taken b.gap) (after (words_taken b.length) e.words) =
      ap (λ n. after n (after (words_taken a.length) e.words)) (one_taken a.gap b.gap gap) ∙ ap (after (words_taken b.gap)) rest in
      (λ i. comes (one_until e i + step i) (left i))
      ∙ ap (λ c. comes (c.begin + ticks_of b.length c.words + ticks_of b.gap (after (words_taken b.length) c.words))
      (after (words_taken b.gap) (after (words_taken b.length) c.words))) (one_coming words k)

  one_episodes : (words : Words) (horizon : ℕ) → episodes a words horizon ≡ episodes b words horizon
  unfolding episodes
  one_episodes words horizon =
      let cut : (e : Coming) → cut_at a horizon e ≡ cut_at b horizon e =
      λ e. ap (λ n. record { begin = e.begin; until = min n horizon }) (one_until e) in
      λ i. map (λ e. cut e i)
      (take_while (λ e. nat_lt e.begin horizon) (map (λ k. one_coming words k i) (range_with_len 0 horizon)))

-- ---- tables in step with those of the file

module _ {T : Type 0} (Says : Members → T → Type 0) (of_one : ℕ → T → List LinkOutage)
    (one : (t : Members) (x y : T) → Says t x → Says t y → (i : ℕ) → of_one i x ≡ of_one i y) where
  from_place : (i : ℕ) (ts : List Members) (xs ys : List T) → AllZip Says ts xs → AllZip Says ts ys
      → flat_map (λ n. of_one n.0 n.1) (enumerate_from i xs) ≡ flat_map (λ n. of_one n.0 n.1) (enumerate_from i ys)
  from_place i [] [] [] a b = refl
  from_place i [] [] (y ∷ ys) a b = absurd b
  from_place i [] (x ∷ xs) ys a b = absurd a
  from_place i (t ∷ ts) [] ys a b = absurd a
  from_place i (t ∷ ts) (x ∷ xs) [] a b = absurd b
  from_place i (t ∷ ts) (x ∷ xs) (y ∷ ys) a b =
      let first = one t x y a.0 b.0 i in
      let later = from_place (i + 1) ts xs ys a.1 b.1 in
      λ k. first k ++ later k

  one_each : (ts : List Members) (xs ys : List T) → AllZip Says ts xs → AllZip Says ts ys → of_each of_one xs ≡ of_each of_one ys
  one_each = from_place 0

module _ (n horizon seed : ℕ) where
  one_burst : (t : Members) (a b : Burst) → SaysBurst t a → SaysBurst t b → (i : ℕ)
      → of_burst n horizon seed i a ≡ of_burst n horizon seed i b
  unfolding of_burst
  one_burst t a b x y i =
      let links = x.links ∙ sym y.links in
      let its = one_episodes a.rhythm b.rhythm (x.rhythm.gap ∙ sym y.rhythm.gap) (x.rhythm.length ∙ sym y.rhythm.length) in
      λ k. flat_map (λ link. on_each (link ∷ [])
      (its (words_of seed (stream_number kind.Burst i (stream_of link.from link.to))) horizon k)) (links_of (links k) n)

  one_cut : (t : Members) (a b : Cut) → SaysCut t a → SaysCut t b → (i : ℕ) → of_cut n horizon seed i a ≡ of_cut n horizon seed i b
  unfolding of_cut
  one_cut t a b x y i =
      let one = x.one ∙ sym y.one in
      let other = x.other ∙ sym y.other in
      let its = one_episodes a.rhythm b.rhythm (x.rhythm.gap ∙ sym y.rhythm.gap) (x.rhythm.length ∙ sym y.rhythm.length) in
      λ k. on_each (links_between (one k) (other k) true n) (its (words_of seed (stream_number kind.Cut i 0)) horizon k)

  one_pause : (t : Members) (a b : Pause) → SaysPause t a → SaysPause t b → (i : ℕ)
      → of_pause n horizon seed i a ≡ of_pause n horizon seed i b
  unfolding of_pause
  one_pause t a b x y i =
      let who = x.processes ∙ sym y.processes in
      let its = one_episodes a.rhythm b.rhythm (x.rhythm.gap ∙ sym y.rhythm.gap) (x.rhythm.length ∙ sym y.rhythm.length) in
      λ k. flat_map (λ p. on_each (links_between (only p) All false n)
      (its (words_of seed (stream_number kind.Pause i (place_of p))) horizon k)) (filter (holds (who k)) (range_with_len 1 n))

  one_replayed : (a b : Replay) → a.lasts ≡ b.lasts → a.outages.items ≡ b.outages.items → (words : Words)
      → replayed a words horizon ≡ replayed b words horizon
  unfolding replayed
  one_replayed a b lasts outages words =
      ap (λ l. flat_map (λ m. replayed_in a.outages.items (m * l) (words 0 % l) horizon)
      (range_with_len 0 ((horizon + words 0 % l) / l + 1))) lasts
      ∙ ap (λ os. flat_map (λ m. replayed_in os (m * b.lasts) (words 0 % b.lasts) horizon)
      (range_with_len 0 ((horizon + words 0 % b.lasts) / b.lasts + 1))) outages

  one_replay : (t : Members) (a b : Replay) → SaysReplay t a → SaysReplay t b → (i : ℕ)
      → of_replay n horizon seed i a ≡ of_replay n horizon seed i b
  unfolding of_replay
  one_replay t a b x y i =
      let links = x.links ∙ sym y.links in
      let order = one_sorted _ a.outages.items b.outages.items x.outages y.outages x.in_order y.in_order in
      let its = one_replayed a b (x.lasts ∙ sym y.lasts) order in
      λ k. flat_map (λ link. on_each (link ∷ [])
      (its (words_of seed (stream_number kind.Replay i (stream_of link.from link.to))) k)) (links_of (links k) n)

  pub one_drawn : (t : Members) (a b : Network) → SaysNetwork t a → SaysNetwork t b
      → drawn_of n horizon seed a ≡ drawn_of n horizon seed b
  unfolding drawn_of
  one_drawn t a b x y =
      let bursts = one_each SaysBurst (of_burst n horizon seed) one_burst _ a.bursts.items b.bursts.items x.bursts y.bursts in
      let cuts = one_each SaysCut (of_cut n horizon seed) one_cut _ a.cuts.items b.cuts.items x.cuts y.cuts in
      let pauses = one_each SaysPause (of_pause n horizon seed) one_pause _ a.pauses.items b.pauses.items x.pauses y.pauses in
      let replays = one_each SaysReplay (of_replay n horizon seed) one_replay _ a.replays.items b.replays.items x.replays y.replays in
      λ k. bursts k ++ cuts k ++ pauses k ++ replays k

-- ---- links

same_link : (t : Members) (a b : LinkTable) → SaysLink t a → SaysLink t b → a ≡ b
same_link t a b x y = λ i. record { links = (x.links ∙ sym y.links) i; link = (x.link ∙ sym y.link) i }

pub one_links : (ts : List Members) (xs ys : List LinkTable) → AllZip SaysLink ts xs → AllZip SaysLink ts ys → xs ≡ ys
one_links [] [] [] x y = refl
one_links [] [] (b ∷ ys) x y = absurd y
one_links [] (a ∷ xs) ys x y = absurd x
one_links (t ∷ ts) [] ys x y = absurd x
one_links (t ∷ ts) (a ∷ xs) [] x y = absurd y
one_links (t ∷ ts) (a ∷ xs) (b ∷ ys) x y =
    ap (λ l. l ∷ xs) (same_link t a b x.0 y.0) ∙ ap (λ l. b ∷ l) (one_links ts xs ys x.1 y.1)
