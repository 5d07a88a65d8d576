-- The words that a generator gives next.
use Rattle.network.proofs.Basics.{◌≡◌, ℕ, ◌+◌, ◌<◌, ◌%◌, ◌^◌, ap, sym, ◌∙◌, add_assoc, add-zero, zero-add, mod-add-mod, mod-eq_of_lt, Words, after, words_of, to_come}
use Rattle.{rand_chacha.specs.ChaCha.{ChaCha, word_at}, streams.specs.Fate.{key_of_seed}}

-- the first of them stands at the generator's place
pub to_come-first : (g : ChaCha) → g.word_pos < 2 ^ 68 → word_at 4 g.key g.stream g.word_pos ≡ to_come g 0
unfolding to_come
to_come-first g low =
    let same : g.word_pos ≡ (g.word_pos + 0) % 2 ^ 68 =
    sym (ap (λ place. place % 2 ^ 68) (add-zero g.word_pos) ∙ mod-eq_of_lt low) in
    ap (λ place. word_at 4 g.key g.stream place) same

-- one word later
pub to_come-next : (g new : ChaCha) → new ≡ record g { word_pos = (g.word_pos + 1) % 2 ^ 68 } → to_come new ≡ after 1 (to_come g)
unfolding to_come after
to_come-next g new is =
    let place : (k : ℕ) → ((g.word_pos + 1) % 2 ^ 68 + k) % 2 ^ 68 ≡ (g.word_pos + (1 + k)) % 2 ^ 68 =
    λ k. mod-add-mod (g.word_pos + 1) (2 ^ 68) k ∙ ap (λ n. n % 2 ^ 68) (add_assoc g.word_pos 1 k) in
    let later : to_come (record g { word_pos = (g.word_pos + 1) % 2 ^ 68 }) ≡ after 1 (to_come g) =
    λ i k. word_at 4 g.key g.stream (place k i) in
    ap to_come is ∙ later

-- what comes after no words, and after some and then more
pub after-none : (words : Words) → words ≡ after 0 words
unfolding after
after-none words = λ i k. words (sym (zero-add k) i)

pub after-after : (m n : ℕ) (words : Words) → after m (after n words) ≡ after (n + m) words
unfolding after
after-after m n words = λ i k. words (sym (add_assoc n m k) i)

-- the next word after some
pub after-first : (n : ℕ) (words : Words) → after n words 0 ≡ words n
unfolding after
after-first n words = ap words (add-zero n)

-- all words of a stream, from the start of a generator of the seed
pub to_come-start : (seed stream : ℕ) (start g : ChaCha) → start.key ≡ key_of_seed seed → start.word_pos ≡ 0
    → g ≡ record start { stream = stream } → to_come g ≡ words_of seed stream
unfolding to_come words_of
to_come-start seed stream start g key place is =
    let counted_from : ℕ → Words = λ n k. word_at 4 (key_of_seed seed) stream ((n + k) % 2 ^ 68) in
    let keyed : to_come (record start { stream = stream }) ≡ counted_from 0 = λ i k. word_at 4 (key i) stream ((place i + k) % 2 ^ 68) in
    let counted : counted_from 0 ≡ words_of seed stream = λ i k. word_at 4 (key_of_seed seed) stream (zero-add k i % 2 ^ 68) in
    ap to_come is ∙ (keyed ∙ counted)
